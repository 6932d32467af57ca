-- what the example asks for
use Rattle.std.proofs.Common.{◌≡◌, ℕ, suc, zero, [], ◌∷◌, sym, ◌∙◌, Some, arith}
use Rattle.std.specs.List.{slice_get}
use Rattle.std.proofs.lemmas.Option.{none-some, same_Some}
use Rattle.numbers.specs.Sets.{IsSet}
use Rattle.vote_leases.specs.declared.lease.VoterLease.{VoterLease}
use Rattle.vote_leases.specs.Leases.{begun_lease}
use Rattle.client_node.specs.Example.{lease, lease_of_eight, leases, leases_of_eight}

-- the leases that are passed are kept
pub own_leases : (kept : ℕ → VoterLease) → kept 0 ≡ lease → kept 1 ≡ lease → (voter : ℕ) (l : VoterLease) → slice_get leases voter ≡ Some l → l ≡ kept voter
own_leases kept first second zero l is = sym (same_Some lease l is) ∙ sym first
own_leases kept first second (suc zero) l is = sym (same_Some lease l is) ∙ sym second
own_leases kept first second (suc (suc voter)) l is = absurd (none-some l is)

pub two_are_set : IsSet (0 ∷ 1 ∷ [])
two_are_set = ((omega arith), (omega arith), ((omega arith), (omega arith), tt))

pub own_of_eight : (kept : ℕ → VoterLease) → kept 0 ≡ begun_lease → kept 1 ≡ lease_of_eight → kept 2 ≡ lease_of_eight → (voter : ℕ) (l : VoterLease) → slice_get leases_of_eight voter ≡ Some l → l ≡ kept voter
own_of_eight kept first second third zero l is = sym (same_Some begun_lease l is) ∙ sym first
own_of_eight kept first second third (suc zero) l is = sym (same_Some lease_of_eight l is) ∙ sym second
own_of_eight kept first second third (suc (suc zero)) l is = sym (same_Some lease_of_eight l is) ∙ sym third
own_of_eight kept first second third (suc (suc (suc voter))) l is = absurd (none-some l is)

pub others_are_set : IsSet (1 ∷ 2 ∷ [])
others_are_set = ((omega arith), (omega arith), ((omega arith), (omega arith), tt))
