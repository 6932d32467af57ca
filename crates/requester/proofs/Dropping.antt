-- Dropping the held votes, one member at a time.
use Rattle.std.proofs.Common.{◌≡◌, ℕ, ◌≤◌, Bool, false, true, refl, List, length, drop, replicate, sym, ◌∙◌}
use Rattle.std.specs.Prelude.{slice_index}
use Rattle.std.proofs.lemmas.Grind.{same_number_lists}
use Rattle.std.proofs.lemmas.List.{at_drop_all}
use Rattle.numbers.proofs.Lists.{slice_index-replicate_zero}
use Rattle.numbers.specs.Sets.{has}
use Rattle.requester.specs.declared.state.ClientState.{ClientState}
use Rattle.requester.specs.Words.{holds, is_idle, is_member}
use Rattle.requester.specs.Soundness.{HoldsOfMembers, IsSound}
use Rattle.requester.proofs.Members.{absurd-true_false}
use Rattle.requester.proofs.VoteLemmas.{HoldsNothing-idle, held_of-not_held}

-- of the 64 votes none is held but those of the voters that are left
pub record HeldOfRest (rest held : List ℕ) : Type 0 where
  pub wide : length held ≡ 64
  pub none : (v : ℕ) → has rest v ≡ false → slice_index held v ≡ 0

-- a list of 64 numbers that are 0
is_zeros : (held : List ℕ) → length held ≡ 64 → ((v : ℕ) → slice_index held v ≡ 0) → held ≡ replicate 64 0
is_zeros held wide none = same_number_lists held (replicate 64 0) wide (λ k lt. none k ∙ sym (slice_index-replicate_zero 64 k))

pub held-dropped : (voters held : List ℕ) (n : ℕ) → length voters ≤ n → HeldOfRest (drop n voters) held → held ≡ replicate 64 0
held-dropped voters held n past d = is_zeros held d.wide (λ v. d.none v (at_drop_all (λ vs. has vs v) voters n past))

pub held-idle : (x : ClientState) → IsSound x → is_idle x.phase ≡ true → x.held ≡ replicate 64 0
held-idle x s idle = is_zeros x.held s.places.held (HoldsNothing-idle x s idle)

holds-outside : (b : Bool) (x : ClientState) (v : ℕ) → IsSound x → is_member x v ≡ false → holds x v ≡ b → b ≡ false
holds-outside false x v s out e = refl
holds-outside true x v s out e = absurd-true_false (is_member x v) (s.held v e).member out

pub HoldsOfMembers-sound : (x : ClientState) → IsSound x → HoldsOfMembers x
HoldsOfMembers-sound x s v out = held_of-not_held (holds x v) x v refl (holds-outside (holds x v) x v s out refl)
