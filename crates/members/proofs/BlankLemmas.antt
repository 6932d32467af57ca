-- Fresh members, and quotas of members.
use Rattle.std.proofs.Common.{◌≡◌, ℕ, ◌+◌, ◌-◌, ◌*◌, ◌<◌, ◌≤◌, true, Option, None, Some, List, map, refl, sym, ap, ◌∙◌, subst, arith}
use Rattle.std.specs.List.{range_with_len}
use Rattle.std.proofs.lemmas.List.Elements.{All-map}
use Rattle.std.proofs.Math.Nat.{zero-mul}
use native.Mathlib.Nat.{add-mul}
use Rattle.requester.specs.Words.{is_idle}
use Rattle.std.specs.Prelude.{IfSome, option_map}
use Rattle.quorum_set.specs.Bridges.{IsBridge}
use Rattle.certificate.specs.Certificates.{IsCertificate, Weighted}
use Rattle.dealer.specs.Offices.{OfficeName, OfficeState}
use Rattle.dealer.specs.Plans.{ArePlans, PlanPair, coteries_of}
use Rattle.members.specs.Clusters.{ClusterState}
use Rattle.members.specs.Members.{AreIdle, MemberState, fresh_member}

-- the quotas that are left, and those after one more
quotas_left : (n i q : ℕ) → i < n → (n - i) * q ≡ (n - (i + 1)) * q + 1 * q
quotas_left n i q less =
    let more : n - i ≡ n - (i + 1) + 1 = omega (arith, less) in
    ap (λ (k : ℕ). k * q) more ∙ add-mul (n - (i + 1)) 1 q

-- one quota less
pub mul-less_one : (n i q : ℕ) → i < n → (n - i) * q - q ≡ (n - (i + 1)) * q
mul-less_one n i q less = omega (arith, quotas_left n i q less)

-- one quota is among those that are left
pub le-quotas_left : (n i q : ℕ) → i < n → q ≤ (n - i) * q
le-quotas_left n i q less = omega (arith, quotas_left n i q less)

-- no quota is left
pub mul-none_left : (n i q : ℕ) → n ≤ i → (n - i) * q ≡ 0
mul-none_left n i q all =
    let none : n - i ≡ 0 = omega (arith, all) in
    ap (λ (k : ℕ). k * q) none ∙ zero-mul q

-- The offices of one or two plans

pub cycles_of-names : (offices : Option OfficeState) → option_map (λ (o : OfficeName). o.cycle)
    (option_map (λ (o : OfficeState). o.name) offices) ≡ option_map (λ (o : OfficeState). o.name.cycle) offices
cycles_of-names None = refl
cycles_of-names (Some office) = refl

-- both plans have the same voters
pub same_voters : (plans : PlanPair) → ArePlans plans → (second : Option OfficeName) → option_map (λ o. o.cycle) second ≡ plans.second → (voters : ℕ) → voters ≡ plans.first.system.voters
    → IfSome second (λ o. voters ≡ o.cycle.system.voters)
same_voters plans are None e voters is = tt
same_voters plans are (Some o) e voters is =
    let both = subst (λ (s : Option Weighted). IfSome s (λ v. IsCertificate v × IsBridge (coteries_of plans.first v))) (sym e) are.second in
    is ∙ both.1.same_voters

-- fresh members are idle
pub AreIdle-fresh : (c : ClusterState) (n : ℕ) (members : List MemberState) → members ≡ map (fresh_member c) (range_with_len 0 n) → AreIdle members
AreIdle-fresh c n members e = subst AreIdle (sym e) (All-map (λ m. is_idle m.requester.phase ≡ true) (fresh_member c) (range_with_len 0 n) (λ k d below. refl))
