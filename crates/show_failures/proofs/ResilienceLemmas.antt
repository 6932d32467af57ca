-- How many voters may fail, by a smallest set that meets each quorum.
use Rattle.std.proofs.Common.{◌≡◌, ℕ, ◌-◌, ◌<◌, ◌≤◌, true, false, List, [], ◌∷◌, length, get_or, refl, sym, ◌∙◌, arith}
use Rattle.std.proofs.lemmas.Bool.{true≢false}
use Rattle.numbers.specs.Sets.{IsSet, meet}
use Rattle.quorum_set.specs.Coteries.{IsCoterie, QuorumSystem}
use Rattle.failures.specs.Failures.{Bears, IsSmallest, IsTransversal, MeetsEach}
use Rattle.show_failures.specs.Without.{is_borne}
use Rattle.show_failures.proofs.WithoutLemmas.{Bears_by_test, borne_by_a_quorum}

-- voters whose failure is not borne meet each quorum
meets_each : (quorums : List (List ℕ)) (failed : List ℕ) → is_borne quorums failed ≡ false → MeetsEach quorums failed
meets_each quorums failed e j lt =
    elim (meet failed (get_or quorums j [])) as (λ b. meet failed (get_or quorums j []) ≡ b → b ≡ true) [
      | true ↦ λ h. refl
      | false ↦ λ h. absurd (true≢false (sym (borne_by_a_quorum quorums failed (j, lt, h)) ∙ e))
    ] refl

-- a set that meets something has a member
has_some : (set q : List ℕ) → meet set q ≡ true → 0 < length set
has_some [] q e = absurd (true≢false (sym e))
has_some (x ∷ xs) q e = omega arith

-- fewer voters than those of a smallest set that meets each quorum may fail
pub few_are_borne : (s : QuorumSystem) (set failed : List ℕ) → IsCoterie s → IsTransversal s set → IsSmallest s.quorums set → IsSet failed → length failed ≤ length set - 1
    → Bears s.quorums failed
few_are_borne s set failed coterie transversal smallest is_set few =
    elim (is_borne s.quorums failed) as (λ b. is_borne s.quorums failed ≡ b → Bears s.quorums failed) [
      | true ↦ λ e. Bears_by_test s.quorums failed e
      | false ↦ λ e.
          let least = smallest failed is_set (meets_each s.quorums failed e) in
          let some = has_some set (get_or s.quorums 0 []) (transversal.meets 0 coterie.some_quorum) in
          absurd (omega (arith, few, least, some))
    ] refl
