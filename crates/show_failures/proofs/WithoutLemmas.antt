-- Lemmas on the test of what is borne.
use Rattle.std.proofs.Common.{◌≡◌, ℕ, ◌<◌, Bool, true, false, cond, not, ◌||◌, List, [], ◌∷◌, length, filter, sym, refl, ap, subst, ◌∙◌, arith}
use Rattle.std.proofs.lemmas.Bool.{not-true, true≢false}
use Rattle.std.proofs.lemmas.List.{get_or_default}
use Rattle.std.proofs.lemmas.List.Folds.{Any-from_list_any, list_any_at}
use Rattle.numbers.specs.Sets.{meet}
use Rattle.quorum_set.specs.Coteries.{IsCoterie, QuorumSystem, are_disjoint}
use Rattle.failures.specs.Failures.{Bears, MeetsEach, system_without}
use Rattle.coterie_file.specs.Named.{NamedSystem}
use Rattle.coterie_file.specs.Writing.{coterie_text}
use Rattle.show_failures.specs.Without.{is_borne, none_left_text, without_text}

pub Bears_by_test : (quorums : List (List ℕ)) (failed : List ℕ) → is_borne quorums failed ≡ true → Bears quorums failed
Bears_by_test quorums failed e =
    let found = Any-from_list_any (are_disjoint failed) quorums e in
    let at = get_or_default quorums found.0 [] found.1 found.2 ∙ found.3 in
    (found.0, found.2, ap (meet failed) at ∙ not-true (meet failed found.1) found.4)

pub borne_by_a_quorum : (quorums : List (List ℕ)) (failed : List ℕ) → Bears quorums failed → is_borne quorums failed ≡ true
borne_by_a_quorum quorums failed h = list_any_at (are_disjoint failed) quorums h.0 [] h.1 (ap not h.2)

pub not_borne_if_all_meet : (quorums : List (List ℕ)) (failed : List ℕ) → MeetsEach quorums failed → is_borne quorums failed ≡ false
not_borne_if_all_meet quorums failed h =
    elim (is_borne quorums failed) as (λ b. is_borne quorums failed ≡ b → b ≡ false) [
      | true ↦ λ e. let bears = Bears_by_test quorums failed e in absurd (true≢false (sym (h bears.0 bears.1) ∙ bears.2))
      | false ↦ λ e. refl
    ] refl

-- quorums are left only if the failure is borne
pub is_borne-left : (quorums : List (List ℕ)) (failed : List ℕ) → 0 < length (filter (are_disjoint failed) quorums) → is_borne quorums failed ≡ true
is_borne-left [] failed some = absurd (omega arith)
is_borne-left (q ∷ quorums) failed some =
    let one : (b : Bool) → 0 < length (cond b (q ∷ filter (are_disjoint failed) quorums) (filter (are_disjoint failed) quorums)) → (b || is_borne quorums failed) ≡ true =
    λ b. elim b as (λ a. 0 < length (cond a (q ∷ filter (are_disjoint failed) quorums) (filter (are_disjoint failed) quorums)) → (a || is_borne quorums failed) ≡ true) [
      | true ↦ λ h. refl
      | false ↦ λ h. is_borne-left quorums failed h
    ] in
    one (are_disjoint failed q) some

-- what is left is the text of a coterie
pub without_text-left : (named : NamedSystem) (failed : List ℕ) (left : QuorumSystem) → IsCoterie left → left ≡ system_without failed named.system
    → coterie_text (record named { system = left }) ≡ without_text named failed
without_text-left named failed left coterie is =
    let some : 0 < length (filter (are_disjoint failed) named.system.quorums) = subst (λ s. 0 < length s.quorums) is coterie.some_quorum in
    ap (λ s. coterie_text (record named { system = s })) is
    ∙ ap (λ b. cond b (coterie_text (record named { system = system_without failed named.system })) (none_left_text named.names failed))
    (sym (is_borne-left named.system.quorums failed some))

-- nothing is left
pub without_text-none : (named : NamedSystem) (failed : List ℕ) → MeetsEach named.system.quorums failed → none_left_text named.names failed ≡ without_text named failed
without_text-none named failed meets =
    ap (λ b. cond b (coterie_text (record named { system = system_without failed named.system })) (none_left_text named.names failed))
    (sym (not_borne_if_all_meet named.system.quorums failed meets))
