-- The quorums of a wheel are a coterie.
use Rattle.std.proofs.Common.{◌≡◌, ℕ, ◌+◌, ◌<◌, ◌≤◌, true, false, ◌||◌, ◌&&◌, eqb, leb, [], ◌∷◌, length, map, sym, refl, ◌∙◌, inl, inr, arith}
use Rattle.std.specs.List.{All, range_with_len}
use Rattle.std.proofs.lemmas.Bool.{eqb-true, eq-eqb, ne_eqb, le-leb, leb-true, and_from, and_parts, or_cases, or_from, or_right, cases_eq}
use Rattle.std.proofs.Common.{length-append}
use Rattle.std.proofs.lemmas.List.Elements.{All-push}
use Rattle.std.proofs.lemmas.List.FromFn.{length-map-range_with_len}
use Rattle.numbers.specs.Sets.{has}
use Rattle.quorum_set.specs.Coteries.{IsCoterie}
use Rattle.numbers.proofs.SetLemmas.{has-set_where}
use Rattle.construct.specs.Wheel.{spoke, rim, wheel_quorums, wheel_system}
use Rattle.construct.proofs.SetLemmas.{has-failed}
use Rattle.construct.proofs.Quorums.{IsQuorum, IsCrossing, IsCoterie-from, IsCrossing-from, IsQuorum-where, All-range, AllPairs-range, AllPairs-append}
use Rattle.std.proofs.lemmas.List.Elements.{All-cons, All-nil}

has-hub : (i : ℕ) → has (spoke i) 0 ≡ true
has-hub i = has-set_where (λ v. eqb v 0 || eqb v i) 0 (omega arith)

has-tip : (i : ℕ) → i < 64 → has (spoke i) i ≡ true
has-tip i lt = has-set_where (λ v. eqb v 0 || eqb v i) i lt ∙ or_right (eqb i 0) (eqb i i) (eq-eqb i i refl)

has-spoke_off : (i v : ℕ) → (v ≡ 0 → ⊥) → (v ≡ i → ⊥) → has (spoke i) v ≡ false
has-spoke_off i v hub tip = has-failed (λ v. eqb v 0 || eqb v i) v (or_from (eqb v 0) (eqb v i) (ne_eqb v 0 hub) (ne_eqb v i tip))

has-rim : (k v : ℕ) → k ≤ 63 → 1 ≤ v → v ≤ k → has (rim k) v ≡ true
has-rim k v few from to = has-set_where (λ v. leb 1 v && leb v k) v (omega arith) ∙ and_from (leb 1 v) (leb v k) (le-leb 1 v from) (le-leb v k to)

has-rim_hub : (k : ℕ) → has (rim k) 0 ≡ false
has-rim_hub k = has-failed (λ v. leb 1 v && leb v k) 0 refl

spokes_cross : (i l : ℕ) → 1 ≤ i → i < l → l < 64 → IsCrossing (spoke i) (spoke l)
spokes_cross i l from before lt =
    IsCrossing-from (spoke i) (spoke l) 0 i l (has-hub i) (has-hub l) (has-tip i (omega arith))
    (has-spoke_off l i (λ e. omega arith) (λ e. omega arith)) (has-tip l lt) (has-spoke_off i l (λ e. omega arith) (λ e. omega arith))

-- a voter of the rim that is not on the spoke
off_spoke : (k i : ℕ) → 2 ≤ k → k ≤ 63 → (v : ℕ) × (has (rim k) v ≡ true) × (has (spoke i) v ≡ false)
off_spoke k i two few =
    elim (cases_eq i 1) [
      | inl at ↦ (2, has-rim k 2 few (omega arith) two, has-spoke_off i 2 (λ e. omega arith) (λ e. omega arith))
      | inr off ↦ (1, has-rim k 1 few (omega arith) (omega arith), has-spoke_off i 1 (λ e. omega arith) (λ e. off (sym e)))
    ]

spoke_meets_rim : (k i : ℕ) → 2 ≤ k → k ≤ 63 → 1 ≤ i → i ≤ k → IsCrossing (spoke i) (rim k)
spoke_meets_rim k i two few from to =
    let (v, v_in, v_out) = off_spoke k i two few in
    IsCrossing-from (spoke i) (rim k) i 0 v (has-tip i (omega arith)) (has-rim k i few from to) (has-hub i) (has-rim_hub k) v_in v_out

on_spoke : (k i v : ℕ) → i ≤ k → (eqb v 0 || eqb v i) ≡ true → v < k + 1
on_spoke k i v to passes =
    elim (or_cases (eqb v 0) (eqb v i) passes) [
      | inl hub ↦ let at = eqb-true v 0 hub in omega arith
      | inr tip ↦ let at = eqb-true v i tip in omega arith
    ]

pub length-wheel_quorums : (k : ℕ) → length (wheel_quorums k) ≡ k + 1
unfolding wheel_quorums
length-wheel_quorums k = omega (arith, length-append (map spoke (range_with_len 1 k)) (rim k ∷ []), length-map-range_with_len spoke 1 k)

pub wheel_is_coterie : (k : ℕ) → 2 ≤ k → k ≤ 63 → IsCoterie (wheel_system k)
unfolding wheel_quorums
wheel_is_coterie k two few =
    let long = length-wheel_quorums k in
    let spokes = map spoke (range_with_len 1 k) in
    IsCoterie-from (k + 1) (wheel_quorums k) (omega arith) (omega arith) (omega (arith, long)) (omega (arith, long))
    (All-push (IsQuorum (k + 1)) spokes (rim k)
    (All-range (IsQuorum (k + 1)) spoke 1 k (λ i from lt.
    IsQuorum-where (k + 1) (λ v. eqb v 0 || eqb v i) 0 (omega arith) refl (λ v small passes. on_spoke k i v (omega arith) passes)))
    (IsQuorum-where (k + 1) (λ v. leb 1 v && leb v k) 1 (omega arith) (le-leb 1 k (omega arith)) (λ v small passes.
    let to = leb-true v k (and_parts (leb 1 v) (leb v k) passes).1 in omega arith)))
    (AllPairs-append IsCrossing spokes (rim k ∷ [])
    (AllPairs-range IsCrossing spoke 1 k (λ i l from before lt. spokes_cross i l from before (omega arith)))
    (λ i j d before lt. absurd (omega arith))
    (All-range (λ q. All (IsCrossing q) (rim k ∷ [])) spoke 1 k (λ i from lt.
    All-cons (IsCrossing (spoke i)) (rim k) [] (spoke_meets_rim k i two few from (omega arith)) (All-nil (IsCrossing (spoke i))))))
