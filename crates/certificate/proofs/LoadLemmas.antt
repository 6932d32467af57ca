-- Lemmas on loads and weights.
use native.Mathlib.Numerals.{unary_clauses}
use Rattle.std.proofs.Common.{◌≡◌, ℕ, ◌+◌, ◌<◌, ◌≤◌, true, false, cond, List, [], ◌∷◌, length, get_or, drop, zero, suc, sum, take, ◌*◌, ◌^◌, mul-le-mul, mul-le-mul_left, refl, subst, ap, ◌∙◌, arith}
use Rattle.std.proofs.lemmas.List.Sums.{sum_by-cons, sum_by_more}
use Rattle.numbers.specs.Sets.{has}
use Rattle.numbers.specs.Sums.{sum_below}
use Rattle.quorum_set.specs.Capacities.{AreCapacities}
use Rattle.certificate.specs.Loads.{weight_on}

pub weight_on-drop : (i : ℕ) (qs : List (List ℕ)) (ws : List ℕ) (j : ℕ) → j < length qs → j < length ws
    → weight_on i (drop j qs) (drop j ws) ≡ cond (has (get_or qs j []) i) (get_or ws j 0) 0 + weight_on i (drop (j + 1) qs) (drop (j + 1) ws)
weight_on-drop i [] ws j lq lw = absurd (omega arith)
weight_on-drop i (q ∷ qs) [] j lq lw = absurd (omega arith)
weight_on-drop i (q ∷ qs) (x ∷ ws) zero lq lw = refl
weight_on-drop i (q ∷ qs) (x ∷ ws) (suc j) lq lw = simp unary_clauses (simp unary_clauses at (weight_on-drop i qs ws j (omega arith) (omega arith)))

pub weight_on-le : (i : ℕ) (qs : List (List ℕ)) (ws : List ℕ) → weight_on i qs ws ≤ sum ws
weight_on-le i [] ws = omega arith
weight_on-le i (q ∷ qs) [] = omega arith
weight_on-le i (q ∷ qs) (x ∷ ws) =
    elim (has q i) as (λ b. cond b x 0 + weight_on i qs ws ≤ sum (x ∷ ws)) [
      | true ↦ omega (arith, weight_on-le i qs ws, sum_by-cons (λ y. y) x ws)
      | false ↦ omega (arith, weight_on-le i qs ws, sum_by-cons (λ y. y) x ws)
    ]

-- the loop's step, where the quorum at j has the voter and where not
pub weight_on-drop_member : (i : ℕ) (qs : List (List ℕ)) (ws : List ℕ) (j : ℕ) → j < length qs → j < length ws → has (get_or qs j []) i ≡ true
    → weight_on i (drop j qs) (drop j ws) ≡ get_or ws j 0 + weight_on i (drop (j + 1) qs) (drop (j + 1) ws)
weight_on-drop_member i qs ws j lq lw e = weight_on-drop i qs ws j lq lw ∙ ap (λ b. cond b (get_or ws j 0) 0 + weight_on i (drop (j + 1) qs) (drop (j + 1) ws)) e

pub weight_on-drop_other : (i : ℕ) (qs : List (List ℕ)) (ws : List ℕ) (j : ℕ) → j < length qs → j < length ws → has (get_or qs j []) i ≡ false
    → weight_on i (drop j qs) (drop j ws) ≡ 0 + weight_on i (drop (j + 1) qs) (drop (j + 1) ws)
weight_on-drop_other i qs ws j lq lw e = weight_on-drop i qs ws j lq lw ∙ ap (λ b. cond b (get_or ws j 0) 0 + weight_on i (drop (j + 1) qs) (drop (j + 1) ws)) e

-- the sum with one more weight, times its capacity
pub capacity_total-more : (weights capacities : List ℕ) (i total : ℕ) → i < length weights → AreCapacities capacities (length weights) → total ≤ 1000 * sum (take i weights)
    → total + get_or weights i 0 * get_or capacities i 0 ≤ 1000 * sum (take (i + 1) weights)
capacity_total-more weights capacities i total lt are small =
    let in_range : get_or capacities i 0 ≤ 1000 = (are.in_range i 0 (omega (arith, are.one_each))).1 in
    omega (arith, mul-le-mul_left (get_or weights i 0) in_range, sum_by_more (λ y. y) weights i 0 lt)

pub sum_below-more : (f : ℕ → ℕ) (n total : ℕ) → total ≡ sum_below f n → total + f n ≡ sum_below f (n + 1)
sum_below-more f n total e =
    let next : suc n ≡ n + 1 = omega arith in
    subst (λ (m : ℕ). total + f n ≡ sum_below f m) next (ap (λ x. x + f n) e)

-- what is compared to see whether weights are a certificate fits into 64 bits
pub balance_fits : (a b c : ℕ) → a ≤ 1000 → b ≤ 64000000 → c ≤ 1000000 → a * b * c < 2 ^ 64
balance_fits a b c small light short =
    let left : a * b ≤ 1000 * 64000000 = mul-le-mul small light in
    let all : a * b * c ≤ 1000 * 64000000 * 1000000 = mul-le-mul left short in
    omega arith
