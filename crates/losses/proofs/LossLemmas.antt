-- Lemmas on the weights that are left.
use Rattle.std.proofs.Common.{◌≡◌, ℕ, ◌+◌, ◌<◌, ◌≤◌, Bool, true, false, cond, List, [], ◌∷◌, length, get_or, take, drop, zero, suc, sum, sym, refl, ap, ◌∙◌, arith}
use Rattle.std.proofs.lemmas.List.Sums.{sum_by-cons, sum_by_more}
use Rattle.numbers.specs.Sets.{has}
use Rattle.certificate.specs.Loads.{weight_on}
use Rattle.certificate.proofs.LoadLemmas.{weight_on-drop, weight_on-le}
use Rattle.losses.specs.Losses.{each_left, is_left}

module _ (down : List ℕ) where
  -- the weight at one place
  pub get_or-each_left : (qs : List (List ℕ)) (ws : List ℕ) (j : ℕ) → j < length qs → j < length ws
      → get_or (each_left down qs ws) j 0 ≡ cond (is_left down (get_or qs j [])) (get_or ws j 0) 0
  get_or-each_left [] ws j lq lw = absurd (omega arith)
  get_or-each_left (q ∷ qs) [] j lq lw = absurd (omega arith)
  get_or-each_left (q ∷ qs) (a ∷ ws) zero lq lw = refl
  get_or-each_left (q ∷ qs) (a ∷ ws) (suc j) lq lw = get_or-each_left qs ws j (omega arith) (omega arith)

  pub length-each_left : (qs : List (List ℕ)) (ws : List ℕ) → length ws ≡ length qs → length (each_left down qs ws) ≡ length qs
  length-each_left [] ws long = refl
  length-each_left (q ∷ qs) [] long = absurd (omega arith)
  length-each_left (q ∷ qs) (a ∷ ws) long = omega (arith, length-each_left qs ws (omega arith))

  -- no more is left than there was
  pub each_left-le : (qs : List (List ℕ)) (ws : List ℕ) → sum (each_left down qs ws) ≤ sum ws
  each_left-le [] ws = omega arith
  each_left-le (q ∷ qs) [] = omega arith
  each_left-le (q ∷ qs) (a ∷ ws) =
      elim (is_left down q) as (λ (b : Bool). sum (cond b a 0 ∷ each_left down qs ws) ≤ sum (a ∷ ws)) [
        | true ↦ omega (arith, each_left-le qs ws, sum_by-cons (λ y. y) a ws, sum_by-cons (λ y. y) a (each_left down qs ws))
        | false ↦ omega (arith, each_left-le qs ws, sum_by-cons (λ y. y) a ws, sum_by-cons (λ y. y) 0 (each_left down qs ws))
      ]

  module _ (qs : List (List ℕ)) (ws : List ℕ) (j : ℕ) (lq : j < length qs) (long : length ws ≡ length qs) where
    abbrev kept : List ℕ
    kept = each_left down qs ws

    -- the sum with one more quorum
    pub sum-take_more_left : (x : ℕ) → x ≡ cond (is_left down (get_or qs j [])) (get_or ws j 0) 0
        → sum (take (j + 1) kept) ≡ sum (take j kept) + x
    sum-take_more_left x is =
        let at = get_or-each_left qs ws j lq (omega arith) in
        omega (arith, sum_by_more (λ y. y) kept j 0 (omega (arith, length-each_left qs ws long)), at, is)

    -- the weight on a voter's quorums from the place j on
    pub weight_on-drop_left : (i : ℕ) (member : Bool) (x : ℕ) → has (get_or qs j []) i ≡ member → x ≡ cond (is_left down (get_or qs j [])) (get_or ws j 0) 0
        → weight_on i (drop j qs) (drop j kept) ≡ cond member x 0 + weight_on i (drop (j + 1) qs) (drop (j + 1) kept)
    weight_on-drop_left i member x on is =
        let rest = weight_on i (drop (j + 1) qs) (drop (j + 1) kept) in
        let at = get_or-each_left qs ws j lq (omega arith) ∙ sym is in
        weight_on-drop i qs kept j lq (omega (arith, length-each_left qs ws long))
        ∙ ap (λ b. cond b (get_or kept j 0) 0 + rest) on
        ∙ ap (λ y. cond member y 0 + rest) at

-- no more than m is left on a voter's quorums
pub weight_on-each_left : (i : ℕ) (down : List ℕ) (qs : List (List ℕ)) (ws : List ℕ) (m : ℕ) → sum ws ≤ m → weight_on i qs (each_left down qs ws) ≤ m
weight_on-each_left i down qs ws m small = omega (arith, weight_on-le i qs (each_left down qs ws), each_left-le down qs ws)

-- one weight of what is left
pub left-le : (down q : List ℕ) (x a : ℕ) → x ≡ cond (is_left down q) a 0 → x ≤ a
left-le down q x a is = elim (is_left down q) as (λ (b : Bool). x ≡ cond b a 0 → x ≤ a) [
  | true ↦ λ e. omega (arith, e)
  | false ↦ λ e. omega (arith, e)
] is
