-- Which of the numbers that pass are kept.
use Rattle.std.proofs.Common.{◌≡◌, ℕ, ◌+◌, ◌<◌, ◌≤◌, Bool, true, false, cond, List, [], ◌∷◌, ◌++◌, length, filter, map, take, sym, ap, ap₂, ◌∙◌, arith}
use Rattle.std.specs.List.{range_with_len}
use Rattle.std.proofs.lemmas.List.{append-nil, length-append, length-take, take_all, take-append-le}
use Rattle.std.proofs.lemmas.List.FromFn.{filter_of_map_range_with_len_more}

-- a number that does not pass is left out
pub kept_out : (p : ℕ → Bool) (f : ℕ → ℕ) (most n : ℕ) (list : List ℕ) → list ≡ take most (filter p (map f (range_with_len 0 n))) → p (f n) ≡ false
    → list ≡ take most (filter p (map f (range_with_len 0 (n + 1))))
kept_out p f most n list is fails =
    let before = filter p (map f (range_with_len 0 n)) in
    is ∙ ap (take most) (sym (filter_of_map_range_with_len_more p f 0 n n (omega arith) ∙ ap (λ b. before ++ cond b (f n ∷ []) []) fails ∙ append-nil before))

-- so is each number once there are enough
pub kept_full : (p : ℕ → Bool) (f : ℕ → ℕ) (most n : ℕ) (list : List ℕ) → list ≡ take most (filter p (map f (range_with_len 0 n))) → most ≤ length list
    → list ≡ take most (filter p (map f (range_with_len 0 (n + 1))))
kept_full p f most n list is full =
    let before = filter p (map f (range_with_len 0 n)) in
    let long : most ≤ length before = omega (arith, full, ap length is, length-take most before) in
    is
    ∙ sym (take-append-le most before (cond (p (f n)) (f n ∷ []) []) long)
    ∙ ap (take most) (sym (filter_of_map_range_with_len_more p f 0 n n (omega arith)))

-- and else it comes last
pub kept_more : (p : ℕ → Bool) (f : ℕ → ℕ) (most n x : ℕ) (list pushed : List ℕ) → list ≡ take most (filter p (map f (range_with_len 0 n))) → length list < most
    → x ≡ f n → p (f n) ≡ true → pushed ≡ list ++ x ∷ []
    → pushed ≡ take most (filter p (map f (range_with_len 0 (n + 1))))
kept_more p f most n x list pushed is some at passes more =
    let before = filter p (map f (range_with_len 0 n)) in
    let short : length before < most = omega (arith, some, ap length is, length-take most before) in
    let all : list ≡ before = is ∙ take_all most before (omega (arith, short)) in
    let next = filter_of_map_range_with_len_more p f 0 n n (omega arith) ∙ ap (λ b. before ++ cond b (f n ∷ []) []) passes in
    let fits : length (before ++ f n ∷ []) ≤ most = omega (arith, short, length-append before (f n ∷ [])) in
    more
    ∙ ap₂ (λ (xs : List ℕ) (y : ℕ). xs ++ y ∷ []) all at
    ∙ sym (take_all most (before ++ f n ∷ []) fits)
    ∙ ap (take most) (sym next)
