-- Sums over the quorums: each quorum's value, times its weight.
use Rattle.std.proofs.Common.{◌≡◌, ℕ, ◌+◌, ◌*◌, ◌<◌, ◌≤◌, Bool, true, false, cond, List, [], ◌∷◌, length, get_or, suc, sum, sum_by, refl, ap, arith}
use Rattle.std.proofs.lemmas.List.Sums.{sum_by-cons}
use Rattle.std.proofs.Math.Nat.{mul-le-mul_left}
use Rattle.numbers.specs.Sets.{has, Ascends}
use Rattle.numbers.specs.Sums.{sum_below}
use Rattle.numbers.proofs.SumsBelow.{sum_below-add, sum_below-members, sum_below-same, sum_below-times, sum_below-zero}
use Rattle.certificate.specs.Loads.{weight_on}
use Rattle.losses.specs.Losses.{each_left, is_left}

-- the sum of f at the quorums, each times the quorum's weight
abbrev pub total : (List ℕ → ℕ) → List (List ℕ) → List ℕ → ℕ
total f [] ws = 0
total f (q ∷ qs) [] = 0
total f (q ∷ qs) (a ∷ ws) = a * f q + total f qs ws

pub total-same : (f g : List ℕ → ℕ) (qs : List (List ℕ)) (ws : List ℕ) → ((q : List ℕ) → f q ≡ g q) → total f qs ws ≡ total g qs ws
total-same f g [] ws same = refl
total-same f g (q ∷ qs) [] same = refl
total-same f g (q ∷ qs) (a ∷ ws) same = omega (arith, ap (λ x. a * x) (same q), total-same f g qs ws same)

pub total-zero : (qs : List (List ℕ)) (ws : List ℕ) → total (λ q. 0) qs ws ≡ 0
total-zero [] ws = refl
total-zero (q ∷ qs) [] = refl
total-zero (q ∷ qs) (a ∷ ws) = omega (arith, total-zero qs ws)

pub total-add : (f g : List ℕ → ℕ) (qs : List (List ℕ)) (ws : List ℕ) → total (λ q. f q + g q) qs ws ≡ total f qs ws + total g qs ws
total-add f g [] ws = refl
total-add f g (q ∷ qs) [] = refl
total-add f g (q ∷ qs) (a ∷ ws) = omega (arith, total-add f g qs ws)

-- a sum of several functions
pub total-sum_by : {A : Type 0} (f : A → List ℕ → ℕ) (xs : List A) (qs : List (List ℕ)) (ws : List ℕ)
    → total (λ q. sum_by (λ x. f x q) xs) qs ws ≡ sum_by (λ x. total (f x) qs ws) xs
total-sum_by f [] qs ws = total-zero qs ws
total-sum_by f (x ∷ xs) qs ws =
    let split = total-same (λ q. sum_by (λ y. f y q) (x ∷ xs)) (λ q. f x q + sum_by (λ y. f y q) xs) qs ws (λ q. sum_by-cons (λ y. f y q) x xs) in
    let added = total-add (f x) (λ q. sum_by (λ y. f y q) xs) qs ws in
    omega (arith, split, added, total-sum_by f xs qs ws, sum_by-cons (λ y. total (f y) qs ws) x xs)

-- an inequality at each quorum
pub total-le : (a b c : ℕ) (f g : List ℕ → ℕ) (qs : List (List ℕ)) (ws : List ℕ) → length ws ≡ length qs
    → ((j : ℕ) → j < length qs → a * f (get_or qs j []) + b ≤ c * g (get_or qs j []))
    → a * total f qs ws + b * sum ws ≤ c * total g qs ws
total-le a b c f g [] [] long each = omega arith
total-le a b c f g [] (x ∷ ws) long each = absurd (omega arith)
total-le a b c f g (q ∷ qs) [] long each = absurd (omega arith)
total-le a b c f g (q ∷ qs) (x ∷ ws) long each =
    let first : x * (a * f q + b) ≤ x * (c * g q) = mul-le-mul_left x (each 0 (omega arith)) in
    let rest = total-le a b c f g qs ws (omega arith) (λ j lt. each (suc j) (omega arith)) in
    let more : b * sum (x ∷ ws) ≡ b * (x + sum ws) = ap (λ y. b * y) (sum_by-cons (λ y. y) x ws) in
    omega (arith, first, rest, more)

-- What is left

keep_step : (b : Bool) (a x : ℕ) → cond b a 0 * x ≡ a * cond b x 0
keep_step true a x = refl
keep_step false a x = omega arith

pub total-each_left : (down : List ℕ) (f : List ℕ → ℕ) (qs : List (List ℕ)) (ws : List ℕ)
    → total f qs (each_left down qs ws) ≡ total (λ q. cond (is_left down q) (f q) 0) qs ws
total-each_left down f [] ws = refl
total-each_left down f (q ∷ qs) [] = refl
total-each_left down f (q ∷ qs) (a ∷ ws) = omega (arith, keep_step (is_left down q) a (f q), total-each_left down f qs ws)

pub total-level : (k : ℕ) (qs : List (List ℕ)) (ws : List ℕ) → length ws ≡ length qs → total (λ q. k) qs ws ≡ k * sum ws
total-level k [] [] long = omega arith
total-level k [] (a ∷ ws) long = absurd (omega arith)
total-level k (q ∷ qs) [] long = absurd (omega arith)
total-level k (q ∷ qs) (a ∷ ws) long =
    let more : k * sum (a ∷ ws) ≡ k * (a + sum ws) = ap (λ y. k * y) (sum_by-cons (λ y. y) a ws) in
    omega (arith, total-level k qs ws (omega arith), more)

-- Voters and quorums

weight_step : (h : Bool) (b x less : ℕ) → b * (cond h x 0 + less) ≡ x * cond h b 0 + b * less
weight_step true b x less = omega arith
weight_step false b x less = omega arith

-- the voters' counts, each times the voter's weight, are the quorums' weights, each times those of its members
pub weighed-total : (n : ℕ) (weight : ℕ → ℕ) (qs : List (List ℕ)) (ws : List ℕ) → ((j : ℕ) → j < length qs → Ascends 0 n (get_or qs j []))
    → sum_below (λ i. weight i * weight_on i qs ws) n ≡ total (λ q. sum_by weight q) qs ws
weighed-total n weight [] ws up = nothing
  where
    nothing : sum_below (λ i. weight i * 0) n ≡ 0
    nothing = omega (arith, sum_below-same n (λ i. weight i * 0) (λ i. 0) (λ i lt. omega arith), sum_below-zero n)
weighed-total n weight (q ∷ qs) [] up = nothing
  where
    nothing : sum_below (λ i. weight i * 0) n ≡ 0
    nothing = omega (arith, sum_below-same n (λ i. weight i * 0) (λ i. 0) (λ i lt. omega arith), sum_below-zero n)
weighed-total n weight (q ∷ qs) (x ∷ ws) up =
    let split = sum_below-same n (λ i. weight i * weight_on i (q ∷ qs) (x ∷ ws)) (λ i. x * cond (has q i) (weight i) 0 + weight i * weight_on i qs ws)
    (λ i lt. weight_step (has q i) (weight i) x (weight_on i qs ws)) in
    let added = sum_below-add n (λ i. x * cond (has q i) (weight i) 0) (λ i. weight i * weight_on i qs ws) in
    let first = sum_below-times n x (λ i. cond (has q i) (weight i) 0) in
    let members : x * sum_below (λ i. cond (has q i) (weight i) 0) n ≡ x * sum_by weight q =
    ap (λ t. x * t) (sum_below-members 0 n weight q (up 0 (omega arith))) in
    omega (arith, split, added, first, members, weighed-total n weight qs ws (λ j lt. up (suc j) (omega arith)))
