-- The choices of an iterator over combinations are the sets of one size, in lexicographic order.
use Rattle.std.proofs.Common.{◌≡◌, ◌⊎◌, ℕ, ◌+◌, ◌-◌, ◌<◌, ◌≤◌, List, [], ◌∷◌, ◌++◌, length, get_or, map, flat_map, zero, suc, sym, refl, ap, ap₂, subst, ◌∙◌, inl, inr, arith}
use Rattle.std.proofs.Common.{length-append, Option, Result, Ok, Err, IfOk}
use Rattle.std.specs.Iterator.{DrainsIf}
use Rattle.std.specs.Iterator.Runs.{WholeRun, YieldsRun}
use Rattle.std.proofs.lemmas.Iterator.{YieldsList, items_from_drains}
use Rattle.std.specs.List.{All, range_with_len}
use Rattle.std.proofs.lemmas.Bool.{cases_lt}
use Rattle.std.proofs.lemmas.List.{map-append}
use Rattle.std.proofs.lemmas.List.Elements.{All-head, All-tail}
use Rattle.std.proofs.lemmas.List.FromFn.{get_or-range_with_len}
use Rattle.itertools.specs.Odometer.{numbers, ways}
use Rattle.itertools.specs.Pool.{ascending_low, ascending_high, ClonesAt}
use Rattle.numbers.specs.Sets.{has, IsSet, set_where}
use Rattle.numbers.proofs.SetLemmas.{is_set_where}
use Rattle.construct.specs.Answers.{few}
use Rattle.construct.specs.Majority.{sets_from}
use Rattle.construct.specs.declared.fault.ConstructFault.{ConstructFault}
use Rattle.construct.proofs.FewLemmas.{few-longer, sets_from-none}

last-push : (p : List ℕ) (a : ℕ) → get_or (p ++ a ∷ []) (length p) 0 ≡ a
last-push [] a = refl
last-push (x ∷ xs) a = last-push xs a

low-push : (p : List ℕ) (a : ℕ) → ascending_low (p ++ a ∷ []) ≡ a + 1
low-push [] a = refl
low-push (x ∷ xs) a =
    let long : length (x ∷ (xs ++ a ∷ [])) - 1 ≡ length (x ∷ xs) = omega (arith, length-append xs (a ∷ [])) in
    ap (λ n. n + 1) (ap (λ n. get_or (x ∷ (xs ++ a ∷ [])) n 0) long ∙ last-push (x ∷ xs) a)

-- the rows of choices that begin with one of the c numbers from a on, where r numbers are left
rows_are_sets : (c m n k a r : ℕ) (p : List ℕ)
    → ((d s : ℕ) → d + suc s ≡ n → ways ascending_low (ascending_high n k) m (p ++ d ∷ []) ≡ sets_from (d + 1) s m)
    → a + r ≡ n → (r ≡ c + m) ⊎ ((c ≡ 0) × (r ≤ m))
    → flat_map (λ d. map (λ ds. d ∷ ds) (ways ascending_low (ascending_high n k) m (p ++ d ∷ []))) (numbers a c) ≡ sets_from a r (suc m)
unfolding sets_from
rows_are_sets zero m n k a r p rows left room = sym (sets_from-none a r (suc m) (elim room [ inl e ↦ omega arith | inr e ↦ omega (arith, e.1) ]))
rows_are_sets (suc c) m n k a zero p rows left room = absurd (elim room [ inl e ↦ omega arith | inr e ↦ omega (arith, e.0) ])
rows_are_sets (suc c) m n k a (suc r) p rows left room =
    let more : r ≡ c + m = elim room [ inl e ↦ omega arith | inr e ↦ absurd (omega (arith, e.0)) ] in
    ap₂ (λ xs ys. map (λ ds. a ∷ ds) xs ++ ys) (rows a r left) (rows_are_sets c m n k (a + 1) r p rows (omega arith) (inl more))

-- the ways to go on from p are the sets of m of the r numbers that are left
pub ways-sets_from : (m n k r : ℕ) (p : List ℕ) → ascending_low p + r ≡ n → length p + m ≡ k → ways ascending_low (ascending_high n k) m p ≡ sets_from (ascending_low p) r m
unfolding sets_from
ways-sets_from zero n k r p left long = refl
ways-sets_from (suc m) n k r p left long =
    let a = ascending_low p in
    let c = ascending_high n k p - a in
    let room : (r ≡ c + m) ⊎ ((c ≡ 0) × (r ≤ m)) = elim (cases_lt r m) [
      | inl few ↦ inr (omega arith, omega arith)
      | inr many ↦ inl (omega arith)
    ] in
    rows_are_sets c m n k a r p (λ d s e.
    ways-sets_from m n k s (p ++ d ∷ []) (omega (arith, low-push p d)) (omega (arith, length-append p (d ∷ [])))
    ∙ ap (λ x. sets_from x s m) (low-push p d)) left room

-- the numbers at these places, counted from low on
abbrev pub moved : ℕ → List ℕ → List ℕ
moved low places = map (λ i. low + i) places

map-moved : (low a : ℕ) (sets : List (List ℕ)) → map (moved low) (map (λ s. a ∷ s) sets) ≡ map (λ s. (low + a) ∷ s) (map (moved low) sets)
map-moved low a [] = refl
map-moved low a (s ∷ sets) = ap (λ rest. ((low + a) ∷ moved low s) ∷ rest) (map-moved low a sets)

sets_from-moved : (low a n k : ℕ) → map (moved low) (sets_from a n k) ≡ sets_from (low + a) n k
unfolding sets_from
sets_from-moved low a n zero = refl
sets_from-moved low a zero (suc k) = refl
sets_from-moved low a (suc n) (suc k) =
    let next : low + (a + 1) ≡ low + a + 1 = omega arith in
    map-append (moved low) (map (λ s. a ∷ s) (sets_from (a + 1) n k)) (sets_from (a + 1) n (suc k))
    ∙ ap₂ (λ xs ys. xs ++ ys)
    (map-moved low a (sets_from (a + 1) n k) ∙ ap (λ sets. map (λ s. (low + a) ∷ s) sets) (sets_from-moved low (a + 1) n k ∙ ap (λ x. sets_from x n k) next))
    (sets_from-moved low (a + 1) n (suc k) ∙ ap (λ x. sets_from x n (suc k)) next)

pub sets_from-places : (low n k : ℕ) → map (moved low) (sets_from 0 n k) ≡ sets_from low n k
sets_from-places low n k = sets_from-moved low 0 n k ∙ ap (λ x. sets_from x n k) (let none : low + 0 ≡ low = omega arith in none)

-- clones of the numbers at the chosen places are these numbers
clones_are_moved : (C : ℕ → ℕ → Type 0) (low n : ℕ) (ds vs : List ℕ) → ((x y : ℕ) → C x y → y ≡ x) → All (λ i. i < n) ds → ClonesAt C (range_with_len low n) ds vs → vs ≡ moved low ds
clones_are_moved C low n [] [] same below h = refl
clones_are_moved C low n [] (v ∷ vs) same below h = absurd h
clones_are_moved C low n (d ∷ ds) [] same below h = absurd h
clones_are_moved C low n (d ∷ ds) (v ∷ vs) same below h =
    let first = All-head (λ i. i < n) d ds below in
    ap₂ (λ x xs. x ∷ xs) (same _ v h.0 ∙ get_or-range_with_len low n d v first)
    (clones_are_moved C low n ds vs same (All-tail (λ i. i < n) d ds below) h.1)

-- the same at a pool that is those numbers
pub members_are_moved : (C : ℕ → ℕ → Type 0) (low n : ℕ) (pool ds vs : List ℕ) → ((x y : ℕ) → C x y → y ≡ x) → pool ≡ range_with_len low n → All (λ i. i < n) ds → ClonesAt C pool ds vs → vs ≡ moved low ds
members_are_moved C low n pool ds vs same is below h =
    let P : List ℕ → Type 0 = λ xs. ClonesAt C xs ds vs in
    clones_are_moved C low n ds vs same below (subst P is h)

-- the items of a whole run are the list that the iterator yields
map_same : (xs : List ℕ) → map (λ x. x) xs ≡ xs
map_same [] = refl
map_same (x ∷ xs) = ap (λ ys. x ∷ ys) (map_same xs)

pub items_of_run : {S : Type 0} (steps : S → Option ℕ → S → Type 0) (s : S) (xs all : List ℕ) → WholeRun steps s (λ p. xs ≡ p.items) → YieldsList steps (λ x. x) s all → xs ≡ all
unfolding YieldsRun
items_of_run {S} steps s xs all (p, from, whole, items) yields =
    let (t, gave, ends) = p.gave.0 in
    let drains : DrainsIf steps (Unit {0}) p.from p.items = (t, gave, λ _. ends whole) in
    let P : S → Type 0 = λ r. DrainsIf steps (Unit {0}) r p.items in
    items ∙ sym (map_same p.items) ∙ items_from_drains p.items (subst P from drains) yields

pub IfOk-weaker : {T E : Type 0} (r : Result T E) (P Q : T → Type 0) → ((x : T) → P x → Q x) → IfOk r P → IfOk r Q
IfOk-weaker (Ok x) P Q weaker h = weaker x h
IfOk-weaker (Err e) P Q weaker h = tt

-- the set of the members of a set
pub set_where-has : (s : List ℕ) → IsSet s → set_where (has s) ≡ s
set_where-has s set = sym (is_set_where s (has s) set (λ i lt. refl))

-- one set too many among the first ones
pub many-begun : (made rest whole : List (List ℕ)) (set next : List ℕ) (fault : ConstructFault) → made ++ next ∷ rest ≡ whole → few (made ++ set ∷ []) ≡ Err fault → few whole ≡ Err fault
many-begun made rest whole set next fault is e =
    few-longer (made ++ set ∷ []) whole fault e
    (omega (arith, length-append made (set ∷ []), length-append made (next ∷ rest), ap length is))
