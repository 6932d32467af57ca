-- Lemmas on lists that are made from others, and on what a list has.
use Rattle.std.proofs.Common.{◌≡◌, ℕ, ◌+◌, Bool, true, cond, not, ◌||◌, ltb, List, [], ◌∷◌, length, map, get_or, refl, sym, ap, ◌∙◌, Option, None, Some, Contains}
use Rattle.std.proofs.lemmas.List.{get_or_default, length-map}
use Rattle.std.proofs.lemmas.List.Folds.{Any-from_list_any, list_any_at}
use Rattle.std.proofs.lemmas.Slice.Eq.{bytes_eq-Decides}
use Rattle.std.specs.List.{list_any, position, prefix_len, position_or_len}
use Rattle.std.specs.Str.{bytes_eq}
use Rattle.coterie_file.specs.Names.{has_name}

prefix_len-map : {A B : Type 0} (p : B → Bool) (f : A → B) (xs : List A) → prefix_len p (map f xs) ≡ prefix_len (λ x. p (f x)) xs
prefix_len-map p f [] = refl
prefix_len-map p f (x ∷ xs) = ap (λ n. cond (p (f x)) (1 + n) 0) (prefix_len-map p f xs)

-- a place among values made of others
pub position-map : {A B : Type 0} (p : B → Bool) (f : A → B) (xs : List A) → position p (map f xs) ≡ position (λ x. p (f x)) xs
position-map {A} {B} p f xs =
    let place : position_or_len p (map f xs) ≡ position_or_len (λ x. p (f x)) xs = prefix_len-map (λ y. not (p y)) f xs in
    let P : ℕ → ℕ → Option ℕ = λ n m. cond (ltb n m) (Some n) None in
    ap (λ n. P n (length (map f xs))) place ∙ ap (λ m. P (position_or_len (λ x. p (f x)) xs) m) (length-map xs f)

pub list_any_map : {A B : Type 0} (p : B → Bool) (f : A → B) (xs : List A) → list_any p (map f xs) ≡ list_any (λ x. p (f x)) xs
list_any_map p f [] = refl
list_any_map p f (x ∷ xs) = ap (λ b. p (f x) || b) (list_any_map p f xs)

-- a name that is found is there
pub Contains-has_name : (names : List (List ℕ)) (name : List ℕ) → has_name names name ≡ true → Contains names name
Contains-has_name names name e =
    let found = Any-from_list_any (bytes_eq name) names e in
    let same : name ≡ found.1 = (bytes_eq-Decides name found.1).0 found.4 in
    (found.0, found.2, get_or_default names found.0 name found.1 found.2 ∙ found.3 ∙ sym same)

-- a name that is there is found
pub has_name-Contains : (names : List (List ℕ)) (name : List ℕ) → Contains names name → has_name names name ≡ true
has_name-Contains names name h = list_any_at (bytes_eq name) names h.0 name h.1 ((bytes_eq-Decides name (get_or names h.0 name)).1 (sym h.2))
