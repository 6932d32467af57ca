-- Lemmas on lists that are made from others.
use Rattle.std.proofs.Common.{◌≡◌, ℕ, ◌+◌, ◌<◌, List, [], ◌∷◌, ◌++◌, length, map, take, drop, slice_get, ap, ◌∙◌, Some}
use Rattle.std.proofs.lemmas.List.{take_more, drop_more}
use Rattle.std.proofs.lemmas.Option.{get_or_from_slice_get}
use Rattle.numbers.proofs.Lists.{map-push}

-- the values of one place more of a list
pub map-take_more : {A B : Type 0} (f : A → B) (xs : List A) (k : ℕ) (x : A) → slice_get xs k ≡ Some x → k < length xs → map f (take (k + 1) xs) ≡ map f (take k xs) ++ f x ∷ []
map-take_more f xs k x e lt =
    ap (map f) (take_more xs k x lt ∙ ap (λ y. take k xs ++ y ∷ []) (get_or_from_slice_get xs k x x e)) ∙ map-push f (take k xs) x

-- a list from a place on
pub drop-at : {A : Type 0} (xs : List A) (k : ℕ) (x : A) → slice_get xs k ≡ Some x → k < length xs → drop k xs ≡ x ∷ drop (k + 1) xs
drop-at xs k x e lt = drop_more xs k x lt ∙ ap (λ y. y ∷ drop (k + 1) xs) (get_or_from_slice_get xs k x x e)
