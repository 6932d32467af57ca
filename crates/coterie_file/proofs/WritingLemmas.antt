-- Lemmas on the text that is written.
use Rattle.std.proofs.Common.{◌≡◌, ℕ, ◌<◌, List, [], ◌∷◌, ◌++◌, length, map, sym, refl, ap, ◌∙◌, arith, append_assoc, codes, flat_map, slice_get, Some}
use Rattle.std.specs.List.{join_by}
use Rattle.std.proofs.lemmas.Option.{get_or_from_slice_get}
use Rattle.coterie_file.specs.Names.{name_at}
use Rattle.coterie_file.specs.Writing.{quote, name_list}

-- names that follow a quotation mark
later_names : {A : Type 0} (text : A → List ℕ) (xs : List A) → flat_map (λ y. codes "\", \"" ++ text y) xs ++ codes "\"" ≡ codes "\"" ++ flat_map (λ y. codes ", " ++ quote y) (map text xs)
later_names text [] = refl
later_names text (x ∷ xs) =
    let R = flat_map (λ y. codes "\", \"" ++ text y) xs in
    let Q = flat_map (λ y. codes ", " ++ quote y) (map text xs) in
    ap (λ t. codes "\", \"" ++ t) (append_assoc (text x) R (codes "\"") ∙ ap (λ t. text x ++ t) (later_names text xs) ∙ sym (append_assoc (text x) (codes "\"") Q))

-- names that were joined with their quotation marks
pub name_list-joined : {A : Type 0} (text : A → List ℕ) (xs : List A) → 0 < length xs → codes "[\"" ++ (join_by text (codes "\", \"") xs ++ codes "\"]") ≡ name_list (map text xs)
name_list-joined text [] some = absurd (omega arith)
name_list-joined text (x ∷ xs) some =
    let R = flat_map (λ y. codes "\", \"" ++ text y) xs in
    let Q = flat_map (λ y. codes ", " ++ quote y) (map text xs) in
    ap (λ t. codes "[\"" ++ t) (
    sym (append_assoc (text x ++ R) (codes "\"") (codes "]"))
    ∙ ap (λ t. t ++ codes "]") (append_assoc (text x) R (codes "\"") ∙ ap (λ t. text x ++ t) (later_names text xs) ∙ sym (append_assoc (text x) (codes "\"") Q))
    )

-- the name that was found at a place
pub name_at-found : (names : List (List ℕ)) (i : ℕ) (name : List ℕ) → slice_get names i ≡ Some name → name_at names i ≡ name
name_at-found names i name e = get_or_from_slice_get names i name [] e
