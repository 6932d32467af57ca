-- What it means that the items of an array are strings.
use Rattle.std.proofs.Common.{◌≡◌, ℕ, List, [], ◌∷◌, map, refl, ap, ap₂, ◌∙◌, Some}
use Rattle.std.specs.Option.{option_map, option_and_then}
use Rattle.toml.specs.Data.{Data, Items, no_items, item, string, array, as_str, as_array}
use Rattle.toml.specs.View.{items_of}
use Rattle.coterie_file.specs.Lists.{texts_of, text_lists_of, strings}
use Rattle.numbers.proofs.Options.{and_then-Some, option_map-Some}

-- the arrays of strings
as_str-string : (d : Data) (text : List ℕ) → as_str d ≡ Some text → d ≡ string text
as_str-string (string s) text e = cc
as_str-string d text e = cc

as_array-array : (d : Data) (items : Items) → as_array d ≡ Some items → d ≡ array items
as_array-array (string s) items e = cc
as_array-array d items e = cc

pub texts_of-strings : (items : Items) (texts : List (List ℕ)) → texts_of items ≡ Some texts → items ≡ strings texts
texts_of-strings no_items texts e = let none : texts ≡ [] = cc in rw none refl
texts_of-strings (item d items) texts e =
    let first = and_then-Some (λ text. option_map (λ rest. text ∷ rest) (texts_of items)) (as_str d) texts e in
    let rest = option_map-Some (λ rest. first.0 ∷ rest) (texts_of items) texts first.2 in
    let one : d ≡ string first.0 = as_str-string d first.0 first.1 in
    let more : items ≡ strings rest.0 = texts_of-strings items rest.0 rest.1 in
    ap₂ item one more ∙ ap strings rest.2

texts_of-of : (texts : List (List ℕ)) → texts_of (strings texts) ≡ Some texts
texts_of-of [] = refl
texts_of-of (text ∷ texts) = ap (option_map (λ rest. text ∷ rest)) (texts_of-of texts)

pub strings-texts_of : (items : Items) (texts : List (List ℕ)) → items ≡ strings texts → texts_of items ≡ Some texts
strings-texts_of items texts e = ap texts_of e ∙ texts_of-of texts

-- the arrays of arrays of strings
abbrev arrays : List (List (List ℕ)) → Items
arrays lists = items_of (map (λ texts. array (strings texts)) lists)

pub text_lists_of-arrays : (items : Items) (lists : List (List (List ℕ))) → text_lists_of items ≡ Some lists → items ≡ items_of (map (λ texts. array (strings texts)) lists)
text_lists_of-arrays no_items lists e = let none : lists ≡ [] = cc in rw none refl
text_lists_of-arrays (item d items) lists e =
    let first = and_then-Some (λ texts. option_map (λ rest. texts ∷ rest) (text_lists_of items)) (option_and_then texts_of (as_array d)) lists e in
    let rest = option_map-Some (λ rest. first.0 ∷ rest) (text_lists_of items) lists first.2 in
    let inside = and_then-Some texts_of (as_array d) first.0 first.1 in
    let one : d ≡ array (strings first.0) = as_array-array d inside.0 inside.1 ∙ ap array (texts_of-strings inside.0 first.0 inside.2) in
    let more : items ≡ arrays rest.0 = text_lists_of-arrays items rest.0 rest.1 in
    ap₂ item one more ∙ ap arrays rest.2

text_lists_of-of : (lists : List (List (List ℕ))) → text_lists_of (arrays lists) ≡ Some lists
text_lists_of-of [] = refl
text_lists_of-of (texts ∷ lists) =
    rw (texts_of-of texts) (ap (option_map (λ rest. texts ∷ rest)) (text_lists_of-of lists))

pub arrays-text_lists_of : (items : Items) (lists : List (List (List ℕ))) → items ≡ items_of (map (λ texts. array (strings texts)) lists) → text_lists_of items ≡ Some lists
arrays-text_lists_of items lists e = ap text_lists_of e ∙ text_lists_of-of lists
