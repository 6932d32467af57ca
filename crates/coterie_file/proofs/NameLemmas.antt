-- Lemmas on names: which stand earlier.
use Rattle.std.proofs.Common.{◌≡◌, ℕ, ◌+◌, ◌<◌, true, false, cond, List, [], ◌∷◌, ◌++◌, length, map, get_or, take, drop, sym, ap, ◌∙◌, arith, Some, String, Global, string_bytes, Bor}
use Rattle.std.proofs.lemmas.List.{drop_more, take_more, map-append, length-take-le, length-map}
use Rattle.std.specs.List.{list_any}
use Rattle.std.specs.Str.{bytes_eq}
use Rattle.coterie_file.specs.Names.{has_name, first_repeat}
use Rattle.coterie_file.proofs.ListLemmas.{list_any_map}

-- the texts before a place, and from it on
abbrev pub texts_before : List (String Global) → ℕ → List (List ℕ)
texts_before names i = map string_bytes (take i names)

abbrev pub texts_from : List (String Global) → ℕ → List (List ℕ)
texts_from names i = map string_bytes (drop i names)

-- a look-up among the names that were seen
pub seen_at : (names : List (String Global)) (i : ℕ) (text : List ℕ) (keys : List (Bor (List ℕ))) → map (λ k. k.now) keys ≡ texts_before names i
    → list_any (λ k. bytes_eq text k.now) keys ≡ has_name (texts_before names i) text
seen_at names i text keys e = sym (list_any_map (λ n. bytes_eq text n) (λ k. k.now) keys) ∙ ap (list_any (λ n. bytes_eq text n)) e

-- the texts so far and the next
pub texts_before-push : (names : List (String Global)) (i : ℕ) (name : String Global) (text : List ℕ) → i < length names → name ≡ get_or names i name → text ≡ string_bytes name
    → texts_before names i ++ text ∷ [] ≡ texts_before names (i + 1)
texts_before-push names i name text lt at is =
    ap (λ t. texts_before names i ++ t ∷ []) (is ∙ ap string_bytes at) ∙ sym (ap (map string_bytes) (take_more names i name lt) ∙ map-append string_bytes (take i names) (get_or names i name ∷ []))

next_text : (names : List (String Global)) (i : ℕ) (name : String Global) (text : List ℕ) → i < length names → name ≡ get_or names i name → text ≡ string_bytes name
    → texts_from names i ≡ text ∷ texts_from names (i + 1)
next_text names i name text lt at is = ap (map string_bytes) (drop_more names i name lt) ∙ ap (λ t. t ∷ texts_from names (i + 1)) (ap string_bytes (sym at) ∙ sym is)

pub repeat_here : (names : List (String Global)) (i : ℕ) (name : String Global) (text : List ℕ) → i < length names → name ≡ get_or names i name → text ≡ string_bytes name
    → has_name (texts_before names i) text ≡ true → first_repeat (texts_before names i) (texts_from names i) ≡ Some i
repeat_here names i name text lt at is found =
    ap (first_repeat (texts_before names i)) (next_text names i name text lt at is)
    ∙ ap (λ b. cond b (Some (length (texts_before names i))) (first_repeat (texts_before names i ++ text ∷ []) (texts_from names (i + 1)))) found
    ∙ ap Some (length-map (take i names) string_bytes ∙ length-take-le i names (omega arith))

pub repeat_later : (names : List (String Global)) (i : ℕ) (name : String Global) (text : List ℕ) → i < length names → name ≡ get_or names i name → text ≡ string_bytes name
    → has_name (texts_before names i) text ≡ false
    → first_repeat (texts_before names i) (texts_from names i) ≡ first_repeat (texts_before names (i + 1)) (texts_from names (i + 1))
repeat_later names i name text lt at is found =
    ap (first_repeat (texts_before names i)) (next_text names i name text lt at is)
    ∙ ap (λ b. cond b (Some (length (texts_before names i))) (first_repeat (texts_before names i ++ text ∷ []) (texts_from names (i + 1)))) found
    ∙ ap (λ t. first_repeat t (texts_from names (i + 1))) (texts_before-push names i name text lt at is)
