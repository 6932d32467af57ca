-- Lines that are added to a text.
use Rattle.std.proofs.Common.{◌≡◌, ◌∙◌, ◌+◌, ◌<◌, List, [], ◌∷◌, ◌++◌, ℕ, ap, ap₂, append-nil, append_assoc, codes, get_or, length, map, refl, sym, take}
use Rattle.std.specs.List.{flat_map}
use Rattle.std.proofs.lemmas.List.{take_more}
use Rattle.std.proofs.lemmas.List.Folds.{flat_map-map}
use Rattle.std.proofs.lemmas.List.Concat.{flat_map-append}
use Rattle.numbers.proofs.Lists.{map-push}
use Rattle.show_tables.specs.Words.{AddsLine, AddsLines, Spaced, line_text, spaced, spaced_text}
use Rattle.show_tables.specs.declared.words.Placed.{Placed}

-- the texts of what is placed
texts-spaced : (line : List Placed) → map (λ s. s.text) (map spaced line) ≡ map (λ p. p.text.now) line
texts-spaced [] = refl
texts-spaced (p ∷ line) = ap (λ ts. p.text.now ∷ ts) (texts-spaced line)

-- what is written behind the first text of a line
pub others-spaced : (others : List Placed) → flat_map (λ s. codes "  " ++ spaced_text s) (map spaced others) ≡ flat_map (λ p. codes "  " ++ spaced_text (spaced p)) others
others-spaced others = flat_map-map (λ s. codes "  " ++ spaced_text s) spaced others

-- a line of placed texts
pub placed_line : (line : List Placed) (texts : List (List ℕ)) (old new : List ℕ) → map (λ p. p.text.now) line ≡ texts → new ≡ old ++ line_text (map spaced line)
    → AddsLine texts old new
placed_line line texts old new are is = record { line = map spaced line; texts_are = texts-spaced line ∙ are; is = is }

-- one line more
pub lines-push : (rows : List (List (List ℕ))) (row : List (List ℕ)) (old middle new : List ℕ) → AddsLines rows old middle → AddsLine row middle new
    → AddsLines (rows ++ row ∷ []) old new
lines-push rows row old middle new h k =
    let texts : List Spaced → List (List ℕ) = λ line. map (λ s. s.text) line in
    record {
      lines = h.lines ++ k.line ∷ [];
      texts_are = map-push texts h.lines k.line ∙ ap₂ (λ xs x. xs ++ x ∷ []) h.texts_are k.texts_are;
      is =
          k.is ∙ ap (λ t. t ++ line_text k.line) h.is ∙ append_assoc old (flat_map line_text h.lines) (line_text k.line)
          ∙ ap (λ t. old ++ t) (ap (λ t. flat_map line_text h.lines ++ t) (sym (append-nil (line_text k.line))) ∙ sym (flat_map-append line_text h.lines (k.line ∷ [])));
    }

-- a first line, and others
pub lines-cons : (row : List (List ℕ)) (rows : List (List (List ℕ))) (old middle new : List ℕ) → AddsLine row old middle → AddsLines rows middle new
    → AddsLines (row ∷ rows) old new
lines-cons row rows old middle new k h =
    record {
      lines = k.line ∷ h.lines;
      texts_are = ap₂ (λ x xs. x ∷ xs) k.texts_are h.texts_are;
      is = h.is ∙ ap (λ t. t ++ flat_map line_text h.lines) k.is ∙ append_assoc old (line_text k.line) (flat_map line_text h.lines);
    }

-- no line
pub lines-none : (old : List ℕ) → AddsLines [] old old
lines-none old = record { lines = []; texts_are = refl; is = sym (append-nil old) }

-- one member more
pub map-take-more : {A B : Type 0} (f : A → B) (xs : List A) (k : ℕ) (x : A) → x ≡ get_or xs k x → k < length xs → map f (take (k + 1) xs) ≡ map f (take k xs) ++ f x ∷ []
map-take-more f xs k x is lt =
    ap (map f) (take_more xs k x lt ∙ ap (λ y. take k xs ++ y ∷ []) (sym is)) ∙ map-push f (take k xs) x
