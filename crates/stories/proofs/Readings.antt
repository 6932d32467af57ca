-- Lines of a text, and what a text is without its notes.
use Rattle.std.proofs.Common.{◌≡◌, ◌≢◌, ℕ, suc, ◌+◌, Bool, None, Some, true, false, cond, not, eqb, ltb, List, [], ◌∷◌, ◌++◌, length, length-append, take, drop, refl, sym, subst, ap, ◌∙◌, append_assoc, arith}
use Rattle.std.specs.List.{flat_map, position_or_len}
use Rattle.std.specs.Option.{option_map}
use Rattle.std.proofs.lemmas.Bool.{ltb-false, ne_eqb}
use Rattle.std.proofs.lemmas.List.{take_all}
use Rattle.texts.specs.Cuts.{cut_at}
use Rattle.texts.proofs.CutLemmas.{Lacks, cut_at-Some, cut_at-parts}
use Rattle.stories.specs.Scripts.{cut_lines, kept, left_behind, place_of, without_notes}

-- Lines

one-add : (n : ℕ) → 1 + n ≡ suc n
one-add n = omega arith

-- before the first newline there is none
Lacks-front : (text : List ℕ) → Lacks 10 (take (position_or_len (λ b. eqb b 10) text) text)
Lacks-front [] = tt
Lacks-front (b ∷ text) =
    elim (eqb b 10) as (λ t. eqb b 10 ≡ t → Lacks 10 (take (cond (not t) (1 + position_or_len (λ b. eqb b 10) text) 0) (b ∷ text))) [
      | true ↦ λ e. tt
      | false ↦ λ e. rw (one-add (position_or_len (λ b. eqb b 10) text)) (e, Lacks-front text)
    ] refl

-- a text that is not cut has no newline
Lacks-whole : (text : List ℕ) → cut_at 10 text ≡ None → Lacks 10 text
Lacks-whole text e = by (ltb (position_or_len (λ b. eqb b 10) text) (length text)) refl e
  where
    by : (t : Bool) → ltb (position_or_len (λ b. eqb b 10) text) (length text) ≡ t
        → option_map {U = List ℕ × List ℕ} (λ place. (take place text, drop (place + 1) text)) (cond t (Some (position_or_len (λ b. eqb b 10) text)) None) ≡ None
        → Lacks 10 text
    by true inside h = cc
    by false outside h = subst (Lacks 10) (take_all (position_or_len (λ b. eqb b 10) text) text (ltb-false _ _ outside)) (Lacks-front text)

cut_lines-front : (line rest : List ℕ) → Lacks 10 line → cut_lines (line ++ 10 ∷ rest) ≡ (line ∷ (cut_lines rest).0, (cut_lines rest).1)
cut_lines-front [] rest h = refl
cut_lines-front (b ∷ line) rest h = rw (h.0, cut_lines-front line rest h.1) refl

cut_lines-rest : (text : List ℕ) → Lacks 10 text → cut_lines text ≡ ([], text)
cut_lines-rest [] h = refl
cut_lines-rest (b ∷ text) h = rw (h.0, cut_lines-rest text h.1) refl

-- the first line, and the others
pub first_cut : (text : List ℕ) (x : List ℕ × List ℕ) → cut_at 10 text ≡ Some x → cut_lines text ≡ (x.0 ∷ (cut_lines x.1).0, (cut_lines x.1).1)
first_cut text x e =
    let lacks : Lacks 10 x.0 = rw (cut_at-parts 10 text x e).1 (Lacks-front text) in
    ap cut_lines (cut_at-Some 10 text x e) ∙ cut_lines-front x.0 x.1 lacks

-- a first line is shorter than the text
pub shorter : (text : List ℕ) (x : List ℕ × List ℕ) → cut_at 10 text ≡ Some x → length text ≡ length x.0 + length (10 ∷ x.1)
shorter text x e = ap length (cut_at-Some 10 text x e) ∙ length-append x.0 (10 ∷ x.1)

-- a text without lines
pub none_cut : (text : List ℕ) → cut_at 10 text ≡ None → cut_lines text ≡ ([], text)
none_cut text e = cut_lines-rest text (Lacks-whole text e)

-- Notes

without-cut : (text : List ℕ) (x : List ℕ × List ℕ) → cut_at 10 text ≡ Some x → without_notes text ≡ kept x.0 ++ without_notes x.1
without-cut text x e =
    ap (λ (c : List (List ℕ) × List ℕ). flat_map kept c.0 ++ c.1) (first_cut text x e)
    ∙ append_assoc (kept x.0) (flat_map kept (cut_lines x.1).0) (cut_lines x.1).1

-- one more line
pub without-next : (text : List ℕ) (x : List ℕ × List ℕ) (written more whole : List ℕ) → cut_at 10 text ≡ Some x → more ≡ written ++ kept x.0
    → written ++ without_notes text ≡ whole → more ++ without_notes x.1 ≡ whole
without-next text x written more whole e pushed left =
    ap (λ (t : List ℕ). t ++ without_notes x.1) pushed ∙ append_assoc written (kept x.0) (without_notes x.1)
    ∙ ap (λ (t : List ℕ). written ++ t) (sym (without-cut text x e)) ∙ left

-- behind the last newline
pub without-none : (text : List ℕ) → cut_at 10 text ≡ None → without_notes text ≡ text
without-none text e = ap (λ (c : List (List ℕ) × List ℕ). flat_map kept c.0 ++ c.1) (none_cut text e)

-- behind a line that is not the one
pub place-more : (text : List ℕ) (x : List ℕ × List ℕ) (number left : ℕ) → cut_at 10 text ≡ Some x → left ≡ left_behind x.0 number → left ≢ 0
    → place_of (cut_lines text).0 number ≡ place_of (cut_lines x.1).0 left + 1
place-more text x number left e behind some =
    let lines = (cut_lines x.1).0 in
    ap (λ (c : List (List ℕ) × List ℕ). place_of c.0 number) (first_cut text x e)
    ∙ ap (λ (n : ℕ). cond (eqb n 0) 1 (place_of lines n + 1)) (sym behind)
    ∙ ap (λ (t : Bool). cond t 1 (place_of lines left + 1)) (ne_eqb left 0 some)

pub place-none : (text : List ℕ) (number : ℕ) → cut_at 10 text ≡ None → place_of (cut_lines text).0 number ≡ 1
place-none text number e = ap (λ (c : List (List ℕ) × List ℕ). place_of c.0 number) (none_cut text e)
