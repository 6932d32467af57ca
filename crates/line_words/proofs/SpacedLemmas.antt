-- Words with a space in front of each, and where a line of control ends.
use Rattle.std.proofs.Common.{◌≡◌, ◌<◌, ◌^◌, ℕ, List, [], ◌∷◌, ◌++◌, Some, refl, ap, ◌∙◌, append_assoc, arith}
use Rattle.std.specs.Prelude.{codes}
use Rattle.std.specs.List.{AllByRecursion}
use Rattle.std.specs.Fmt.{decimal}
use Rattle.texts.specs.Cuts.{cut_at}
use Rattle.texts.proofs.CutLemmas.{Lacks, Lacks-append, Lacks-decimal, cut_at-append}
use Rattle.line_words.specs.Lines.{control_line, spaced}

pub spaced_then : (words : List (List ℕ)) (rest : List ℕ) → spaced words rest ≡ spaced words [] ++ rest
spaced_then [] rest = refl
spaced_then (w ∷ ws) rest = rw (append_assoc (32 ∷ w) (spaced ws []) rest) (ap (λ (t : List ℕ). (32 ∷ w) ++ t) (spaced_then ws rest))

pub Lacks-spaced : (words : List (List ℕ)) (rest : List ℕ) → AllByRecursion (Lacks 10) words → Lacks 10 rest → Lacks 10 (spaced words rest)
Lacks-spaced [] rest all h = h
Lacks-spaced (w ∷ ws) rest all h = Lacks-append 10 (32 ∷ w) (spaced ws rest) (refl, all.0) (Lacks-spaced ws rest all.1 h)

pub number_lacks : (n : ℕ) → n < 2 ^ 64 → Lacks 10 (decimal n)
number_lacks n small = Lacks-decimal 10 n (omega arith) small

-- a line of control ends at its newline
pub cut_of : (line rest : List ℕ) → Lacks 10 line → cut_at 10 (control_line line ++ rest) ≡ Some (codes ". " ++ line, rest)
cut_of line rest h =
    ap (λ (t : List ℕ). cut_at 10 (codes ". " ++ t)) (append_assoc line (10 ∷ []) rest)
    ∙ cut_at-append 10 (codes ". " ++ line) rest (refl, (refl, h))
