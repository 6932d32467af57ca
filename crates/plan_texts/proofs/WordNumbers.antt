-- Reading the numbers of a text word by word, as a loop does.
use Rattle.std.proofs.Common.{◌≡◌, ℕ, eqb, List, [], ◌∷◌, ◌++◌, Option, None, Some, sym, refl, ap, ◌∙◌, append_assoc}
use Rattle.std.specs.List.{slice_split}
use Rattle.std.specs.Option.{option_map, option_and_then}
use Rattle.plan_texts.specs.PlanTexts.{number_of, numbers_of}
use Rattle.texts.specs.Cuts.{cut_at}
use Rattle.texts.proofs.CutLemmas.{slice_split-cut_at, slice_split-no_cut}

-- with the numbers before
abbrev pub behind_found : List ℕ → List ℕ → Option (List ℕ)
behind_found found text = option_map (λ more. found ++ more) (numbers_of (slice_split (λ b. eqb b 32) text))

option_map-append_cons : (found : List ℕ) (n : ℕ) (o : Option (List ℕ)) → option_map (λ more. found ++ more) (option_map (λ ns. n ∷ ns) o) ≡ option_map (λ more. (found ++ n ∷ []) ++ more) o
option_map-append_cons found n None = refl
option_map-append_cons found n (Some ns) = ap Some (sym (append_assoc found (n ∷ []) ns))

-- what the words are, by what the first is
first_word : (found word : List ℕ) (words : List (List ℕ)) (o : Option ℕ) → number_of 7 word ≡ o
    → option_map (λ more. found ++ more) (numbers_of (word ∷ words)) ≡ option_map (λ more. found ++ more) (option_and_then (λ n. option_map (λ ns. n ∷ ns) (numbers_of words)) o)
first_word found word words o e = ap (λ o. option_map (λ more. found ++ more) (option_and_then (λ n. option_map (λ ns. n ∷ ns) (numbers_of words)) o)) e

at_words : (found text : List ℕ) (words : List (List ℕ)) → slice_split (λ b. eqb b 32) text ≡ words → behind_found found text ≡ option_map (λ more. found ++ more) (numbers_of words)
at_words found text words e = ap (λ ws. option_map (λ more. found ++ more) (numbers_of ws)) e

pub behind_found-next_word : (found rest word after : List ℕ) (n : ℕ) (all : Option (List ℕ)) → cut_at 32 rest ≡ Some (word, after) → number_of 7 word ≡ Some n
    → behind_found found rest ≡ all → behind_found (found ++ n ∷ []) after ≡ all
behind_found-next_word found rest word after n all cut is so_far =
    sym (option_map-append_cons found n (numbers_of (slice_split (λ b. eqb b 32) after)))
    ∙ sym (first_word found word (slice_split (λ b. eqb b 32) after) (Some n) is)
    ∙ sym (at_words found rest (word ∷ slice_split (λ b. eqb b 32) after) (slice_split-cut_at rest (word, after) cut)) ∙ so_far

pub behind_found-bad_word : (found rest word after : List ℕ) (all : Option (List ℕ)) → cut_at 32 rest ≡ Some (word, after) → number_of 7 word ≡ None → behind_found found rest ≡ all → None ≡ all
behind_found-bad_word found rest word after all cut is so_far =
    sym (first_word found word (slice_split (λ b. eqb b 32) after) None is)
    ∙ sym (at_words found rest (word ∷ slice_split (λ b. eqb b 32) after) (slice_split-cut_at rest (word, after) cut)) ∙ so_far

pub behind_found-last_word : (found rest : List ℕ) (n : ℕ) (all : Option (List ℕ)) → cut_at 32 rest ≡ None → number_of 7 rest ≡ Some n → behind_found found rest ≡ all → Some (found ++ n ∷ []) ≡ all
behind_found-last_word found rest n all cut is so_far =
    sym (first_word found rest [] (Some n) is) ∙ sym (at_words found rest (rest ∷ []) (slice_split-no_cut rest cut)) ∙ so_far

pub behind_found-bad_last_word : (found rest : List ℕ) (all : Option (List ℕ)) → cut_at 32 rest ≡ None → number_of 7 rest ≡ None → behind_found found rest ≡ all → None ≡ all
behind_found-bad_last_word found rest all cut is so_far =
    sym (first_word found rest [] None is) ∙ sym (at_words found rest (rest ∷ []) (slice_split-no_cut rest cut)) ∙ so_far
