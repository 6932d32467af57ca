-- Lemmas on the sets of listed members.
use Rattle.std.proofs.Common.{◌≡◌, ℕ, Bool, true, false, ◌||◌, eqb, List, [], ◌∷◌, ◌++◌, sym, refl, ap, ◌∙◌, inl, inr, None, Some}
use Rattle.std.specs.List.{list_any}
use Rattle.std.proofs.lemmas.Bool.{eq-eqb, ne_eqb, cases_eq}
use Rattle.std.proofs.lemmas.List.Folds.{list_any-append}
use Rattle.numbers.specs.Sets.{has, set_where}
use Rattle.numbers.proofs.SetLemmas.{has-set_where, is_set_where, set_where-same}
use Rattle.coterie_file.specs.Names.{number_of}
use Rattle.coterie_file.specs.Reading.{is_number, quorum_of}

eqb_turn : (i j : ℕ) → eqb i j ≡ eqb j i
eqb_turn i j = elim (cases_eq i j) as (λ _. eqb i j ≡ eqb j i) [
  | inl at ↦ eq-eqb i j at ∙ sym (eq-eqb j i (sym at))
  | inr off ↦ ne_eqb i j off ∙ sym (ne_eqb j i (λ e. off (sym e)))
]

or_turn : (a b : Bool) → (a || b) ≡ (b || (a || false))
or_turn true true = refl
or_turn true false = refl
or_turn false true = refl
or_turn false false = refl

or_false : (b : Bool) → b ≡ (b || (false || false))
or_false true = refl
or_false false = refl

pub quorum_of-nil : (names : List (List ℕ)) → quorum_of names [] ≡ []
quorum_of-nil names = sym (is_set_where [] (λ i. false) tt (λ i lt. refl))

-- one more member
pub quorum_of-push : (names done : List (List ℕ)) (text : List ℕ) (n : ℕ) → number_of names text ≡ Some n
    → set_where (λ j. eqb j n || has (quorum_of names done) j) ≡ quorum_of names (done ++ text ∷ [])
quorum_of-push names done text n e =
    let test = λ (j : ℕ) (name : List ℕ). is_number (number_of names name) j in
    set_where-same (λ j. eqb j n || has (quorum_of names done) j) (λ j. list_any (test j) (done ++ text ∷ [])) (λ j lt.
    ap (λ b. eqb j n || b) (has-set_where (λ i. list_any (test i) done) j lt)
    ∙ or_turn (eqb j n) (list_any (test j) done)
    ∙ ap (λ b. list_any (test j) done || (b || false)) (eqb_turn j n ∙ sym (ap (λ o. is_number o j) e))
    ∙ sym (list_any-append (test j) done (text ∷ [])))

-- one more name that is no voter's
pub quorum_of-other : (names done : List (List ℕ)) (text : List ℕ) → number_of names text ≡ None → quorum_of names done ≡ quorum_of names (done ++ text ∷ [])
quorum_of-other names done text e =
    let test = λ (j : ℕ) (name : List ℕ). is_number (number_of names name) j in
    set_where-same (λ j. list_any (test j) done) (λ j. list_any (test j) (done ++ text ∷ [])) (λ j lt.
    or_false (list_any (test j) done) ∙ ap (λ b. list_any (test j) done || (b || false)) (sym (ap (λ o. is_number o j) e)) ∙ sym (list_any-append (test j) done (text ∷ [])))
