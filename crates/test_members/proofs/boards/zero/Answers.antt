use Rattle.std.proofs.Common.{◌≡◌, ℕ, List, [], ◌∷◌, eqb, false, sym, ap, ◌∙◌, arith}
use Rattle.std.specs.Prelude.{◌||◌}
use Rattle.std.proofs.lemmas.Bool.Decides.{nat_tests}
use Rattle.numbers.specs.Sets.{has, set_where}
use Rattle.numbers.proofs.SetLemmas.{is_set_where}
use Rattle.test_members.proofs.boards.zero.Goals as goal

same : (i : ℕ) → (eqb 0 i || false) ≡ (eqb i 0 || false)
same i = grind (arith, nat_tests)

pub returns : goal.returns
returns c =
    c.insert.ensures.members
    ∙ ap (λ (l : List ℕ). set_where (λ j. eqb j 0 || has l j)) c.empty-set.ensures
    ∙ sym (is_set_where (0 ∷ []) (λ j. eqb j 0 || has [] j) (omega arith, omega arith, tt) (λ i lt. same i))
