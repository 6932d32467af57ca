use Rattle.std.proofs.Common.{◌≡◌, ◌∙◌, ap, arith, length, List, ℕ, Some, subst, sym}
use Rattle.std.proofs.lemmas.Bool.Decides.{nat_tests}
use Rattle.requester.specs.declared.state.ClientState.{ClientState}
use Rattle.requester.specs.Saved.{IsKept, words_of}
use Rattle.requester.proofs.SavedLemmas.{length-words_of}
use Rattle.requester.proofs.state.ClientState.restore.Goals as goal

pub returns-then-words-ne-SAVED_WORDS-clause-read : goal.returns-then-words-ne-SAVED_WORDS-clause-read
returns-then-words-ne-SAVED_WORDS-clause-read c = λ x kept is.
    let other = c.if-words-ne-SAVED_WORDS.true in
    let len : length c.args.words.now ≡ 138 = ap (λ (l : List ℕ). length l) is ∙ length-words_of x kept in
    absurd (grind (arith, nat_tests))

pub returns-clause-read : goal.returns-clause-read
returns-clause-read c = λ x kept is.
    let same = c.client_of.ensures.read x kept is in
    c.if_saved.ensures.read (subst IsKept (sym same) kept) (is ∙ ap words_of (sym same)) ∙ ap (λ (y : ClientState). Some y) same
