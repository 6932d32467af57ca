use Rattle.std.proofs.Common.{◌≡◌, ◌∙◌, ap, arith, length, List, ℕ, Some, subst, sym}
use Rattle.std.proofs.lemmas.Bool.Decides.{nat_tests}
use Rattle.voter.specs.declared.state.VoterState.{VoterState}
use Rattle.voter.specs.Saved.{IsKept, words_of}
use Rattle.voter.proofs.SavedLemmas.{length-words_of}
use Rattle.voter.proofs.state.VoterState.restore.Goals as goal

pub returns-then-words-ne-SAVED_WORDS-clause-read : goal.returns-then-words-ne-SAVED_WORDS-clause-read
returns-then-words-ne-SAVED_WORDS-clause-read c = λ v kept is.
    let other = c.if-words-ne-SAVED_WORDS.true in
    let len : length c.args.words.now ≡ 138 = ap (λ (l : List ℕ). length l) is ∙ length-words_of v kept in
    absurd (grind (arith, nat_tests))

pub returns-clause-read : goal.returns-clause-read
returns-clause-read c = λ v kept is.
    let same = c.voter_of.ensures.read v kept is in
    c.if_saved.ensures.read (subst IsKept (sym same) kept) (is ∙ ap words_of (sym same)) ∙ ap (λ (w : VoterState). Some w) same
