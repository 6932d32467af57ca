use Rattle.std.proofs.Common.{sym}
use Rattle.plan_texts.proofs.WordNumbers.{behind_found-next_word, behind_found-bad_word, behind_found-last_word, behind_found-bad_last_word}
use Rattle.plan_texts.proofs.reading.numbers.Goals as goal

pub words-preserved : goal.words-preserved
words-preserved c = rw c.in_ok-push.ensures.items (behind_found-next_word c.words.found.items c.words.rest.now c.in-Some.word.now c.in-Some.after.now c.in-Some-number.n _
    (sym c.in-Some.ensures) (sym c.in-Some-number.ensures) c.words.invariant)

pub returns-in_default-number : goal.returns-in_default-number
returns-in_default-number c = behind_found-bad_word c.words.found.items c.words.rest.now c.in-Some.word.now c.in-Some.after.now _ (sym c.in-Some.ensures)
    (sym c.in_default-number.ensures) c.words.invariant

pub returns-in_default-number-2 : goal.returns-in_default-number-2
returns-in_default-number-2 c = behind_found-bad_last_word c.words.found.items c.words.rest.now _ (sym c.in_default.ensures) (sym c.in_default-number-2.ensures) c.words.invariant

pub returns : goal.returns
returns c = rw c.in_ok-push-2.ensures.items (behind_found-last_word c.words.found.items c.words.rest.now c.in-Some-number-2.n _ (sym c.in_default.ensures)
    (sym c.in-Some-number-2.ensures) c.words.invariant)
