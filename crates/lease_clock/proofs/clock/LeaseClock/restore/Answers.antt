use Rattle.std.proofs.Common.{ap, arith, length, List, ℕ}
use Rattle.lease_clock.proofs.SavedLemmas.{length-slots}
use Rattle.lease_clock.proofs.clock.LeaseClock.restore.Goals as goal

pub returns-then-words-ne-SAVED_WORDS-clause-read : goal.returns-then-words-ne-SAVED_WORDS-clause-read
returns-then-words-ne-SAVED_WORDS-clause-read c = λ it sound is. absurd (let len = ap (λ (ws : List ℕ). length ws) is in let each = length-slots 16 it.away in omega arith)
