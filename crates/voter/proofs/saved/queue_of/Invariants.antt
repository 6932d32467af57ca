use Rattle.std.proofs.Common.{ℕ, ◌≡◌, cond, ltb, None}
use Rattle.std.specs.Prelude.{slice_index}
use Rattle.std.specs.FinMap.{get}
use Rattle.voter.specs.Saved.{stamp_of_word}
use Rattle.voter.proofs.saved.queue_of.Given as goal

abbrev pub invariant-loop-client : goal.invariant-loop-client
invariant-loop-client l = (c : ℕ) → get l.queue c ≡ cond (ltb c l.client) (stamp_of_word (slice_index l.words c)) None
