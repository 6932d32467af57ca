use Rattle.replay.proofs.DrawLemmas.{SoFar}
use Rattle.replay.proofs.check.least_wrong.Given as goal

-- the least wrong ticket of the draws so far
abbrev pub invariant-loop-draw : goal.invariant-loop-draw
invariant-loop-draw l = SoFar l.cycle l.draws l.draw-index l.least
