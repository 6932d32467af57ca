use Rattle.std.proofs.Common.{ap, ◌∙◌}
use Rattle.std.specs.Prelude.{slice_index}
use Rattle.std.specs.FinMap.{get}
use Rattle.voter.specs.Saved.{stamp_of_word}
use Rattle.voter.proofs.SavedLemmas.{Fills-first, Fills-start, Fills-step}
use Rattle.voter.proofs.saved.queue_of.Goals as goal

pub loop-client-init : goal.loop-client-init
loop-client-init c = λ q. ap (λ w. get w q) c.new-queue.ensures ∙ Fills-start (λ k. stamp_of_word (slice_index c.args.words.now k)) q

pub loop-client-preserved : goal.loop-client-preserved
loop-client-preserved c = Fills-step c.loop-client.queue c.add.new.queue c.args.words.now c.loop-client.client c.stamp_at-stamp.result c.loop-client.invariant
    c.stamp_at-stamp.ensures c.add.ensures.some c.add.ensures.none

pub add-requires-clause-first : goal.add-requires-clause-first
add-requires-clause-first c = Fills-first c.loop-client.queue (λ k. stamp_of_word (slice_index c.args.words.now k)) c.loop-client.client c.loop-client.invariant
