use Rattle.std.proofs.Common.{refl}
use Rattle.stories.proofs.PlayLemmas.{world_on}
use Rattle.show_words.proofs.worlds.turns_words.Goals as goal

pub loop-turn-preserved : goal.loop-turn-preserved
loop-turn-preserved c =
    world_on c.args.turns.now c.loop-turn.turn-index _ _ c.loop-turn.player c.push_moment.new.player _ c.loop-turn-test.true refl c.loop-turn.invariant c.in_ok-push_moment.ensures
