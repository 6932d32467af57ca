use Rattle.std.proofs.Common.{◌≡◌, drop}
use Rattle.stories.specs.Plays.{world_after}
use Rattle.show_words.proofs.worlds.turns_words.Given as goal

-- the turns that are left lead to the world after all of them
abbrev pub invariant-loop-turn : goal.invariant-loop-turn
invariant-loop-turn l = world_after (drop l.turn-index l.turns) l.player.world ≡ world_after l.turns l.fn.player.world
