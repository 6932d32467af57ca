use Rattle.std.proofs.Common.{◌≡◌, ◌++◌, true, drop, take}
use Rattle.std.specs.List.{list_all}
use Rattle.stories.specs.Plays.{first_scene, first_world, is_calm, moments_of, world_after}
use Rattle.stories.proofs.story.story_of.Given as goal

-- the moments so far, and then those of the turns that are left, are those of the story; the turns that are
-- left lead to its world; if the turns so far are calm, the player is
abbrev pub invariant-loop-turn : goal.invariant-loop-turn
invariant-loop-turn l = record {
  moments : l.moments.items ++ moments_of (drop l.turn-index l.turns) l.player
      ≡ moments_of l.turns (first_scene l.fn.plans l.fn.script.clients l.fn.script.limit);
  world : world_after (drop l.turn-index l.turns) l.player.world
      ≡ world_after l.turns (first_world l.fn.plans l.fn.script.clients l.fn.script.limit);
  calm : list_all is_calm (take l.turn-index l.turns) ≡ true → l.player.calm ≡ true;
}
