use Rattle.world.proofs.world.World.of.Goals as goal

pub invariant_of-result : goal.invariant_of-result
invariant_of-result c = c.worlds_stay_sound.ensures _ c.requires
