use Rattle.generations.proofs.Bridges.{succession_of}
use Rattle.generations.proofs.laws.bridges_make_successions.Goals as goal

pub returns : goal.returns
returns c = succession_of
