use Rattle.std.proofs.Common.{arith}
use Rattle.std.proofs.lemmas.Grind.{common_steps}
use Rattle.cluster.proofs.DriveLemmas.{AllZip-HasServed}
use Rattle.cluster.proofs.drives.drive.Goals as goal

pub returns-in-None-clause-served : goal.returns-in-None-clause-served
returns-in-None-clause-served g c = AllZip-HasServed c.args.passes c.args.members.items _ (grind (arith, common_steps)) (grind (arith, common_steps))
