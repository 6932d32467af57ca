use Rattle.std.proofs.Common.{rules}
use Rattle.cluster.specs.Drives.{IsBack, TookTurns, WasLet}
use Rattle.cluster.proofs.DriveLemmas.{AreIdle-IsBack, AllZip-from}
use Rattle.cluster.proofs.drives.serve_all.Goals as goal

pub returns-clause-back : goal.returns-clause-back
returns-clause-back g c = AllZip-from (IsBack c.args.passes) c.args.members.now c.for_each_mut.new.s (search rules) (λ i d below. let k = (c.for_each_mut.ensures i d below).1 in search rules)

pub returns-clause-let_pass : goal.returns-clause-let_pass
returns-clause-let_pass g c = AllZip-from (WasLet (g.G.Gate.lets c.args.gate.now)) c.args.members.now c.for_each_mut.new.s (search rules)
    (λ i d below. let k = (c.for_each_mut.ensures i d below).1 in search rules)

pub returns-clause-in_turns : goal.returns-clause-in_turns
returns-clause-in_turns g c = AllZip-from (TookTurns c.args.turns) c.args.members.now c.for_each_mut.new.s (search rules) (λ i d below. let k = (c.for_each_mut.ensures i d below).1 in search rules)

pub returns-clause-idle : goal.returns-clause-idle
returns-clause-idle g c = AreIdle-IsBack c.args.passes c.args.members.now c.for_each_mut.new.s (returns-clause-back g c)
