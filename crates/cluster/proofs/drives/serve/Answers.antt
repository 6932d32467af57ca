use Rattle.std.proofs.Common.{subst}
use Rattle.cluster.specs.Drives.{TookTurns}
use Rattle.cluster.proofs.DriveLemmas.{IsBack-early, IsBack-then, TookTurns-then, WasLet-then}
use Rattle.cluster.proofs.drives.serve.Goals as goal

pub returns-in-Err-clause-back : goal.returns-in-Err-clause-back
returns-in-Err-clause-back g c = IsBack-early c.args.passes c.args.member.now c.serve_on.new.member _ c.in-Err.ensures.ended

pub returns-clause-back : goal.returns-clause-back
returns-clause-back g c =
    IsBack-then c.args.passes c.args.member.now c.serve_on.new.member c.exchange.new.member c.serve_on-2.new.member c.serve_on-2.result
    c.in-Ok.ensures.served c.exchange.ensures c.serve_on-2.ensures.served c.serve_on-2.ensures.ended

pub returns-clause-let_pass : goal.returns-clause-let_pass
returns-clause-let_pass g c =
    WasLet-then (g.G.Gate.lets c.args.gate.now) c.args.member.now c.serve_on.new.member c.exchange.new.member c.serve_on-2.new.member
    c.serve_on.ensures.let_pass c.exchange.ensures c.serve_on-2.ensures.client c.serve_on-2.ensures.let_pass

pub returns-clause-in_turns : goal.returns-clause-in_turns
returns-clause-in_turns g c =
    subst (λ n. TookTurns n c.args.member.now c.serve_on-2.new.member) c.new-turns.ensures
    (TookTurns-then c.new-turns.result c.serve_on.new.turns _ c.args.member.now c.serve_on.new.member c.exchange.new.member c.serve_on-2.new.member
    c.in-Ok.ensures.served c.exchange.ensures c.in-Ok.ensures.left c.serve_on-2.ensures.in_turns)
