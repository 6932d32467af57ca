use Rattle.std.proofs.Common.{◌<◌, ap, arith}
use Rattle.members.specs.Members.{MemberState}
use Rattle.members.proofs.RecordLemmas.{All-passes_of}
use Rattle.members.proofs.close.join_member.Goals as goal

pub returns-clause-each : goal.returns-clause-each
returns-clause-each g c =
    let inside : c.args.member.requester.id < g.N.ClusterName.cluster.board.clients =
    omega (arith, ap (λ (m : MemberState). m.requester.id) c.member.view_is, c.member.invariant.client, c.member.invariant.inside) in
    All-passes_of g.N.ClusterName.cluster.board.clients c.args.member inside
