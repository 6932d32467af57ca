use Rattle.std.proofs.Common.{◌≤◌, ◌∙◌, ap, sym, subst}
use Rattle.members.specs.Clusters.{ClusterState, IsCluster}
use Rattle.certificate.specs.Certificates.{IsCertificate}
use Rattle.members.specs.Closes.{RefusesClose}
use Rattle.qlock_cli.specs.Runs.{AreLet, EndsRun, IsRun}
use Rattle.qlock_cli.proofs.RunLemmas.{all_ready, EndsRun-driven, AreLet-served, run_of, turns-served}
use Rattle.qlock_cli.proofs.run.run_blank.Goals as goal

pub returns-in-Err-clause-ended : goal.returns-in-Err-clause-ended
returns-in-Err-clause-ended g c =
    let cluster = g.N.ClusterName.cluster in
    let alone = ap (λ (x : ClusterState). x.second) (sym c.requires.name) ∙ c.requires.alone in
    let quota = subst (λ (x : ClusterState). c.args.passes ≤ x.quota) c.requires.name c.requires.quota in
    let ended = EndsRun-driven cluster c.args.passes c.in-Ok.members.items c.in-Err.driven.members.items c.in-Err.driven.fault alone c.in-Ok.ensures.members quota
    c.in-Err.ensures.back c.in-Err.ensures.least in
    subst (λ (x : ClusterState). EndsRun x.board.clients c.ended_by.result) (sym c.requires.name) (subst (EndsRun cluster.board.clients) (sym c.ended_by.ensures) ended)

pub returns-in-Ok-close-clause-run : goal.returns-in-Ok-close-clause-run
returns-in-Ok-close-clause-run g c =
    let cluster = g.N.ClusterName.cluster in
    let run = c.in-Ok-close.run' in
    let alone = ap (λ (x : ClusterState). x.second) (sym c.requires.name) ∙ c.requires.alone in
    let plan : IsCertificate cluster.office.cycle = subst (λ (x : ClusterState). IsCertificate x.office.cycle) c.requires.name c.requires.plan in
    let made = run_of cluster c.args.passes c.in-Ok.members.items c.in-Ok-drive.members.items run plan alone c.in-Ok.ensures.members
    c.in-Ok-drive.ensures.served c.in-Ok-close.ensures.record in
    subst (λ (x : ClusterState). IsRun x.office.cycle x.board.clients c.args.passes run) (sym c.requires.name) made

pub returns-in-Ok-close-clause-let_pass : goal.returns-in-Ok-close-clause-let_pass
returns-in-Ok-close-clause-let_pass g c some =
    let lets = g.G.Gate.lets c.args.gate.now in
    let driven = c.in-Ok-drive.ensures in
    let each = AreLet-served g.N.ClusterName.cluster lets c.args.passes c.in-Ok.members.items c.in-Ok-drive.members.items c.in-Ok.ensures.members driven.served driven.let_pass some in
    subst (λ (x : ClusterState). AreLet lets x.board.clients) (sym c.requires.name) each

pub returns-in-Ok-close-clause-in_turns : goal.returns-in-Ok-close-clause-in_turns
returns-in-Ok-close-clause-in_turns g c =
    let driven = c.in-Ok-drive.ensures in
    let whole : IsCluster g.N.ClusterName.cluster = subst IsCluster c.requires.name c.requires.cluster in
    turns-served g.N.ClusterName.cluster c.args.turns c.args.passes c.in-Ok.members.items c.in-Ok-drive.members.items c.in-Ok.ensures.members driven.served driven.in_turns whole.some_client

pub unreachable-requires : goal.unreachable-requires
unreachable-requires g c =
    let cluster = g.N.ClusterName.cluster in
    let refused = subst (RefusesClose cluster c.in-Ok-drive.members.items) c.in-Err-Unready.field-0-is c.in-Err-Unready.ensures.refused in
    all_ready cluster c.args.passes c.in-Err-Unready.field-0-2 c.in-Ok.members.items c.in-Ok-drive.members.items c.in-Ok.ensures.members c.in-Ok-drive.ensures.served
    c.in-Ok-drive.ensures.idle refused.1 refused.2
