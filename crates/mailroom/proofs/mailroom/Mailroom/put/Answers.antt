use Rattle.std.proofs.Common.{◌≡◌, ℕ, true, subst}
use Rattle.std.specs.Prelude.{IfErr, IfOk}
use Rattle.node.specs.Mail.{IsMail}
use Rattle.mailroom.proofs.LossLemmas.{refused-is_stray}
use Rattle.mailroom.proofs.mailroom.Mailroom.put.Goals as goal

pub returns-clause-stray : goal.returns-clause-stray
returns-clause-stray g c =
    let board = g.N.ClusterName.cluster.board in
    let m = c.args.message in
    let own = c.in-Some.ensures.own in
    refused-is_stray board m c.put.result c.in-Some.ensures.there
    (subst (λ (n : ℕ). IfOk c.put.result (λ b. b ≡ true → IsMail board n m)) own c.put.ensures.mail)
    (subst (λ (n : ℕ). IfErr c.put.result (λ e. IsMail board n m)) own c.put.ensures.memory)
