use Rattle.std.proofs.Common.{ℕ, ap, ◌∙◌, subst}
use Rattle.node.specs.Mail.{IsMail}
use Rattle.members.specs.Members.{MemberState}
use Rattle.members.proofs.member.Member.pump.Goals as goal

pub returns-clause-pumped : goal.returns-clause-pumped
returns-clause-pumped g c =
    let id = c.id.ensures.value ∙ ap (λ (m : MemberState). m.requester.id) c.self.view_is in
    (_, subst (λ (n : ℕ). IsMail g.N.ClusterName.cluster.board n c.in_ok-message.message) id c.in_ok-message.ensures, c.meet.ensures.met)
