use Rattle.std.proofs.Common.{◌≡◌, true, false, [], Some, refl, sym, ap, ◌∙◌, subst, rules}
use Rattle.quorum_set.specs.declared.bridge.Side.{Side}
use Rattle.board.specs.Quorums.{place_of, quorum_at}
use Rattle.requester.specs.Steps.{ask, ask_fault}
use Rattle.requester.specs.Words.{is_idle, is_spent}
use Rattle.dealer.specs.Offices.{RefusesTicket}
use Rattle.clerks.specs.Clerks.{rest_of}
use Rattle.members.specs.Members.{MayAsk, MemberState}
use Rattle.members.proofs.MemberLemmas.{IsMember-asked, Ok-not_Err, RefusesAsk-ticket, ask-Ok}
use Rattle.members.proofs.member.Member.ask.Goals as goal

pub returns-in-Some-clause-refused : goal.returns-in-Some-clause-refused
returns-in-Some-clause-refused g c =
    subst (λ (m : MemberState). ask_fault m.requester ≡ Some c.in-Some.fault) c.self.view_is (sym c.in-Some.ensures.fault)

pub returns-in-Err-clause-refused : goal.returns-in-Err-clause-refused
returns-in-Err-clause-refused g c =
    let asked = c.in_default.ensures.asked [] in
    RefusesAsk-ticket c.args.self.now c.in-Err.fault
    (subst (λ (m : MemberState). (is_idle m.requester.phase ≡ true) × (is_spent m.requester ≡ false)) c.self.view_is (ask-Ok c.self.inside.requester [] _ asked))
    (subst (λ (m : MemberState). RefusesTicket (rest_of m.clerks m.clerks.side) c.in-Err.fault) c.self.view_is c.in-Err.ensures.err)

pub unreachable-requires : goal.unreachable-requires
unreachable-requires g c =
    let asked = c.in_default.ensures.asked c.quorum-quorum.result.now in
    Ok-not_Err (ask c.self.inside.requester c.quorum-quorum.result.now) _ _ asked c.in_default-ask_into.ensures.refused.0

pub send-losses-requires : goal.send-losses-requires
send-losses-requires g c =
    let quorum = c.quorum-quorum.ensures in
    let drawn = c.in-Ok.ensures in
    record {
      held = (IsMember-asked _ _ _ _ _ _ c.self.invariant c.clients_keep_their_laws.ensures _ _ c.in-Ok-ask_into.ensures.asked quorum.set quorum.some c.draw.new.self
          c.in-Ok.receipt drawn.kept drawn.some _ quorum.in_range quorum.value).held;
    }

pub invariant_of-self-2 : goal.invariant_of-self-2
invariant_of-self-2 g c =
    let quorum = c.quorum-quorum.ensures in
    let drawn = c.in-Ok.ensures in
    IsMember-asked _ _ _ _ _ _ c.self.invariant c.clients_keep_their_laws.ensures _ _ c.in-Ok-ask_into.ensures.asked quorum.set quorum.some c.draw.new.self c.in-Ok.receipt
    drawn.kept drawn.some _ quorum.in_range quorum.value

pub returns-clause-asked : goal.returns-clause-asked
returns-clause-asked g c =
    let board = g.N.ClusterName.cluster.board in
    let plan = c.side-side.ensures ∙ ap (λ (m : MemberState). m.clerks.side) c.self.view_is in
    let quorum = c.quorum-quorum.ensures.value ∙ ap (λ (s : Side). quorum_at board.quorums (place_of board.firsts s c.in-Ok.receipt.quorum)) plan in
    (_, sym (λ i. ask (c.self.view_is i).requester (quorum i)) ∙ c.in-Ok-ask_into.ensures.asked, (refl, search rules))

pub returns-clause-may : goal.returns-clause-may
returns-clause-may g c =
    let start = ask-Ok c.self.inside.requester _ _ c.in-Ok-ask_into.ensures.asked in
    subst MayAsk c.self.view_is (start.0, start.1, c.in-Ok.ensures.some)
