use Rattle.std.proofs.Common.{◌≡◌, ◌<◌, ◌≤◌, ◌^◌, ◌++◌, ◌∷◌, [], None, List, IsSome, IfSome, sym, ap, ◌∙◌, subst}
use Rattle.message.specs.declared.message.ToVoter.{ToVoter}
use Rattle.voter.specs.declared.state.Effect.{Effect}
use Rattle.voter.specs.Steps.{Outcome, effect_of}
use Rattle.board.specs.Seats.{BoardState, VoterSeatState as SeatState}
use Rattle.node.specs.Nodes.{NodeState, IsFor, IsNode, offer_grant, settle_grant}
use Rattle.node.proofs.NodeLemmas.{AreOf-AllCarry, Took, held-from_frees, not_refused, may_offer, IsNode-offer_grant}
use Rattle.node.proofs.node.Node.take_into.Given.{Over}
use Rattle.node.proofs.node.Node.take_into.Goals.{After-held}
use Rattle.node.proofs.node.Node.take_into.Goals as goal

pub settle-requires-clause-current : goal.settle-requires-clause-current
settle-requires-clause-current g c = λ e.
    subst IsSome (sym c.self.invariant.current) ((held-from_frees c.self.inside.voter c.args.message.now (ap (λ (x : Effect). x.frees) (sym c.effect-effect.ensures) ∙ e)))

pub unreachable-requires : goal.unreachable-requires
unreachable-requires g c =
    not_refused c.self.inside.voter c.args.message.now (ap (λ (x : Effect). x.refused) (sym c.effect-effect.ensures) ∙ c.if-effect.false) c.in_default.ensures.refused.0

-- what the voter's step is known for, and the seat after the settling
took : (g : Over) (c : After-held g)
    → Took g.N.ClusterName.cluster.board c.self.inside.voter c.self.inside.log.items c.self.inside.seat c.args.message.now
    (record { replies = c.take_into.new.replies.items; state = c.take_into.new.self })
took g c =
    let v = c.self.inside.voter in
    let m = c.args.message.now in
    let o : Outcome = record { replies = c.take_into.new.replies.items; state = c.take_into.new.self } in
    let s = c.in-Ok.ensures.taken in
    record {
      node = c.self.invariant;
      meant = subst (λ (n : NodeState). IsFor g.N.ClusterName.cluster.board n.number m) (sym c.self.view_is) c.requires.message;
      took = s;
      laws = c.voters_keep_their_laws.ensures.steps v m o c.self.invariant.sound s;
    }

seat_settled : (g : Over) (c : After-held g)
    → c.settle.new.seat ≡ settle_grant (effect_of c.self.inside.voter c.args.message.now).frees c.self.inside.seat
seat_settled g c =
    c.if-not-settle.ensures.settled ∙ ap (λ (x : Effect). settle_grant x.frees c.self.inside.seat) c.effect-effect.ensures

pub offer-requires-clause-next : goal.offer-requires-clause-next
offer-requires-clause-next g c =
    let at = (goal.at.offer-requires-clause-next g c).After-held in
    subst (λ (p : BoardState × SeatState). p.1.current ≡ None → IfSome c.held.result (λ h. (h.client < p.0.clients) × (p.1.last < h.grant) × (h.grant ≤ 2 ^ 40)))
    (λ i. (sym c.requires.board i, sym (seat_settled g at) i))
    (may_offer g.N.ClusterName.cluster.board c.self.inside.voter c.self.inside.log.items c.self.inside.seat c.args.message.now _
    (took g at) c.held.result (sym c.held.ensures))

pub invariant_of-self-2 : goal.invariant_of-self-2
invariant_of-self-2 g c =
    let at = (goal.at.invariant_of-self-2 g c).After-held in
    let m = c.args.message.now in
    let log = c.self.inside.log.items in
    let board = g.N.ClusterName.cluster.board in
    let after : c.offer.new.seat ≡ offer_grant c.take_into.new.self.held (settle_grant (effect_of c.self.inside.voter m).frees c.self.inside.seat) =
    c.offer.ensures ∙ (λ i. offer_grant (c.held.ensures i) (seat_settled g at i)) in
    let pushed : c.push_reserved.new.self.items ≡ log ++ m ∷ [] = c.push_reserved.ensures.items ∙ ap (λ (l : List ToVoter). l ++ m ∷ []) c.in_ok-reserve.ensures.items in
    subst (λ (p : List ToVoter × SeatState). IsNode board c.take_into.new.self p.0 p.1) (λ i. (sym pushed i, sym after i))
    (IsNode-offer_grant board c.self.inside.voter log c.self.inside.seat m _ (took g at))

pub invariant_of-outbox : goal.invariant_of-outbox
invariant_of-outbox g c =
    let t = took g (goal.at.invariant_of-outbox g c).After-held in
    AreOf-AllCarry _ _ _ c.take_into.new.replies.items (t.node.id ∙ sym t.meant.voter_is) t.laws.carry.carried
