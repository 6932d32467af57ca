use Rattle.std.proofs.Common.{◌≡◌, refl, sym, subst, ap, ◌∙◌, length, List, ℕ, Ok, Err}
use Rattle.std.specs.Vec.{with_items}
use Rattle.message.specs.declared.message.ToVoter.{ToVoter}
use Rattle.quorum_set.specs.declared.bridge.Side.{Side}
use Rattle.requester.specs.declared.state.ClientState.{ClientState}
use Rattle.requester.specs.Steps as client
use Rattle.requester.specs.Steps.{Asks}
use Rattle.world_state.specs.declared.state.State.{State}
use Rattle.world_state.specs.States.{contents_of}
use Rattle.world_state.specs.Steps.{Refuses, client_at, draw, draw_of, next_ticket, quorum_dealt, step}
use Rattle.world_state.proofs.Acts.{ask-Ok, ask-Err, without_room, world_with_client, with_items-items}
use Rattle.world_state.proofs.Refused.{if_client-below, if_client-missing, refuses}
use Rattle.world_state.proofs.state.State.ask.Goals.{After-tell, in-First, in-Second}
use Rattle.world_state.proofs.state.State.ask.Goals as goal

pub returns-in-Some : goal.returns-in-Some
unfolding step
returns-in-Some c = λ deal is. (refuses _ _ (if_client-missing c.args.client (length c.args.self.now.clients.items) _ c.in-Some.fault c.in-Some.ensures.missing), refl)

pub returns-then-not-room : goal.returns-then-not-room
unfolding step client.step
returns-then-not-room c = λ deal is.
    let below = if_client-below c.args.client (length c.args.self.now.clients.items) _ c.in_default.ensures.found in
    let w = contents_of c.args.self.now in
    let own = without_room (draw w c.args.client) w c.deref.result.now c.client_of.result.now c.args.client (Asks (quorum_dealt deal c.args.self.now.side (next_ticket w)))
    c.ask_fault.result _ c.without_room.result c.deref.ensures.value c.client_of.ensures (c.ask_fault.ensures.asked _) c.without_room.ensures.own c.without_room.ensures.none in
    (subst (λ r. Refuses r c.without_room.result) (sym below) own, refl)

-- the world once the ticket is drawn
drawn : (c : After-tell) → contents_of c.match-self.self ≡ record (draw (contents_of c.args.self.now) c.args.client) { clients = (with_items c.args.self.now.clients c.ask.new.clients).items }
drawn c =
    let w = contents_of c.args.self.now in
    let cs = (with_items c.args.self.now.clients c.ask.new.clients).items in
    elim c.match-self.branch [
      | in-First b ↦
          ap (λ (s : State). contents_of s) b.self-is ∙ ap (λ (d : List (ℕ × ℕ)). record w { clients = cs; draws = d }) b.draw.ensures
          ∙ ap (λ (side : Side). record (draw_of side w c.args.client) { clients = cs }) (sym b.in-First.is)
      | in-Second b ↦
          ap (λ (s : State). contents_of s) b.self-is ∙ ap (λ (d : List (ℕ × ℕ)). record w { clients = cs; draws2 = d }) b.draw-in-Second.ensures
          ∙ ap (λ (side : Side). record (draw_of side w c.args.client) { clients = cs }) (sym b.in-Second.is)
    ]

-- the messages are still those of the client
heard : (c : After-tell) → c.match-self.self.out.items ≡ c.ask.new.out.items
heard c = elim c.match-self.branch [
  | in-First b ↦ ap (λ (s : State). s.out.items) b.self-is
  | in-Second b ↦ ap (λ (s : State). s.out.items) b.self-is
]

pub returns-after-self : goal.returns-after-self
unfolding step
returns-after-self c = λ deal is.
    let at = (goal.at.returns-after-self c).After-tell in
    let w = contents_of c.args.self.now in
    let quorum : List ℕ = quorum_dealt deal c.args.self.now.side (next_ticket w) in
    let cs = (with_items c.args.self.now.clients c.ask.new.clients).items in
    if_client-below c.args.client (length c.args.self.now.clients.items) _ c.in_default.ensures.found
    ∙ ask-Ok w c.deref_mut.result.now c.ask.new.clients cs c.args.client quorum c.ask.new.out.items c.in-Ok.seen c.tell.result (contents_of c.tell.new.self) c.deref_mut.ensures.value
    (subst (λ (q : List ℕ). client.step (client_at c.deref_mut.result.now c.args.client) (Asks q) ≡ Ok
    (record { out = c.ask.new.out.items; seen = c.in-Ok.seen; state = client_at c.ask.new.clients c.args.client })) (sym is) c.in-Ok.ensures.asked)
    c.in-Ok.ensures.others (with_items-items c.args.self.now.clients c.deref_mut.result.now c.ask.new.clients c.args.client _ c.deref_mut.ensures.value c.in-Ok.ensures.others)
    (c.tell.ensures.sent ∙ ap (λ (l : List ToVoter). length l) (heard at)) c.tell.ensures.seen
    (c.tell.ensures.state ∙ (λ i. world_with_client (drawn at i) (drawn at i).clients c.args.client (heard at i) c.in-Ok.seen))

pub returns-in-Err : goal.returns-in-Err
unfolding step
returns-in-Err c = λ deal is.
    let quorum : List ℕ = quorum_dealt deal c.args.self.now.side (next_ticket (contents_of c.args.self.now)) in (
      refuses _ _ (if_client-below c.args.client (length c.args.self.now.clients.items) _ c.in_default.ensures.found
          ∙ ask-Err (contents_of c.args.self.now) c.deref_mut.result.now (client_at c.deref_mut.result.now c.args.client) c.args.client quorum c.in-Err.fault c.deref_mut.ensures.value refl
          (subst (λ (q : List ℕ). client.step (client_at c.deref_mut.result.now c.args.client) (Asks q) ≡ Err c.in-Err.fault) (sym is) c.in-Err.ensures.refused.0)),
      ap (λ (l : List ClientState). record (contents_of c.args.self.now) { clients = l })
          (with_items-items c.args.self.now.clients c.deref_mut.result.now c.ask.new.clients c.args.client _ c.deref_mut.ensures.value c.in-Err.ensures.others
          ∙ c.in-Err.ensures.refused.1 ∙ c.deref_mut.ensures.value),
    )
