use Rattle.std.proofs.Common.{refl, sym, subst, ap, ◌∙◌, length, List}
use Rattle.std.specs.Vec.{with_items}
use Rattle.requester.specs.declared.state.ClientState.{ClientState}
use Rattle.world_state.specs.States.{cause_of, contents_of}
use Rattle.world_state.specs.Steps.{Refuses, client_at}
use Rattle.world_state.proofs.Acts.{act-Ok, act-Err, without_room, with_items-items}
use Rattle.world_state.proofs.Refused.{if_client-below, if_client-missing, refuses}
use Rattle.world_state.proofs.state.State.end.Goals as goal

pub returns-in-Some : goal.returns-in-Some
returns-in-Some c = (refuses _ _ (if_client-missing c.args.client (length c.args.self.now.clients.items) _ c.in-Some.fault c.in-Some.ensures.missing), refl)

pub returns-then-not-room : goal.returns-then-not-room
returns-then-not-room c =
    let below = if_client-below c.args.client (length c.args.self.now.clients.items) _ c.in_default.ensures.found in
    let w = contents_of c.args.self.now in
    let own = without_room w w c.deref.result.now c.client_of-who.result.now c.args.client (cause_of c.args.ending) c.end_fault.result _ c.without_room.result c.deref.ensures.value
    c.client_of-who.ensures c.end_fault.ensures c.without_room.ensures.own c.without_room.ensures.none in
    (subst (λ r. Refuses r c.without_room.result) (sym below) own, refl)

pub returns-in-Ok : goal.returns-in-Ok
returns-in-Ok c =
    if_client-below c.args.client (length c.args.self.now.clients.items) _ c.in_default.ensures.found
    ∙ act-Ok (contents_of c.args.self.now) c.deref_mut.result.now c.end.new.clients (with_items c.args.self.now.clients c.end.new.clients).items c.args.client (cause_of c.args.ending)
    c.end.new.out.items c.in-Ok.seen c.tell.result (contents_of c.tell.new.self) c.deref_mut.ensures.value
    c.in-Ok.ensures.ended
    c.in-Ok.ensures.others (with_items-items c.args.self.now.clients c.deref_mut.result.now c.end.new.clients c.args.client _ c.deref_mut.ensures.value c.in-Ok.ensures.others)
    c.tell.ensures.sent c.tell.ensures.seen c.tell.ensures.state

pub returns-in-Err : goal.returns-in-Err
returns-in-Err c = (
  refuses _ _ (if_client-below c.args.client (length c.args.self.now.clients.items) _ c.in_default.ensures.found
      ∙ act-Err (contents_of c.args.self.now) c.deref_mut.result.now (client_at c.deref_mut.result.now c.args.client) c.args.client (cause_of c.args.ending) c.in-Err.fault c.deref_mut.ensures.value
      refl c.in-Err.ensures.refused.0),
  ap (λ (l : List ClientState). record (contents_of c.args.self.now) { clients = l })
      (with_items-items c.args.self.now.clients c.deref_mut.result.now c.end.new.clients c.args.client _ c.deref_mut.ensures.value c.in-Err.ensures.others
      ∙ c.in-Err.ensures.refused.1 ∙ c.deref_mut.ensures.value),
)
