use Rattle.std.proofs.Common.{refl}
use Rattle.std.specs.Vec.{with_items}
use Rattle.requester.specs.Steps as client
use Rattle.requester.specs.Steps.{Takes}
use Rattle.world_state.specs.States.{contents_of}
use Rattle.world_state.proofs.Acts.{act-Ok, with_items-items}
use Rattle.world_state.proofs.state.State.take.Goals as goal

pub returns-then-not-room : goal.returns-then-not-room
unfolding client.step
returns-then-not-room c = (refl, refl)

pub returns : goal.returns
returns c =
    act-Ok (contents_of c.args.self.now) c.deref_mut.result.now c.take-seen.new.clients (with_items c.args.self.now.clients c.take-seen.new.clients).items c.args.message.now.client
    (Takes c.args.message.now)
    c.take-seen.new.out.items c.take-seen.result c.tell.result (contents_of c.tell.new.self) c.deref_mut.ensures.value
    c.take-seen.ensures.taken
    c.take-seen.ensures.others (with_items-items c.args.self.now.clients c.deref_mut.result.now c.take-seen.new.clients c.args.message.now.client _ c.deref_mut.ensures.value
    c.take-seen.ensures.others)
    c.tell.ensures.sent c.tell.ensures.seen c.tell.ensures.state
