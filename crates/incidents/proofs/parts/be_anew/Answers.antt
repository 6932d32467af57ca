use Rattle.std.proofs.Common.{◌≡◌, ◌<◌, List, sym, ap, subst, ◌∙◌}
use Rattle.requester.specs.declared.state.ClientState.{ClientState}
use Rattle.world.specs.States.{saved_of}
use Rattle.world_state.specs.States.{contents_of}
use Rattle.world_state.specs.Steps.{client_at}
use Rattle.incidents.proofs.CallLemmas.{starts_as}
use Rattle.incidents.proofs.parts.be_anew.Goals as goal

pub returns-clause-anew : goal.returns-clause-anew
returns-clause-anew c =
    let s = saved_of c.args.stored.now in
    let there = c.in_default.ensures.found in
    let who : c.client_of-who.result.now ≡ client_at s.live.clients c.args.client = c.client_of-who.ensures ∙ ap (λ (l : List ClientState). client_at l c.args.client) c.deref.ensures.value in
    starts_as s c.args.client c.args.clock c.limit_of-limit.result c.client_of-who.result.now (contents_of c.make_room.new.self) c.make_anew.new.clients.items (saved_of c.bring_client_back.new.stored)
    (subst (λ n. c.args.client < n) (sym c.requires.stored.clients) there) who (ap (λ (x : ClientState). x.id) who ∙ c.requires.numbered.clients c.args.client there) c.limit_of-limit.ensures.value
    c.make_room.ensures.same c.make_anew.ensures c.bring_client_back.ensures
