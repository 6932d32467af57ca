use Rattle.std.proofs.Common.{◌≡◌, ◌<◌, ap, sym, ◌∙◌, subst, lit<, length}
use Rattle.std.specs.List.{insert, position_or_len}
use Rattle.std.specs.Prelude.{not}
use Rattle.std.specs.FinMap as fin
use Rattle.std.specs.FinMap.{get}
use Rattle.message.specs.Requests.{precedes}
use Rattle.voter.specs.Waiting.{IsQueue, waiting_of}
use Rattle.voter.proofs.Queues.{IsNewClient, IsNew-from_get, waiting_of-placed, IsQueue-placed, length-IsQueue, insert-placed, placed}
use Rattle.voter.proofs.queue.Queue.add.Goals as goal

pub insert-requires : goal.insert-requires
insert-requires c =
    let old = c.self.inside.requests.items in
    let r = c.args.request in
    let new : IsNewClient r old = IsNew-from_get r old (ap (λ m. get m r.client) c.self.view_is ∙ c.requires.first) in
    let room : length old < 64 = length-IsQueue r old c.requires.client new c.self.invariant in
    (lit< tt, (rw (← c.as_slice.ensures.value) c.place_of-place.ensures.bound, room))

is_new : (c : goal.After-insert) → IsNewClient c.args.request c.self.inside.requests.items
is_new c = IsNew-from_get c.args.request _ (ap (λ m. get m c.args.request.client) c.self.view_is ∙ c.requires.first)

is_placed : (c : goal.After-insert) → c.insert.new.self.items ≡ placed c.args.request c.self.inside.requests.items
is_placed c =
    let r = c.args.request in
    c.insert.ensures.items
    ∙ ap (λ n. insert c.self.inside.requests.items n r) (c.place_of-place.ensures.place ∙ ap (position_or_len (λ q. not (precedes q r))) c.as_slice.ensures.value)
    ∙ insert-placed r c.self.inside.requests.items

pub invariant_of-self : goal.invariant_of-self
invariant_of-self c =
    subst IsQueue (sym (is_placed c)) (IsQueue-placed c.args.request c.self.inside.requests.items c.requires.client (is_new c) c.self.invariant)

pub returns : goal.returns
returns c =
    let r = c.args.request in
    ap waiting_of (is_placed c) ∙ waiting_of-placed r c.self.inside.requests.items (is_new c)
    ∙ ap (λ m. fin.insert m r.client r.stamp) c.self.view_is
