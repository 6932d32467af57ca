use Rattle.client_node.specs.Locks.{LockOutcome, leave_lock}
use Rattle.client_blocks.specs.Bytes.{IsLock}
use Rattle.client_blocks.proofs.HeldLemmas.{ends_done, left_calls, sent, written_lock}
use Rattle.client_blocks.proofs.locks.leave.Goals as goal

pub returns-clause-ends : goal.returns-clause-ends
returns-clause-ends c =
    let old = c.in_ok-lock.lock in
    let new = c.leave.new.self in
    let o : LockOutcome = record { out = c.leave.new.out.items; seen = c.in-Ok.field-0; lock = new } in
    let lock =
    written_lock c.args.client.now c.args.votes.now c.args.calls.now c.store_client.new.state c.store_votes.new.bytes old new c.client.result.now c.votes.result.now
    c.in_ok-lock.ensures.loaded (left_calls old o c.in-Ok.ensures.left) c.store_client.ensures c.client.ensures.client c.store_votes.ensures c.votes.ensures c.client.ensures.sound in
    ends_done leave_lock c.args.calls.now c.args.client.now c.store_client.new.state c.args.votes.now c.store_votes.new.bytes c.args.out.now c.put_to_voters.new.out
    c.put_to_voters.new.written old o c.in_ok-lock.ensures.loaded c.in_ok-lock.ensures.only c.in-Ok.ensures.left
    (sent c.as_slice.result.now c.leave.new.out.items c.args.out.now c.put_to_voters.new.out c.put_to_voters.new.written
    (IsLock c.store_client.new.state c.store_votes.new.bytes c.args.calls.now new) c.as_slice.ensures.value c.in_ok-put_to_voters.ensures.done lock)
