use Rattle.client_blocks.proofs.HeldLemmas.{wanted_done}
use Rattle.client_blocks.proofs.locks.wants.Goals as goal

pub returns-clause-wants : goal.returns-clause-wants
returns-clause-wants c =
    wanted_done c.args.client.now c.args.votes.now c.args.calls.now c.store_calls.new.bytes c.args.tries c.want.result c.in_ok-lock.lock c.want.new.lock
    c.calls.result.now c.in_ok-lock.ensures.loaded c.in_ok-lock.ensures.only c.want.ensures.wanted c.store_calls.ensures c.calls.ensures c.want.ensures.why
