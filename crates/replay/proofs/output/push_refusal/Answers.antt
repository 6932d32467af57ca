use Rattle.replay.proofs.output.push_refusal.Goals as goal

pub returns-in-NoSuchClient : goal.returns-in-NoSuchClient
returns-in-NoSuchClient c = rw c.in-NoSuchClient.is c.write-in-NoSuchClient.ensures.bytes
