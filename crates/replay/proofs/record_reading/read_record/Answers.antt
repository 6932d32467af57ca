use Rattle.std.proofs.Common.{refl, inl}
use Rattle.replay.proofs.RecordReadings.{never_both, read_back}
use Rattle.replay.proofs.record_reading.read_record.Goals as goal

pub returns-in-Some-clause-read : goal.returns-in-Some-clause-read
returns-in-Some-clause-read c = read_back c.args.text.now c.in-Some.body.now c.read_body.result c.in-Some.ensures c.read_body.ensures.written c.read_body.ensures.bad

pub returns-in-None-clause-read : goal.returns-in-None-clause-read
returns-in-None-clause-read c = λ e h is. absurd (never_both c.args.text.now 1 e (inl (refl, c.in-None.ensures)) h is)

pub returns-in-Some-clause-first : goal.returns-in-Some-clause-first
returns-in-Some-clause-first c = λ none. absurd (none c.in-Some.body.now c.in-Some.ensures)
