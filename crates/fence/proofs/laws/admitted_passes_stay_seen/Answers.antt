use Rattle.fence.proofs.FenceLemmas.{seen_now, seen_still}
use Rattle.fence.proofs.laws.admitted_passes_stay_seen.Goals as goal

pub returns-clause-admitted : goal.returns-clause-admitted
returns-clause-admitted c = seen_now

pub returns-clause-kept : goal.returns-clause-kept
returns-clause-kept c = seen_still
