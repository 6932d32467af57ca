use Rattle.std.proofs.Common.{refl, rules}
use Rattle.std.specs.FinMap.{get}
use Rattle.std.proofs.lemmas.Iterator.{YieldsList-from_range}
use Rattle.std.proofs.lemmas.Iterator.Search.{any_from_yields_List}
use Rattle.numbers.specs.Bounds.{max_clients}
use Rattle.quiet_time.specs.Quiet.{is_awaited, waits_inside}
use Rattle.quiet_time.proofs.since_start.SinceStart.is_awaited.Goals as goal

pub returns : goal.returns
unfolding is_awaited
returns c =
    any_from_yields_List (λ client. waits_inside c.args.self.now client (get c.args.voter.now.waiting client)) _ _ _
    c.any.ensures.ran (YieldsList-from_range 0 max_clients 64 refl refl) (λ x b q called. search rules)
