use Rattle.std.proofs.Common.{◌∙◌, sym, ap}
use Rattle.requester.specs.Words.{is_inside}
use Rattle.fence.proofs.GrantLemmas.{shows_if_inside}
use Rattle.fence.proofs.shown.pass_of.Goals as goal

pub returns-in-Inside : goal.returns-in-Inside
returns-in-Inside c = shows_if_inside c.args.client.now c.of.result c.grants_of.result c.phase.ensures.sound
    (ap is_inside (sym c.phase.ensures.value ∙ c.in-Inside.is)) c.grants_of.ensures c.of.ensures
