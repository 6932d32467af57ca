use Rattle.std.proofs.Common.{sym, ap}
use Rattle.show_failures.specs.Resilience.{answer_words}
use Rattle.show_failures.proofs.WithoutLemmas.{not_borne_if_all_meet}
use Rattle.show_failures.proofs.resilience.answer_for.Goals as goal

pub returns-else-bears : goal.returns-else-bears
returns-else-bears c = ap answer_words (sym (not_borne_if_all_meet c.args.coterie.now.quorums c.args.group.now (c.bears.ensures.no c.if-bears.false)))
