use Rattle.lost_rows.proofs.Learning.{each_kept, first_kept}
use Rattle.lost_rows.proofs.laws.rows_that_learn_all_keep_all.Goals as goal

pub returns-clause-before : goal.returns-clause-before
returns-clause-before c = first_kept c.what_is_relearned_is_kept.ensures.before

pub returns-clause-each : goal.returns-clause-each
returns-clause-each c = each_kept c.what_is_relearned_is_kept.ensures.before c.what_is_relearned_is_kept.ensures.other
