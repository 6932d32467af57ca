use Rattle.stories.proofs.GuardLemmas.{older_is}
use Rattle.stories.proofs.guard.first_older.Goals as goal

pub returns-clause-value : goal.returns-clause-value
returns-clause-value c = older_is c.args.seen.now c.args.grants.now c.find_older.result c.find_older.ensures.older c.find_older.ensures.first c.find_older.ensures.none
