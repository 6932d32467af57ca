use Rattle.own_stamps.proofs.OwnerLemmas.{keeps_forgotten, keeps_heard, keeps_later, keeps_new, keeps_renewed}
use Rattle.own_stamps.proofs.laws.sessions_keep_what_they_heard.Goals as goal

pub returns-clause-new : goal.returns-clause-new
returns-clause-new c = keeps_new

pub returns-clause-renews : goal.returns-clause-renews
returns-clause-renews c = keeps_renewed

pub returns-clause-hears : goal.returns-clause-hears
returns-clause-hears c = keeps_heard

pub returns-clause-forgets : goal.returns-clause-forgets
returns-clause-forgets c = keeps_forgotten

pub returns-clause-later : goal.returns-clause-later
returns-clause-later c = keeps_later
