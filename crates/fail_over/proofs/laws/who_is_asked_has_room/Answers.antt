use Rattle.fail_over.proofs.ChoiceLemmas.{asks_nobody, asks_with_room}
use Rattle.fail_over.proofs.laws.who_is_asked_has_room.Goals as goal

pub returns-clause-room : goal.returns-clause-room
returns-clause-room c = asks_with_room

pub returns-clause-none : goal.returns-clause-none
returns-clause-none c = asks_nobody
