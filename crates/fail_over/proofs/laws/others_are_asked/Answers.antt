use Rattle.fail_over.proofs.Example.{all_hindered, nobody_is_asked, none_has_room, one_has_room, one_is_asked, one_would_do, that_is_asked}
use Rattle.fail_over.proofs.laws.others_are_asked.Goals as goal

pub returns-clause-would_do : goal.returns-clause-would_do
returns-clause-would_do c = one_would_do

pub returns-clause-passes : goal.returns-clause-passes
returns-clause-passes c = one_is_asked

pub returns-clause-hindered : goal.returns-clause-hindered
returns-clause-hindered c = all_hindered

pub returns-clause-room : goal.returns-clause-room
returns-clause-room c = one_has_room

pub returns-clause-falls_back : goal.returns-clause-falls_back
returns-clause-falls_back c = that_is_asked

pub returns-clause-no_room : goal.returns-clause-no_room
returns-clause-no_room c = none_has_room

pub returns-clause-none : goal.returns-clause-none
returns-clause-none c = nobody_is_asked
