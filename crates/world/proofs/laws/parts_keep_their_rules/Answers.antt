use Rattle.world.proofs.laws.parts_keep_their_rules.Goals as goal

pub returns-clause-clients : goal.returns-clause-clients
returns-clause-clients c = record {
  meets = c.requesters_meet_the_contract.ensures.steps;
  repeats = c.requesters_meet_the_contract.ensures.reminders;
  first = c.requesters_stay_sound.ensures.first;
  stays = c.requesters_stay_sound.ensures.steps;
  ranges = c.messages_are_in_range.ensures.steps;
  reminders = c.messages_are_in_range.ensures.reminders;
}

pub returns-clause-voters : goal.returns-clause-voters
returns-clause-voters c = record {
  meets = c.voters_meet_the_contract.ensures.steps;
  reminds = c.voters_meet_the_contract.ensures.reminders;
  numbers = c.grants_are_numbered.ensures;
  first = c.voters_stay_sound.ensures.first;
  stays = c.voters_stay_sound.ensures.steps;
  answers = c.replies_report_the_state.ensures.steps;
  places = c.replies_report_the_state.ensures.reminders;
  carries = c.replies_carry_what_was_seen.ensures.steps;
  remembers = c.replies_carry_what_was_seen.ensures.reminders;
}
