use Rattle.progress.proofs.laws.worlds_keep_their_rules.Goals as goal

pub returns : goal.returns
returns c = record {
  client = record {
    meets = c.requesters_meet_the_contract.ensures.steps;
    clock = c.clocks_never_fall.ensures;
    inside = c.phases_show_votes.ensures.inside;
    busy = c.phases_show_refusals.ensures.busy;
    released = c.old_votes_go_back.ensures;
    votes = c.messages_move_votes.ensures.votes;
    requests = c.reminders_ask_again.ensures.asks;
    returns = c.reminders_ask_again.ensures.gives;
    repeats = c.requesters_meet_the_contract.ensures.reminders;
    in_range = c.messages_are_in_range.ensures.reminders;
    hinders = c.hindered_clients_give_votes_back.ensures.hinders;
    gives = c.hindered_clients_give_votes_back.ensures.gives;
    left = c.phases_show_refusals.ensures.left;
  };
  voter = record {
    meets = c.voters_meet_the_contract.ensures.steps;
    repeats = c.voters_meet_the_contract.ensures.reminders;
    numbers = c.grants_are_numbered.ensures;
    carries = c.replies_carry_what_was_seen.ensures.steps;
    remembers = c.replies_carry_what_was_seen.ensures.reminders;
    stays = c.requests_stay.ensures;
    first = c.votes_go_to_the_first.ensures;
    reminds = c.reminders_repeat_the_vote.ensures;
    takes = c.voters_with_grants_take_messages.ensures;
    ends = c.releases_end_requests.ensures;
    finishes = c.messages_finish_requests.ensures;
    goes_on = c.votes_given_back_go_on.ensures;
    taken_up = c.requests_are_taken_up.ensures;
    asks_first = c.votes_are_asked_back.ensures.first;
    asks_back = c.votes_are_asked_back.ensures.steps;
  };
  coherent = c.worlds_stay_coherent.ensures;
}
