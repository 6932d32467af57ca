use Rattle.members.proofs.laws.clients_keep_their_laws.Goals as goal

pub returns : goal.returns
returns c = record {
  sound = c.requesters_stay_sound.ensures.steps;
  meets = c.requesters_meet_the_contract.ensures.steps;
  of_members = c.phases_show_votes.ensures.of_members;
  idle = c.phases_show_votes.ensures.idle;
  asked = c.phases_show_votes.ensures.asked;
  left = c.phases_show_votes.ensures.left;
  given_up = c.phases_show_votes.ensures.given_up;
}
