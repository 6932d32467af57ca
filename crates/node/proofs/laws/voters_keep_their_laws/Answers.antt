use Rattle.node.proofs.laws.voters_keep_their_laws.Goals as goal

pub returns : goal.returns
returns c = record {
  first = c.voters_stay_sound.ensures.first;
  steps = λ v m o sound is. record {
    moves = c.grants_are_numbered.ensures v m o sound is;
    meets = c.voters_meet_the_contract.ensures.steps v m o is;
    carry = c.replies_carry_what_was_seen.ensures.steps v m o is;
    sound = c.voters_stay_sound.ensures.steps v m o sound is;
  };
  reminders = c.replies_carry_what_was_seen.ensures.reminders;
}
