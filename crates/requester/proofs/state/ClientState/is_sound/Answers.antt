use Rattle.std.proofs.Common.{sym, ◌∙◌}
use Rattle.std.proofs.lemmas.Bool.{false≢true}
use Rattle.requester.specs.Words.{is_covered, is_inside}
use Rattle.requester.proofs.SavedLemmas.{IsSound-from, implied}
use Rattle.requester.proofs.state.ClientState.is_sound.Goals as goal
use Rattle.requester.proofs.state.ClientState.is_sound.Goals.{then-has_sound_numbers, else-has_sound_numbers}

pub returns-then-is_covered_if_inside-clause-sound : goal.returns-then-is_covered_if_inside-clause-sound
returns-then-is_covered_if_inside-clause-sound c = λ e. elim c.if-has_sound_numbers.branch [
  | then-has_sound_numbers w ↦
      let self = c.args.self.now in
      IsSound-from self c.requires.id c.requires.places c.requires.quorum c.requires.sets (sym c.has_sound_numbers.ensures ∙ w.if-has_sound_numbers.true)
      (implied (is_inside self.phase) (is_covered self) (sym w.is_covered_if_inside.ensures ∙ sym w.value-is ∙ c.if-is_covered_if_inside.true)) (c.are_votes_sound.ensures.all e)
  | else-has_sound_numbers w ↦ absurd (false≢true (sym w.if-has_sound_numbers.false ∙ sym w.value-is ∙ c.if-is_covered_if_inside.true))
]
