use Rattle.voter.proofs.SavedLemmas.{is_none_in_front}
use Rattle.voter.proofs.state.VoterState.has_sound_vote.Goals as goal

pub returns-in-None-clause-read : goal.returns-in-None-clause-read
returns-in-None-clause-read c = λ kept. is_none_in_front c.args.self.now.waiting c.front.result c.is_none-in-None.result c.front.ensures c.is_none-in-None.ensures (kept.sound.free c.in-None.is)
