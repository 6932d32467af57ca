use Rattle.lock_node.proofs.SoundLemmas.{sound_first, sound_turns}
use Rattle.lock_node.proofs.thrift.votes_stay_sound.Goals as goal

pub returns-clause-first : goal.returns-clause-first
returns-clause-first c = sound_first

pub returns-clause-turns : goal.returns-clause-turns
returns-clause-turns c = sound_turns
