mod AnswerLemmas
mod RunLemmas
mod SoundRecords
