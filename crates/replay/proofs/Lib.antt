mod AscendingLemmas
mod DrawLemmas
mod RecordReadings
mod OutputLemmas
mod Readings
mod SoundLemmas
