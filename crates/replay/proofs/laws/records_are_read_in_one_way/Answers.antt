use Rattle.std.proofs.Common.{[], ◌∙◌}
use Rattle.std.proofs.lemmas.List.{append-nil}
use Rattle.replay.specs.RecordTexts.{record_text}
use Rattle.replay.proofs.RecordReadings.{never_both, IsFirstBad-unique, record_text-unique}
use Rattle.replay.proofs.laws.records_are_read_in_one_way.Goals as goal

pub returns-clause-record : goal.returns-clause-record
returns-clause-record c = λ a b ha hb e. (record_text-unique a b [] ha hb (append-nil (record_text a) ∙ e)).0

pub returns-clause-end : goal.returns-clause-end
returns-clause-end c = λ a b more ha hb e. (record_text-unique a b more ha hb e).1

pub returns-clause-line : goal.returns-clause-line
returns-clause-line c = IsFirstBad-unique

pub returns-clause-never_both : goal.returns-clause-never_both
returns-clause-never_both c = never_both
