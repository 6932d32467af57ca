use Rattle.replay.proofs.Readings.{never_both, IsFirstBad-unique, script_text-unique}
use Rattle.replay.proofs.laws.texts_are_read_in_one_way.Goals as goal

pub returns-clause-script : goal.returns-clause-script
returns-clause-script g c = script_text-unique g.L.Line.form g.met.L.Line.is_form

pub returns-clause-line : goal.returns-clause-line
returns-clause-line g c = IsFirstBad-unique g.L.Line.form g.met.L.Line.is_form

pub returns-clause-never_both : goal.returns-clause-never_both
returns-clause-never_both g c = never_both g.L.Line.form g.met.L.Line.is_form
