use Rattle.std.proofs.Common.{[]}
use Rattle.texts.proofs.LineLemmas.{same_cut}
use Rattle.replay.proofs.Readings.{Lacks-script_line}
use Rattle.replay.proofs.laws.lines_end.Goals as goal

pub returns : goal.returns
returns g c = λ line other more h k e.
    let lacks = Lacks-script_line g.L.Line.form g.met.L.Line.is_form in
    (same_cut line more other [] (lacks line h) (lacks other k) e).1
