use Rattle.texts.proofs.LineLemmas.{HaveLines-push, text_of-next}
use Rattle.texts.proofs.reading.first_lines.Goals as goal

pub lines-preserved : goal.lines-preserved
lines-preserved g c =
    let form = g.L.Line.form in
    let found = c.lines.values.items in
    let line = c.in-Some.line in
    record {
      have_lines = rw c.in_ok-push.ensures.items (HaveLines-push form found line.0 c.lines.invariant.have_lines c.in-Some.ensures.has_line);
      text_is = rw c.in_ok-push.ensures.items (text_of-next form found line.0 c.args.text.now c.lines.rest.now line.1.now c.lines.invariant.text_is c.in-Some.ensures.text_is);
    }
