use Rattle.std.proofs.Common.{List, ℕ, ◌∷◌, ◌++◌, None, Some, ap, sym, ◌∙◌}
use Rattle.texts.proofs.CutLemmas.{cut_at-Some}
use Rattle.texts.specs.Forms.{line_of}
use Rattle.texts.proofs.LineLemmas.{cut_first, same_pair}
use Rattle.texts.proofs.reading.next_line.Goals as goal

pub returns-in-Some-read_line : goal.returns-in-Some-read_line
returns-in-Some-read_line g c = record {
  has_line = c.in-Some-read_line.ensures.written.0;
  text_is =
      cut_at-Some 10 c.args.text.now (c.in-Some.line.now, c.in-Some.rest.now) (sym c.in-Some.ensures)
      ∙ ap (λ (t : List ℕ). t ++ 10 ∷ c.in-Some.rest.now) c.in-Some-read_line.ensures.written.1;
}

pub returns-in-None-read_line : goal.returns-in-None-read_line
returns-in-None-read_line g c = λ x more h e.
    let form = g.L.Line.form in
    let cut = cut_first form g.met.L.Line.is_form c.args.text.now (Some (c.in-Some.line.now, c.in-Some.rest.now)) c.in-Some.ensures x more h e in
    let parts = same_pair c.in-Some.line.now (line_of form x) c.in-Some.rest.now more cut in
    let same = c.in-None-read_line.ensures.read x h parts.0 in
    cc

pub returns-in-None : goal.returns-in-None
returns-in-None g c = λ x more h e. let cut = cut_first g.L.Line.form g.met.L.Line.is_form c.args.text.now None c.in-None.ensures x more h e in cc
