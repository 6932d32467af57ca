use Rattle.std.proofs.Common.{◌≡◌, ◌++◌, length}
use Rattle.texts.specs.Forms.{HaveLines, text_of}
use Rattle.texts.proofs.reading.first_lines.Given as goal

-- the lines so far stand before the rest
abbrev pub invariant-lines : goal.invariant-lines
invariant-lines g l = record {
  have_lines : HaveLines g.L.Line.form l.values.items;
  text_is : l.text ≡ text_of g.L.Line.form l.values.items ++ l.rest;
}

abbrev pub decreases-lines : goal.decreases-lines
decreases-lines g l = length l.rest
