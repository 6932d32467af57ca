use Rattle.std.proofs.Common.{rules}
use Rattle.std.specs.Prelude.{codes}
use Rattle.texts.specs.Fields.{fields}
use Rattle.texts.proofs.FieldLemmas.{IsBorder-fields}
use Rattle.session_lines.specs.Control.{opened_numbers}
use Rattle.session_lines.specs.declared.control.VoterSays.TheVariants as says
use Rattle.line_words.proofs.TestLemmas.{fails}
use Rattle.session_lines.proofs.voter_words.read_voter_says.Goals as goal

pub returns-in-None-clause-read : goal.returns-in-None-clause-read
returns-in-None-clause-read c (says.Word w) fits e = let no = c.in-None.ensures.read w fits e in cc
returns-in-None-clause-read c (says.Opened o) fits e =
    absurd (fails c.is.result c.is.ensures c.if-is.false
    (c.cut.ensures.read (codes "opened") (fields (opened_numbers o)) (search rules) (IsBorder-fields (opened_numbers o)) e).0)
