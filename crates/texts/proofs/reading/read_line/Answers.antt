use Rattle.std.proofs.Common.{◌∙◌}
use Rattle.texts.proofs.FieldLemmas.{IsBorder-fields}
use Rattle.texts.specs.Fields.{fields}
use Rattle.texts.proofs.LineLemmas.{HasNoSpace-word, line_written}
use Rattle.texts.proofs.reading.read_line.Goals as goal

pub returns-in-Some-clause-read : goal.returns-in-Some-clause-read
returns-in-Some-clause-read g c x h e =
    let form = g.L.Line.form in
    let is = g.met.L.Line.is_form in
    let parts = c.cut.ensures.read (form.word x) (fields (form.numbers x)) (HasNoSpace-word (form.word x) (is.words x h)) (IsBorder-fields (form.numbers x)) e in
    let found = c.in-Some.ensures.read (form.numbers x) (is.few x h) (is.small x h) parts.1 in
    c.value_of.ensures.read x (record { fits = h; word_is = parts.0; numbers_are = c.as_slice.ensures.value ∙ found })

pub returns-in-None-clause-read : goal.returns-in-None-clause-read
returns-in-None-clause-read g c x h e =
    let form = g.L.Line.form in
    let is = g.met.L.Line.is_form in
    let parts = c.cut.ensures.read (form.word x) (fields (form.numbers x)) (HasNoSpace-word (form.word x) (is.words x h)) (IsBorder-fields (form.numbers x)) e in
    absurd (c.in-None.ensures.read (form.numbers x) (is.few x h) (is.small x h) parts.1)

pub returns-in-Some-clause-written : goal.returns-in-Some-clause-written
returns-in-Some-clause-written g c =
    line_written g.L.Line.form c.args.line.now c.cut.result.0.now c.cut.result.1.now c.as_slice.result.now c.in-Some.numbers.items c.value_of.result c.cut.ensures.whole c.in-Some.ensures.written
    c.as_slice.ensures.value c.value_of.ensures.text
