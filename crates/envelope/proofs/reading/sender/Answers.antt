use Rattle.std.proofs.Common.{◌∙◌}
use Rattle.envelope.proofs.SenderLemmas.{behind, kind_of, one_kind, parts}
use Rattle.line_words.proofs.TestLemmas.{fails}
use Rattle.envelope.proofs.reading.sender.Goals as goal

pub returns-in_default-clause-read : goal.returns-in_default-clause-read
returns-in_default-clause-read c s w rest fits named border e =
    let p = parts s w rest in
    c.in_default.ensures.read (kind_of s) (behind s w rest) p.plain p.border (e ∙ p.whole)

pub returns-clause-read : goal.returns-clause-read
returns-clause-read c s w rest fits named border e =
    let p = parts s w rest in
    let k = (c.in-Some.ensures.read (kind_of s) (behind s w rest) p.plain p.border (e ∙ p.whole)).0 in
    one_kind s c.in-Some.kind.now k (fails c.is.result c.is.ensures c.if-is.false) (fails c.is-2.result c.is-2.ensures c.if-is-2.false)
    (fails c.is-3.result c.is-3.ensures c.if-is-3.false)
