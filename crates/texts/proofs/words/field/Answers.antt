use Rattle.std.proofs.Common.{◌≡◌, ◌++◌, ◌∷◌, ◌∙◌, sym}
use Rattle.std.specs.Fmt.{decimal}
use Rattle.texts.proofs.Numbers.{HasNoSpace-decimal}
use Rattle.texts.proofs.words.field.Goals as goal

pub returns-in-Some-clause-read : goal.returns-in-Some-clause-read
returns-in-Some-clause-read c n rest small border e =
    let first : c.args.bytes.now ≡ c.in-Some-eq32-default.field-0-0.now ∷ c.in-Some-eq32-default.after.now = c.in-Some-eq32-default.ensures.cases.0 in
    let after : c.in-Some-eq32-default.after.now ≡ decimal n ++ rest = cc in
    let parts = c.cut.ensures.read (decimal n) rest (HasNoSpace-decimal n small) border after in
    let number = sym c.in-Some.is ∙ c.number.ensures.read n small parts.0 in
    (cc, parts.1)

pub returns-in-None-clause-read : goal.returns-in-None-clause-read
returns-in-None-clause-read c n rest small border e =
    let first : c.args.bytes.now ≡ c.in-Some-eq32-default.field-0-0.now ∷ c.in-Some-eq32-default.after.now = c.in-Some-eq32-default.ensures.cases.0 in
    let after : c.in-Some-eq32-default.after.now ≡ decimal n ++ rest = cc in
    let parts = c.cut.ensures.read (decimal n) rest (HasNoSpace-decimal n small) border after in
    let number = sym c.in-None.is ∙ c.number.ensures.read n small parts.0 in
    cc
