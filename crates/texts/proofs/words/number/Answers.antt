use Rattle.std.proofs.Common.{subst, sym, ◌∙◌}
use Rattle.std.specs.Fmt.{decimal}
use Rattle.std.proofs.lemmas.Fmt.{parse-decimal, decimal_nonempty}
use Rattle.texts.specs.Fields.{IsPlain}
use Rattle.texts.proofs.Numbers.{is_decimal, first_is_digit, zero_is_short, IsUtf8-decimal}
use Rattle.texts.proofs.words.number.Goals as goal

pub returns-then-not-is_plain-clause-read : goal.returns-then-not-is_plain-clause-read
returns-then-not-is_plain-clause-read c n small e =
    let plain : IsPlain (decimal n) = record { some = decimal_nonempty n small; unsigned = first_is_digit n small; short = zero_is_short n small } in
    absurd (c.if-not-is_plain.ensures.other (subst IsPlain (sym e) plain))

pub returns-in-Ok-parse-clause-written : goal.returns-in-Ok-parse-clause-written
returns-in-Ok-parse-clause-written c =
    let plain = c.if-not-is_plain.ensures.plain in
    let p = rw c.in-Ok.ensures.cases.0 at c.parse.ensures.value.0 in
    is_decimal c.args.digits.now c.in-Ok-parse.n c.parse.result p plain.unsigned plain.short c.in-Ok-parse.is

pub returns-in-Ok-parse-clause-read : goal.returns-in-Ok-parse-clause-read
returns-in-Ok-parse-clause-read c n small e =
    let g = parse-decimal 64 n c.in-Ok.text.now c.parse.result small small (c.in-Ok.ensures.cases.0 ∙ e) c.parse.ensures.value.0 in
    let o = sym c.in-Ok-parse.is ∙ g in
    cc

pub returns-in-Err-parse-clause-read : goal.returns-in-Err-parse-clause-read
returns-in-Err-parse-clause-read c n small e =
    let g = parse-decimal 64 n c.in-Ok.text.now c.parse.result small small (c.in-Ok.ensures.cases.0 ∙ e) c.parse.ensures.value.0 in
    let o = sym c.in-Err-parse.is ∙ g in
    cc

pub returns-in-Err-clause-read : goal.returns-in-Err-clause-read
returns-in-Err-clause-read c n small e =
    absurd (c.in-Err.ensures.cases.0 (rw e (IsUtf8-decimal n small)))
