use Rattle.std.proofs.Common.{sym, arith}
use Rattle.plan_texts.proofs.Numbers.{HasDigits-small, number_of-long, number_of-none, number_of-written}
use Rattle.plan_texts.proofs.reading.number.Goals as goal

pub returns-in-Some : goal.returns-in-Some
returns-in-Some c = sym (number_of-written c.args.digits c.args.bytes.now c.in-Some.value c.requires.few c.in-Some.ensures.written (omega (arith, c.pow.ensures, c.if-value-pow.true)))

pub returns-in_default : goal.returns-in_default
returns-in_default c =
    sym (number_of-long c.args.digits c.args.bytes.now c.in-Some.value c.requires.few c.in-Some.ensures.written (omega arith) (omega (arith, c.pow.ensures, c.if-value-pow.false)))

pub returns-in_default-2 : goal.returns-in_default-2
returns-in_default-2 c =
    sym (number_of-none c.args.digits c.args.bytes.now (λ n short e. let some = c.in_default.ensures.read n (HasDigits-small c.args.digits n c.requires.few short) e in cc))
