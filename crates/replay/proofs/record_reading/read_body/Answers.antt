use Rattle.std.proofs.Common.{arith, inl, inr, refl}
use Rattle.texts.proofs.FieldLemmas.{some-from_test}
use Rattle.replay.proofs.record_reading.read_body.Goals as goal

pub returns-in_default-clause-bad : goal.returns-in_default-clause-bad
returns-in_default-clause-bad c = record {
  draws = c.in_ok-draws.draws.items;
  passes = c.in_ok-passes.passes.items;
  last = c.in_ok-passes.rest.now;
  cut = record { rest = c.in_ok-draws.rest.now; draws_are = c.in_ok-draws.ensures; passes_are = c.in_ok-passes.ensures };
  place = 2;
  bad = inl (c.in_default.ensures, refl);
  line_is = omega (arith, c.len.ensures, c.len-2.ensures);
}

pub returns-then-not-is_empty-clause-bad : goal.returns-then-not-is_empty-clause-bad
returns-then-not-is_empty-clause-bad c = record {
  draws = c.in_ok-draws.draws.items;
  passes = c.in_ok-passes.passes.items;
  last = c.in_ok-passes.rest.now;
  cut = record { rest = c.in_ok-draws.rest.now; draws_are = c.in_ok-draws.ensures; passes_are = c.in_ok-passes.ensures };
  place = 3;
  bad = inr (c.in-Some.register, c.in-Some.rest.now, c.in-Some.ensures, some-from_test c.in-Some.rest.now c.if-not-is_empty.ensures, refl);
  line_is = omega (arith, c.len.ensures, c.len-2.ensures);
}
