use Rattle.std.proofs.Common.{◌∙◌, refl}
use Rattle.blocks.proofs.BlockLemmas.{places_of}
use Rattle.blocks.proofs.lock_lines.cut.Goals as goal

pub returns-in_default-clause-cut : goal.returns-in_default-clause-cut
returns-in_default-clause-cut c = record {
  bad_argument = λ other. absurd (other c.if-words-ne-LINE_WORDS.false);
  cut = λ three name line rest is. absurd (c.in_default.ensures.read name line rest is);
  bad_message = λ three none. refl;
}

pub returns-clause-cut : goal.returns-clause-cut
returns-clause-cut c = record {
  bad_argument = λ other. absurd (other c.if-words-ne-LINE_WORDS.false);
  cut = λ three name line rest is.
      let same = c.in-Some.ensures.read name line rest is in (
        refl,
        c.copy_from_slice.ensures.after
            ∙ places_of c.args.text.now name line c.in-Some.rest.now c.in-Some.name.now c.in-Some.line.now _ c.in-Some.ensures.len refl same.0 same.1,
      );
  bad_message = λ three none. absurd (none c.in-Some.name.now c.in-Some.line.now c.in-Some.rest.now c.in-Some.ensures.written);
}
