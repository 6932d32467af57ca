use Rattle.std.proofs.Common.{◌-◌, ◌∙◌, ap₂, length, ℕ, List, refl}
use Rattle.envelope.specs.Headers.{Head}
use Rattle.blocks.specs.HeaderSteps.{words_of_header}
use Rattle.blocks.proofs.headers.read.Goals as goal

pub returns-in_default-clause-read : goal.returns-in_default-clause-read
returns-in_default-clause-read c = record {
  bad_argument = λ ne. absurd (ne c.if-words-ne-HEADER_WORDS.false);
  bad_message = λ len none. refl;
  read = λ len h ignored lines m. absurd (c.in_default.ensures.read h ignored lines m);
}

pub returns-clause-read : goal.returns-clause-read
returns-clause-read c = record {
  bad_argument = λ ne. absurd (ne c.if-words-ne-HEADER_WORDS.false);
  bad_message = λ len none. absurd (none _ _ _ c.in-Some.ensures.written);
  read = λ len h ignored lines m.
      let same = c.in-Some.ensures.read h ignored lines m in
      let written = ap₂ (λ (k : Head) (l : List ℕ). words_of_header k (length c.args.message.now - length l)) same.0 same.2 in
      (refl, c.copy_from_slice.ensures.after ∙ c.words_of_header.ensures ∙ written);
}
