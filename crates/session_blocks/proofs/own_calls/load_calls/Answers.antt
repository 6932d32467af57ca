use Rattle.std.proofs.Common.{◌∙◌, ap, refl, subst, sym}
use Rattle.std.proofs.lemmas.Option.{none-some, same_Some}
use Rattle.callers.specs.Calls.{words_of}
use Rattle.words.specs.WordBytes.{FitIn64Bits, bytes_of}
use Rattle.session_blocks.proofs.BlockLemmas.{length-calls}
use Rattle.session_blocks.proofs.own_calls.load_calls.Goals as goal

pub returns-then-bytes-ne-CALLS_BYTES-clause-refused : goal.returns-then-bytes-ne-CALLS_BYTES-clause-refused
returns-then-bytes-ne-CALLS_BYTES-clause-refused c = (refl, λ it is. c.if-bytes-ne-CALLS_BYTES.true (length-calls c.args.bytes.now it is))

pub returns-in-Some-clause-loaded : goal.returns-in-Some-clause-loaded
returns-in-Some-clause-loaded c =
    let same = sym c.as_slice.ensures.value ∙ c.in-Some.ensures.text in
    record {
      fit = subst FitIn64Bits same c.read_words.ensures.fit;
      bytes_are = c.read_words.ensures.text ∙ ap bytes_of same;
    }

pub returns-in-Some-clause-only : goal.returns-in-Some-clause-only
returns-in-Some-clause-only c = λ s is.
    let read = c.calls_of.ensures.read s (c.as_slice.ensures.value ∙ c.read_words.ensures.read (words_of s) is.fit is.bytes_are) in
    same_Some s c.in-Some.calls (sym read ∙ c.in-Some.is)

pub returns-in-None-clause-refused : goal.returns-in-None-clause-refused
returns-in-None-clause-refused c = (
  refl,
  λ s is.
      let read = c.calls_of.ensures.read s (c.as_slice.ensures.value ∙ c.read_words.ensures.read (words_of s) is.fit is.bytes_are) in
      none-some s (sym c.in-None.is ∙ read),
)
