use Rattle.std.proofs.Common.{◌∙◌, ap, refl, subst, sym}
use Rattle.std.proofs.lemmas.Option.{none-some, same_Some}
use Rattle.words.specs.WordBytes.{FitIn64Bits, bytes_of}
use Rattle.client_blocks.specs.Bytes.{stamps_words}
use Rattle.client_blocks.proofs.ListLemmas.{all_stamps_len}
use Rattle.client_blocks.proofs.lists.load_all_stamps.Goals as goal

pub returns-then-bytes-ne-ALL_STAMPS_BYTES-clause-refused : goal.returns-then-bytes-ne-ALL_STAMPS_BYTES-clause-refused
returns-then-bytes-ne-ALL_STAMPS_BYTES-clause-refused c = (refl, λ them are. c.if-bytes-ne-ALL_STAMPS_BYTES.true (all_stamps_len c.args.bytes.now them are))

pub returns-in-Some-clause-loaded : goal.returns-in-Some-clause-loaded
returns-in-Some-clause-loaded c =
    let same = sym c.as_slice.ensures.value ∙ c.in-Some.ensures.text in
    record {
      places = c.in-Some.ensures.places;
      fit = subst FitIn64Bits same c.read_words.ensures.fit;
      bytes_are = c.read_words.ensures.text ∙ ap bytes_of same;
    }

pub returns-in-Some-clause-only : goal.returns-in-Some-clause-only
returns-in-Some-clause-only c = λ xs are.
    let read =
    c.all_stamps_of.ensures.read xs are.places
    (c.as_slice.ensures.value ∙ c.read_words.ensures.read (stamps_words xs) are.fit are.bytes_are) in
    same_Some xs c.in-Some.kept (sym read ∙ c.in-Some.is)

pub returns-in-None-clause-refused : goal.returns-in-None-clause-refused
returns-in-None-clause-refused c = (
  refl,
  λ xs are.
      let read =
      c.all_stamps_of.ensures.read xs are.places
      (c.as_slice.ensures.value ∙ c.read_words.ensures.read (stamps_words xs) are.fit are.bytes_are) in
      none-some xs (sym c.in-None.is ∙ read),
)
