use Rattle.std.proofs.Common.{◌∙◌, ap, subst}
use Rattle.words.specs.WordBytes.{FitIn64Bits, bytes_of}
use Rattle.client_blocks.proofs.lists.store_votes.Goals as goal

pub returns : goal.returns
returns c =
    let same = c.as_slice.ensures.value ∙ c.push_votes.ensures.numbers in
    record {
      places = c.push_votes.ensures.places;
      fit = subst FitIn64Bits same c.write_words.ensures.fit;
      bytes_are = c.write_words.ensures.text ∙ ap bytes_of same;
    }
