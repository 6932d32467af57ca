use Rattle.std.proofs.Common.{◌∙◌, ap, subst}
use Rattle.words.specs.WordBytes.{FitIn64Bits, bytes_of}
use Rattle.blocks.proofs.clocks.store_clock.Goals as goal

pub returns : goal.returns
returns c =
    let same = c.as_slice.ensures.value ∙ c.save.ensures.words in
    record {
      sound = c.save.ensures.sound;
      fit = subst FitIn64Bits same c.write_words.ensures.fit;
      bytes_are = c.write_words.ensures.text ∙ ap bytes_of same;
    }
