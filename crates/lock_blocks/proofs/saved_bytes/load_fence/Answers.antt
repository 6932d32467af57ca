use Rattle.std.proofs.Common.{◌∷◌, ap, sym, subst, ◌∙◌}
use Rattle.words.specs.WordBytes.{FitIn64Bits, bytes_of}
use Rattle.lock_blocks.proofs.saved_bytes.load_fence.Goals as goal

pub returns-clause-loaded : goal.returns-clause-loaded
returns-clause-loaded c =
    let same = sym c.as_slice.ensures.value ∙ c.fence_of.ensures.words in
    record {
      places = c.fence_of.ensures.places;
      fit = subst FitIn64Bits same c.read_words.ensures.fit;
      bytes_are = c.read_words.ensures.text ∙ ap bytes_of same;
    }

pub returns-clause-only : goal.returns-clause-only
returns-clause-only c = λ seen turn is. sym (c.read_words.ensures.read (turn ∷ seen) is.fit is.bytes_are) ∙ sym c.as_slice.ensures.value ∙ c.fence_of.ensures.words
