use Rattle.std.proofs.Common.{◌∙◌, ap, subst, sym}
use Rattle.starts.specs.Saved.{peer_words}
use Rattle.words.specs.WordBytes.{FitIn64Bits, bytes_of}
use Rattle.blocks.proofs.places.load_peer.Goals as goal

pub returns-clause-loaded : goal.returns-clause-loaded
returns-clause-loaded c =
    let same = sym c.as_slice.ensures.value ∙ c.peer_of.ensures.text in
    record { fit = subst FitIn64Bits same c.read_words.ensures.fit; bytes_are = c.read_words.ensures.text ∙ ap bytes_of same }

pub returns-clause-only : goal.returns-clause-only
returns-clause-only c = λ q is.
    sym (c.peer_of.ensures.read q (c.as_slice.ensures.value ∙ c.read_words.ensures.read (peer_words q) is.fit is.bytes_are))
