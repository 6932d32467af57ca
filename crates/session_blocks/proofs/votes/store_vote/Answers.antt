use Rattle.std.proofs.Common.{◌∙◌, ap, subst}
use Rattle.words.specs.WordBytes.{FitIn64Bits, bytes_of}
use Rattle.session_blocks.proofs.votes.store_vote.Goals as goal

pub returns : goal.returns
returns c = record {
  fit = subst FitIn64Bits c.save.ensures c.write_words.ensures.fit;
  bytes_are = c.write_words.ensures.text ∙ ap bytes_of c.save.ensures;
}
