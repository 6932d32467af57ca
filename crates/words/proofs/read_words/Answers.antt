use Rattle.std.proofs.Common.{◌*◌, ◌∙◌, arith}
use Rattle.std.proofs.lemmas.List.{take_all}
use Rattle.words.proofs.WordLemmas.{FitIn64Bits-more, bytes_of-more, one_reading}
use Rattle.words.proofs.read_words.Goals as goal

pub loop-i-preserved : goal.loop-i-preserved
loop-i-preserved g c = record {
  heard = bytes_of-more c.args.bytes.now c.loop-i.words.items c.push.new.self.items c.loop-i.i c.word_at.result c.loop-i.invariant.heard c.word_at.ensures.text c.push.ensures.items;
  fit = FitIn64Bits-more c.loop-i.words.items c.push.new.self.items c.word_at.result c.loop-i.invariant.fit c.word_at.ensures.fits c.push.ensures.items;
  len = let a = c.push.ensures.len in let b = c.loop-i.invariant.len in omega arith;
}

pub returns-clause-read : goal.returns-clause-read
returns-clause-read g c = λ numbers fits same.
    one_reading c.loop-i.words.items numbers c.loop-i.invariant.fit fits (c.loop-i.invariant.heard ∙ take_all (8 * c.loop-i.i) c.args.bytes.now (omega arith) ∙ same)
