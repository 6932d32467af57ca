use Rattle.std.proofs.Common.{◌+◌, rules, take, arith}
use Rattle.std.proofs.lemmas.Grind.{common_steps}
use Rattle.std.proofs.lemmas.List.{take_more}
use Rattle.words.proofs.WordLemmas.{FitIn64Bits-more}
use Rattle.words.proofs.write_words.Goals as goal

pub loop-i-preserved : goal.loop-i-preserved
loop-i-preserved c = record {
  heard = grind (arith, common_steps);
  fit = FitIn64Bits-more (take c.loop-i.i c.args.words.now) (take (c.loop-i.i + 1) c.args.words.now) _ c.loop-i.invariant.fit c.write_word.ensures.fits
      (take_more c.args.words.now c.loop-i.i 0 (omega arith));
  len = search rules;
}
