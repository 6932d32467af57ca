use Rattle.std.proofs.Common.{◌≡◌, vec_len}
use Rattle.basis.proofs.ratio.ratios_of.Given as goal

abbrev pub invariant-loop-residue : goal.invariant-loop-residue
invariant-loop-residue l = vec_len l.ratios ≡ l.residue-index
