use Rattle.std.proofs.Common.{sym, subst}
use Rattle.std.specs.List.{All}
use Rattle.losses.specs.Regrets.{IsUsable}
use Rattle.losses.proofs.bound.bound_at.Goals as goal

pub gain_at-requires-clause-usable : goal.gain_at-requires-clause-usable
gain_at-requires-clause-usable c = subst (λ s. All (IsUsable s) c.args.failures.now) (sym c.coterie.ensures.value) c.requires.usable.each
