use Rattle.std.proofs.Common.{◌∙◌, ap, refl, sym}
use Rattle.lease_clock.specs.Clocks.{Clock, at}
use Rattle.blocks.proofs.clocks.at.Goals as goal

pub returns-clause-shows : goal.returns-clause-shows
returns-clause-shows c = record {
  no_clock = λ none. absurd (none c.in_ok-load_clock.field-0 c.in_ok-load_clock.ensures.loaded);
  shows = λ d is. (refl, c.at.ensures ∙ ap (λ (e : Clock). at e c.args.now) (sym (c.in_ok-load_clock.ensures.only d is)));
}
