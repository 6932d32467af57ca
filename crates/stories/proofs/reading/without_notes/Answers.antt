use Rattle.std.proofs.Common.{List, ℕ, ◌++◌, ap, sym, ◌∙◌}
use Rattle.stories.specs.Scripts.{without_notes}
use Rattle.stories.proofs.Readings.{without-next, without-none}
use Rattle.stories.proofs.reading.without_notes.Goals as goal

pub lines-preserved : goal.lines-preserved
lines-preserved c =
    without-next c.lines.rest.now (c.in-Some.line.now, c.in-Some.after.now) c.lines.plain.items c.push_kept.new.text.items (without_notes c.args.text.now)
    (sym c.in-Some.ensures) c.in_ok-push_kept.ensures c.lines.invariant

pub returns : goal.returns
returns c =
    c.in_ok-extend_from_slice.ensures.items ∙ ap (λ (t : List ℕ). c.lines.plain.items ++ t) (sym (without-none c.lines.rest.now (sym c.in_default.ensures)))
    ∙ c.lines.invariant
