use Rattle.std.proofs.Common.{◌≡◌, ◌-◌, ap, sym, ◌∙◌, arith, length}
use Rattle.commands.specs.Parts.{first_mark, is_mark, least_from}
use Rattle.commands.proofs.PartLemmas.{least_from-later}
use Rattle.commands.proofs.parts.mark_in.Goals as goal

pub loop-place-init : goal.loop-place-init
unfolding first_mark
loop-place-init c =
    let whole : length c.args.input.now - 0 ≡ length c.args.input.now = omega arith in
    ap (λ n. least_from 0 n (is_mark c.args.input.now)) whole

pub loop-place-preserved : goal.loop-place-preserved
loop-place-preserved c =
    sym (least_from-later (length c.args.input.now) c.loop-place.place (is_mark c.args.input.now) (omega arith) (sym c.if-begins_mark.ensures.mark)) ∙ c.loop-place.invariant
