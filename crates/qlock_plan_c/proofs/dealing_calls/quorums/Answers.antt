use Rattle.std.proofs.Common.{◌≡◌, ◌/◌, length, ap, ◌∙◌, arith}
use Rattle.std.proofs.lemmas.List.FromFn.{length-map-range_with_len}
use Rattle.qlock_plan_c.specs.Orders.{mask_of, plan_of, quorum_by}
use Rattle.qlock_plan_c.proofs.dealing_calls.quorums.Goals as goal

pub write_words-requires : goal.write_words-requires
write_words-requires c =
    let bytes = length c.args.masks.now in
    let by = c.in-Ok.by in
    let allowed = c.is_allowed.ensures.0 c.if-not-is_allowed.false in
    let count : length c.deref.result.now ≡ bytes / 8 =
    ap length (c.deref.ensures.value ∙ c.in-Ok-masks.ensures)
    ∙ length-map-range_with_len (λ ticket. mask_of (plan_of by) (quorum_by by ticket)) c.args.first (bytes / 8) in
    omega (arith, count, allowed.1)
