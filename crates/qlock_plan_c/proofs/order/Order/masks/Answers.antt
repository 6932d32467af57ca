use Rattle.std.proofs.Common.{ℕ, ap, sym, refl, ◌∙◌, ◌++◌, ◌∷◌, []}
use Rattle.std.proofs.lemmas.List.FromFn.{map-range_with_len_more}
use Rattle.qlock_plan_c.specs.Orders.{mask_of, masks_of, plan_of, quorum_by}
use Rattle.qlock_plan_c.proofs.order.Order.masks.Goals as goal

pub loop-i-preserved : goal.loop-i-preserved
loop-i-preserved c =
    let mask = λ (ticket : ℕ). mask_of (plan_of c.args.self.now) (quorum_by c.args.self.now ticket) in
    c.in_ok-push.ensures.items ∙ ap (λ masks. masks ++ c.mask.result ∷ []) c.loop-i.invariant
    ∙ ap (λ m. masks_of c.args.self.now c.args.first c.loop-i.i ++ m ∷ []) c.mask.ensures
    ∙ sym (map-range_with_len_more mask c.args.first c.loop-i.i _ refl)
