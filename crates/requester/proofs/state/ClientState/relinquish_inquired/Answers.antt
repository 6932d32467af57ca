use Rattle.std.proofs.Common.{◌≡◌, ◌<◌, ◌+◌, ◌++◌, ◌∷◌, List, ℕ, length, drop, get_or, ap, sym, ◌∙◌, arith, subst, eqb}
use Rattle.std.specs.List.{AllByRecursion, IsDistinct}
use Rattle.std.proofs.lemmas.List.{drop_more, append_assoc}
use Rattle.std.proofs.lemmas.Map.Keys.{IsDistinct-head, IsDistinct-tail}
use Rattle.requester.specs.declared.state.ClientState.{ClientState}
use Rattle.requester.specs.Steps.{relinquish_marked, relinquish_inquired}
use Rattle.requester.proofs.Rest.{relinquish_inquired-cons_state, relinquish_inquired-cons_out, quorum-relinquish_marked}
use Rattle.requester.proofs.state.ClientState.relinquish_inquired.Goals as goal

pub loop-i-preserved : goal.loop-i-preserved
loop-i-preserved c =
    let inv = c.loop-i.invariant in
    let self = c.loop-i.self in
    let items = c.args.self.now.quorum.items in
    let rest = drop (c.loop-i.i + 1) items in
    let within : c.loop-i.i < length items = omega arith in
    let v = get_or c.deref.result.now c.loop-i.i 0 in
    let v_is : get_or items c.loop-i.i 0 ≡ v = ap (λ (xs : List ℕ). get_or xs c.loop-i.i 0) (sym (c.deref.ensures.0 ∙ ap (λ q. q.items) inv.same)) in
    let cut : drop c.loop-i.i items ≡ v ∷ rest = drop_more items c.loop-i.i 0 within ∙ ap (λ (u : ℕ). u ∷ rest) v_is in
    let apart = subst (IsDistinct eqb) cut inv.apart in
    let others = IsDistinct-head eqb v rest apart in
    let below = (subst (AllByRecursion (λ u. u < 64)) cut inv.small).1 in
    let after = c.relinquish_marked.ensures.state in
    record {
      same = ap (λ (s : ClientState). s.quorum) after ∙ quorum-relinquish_marked self v ∙ inv.same;
      small = below;
      apart = IsDistinct-tail eqb v rest apart;
      state = ap (λ (s : ClientState). (relinquish_inquired s rest).state) after ∙ sym (relinquish_inquired-cons_state self v rest below others)
          ∙ ap (λ (vs : List ℕ). (relinquish_inquired self vs).state) (sym cut) ∙ inv.state;
      out = ap (λ (s : ClientState). c.relinquish_marked.new.out.items ++ (relinquish_inquired s rest).out) after
          ∙ ap (λ o. o ++ (relinquish_inquired (relinquish_marked self v).state rest).out) c.relinquish_marked.ensures.out
          ∙ append_assoc c.loop-i.out.items (relinquish_marked self v).out (relinquish_inquired (relinquish_marked self v).state rest).out
          ∙ ap (λ o. c.loop-i.out.items ++ o) (sym (relinquish_inquired-cons_out self v rest below others))
          ∙ ap (λ (vs : List ℕ). c.loop-i.out.items ++ (relinquish_inquired self vs).out) (sym cut) ∙ inv.out;
      len = omega arith;
    }
