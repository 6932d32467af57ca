use Rattle.std.proofs.Common.{◌≡◌, ◌+◌, ◌++◌, ◌∷◌, [], ℕ, ap, append_assoc, arith, map, sym, ◌∙◌}
use Rattle.std.specs.Prelude.{unwrap_or}
use Rattle.std.specs.FinMap.{get}
use Rattle.std.specs.List.{range_with_len}
use Rattle.std.proofs.lemmas.List.FromFn.{map-range_with_len_more}
use Rattle.voter.proofs.state.VoterState.push_waiting.Goals as goal

pub loop-client-preserved : goal.loop-client-preserved
loop-client-preserved c =
    let n = c.loop-client.client in
    let old = c.args.words.now.items in
    let stamps : ℕ → ℕ = λ k. unwrap_or (get c.args.self.now.waiting k) 0 in
    let stamp = c.unwrap_or.ensures ∙ ap (λ o. unwrap_or o 0) c.stamp_of.ensures in
    let here : 0 + n ≡ n = omega arith in
    record {
      stamps = c.push.ensures.items ∙ (λ i. c.loop-client.invariant.stamps i ++ stamp i ∷ []) ∙ append_assoc old (map stamps (range_with_len 0 n)) (stamps n ∷ [])
          ∙ ap (λ l. old ++ l) (sym (map-range_with_len_more stamps 0 n n here));
      len = let a = c.push.ensures.len in let b = c.loop-client.invariant.len in omega arith;
    }
