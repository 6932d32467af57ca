use Rattle.std.proofs.Common.{◌≡◌, ◌<◌, ◌≤◌, IfSome, subst, [], ◌∷◌, ◌++◌, false, get_or, sym, ap, ◌∙◌, arith}
use Rattle.std.proofs.lemmas.List.{get_or-set_other}
use Rattle.std.proofs.lemmas.List.FromFn.{map-range_with_len_more}
use Rattle.board.specs.Seats.{RootState}
use Rattle.clerks.specs.Clerks.{ClerksState, fresh_clerks, less_each}
use Rattle.members.specs.Clusters.{names_in}
use Rattle.members.proofs.ClerkLemmas.{less_each-fresh, rest-fresh}
use Rattle.members.specs.Members.{fresh_member}
use Rattle.members.proofs.BlankLemmas.{le-quotas_left, mul-less_one, mul-none_left}
use Rattle.members.proofs.blank.members_of.Goals as goal

pub split-part-requires-clause-rest : goal.split-part-requires-clause-rest
split-part-requires-clause-rest g c =
    let quota = c.args.quota in
    subst (λ (k : ClerksState). quota ≤ k.first.rest) (sym c.loop-client.invariant.clerks)
    (le-quotas_left c.args.clients c.loop-client.client quota c.loop-client-test.true)

pub split-part-requires-clause-second : goal.split-part-requires-clause-second
split-part-requires-clause-second g c =
    let quota = c.args.quota in
    subst (λ (k : ClerksState). IfSome k.second (λ x. quota ≤ x.rest)) (sym c.loop-client.invariant.clerks)
    (rest-fresh (names_in g.N.ClusterName.cluster) _ quota (le-quotas_left c.args.clients c.loop-client.client quota c.loop-client-test.true))

pub loop-client-preserved : goal.loop-client-preserved
loop-client-preserved g c =
    let inv = c.loop-client.invariant in
    let i = c.loop-client.client in
    let n = c.args.clients in
    let less : i < n = c.loop-client-test.true in
    let left = c.client-seat.ensures.left in
    let cluster = g.N.ClusterName.cluster in
    let names = names_in cluster in
    let kept = c.split-part.ensures.kept in
    let made : c.new.result ≡ fresh_member cluster i = c.new.ensures ∙ ap (fresh_member cluster) (ap (λ s. s.client) c.client-seat.ensures.given) in
    record {
      table = c.client-seat.ensures.table ∙ inv.table;
      passes = ap (λ (r : RootState). r.passes) left ∙ inv.passes;
      seats = omega (arith, less, inv.seats, ap (λ (r : RootState). r.seats) left);
      there = λ k above.
          ap (λ (r : RootState). get_or r.clients k false) left
          ∙ get_or-set_other c.loop-client.root.clients i k false false (λ e. absurd (omega (arith, above, e)))
          ∙ inv.there k (omega (arith, above));
      clerks = kept ∙ ap (λ (k : ClerksState). less_each k c.args.quota) inv.clerks ∙ less_each-fresh names _ c.args.quota
          ∙ ap (fresh_clerks names) (mul-less_one n i c.args.quota less);
      members = c.in_ok-push.ensures.items ∙ (λ j. inv.members j ++ made j ∷ []) ∙ sym (map-range_with_len_more (fresh_member cluster) 0 i i (omega arith));
    }

pub returns-clause-clerks : goal.returns-clause-clerks
returns-clause-clerks g c =
    c.loop-client.invariant.clerks ∙ ap (fresh_clerks (names_in g.N.ClusterName.cluster)) (mul-none_left c.args.clients c.loop-client.client c.args.quota c.loop-client-test.false)
