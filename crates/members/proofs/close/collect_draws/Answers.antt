use Rattle.std.proofs.Common.{◌≡◌, ◌+◌, ◌++◌, ◌∷◌, [], take, ap, sym, ◌∙◌, subst}
use Rattle.std.specs.List.{All}
use Rattle.std.proofs.lemmas.List.{flat_map_more, take_more}
use Rattle.std.proofs.lemmas.List.Elements.{All-append}
use Rattle.members.specs.Members.{MemberState}
use Rattle.members.specs.Records.{IsDraw, all_draws, draws_of}
use Rattle.members.proofs.close.collect_draws.Goals as goal

pub loop-member-preserved : goal.loop-member-preserved
loop-member-preserved g c =
    let cluster = g.N.ClusterName.cluster in
    let members = c.args.members.now in
    let i = c.loop-member.member-index in
    let side = c.args.side in
    let m = c.member-item.result in
    let added = c.in_ok-push_draws.ensures.added in
    let whole : take i members ++ m ∷ [] ≡ take (i + 1) members = ap (λ (n : MemberState). take i members ++ n ∷ []) c.member-item.is ∙ sym (take_more members i m c.loop-member-test.true) in (
      added ∙ ap (λ l. l ++ draws_of side m) c.loop-member.invariant.0 ∙ flat_map_more (draws_of side) [] (take i members) m ∙ ap (all_draws side) whole,
      subst (All (IsDraw cluster side)) (sym added) (All-append (IsDraw cluster side) c.loop-member.draws.items (draws_of side m) c.loop-member.invariant.1 c.in_ok-push_draws.ensures.each),
    )
