use Rattle.std.proofs.Common.{◌≡◌, length, ap, sym, ◌∙◌, arith, rules}
use Rattle.quorum_set.specs.Coteries.{QuorumSystem}
use Rattle.show_cli.proofs.StoryLemmas.{one_ended, same_more}
use Rattle.show_cli.proofs.scenes.first_other.Goals as goal

pub loop-place-preserved : goal.loop-place-preserved
loop-place-preserved c =
    let alike : c.name.result.now ≡ c.name-in-loop-place.result.now = search rules in
    record {
      same = same_more c.args.first.now.names c.args.second.now.names c.loop-place.place c.name.result.now c.name-in-loop-place.result.now c.loop-place.invariant.same
          c.name.ensures.value c.name-in-loop-place.ensures.value alike;
      within = search rules;
    }

pub returns-then-voters-others-clause-other : goal.returns-then-voters-others-clause-other
returns-then-voters-others-clause-other c =
    let voters = c.voters-voters.result in
    let first : length c.args.first.now.names ≡ voters =
    c.coterie.ensures.named.one_each ∙ sym (c.voters-voters.ensures.value ∙ ap (λ (s : QuorumSystem). s.voters) c.coterie.ensures.value) in
    let second : length c.args.second.now.names ≡ c.voters-others.result =
    c.coterie-2.ensures.named.one_each ∙ sym (c.voters-others.ensures.value ∙ ap (λ (s : QuorumSystem). s.voters) c.coterie-2.ensures.value) in
    record {
      before = search rules;
      other = λ e. one_ended c.args.second.now.names c.args.first.now.names voters (omega (arith, second)) (omega (arith, first)) (sym e);
    }
