use Rattle.std.proofs.Common.{◌∙◌, ap}
use Rattle.quorum_set.specs.Coteries.{QuorumSystem}
use Rattle.show_words.proofs.tickets.tickets_page.Goals as goal

pub push_page-requires : goal.push_page-requires
push_page-requires c = record {
  one_each = c.in_ok-dealt.ensures.one_each ∙ ap (λ (s : QuorumSystem). s.voters) c.args.weighed.same;
}
