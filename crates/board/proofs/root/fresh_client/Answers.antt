use Rattle.std.proofs.Common.{ℕ, ◌≤◌, [], None, sym, ap, ◌∙◌, subst, arith}
use Rattle.std.specs.Prelude.{All, slice_index}
use Rattle.std.proofs.lemmas.List.{length-replicate, get_or-replicate}
use Rattle.board.specs.Words.{nobody}
use Rattle.board.proofs.Giving.{nobody-at}
use Rattle.board.specs.Views.{client_view}
use Rattle.board.proofs.root.fresh_client.Goals as goal

All-nobody_small : All (λ g. g ≤ 1099511627776) nobody
All-nobody_small k d lt = let zero_there = get_or-replicate {A = ℕ} 64 k 0 d (omega (arith, length-replicate {A = ℕ} 64 0)) in omega arith

pub invariant_of-result : goal.invariant_of-result
invariant_of-result c = record {
  view = c.requires.0 ∙ (λ i. (client_view c.args.client (sym c.no_votes.ensures i) None (sym c.new.ensures.items i), []));
  few = c.requires.1;
  grants = subst (λ l. All (λ g. g ≤ 1099511627776) l) (sym c.no_votes.ensures) All-nobody_small;
  number = tt;
  on_table = λ v some_grant. absurd (some_grant (ap (λ l. slice_index l v) c.no_votes.ensures ∙ nobody-at v));
}
