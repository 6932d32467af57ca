use Rattle.std.proofs.Common.{◌∙◌, ap, refl, sym}
use Rattle.std.proofs.lemmas.Option.{none-some, same_Some}
use Rattle.lock_node.specs.Letters.{standing_of}
use Rattle.sessions.specs.Rows.{Row}
use Rattle.lock_blocks.specs.LockSteps.{number_of_standing}
use Rattle.lock_blocks.proofs.tables.judge.Goals as goal

pub returns-clause-judges : goal.returns-clause-judges
returns-clause-judges c = λ few. record {
  no_row = λ rows are none. absurd (none-some c.in_ok-row.row (sym none ∙ sym (c.in_ok-row.ensures.read rows are)));
  judges = λ rows row are has. (
    refl,
    c.number_of_standing.ensures ∙ ap number_of_standing (c.standing_of.ensures ∙ ap (λ (r : Row). standing_of r c.args.session c.args.epoch) (same_Some c.in_ok-row.row row (c.in_ok-row.ensures.read rows are ∙ has))),
  );
}
