use Rattle.std.proofs.Common.{◌≡◌, ◌∙◌, ap, arith, map, string_bytes, subst, sym, take, true}
use Rattle.std.proofs.lemmas.List.{take_all}
use Rattle.show_compare.specs.Compare.{HasGroups, group_text, has_text}
use Rattle.show_compare.proofs.GroupLemmas.{all-take-more, groups_stay}
use Rattle.show_compare.proofs.groups.add_losses.Goals as goal

pub loop-loss-preserved : goal.loop-loss-preserved
loop-loss-preserved c =
    let named = c.args.named.now in
    let losses = c.args.losses.now in
    let k = c.loop-loss.loss-index in
    let loss = c.loss-item.result in
    let old = map string_bytes c.loop-loss.groups.items in
    let new = map string_bytes c.add_group.new.groups.items in
    let there : has_text new (group_text named loss.group) ≡ true = ap (has_text new) (sym c.in_ok-text.ensures) ∙ c.in_ok-add_group.ensures.added in
    record {
      added = all-take-more (λ l. has_text new (group_text named l.group) ≡ true) losses k loss c.loss-item.is (omega arith)
          (groups_stay old new named (take k losses) c.in_ok-add_group.ensures.kept c.loop-loss.invariant.added) there;
      kept = λ text e. c.in_ok-add_group.ensures.kept text (c.loop-loss.invariant.kept text e);
    }

pub returns-clause-added : goal.returns-clause-added
returns-clause-added c =
    subst (HasGroups (map string_bytes c.loop-loss.groups.items) c.args.named.now) (take_all c.loop-loss.loss-index c.args.losses.now (omega arith)) c.loop-loss.invariant.added
