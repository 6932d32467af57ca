use Rattle.std.proofs.Common.{◌≡◌, ◌∙◌, [], ap, bytes_eq, length, refl, sym}
use Rattle.std.proofs.lemmas.Option.{get_or_from_slice_get}
use Rattle.coterie_file.specs.Names.{name_at}
use Rattle.show_failures.specs.Groups.{prefix_of}
use Rattle.show_failures.proofs.NameLemmas.{all_names, all_voters}
use Rattle.show_failures.proofs.VoterLemmas.{passing, passing-with, passing-within, passing-without}
use Rattle.show_failures.proofs.groups.group_of.Goals as goal
use Rattle.show_failures.proofs.groups.group_of.Goals.{then-eq, else-eq}

pub loop-other-preserved : goal.loop-other-preserved
loop-other-preserved c =
    let names = c.args.named.now.names in
    let prefix = c.prefix_of-prefix.result.now in
    let k = c.loop-other.other in
    let named = get_or_from_slice_get names k c.name-in-loop-other.result.now [] c.name-in-loop-other.ensures.value in
    let tested : bytes_eq (prefix_of (name_at names k)) prefix ≡ c.eq.result = ap (λ n. bytes_eq (prefix_of n) prefix) named ∙ ap (λ t. bytes_eq t prefix) (sym c.prefix_of.ensures)
    ∙ sym c.eq.ensures in
    elim c.if-eq.branch [
      | then-eq w ↦ rw w.group-is (w.insert.ensures.members ∙ passing-with (λ j. bytes_eq (prefix_of (name_at names j)) prefix) k k c.loop-other.group refl c.loop-other.invariant
          (tested ∙ w.if-eq.true))
      | else-eq w ↦ rw w.group-is (passing-without (λ j. bytes_eq (prefix_of (name_at names j)) prefix) k c.loop-other.group c.loop-other.invariant (tested ∙ w.if-eq.false))
    ]

pub returns-clause-group : goal.returns-clause-group
returns-clause-group c =
    let named = c.args.named.now in
    let names = named.names in
    let prefix : c.prefix_of-prefix.result.now ≡ prefix_of (name_at names c.args.voter) = c.prefix_of-prefix.ensures
    ∙ ap prefix_of (sym (get_or_from_slice_get names c.args.voter c.name.result.now [] c.name.ensures.value)) in
    let all : c.loop-other.other ≡ length names = all_names named c.coterie.result.now c.loop-other.other c.voters-other-end.result c.coterie.ensures.named c.coterie.ensures.value
    c.voters-other-end.ensures.value c.loop-other.auto.other-end c.loop-other-test.false in
    c.loop-other.invariant ∙ (λ i. passing (λ j. bytes_eq (prefix_of (name_at names j)) (prefix i)) (all i))

pub returns-clause-voters : goal.returns-clause-voters
returns-clause-voters c =
    let named = c.args.named.now in
    passing-within (λ j. bytes_eq (prefix_of (name_at named.names j)) c.prefix_of-prefix.result.now) c.loop-other.other named.system.voters c.loop-other.group c.loop-other.invariant
    (all_voters named c.coterie.result.now c.loop-other.other c.voters-other-end.result c.coterie.ensures.value c.voters-other-end.ensures.value c.loop-other.auto.other-end)
