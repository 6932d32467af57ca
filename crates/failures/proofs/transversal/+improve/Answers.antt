use Rattle.std.proofs.Common.{◌<◌, arith}
use Rattle.std.proofs.lemmas.Bool.Decides.{nat_tests}
use Rattle.failures.proofs.FailureLemmas.{all_barred, below_all, either_way, length-within, meets_at, outside_at, spent-once, spent-twice, undecided-barred, undecided-chosen}
use Rattle.numbers.proofs.Members.{All-has}
use Rattle.failures.proofs.transversal.+improve.Goals as goal
use Rattle.failures.proofs.transversal.+improve.Goals.{then-steps-eq0-via-then-steps-eq0, then-steps-eq0-via-else-steps-eq0+then-len}

pub returns-then-steps-eq0-clause-smallest : goal.returns-then-steps-eq0-clause-smallest
returns-then-steps-eq0-clause-smallest t c some other set has_chosen no_barred meets = elim c.then-steps-eq0.branch [
  | then-steps-eq0-via-then-steps-eq0 w ↦ absurd (grind (arith, nat_tests, w.if-steps-eq0, some))
  | then-steps-eq0-via-else-steps-eq0+then-len w ↦
      let more = length-within 0 64 c.args.chosen.now other w.len.ensures.set set has_chosen in
      grind (arith, nat_tests, w.if-len, w.len.ensures.value, w.len-else-steps-eq0.ensures.value, more)
]

pub returns-in_default-clause-smallest : goal.returns-in_default-clause-smallest
returns-in_default-clause-smallest t c some other set has_chosen no_barred meets =
    let more = length-within 0 64 c.args.chosen.now other c.len.ensures.set set has_chosen in
    let same = c.copy.ensures.value in
    rw same more

pub returns-in_default-first_outside-clause-smallest : goal.returns-in_default-first_outside-clause-smallest
returns-in_default-first_outside-clause-smallest t c some other set has_chosen no_barred meets =
    absurd (all_barred c.args.barred.now c.quorum.result.now other c.in_default-first_outside.ensures.none
    (meets_at c.args.coterie.now.quorums c.in-Some.number c.quorum.result.now other c.quorum.ensures.value c.in-Some.ensures.some.0 meets) no_barred)

pub with_voter-with-requires : goal.with_voter-with-requires
with_voter-with-requires t c =
    below_all c.quorum.result.now c.args.coterie.now.voters c.in-Some-first_outside.voter c.in-Some-first_outside.ensures.some
    c.quorum.ensures.members c.quorum.ensures.coterie.few_voters

pub with_voter-without-requires : goal.with_voter-without-requires
with_voter-without-requires t c =
    below_all c.quorum.result.now c.args.coterie.now.voters c.in-Some-first_outside.voter c.in-Some-first_outside.ensures.some
    c.quorum.ensures.members c.quorum.ensures.coterie.few_voters

pub improve-best-requires : goal.improve-best-requires
improve-best-requires t c = (
  grind (arith, nat_tests, c.decreases, c.if-steps-eq0.false),
  (
    c.with_voter-with.ensures.voters _
        (All-has (λ i. i < c.args.coterie.now.voters) _ _ c.in-Some-first_outside.ensures.some c.quorum.ensures.members) c.requires.voters,
    c.requires.best,
  ),
)

pub returns-clause-smallest : goal.returns-clause-smallest
returns-clause-smallest t c left =
    either_way c.args.coterie.now.quorums c.args.chosen.now c.args.barred.now c.with_voter-with.result c.with_voter-without.result
    c.improve-best.result c.improve.result c.in-Some-first_outside.voter c.with_voter-with.ensures.set c.with_voter-without.ensures.set
    c.with_voter-with.ensures.members c.with_voter-without.ensures.members
    (c.improve-best.ensures.smallest (let fewer = c.improve.ensures.steps in omega arith)) c.improve.ensures.shorter
    (c.improve.ensures.smallest left)

pub returns-in_default-clause-spent : goal.returns-in_default-clause-spent
returns-in_default-clause-spent t c = spent-once _ _ _ (omega arith)

pub returns-in_default-first_outside-clause-spent : goal.returns-in_default-first_outside-clause-spent
returns-in_default-first_outside-clause-spent t c = spent-once _ _ _ (omega arith)

pub returns-clause-spent : goal.returns-clause-spent
returns-clause-spent t c =
    let n = c.args.coterie.now.voters in
    let v = c.in-Some-first_outside.voter in
    let outside = outside_at c.args.coterie.now.quorums c.in-Some.number v c.quorum.result.now c.args.chosen.now c.quorum.ensures.value c.in-Some.ensures.some.1 c.in-Some-first_outside.ensures.some in
    let lt : v < n = All-has (λ i. i < n) _ _ c.in-Some-first_outside.ensures.some c.quorum.ensures.members in
    spent-twice _ c.improve-best.new.steps _ _ _ _ (grind (arith, nat_tests, c.if-steps-eq0.false))
    (undecided-chosen n v c.with_voter-with.result c.args.chosen.now c.args.barred.now lt c.quorum.ensures.coterie.few_voters c.with_voter-with.ensures.members outside c.in-Some-first_outside.ensures.outside)
    (undecided-barred n v c.with_voter-without.result c.args.chosen.now c.args.barred.now lt c.quorum.ensures.coterie.few_voters c.with_voter-without.ensures.members outside c.in-Some-first_outside.ensures.outside)
    c.improve-best.ensures.spent c.improve.ensures.spent
