use Rattle.std.proofs.Common.{ℕ, List, subst}
use Rattle.std.specs.List.{All}
use Rattle.run_outcome.specs.Entries.{Draw}
use Rattle.replay.specs.Records.{EachOnce, IsLeast, IsNumberFault, IsRight, IsTicketFault, IsWrong, entries_on}
use Rattle.replay.proofs.SoundLemmas.{IsFound-numbers, IsFound-tickets, register_at_end}
use Rattle.replay.proofs.check.fault_of.Goals as goal

pub returns-in-Some : goal.returns-in-Some
returns-in-Some c =
    IsFound-tickets c.args.cycle.now (entries_on c.args.side c.args.run.now) c.in-Some.fault
    (subst (λ (ts : List ℕ). IsTicketFault ts c.in-Some.fault) c.requires.tickets c.in-Some.ensures)

pub returns-in-Some-least_wrong : goal.returns-in-Some-least_wrong
returns-in-Some-least_wrong c = (
  subst EachOnce c.requires.tickets c.in_default.ensures,
  subst (λ (ds : List Draw). IsLeast (IsWrong c.args.cycle.now ds) c.in-Some-least_wrong.ticket) c.draws_on.ensures c.in-Some-least_wrong.ensures,
)

pub returns-in-Some-number_fault : goal.returns-in-Some-number_fault
returns-in-Some-number_fault c =
    IsFound-numbers c.args.cycle.now (entries_on c.args.side c.args.run.now) c.in-Some-number_fault.fault
    (subst EachOnce c.requires.tickets c.in_default.ensures)
    (subst (λ (ds : List Draw). All (IsRight c.args.cycle.now) ds) c.draws_on.ensures c.in_default-least_wrong.ensures)
    (subst (λ (ns : List ℕ). IsNumberFault ns c.in-Some-number_fault.fault) c.requires.numbers c.in-Some-number_fault.ensures)

pub returns : goal.returns
returns c =
    register_at_end c.args.cycle.now (entries_on c.args.side c.args.run.now) c.register_fault.result
    (subst EachOnce c.requires.tickets c.in_default.ensures)
    (subst (λ (ds : List Draw). All (IsRight c.args.cycle.now) ds) c.draws_on.ensures c.in_default-least_wrong.ensures)
    (subst EachOnce c.requires.numbers c.in_default-number_fault.ensures)
    (c.register_fault.ensures c.args.side)
