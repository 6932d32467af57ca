use Rattle.std.proofs.Common.{◌≡◌, ◌∙◌, sym, ap, map, Ok, length, arith, refl}
use Rattle.std.specs.Option.{option_map, option_or}
use Rattle.std.proofs.lemmas.List.{length-map}
use Rattle.quorum_set.specs.Coteries.{QuorumSystem, first_fault}
use Rattle.coterie_file.specs.Answers.{unless}
use Rattle.coterie_file.specs.Capacities.{capacities_fault}
use Rattle.coterie_file.specs.Lists.{name_lists_by}
use Rattle.coterie_file.specs.Reading.{system_of, lists_fault}
use Rattle.coterie_file.specs.declared.fault.FileFault.TheVariants.{Coterie}
use Rattle.coterie_file.proofs.ReadingLemmas.{coterie_or-Ok, coterie_or-Err, unknown_fault, repeated_fault, later_fault, first_fault-too_many, known_answer, system_of-name_lists, Gives-Coterie, Refuses-Err}
use Rattle.coterie_file.proofs.reading.coterie_by.Goals as goal
use Rattle.coterie_file.proofs.reading.coterie_by.Goals.{After-of}

pub returns-in-Some-clause-exact : goal.returns-in-Some-clause-exact
returns-in-Some-clause-exact c =
    let names = map (λ k. k.now) c.args.voters.now.keys in
    let lists = name_lists_by names c.args.quorums.now c.args.capacities.now in
    ap (λ o. unless o (system_of lists)) (unknown_fault names c.args.quorums.now c.args.capacities.now _ c.requires (sym c.in-Some.ensures))

pub returns-in-Some-2-clause-exact : goal.returns-in-Some-2-clause-exact
returns-in-Some-2-clause-exact c =
    let names = map (λ k. k.now) c.args.voters.now.keys in
    let lists = name_lists_by names c.args.quorums.now c.args.capacities.now in
    ap (λ o. unless o (system_of lists)) (repeated_fault names c.args.quorums.now c.args.capacities.now _ c.requires (sym c.in_default.ensures) (sym c.in_ok-j.ensures ∙ c.in-Some-2.is))

pub returns-in-Some-capacities_fault-clause-exact : goal.returns-in-Some-capacities_fault-clause-exact
returns-in-Some-capacities_fault-clause-exact c =
    let names = map (λ k. k.now) c.args.voters.now.keys in
    let lists = name_lists_by names c.args.quorums.now c.args.capacities.now in
    let none = later_fault names c.args.quorums.now c.args.capacities.now c.requires (sym c.in_default.ensures) (sym c.in_ok-j.ensures ∙ c.in_default-2.is) in
    let found = ap (λ n. capacities_fault n c.args.capacities.now) (length-map c.args.voters.now.keys (λ k. k.now) ∙ sym c.len-count.ensures.len)
    ∙ sym c.capacities_fault.ensures.fault ∙ c.in-Some-capacities_fault.is in
    Refuses-Err c.in-Some-capacities_fault.fault (unless (lists_fault lists) (system_of lists))
    (ap (λ o. unless o (system_of lists)) (none ∙ ap (λ o. option_or o (option_map Coterie (first_fault (length names) (system_of lists).quorums))) found))

pub returns-then-count-gt-MAX_VOTERS-clause-exact : goal.returns-then-count-gt-MAX_VOTERS-clause-exact
returns-then-count-gt-MAX_VOTERS-clause-exact c =
    let names = map (λ k. k.now) c.args.voters.now.keys in
    let lists = name_lists_by names c.args.quorums.now c.args.capacities.now in
    let none = later_fault names c.args.quorums.now c.args.capacities.now c.requires (sym c.in_default.ensures) (sym c.in_ok-j.ensures ∙ c.in_default-2.is) in
    let count = length-map c.args.voters.now.keys (λ k. k.now) ∙ sym c.len-count.ensures.len in
    let fine = ap (λ n. capacities_fault n c.args.capacities.now) count ∙ sym c.capacities_fault.ensures.fault ∙ c.in_default-capacities_fault.is in
    let many = first_fault-too_many (length names) (system_of lists).quorums (omega (arith, count)) in
    ap (λ o. unless o (system_of lists)) (none ∙ ap (λ o. option_or o (option_map Coterie (first_fault (length names) (system_of lists).quorums))) fine ∙ ap (option_map Coterie) many)

-- the answer for these lists, by the sets that were made
answer : (c : After-of) → (s : QuorumSystem) → s ≡ record { voters = c.len-count.result; quorums = c.in_ok-sets.sets.items }
    → unless (lists_fault (name_lists_by (map (λ k. k.now) c.args.voters.now.keys) c.args.quorums.now c.args.capacities.now))
    (system_of (name_lists_by (map (λ k. k.now) c.args.voters.now.keys) c.args.quorums.now c.args.capacities.now))
    ≡ unless (option_map Coterie (first_fault s.voters s.quorums)) s
answer c s is =
    let names = map (λ k. k.now) c.args.voters.now.keys in
    let lists = name_lists_by names c.args.quorums.now c.args.capacities.now in
    let none = later_fault names c.args.quorums.now c.args.capacities.now c.requires (sym c.in_default.ensures) (sym c.in_ok-j.ensures ∙ c.in_default-2.is) in
    let count = length-map c.args.voters.now.keys (λ k. k.now) ∙ sym c.len-count.ensures.len in
    let fine = ap (λ n. capacities_fault n c.args.capacities.now) count ∙ sym c.capacities_fault.ensures.fault ∙ c.in_default-capacities_fault.is in
    known_answer lists s (none ∙ ap (λ o. option_or o (option_map Coterie (first_fault (length names) (system_of lists).quorums))) fine)
    (system_of-name_lists names c.args.quorums.now c.args.capacities.now c.len-count.result c.in_ok-sets.sets.items count c.in_ok-sets.ensures ∙ sym is)

pub returns-in_err-of-clause-exact : goal.returns-in_err-of-clause-exact
returns-in_err-of-clause-exact c =
    let system : QuorumSystem = record { voters = c.len-count.result; quorums = c.in_ok-sets.sets.items } in
    let lists = name_lists_by (map (λ k. k.now) c.args.voters.now.keys) c.args.quorums.now c.args.capacities.now in
    let refused = coterie_or-Err (first_fault system.voters system.quorums) system c.in_err-of.field-0.0 c.in_err-of.ensures in
    Gives-Coterie (λ s. s) c.from_residual-in_err-of.result (unless (lists_fault lists) (system_of lists)) c.in_err-of.field-0.0 c.from_residual-in_err-of.ensures.1
    (answer (goal.at.returns-in_err-of-clause-exact c).After-of system refl ∙ ap (λ o. unless (option_map Coterie o) system) refused)

pub returns-clause-exact : goal.returns-clause-exact
returns-clause-exact c =
    let system : QuorumSystem = record { voters = c.len-count.result; quorums = c.in_ok-sets.sets.items } in
    let accepted = coterie_or-Ok (first_fault system.voters system.quorums) system c.in_ok-of.field-0 c.in_ok-of.ensures in
    answer (goal.at.returns-clause-exact c).After-of system refl ∙ ap (λ o. unless (option_map Coterie o) system) accepted.0 ∙ ap Ok accepted.1
