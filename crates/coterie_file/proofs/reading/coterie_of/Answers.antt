use Rattle.std.proofs.Common.{◌≡◌, ◌∙◌, None, OnOk, sym, subst, ap, length, map, string_bytes}
use Rattle.std.proofs.lemmas.List.{length-map}
use Rattle.quorum_set.specs.Capacities.{AreCapacities}
use Rattle.coterie_file.specs.Names.{names_fault}
use Rattle.coterie_file.proofs.ReadingLemmas.{unless-Ok}
use Rattle.coterie_file.proofs.reading.coterie_of.Goals as goal
use Rattle.coterie_file.proofs.reading.coterie_of.Goals.{In_ok-voters}

-- the names have no fault, and are the keys
known : (c : In_ok-voters) → (names_fault (map string_bytes c.args.names.now) ≡ None) × (map string_bytes c.args.names.now ≡ map (λ k. k.now) c.in_ok-voters.voters.keys)
known c = unless-Ok (names_fault (map string_bytes c.args.names.now)) (map string_bytes c.args.names.now) (map (λ k. k.now) c.in_ok-voters.voters.keys) c.in_ok-voters.ensures.exact

pub coterie_by-requires : goal.coterie_by-requires
coterie_by-requires c =
    let is = known (goal.at.coterie_by-requires c).In_ok-voters in
    rw (← is.1) is.0

pub returns-clause-exact : goal.returns-clause-exact
returns-clause-exact c =
    let is = known (goal.at.returns-clause-exact c).In_ok-voters in
    rw is.1 c.coterie_by.ensures.exact

pub returns-clause-capacities : goal.returns-clause-capacities
returns-clause-capacities c =
    let names = c.args.names.now in
    let keys = c.in_ok-voters.voters.keys in
    let is = known (goal.at.returns-clause-capacities c).In_ok-voters in
    let count = sym (length-map keys (λ k. k.now)) ∙ sym (ap length is.1) ∙ length-map names string_bytes in
    subst (λ n. OnOk c.coterie_by.result (AreCapacities c.args.capacities.now n)) count c.coterie_by.ensures.capacities
