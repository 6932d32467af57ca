use Rattle.std.proofs.Common.{◌≡◌, ◌∙◌, sym, not, map, None, string_bytes, refl}
use Rattle.std.specs.List.{position}
use Rattle.coterie_file.specs.Names.{is_name}
use Rattle.coterie_file.proofs.ListLemmas.{position-map}
use Rattle.coterie_file.proofs.NameLaws.{AreNames-from_no_fault}
use Rattle.coterie_file.proofs.names.names_fault.Goals as goal

pub returns-in-Some-clause-fault : goal.returns-in-Some-clause-fault
returns-in-Some-clause-fault c =
    let bad = position-map (λ n. not (is_name n)) string_bytes c.args.names.now ∙ sym c.in-Some.ensures in
    rw bad

pub returns-in-Some-first_repeat-clause-fault : goal.returns-in-Some-first_repeat-clause-fault
returns-in-Some-first_repeat-clause-fault c =
    let good : position (λ n. not (is_name n)) (map string_bytes c.args.names.now) ≡ None = position-map (λ n. not (is_name n)) string_bytes c.args.names.now ∙ sym c.in_default.ensures in
    rw (good, ← c.in-Some-first_repeat.ensures)

pub returns-in-None-clause-fault : goal.returns-in-None-clause-fault
returns-in-None-clause-fault c =
    let good : position (λ n. not (is_name n)) (map string_bytes c.args.names.now) ≡ None = position-map (λ n. not (is_name n)) string_bytes c.args.names.now ∙ sym c.in_default.ensures in
    rw (good, ← c.in-None.ensures)

pub returns-in-None-clause-names : goal.returns-in-None-clause-names
returns-in-None-clause-names c =
    let good : position (λ n. not (is_name n)) (map string_bytes c.args.names.now) ≡ None = position-map (λ n. not (is_name n)) string_bytes c.args.names.now ∙ sym c.in_default.ensures in
    AreNames-from_no_fault (map string_bytes c.args.names.now) (rw (good, ← c.in-None.ensures) refl)
