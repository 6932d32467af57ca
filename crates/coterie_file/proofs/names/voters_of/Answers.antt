use Rattle.std.proofs.Common.{◌≡◌, ◌∙◌, sym, not, map, None, string_bytes, refl}
use Rattle.std.specs.List.{position}
use Rattle.coterie_file.specs.Names.{is_name}
use Rattle.coterie_file.proofs.ListLemmas.{position-map}
use Rattle.coterie_file.proofs.NameLaws.{AreNames-from_no_fault}
use Rattle.coterie_file.proofs.names.voters_of.Goals as goal

pub returns-in-Some-clause-exact : goal.returns-in-Some-clause-exact
returns-in-Some-clause-exact c =
    let bad = position-map (λ n. not (is_name n)) string_bytes c.args.names.now ∙ sym c.in-Some.ensures in
    rw bad

pub returns-in-Ok-clause-exact : goal.returns-in-Ok-clause-exact
returns-in-Ok-clause-exact c =
    let good : position (λ n. not (is_name n)) (map string_bytes c.args.names.now) ≡ None = position-map (λ n. not (is_name n)) string_bytes c.args.names.now ∙ sym c.in_default.ensures in
    let seen = rw c.in-Ok.is at c.in_ok-voters.ensures in
    rw (good, seen.1, seen.0)

pub returns-in-Err-clause-exact : goal.returns-in-Err-clause-exact
returns-in-Err-clause-exact c =
    let good : position (λ n. not (is_name n)) (map string_bytes c.args.names.now) ≡ None = position-map (λ n. not (is_name n)) string_bytes c.args.names.now ∙ sym c.in_default.ensures in
    let repeated = rw c.in-Err.is at c.in_ok-voters.ensures in
    rw (good, repeated)

pub returns-in-Ok-clause-names : goal.returns-in-Ok-clause-names
returns-in-Ok-clause-names c =
    let good : position (λ n. not (is_name n)) (map string_bytes c.args.names.now) ≡ None = position-map (λ n. not (is_name n)) string_bytes c.args.names.now ∙ sym c.in_default.ensures in
    let seen = rw c.in-Ok.is at c.in_ok-voters.ensures in
    AreNames-from_no_fault (map string_bytes c.args.names.now) (rw (good, seen.1) refl)
