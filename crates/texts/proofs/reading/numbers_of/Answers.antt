use Rattle.std.proofs.Common.{[], ◌∷◌, ◌++◌, ℕ, List, length, refl, ap, sym, ◌∙◌, arith, append_assoc}
use Rattle.std.proofs.lemmas.List.{append-nil, length-append, nil_from_length}
use Rattle.std.specs.Fmt.{decimal}
use Rattle.texts.specs.Fields.{fields}
use Rattle.texts.proofs.FieldLemmas.{IsBorder-fields, fields-push, some-from_test, zero-from_test}
use Rattle.texts.proofs.LineLemmas.{all_found, next_field}
use Rattle.texts.proofs.reading.numbers_of.Goals as goal

pub fields-init : goal.fields-init
fields-init c = record {
  written = rw c.new-numbers.ensures refl;
  left = λ ns fit e. (ns, record { fit = fit; numbers = rw c.new-numbers.ensures refl; rest_is = e });
}

pub fields-preserved : goal.fields-preserved
fields-preserved c =
    let found = c.fields.numbers.items in
    let rest = c.fields.rest.now in
    let n = c.in-Some.number in
    let pushed = c.in-Ok.ensures.ok in
    record {
      written = rw (pushed, fields-push)
          (c.fields.invariant.written ∙ ap (λ (r : List ℕ). fields found ++ r) c.in-Some.ensures.written ∙ sym (append_assoc (fields found) (32 ∷ decimal n) c.in-Some.after.now));
      left = λ ns fit e.
          let left = c.fields.invariant.left ns fit e in
          let next = next_field found rest ns left.0 (some-from_test rest c.fields-test.ensures) left.1 in
          let same = c.in-Some.ensures.read next.0 (fields next.1) next.2.small (IsBorder-fields next.1) next.2.rest_is in
          (next.1, record { fit = next.2.fit; numbers = next.2.numbers ∙ ap (λ (f : List ℕ). f ++ next.1) (ap (λ (m : ℕ). found ++ m ∷ []) (sym same.0) ∙ sym pushed); rest_is = same.1 });
    }

pub returns-in_default-clause-read : goal.returns-in_default-clause-read
returns-in_default-clause-read c = λ ns few fit e.
    let rest = c.fields.rest.now in
    let left = c.fields.invariant.left ns fit e in
    let next = next_field c.fields.numbers.items rest ns left.0 (some-from_test rest c.fields-test.ensures) left.1 in
    absurd (c.in_default.ensures.read next.0 (fields next.1) next.2.small (IsBorder-fields next.1) next.2.rest_is)

pub returns-in-Err-clause-read : goal.returns-in-Err-clause-read
returns-in-Err-clause-read c = λ ns few fit e.
    let rest = c.fields.rest.now in
    let left = c.fields.invariant.left ns fit e in
    let next = next_field c.fields.numbers.items rest ns left.0 (some-from_test rest c.fields-test.ensures) left.1 in
    let long = simp length-append at (ap length next.2.numbers) in
    let full = c.in-Err.ensures.full in
    absurd (omega arith)

pub returns-clause-read : goal.returns-clause-read
returns-clause-read c = λ ns few fit e.
    let rest = c.fields.rest.now in
    let left = c.fields.invariant.left ns fit e in
    all_found c.fields.numbers.items rest ns left.0 (nil_from_length rest (zero-from_test _ c.fields-test.ensures)) left.1

pub returns-clause-written : goal.returns-clause-written
returns-clause-written c =
    let rest = c.fields.rest.now in
    c.fields.invariant.written ∙ ap (λ (r : List ℕ). fields c.fields.numbers.items ++ r) (nil_from_length rest (zero-from_test _ c.fields-test.ensures)) ∙ append-nil (fields c.fields.numbers.items)
