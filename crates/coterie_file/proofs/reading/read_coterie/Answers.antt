use Rattle.std.proofs.Common.{◌≡◌, ◌∙◌, sym, ap, arith, length, map, Ok, string_bytes}
use Rattle.std.proofs.lemmas.List.{length-map}
use Rattle.coterie_file.specs.Answers.{◌>>=◌, unless}
use Rattle.coterie_file.specs.Lists.{name_lists}
use Rattle.coterie_file.specs.Reading.{system_of, named_of, lists_fault, coterie_in, coterie_at}
use Rattle.coterie_file.proofs.CapacityLemmas.{AreCapacities-same}
use Rattle.coterie_file.proofs.ReadingLemmas.{unless-Ok, name_lists-same, named_of-same, Refuses-unless, Gives-refused}
use Rattle.coterie_file.proofs.reading.read_coterie.Goals as goal

pub returns-in_err-coterie-clause-exact : goal.returns-in_err-coterie-clause-exact
returns-in_err-coterie-clause-exact c =
    let lists = name_lists c.deref.result.now c.deref-2.result.now c.deref-3.result.now in
    let same = name_lists-same _ _ _ _ _ _ c.deref.ensures.value c.deref-2.ensures.value c.deref-3.ensures.value in
    let read : coterie_at c.args.text.now ≡ coterie_in lists = ap (λ r. r >>= coterie_in) (c.in_ok-lists.ensures.exact ∙ ap Ok (sym same)) in
    rw read (Gives-refused (λ n. n) c.from_residual-in_err-coterie.result (coterie_in lists) c.in_err-coterie.field-0.0 c.from_residual-in_err-coterie.ensures.1
    (Refuses-unless c.in_err-coterie.field-0.0 (lists_fault lists) (system_of lists) (named_of lists) c.in_err-coterie.ensures.exact))

pub with-requires-clause-one_each : goal.with-requires-clause-one_each
with-requires-clause-one_each c =
    let lists = name_lists c.deref.result.now c.deref-2.result.now c.deref-3.result.now in
    let made = unless-Ok (lists_fault lists) (system_of lists) c.in_ok-coterie.coterie c.in_ok-coterie.ensures.exact in
    let count : length (map string_bytes c.deref.result.now) ≡ c.in_ok-coterie.coterie.voters = ap (λ s. s.voters) made.1 in
    omega (arith, count, length-map c.deref.result.now string_bytes, c.deref.ensures.len)

pub with-requires-clause-capacities : goal.with-requires-clause-capacities
with-requires-clause-capacities c =
    let lists = name_lists c.deref.result.now c.deref-2.result.now c.deref-3.result.now in
    let made = unless-Ok (lists_fault lists) (system_of lists) c.in_ok-coterie.coterie c.in_ok-coterie.ensures.exact in
    AreCapacities-same (length c.deref.result.now) c.in_ok-coterie.coterie.voters c.deref-3.result.now c.kept-capacities.result.items c.in_ok-coterie.ensures.capacities
    (c.deref-3.ensures.value ∙ sym c.deref-4.ensures.value ∙ sym c.kept-capacities.ensures)
    (sym (length-map c.deref.result.now string_bytes) ∙ ap (λ s. s.voters) made.1)

pub returns-clause-exact : goal.returns-clause-exact
returns-clause-exact c =
    let lists = name_lists c.deref.result.now c.deref-2.result.now c.deref-3.result.now in
    let same = name_lists-same _ _ _ _ _ _ c.deref.ensures.value c.deref-2.ensures.value c.deref-3.ensures.value in
    let read : coterie_at c.args.text.now ≡ coterie_in lists = ap (λ r. r >>= coterie_in) (c.in_ok-lists.ensures.exact ∙ ap Ok (sym same)) in
    let made = unless-Ok (lists_fault lists) (system_of lists) c.in_ok-coterie.coterie c.in_ok-coterie.ensures.exact in
    let named = named_of-same lists _ _ _ made.1 (ap (map string_bytes) c.deref.ensures.value) (c.deref-3.ensures.value ∙ sym c.deref-4.ensures.value ∙ sym c.kept-capacities.ensures) in
    read ∙ ap (λ o. unless o (named_of lists)) made.0 ∙ ap Ok (named ∙ sym c.with.ensures)
