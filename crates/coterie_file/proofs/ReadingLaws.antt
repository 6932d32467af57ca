-- What it means that lists have no fault.
use Rattle.std.proofs.Common.{◌≡◌, ◌↔◌, ℕ, ◌<◌, ◌≤◌, true, false, not, List, [], length, get_or, sym, refl, ap, ◌∙◌, inl, inr, arith, Option, None, Some, Ok, Err, Contains}
use Rattle.std.specs.List.{All, list_all, list_any, position}
use Rattle.std.specs.Option.{option_or, option_map, is_some}
use Rattle.std.specs.Str.{bytes_eq}
use Rattle.std.proofs.lemmas.Bool.{eq-eqb, eqb-true, not-false, not_from_true, cases_lt, cases_order, false≢true}
use Rattle.std.proofs.lemmas.List.{get_or_default}
use Rattle.std.proofs.lemmas.List.Elements.{All-map}
use Rattle.std.proofs.lemmas.List.Folds.{Any-from_list_any, list_any_at}
use Rattle.std.proofs.lemmas.List.Quantifiers.{position-Some}
use Rattle.std.proofs.lemmas.List.Sums.{AllPass-from_list_all, list_all-from_AllPass}
use Rattle.std.proofs.lemmas.Slice.Eq.{bytes_eq-Decides}
use Rattle.quorum_set.specs.Coteries.{first_fault}
use Rattle.quorum_set.proofs.CoterieLemmas.{IsCoterie-first_fault}
use Rattle.quorum_set.proofs.FaultLaws.{first_fault-IsCoterie}
use Rattle.numbers.specs.Sets.{has, IsSet}
use Rattle.numbers.proofs.SetLemmas.{IsSet-set_where, has-set_where, has-above}
use Rattle.numbers.proofs.Options.{option_map-None, option_or-None, position-None}
use Rattle.coterie_file.specs.Capacities.{capacities_fault}
use Rattle.coterie_file.specs.Lists.{NameLists, lists_at}
use Rattle.coterie_file.specs.Named.{NamedSystem, IsNamed}
use Rattle.coterie_file.specs.Names.{has_name, number_of, name_at, AllDiffer, first_repeat, names_fault}
use Rattle.coterie_file.specs.Reading.{is_number, quorum_of, system_of, lists_fault, named_of, coterie_in, coterie_at, ListsCoterie, Describes}
use Rattle.coterie_file.specs.declared.fault.FileFault.TheVariants.{UnknownName, RepeatedMember, Coterie}
use Rattle.coterie_file.proofs.CapacityLemmas.{AreCapacities-from_no_fault, capacities_fault-none}
use Rattle.coterie_file.proofs.ListLemmas.{Contains-has_name, has_name-Contains}
use Rattle.quorum_set.proofs.FaultLaws.{position-nil}
use Rattle.coterie_file.proofs.NameLaws.{AllDiffer-from_no_repeat, AreNames-from_no_fault, first_repeat-none, names_fault-none}
use Rattle.coterie_file.proofs.ReadingLemmas.{unless-Ok}

is_number-true : (o : Option ℕ) (i : ℕ) → is_number o i ≡ true → o ≡ Some i
is_number-true None i e = cc
is_number-true (Some j) i e = ap Some (eqb-true j i e)

-- a name that is at one place is found there
number_of-at : (names : List (List ℕ)) (i : ℕ) → AllDiffer names → i < length names → number_of names (name_at names i) ≡ Some i
number_of-at names i differ lt =
    let name = name_at names i in
    let test = λ (n : List ℕ). bytes_eq name n in
    elim (position test names) as (λ o. position test names ≡ o → o ≡ Some i) [
      | None ↦ λ e. absurd (false≢true (sym (position-None test names e i [] lt) ∙ (bytes_eq-Decides name name).1 refl))
      | Some k ↦ λ e.
          let found = position-Some test names k [] e in
          let same : name ≡ get_or names k [] = (bytes_eq-Decides name (get_or names k [])).0 found.1 in
          elim (cases_order k i) as (λ _. Some k ≡ Some i) [
            | inl at ↦ ap Some at
            | inr off ↦ elim off [
              | inl before ↦ absurd (differ k i [] before lt (sym same))
              | inr after ↦ absurd (differ i k [] after found.0 same)
            ]
          ]
    ] refl

-- a voter is a member where its name is listed
pub listed_voters : (names members : List (List ℕ)) (i : ℕ) → has (quorum_of names members) i ≡ true → (i < length names) × Contains members (name_at names i)
listed_voters names members i e =
    let test = λ (name : List ℕ). is_number (number_of names name) i in
    let passes = λ (j : ℕ). list_any (λ name. is_number (number_of names name) j) members in
    elim (cases_lt i 64) as (λ _. (i < length names) × Contains members (name_at names i)) [
      | inl lt ↦
          let some = Any-from_list_any test members (sym (has-set_where passes i lt) ∙ e) in
          let found = position-Some (λ n. bytes_eq some.1 n) names i [] (is_number-true (number_of names some.1) i some.4) in
          let same : some.1 ≡ name_at names i = (bytes_eq-Decides some.1 (name_at names i)).0 found.1 in
          (found.0, (some.0, some.2, get_or_default members some.0 (name_at names i) some.1 some.2 ∙ some.3 ∙ same))
      | inr ge ↦ absurd (false≢true (sym (has-above 0 64 (quorum_of names members) i (IsSet-set_where passes) ge) ∙ e))
    ]

pub quorum_of-means : (names members : List (List ℕ)) (i : ℕ) → AllDiffer names → length names ≤ 64
    → (has (quorum_of names members) i ≡ true) ↔ ((i < length names) × Contains members (name_at names i))
quorum_of-means names members i differ few = (
  listed_voters names members i,
  λ h.
      let passes = λ (j : ℕ). list_any (λ name. is_number (number_of names name) j) members in
      let number : number_of names (get_or members h.1.0 (name_at names i)) ≡ Some i = ap (number_of names) h.1.2 ∙ number_of-at names i differ h.0 in
      has-set_where passes i (omega (arith, h.0))
      ∙ list_any_at (λ name. is_number (number_of names name) i) members h.1.0 (name_at names i) h.1.1 (ap (λ o. is_number o i) number ∙ eq-eqb i i refl),
)

pub all_sets : (lists : NameLists) → All IsSet (system_of lists).quorums
all_sets lists = All-map IsSet (quorum_of lists.names) lists.quorums (λ k d lt. IsSet-set_where (λ i. list_any (λ name. is_number (number_of lists.names name) i) (get_or lists.quorums k d)))

is_some-none : {A : Type 0} (o : Option A) → is_some o ≡ false → o ≡ None
is_some-none None e = refl
is_some-none (Some x) e = cc

pub lists_fault-means : (lists : NameLists) → lists_fault lists ≡ None → ListsCoterie lists
lists_fault-means lists e =
    let unknown = λ (members : List (List ℕ)). not (list_all (has_name lists.names) members) in
    let repeated = λ (members : List (List ℕ)). is_some (first_repeat [] members) in
    let last = option_map Coterie (first_fault (system_of lists).voters (system_of lists).quorums) in
    let fourth = option_or (capacities_fault (length lists.names) lists.capacities) last in
    let third = option_or (option_map RepeatedMember (position repeated lists.quorums)) fourth in
    let second = option_or (option_map UnknownName (position unknown lists.quorums)) third in
    let a = option_or-None (names_fault lists.names) second e in
    let b = option_or-None (option_map UnknownName (position unknown lists.quorums)) third a.1 in
    let c = option_or-None (option_map RepeatedMember (position repeated lists.quorums)) fourth b.1 in
    let d = option_or-None (capacities_fault (length lists.names) lists.capacities) last c.1 in
    let known = position-None unknown lists.quorums (option_map-None UnknownName _ b.0) in
    let once = position-None repeated lists.quorums (option_map-None RepeatedMember _ c.0) in
    record {
      names = AreNames-from_no_fault lists.names a.0;
      known = λ k d lt j x l.
          Contains-has_name lists.names (get_or (get_or lists.quorums k d) j x) (AllPass-from_list_all (has_name lists.names) (get_or lists.quorums k d) (not-false _ (known k d lt)) j x l);
      once = λ k d lt. AllDiffer-from_no_repeat (get_or lists.quorums k d) (is_some-none (first_repeat [] (get_or lists.quorums k d)) (once k d lt));
      capacities = AreCapacities-from_no_fault (length lists.names) lists.capacities d.0;
      coterie = IsCoterie-first_fault (length lists.names) (system_of lists).quorums (all_sets lists) (option_map-None Coterie _ d.1);
    }

pub lists_fault-none : (lists : NameLists) → ListsCoterie lists → lists_fault lists ≡ None
lists_fault-none lists h =
    let unknown = λ (members : List (List ℕ)). not (list_all (has_name lists.names) members) in
    let repeated = λ (members : List (List ℕ)). is_some (first_repeat [] members) in
    let known : position unknown lists.quorums ≡ None = position-nil unknown lists.quorums (λ k d lt.
    not_from_true _ (list_all-from_AllPass (has_name lists.names) (get_or lists.quorums k d) (λ j x l. has_name-Contains lists.names _ (h.known k d lt j x l)))) in
    let once : position repeated lists.quorums ≡ None = position-nil repeated lists.quorums (λ k d lt. ap is_some (first_repeat-none (get_or lists.quorums k d) (h.once k d lt))) in
    let sets = first_fault-IsCoterie (length lists.names) (system_of lists).quorums h.coterie in
    rw (names_fault-none lists.names h.names, known, once, capacities_fault-none (length lists.names) lists.capacities h.capacities) (ap (option_map Coterie) sets)

-- what a text reads as
read_lists : (lists : NameLists) (n : NamedSystem) → coterie_in lists ≡ Ok n → ListsCoterie lists × (n ≡ named_of lists)
read_lists lists n e =
    let parts = unless-Ok (lists_fault lists) (named_of lists) n e in
    (lists_fault-means lists parts.0, sym parts.1)

pub coterie_at-describes : (text : List ℕ) (n : NamedSystem) → coterie_at text ≡ Ok n → Describes text n
coterie_at-describes text n e =
    elim (lists_at text) as (λ r. lists_at text ≡ r → Describes text n) [
      | Ok lists ↦ λ at. let read = read_lists lists n (rw at at e) in (lists, at, read.0, read.1)
      | Err fault ↦ λ at. let bad = rw at at e in cc
    ] refl

pub describes-coterie_at : (text : List ℕ) (n : NamedSystem) → Describes text n → coterie_at text ≡ Ok n
describes-coterie_at text n h = rw (h.1, lists_fault-none h.0 h.2) (ap Ok (sym h.3))

pub named_at : (text : List ℕ) (n : NamedSystem) → coterie_at text ≡ Ok n → IsNamed n
named_at text n e =
    let h = coterie_at-describes text n e in
    rw h.3 (record { coterie = h.2.coterie; one_each = refl; names = h.2.names; capacities = h.2.capacities })
