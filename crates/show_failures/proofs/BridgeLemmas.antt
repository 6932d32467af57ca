-- Lemmas on bridges by names.
use Rattle.std.proofs.Common.{◌≡◌, ℕ, ◌+◌, ◌<◌, ◌≤◌, Bool, true, List, [], length, drop, get_or, slice_get, eqb, sym, refl, ap, ◌∙◌, arith, Option, None, Some, MatchOption, Contains}
use Rattle.std.specs.List.{position}
use Rattle.std.specs.Option.{option_or, option_map}
use Rattle.std.proofs.lemmas.Bool.{eqb-true, false_from_ne_true, true≢false}
use Rattle.std.proofs.lemmas.List.{get_or-map, length-map}
use Rattle.std.proofs.lemmas.List.Folds.{Any-from_list_any}
use Rattle.numbers.specs.Sets.{has, meet}
use Rattle.numbers.proofs.Meetings.{meet-common, meet-from}
use Rattle.numbers.proofs.SetLemmas.{has-at}
use Rattle.quorum_set.specs.Bridges.{AreBridged, IsLeastApart, first_apart}
use Rattle.quorum_set.specs.Coteries.{are_disjoint}
use Rattle.quorum_set.proofs.BridgeLemmas.{IsLeastApart-first_apart, first_apart-None}
use Rattle.coterie_file.specs.Named.{NamedSystem, IsNamed}
use Rattle.coterie_file.specs.Names.{has_name, name_at}
use Rattle.coterie_file.proofs.ListLemmas.{Contains-has_name, has_name-Contains}
use Rattle.show_failures.specs.Bridges.{AllShare, IsFirstApart, ShareName, all_namesakes, namesakes, quorum_at}
use Rattle.show_failures.specs.Names.{names_of}
use Rattle.show_failures.proofs.ListLemmas.{drop-at}
use Rattle.show_failures.proofs.VoterLemmas.{has-passing, passing-has}

-- the quorum at a place has no member in common with the set at another place
pub apart-here : (quorums sets : List (List ℕ)) (k i : ℕ) (q : List ℕ) → slice_get quorums k ≡ Some q → k < length quorums → position (are_disjoint q) sets ≡ Some i
    → first_apart k (drop k quorums) sets ≡ Some (k, i)
apart-here quorums sets k i q e lt at =
    ap (λ t. first_apart k t sets) (drop-at quorums k q e lt)
    ∙ ap (λ o. option_or (option_map (λ n. (k, n)) o) (first_apart (k + 1) (drop (k + 1) quorums) sets)) at

-- it meets each set
pub apart-later : (quorums sets : List (List ℕ)) (k : ℕ) (q : List ℕ) → slice_get quorums k ≡ Some q → k < length quorums → position (are_disjoint q) sets ≡ None
    → first_apart k (drop k quorums) sets ≡ first_apart (k + 1) (drop (k + 1) quorums) sets
apart-later quorums sets k q e lt none =
    ap (λ t. first_apart k t sets) (drop-at quorums k q e lt)
    ∙ ap (λ o. option_or (option_map (λ n. (k, n)) o) (first_apart (k + 1) (drop (k + 1) quorums) sets)) none

-- the set of a quorum of the second
namesakes_at : (first second : NamedSystem) (k : ℕ) → k < length second.system.quorums → get_or (all_namesakes first second) k [] ≡ namesakes first second (quorum_at second k)
namesakes_at first second k lt = get_or-map (namesakes first second) second.system.quorums k [] [] lt

-- a member's name is among the members' names
Contains-name : (names : List (List ℕ)) (q : List ℕ) (i : ℕ) → has q i ≡ true → Contains (names_of names q) (name_at names i)
Contains-name names q i e =
    let found = Any-from_list_any (λ j. eqb j i) q e in
    let same : found.1 ≡ i = eqb-true found.1 i found.4 in
    let lt : found.0 < length (names_of names q) = omega (arith, length-map q (name_at names), found.2) in
    (found.0, lt, get_or-map (name_at names) q found.0 found.1 (name_at names i) found.2 ∙ ap (name_at names) (found.3 ∙ same))

-- the test of a voter of the first coterie: a member of a quorum of the second has its name
abbrev is_namesake : NamedSystem → NamedSystem → ℕ → ℕ → Bool
is_namesake first second k i = has_name (names_of second.names (quorum_at second k)) (name_at first.names i)

share-meet : (first second : NamedSystem) (j k : ℕ) → meet (quorum_at first j) (namesakes first second (quorum_at second k)) ≡ true → ShareName first second j k
share-meet first second j k e =
    let at = meet-common (quorum_at first j) (namesakes first second (quorum_at second k)) e in
    let voter = passing-has (is_namesake first second k) (length first.names) at.0 at.2 in
    (name_at first.names at.0, Contains-name first.names (quorum_at first j) at.0 at.1, Contains-has_name (names_of second.names (quorum_at second k)) (name_at first.names at.0) voter.passes)

meet-share : (first second : NamedSystem) (j k : ℕ) → IsNamed first → j < length first.system.quorums → ShareName first second j k
    → meet (quorum_at first j) (namesakes first second (quorum_at second k)) ≡ true
meet-share first second j k named lj h =
    let q = quorum_at first j in
    let m = h.1.0 in
    let i = get_or q m 0 in
    let lt : m < length q = omega (arith, length-map q (name_at first.names), h.1.1) in
    let is : name_at first.names i ≡ h.0 = sym (get_or-map (name_at first.names) q m 0 h.0 lt) ∙ h.1.2 in
    let below : i < first.system.voters = named.coterie.in_range j [] lj m 0 lt in
    let there : has_name (names_of second.names (quorum_at second k)) h.0 ≡ true = has_name-Contains (names_of second.names (quorum_at second k)) h.0 h.2 in
    let few : first.system.voters ≤ 64 = named.coterie.few_voters in
    let all : length first.names ≡ first.system.voters = named.one_each in
    meet-from q (namesakes first second (quorum_at second k)) i (has-at q m i lt refl)
    (has-passing (is_namesake first second k) (length first.names) i (omega arith) (omega arith) (ap (has_name (names_of second.names (quorum_at second k))) is ∙ there))

-- all meet, so all share a name
pub AllShare-bridged : (first second : NamedSystem) → AreBridged first.system.quorums (all_namesakes first second) → AllShare first second
AllShare-bridged first second all j k lj lk =
    let lt : k < length (all_namesakes first second) = omega (arith, length-map second.system.quorums (namesakes first second), lk) in
    share-meet first second j k (ap (meet (quorum_at first j)) (sym (namesakes_at first second k lk)) ∙ all j [] lj k [] lt)

-- the first pair that does not meet is the first that shares no name
pub IsFirstApart-least : (first second : NamedSystem) (j k : ℕ) → IsNamed first → IsLeastApart first.system.quorums (all_namesakes first second) j k → IsFirstApart first second j k
IsFirstApart-least first second j k named least =
    let size = length-map second.system.quorums (namesakes first second) in
    let lk : k < length second.system.quorums = omega (arith, size, least.1) in
    record {
      in_first = least.0;
      in_second = lk;
      apart = λ share. true≢false (sym (meet-share first second j k named least.0 share) ∙ ap (meet (quorum_at first j)) (sym (namesakes_at first second k lk)) ∙ least.2);
      least = λ a b la lb none.
          let lt : b < length (all_namesakes first second) = omega (arith, size, lb) in
          least.3 a b la lt (ap (meet (quorum_at first a)) (namesakes_at first second b lb)
          ∙ false_from_ne_true (meet (quorum_at first a) (namesakes first second (quorum_at second b))) (λ yes. none (share-meet first second a b yes)));
    }

-- what is found of the pairs of quorums: none, so all share a name, or the first pair that shares none
pub pair_found : (first second : NamedSystem) (o : Option (ℕ × ℕ)) → IsNamed first → first_apart 0 first.system.quorums (all_namesakes first second) ≡ o
    → MatchOption o (AllShare first second) (λ p. IsFirstApart first second p.0 p.1)
pair_found first second None named e = AllShare-bridged first second (first_apart-None 0 first.system.quorums (all_namesakes first second) e)
pair_found first second (Some p) named e = IsFirstApart-least first second p.0 p.1 named (IsLeastApart-first_apart first.system.quorums (all_namesakes first second) p.0 p.1 e)
