-- A text never lists a voter that is out of range.
use Rattle.std.proofs.Common.{◌≡◌, ◌≢◌, ℕ, ◌<◌, ◌==◌, Bool, true, false, cond, not, List, [], length, map, get_or, refl, subst, arith, Option, None, Some, Result, Ok, Err}
use Rattle.std.specs.Prelude.{nat_lt}
use Rattle.std.specs.List.{All, list_all, position}
use Rattle.std.specs.Option.{option_or, option_map, is_some, ok_or}
use Rattle.std.proofs.lemmas.List.Elements.{All-map}
use Rattle.numbers.specs.Bounds.{max_voters, max_quorums}
use Rattle.numbers.specs.Sets.{has}
use Rattle.quorum_set.specs.Coteries.{first_fault, first_outside, first_pair, fault_if, are_disjoint, is_one_within}
use Rattle.quorum_set.specs.declared.fault.CoterieFault.{CoterieFault}
use Rattle.quorum_set.specs.declared.fault.CoterieFault.TheVariants.{NoVoters, TooManyVoters, NoQuorums, TooManyQuorums, EmptyQuorum, VoterOutOfRange, Disjoint, Contained}
use Rattle.quorum_set.proofs.StrayLaws.{IsLeastStray-first_outside}
use Rattle.coterie_file.specs.Answers.{unless, ◌>>=◌}
use Rattle.coterie_file.specs.Capacities.{is_capacity, capacities_fault}
use Rattle.coterie_file.specs.Lists.{NameLists, lists_of, lists_at, table_at}
use Rattle.coterie_file.specs.Names.{has_name, is_name, first_repeat, names_fault}
use Rattle.coterie_file.specs.Reading.{quorum_of, system_of, lists_fault, named_of, coterie_in, coterie_at}
use Rattle.coterie_file.specs.declared.fault.FileFault.{FileFault}
use Rattle.coterie_file.specs.declared.fault.FileFault.TheVariants.{BadName, RepeatedName, UnknownName, RepeatedMember, CapacityCount, BadCapacity, Coterie, Keys, NotToml}
use Rattle.coterie_file.proofs.ReadingLaws.{listed_voters, all_sets}

-- the fault is not that a voter is out of range
abbrev IsInRange : FileFault → Type 0
IsInRange (Coterie (VoterOutOfRange quorum voter)) = ⊥
IsInRange fault = Unit {0}

-- what holds of a fault, if there is one
abbrev Holds : {F : Type 0} → (F → Type 0) → Option F → Type 0
Holds P None = Unit {0}
Holds P (Some fault) = P fault

Holds-or : {F : Type 0} (P : F → Type 0) (o p : Option F) → Holds P o → Holds P p → Holds P (option_or o p)
Holds-or P None p first second = second
Holds-or P (Some fault) p first second = first

Holds-map : {A F : Type 0} (P : F → Type 0) (f : A → F) (o : Option A) → ((x : A) → o ≡ Some x → P (f x)) → Holds P (option_map f o)
Holds-map P f None each = tt
Holds-map P f (Some x) each = each x refl

Holds-if : (P : CoterieFault → Type 0) (b : Bool) (fault : CoterieFault) → P fault → Holds P (fault_if b fault)
Holds-if P true fault holds = holds
Holds-if P false fault holds = tt

Holds-names : (names : List (List ℕ)) → Holds IsInRange (names_fault names)
Holds-names names =
    Holds-or IsInRange (option_map BadName (position (λ n. not (is_name n)) names)) (option_map RepeatedName (first_repeat [] names))
    (Holds-map IsInRange BadName _ (λ i e. tt)) (Holds-map IsInRange RepeatedName _ (λ i e. tt))

Holds-capacities : (n : ℕ) (capacities : List ℕ) → Holds IsInRange (capacities_fault n capacities)
Holds-capacities n capacities = either (length capacities == n)
  where
    either : (b : Bool) → Holds IsInRange (cond b (option_map BadCapacity (position (λ c. not (is_capacity c)) capacities)) (Some (CapacityCount (length capacities))))
    either true = Holds-map IsInRange BadCapacity _ (λ i e. tt)
    either false = tt

-- the quorums of a text have no voter that is out of range
no_stray : (lists : NameLists) (p : ℕ × ℕ) → first_outside (length lists.names) 0 (map (quorum_of lists.names) lists.quorums) ≡ Some p → ⊥
no_stray lists p e =
    let sets = map (quorum_of lists.names) lists.quorums in
    let stray = IsLeastStray-first_outside (length lists.names) sets p.0 p.1 (all_sets lists) e in
    let known : All (λ q. (i : ℕ) → has q i ≡ true → i < length lists.names) sets =
    All-map (λ q. (i : ℕ) → has q i ≡ true → i < length lists.names) (quorum_of lists.names) lists.quorums
    (λ k d lt. λ i in_quorum. (listed_voters lists.names (get_or lists.quorums k d) i in_quorum).0) in
    let below = known p.0 [] stray.0 p.1 stray.1 in
    omega (arith, below, stray.2)

Holds-system : (lists : NameLists) → Holds (λ e. IsInRange (Coterie e)) (first_fault (system_of lists).voters (system_of lists).quorums)
Holds-system lists =
    let P : CoterieFault → Type 0 = λ e. IsInRange (Coterie e) in
    let n = length lists.names in
    let sets = map (quorum_of lists.names) lists.quorums in
    Holds-or P _ _ (Holds-if P (n == 0) NoVoters tt)
    (Holds-or P _ _ (Holds-if P (nat_lt max_voters n) TooManyVoters tt)
    (Holds-or P _ _ (Holds-if P (length sets == 0) NoQuorums tt)
    (Holds-or P _ _ (Holds-if P (nat_lt max_quorums (length sets)) TooManyQuorums tt)
    (Holds-or P _ _ (Holds-map P EmptyQuorum (position (λ s. length s == 0) sets) (λ j e. tt))
    (Holds-or P _ _ (Holds-map P (λ p. VoterOutOfRange p.0 p.1) (first_outside n 0 sets) (no_stray lists))
    (Holds-or P _ _ (Holds-map P (λ p. Disjoint p.0 p.1) (first_pair are_disjoint 0 sets) (λ p e. tt))
    (Holds-map P (λ p. Contained p.0 p.1) (first_pair is_one_within 0 sets) (λ p e. tt))))))))

Holds-Coterie : (o : Option CoterieFault) → Holds (λ e. IsInRange (Coterie e)) o → Holds IsInRange (option_map Coterie o)
Holds-Coterie None holds = tt
Holds-Coterie (Some e) holds = holds

Holds-lists : (lists : NameLists) → Holds IsInRange (lists_fault lists)
Holds-lists lists =
    let unknown = position (λ members. not (list_all (has_name lists.names) members)) lists.quorums in
    let repeated = position (λ members. is_some (first_repeat [] members)) lists.quorums in
    let capacities = capacities_fault (length lists.names) lists.capacities in
    let system = first_fault (system_of lists).voters (system_of lists).quorums in
    let last = option_or capacities (option_map Coterie system) in
    let listed = option_or (option_map RepeatedMember repeated) last in
    Holds-or IsInRange (names_fault lists.names) (option_or (option_map UnknownName unknown) listed) (Holds-names lists.names)
    (Holds-or IsInRange (option_map UnknownName unknown) listed (Holds-map IsInRange UnknownName unknown (λ j e. tt))
    (Holds-or IsInRange (option_map RepeatedMember repeated) last (Holds-map IsInRange RepeatedMember repeated (λ j e. tt))
    (Holds-or IsInRange capacities (option_map Coterie system) (Holds-capacities (length lists.names) lists.capacities)
    (Holds-Coterie system (Holds-system lists)))))

unless-InRange : {X : Type 0} (o : Option FileFault) (x : X) (fault : FileFault) → Holds IsInRange o → unless o x ≡ Err fault → IsInRange fault
unless-InRange None x fault holds e = cc
unless-InRange (Some own) x fault holds e = let same : own ≡ fault = cc in subst IsInRange same holds

ok_or-InRange : {X : Type 0} (o : Option X) (own fault : FileFault) → IsInRange own → ok_or o own ≡ Err fault → IsInRange fault
ok_or-InRange None own fault holds e = let same : own ≡ fault = cc in subst IsInRange same holds
ok_or-InRange (Some x) own fault holds e = cc

bind-InRange : {X Y : Type 0} (r : Result X FileFault) (f : X → Result Y FileFault) (fault : FileFault) → ((own : FileFault) → r ≡ Err own → IsInRange own)
    → ((x : X) → f x ≡ Err fault → IsInRange fault) → (r >>= f) ≡ Err fault → IsInRange fault
bind-InRange (Ok x) f fault first second e = second x e
bind-InRange (Err own) f fault first second e = let same : own ≡ fault = cc in subst IsInRange same (first own refl)

lists_at-InRange : (text : List ℕ) (fault : FileFault) → lists_at text ≡ Err fault → IsInRange fault
lists_at-InRange text fault e =
    bind-InRange (table_at text) (λ table. ok_or (lists_of table) Keys) fault (λ own is. ok_or-InRange _ NotToml own tt is) (λ table is. ok_or-InRange (lists_of table) Keys fault tt is) e

pub coterie_at-in_range : (text : List ℕ) (quorum voter : ℕ) → coterie_at text ≢ Err (Coterie (VoterOutOfRange quorum voter))
coterie_at-in_range text quorum voter e =
    bind-InRange (lists_at text) coterie_in (Coterie (VoterOutOfRange quorum voter)) (lists_at-InRange text)
    (λ lists is. unless-InRange (lists_fault lists) (named_of lists) (Coterie (VoterOutOfRange quorum voter)) (Holds-lists lists) is) e
