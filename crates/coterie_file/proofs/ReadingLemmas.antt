-- Lemmas on what the lists spell, fault by fault.
use Rattle.std.proofs.Common.{◌≡◌, ℕ, ◌+◌, ◌<◌, Bool, true, false, cond, not, List, [], length, map, drop, get_or, sym, refl, ap, ◌∙◌, arith, Option, None, Some, Result, Ok, Err}
use Rattle.std.proofs.Common.{String, Global, Vec, string_bytes, subst, IsErrAnd}
use Rattle.std.specs.List.{list_all, position, position_from}
use Rattle.std.specs.Option.{option_map, option_or, is_some}
use Rattle.std.proofs.lemmas.Bool.{ne_eqb, lt-ltb}
use Rattle.std.proofs.lemmas.List.{drop_more}
use Rattle.std.proofs.lemmas.List.Folds.{list_all-map}
use Rattle.quorum_set.specs.Coteries.{QuorumSystem, first_fault, coterie_or}
use Rattle.quorum_set.specs.declared.fault.CoterieFault.{CoterieFault}
use Rattle.quorum_set.specs.declared.fault.CoterieFault.TheVariants.{TooManyVoters}
use Rattle.coterie_file.specs.Answers.{unless, Gives, Refuses}
use Rattle.coterie_file.specs.Capacities.{capacities_fault}
use Rattle.coterie_file.specs.Lists.{NameLists, name_lists, name_lists_by}
use Rattle.coterie_file.specs.Names.{has_name, first_repeat, names_fault}
use Rattle.coterie_file.specs.Reading.{quorum_of, system_of, named_of, lists_fault}
use Rattle.coterie_file.specs.declared.fault.FileFault.{FileFault}
use Rattle.coterie_file.specs.declared.fault.FileFault.TheVariants.{Coterie, OutOfMemory, RepeatedMember, UnknownName}
use mathlib.Core.List.{map-map}
use Rattle.coterie_file.proofs.ListLemmas.{position-map}

-- whether a name is twice among the members
abbrev pub repeats : Vec (String Global) Global → Bool
repeats members = is_some (first_repeat [] (map string_bytes members.items))

-- the first place that passes, in a loop
pub position_from-here : {A : Type 0} (p : A → Bool) (xs : List A) (i : ℕ) (d : A) → i < length xs → p (get_or xs i d) ≡ true → position_from p i (drop i xs) ≡ Some i
position_from-here p xs i d lt e = ap (position_from p i) (drop_more xs i d lt) ∙ ap (λ b. cond b (Some i) (position_from p (i + 1) (drop (i + 1) xs))) e

pub position_from-later : {A : Type 0} (p : A → Bool) (xs : List A) (i : ℕ) (d : A) → i < length xs → p (get_or xs i d) ≡ false
    → position_from p i (drop i xs) ≡ position_from p (i + 1) (drop (i + 1) xs)
position_from-later p xs i d lt e = ap (position_from p i) (drop_more xs i d lt) ∙ ap (λ b. cond b (Some i) (position_from p (i + 1) (drop (i + 1) xs))) e

pub unless-Ok : {X : Type 0} (o : Option FileFault) (x y : X) → unless o x ≡ Ok y → (o ≡ None) × (x ≡ y)
unless-Ok None x y e = (refl, cc)
unless-Ok (Some fault) x y e = cc

pub coterie_or-Ok : (o : Option CoterieFault) (s t : QuorumSystem) → Ok t ≡ coterie_or o s → (o ≡ None) × (s ≡ t)
coterie_or-Ok None s t e = (refl, cc)
coterie_or-Ok (Some fault) s t e = cc

pub coterie_or-Err : (o : Option CoterieFault) (s : QuorumSystem) (fault : CoterieFault) → Err fault ≡ coterie_or o s → o ≡ Some fault
coterie_or-Err None s fault e = cc
coterie_or-Err (Some other) s fault e = cc

-- the places of an unknown name and of a repeated one
unknown_at : (names : List (List ℕ)) (quorums : List (Vec (String Global) Global)) → position (λ members. not (list_all (has_name names) members)) (map (λ q. map string_bytes q.items) quorums)
    ≡ position (λ q. not (list_all (λ n. has_name names (string_bytes n)) q.items)) quorums
unknown_at names quorums = rw (position-map (λ members. not (list_all (has_name names) members)) (λ q. map string_bytes q.items) quorums) (simp list_all-map)

repeated_at : (quorums : List (Vec (String Global) Global)) → position (λ members. is_some (first_repeat [] members)) (map (λ q. map string_bytes q.items) quorums) ≡ position repeats quorums
repeated_at quorums = position-map (λ members. is_some (first_repeat [] members)) (λ q. map string_bytes q.items) quorums

-- the first fault of lists whose names have none
pub unknown_fault : (names : List (List ℕ)) (quorums : List (Vec (String Global) Global)) (capacities : List ℕ) (j : ℕ) → names_fault names ≡ None
    → position (λ q. not (list_all (λ n. has_name names (string_bytes n)) q.items)) quorums ≡ Some j → lists_fault (name_lists_by names quorums capacities) ≡ Some (UnknownName j)
unknown_fault names quorums capacities j named at = rw (named, unknown_at names quorums ∙ at) refl

pub repeated_fault : (names : List (List ℕ)) (quorums : List (Vec (String Global) Global)) (capacities : List ℕ) (j : ℕ) → names_fault names ≡ None
    → position (λ q. not (list_all (λ n. has_name names (string_bytes n)) q.items)) quorums ≡ None → position repeats quorums ≡ Some j
    → lists_fault (name_lists_by names quorums capacities) ≡ Some (RepeatedMember j)
repeated_fault names quorums capacities j named known at = rw (named, unknown_at names quorums ∙ known, repeated_at quorums ∙ at) refl

-- the same, if no quorum lists an unknown name or a name twice
pub later_fault : (names : List (List ℕ)) (quorums : List (Vec (String Global) Global)) (capacities : List ℕ) → names_fault names ≡ None
    → position (λ q. not (list_all (λ n. has_name names (string_bytes n)) q.items)) quorums ≡ None → position repeats quorums ≡ None
    → lists_fault (name_lists_by names quorums capacities) ≡ option_or (capacities_fault (length names) capacities)
    (option_map Coterie (first_fault (length names) (system_of (name_lists_by names quorums capacities)).quorums))
later_fault names quorums capacities named known once = rw (named, unknown_at names quorums ∙ known, repeated_at quorums ∙ once) refl

-- more than 64 voters are refused, whatever the sets
pub first_fault-too_many : (n : ℕ) (sets : List (List ℕ)) → 64 < n → first_fault n sets ≡ Some TooManyVoters
first_fault-too_many n sets lt = rw (ne_eqb n 0 (λ e. omega arith), lt-ltb 64 n lt) refl

-- lists with no fault before those of the sets
pub known_answer : (lists : NameLists) (system : QuorumSystem) → lists_fault lists ≡ option_or None (option_map Coterie (first_fault (length lists.names) (system_of lists).quorums))
    → system_of lists ≡ system → unless (lists_fault lists) (system_of lists) ≡ unless (option_map Coterie (first_fault system.voters system.quorums)) system
known_answer lists system fault made = ap (λ o. unless o (system_of lists)) fault ∙ ap (λ s. unless (option_map Coterie (first_fault s.voters s.quorums)) s) made

-- the same lists
pub name_lists-same : (n m : List (String Global)) (p q : List (Vec (String Global) Global)) (c d : List ℕ) → n ≡ m → p ≡ q → c ≡ d → name_lists n p c ≡ name_lists m q d
name_lists-same n m p q c d e f g = rw (e, f, g) refl

-- the system of the lists, by the sets that were made
pub system_of-name_lists : (names : List (List ℕ)) (quorums : List (Vec (String Global) Global)) (capacities : List ℕ) (n : ℕ) (sets : List (List ℕ)) → length names ≡ n
    → sets ≡ map (λ q. quorum_of names (map string_bytes q.items)) quorums → system_of (name_lists_by names quorums capacities) ≡ record { voters = n; quorums = sets }
system_of-name_lists names quorums capacities n sets count made = rw (map-map (quorum_of names) (λ q. map string_bytes q.items) quorums, ← made, count) refl

-- the system, the names and the capacities of the lists, as they were kept
pub named_of-same : (lists : NameLists) (system : QuorumSystem) (names : List (List ℕ)) (capacities : List ℕ) → system_of lists ≡ system → lists.names ≡ names → lists.capacities ≡ capacities
    → named_of lists ≡ record { system = system; names = names; capacities = capacities }
named_of-same lists system names capacities e f g = rw (e, f, g) refl

-- a refusal that another fault made
pub Gives-Coterie : {X Y : Type 0} (view : X → Y) (r : Result X FileFault) (wanted : Result Y FileFault) (fault : CoterieFault) → IsErrAnd r (λ e. e ≡ Coterie fault)
    → wanted ≡ Err (Coterie fault) → Gives view r wanted
Gives-Coterie view (Ok x) wanted fault h e = absurd h
Gives-Coterie view (Err y) wanted fault h e = let P : FileFault → Type 0 = λ f. Refuses f wanted in subst P (sym h) e

-- a refusal as it is wanted
pub Refuses-Err : {Y : Type 0} (fault : FileFault) (wanted : Result Y FileFault) → wanted ≡ Err fault → Refuses fault wanted
Refuses-Err OutOfMemory wanted e = tt
Refuses-Err fault wanted e = e

pub Refuses-unless : {X Y : Type 0} (fault : FileFault) (o : Option FileFault) (x : X) (y : Y) → Refuses fault (unless o x) → Refuses fault (unless o y)
Refuses-unless OutOfMemory o x y h = tt
Refuses-unless fault None x y h = cc
Refuses-unless fault (Some other) x y h = let same : other ≡ fault = cc in ap Err same

-- a refusal that is passed on
pub Gives-refused : {X Y : Type 0} (view : X → Y) (r : Result X FileFault) (wanted : Result Y FileFault) (fault : FileFault) → IsErrAnd r (λ e. e ≡ fault) → Refuses fault wanted → Gives view r wanted
Gives-refused view (Ok x) wanted fault h e = absurd h
Gives-refused view (Err y) wanted fault h e = let P : FileFault → Type 0 = λ f. Refuses f wanted in subst P (sym h) e
