-- Lemmas on lists of names.
use Rattle.std.proofs.Common.{◌≡◌, ℕ, ◌+◌, ◌<◌, ◌≤◌, Bool, ◌||◌, List, length, drop, slice_get, ap, ◌∙◌, arith, Some}
use Rattle.std.specs.Str.{bytes_eq}
use Rattle.quorum_set.specs.Coteries.{QuorumSystem}
use Rattle.coterie_file.specs.Named.{NamedSystem, IsNamed}
use Rattle.coterie_file.specs.Names.{has_name}
use Rattle.coterie_file.proofs.CapacityLemmas.{capacities_fault-none}
use Rattle.coterie_file.proofs.NameLaws.{names_fault-none}
use Rattle.show_failures.proofs.ListLemmas.{drop-at}

-- names and capacities of voters have no fault
pub ruleset voters_have_no_fault = (capacities_fault-none, names_fault-none)

-- the name at a place is the wanted one, or a later one is
pub has_name-at : (names : List (List ℕ)) (k : ℕ) (name x : List ℕ) (same : Bool) → slice_get names k ≡ Some x → k < length names → bytes_eq name x ≡ same
    → has_name (drop k names) name ≡ (same || has_name (drop (k + 1) names) name)
has_name-at names k name x same e lt is =
    ap (λ t. has_name t name) (drop-at names k x e lt) ∙ ap (λ b. b || has_name (drop (k + 1) names) name) is

-- a voter below the number of voters has a name
pub below_names : (named : NamedSystem) (s : QuorumSystem) (k end : ℕ) → IsNamed named → s ≡ named.system → end ≡ s.voters → k < end → k < length named.names
below_names named s k end is same ends lt =
    let all : length named.names ≡ named.system.voters = is.one_each in
    let voters : s.voters ≡ named.system.voters = ap (λ t. t.voters) same in
    omega arith

-- after the last voter all have been seen
pub all_names : (named : NamedSystem) (s : QuorumSystem) (k end : ℕ) → IsNamed named → s ≡ named.system → end ≡ s.voters → k ≤ end → end ≤ k → k ≡ length named.names
all_names named s k end is same ends least most =
    let all : length named.names ≡ named.system.voters = is.one_each in
    let voters : s.voters ≡ named.system.voters = ap (λ t. t.voters) same in
    omega arith

pub all_voters : (named : NamedSystem) (s : QuorumSystem) (k end : ℕ) → s ≡ named.system → end ≡ s.voters → k ≤ end → k ≤ named.system.voters
all_voters named s k end same ends least =
    let voters : s.voters ≡ named.system.voters = ap (λ t. t.voters) same in
    omega arith
