-- The tables of coteries side by side.
use Rattle.std.specs.Prelude.{◌≡◌, ◌-◌, ◌≤◌, ◌&&◌, ℕ, Bool, true, not, if◌then◌else◌, nat_lt, List, [], ◌∷◌, ◌++◌, All, length, map, slice_index_or, Option, None, Some, bytes_eq, codes, decimal, string_bytes}
use Rattle.std.specs.List.{AllByRecursion, join_by, list_any}
use Rattle.numbers.specs.Sets.{IsSet}
use Rattle.quorum_set.specs.Capacities.{are_unit}
use Rattle.coterie_file.specs.Named.{NamedSystem}
use Rattle.failures.specs.Failures.{Bears, IsSmallest, IsTransversal}
use Rattle.known_loads.specs.SmallestQuorums.{smallest_size}
use Rattle.losses.specs.declared.one_down.OneDown.{OneDown}
use Rattle.losses.specs.declared.one_down.OneDown.TheVariants.{NoQuorum, NoTicket, Load}
use Rattle.show_failures.specs.Groups.{groups_of}
use Rattle.show_failures.specs.declared.resilience.Resilience.{Resilience}
use Rattle.show_figures.specs.Comparisons.{AreLoads, IsLoss, IsOfWeights, largest_size}
use Rattle.show_figures.specs.declared.comparisons.Comparison.{Comparison}
use Rattle.show_figures.specs.declared.comparisons.Loads.{Loads}
use Rattle.show_figures.specs.declared.comparisons.Loss.{Loss}
use Rattle.show_tables.specs.Cells.{exact_text, load_text, percent_text, span_text, tenths_text, throughput_text}
use Rattle.show_tables.specs.Words.{AddsLines}
use Rattle.show_compare.specs.declared.entries.Candidate.{Candidate}
use Rattle.show_compare.specs.declared.entries.Entry.{Entry}

-- Figures

-- how many voters may fail, and a smallest set of voters without which no quorum is left
pub record AreBorne (named : NamedSystem) (borne : Resilience) : Type 0 where
  pub blocking : IsTransversal named.system borne.blocking
  pub least : borne.is_smallest ≡ true → IsSmallest named.system.quorums borne.blocking
  pub number : borne.borne ≡ length borne.blocking - 1
  pub bears : borne.is_smallest ≡ true → (failed : List ℕ) → IsSet failed → length failed ≤ borne.borne → Bears named.system.quorums failed

-- the figures of a coterie
pub record AreFigures (named : NamedSystem) (figures : Comparison) : Type 0 where
  pub voters : figures.voters ≡ named.system.voters
  pub quorums : figures.quorums ≡ length named.system.quorums
  pub smallest : figures.smallest ≡ smallest_size named.system
  pub largest : figures.largest ≡ largest_size named.system
  pub unit : figures.is_unit ≡ are_unit named.capacities
  pub loads : AreLoads named.system named.capacities figures.loads
  pub one_down : IsOfWeights named.system named.capacities figures.loads figures.one_down
  pub borne : AreBorne named figures.borne
  pub groups : map (λ loss. loss.group) figures.losses.items ≡ groups_of named.names
  pub losses : All (IsLoss named) figures.losses.items

-- a coterie that is shown, what it is called, and its figures
pub record Shown : Type 0 where
  pub name : List ℕ
  pub named : NamedSystem
  pub figures : Comparison

-- what is shown of an entry
abbrev pub shown : Entry → Shown
shown entry = record { name = string_bytes entry.candidate.now.name; named = entry.candidate.now.named; figures = entry.compared }

-- The table of figures

-- the number of voters that may fail; after a search that did not end it is an upper bound
abbrev pub borne_text : Resilience → List ℕ
borne_text borne = if borne.is_smallest then decimal borne.borne else codes "<=" ++ decimal borne.borne

-- a load in percent, or its throughput
abbrev pub figure_text : Bool → ℕ × ℕ → List ℕ
figure_text is_throughput load = if is_throughput then tenths_text load else percent_text load

-- the same when one voter is down, at worst
abbrev pub one_down_text : Bool → OneDown → List ℕ
one_down_text is_throughput NoQuorum = codes "none left"
one_down_text is_throughput NoTicket = codes "no ticket"
one_down_text is_throughput (Load load) = figure_text is_throughput load

-- the titles of the columns
abbrev pub figure_title : Bool → List ℕ
figure_title is_throughput = if is_throughput then codes "throughput" else codes "load"

abbrev pub worst_title : Bool → List ℕ
worst_title is_throughput = if is_throughput then codes "worst, one down" else codes "worst load, one down"

abbrev pub figure_titles : Bool → List (List ℕ)
figure_titles is_throughput =
    codes "coterie" ∷ codes "voters" ∷ codes "quorums" ∷ codes "members" ∷ codes "may fail"
    ∷ figure_title is_throughput ∷ worst_title is_throughput ∷ codes "smallest load" ∷ []

-- the row of a coterie
abbrev pub figure_texts : Bool → Shown → List (List ℕ)
figure_texts is_throughput s =
    let f = s.figures in
    s.name ∷ decimal f.voters ∷ decimal f.quorums ∷ span_text f.smallest f.largest ∷ borne_text f.borne
    ∷ figure_text is_throughput f.loads.load ∷ one_down_text is_throughput f.one_down ∷ exact_text f.loads.load f.loads.bound ∷ []

-- The table of losses

-- the names of a group's voters
abbrev pub group_text : NamedSystem → List ℕ → List ℕ
group_text named group = join_by (λ i. slice_index_or named.names i (codes "?")) (codes " ") group

-- what is left: a load or a throughput, or no quorum
abbrev pub loss_text : Bool → Option Loads → List ℕ
loss_text is_throughput None = codes "none left"
loss_text is_throughput (Some loads) =
    if is_throughput then throughput_text loads.load loads.bound else load_text loads.load loads.bound

-- what is left of a coterie with these losses when the group with these names fails, or `-` if it has none
abbrev pub left_text : Bool → NamedSystem → List ℕ → List Loss → List ℕ
left_text is_throughput named group [] = codes "-"
left_text is_throughput named group (loss ∷ losses) =
    if bytes_eq (group_text named loss.group) group then loss_text is_throughput loss.left else left_text is_throughput named group losses

-- the titles: what is shown, and the names of the coteries
abbrev pub loss_title : Bool → List ℕ
loss_title is_throughput = if is_throughput then codes "throughput without" else codes "load without"

abbrev pub loss_titles : Bool → List Shown → List (List ℕ)
loss_titles is_throughput coteries = loss_title is_throughput ∷ map (λ s. s.name) coteries

-- the row of a group: its names, and what is left of each coterie
abbrev pub loss_texts : Bool → List Shown → List ℕ → List (List ℕ)
loss_texts is_throughput coteries group =
    group ∷ map (λ s. left_text is_throughput s.named group s.figures.losses.items) coteries

-- whether the losses of a coterie are shown: there are several groups, and one has several voters
abbrev pub has_groups : Comparison → Bool
has_groups f = nat_lt 1 (length f.losses.items) && nat_lt (length f.losses.items) f.voters

-- whether one of these texts is this one
abbrev pub has_text : List (List ℕ) → List ℕ → Bool
has_text texts text = list_any (λ other. bytes_eq other text) texts

-- each group of these losses is there
abbrev pub HasGroups : List (List ℕ) → NamedSystem → List Loss → Type 0
HasGroups groups named losses = AllByRecursion (λ loss. has_text groups (group_text named loss.group) ≡ true) losses

-- each group of this coterie is there, if its losses are shown
abbrev pub HasGroupsOf : List (List ℕ) → Shown → Type 0
HasGroupsOf groups s = has_groups s.figures ≡ true → HasGroups groups s.named s.figures.losses.items

-- what was there is there
abbrev pub Keeps : List (List ℕ) → List (List ℕ) → Type 0
Keeps old new = (text : List ℕ) → has_text old text ≡ true → has_text new text ≡ true

-- The page

-- a coterie and what it is called
abbrev pub name_and_coterie : Shown → List ℕ × NamedSystem
name_and_coterie s = (s.name, s.named)

abbrev pub candidate_of : Candidate → List ℕ × NamedSystem
candidate_of candidate = (string_bytes candidate.name, candidate.named)

-- whether throughputs are shown: some capacity is not 1
abbrev pub has_throughput : List Shown → Bool
has_throughput coteries = list_any (λ s. not s.figures.is_unit) coteries

-- the rows of the table of losses
abbrev pub loss_rows : Bool → List Shown → List (List ℕ) → List (List (List ℕ))
loss_rows is_throughput coteries groups = loss_titles is_throughput coteries ∷ map (loss_texts is_throughput coteries) groups

-- the table of losses behind an empty line, or nothing if there is no group
abbrev pub AreLosses : Bool → List Shown → List (List ℕ) → List ℕ → Type 0
AreLosses is_throughput coteries [] text = text ≡ []
AreLosses is_throughput coteries (group ∷ groups) text =
    (table : List ℕ) × (text ≡ 10 ∷ table) × AddsLines (loss_rows is_throughput coteries (group ∷ groups)) [] table

-- The page has a table of the figures of these coteries, and one of their losses, of all groups of the coteries
-- whose losses are shown. What the legend behind them says is not determined.
pub record IsComparePage (candidates : List Candidate) (page : List ℕ) : Type 0 where
  pub coteries : List Shown
  pub are : map name_and_coterie coteries ≡ map candidate_of candidates
  pub figures_are : AllByRecursion (λ s. AreFigures s.named s.figures) coteries
  pub figures : List ℕ
  pub has_figures : AddsLines (figure_titles (has_throughput coteries) ∷ map (figure_texts (has_throughput coteries)) coteries) [] figures
  pub groups : List (List ℕ)
  pub has_groups : AllByRecursion (HasGroupsOf groups) coteries
  pub losses : List ℕ
  pub has_losses : AreLosses (has_throughput coteries) coteries groups losses
  pub legend : List ℕ
  pub is : page ≡ figures ++ (losses ++ legend)
