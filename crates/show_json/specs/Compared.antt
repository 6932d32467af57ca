-- Coteries side by side, as JSON.
use Rattle.std.specs.Prelude.{◌≡◌, ℕ, true, false, List, [], ◌∷◌, ◌++◌, codes, decimal, map, slice_index_or, Option, None, Some}
use Rattle.std.specs.List.{AllByRecursion}
use Rattle.coterie_file.specs.Named.{NamedSystem}
use Rattle.losses.specs.declared.one_down.OneDown.{OneDown}
use Rattle.losses.specs.declared.one_down.OneDown.TheVariants.{NoQuorum, NoTicket, Load}
use Rattle.show_figures.specs.declared.comparisons.Loads.{Loads}
use Rattle.show_figures.specs.declared.comparisons.Loss.{Loss}
use Rattle.show_compare.specs.Compare.{AreFigures, Shown, candidate_of, name_and_coterie}
use Rattle.show_compare.specs.declared.entries.Candidate.{Candidate}
use Rattle.show_json.specs.Values.{fraction_text, list_text, object_text, quoted, truth_text}

-- the names of a group's voters
abbrev pub names_text : NamedSystem → List ℕ → List ℕ
names_text named group = list_text (map (λ i. quoted (slice_index_or named.names i (codes "?"))) group)

-- what is left: a load and its bound, or null if it is no quorum
abbrev pub left_text : Option Loads → List ℕ
left_text None = codes "null"
left_text (Some loads) = object_text ((codes "load", fraction_text loads.load) ∷ (codes "bound", fraction_text loads.bound) ∷ [])

-- what the failure of a group does
abbrev pub loss_text : NamedSystem → Loss → List ℕ
loss_text named loss = object_text ((codes "voters", names_text named loss.group) ∷ (codes "left", left_text loss.left) ∷ [])

-- the worst load when one voter is down, or null if there is none
abbrev pub one_down_text : OneDown → List ℕ
one_down_text NoQuorum = codes "null"
one_down_text NoTicket = codes "null"
one_down_text (Load load) = fraction_text load

-- whether each voter's loss that leaves a quorum leaves a ticket
abbrev pub keeps_text : OneDown → List ℕ
keeps_text NoQuorum = truth_text true
keeps_text NoTicket = truth_text false
keeps_text (Load load) = truth_text true

-- the figures of a coterie
abbrev pub coterie_members : Shown → List (List ℕ × List ℕ)
coterie_members s =
    let f = s.figures in
    (codes "name", quoted s.name) ∷ (codes "voters", decimal f.voters) ∷ (codes "quorums", decimal f.quorums)
    ∷ (codes "smallest_quorum", decimal f.smallest) ∷ (codes "largest_quorum", decimal f.largest)
    ∷ (codes "load", fraction_text f.loads.load) ∷ (codes "bound", fraction_text f.loads.bound)
    ∷ (codes "load_one_down", one_down_text f.one_down) ∷ (codes "keeps_tickets_one_down", keeps_text f.one_down)
    ∷ (codes "failures_borne", decimal f.borne.borne) ∷ (codes "is_exact", truth_text f.borne.is_smallest)
    ∷ (codes "losses", list_text (map (loss_text s.named) f.losses.items)) ∷ []

abbrev pub coterie_text : Shown → List ℕ
coterie_text s = object_text (coterie_members s)

-- all coteries, as a line
abbrev pub compare_text : List Shown → List ℕ
compare_text coteries = object_text ((codes "coteries", list_text (map coterie_text coteries)) ∷ []) ++ 10 ∷ []

-- the page has the figures of these coteries, in order, and nothing else
pub record IsCompareJson (candidates : List Candidate) (page : List ℕ) : Type 0 where
  pub coteries : List Shown
  pub are : map name_and_coterie coteries ≡ map candidate_of candidates
  pub figures_are : AllByRecursion (λ s. AreFigures s.named s.figures) coteries
  pub is : page ≡ compare_text coteries
