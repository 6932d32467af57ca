-- What is shown of entries.
use Rattle.std.proofs.Common.{◌≡◌, ◌∙◌, ◌<◌, ◌==◌, ◌||◌, List, [], ◌∷◌, ◌++◌, ℕ, Bool, String, Global, ap, ap₂, arith, false, length, map, not, refl, string_bytes, subst, sym}
use Rattle.std.specs.List.{AllByRecursion, list_any}
use Rattle.std.proofs.lemmas.Bool.{false≢true}
use Rattle.show_tables.specs.Words.{AddsLines}
use Rattle.show_compare.specs.Compare.{AreFigures, AreLosses, HasGroupsOf, IsComparePage, candidate_of, figure_texts, figure_titles, has_throughput, left_text, loss_texts, loss_title, name_and_coterie, shown}
use Rattle.show_compare.specs.declared.entries.Candidate.{Candidate}
use Rattle.show_compare.specs.declared.entries.Entry.{Entry}

pub map-map : {A B C : Type 0} (g : B → C) (f : A → B) (xs : List A) → map g (map f xs) ≡ map (λ x. g (f x)) xs
map-map g f [] = refl
map-map g f (x ∷ xs) = ap (λ ys. g (f x) ∷ ys) (map-map g f xs)

pub all-map : {A B : Type 0} (P : B → Type 0) (f : A → B) (xs : List A) → AllByRecursion (λ x. P (f x)) xs → AllByRecursion P (map f xs)
all-map P f [] h = tt
all-map P f (x ∷ xs) h = (h.0, all-map P f xs h.1)

any-map : {A B : Type 0} (p : B → Bool) (f : A → B) (xs : List A) → list_any p (map f xs) ≡ list_any (λ x. p (f x)) xs
any-map p f [] = refl
any-map p f (x ∷ xs) = ap (λ b. p (f x) || b) (any-map p f xs)

-- the row of a group, as the program makes it
abbrev pub cells_of : Bool → List Entry → List ℕ → List (List ℕ)
cells_of t entries group = group ∷ map (λ e. left_text t e.candidate.now.named group e.compared.losses.items) entries

cells_are_texts : (t : Bool) (entries : List Entry) (group : List ℕ) → loss_texts t (map shown entries) group ≡ cells_of t entries group
cells_are_texts t entries group = ap (λ ts. group ∷ ts) (map-map (λ s. left_text t s.named group s.figures.losses.items) shown entries)

rows_are_texts : (t : Bool) (entries : List Entry) (groups : List (String Global))
    → map (loss_texts t (map shown entries)) (map string_bytes groups) ≡ map (λ g. cells_of t entries (string_bytes g)) groups
rows_are_texts t entries [] = refl
rows_are_texts t entries (g ∷ groups) = ap₂ (λ r rs. r ∷ rs) (cells_are_texts t entries (string_bytes g)) (rows_are_texts t entries groups)

-- the table of losses
pub losses_shown : (t : Bool) (entries : List Entry) (groups : List (String Global)) (table : List ℕ) → 0 < length groups
    → AddsLines ((loss_title t ∷ map (λ e. string_bytes e.candidate.now.name) entries) ∷ map (λ g. cells_of t entries (string_bytes g)) groups) [] table
    → AreLosses t (map shown entries) (map string_bytes groups) (10 ∷ table)
losses_shown t entries [] table some h = absurd (omega arith)
losses_shown t entries (g ∷ groups) table some h =
    let rows =
    ap₂ (λ (ts : List (List ℕ)) (rs : List (List (List ℕ))). (loss_title t ∷ ts) ∷ rs) (map-map (λ s. s.name) shown entries) (rows_are_texts t entries (g ∷ groups)) in
    (table, refl, subst (λ rs. AddsLines rs [] table) (sym rows) h)

-- the page of entries
pub page_of : (entries : List Entry) (candidates : List Candidate) (figures losses legend page : List ℕ) (groups : List (List ℕ)) (t : Bool)
    → map (λ e. e.candidate.now) entries ≡ candidates → AllByRecursion (λ e. AreFigures e.candidate.now.named e.compared) entries
    → t ≡ list_any (λ e. not e.compared.is_unit) entries
    → AddsLines (figure_titles t ∷ map (λ e. figure_texts t (shown e)) entries) [] figures
    → AllByRecursion (λ e. HasGroupsOf groups (shown e)) entries → AreLosses t (map shown entries) groups losses
    → page ≡ figures ++ (losses ++ legend) → IsComparePage candidates page
page_of entries candidates figures losses legend page groups t are figures_are throughput has_figures has_groups has_losses is =
    let same : t ≡ has_throughput (map shown entries) = throughput ∙ sym (any-map (λ s. not s.figures.is_unit) shown entries) in
    let rows = ap (λ rs. figure_titles t ∷ rs) (sym (map-map (figure_texts t) shown entries)) in
    record {
      coteries = map shown entries;
      are = map-map name_and_coterie shown entries ∙ sym (map-map candidate_of (λ e. e.candidate.now) entries) ∙ ap (map candidate_of) are;
      figures_are = all-map (λ s. AreFigures s.named s.figures) shown entries figures_are;
      figures = figures;
      has_figures = subst (λ b. AddsLines (figure_titles b ∷ map (figure_texts b) (map shown entries)) [] figures) same (subst (λ rs. AddsLines rs [] figures) rows has_figures);
      groups = groups;
      has_groups = all-map (HasGroupsOf groups) shown entries has_groups;
      losses = losses;
      has_losses = subst (λ b. AreLosses b (map shown entries) groups losses) same has_losses;
      legend = legend;
      is = is;
    }

-- a list that is not empty by test has a member
pub some_from_test : {A : Type 0} (xs : List A) → false ≡ (length xs == 0) → 0 < length xs
some_from_test [] e = absurd (false≢true e)
some_from_test (x ∷ xs) e = omega arith
