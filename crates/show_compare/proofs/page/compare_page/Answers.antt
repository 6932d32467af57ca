use Rattle.std.proofs.Common.{◌∙◌, ◌∷◌, [], ap, map, not, string_bytes, subst}
use Rattle.std.specs.List.{AllByRecursion, list_any}
use Rattle.show_tables.specs.Words.{AddsLines}
use Rattle.show_compare.specs.Compare.{AreLosses, HasGroupsOf, figure_texts, figure_titles, shown}
use Rattle.show_compare.proofs.PageLemmas.{page_of}
use Rattle.show_compare.proofs.page.compare_page.Goals as goal

pub returns : goal.returns
returns c =
    let entries = c.in_ok-entries.entries.items in
    let groups = map string_bytes c.in_ok-groups.groups.items in
    let t = c.have_capacities-is_throughput.result in
    let figures = string_bytes c.in_ok-figures.figures in
    let losses = string_bytes c.in_ok-losses.losses in
    page_of entries c.args.candidates.now figures losses (string_bytes c.in_ok-legend.legend) (string_bytes c.in_ok-page.page) groups t
    c.in_ok-entries.ensures.candidates c.in_ok-entries.ensures.figures
    (c.have_capacities-is_throughput.ensures ∙ ap (list_any (λ e. not e.compared.is_unit)) c.as_slice-2.ensures.value)
    (subst (λ es. AddsLines (figure_titles t ∷ map (λ e. figure_texts t (shown e)) es) [] figures) c.as_slice-3.ensures.value c.in_ok-figures.ensures)
    (subst (AllByRecursion (λ e. HasGroupsOf groups (shown e))) c.as_slice.ensures.value c.in_ok-groups.ensures)
    (subst (λ gs. AreLosses t (map shown entries) (map string_bytes gs) losses) c.as_slice-5.ensures.value
    (subst (λ es. AreLosses t (map shown es) (map string_bytes c.as_slice-5.result.now) losses) c.as_slice-4.ensures.value c.in_ok-losses.ensures))
    c.in_ok-page.ensures.ok
