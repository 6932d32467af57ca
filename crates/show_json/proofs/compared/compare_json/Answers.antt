use Rattle.std.proofs.Common.{◌∙◌, ◌++◌, ◌∷◌, [], ap, codes, map, string_bytes, sym}
use mathlib.Core.List.{map-map}
use Rattle.show_compare.proofs.PageLemmas.{all-map}
use Rattle.show_compare.specs.Compare.{AreFigures, candidate_of, name_and_coterie, shown}
use Rattle.show_json.specs.Compared.{coterie_text}
use Rattle.show_json.specs.Values.{list_text, object_text}
use Rattle.show_json.proofs.compared.compare_json.Goals as goal

pub returns : goal.returns
returns c =
    let entries = c.in_ok-entries.entries.items in
    record {
      coteries = map shown entries;
      are = map-map name_and_coterie shown entries ∙ sym (map-map candidate_of (λ e. e.candidate.now) entries) ∙ ap (map candidate_of) c.in_ok-entries.ensures.candidates;
      figures_are = all-map (λ s. AreFigures s.named s.figures) shown entries c.in_ok-entries.ensures.figures;
      is = c.in_ok-page.ensures
          ∙ ap (λ coteries. object_text ((codes "coteries", coteries) ∷ []) ++ 10 ∷ []) (c.in_ok-coteries.ensures ∙ ap list_text
          (ap (map string_bytes) c.as_slice-2.ensures.value ∙ c.in_ok-texts.ensures ∙ ap (map (λ e. coterie_text (shown e))) c.as_slice.ensures.value
          ∙ sym (map-map coterie_text shown entries)));
    }
