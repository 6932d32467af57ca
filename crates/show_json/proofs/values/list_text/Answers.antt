use Rattle.std.proofs.Common.{◌∙◌, ◌++◌, ap, codes, map, string_bytes, sym}
use mathlib.Core.List.{map-map}
use Rattle.numbers.proofs.Lists.{join_by-same}
use Rattle.show_json.proofs.values.list_text.Goals as goal

pub returns : goal.returns
returns c =
    let values = c.args.values.now in
    c.in_ok-json.ensures.ok
    ∙ ap (λ inside. codes "[" ++ (inside ++ codes "]"))
    (c.in_ok-inside.ensures.ok ∙ join_by-same string_bytes (λ value. value) (codes ",") values (map string_bytes values) (sym (map-map (λ value. value) string_bytes values)))
