use Rattle.std.proofs.Common.{◌∙◌, ◌++◌, ap, codes, map, string_bytes, sym}
use Rattle.std.specs.List.{join_by}
use Rattle.show_json.specs.Values.{member_of, member_text}
use mathlib.Core.List.{map-map}
use Rattle.numbers.proofs.Lists.{join_by-same}
use Rattle.show_json.proofs.values.object_text.Goals as goal

pub returns : goal.returns
returns c =
    let members = c.args.members.now in
    let texts = c.in_ok-member_texts.field-0.items in
    c.in_ok-json.ensures.ok
    ∙ ap (λ inside. codes "{" ++ (inside ++ codes "}"))
    (c.in_ok-inside.ensures.ok ∙ ap (join_by string_bytes (codes ",")) c.deref.ensures.value
    ∙ join_by-same string_bytes member_text (codes ",") texts (map member_of members) (c.in_ok-member_texts.ensures ∙ sym (map-map member_text member_of members)))
