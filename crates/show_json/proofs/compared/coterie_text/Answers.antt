use Rattle.std.proofs.Common.{◌≡◌, ◌∙◌, ap, map, string_bytes}
use Rattle.std.proofs.lemmas.Result.{IfOk-weaker}
use Rattle.show_compare.specs.Compare.{shown}
use Rattle.show_json.specs.Compared.{coterie_text}
use Rattle.show_json.specs.Values.{member_of, object_text}
use Rattle.show_json.proofs.compared.coterie_text.Goals as goal

pub returns : goal.returns
returns c =
    IfOk-weaker c.object_text.result (λ json. string_bytes json ≡ object_text (map member_of c.as_slice.result.now)) (λ json. string_bytes json ≡ coterie_text (shown c.args.entry.now))
    (λ _ is. is ∙ ap object_text (ap (map member_of) c.as_slice.ensures.value ∙ c.in_ok-members.ensures)) c.object_text.ensures
