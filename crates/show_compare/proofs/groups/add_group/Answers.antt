use Rattle.std.proofs.Common.{◌∙◌, ap, map, refl, string_bytes}
use Rattle.std.proofs.lemmas.Slice.Eq.{bytes_eq-Decides}
use Rattle.numbers.proofs.Lists.{map-push}
use Rattle.show_compare.specs.Compare.{has_text}
use Rattle.show_compare.proofs.GroupLemmas.{has_text-push}
use Rattle.show_compare.proofs.groups.add_group.Goals as goal

pub returns-clause-added : goal.returns-clause-added
returns-clause-added c =
    let text = string_bytes c.args.text in
    ap (λ groups. has_text (map string_bytes groups) text) c.in_ok-push.ensures.items
    ∙ ap (λ texts. has_text texts text) (map-push string_bytes c.args.groups.now.items c.args.text)
    ∙ has_text-push (map string_bytes c.args.groups.now.items) text ((bytes_eq-Decides text text).1 refl)
