use Rattle.std.proofs.Common.{◌∙◌, ◌++◌, ◌∷◌, [], ap, map, rules, string_bytes}
use Rattle.numbers.proofs.Lists.{map-push}
use Rattle.show_cli.specs.Failures.{file_name}
use Rattle.show_compare.specs.declared.entries.Candidate.{Candidate}
use Rattle.show_cli.proofs.CompareLemmas.{made_for_places}
use Rattle.show_cli.proofs.compared.named_as.Goals as goal

pub loop-named-preserved : goal.loop-named-preserved
loop-named-preserved c =
    let files = map string_bytes c.args.files.now in
    let old = c.loop-named.candidates.items in
    let candidate : Candidate = record { name = c.in_ok-name.name; named = c.in-Some.named } in
    record {
      coteries = ap (map (λ x. x.named)) c.in_ok-push.ensures.items ∙ map-push (λ x. x.named) old candidate
          ∙ ap (λ xs. xs ++ c.in-Some.named ∷ []) c.loop-named.invariant.coteries;
      names = made_for_places (λ x. string_bytes x.name) (file_name files) old _ candidate c.in_ok-push.ensures.items
          (c.in_ok-name.ensures ∙ ap (file_name files) (search rules)) c.loop-named.invariant.names;
    }
