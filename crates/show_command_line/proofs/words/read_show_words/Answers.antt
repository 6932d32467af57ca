use Rattle.std.proofs.Common.{◌∙◌, ap, map, refl, string_bytes, subst}
use Rattle.std.proofs.lemmas.Result.{IfErr-weaker, IfOk-weaker}
use Rattle.clap.specs.Words.{is_simple_and_free, subcommand_rows_of}
use Rattle.command_line.specs.Words.{HasMatches, RefusesByClap}
use Rattle.show_command_line.specs.Words.{IsNamedBy, Names, Refuses, RefusesUse, show_app}
use Rattle.show_command_line.proofs.WordLemmas.{Refuses-by_clap, Refuses-use}
use Rattle.show_command_line.proofs.words.read_show_words.Goals as goal
use Rattle.show_command_line.proofs.words.read_show_words.Goals.{In-Ok}

pub read_matches-requires : goal.read_matches-requires
read_matches-requires c = record { free = ap is_simple_and_free c.in_ok-show_command.ensures ∙ refl }

-- what clap found
found : (c : In-Ok) → HasMatches show_app (map string_bytes c.args.words.now) c.in-Ok.matches
found c = subst (λ app. HasMatches app (map string_bytes c.args.words.now) c.in-Ok.matches) c.in_ok-show_command.ensures c.in-Ok.ensures.found

pub returns-in-Ok-clause-named : goal.returns-in-Ok-clause-named
returns-in-Ok-clause-named c =
    let is = found (goal.at.returns-in-Ok-clause-named c).In-Ok in
    IfOk-weaker c.command_of.result (IsNamedBy (subcommand_rows_of c.in-Ok.matches)) (Names (map string_bytes c.args.words.now))
    (λ command named. (is.faultless, subst (λ used. IsNamedBy used command) is.used named)) c.command_of.ensures.named

pub returns-in-Ok-clause-refused : goal.returns-in-Ok-clause-refused
returns-in-Ok-clause-refused c =
    let words = map string_bytes c.args.words.now in
    let is = found (goal.at.returns-in-Ok-clause-refused c).In-Ok in
    IfErr-weaker c.command_of.result (RefusesUse (subcommand_rows_of c.in-Ok.matches)) (Refuses words)
    (λ usage refused. Refuses-use words usage is.faultless (subst (λ used. RefusesUse used usage) is.used refused)) c.command_of.ensures.refused

pub returns-in-Err-clause-refused : goal.returns-in-Err-clause-refused
returns-in-Err-clause-refused c =
    let words = map string_bytes c.args.words.now in
    Refuses-by_clap words c.in-Err.usage (subst (λ app. RefusesByClap app words c.in-Err.usage) c.in_ok-show_command.ensures c.in-Err.ensures.refused)
