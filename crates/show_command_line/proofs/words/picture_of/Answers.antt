use Rattle.std.proofs.Common.{◌∙◌, Some, ap, refl, rules, sym}
use Rattle.std.proofs.lemmas.Option.{same_Some}
use Rattle.clap.specs.Words.{found_of, rows_of}
use Rattle.show_command_line.specs.Words.{picture_word}
use Rattle.show_command_line.proofs.WordLemmas.{NamesNone-picture}
use Rattle.show_command_line.proofs.words.picture_of.Goals as goal

pub returns-in-Some-picture_named-clause-named : goal.returns-in-Some-picture_named-clause-named
returns-in-Some-picture_named-clause-named c = (refl, sym c.in-Some.ensures ∙ ap Some c.in-Some-picture_named.ensures.some)

pub returns-in_default-clause-refused : goal.returns-in_default-clause-refused
returns-in_default-clause-refused c = NamesNone-picture (rows_of (found_of c.args.used.now)) (λ picture given. let bad = c.in_default.ensures ∙ given in search rules)

pub returns-in-None-clause-refused : goal.returns-in-None-clause-refused
returns-in-None-clause-refused c =
    NamesNone-picture (rows_of (found_of c.args.used.now)) (λ picture kind. c.in-None.ensures.none refl picture (same_Some c.in-Some.kind.now (picture_word picture) (c.in-Some.ensures ∙ kind)))
