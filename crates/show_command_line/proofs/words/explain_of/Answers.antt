use Rattle.std.proofs.Common.{◌≡◌, codes, refl, rules, sym}
use Rattle.clap.specs.Words.{found_of, rows_of}
use Rattle.show_command_line.proofs.WordLemmas.{NamesNone-explain}
use Rattle.show_command_line.proofs.words.explain_of.Goals as goal

pub returns-in-Some-explanation_of-clause-named : goal.returns-in-Some-explanation_of-clause-named
returns-in-Some-explanation_of-clause-named c =
    (refl, ((c.in-Some.code.now, sym c.in-Some.ensures, c.in-Some-explanation_of.ensures.found), c.in-Some-explanation_of.ensures.known))

pub returns-in-None-clause-refused : goal.returns-in-None-clause-refused
returns-in-None-clause-refused c =
    let other : c.in-Some.code.now ≡ codes "all" → ⊥ = search rules in
    NamesNone-explain (rows_of (found_of c.args.used.now)) c.in-Some.code.now (sym c.in-Some.ensures) other c.in-None.ensures.none
