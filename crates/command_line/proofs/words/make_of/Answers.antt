use Rattle.std.proofs.Common.{refl, sym}
use Rattle.clap.specs.Words.{found_of, rows_of}
use Rattle.command_line.proofs.WordLemmas.{NamesNone-no_shape_of}
use Rattle.command_line.proofs.words.make_of.Goals as goal

pub returns-in-None-clause-refused : goal.returns-in-None-clause-refused
returns-in-None-clause-refused c =
    let sizes = rw c.in-Some-2.is at c.in_ok-sizes.ensures.some in
    NamesNone-no_shape_of (rows_of (found_of c.args.used.now)) c.in-Some.name.now c.in-Some-2.sizes.items (sym c.in-Some.ensures) sizes (c.in-None.ensures.none refl)
