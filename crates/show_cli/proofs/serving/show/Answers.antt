use Rattle.std.proofs.Common.{subst}
use Rattle.show_cli.specs.Pages.{RefusesPage}
use Rattle.show_cli.proofs.ShowLemmas.{own_fault_comes, reading_fault_comes}
use Rattle.show_cli.proofs.serving.show.Goals as goal

pub returns-in-Err-clause-refused : goal.returns-in-Err-clause-refused
returns-in-Err-clause-refused g c =
    reading_fault_comes c.args.command.now (g.R.Read.remaining c.args.reader.now.inner) c.in-Err.fault c.in-Err.ensures.reads c.in-Err.ensures.refused

pub returns-in-Err-page_of-clause-refused : goal.returns-in-Err-page_of-clause-refused
returns-in-Err-page_of-clause-refused g c =
    own_fault_comes c.args.command.now (g.R.Read.remaining c.args.reader.now.inner) c.in-Ok.input.items c.in-Err-page_of.fault c.in-Ok.ensures.all c.in-Ok.ensures.nothing c.in-Err-page_of.ensures.own
    (subst (λ input. RefusesPage c.args.command.now input c.in-Err-page_of.fault) c.as_slice.ensures.value c.in-Err-page_of.ensures.shown)
