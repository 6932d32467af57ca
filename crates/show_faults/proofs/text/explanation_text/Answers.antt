use Rattle.show_faults.proofs.text.explanation_text.Goals as goal

pub returns : goal.returns
returns c = record { layout = rw (c.in_ok-title.ensures, c.in_ok-example.ensures, c.in_ok-mistakes.ensures) at c.format.ensures.ok }
