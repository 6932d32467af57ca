-- What `near` writes.
use Rattle.std.specs.Prelude.{ℕ, List, Option, None, Some, unwrap_or}
use Rattle.plan_inputs.specs.Inputs.{IsWeightsText}
use Rattle.show_command_line.specs.declared.command.NearForm.{NearForm}
use Rattle.show_command_line.specs.declared.command.NearForm.TheVariants.{Text}
use Rattle.show_command_line.specs.declared.command.NearPage.{NearPage}
use Rattle.show_cli.specs.Failures.{HasCoterie}

-- how many tickets a cycle has at most: 1000 if nothing is said
abbrev pub most_of : NearPage → ℕ
most_of page = unwrap_or page.cycle 1000

-- what is written in this form for the input, of weights whose cycle has at most so many tickets
abbrev pub IsFoundAs : NearForm → ℕ → List ℕ → List ℕ → Type 0
IsFoundAs Text most input text = IsWeightsText input most text
IsFoundAs form most input text = HasCoterie input

-- what is written if voters may be down, or if none may
abbrev pub IsFoundFor : Option ℕ → NearPage → List ℕ → List ℕ → Type 0
IsFoundFor None page input text = IsFoundAs page.form (most_of page) input text
IsFoundFor (Some down) page input text = HasCoterie input

-- the text is that of weights of the coterie in the input, a plan's if they are one; of a page, and of
-- weights that bear a loss, only the coterie is determined
abbrev pub IsFoundPage : NearPage → List ℕ → List ℕ → Type 0
IsFoundPage page input text = IsFoundFor page.down page input text
