-- The command line: which command its words name.
use Rattle.std.specs.Prelude.{◌≡◌, ◌⊎◌, ◌<◌, ◌≤◌, ℕ, Bool, List, length, [], ◌∷◌, Option, None, Some, IfSome, String, codes, false, map, string_bytes, true, unwrap_or, Vec, ⊤}
use Rattle.std.specs.declared.alloc.Global.{Global}
use Rattle.clap.specs.Lexer.{usize_max}
use Rattle.clap.specs.Words.{App, IsAmong, Row, Rule, Text, all_of, fault_of, first_of, kind_of, new_app, new_rule, subcommand_of, with_rule}
use Rattle.clap.specs.declared.builder.action.ArgAction.TheVariants.{SetTrue}
use Rattle.clap.specs.declared.builder.range.ValueRange.{ValueRange}
use Rattle.clap.specs.declared.builder.value_parser.ValueParser.TheVariants.{Unsigned}
use Rattle.numbers.specs.Bounds.{max_clients, max_cycle, max_dealt, max_voters}
use Rattle.show_faults.specs.Codes.{IsFaultCode, code_in}
use Rattle.show_faults.specs.declared.explanation.Explanation.{Explanation}
use Rattle.command_line.specs.Words as qlock
use Rattle.command_line.specs.Words.{AreSizes, HasNumber, deal_app, required_subcommand, number_rule, size_texts, sizes_rule, with_rules, with_subcommands, with_version, word_rule}
use Rattle.show_coteries.specs.Names.{IsShapeOf}
use Rattle.show_coteries.specs.declared.shape.CoterieShape.{CoterieShape}
use Rattle.show_command_line.specs.declared.command.Form.{Form}
use Rattle.show_command_line.specs.declared.command.Form.TheVariants as form
use Rattle.show_command_line.specs.declared.command.NearForm.{NearForm}
use Rattle.show_command_line.specs.declared.command.NearForm.TheVariants as near
use Rattle.show_command_line.specs.declared.command.TicketForm.{TicketForm}
use Rattle.show_command_line.specs.declared.command.TicketForm.TheVariants as tickets
use Rattle.command_line.specs.declared.usage.Usage.{Usage}
use Rattle.command_line.specs.declared.usage.Usage.TheVariants.{Arguments, OutOfMemory, Refused}
use Rattle.show_command_line.specs.declared.command.Picture.{Picture}
use Rattle.show_command_line.specs.declared.command.Picture.TheVariants.{Load, World as Messages}
use Rattle.show_command_line.specs.declared.command.ShowCommand.{ShowCommand}
use Rattle.show_command_line.specs.declared.command.ShowCommand.TheVariants.{Bridge, Check, Compare, Coterie, Deal, Explain, ExplainAll, Fault, ListFaults, Near, Picture as Show, Plan, Report, Resilience, Waiting, Without, World}

-- The command lines of the program.

-- one value or more, up to the greatest possible count
abbrev pub some_count : ValueRange
some_count = record { start_inclusive = 1; end_inclusive = usize_max }

-- a flag, as in `--even`
abbrev pub flag_rule : Text → Rule
flag_rule name = record (new_rule name) { long = Some name; action = Some SetTrue }

-- qlock-show plan, with --json
abbrev pub plan_app : App
plan_app = with_rule (new_app (codes "plan")) (flag_rule (codes "json"))

-- qlock-show deal: as for `qlock`, with --even, --names and --json
abbrev pub tickets_app : App
tickets_app =
    with_rules deal_app
    (flag_rule (codes "even") ∷ flag_rule (codes "names") ∷ flag_rule (codes "json") ∷ [])

-- an argument that has to be there: one word or more
abbrev pub words_rule : Text → Rule
words_rule name = record (word_rule name) { range = Some some_count }

-- qlock-show without, with NAMES
abbrev pub without_app : App
without_app = with_rule (new_app (codes "without")) (words_rule (codes "NAMES"))

-- qlock-show resilience, with --json
abbrev pub resilience_app : App
resilience_app = with_rule (new_app (codes "resilience")) (flag_rule (codes "json"))

-- FILES, for `compare`: 1 to 64 words
abbrev pub files_rule : Rule
files_rule = record (word_rule (codes "FILES")) { range = Some (record { start_inclusive = 1; end_inclusive = 64 }) }

-- qlock-show compare, with FILES and --json
abbrev pub compare_app : App
compare_app = with_rules (new_app (codes "compare")) (files_rule ∷ flag_rule (codes "json") ∷ [])

-- qlock-show explain, with CODE, which may be left out
abbrev pub explain_app : App
explain_app = with_rule (new_app (codes "explain")) (new_rule (codes "CODE"))

-- qlock-show fault, with WORDS
abbrev pub fault_app : App
fault_app = with_rule (new_app (codes "fault")) (words_rule (codes "WORDS"))

-- qlock-show picture, with KIND
abbrev pub picture_app : App
picture_app = with_rule (new_app (codes "picture")) (word_rule (codes "KIND"))

-- a number that may be left out, from `least` to `most`
abbrev pub optional_rule : Text → ℕ → ℕ → Rule
optional_rule name least most = record (number_rule name least most) { required = false }

-- --round SECONDS
abbrev pub round_rule : Rule
round_rule = record (optional_rule (codes "round") 1 86400) { long = Some (codes "round"); value_names = 1 }

-- --down VOTERS, for `waiting`
abbrev pub waiting_down_rule : Rule
waiting_down_rule = record (optional_rule (codes "down") 1 max_voters) { long = Some (codes "down"); value_names = 1 }

-- --dead CLIENTS, for `waiting`
abbrev pub waiting_dead_rule : Rule
waiting_dead_rule = record (optional_rule (codes "dead") 1 max_clients) { long = Some (codes "dead"); value_names = 1 }

-- qlock-show waiting, with CLIENTS, WITHDRAWALS, which may be left out, --round, --down and --dead
abbrev pub waiting_app : App
waiting_app =
    with_rules (new_app (codes "waiting"))
    (number_rule (codes "CLIENTS") 1 max_clients ∷ optional_rule (codes "WITHDRAWALS") 0 1000000 ∷ round_rule
    ∷ waiting_down_rule ∷ waiting_dead_rule ∷ [])

-- --deal N, for `near`
abbrev pub near_deal_rule : Rule
near_deal_rule = record (optional_rule (codes "deal") 0 max_dealt) { long = Some (codes "deal"); value_names = 1 }

-- --cycle N, for `near`
abbrev pub near_cycle_rule : Rule
near_cycle_rule = record (optional_rule (codes "cycle") 1 max_cycle) { long = Some (codes "cycle"); value_names = 1 }

-- --down N, for `near`
abbrev pub near_down_rule : Rule
near_down_rule = record (optional_rule (codes "down") 1 2) { long = Some (codes "down"); value_names = 1 }

-- --above PERCENT, for `near`
abbrev pub near_above_rule : Rule
near_above_rule = record (optional_rule (codes "above") 0 100) { long = Some (codes "above"); value_names = 1 }

-- qlock-show near, with --cycle, --deal, --down, --above, --text and --json
abbrev pub near_app : App
near_app =
    with_rules (new_app (codes "near"))
    (near_cycle_rule ∷ near_deal_rule ∷ near_down_rule ∷ near_above_rule ∷ flag_rule (codes "text")
    ∷ flag_rule (codes "json") ∷ [])

-- --capacity NUMBERS.., for `coterie`
abbrev pub capacity_rule : Rule
capacity_rule =
    record (new_rule (codes "capacity")) {
      long = Some (codes "capacity");
      range = Some some_count;
      parser = Some (Unsigned 1 1000);
      value_names = 1;
    }

-- qlock-show coterie, with SHAPE, NUMBERS and --capacity
abbrev pub coterie_app : App
coterie_app = with_rules (new_app (codes "coterie")) (word_rule (codes "SHAPE") ∷ sizes_rule ∷ capacity_rule ∷ [])

-- qlock-show with `plan`, `check`, `deal`, `world` and `report`
abbrev pub pages_app : App
pages_app =
    with_subcommands (required_subcommand (with_version (new_app (codes "qlock-show"))))
    (plan_app ∷ new_app (codes "check") ∷ tickets_app ∷ new_app (codes "world") ∷ new_app (codes "report") ∷ [])

-- and with `without`, `resilience` and `bridge`
abbrev pub coteries_app : App
coteries_app =
    with_subcommands pages_app (without_app ∷ resilience_app ∷ new_app (codes "bridge") ∷ [])

-- and with `near`, `compare`, `coterie` and `waiting`
abbrev pub planners_app : App
planners_app = with_subcommands coteries_app (near_app ∷ compare_app ∷ coterie_app ∷ waiting_app ∷ [])

-- and with `explain`, `fault` and `picture`: the whole command line
abbrev pub show_app : App
show_app = with_subcommands planners_app (explain_app ∷ fault_app ∷ picture_app ∷ [])

-- Which command words name.

-- the explanation is that of the fault whose code is the value of CODE
abbrev pub HasCode : List Row → Explanation → Type 0
HasCode rows e =
    ((text : Text) × (first_of (codes "CODE") rows ≡ Some text) × (e.code.now ≡ code_in text)) × IsFaultCode e.code.now

-- whether the flag with this name is there
abbrev pub HasFlag : Text → List Row → Bool → Type 0
HasFlag name rows true = first_of name rows ≡ Some (codes "true")
HasFlag name rows false = ¬ (first_of name rows ≡ Some (codes "true"))

-- the page is JSON if and only if the flag --json is there
abbrev pub IsForm : List Row → Form → Type 0
IsForm rows form.Words = HasFlag (codes "json") rows false
IsForm rows form.Json = HasFlag (codes "json") rows true

-- the tickets are JSON if the flag --json is there, names if only the flag --names is, and else words
abbrev pub IsTicketForm : List Row → TicketForm → Type 0
IsTicketForm rows tickets.Words = HasFlag (codes "json") rows false × HasFlag (codes "names") rows false
IsTicketForm rows tickets.Names = HasFlag (codes "json") rows false × HasFlag (codes "names") rows true
IsTicketForm rows tickets.Json = HasFlag (codes "json") rows true

-- the weights are JSON if the flag --json is there, a text if only the flag --text is, and else words
abbrev pub IsNearForm : List Row → NearForm → Type 0
IsNearForm rows near.Words = HasFlag (codes "json") rows false × HasFlag (codes "text") rows false
IsNearForm rows near.Text = HasFlag (codes "json") rows false × HasFlag (codes "text") rows true
IsNearForm rows near.Json = HasFlag (codes "json") rows true

-- these texts are the values of the argument with this name
abbrev pub HasTexts : Text → List Row → List (String Global) → Type 0
HasTexts name rows texts = all_of name rows ≡ Some (map string_bytes texts)

-- the number is the value of the argument with this name; or there is none, and it was left out
abbrev pub MayHaveNumber : Text → ℕ → ℕ → List Row → Option ℕ → Type 0
MayHaveNumber name least most rows None = first_of name rows ≡ None
MayHaveNumber name least most rows (Some n) = HasNumber name least most rows n

-- the shape is the one with the name SHAPE and the sizes NUMBERS
abbrev pub HasShape : List Row → CoterieShape → Type 0
HasShape rows shape =
    (name : List ℕ) × (first_of (codes "SHAPE") rows ≡ Some name)
    × ((sizes : List ℕ) × AreSizes (size_texts (codes "NUMBERS") rows) sizes × IsShapeOf name sizes shape)

-- the capacities are the values of --capacity; or there are none, and it was left out
abbrev pub MayHaveCapacities : List Row → Option (Vec ℕ Global) → Type 0
MayHaveCapacities rows None = all_of (codes "capacity") rows ≡ None
MayHaveCapacities rows (Some capacities) = AreSizes (size_texts (codes "capacity") rows) capacities.items

-- a command line of `qlock`: the words behind `fault`
abbrev pub qlock_words : List Row → List Text
qlock_words rows = codes "qlock" ∷ unwrap_or (all_of (codes "WORDS") rows) []

-- the word for a picture, the value of KIND
abbrev pub picture_word : Picture → Text
picture_word Load = codes "load"
picture_word Messages = codes "world"

-- the command is the one that the used subcommand and its values name
abbrev pub IsNamedBy : Option (Text × List Row) → ShowCommand → Type 0
IsNamedBy None command = ⊥
IsNamedBy (Some used) (Plan form) = (used.0 ≡ codes "plan") × IsForm used.1 form
IsNamedBy (Some used) Check = used.0 ≡ codes "check"
IsNamedBy (Some used) (Deal dealing) =
    (used.0 ≡ codes "deal")
    × HasNumber (codes "N") 0 max_dealt used.1 dealing.count
    × HasFlag (codes "even") used.1 dealing.is_even
    × IsTicketForm used.1 dealing.form
IsNamedBy (Some used) (Near page) =
    (used.0 ≡ codes "near")
    × MayHaveNumber (codes "cycle") 1 max_cycle used.1 page.cycle
    × MayHaveNumber (codes "deal") 0 max_dealt used.1 page.tickets
    × MayHaveNumber (codes "down") 1 2 used.1 page.down
    × MayHaveNumber (codes "above") 0 100 used.1 page.above
    × IsNearForm used.1 page.form
IsNamedBy (Some used) (Coterie shape capacities) =
    (used.0 ≡ codes "coterie") × HasShape used.1 shape × MayHaveCapacities used.1 capacities
IsNamedBy (Some used) (Compare files form) =
    (used.0 ≡ codes "compare")
    × HasTexts (codes "FILES") used.1 files.items
    × (length files.items ≤ 64)
    × IsForm used.1 form
IsNamedBy (Some used) (Without names) = (used.0 ≡ codes "without") × HasTexts (codes "NAMES") used.1 names.items
IsNamedBy (Some used) (Resilience form) = (used.0 ≡ codes "resilience") × IsForm used.1 form
IsNamedBy (Some used) Bridge = used.0 ≡ codes "bridge"
IsNamedBy (Some used) World = used.0 ≡ codes "world"
IsNamedBy (Some used) Report = used.0 ≡ codes "report"
IsNamedBy (Some used) (Waiting w) =
    (used.0 ≡ codes "waiting")
    × HasNumber (codes "CLIENTS") 1 max_clients used.1 w.clients
    × MayHaveNumber (codes "WITHDRAWALS") 0 1000000 used.1 w.withdrawals
    × MayHaveNumber (codes "round") 1 86400 used.1 w.round
    × MayHaveNumber (codes "down") 1 max_voters used.1 w.down
    × MayHaveNumber (codes "dead") 1 max_clients used.1 w.dead
    × IfSome w.dead (λ d. d < w.clients)
IsNamedBy (Some used) (Explain explanation) = (used.0 ≡ codes "explain") × HasCode used.1 explanation.now
IsNamedBy (Some used) ExplainAll = (used.0 ≡ codes "explain") × (first_of (codes "CODE") used.1 ≡ Some (codes "all"))
IsNamedBy (Some used) ListFaults = (used.0 ≡ codes "explain") × (first_of (codes "CODE") used.1 ≡ None)
IsNamedBy (Some used) (Fault command) = (used.0 ≡ codes "fault") × qlock.Names (qlock_words used.1) command
IsNamedBy (Some used) (Show picture) = (used.0 ≡ codes "picture") × (first_of (codes "KIND") used.1 ≡ Some (picture_word picture))

-- clap finds no fault in the words, and they name this command
abbrev pub Names : List Text → ShowCommand → Type 0
Names words command = (fault_of show_app words ≡ []) × IsNamedBy (subcommand_of show_app words) command

-- Why words name no command.

-- the used subcommand and its values name no command
abbrev pub NamesNone : Option (Text × List Row) → Type 0
NamesNone used = (command : ShowCommand) → ¬ IsNamedBy used command

-- the used subcommand is `fault`, and clap refuses the words behind it, as words of `qlock`, with
-- this usage
abbrev pub RefusesBehind : Option (Text × List Row) → Usage → Type 0
RefusesBehind used usage = (rows : List Row) × (used ≡ Some (codes "fault", rows)) × qlock.Refuses (qlock_words rows) usage

-- The used subcommand may fail with this usage: with clap's text only for the words behind `fault`,
-- and with `Arguments` only if it and its values name no command.
abbrev pub RefusesUse : Option (Text × List Row) → Usage → Type 0
RefusesUse used (Refused error) = RefusesBehind used (Refused error)
RefusesUse used Arguments = NamesNone used
RefusesUse used OutOfMemory = ⊤

-- The words may fail with this usage: with clap's text for the first fault that clap finds in them,
-- or, if there is none, in those behind `fault`; with `Arguments` if clap finds none and they name
-- no command; with out of memory whatever they are.
abbrev pub Refuses : List Text → Usage → Type 0
Refuses words (Refused error) =
    IsAmong (kind_of error) (fault_of show_app words)
    ⊎ ((fault_of show_app words ≡ []) × RefusesBehind (subcommand_of show_app words) (Refused error))
Refuses words Arguments = (fault_of show_app words ≡ []) × NamesNone (subcommand_of show_app words)
Refuses words OutOfMemory = ⊤
