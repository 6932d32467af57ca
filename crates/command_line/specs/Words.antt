-- The command line.
use Rattle.std.specs.Prelude.{◌≡◌, ◌≢◌, ◌⊎◌, ℕ, ◌≤◌, ◌^◌, List, [], ◌∷◌, Option, None, Some, Ok, codes, true, false, unwrap_or, ⊤}
use Rattle.std.specs.Str.Parse.{ParsesUnsigned}
pub use Rattle.clap.specs.Words.{Row, Text}
use Rattle.clap.specs.Words.{App, IsAmong, Rule, all_of, fault_of, first_of, found_of, kind_of, new_app, new_rule, rows_of, subcommand_of, subcommand_rows_of, with_rule, with_subcommand}
use Rattle.clap.specs.declared.parser.matches.ArgMatches.{ArgMatches}
use Rattle.clap.specs.declared.error.Error.{Error}
use Rattle.clap.specs.declared.error.kind.ErrorKind.TheVariants as kind
use Rattle.clap.specs.declared.builder.value_parser.ValueParser.TheVariants.{Unsigned}
use Rattle.clap.specs.Lexer.{usize_max}
use Rattle.clap.specs.declared.builder.range.ValueRange.{ValueRange}
use Rattle.clap.specs.declared.builder.command.Command.{Command as Parser}
use Rattle.clap.specs.declared.builder.command.Command.TheViews.{out-Command}
use Rattle.numbers.specs.Bounds.{max_clients, max_dealt}
use Rattle.command_line.specs.declared.command.Command.{Command}
use Rattle.command_line.specs.declared.command.Command.TheVariants.{Check, Deal, Make, Plan, Replay, Run, World}
use Rattle.command_line.specs.declared.command.Shape.{Shape}
use Rattle.command_line.specs.declared.command.Shape.TheVariants.{Cyclic, Grid, Majority, Tree, Wheel}
use Rattle.command_line.specs.declared.usage.Usage.{Usage}
use Rattle.command_line.specs.declared.usage.Usage.TheVariants.{Arguments, OutOfMemory, Refused}

-- any number of values, from 0 to the greatest possible count
abbrev pub any_count : ValueRange
any_count = record { start_inclusive = 0; end_inclusive = usize_max }

-- The command lines of the program.

-- an argument that has to be there: any word
abbrev pub word_rule : Text → Rule
word_rule name = record (new_rule name) { required = true }

-- an argument that has to be there: a number from `least` to `most`
abbrev pub number_rule : Text → ℕ → ℕ → Rule
number_rule name least most = record (word_rule name) { parser = Some (Unsigned least most) }

-- N, the number of tickets to deal: at most 100,000
abbrev pub tickets_rule : Rule
tickets_rule = number_rule (codes "N") 0 max_dealt

-- NUMBERS: any count of numbers, each at most 9999
abbrev pub sizes_rule : Rule
sizes_rule = record (new_rule (codes "NUMBERS")) { range = Some any_count; parser = Some (Unsigned 0 9999) }

-- qlock make, with SHAPE and NUMBERS
abbrev pub make_app : App
make_app = with_rule (with_rule (new_app (codes "make")) (word_rule (codes "SHAPE"))) sizes_rule

-- qlock deal
abbrev pub deal_app : App
deal_app = with_rule (new_app (codes "deal")) tickets_rule

-- the app with these arguments too
abbrev pub with_rules : App → List Rule → App
with_rules a [] = a
with_rules a (rule ∷ rules) = with_rules (with_rule a rule) rules

-- qlock run, with CLIENTS, PASSES and TURNS
abbrev pub run_app : App
run_app =
    with_rules (new_app (codes "run"))
    (number_rule (codes "CLIENTS") 1 max_clients ∷ number_rule (codes "PASSES") 0 1000 ∷ number_rule (codes "TURNS") 0 (10 ^ 12) ∷ [])

-- the app with these subcommands too
abbrev pub with_subcommands : App → List App → App
with_subcommands a [] = a
with_subcommands a (sub ∷ subs) = with_subcommands (with_subcommand a sub.top) subs

-- an app that needs a subcommand
abbrev pub required_subcommand : App → App
required_subcommand a = record a { top = record a.top { subcommand_required = true } }

-- the same app, which has a version
abbrev pub with_version : App → App
with_version a = record a { top = record a.top { has_version = true } }

-- qlock with its subcommands: the whole command line
abbrev pub qlock_app : App
qlock_app =
    with_subcommands (required_subcommand (with_version (new_app (codes "qlock"))))
    (make_app ∷ new_app (codes "plan") ∷ new_app (codes "check") ∷ deal_app ∷ new_app (codes "world") ∷ run_app ∷ new_app (codes "replay") ∷ [])

-- the text reads as the number n, of 32 bits
abbrev pub IsNumber : List ℕ → ℕ → Type 0
IsNumber text n = ParsesUnsigned {E = ℕ} 32 10 text (Ok n)

-- the value of the argument with this name reads as the number n, which is at least `least` and at
-- most `most`
abbrev pub HasNumber : Text → ℕ → ℕ → List Row → ℕ → Type 0
HasNumber name least most rows n =
    ((text : List ℕ) × (first_of name rows ≡ Some text) × ParsesUnsigned {E = ℕ} 64 10 text (Ok n))
    × (least ≤ n) × (n ≤ most)

-- the texts read as the sizes, which are at most 9999
abbrev pub AreSizes : List Text → List ℕ → Type 0
AreSizes [] [] = ⊤
AreSizes [] (n ∷ sizes) = ⊥
AreSizes (text ∷ texts) [] = ⊥
AreSizes (text ∷ texts) (n ∷ sizes) = IsNumber text n × (n ≤ 9999) × AreSizes texts sizes

-- the shape is the one with this name and these sizes
abbrev pub IsShapeOf : Text → List ℕ → Shape → Type 0
IsShapeOf name sizes (Grid r c) = (name ≡ codes "grid") × (sizes ≡ r ∷ c ∷ [])
IsShapeOf name sizes (Majority n) = (name ≡ codes "majority") × (sizes ≡ n ∷ [])
IsShapeOf name sizes (Tree h) = (name ≡ codes "tree") × (sizes ≡ h ∷ [])
IsShapeOf name sizes (Wheel k) = (name ≡ codes "wheel") × (sizes ≡ k ∷ [])
IsShapeOf name sizes (Cyclic n base) = (name ≡ codes "cyclic") × (sizes ≡ n ∷ base.items)

-- the values of an argument, or none if it was left out
abbrev pub size_texts : Text → List Row → List Text
size_texts name rows = unwrap_or (all_of name rows) []

-- the command is the one that the used subcommand and its values name
abbrev pub IsNamedBy : Option (Text × List Row) → Command → Type 0
IsNamedBy None command = ⊥
IsNamedBy (Some used) (Make shape) =
    (used.0 ≡ codes "make")
    × ((name : List ℕ) × (first_of (codes "SHAPE") used.1 ≡ Some name)
    × ((sizes : List ℕ) × AreSizes (size_texts (codes "NUMBERS") used.1) sizes × IsShapeOf name sizes shape))
IsNamedBy (Some used) Plan = used.0 ≡ codes "plan"
IsNamedBy (Some used) Check = used.0 ≡ codes "check"
IsNamedBy (Some used) World = used.0 ≡ codes "world"
IsNamedBy (Some used) Replay = used.0 ≡ codes "replay"
IsNamedBy (Some used) (Run clients passes turns) =
    (used.0 ≡ codes "run")
    × HasNumber (codes "CLIENTS") 1 max_clients used.1 clients
    × HasNumber (codes "PASSES") 0 1000 used.1 passes
    × HasNumber (codes "TURNS") 0 (10 ^ 12) used.1 turns
IsNamedBy (Some used) (Deal n) = (used.0 ≡ codes "deal") × HasNumber (codes "N") 0 max_dealt used.1 n

-- the subcommand with this name is used, with these matches
abbrev pub used_as : Text → ArgMatches → Option (Text × List Row)
used_as name used = Some (name, rows_of (found_of used))

-- clap finds no fault in the words, and these matches
pub record HasMatches (app : App) (words : List Text) (matches : ArgMatches) : Type 0 where
  pub faultless : fault_of app words ≡ []
  pub used : subcommand_rows_of matches ≡ subcommand_of app words

-- the parser has no argument that is meant for its subcommands too
abbrev pub IsLocal : Parser → Type 0
IsLocal p = (out-Command p).has_globals ≡ false

-- Why words name no command.

-- the used subcommand and its values name no command
abbrev pub NamesNone : Option (Text × List Row) → Type 0
NamesNone used = (command : Command) → ¬ IsNamedBy used command

-- the used subcommand may fail with this usage: with `Arguments` only if it and its values name no
-- command, never with clap's text
abbrev pub RefusesUse : Option (Text × List Row) → Usage → Type 0
RefusesUse used (Refused error) = ⊥
RefusesUse used Arguments = NamesNone used
RefusesUse used OutOfMemory = ⊤

-- clap may refuse the words with this usage: with its text for the first fault that it finds in them,
-- and with out of memory whatever they are
abbrev pub RefusesByClap : App → List Text → Usage → Type 0
RefusesByClap app words (Refused error) = IsAmong (kind_of error) (fault_of app words)
RefusesByClap app words Arguments = ⊥
RefusesByClap app words OutOfMemory = ⊤

-- clap's error becomes this usage: out of memory, or clap's text
abbrev pub BecomesUsage : Error → Usage → Type 0
BecomesUsage error usage =
    ((kind_of error ≡ kind.OutOfMemory) × (usage ≡ OutOfMemory))
    ⊎ ((kind_of error ≢ kind.OutOfMemory) × (usage ≡ Refused error))

-- clap finds no fault in the words, and they name this command
abbrev pub Names : List Text → Command → Type 0
Names words command = (fault_of qlock_app words ≡ []) × IsNamedBy (subcommand_of qlock_app words) command

-- The words may fail with this usage: with clap's text for the first fault that clap finds in them;
-- with `Arguments` if clap finds none and they name no command; with out of memory whatever they
-- are.
abbrev pub Refuses : List Text → Usage → Type 0
Refuses words (Refused error) = IsAmong (kind_of error) (fault_of qlock_app words)
Refuses words Arguments = (fault_of qlock_app words ≡ []) × NamesNone (subcommand_of qlock_app words)
Refuses words OutOfMemory = ⊤
