-- The lines of a story: the steps of a script, an exchange of the plan, crashes, and what goes beyond them.
--
--     exchange             later requests use the second plan
--     crash-client C       client C crashes, and restarts from what it saved
--     crash-voter V        the same of voter V
--     evict V              voter V lets its current grant go
--     reborn-voter V       voter V lost its state, and comes back with the number of grants that it gave
--     anew-client C        client C lost its state, and starts anew with its last stamp as its clock
--     show C               client C shows the guard the pass that it had when it was inside last
--
-- All other lines are those of a script. C and V are at most 255.
use Rattle.std.specs.Prelude.{ℕ, ◌≡◌, ◌≤◌, List, [], ◌∷◌, codes, Option, Some, option_map, ⊤, if◌then◌else◌}
use Rattle.std.specs.Str.{bytes_eq}
use Rattle.std.proofs.Common.{ap, ap₂, sym, ◌∙◌, refl, get_or, length, arith, rules}
use Rattle.texts.specs.Fields.{AllFit}
use Rattle.texts.specs.Forms.{Form, IsForm, IsWord}
use Rattle.world_state.specs.declared.step.Step.TheVariants.{Ask, Deliver, Exchange}
use Rattle.replay.specs.Scripts.{HasStepLine, step_by, step_by-word, step_number, step_word}
use Rattle.stories.specs.declared.turn.Turn.{Turn}
use Rattle.stories.specs.declared.turn.Turn.TheVariants.{CrashClient, CrashVoter, Evict, RebornVoter, AnewClient, Show, Step as Makes}

-- the word of a turn: that of its step, if a script has a line for it
abbrev pub turn_word : Turn → List ℕ
turn_word (Makes Exchange) = codes "exchange"
turn_word (Makes step) = step_word step
turn_word (CrashClient client) = codes "crash-client"
turn_word (CrashVoter voter) = codes "crash-voter"
turn_word (Evict voter) = codes "evict"
turn_word (RebornVoter voter) = codes "reborn-voter"
turn_word (AnewClient client) = codes "anew-client"
turn_word (Show client) = codes "show"

-- the number of a turn, of a message, a client or a voter; an exchange has none
abbrev pub turn_numbers : Turn → List ℕ
turn_numbers (Makes Exchange) = []
turn_numbers (Makes step) = step_number step ∷ []
turn_numbers (CrashClient client) = client ∷ []
turn_numbers (CrashVoter voter) = voter ∷ []
turn_numbers (Evict voter) = voter ∷ []
turn_numbers (RebornVoter voter) = voter ∷ []
turn_numbers (AnewClient client) = client ∷ []
turn_numbers (Show client) = client ∷ []

-- which turns have a line; of a script's steps those that have one there
abbrev pub HasTurnLine : Turn → Type 0
HasTurnLine (Makes Exchange) = ⊤
HasTurnLine (Makes step) = HasStepLine step
HasTurnLine (CrashClient client) = client ≤ 255
HasTurnLine (CrashVoter voter) = voter ≤ 255
HasTurnLine (Evict voter) = voter ≤ 255
HasTurnLine (RebornVoter voter) = voter ≤ 255
HasTurnLine (AnewClient client) = client ≤ 255
HasTurnLine (Show client) = client ≤ 255

-- the turn is no step of the world
abbrev pub IsNoStep : Turn → Type 0
IsNoStep (Makes step) = ⊥
IsNoStep t = ⊤

-- the line of a turn
abbrev pub turn_form : Form Turn
turn_form = record { word = turn_word; numbers = turn_numbers; fits = HasTurnLine }

-- The form is that of lines

-- the turn of a word and a number
turn_by : List ℕ → ℕ → Option Turn
turn_by word n =
    if bytes_eq word (codes "exchange") then Some (Makes Exchange) else
    if bytes_eq word (codes "crash-client") then Some (CrashClient n) else
    if bytes_eq word (codes "crash-voter") then Some (CrashVoter n) else
    if bytes_eq word (codes "evict") then Some (Evict n) else
    if bytes_eq word (codes "reborn-voter") then Some (RebornVoter n) else
    if bytes_eq word (codes "anew-client") then Some (AnewClient n) else
    if bytes_eq word (codes "show") then Some (Show n) else option_map Makes (step_by word n)

turn_by-word : (t : Turn) → HasTurnLine t → turn_by (turn_word t) (get_or (turn_numbers t) 0 0) ≡ Some t
unfolding turn_by
turn_by-word (Makes Exchange) h = refl
turn_by-word (Makes (Ask c)) h = ap (option_map Makes) (step_by-word (Ask c) h)
turn_by-word (Makes s) h = ap (option_map Makes) (step_by-word s h)
turn_by-word t h = refl

turn_words : (t : Turn) → HasTurnLine t → IsWord (turn_word t)
turn_words (Makes (Ask c)) h = search rules
turn_words t h = search rules

turns_fit : (t : Turn) → HasTurnLine t → AllFit (turn_numbers t)
turns_fit (Makes (Deliver k)) h = (h, tt)
turns_fit (Makes Exchange) h = tt
turns_fit t h = (omega arith, tt)

turns_few : (t : Turn) → length (turn_numbers t) ≤ 1
turns_few (Makes (Ask c)) = omega arith
turns_few t = omega arith

pub turns_have_form : IsForm turn_form
turns_have_form = record {
  words = turn_words;
  small = turns_fit;
  few = λ t h. omega (arith, turns_few t);
  one = λ s t hs ht word numbers.
      let by : ◌≡◌ {A = Option Turn} (Some s) (Some t) = sym (turn_by-word s hs) ∙ ap₂ turn_by word (ap (λ (ns : List ℕ). get_or ns 0 0) numbers) ∙ turn_by-word t ht in
      cc;
}
