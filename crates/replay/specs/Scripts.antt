-- Scripts: how large a world is, and the steps that happen in it, each on a line of its own.
--
--     world CLIENTS LIMIT      1 to 64 clients; stamps and grants from 1 to LIMIT (1 to 2^40)
--     ask C                    then any number of steps, of six kinds
--     deliver K
--     leave C
--     give-up C
--     remind-client C
--     remind-voter V
--
-- C and V are at most 255, and K is below 2^64. A number is decimal, without a leading zero. One
-- space is between two words, and each line ends with a newline.
use Rattle.std.specs.Prelude.{ℕ, ◌≡◌, ◌≢◌, ◌<◌, ◌≤◌, ◌+◌, ◌^◌, ◌⊎◌, List, [], ◌∷◌, ◌++◌, length, codes, Option, Some, None, if◌then◌else◌}
use Rattle.std.specs.Str.{bytes_eq}
use Rattle.std.proofs.Common.{ap, ap₂, sym, ◌∙◌, refl, get_or, arith, rules}
use Rattle.numbers.specs.Bounds.{max_clients, max_stamp}
use Rattle.texts.specs.Forms.{AreFirst, Form, HaveLines, IsForm, IsNext, IsWord, line_of, text_of}
use Rattle.world_state.specs.declared.step.Step.{Step}
use Rattle.world_state.specs.declared.step.Step.TheVariants.{Ask, Deliver, Leave, GiveUp, RemindClient, RemindVoter, Exchange}
use Rattle.replay.specs.declared.fault.ReplayFault.{ReplayFault}
use Rattle.replay.specs.declared.fault.ReplayFault.TheVariants.{BadLine, OutOfMemory}

-- The lines of steps, and of a world

-- the word of a step; an exchange has none
abbrev pub step_word : Step → List ℕ
step_word (Ask client) = codes "ask"
step_word (Deliver message) = codes "deliver"
step_word (Leave client) = codes "leave"
step_word (GiveUp client) = codes "give-up"
step_word (RemindClient client) = codes "remind-client"
step_word (RemindVoter voter) = codes "remind-voter"
step_word Exchange = []

-- the number of a step: of a message, a client or a voter
abbrev pub step_number : Step → ℕ
step_number (Ask client) = client
step_number (Deliver message) = message
step_number (Leave client) = client
step_number (GiveUp client) = client
step_number (RemindClient client) = client
step_number (RemindVoter voter) = voter
step_number Exchange = 0

-- A message's number is below 2^64, a client or a voter at most 255. Scripts have no line for an exchange.
abbrev pub HasStepLine : Step → Type 0
HasStepLine (Ask client) = client ≤ 255
HasStepLine (Deliver message) = message < 2 ^ 64
HasStepLine (Leave client) = client ≤ 255
HasStepLine (GiveUp client) = client ≤ 255
HasStepLine (RemindClient client) = client ≤ 255
HasStepLine (RemindVoter voter) = voter ≤ 255
HasStepLine Exchange = ⊥

-- the line of a step
abbrev pub step_form : Form Step
step_form = record { word = step_word; numbers = λ s. step_number s ∷ []; fits = HasStepLine }

-- how large a world may be
pub record AreSizes (clients limit : ℕ) : Type 0 where
  pub some_client : 1 ≤ clients
  pub few_clients : clients ≤ max_clients
  pub some_stamp : 1 ≤ limit
  pub few_stamps : limit ≤ max_stamp

-- the first line: how many clients, and the highest stamp
abbrev pub world_form : Form (ℕ × ℕ)
world_form = record { word = λ s. codes "world"; numbers = λ s. s.0 ∷ s.1 ∷ []; fits = λ s. AreSizes s.0 s.1 }

-- Scripts, whatever the form of their steps' lines

-- what a script says: the sizes of a world, and its steps in order
pub record Script (S : Type 0) : Type 0 where
  -- how many clients the world has
  pub clients : ℕ
  -- the highest stamp and the highest grant
  pub limit : ℕ
  pub steps : List S

-- the script has a text: its sizes are in range, and each step has a line
pub record IsScript {S : Type 0} (f : Form S) (s : Script S) : Type 0 where
  pub sizes : AreSizes s.clients s.limit
  pub steps : HaveLines f s.steps

-- the one text of a script
abbrev pub script_text : {S : Type 0} → Form S → Script S → List ℕ
script_text f s = line_of world_form (s.clients, s.limit) ++ 10 ∷ text_of f s.steps

-- The first bad line

-- the line is one of a world's sizes
abbrev pub IsWorldLine : List ℕ → Type 0
IsWorldLine line = (sizes : ℕ × ℕ) × AreSizes sizes.0 sizes.1 × (line ≡ line_of world_form sizes)

-- the line is one of a step
abbrev pub IsStepLine : {S : Type 0} → Form S → List ℕ → Type 0
IsStepLine {S} f line = (s : S) × f.fits s × (line ≡ line_of f s)

-- a line of some script, without its newline
abbrev pub IsLine : {S : Type 0} → Form S → List ℕ → Type 0
IsLine f line = IsWorldLine line ⊎ IsStepLine f line

-- the text begins with such a line, with its newline
abbrev pub BeginsWith : (List ℕ → Type 0) → List ℕ → Type 0
BeginsWith IsLine text = (line : List ℕ) × (rest : List ℕ) × IsLine line × (text ≡ line ++ 10 ∷ rest)

-- after these steps' lines the text goes on, but not with a step's line
pub record EndsBadly {S : Type 0} (f : Form S) (text : List ℕ) (steps : List S) : Type 0 where
  pub rest : List ℕ
  pub steps_are : AreFirst f text steps rest
  pub some : rest ≢ []

-- the lines before this one are a world's and its steps', and this one is not a step's
pub record IsBadStep {S : Type 0} (f : Form S) (text : List ℕ) (line : ℕ) : Type 0 where
  pub sizes : ℕ × ℕ
  pub body : List ℕ
  pub world : IsNext world_form text sizes body
  pub steps : List S
  pub ends : EndsBadly f body steps
  pub line_is : line ≡ length steps + 2

-- the number, from 1, of the first bad line of a text: it is malformed, or has no newline
abbrev pub IsFirstBad : {S : Type 0} → Form S → List ℕ → ℕ → Type 0
IsFirstBad f text line = ((line ≡ 1) × ¬ (BeginsWith IsWorldLine text)) ⊎ IsBadStep f text line

-- the fault is the text's first bad line, or memory ran out
abbrev pub IsBadText : {S : Type 0} → Form S → List ℕ → ReplayFault → Type 0
IsBadText f text (BadLine line) = IsFirstBad f text line
IsBadText f text OutOfMemory = Unit {0}
IsBadText f text fault = ⊥

-- The fault is the first line that is not a step's, or memory ran out. The first line of `body` has
-- number 2.
abbrev pub IsBadRest : {S : Type 0} → Form S → List ℕ → ReplayFault → Type 0
IsBadRest {S} f body (BadLine line) = (steps : List S) × EndsBadly f body steps × (line ≡ length steps + 2)
IsBadRest f body OutOfMemory = Unit {0}
IsBadRest f body fault = ⊥

-- The forms are those of lines

pub worlds_have_form : IsForm world_form
worlds_have_form = record {
  words = λ s h. search rules;
  small = λ s h. (omega arith, (omega arith, tt));
  few = λ s h. omega arith;
  one = λ s t hs ht word numbers. ap (λ (ns : List ℕ). (get_or ns 0 0, get_or ns 1 0)) numbers;
}

-- the step of a word and a number
pub step_by : List ℕ → ℕ → Option Step
step_by word n =
    if bytes_eq word (codes "ask") then Some (Ask n) else
    if bytes_eq word (codes "deliver") then Some (Deliver n) else
    if bytes_eq word (codes "leave") then Some (Leave n) else
    if bytes_eq word (codes "give-up") then Some (GiveUp n) else
    if bytes_eq word (codes "remind-client") then Some (RemindClient n) else
    if bytes_eq word (codes "remind-voter") then Some (RemindVoter n) else None

pub step_by-word : (s : Step) → HasStepLine s → step_by (step_word s) (step_number s) ≡ Some s
unfolding step_by
step_by-word Exchange h = absurd h
step_by-word s h = refl

step_words : (s : Step) → HasStepLine s → IsWord (step_word s)
step_words Exchange h = absurd h
step_words s h = search rules

step_fits : (s : Step) → HasStepLine s → step_number s < 2 ^ 64
step_fits (Deliver k) h = h
step_fits Exchange h = absurd h
step_fits s h = omega arith

pub steps_have_form : IsForm step_form
steps_have_form = record {
  words = step_words;
  small = λ s h. (step_fits s h, tt);
  few = λ s h. omega arith;
  one = λ s t hs ht word numbers.
      let by : ◌≡◌ {A = Option Step} (Some s) (Some t) = sym (step_by-word s hs) ∙ ap₂ step_by word (ap (λ (ns : List ℕ). get_or ns 0 0) numbers) ∙ step_by-word t ht in
      cc;
}
