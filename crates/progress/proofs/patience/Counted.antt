-- how often a client begins or stops to ask ahead of a request that is known everywhere: three times, and twice for
-- each hasty withdrawal
use Rattle.std.proofs.Common.{◌≡◌, ◌≢◌, ℕ, ◌+◌, ◌<◌, ◌≤◌, Bool, true, false, List, [], ◌∷◌, Ok, refl, sym, ap, subst, ◌∙◌, ◌⊎◌, inl, inr, arith, cond, eqb, ◌*◌}
use Rattle.std.proofs.lemmas.Bool.Decides.{nat_tests}
use Rattle.std.proofs.lemmas.Bool.{cases_eq, cases_lt, false≢true, false_from_ne_true}
use Rattle.numbers.specs.Sets.{has}
use Rattle.voter.specs.VoterContract.{IsEntry}
use Rattle.requester.specs.declared.state.ClientState.{ClientState}
use Rattle.requester.specs.RequesterContract.{KeepsQuorum}
use Rattle.requester.specs.Steps as requester
use Rattle.requester.specs.Words.{is_asking, is_idle, is_member}
use Rattle.requester.proofs.Messages.{KeepsRequest-take}
use Rattle.requester.proofs.SoundSteps.{give_up-Ok, is_asking-busy, is_asking-outside, leave-Ok}
use Rattle.world_state.specs.declared.step.Step.{Step}
use Rattle.world_state.specs.declared.step.Step.TheVariants.{Ask, Deliver, Leave, GiveUp, RemindClient, RemindVoter, Exchange}
use Rattle.world.specs.Runs.{run_of}
use Rattle.world_state.specs.Steps.{WorldState, client_at, voter_at, Dealing}
use Rattle.progress.specs.LiveRounds.{AreLiveRounds, IsLiveRound}
use Rattle.progress.specs.Moves.{of_steps}
use Rattle.progress.specs.Patience.{hasty, hasty_from, hasty_steps}
use Rattle.progress.specs.Rounds.{steps_of}
use Rattle.progress.specs.Rules.{Laws}
use Rattle.progress.proofs.run.Along.{Along, along-first, along-kept, along-last, along-split, next, reminded_at}
use Rattle.progress.proofs.overtaking.Behind.{meets, stamp_of}
use Rattle.progress.proofs.overtaking.Counting.{enters_by}
use Rattle.progress.proofs.invariants.Fitting.{take-Ok}
use Rattle.progress.proofs.patience.Hearing.{ClientHeard, RunsBeside, Ticks-moved, Trails, heard_kept, hears, hears_by_vote}
use Rattle.progress.proofs.block.Known.{known_after, runs_down, within_by}
use Rattle.progress.proofs.run.Moves.{ClientMoved, Makes, Moved, Moved-by, MovedBy, each_client}
use Rattle.progress.proofs.invariants.Outstanding.{step-GivesUp, step-Leaves}
use Rattle.progress.proofs.block.Overdue.{along-and, runs_until}
use Rattle.progress.proofs.losses.Lasting.{Lasts, Lasts-moved, Lasts-run, Lasts-self, Lasts-then, RunsOn}
use Rattle.progress.proofs.invariants.Sure.{Course, live_by}
use Rattle.progress.proofs.block.Tame.{above_bound, asks_up_to, turns_up_to, turns_up_to-append, up_to_asks, up_to_is, up_to_stamp}
use Rattle.progress.proofs.patience.Turns.{asks_then, at_most_once, inside_by, step-Asks, turn}
use Rattle.std.specs.Prelude.{if◌then◌else◌, nat_lt, ◌&&◌}
use Rattle.numbers.specs.Sums.{sum_below}
use Rattle.numbers.proofs.SumsBelow.{sum_below-add, sum_below-zero}

-- ---- stamps

stamp_or_asks_own : (x : ClientState) (cause : requester.Cause) (o : requester.Outcome) → requester.step x cause ≡ Ok o → (o.state.stamp ≡ x.stamp) ⊎ (is_asking o.state.phase ≡ true)
stamp_or_asks_own x (requester.Asks q) o step = inr (asks_then x q o step)
stamp_or_asks_own x (requester.Takes m) o step = inl (ap (λ (r : requester.Outcome). r.state.stamp) (sym (take-Ok x m o step)) ∙ (KeepsRequest-take x m).stamp)
stamp_or_asks_own x requester.Leaves o step = inl (ap (λ (r : requester.Outcome). r.state.stamp) (sym (leave-Ok x o (step-Leaves x o step)).1))
stamp_or_asks_own x requester.GivesUp o step = inl (ap (λ (r : requester.Outcome). r.state.stamp) (sym (give_up-Ok x o (step-GivesUp x o step)).1))

-- a new stamp is that of a client that asks
stamp_or_asks : (x y : WorldState) → Moved x y → (d : ℕ) → ((client_at y.clients d).stamp ≡ (client_at x.clients d).stamp) ⊎ (is_asking (client_at y.clients d).phase ≡ true)
stamp_or_asks x y moved d = elim moved [
  | inl k ↦ each_client (λ c z. (z.stamp ≡ (client_at x.clients c).stamp) ⊎ (is_asking z.phase ≡ true)) x y k
      (subst (λ (z : ClientState). (z.stamp ≡ (client_at x.clients k.who).stamp) ⊎ (is_asking z.phase ≡ true)) (sym k.here) (stamp_or_asks_own (client_at x.clients k.who) k.cause k.outcome k.step))
      (λ c. inl refl) d
  | inr (inl k) ↦ inl (ap (λ (cs : List ClientState). (client_at cs d).stamp) k.clients)
  | inr (inr k) ↦ inl (ap (λ (cs : List ClientState). (client_at cs d).stamp) k.clients)
]

-- ---- who stops to ask has heard of the request

stops_own : (laws : Laws) (p : Course) (w : WorldState) (c : ℕ) (t : Step) (x y : WorldState) → Trails p w c x → Trails p w c y → (k : ClientMoved x y) → k.who ≢ c → stamp_of w k.who < stamp_of x k.who
    → is_asking (client_at x.clients k.who).phase ≡ true → is_asking (client_at y.clients k.who).phase ≡ false → (t ≡ GiveUp k.who → ClientHeard w c k.who x) → MovedBy t x y
    → (cause : requester.Cause) → Makes t k.who cause → requester.step (client_at x.clients k.who) cause ≡ Ok k.outcome → KeepsQuorum (client_at x.clients k.who) cause k.outcome.state → ClientHeard w c k.who y
stops_own laws p w c t x y before after k other newer asks not gave moved (requester.Asks q) makes step keeps =
    absurd (false≢true (sym (is_asking-busy (client_at x.clients k.who).phase asks) ∙ step-Asks (client_at x.clients k.who) q k.outcome step))
stops_own laws p w c t x y before after k other newer asks not gave moved (requester.Takes m) makes step keeps =
    let z = client_at y.clients k.who in
    let same = ap (λ (q : ClientState). is_idle q.phase) k.here ∙ keeps.1 in
    let inside = inside_by z.phase (same ∙ is_asking-busy (client_at x.clients k.who).phase asks) not in
    let rises = (Lasts-moved laws x y (before.reached []).coherent (after.reached []).coherent (inl k) k.who).stamp in
    elim (enters_by laws.client w y c k.who (after.reached []).coherent after.behind after.still.runs other inside) [
      | inl old ↦ absurd (omega arith)
      | inr new ↦ new.1
    ]
stops_own laws p w c t x y before after k other newer asks not gave moved requester.Leaves makes step keeps =
    absurd (false≢true (sym (is_asking-outside (client_at x.clients k.who).phase asks) ∙ (leave-Ok (client_at x.clients k.who) k.outcome (step-Leaves (client_at x.clients k.who) k.outcome step)).0))
stops_own laws p w c t x y before after k other newer asks not gave moved requester.GivesUp makes step keeps = heard_kept laws p w c k.who t x y before.reached moved (gave makes)

stops_heard : (laws : Laws) (p : Course) (w : WorldState) (c d : ℕ) → d ≢ c → (t : Step) (x y : WorldState) → Trails p w c x → Trails p w c y → MovedBy t x y → stamp_of w d < stamp_of x d
    → is_asking (client_at x.clients d).phase ≡ true → is_asking (client_at y.clients d).phase ≡ false → (t ≡ GiveUp d → ClientHeard w c d x) → ClientHeard w c d y
stops_heard laws p w c d other t x y before after moved = elim moved [
  | inl both ↦
      let k = both.0 in
      elim (cases_eq d k.who) [
        | inl same ↦ subst (λ i. stamp_of w i < stamp_of x i → is_asking (client_at x.clients i).phase ≡ true → is_asking (client_at y.clients i).phase ≡ false → (t ≡ GiveUp i → ClientHeard w c i x) → ClientHeard w c i y) (sym same)
            (λ newer asks not gave. stops_own laws p w c t x y before after k (λ is. other (same ∙ is)) newer asks not gave (inl both) k.cause both.1 k.step
            (meets laws.client x y (before.reached []).coherent (after.reached []).coherent k).quorum)
        | inr unlike ↦ λ newer asks not gave. absurd (false≢true (sym not ∙ ap (λ (z : ClientState). is_asking z.phase) (k.others d unlike) ∙ asks))
      ]
  | inr (inl k) ↦ λ newer asks not gave. absurd (false≢true (sym not ∙ ap (λ (cs : List ClientState). is_asking (client_at cs d).phase) k.0.clients ∙ asks))
  | inr (inr k) ↦ λ newer asks not gave. absurd (false≢true (sym not ∙ ap (λ (cs : List ClientState). is_asking (client_at cs d).phase) k.clients ∙ asks))
]

-- ---- how often it may still turn

-- At most k turns are left: 3 while the client has the stamp that it had in the world w; 2 while it does not ask
-- under a stamp up to that of c; 1 while it asks under a newer one; 0 once it has heard of the request of c.
abbrev Room : WorldState → ℕ → ℕ → ℕ → WorldState → Type 0
Room w c d k x = ((k ≡ 3) × (stamp_of x d ≡ stamp_of w d))
    ⊎ ((k ≡ 2) × (stamp_of w d ≤ stamp_of x d) × (asks_up_to (stamp_of w c) x d ≡ false))
    ⊎ ((k ≡ 1) × (stamp_of w d < stamp_of x d) × (asks_up_to (stamp_of w c) x d ≡ true))
    ⊎ ((k ≡ 0) × (asks_up_to (stamp_of w c) x d ≡ false) × ClientHeard w c d x)

abbrev RoomAfter : WorldState → ℕ → ℕ → ℕ → WorldState → WorldState → Type 0
RoomAfter w c d k x y = (j : ℕ) × Room w c d j y × (turn (asks_up_to (stamp_of w c) x d) (asks_up_to (stamp_of w c) y d) + j ≤ k)

turn_of : (a b p q : Bool) → a ≡ p → b ≡ q → turn a b ≡ turn p q
turn_of a b p q e f i = turn (e i) (f i)

turn_most : (a b : Bool) → turn a b ≤ 1
turn_most true true = omega arith
turn_most true false = omega arith
turn_most false true = omega arith
turn_most false false = omega arith

-- with a new stamp at most two turns are left, this one counted
new_room : (w : WorldState) (c d : ℕ) (p : Course) (x y : WorldState) → Trails p w c y → stamp_of w d < stamp_of y d → is_asking (client_at y.clients d).phase ≡ true → RoomAfter w c d 2 x y
new_room w c d p x y after newer asks =
    let s = stamp_of w c in
    let most = turn_most (asks_up_to s x d) (asks_up_to s y d) in
    elim (asks_up_to s y d) as (λ b. asks_up_to s y d ≡ b → RoomAfter w c d 2 x y) [
      | true ↦ λ up. (1, inr (inr (inl (refl, newer, up))), omega arith)
      | false ↦ λ not.
          let above = above_bound s y d not asks in
          let behind = ((after.reached []).coherent.clients d).clock in
          (0, inr (inr (inr (refl, not, omega arith))), omega arith)
    ] refl

more_room : (w : WorldState) (c d k n : ℕ) (x y : WorldState) → k ≤ n → RoomAfter w c d k x y → RoomAfter w c d n x y
more_room w c d k n x y most h = (h.0, h.1, (let few = h.2 in omega arith))

-- a step by which the client gives up hastily h times
room_step : (laws : Laws) (p : Course) (w : WorldState) (c d h : ℕ) → d ≢ c → (t : Step) (x y : WorldState) → Trails p w c x → Trails p w c y → MovedBy t x y
    → (t ≡ GiveUp d → is_asking (client_at x.clients d).phase ≡ true → stamp_of w d < stamp_of x d → ClientHeard w c d x ⊎ (1 ≤ h)) → (k : ℕ) → Room w c d k x → RoomAfter w c d (k + 2 * h) x y
room_step laws p w c d h other t x y before after moved gave k room =
    let s = stamp_of w c in
    let t0 = stamp_of w d in
    let up_x = asks_up_to s x d in
    let up_y = asks_up_to s y d in
    let lasts = Lasts-moved laws x y (before.reached []).coherent (after.reached []).coherent (Moved-by t x y moved) d in
    let rises = lasts.stamp in
    let most = turn_most up_x up_y in
    -- who asks under the stamp that it had asked before
    let back : stamp_of y d ≡ stamp_of x d → up_y ≡ true → up_x ≡ true = λ same up.
    up_to_is s x d (lasts.asks same (up_to_asks s y d up)) (let few = up_to_stamp s y d up in omega arith) in
    let fresh : t0 ≤ stamp_of x d → (stamp_of y d ≡ stamp_of x d) ⊎ RoomAfter w c d 2 x y = λ old. elim (cases_lt (stamp_of x d) (stamp_of y d)) [
      | inr few ↦ inl (omega arith)
      | inl more ↦ elim (stamp_or_asks x y (Moved-by t x y moved) d) [
        | inl same ↦ inl same
        | inr asks ↦ inr (new_room w c d p x y after (omega arith) asks)
      ]
    ] in
    elim room [
      | inl three ↦
          let is = three.0 in
          let old = three.1 in
          elim (fresh (omega arith)) [
            | inr new ↦ more_room w c d 2 (k + 2 * h) x y (omega arith) new
            | inl same ↦ elim up_y as (λ b. up_y ≡ b → RoomAfter w c d (k + 2 * h) x y) [
              | true ↦ λ up. (let none = turn_of up_x up_y true true (back same up) up in (3, inl (refl, same ∙ old), omega arith))
              | false ↦ λ not. (2, inr (inl (refl, omega arith, not)), omega arith)
            ] refl
          ]
      | inr (inl two) ↦
          let is = two.0 in
          let old = two.1 in
          elim (fresh old) [
            | inr new ↦ more_room w c d 2 (k + 2 * h) x y (omega arith) new
            | inl same ↦ elim up_y as (λ b. up_y ≡ b → RoomAfter w c d (k + 2 * h) x y) [
              | true ↦ λ up. absurd (false≢true (sym two.2 ∙ back same up))
              | false ↦ λ not. (let none = turn_of up_x up_y false false two.2 not in (2, inr (inl (refl, omega arith, not)), omega arith))
            ] refl
          ]
      | inr (inr (inl one)) ↦
          let is = one.0 in
          let newer = one.1 in
          elim up_y as (λ b. up_y ≡ b → RoomAfter w c d (k + 2 * h) x y) [
            | true ↦ λ up. (let none = turn_of up_x up_y true true one.2 up in (1, inr (inr (inl (refl, omega arith, up))), omega arith))
            | false ↦ λ not. elim (cases_lt 0 h) [
              | inl some ↦ (2, inr (inl (refl, omega arith, not)), omega arith)
              | inr none ↦
                  let asks_x = up_to_asks s x d one.2 in
                  let high : ClientHeard w c d y = elim (is_asking (client_at y.clients d).phase) as (λ b. is_asking (client_at y.clients d).phase ≡ b → ClientHeard w c d y) [
                    | true ↦ λ asks. (let above = above_bound s y d not asks in let behind = ((after.reached []).coherent.clients d).clock in omega arith)
                    | false ↦ λ quiet. stops_heard laws p w c d other t x y before after moved newer asks_x quiet (λ gives. elim (gave gives asks_x newer) [
                      | inl heard ↦ heard
                      | inr some ↦ absurd (omega arith)
                    ])
                  ] refl in
                  (0, inr (inr (inr (refl, not, high))), omega arith)
            ]
          ] refl
      | inr (inr (inr done)) ↦
          let is = done.0 in
          let ticks = Ticks-moved laws.client x y (before.reached []).coherent (Moved-by t x y moved) d in
          let high = done.2 in
          let not : up_y ≡ false = false_from_ne_true up_y (λ up. elim (ticks.asking (up_to_asks s y d up)) [
            | inl was ↦ false≢true (sym done.1 ∙ up_to_is s x d was.0 (let few = up_to_stamp s y d up in let same = was.1 in omega arith))
            | inr new ↦ (let few = up_to_stamp s y d up in omega arith)
          ]) in
          let none = turn_of up_x up_y false false done.1 not in
          (0, inr (inr (inr (refl, not, heard_kept laws p w c d t x y before.reached moved high))), omega arith)
    ]

-- ---- hasty withdrawals of one client

-- 1 if the step is such a withdrawal of this client, else 0
abbrev own_hasty : ℕ → WorldState → WorldState → Step → ℕ
own_hasty d u x (Ask c) = 0
own_hasty d u x (Deliver k) = 0
own_hasty d u x (Leave c) = 0
own_hasty d u x (GiveUp c) = cond (eqb c d) (hasty u x (GiveUp c)) 0
own_hasty d u x (RemindClient c) = 0
own_hasty d u x (RemindVoter v) = 0
own_hasty d u x Exchange = 0

abbrev own_steps : Dealing → ℕ → WorldState → WorldState → List Step → ℕ
own_steps deal d u x [] = 0
own_steps deal d u x (s ∷ steps) = own_hasty d u x s + own_steps deal d u (next deal x s) steps

abbrev pub own_from : Dealing → ℕ → WorldState → WorldState → WorldState → List (List Step) → ℕ
own_from deal d u v w [] = 0
own_from deal d u v w (r ∷ rs) = own_steps deal d u w r + own_from deal d v w (run_of deal r w) rs

one_hasty : (n : ℕ) (u x : WorldState) (s : Step) → sum_below (λ d. own_hasty d u x s) n ≤ hasty u x s
one_hasty n u x (Ask c) = (let none = sum_below-zero n in omega arith)
one_hasty n u x (Deliver k) = (let none = sum_below-zero n in omega arith)
one_hasty n u x (Leave c) = (let none = sum_below-zero n in omega arith)
one_hasty n u x (GiveUp c) = at_most_once c (hasty u x (GiveUp c)) n
one_hasty n u x (RemindClient c) = (let none = sum_below-zero n in omega arith)
one_hasty n u x (RemindVoter v) = (let none = sum_below-zero n in omega arith)
one_hasty n u x Exchange = (let none = sum_below-zero n in omega arith)

all_steps : (deal : Dealing) (n : ℕ) (u x : WorldState) (steps : List Step) → sum_below (λ d. own_steps deal d u x steps) n ≤ hasty_steps deal u x steps
all_steps deal n u x [] = (let none = sum_below-zero n in omega arith)
all_steps deal n u x (s ∷ steps) =
    let y = next deal x s in
    let here = one_hasty n u x s in
    let rest = all_steps deal n u y steps in
    let both = sum_below-add n (λ d. own_hasty d u x s) (λ d. own_steps deal d u y steps) in
    omega arith

-- those of all clients
pub all_hasty : (deal : Dealing) (n : ℕ) (u v w : WorldState) (rounds : List (List Step)) → sum_below (λ d. own_from deal d u v w rounds) n ≤ hasty_from deal u v w rounds
all_hasty deal n u v w [] = (let none = sum_below-zero n in omega arith)
all_hasty deal n u v w (r ∷ rs) =
    let z = run_of deal r w in
    let here = all_steps deal n u w r in
    let rest = all_hasty deal n v w z rs in
    let both = sum_below-add n (λ d. own_steps deal d u w r) (λ d. own_from deal d v w z rs) in
    omega arith

-- who gives up a request that was made after the world u is hasty
is_hasty : (d : ℕ) (u x : WorldState) (t : Step) → t ≡ GiveUp d → is_asking (client_at x.clients d).phase ≡ true → stamp_of u d < stamp_of x d → 1 ≤ own_hasty d u x t
is_hasty d u x t gives asks newer =
    let same : eqb d d ≡ true = grind (arith, nat_tests) in
    let later : nat_lt (stamp_of u d) (stamp_of x d) ≡ true = grind (arith, nat_tests) in
    let one : own_hasty d u x t ≡ 1 = ap (own_hasty d u x) gives ∙ ap (λ b. cond b (hasty u x (GiveUp d)) 0) same ∙ (λ i. if asks i && later i then 1 else 0) in
    omega arith

-- ---- in a round

-- the world x comes after the world a
record Since (a x : WorldState) (d : ℕ) : Type 0 where
  lasts : Lasts (client_at a.clients d) (client_at x.clients d)
  clock : (client_at a.clients d).clock ≤ (client_at x.clients d).clock

-- if the client asked in the world u already, it has heard of the request
abbrev HeardBy : WorldState → ℕ → ℕ → WorldState → WorldState → Type 0
HeardBy w c d u a = stamp_of w d < stamp_of a d → is_asking (client_at a.clients d).phase ≡ true → stamp_of a d ≡ stamp_of u d → ClientHeard w c d a

in_round : (laws : Laws) (p : Course) (w : WorldState) (c d : ℕ) → d ≢ c → (u a : WorldState) → stamp_of u d ≤ stamp_of a d → HeardBy w c d u a → (steps : List Step) (x : WorldState)
    → Along (Trails p w c) MovedBy p.deal steps x → Since a x d → (k : ℕ) → Room w c d k x
    → (j : ℕ) × Room w c d j (run_of p.deal steps x) × (turns_up_to p.deal (stamp_of w c) d steps x + j ≤ k + 2 * own_steps p.deal d u x steps)
in_round laws p w c d other u a before heard [] x all since k room = (k, room, omega arith)
in_round laws p w c d other u a before heard (t ∷ steps) x all since k room =
    let deal = p.deal in
    let y = next deal x t in
    let here = all.0 in
    let after = along-first (Trails p w c) MovedBy deal steps y all.2 in
    let gave : t ≡ GiveUp d → is_asking (client_at x.clients d).phase ≡ true → stamp_of w d < stamp_of x d → ClientHeard w c d x ⊎ (1 ≤ own_hasty d u x t) = λ is asks newer.
    elim (cases_lt (stamp_of u d) (stamp_of x d)) [
      | inl later ↦ inr (is_hasty d u x t is asks later)
      | inr few ↦
          let rises = since.lasts.stamp in
          let same : stamp_of x d ≡ stamp_of a d = omega arith in
          let high = heard (omega arith) (since.lasts.asks same asks) (omega arith) in
          let clock = since.clock in
          inl (omega arith)
    ] in
    let one = room_step laws p w c d (own_hasty d u x t) other t x y here after all.1 gave k room in
    let moved = Moved-by t x y all.1 in
    let lasts = Lasts-moved laws x y (here.reached []).coherent (after.reached []).coherent moved d in
    let ticks = (Ticks-moved laws.client x y (here.reached []).coherent moved d).clock in
    let since_y : Since a y d = record {
      lasts = Lasts-then (client_at a.clients d) (client_at x.clients d) (client_at y.clients d) since.lasts lasts;
      clock = (let clock = since.clock in omega arith);
    } in
    let rest = in_round laws p w c d other u a before heard steps y all.2 since_y one.0 one.1 in
    (rest.0, rest.1, (let first = one.2 in let more = rest.2 in omega arith))

-- ---- round by round

-- if the client asked in the world v already, each voter of its quorum knows the request
abbrev KnownBy : WorldState → ℕ → WorldState → WorldState → Type 0
KnownBy w d v a = stamp_of w d < stamp_of a d → is_asking (client_at a.clients d).phase ≡ true → stamp_of a d ≡ stamp_of v d
    → (q : ℕ) → is_member (client_at a.clients d) q ≡ true → IsEntry (voter_at a.voters q) d (stamp_of a d)

-- the request runs on in the round
runs_round : (laws : Laws) (p : Course) (w : WorldState) (c d : ℕ) (round : List Step) (x : WorldState) → Along (Trails p w c) MovedBy p.deal round x → stamp_of (run_of p.deal round x) d ≡ stamp_of x d
    → is_asking (client_at (run_of p.deal round x).clients d).phase ≡ true → Along (RunsOn p x d) MovedBy p.deal round x
runs_round laws p w c d round x all same asks = runs_until laws p x (Trails p w c) (λ y h. h.reached) (λ y h. h.left) d round x all (Lasts-self (client_at x.clients d)) same asks

heard_next : (laws : Laws) (p : Course) (w : WorldState) (c d : ℕ) (v x : WorldState) (round : List Step) → stamp_of v d ≤ stamp_of x d → KnownBy w d v x → Along (Trails p w c) MovedBy p.deal round x
    → IsLiveRound of_steps p.live p.deal x round → HeardBy w c d v (run_of p.deal round x)
heard_next laws p w c d v x round least known all fair newer asks same =
    let deal = p.deal in
    let z = run_of deal round x in
    let here = along-first (Trails p w c) MovedBy deal round x all in
    let ok = (here.reached []).coherent in
    let lasts = Lasts-run laws p round x here.reached d in
    let rises = lasts.stamp in
    let on : stamp_of z d ≡ stamp_of x d = omega arith in
    let asks_x = lasts.asks on asks in
    let runs = runs_round laws p w c d round x all on asks in
    let busy = is_asking-busy (client_at x.clients d).phase asks_x in
    let common = ok.common d c busy here.still.runs in
    let q = common.voter in
    let asked : is_member (client_at w.clients c) q ≡ true = ap (λ l. has l q) (sym here.behind.clients.quorum) ∙ common.second in
    let entry = known (omega arith) asks_x (omega arith) q common.first in
    elim (p.live.voter q) as (λ b. p.live.voter q ≡ b → ClientHeard w c d z) [
      | true ↦ λ up.
          let both = along-and (Trails p w c) (RunsOn p x d) MovedBy deal round x all runs in
          hears laws p w c x d q x z up asks_x (omega arith) common.first asked entry
          (reminded_at (RunsBeside p w c x d) MovedBy p.live deal round x (RemindClient d) both (fair.clients d (within_by x d busy) (live_by p x d here.left busy)))
      | false ↦ λ down. along-kept (Trails p w c) MovedBy deal (ClientHeard w c d) (λ s a e before after moved h. heard_kept laws p w c d s a e before.reached moved h) round x all
          (hears_by_vote p w c d q x here (omega arith) asked (runs_down p x d round x runs asks_x fair q common.first down))
    ] refl

known_next : (laws : Laws) (p : Course) (w : WorldState) (c d : ℕ) (x : WorldState) (round : List Step) → Along (Trails p w c) MovedBy p.deal round x → IsLiveRound of_steps p.live p.deal x round → KnownBy w d x (run_of p.deal round x)
known_next laws p w c d x round all fair newer asks same q member =
    let deal = p.deal in
    let z = run_of deal round x in
    let here = along-first (Trails p w c) MovedBy deal round x all in
    let lasts = Lasts-run laws p round x here.reached d in
    let asks_x = lasts.asks same asks in
    let runs = runs_round laws p w c d round x all same asks in
    let end = along-last (RunsOn p x d) MovedBy deal round x runs in
    let before : is_member (client_at x.clients d) q ≡ true = ap (λ l. has l q) (sym (end.same.quorum asks_x)) ∙ member in
    subst (λ n. IsEntry (voter_at z.voters q) d n) (sym same)
    (known_after laws p x round d q runs fair asks_x before)

all_rounds : (laws : Laws) (p : Course) (w : WorldState) (c d : ℕ) → d ≢ c → (rounds : List (List Step)) (u v x : WorldState) → stamp_of u d ≤ stamp_of v d → stamp_of v d ≤ stamp_of x d
    → HeardBy w c d u x → KnownBy w d v x → Along (Trails p w c) MovedBy p.deal (steps_of rounds) x → AreLiveRounds of_steps p.live p.deal x rounds → (k : ℕ) → Room w c d k x
    → turns_up_to p.deal (stamp_of w c) d (steps_of rounds) x ≤ k + 2 * own_from p.deal d u v x rounds
all_rounds laws p w c d other [] u v x first second heard known all fair k room = omega arith
all_rounds laws p w c d other (r ∷ rs) u v x first second heard known all fair k room =
    let deal = p.deal in
    let z = run_of deal r x in
    let parts = along-split (Trails p w c) MovedBy deal r (steps_of rs) x all in
    let here = along-first (Trails p w c) MovedBy deal r x parts.0 in
    let rises = (Lasts-run laws p r x here.reached d).stamp in
    let one = in_round laws p w c d other u x (omega arith) heard r x parts.0 (record { lasts = Lasts-self (client_at x.clients d); clock = omega arith }) k room in
    let rest = all_rounds laws p w c d other rs v x z second rises (heard_next laws p w c d v x r second known parts.0 fair.0) (known_next laws p w c d x r parts.0 fair.0) parts.1 fair.1 one.0 one.1 in
    let both = turns_up_to-append deal (stamp_of w c) d r (steps_of rs) x in
    let few = one.2 in
    omega arith

-- A client turns at most three times ahead of a request that is known everywhere, and twice more for each hasty
-- withdrawal.
pub three_turns : (laws : Laws) (p : Course) (w : WorldState) (c d : ℕ) → d ≢ c → (rounds : List (List Step)) (u v : WorldState) → stamp_of u d ≤ stamp_of v d → stamp_of v d ≤ stamp_of w d
    → Along (Trails p w c) MovedBy p.deal (steps_of rounds) w → AreLiveRounds of_steps p.live p.deal w rounds → turns_up_to p.deal (stamp_of w c) d (steps_of rounds) w ≤ 3 + 2 * own_from p.deal d u v w rounds
three_turns laws p w c d other rounds u v first second all fair =
    all_rounds laws p w c d other rounds u v w first second (λ newer. absurd (omega arith)) (λ newer. absurd (omega arith)) all fair 3 (inl (refl, refl))
