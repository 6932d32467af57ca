-- ways in: rounds that are made, up to the first entry
use Rattle.std.proofs.Common.{◌≡◌, ◌≢◌, ℕ, ◌+◌, ◌*◌, ◌<◌, ◌≤◌, Bool, true, false, List, [], ◌∷◌, ◌++◌, length, None, Some, Ok, refl, sym, ap, subst, ◌∙◌, ◌⊎◌, inl, inr, arith}
use Rattle.std.specs.Prelude.{if◌then◌else◌, nat_lt}
use Rattle.std.specs.List.{AllByRecursion}
use Rattle.std.proofs.lemmas.Bool.{cases_eq, cases_lt, false≢true}
use Rattle.std.proofs.lemmas.List.{append-nil}
use Rattle.numbers.proofs.SumsBelow.{sum_below-add, sum_below-le, sum_below-one, sum_below-zero}
use Rattle.requester.specs.declared.fault.ClientFault.TheVariants.{NotInside}
use Rattle.requester.specs.declared.state.ClientState.{ClientState}
use Rattle.requester.specs.declared.state.Seen.{Seen}
use Rattle.requester.specs.declared.state.Seen.TheVariants.{Entered, Left, Nothing}
use Rattle.requester.specs.RequesterContract.{KeepsQuorum, Sees}
use Rattle.requester.specs.Steps as requester
use Rattle.requester.specs.Words.{is_idle, is_inside}
use Rattle.requester.proofs.ContractLemmas.{is_idle-outside}
use Rattle.requester.proofs.RangeLemmas.{is_inside-busy}
use Rattle.requester.proofs.SoundSteps.{is_asking-outside}
use Rattle.world_state.specs.declared.step.Event.{Event}
use Rattle.world_state.specs.declared.step.Step.{Step}
use Rattle.world_state.specs.declared.step.Step.TheVariants.{Ask, Deliver, Exchange, GiveUp, Leave, RemindClient, RemindVoter}
use Rattle.world_state.specs.Steps.{Dealing, WorldState, after_client, client_at, events, if_client, step}
use Rattle.world.specs.Coherence.{IsCoherent}
use Rattle.world.specs.Runs.{after, run_of}
use Rattle.world.specs.Visible.{entries_of}
use Rattle.world.specs.Waiting.{block}
use Rattle.world.specs.WayIn.{Asks, AsksAlone, GetsIn, HasGrants, Helps, IsFree, IsWayIn, Serves}
use Rattle.progress.specs.Rounds.{grants_for, steps_of}
use Rattle.progress.specs.Rules.{Laws}
use Rattle.progress.proofs.run.Along.{next}
use Rattle.progress.proofs.overtaking.Behind.{meets}
use Rattle.progress.proofs.block.Blocks.{full_is_block}
use Rattle.progress.proofs.rounds.Fair.{everybody_serves, fair_are_live}
use Rattle.progress.proofs.rounds.Making.{are_timely, asked_before, made_rounds, rounds_serve}
use Rattle.progress.proofs.run.Moves.{Makes, MovedBy, MovedBy-step}
use Rattle.progress.proofs.losses.Olds.{AreOld, olds_of}
use Rattle.progress.proofs.rounds.Spending.{askers, askers_most, one_from, rounds_leave}
use Rattle.progress.proofs.invariants.Sure.{Course, IsSure, IsSure-after}
use Rattle.progress.proofs.block.Tame.{turns_up_to}
use Rattle.progress.proofs.patience.Turns.{all_give_ups, asks_at, idle_not_asking, one_if, own_give_ups, shown, sum_has, turn, turns}
use Rattle.progress.proofs.patience.Waiting.{all_up_to, asks_on, blocks_turn, one_most, up_to_most}

-- ---- by steps that serve each client turns at most once

one_turn : (a b : Bool) → (b ≡ true → a ≡ true) → turn a b + one_if b ≤ one_if a
one_turn true true was = omega arith
one_turn true false was = omega arith
one_turn false true was = absurd (false≢true (was refl))
one_turn false false was = omega arith

-- nobody begins to ask, so a client turns when it enters
turns_once : (laws : Laws) (p : Course) (d low : ℕ) (steps : List Step) (x : WorldState) → IsSure p x → AllByRecursion (Serves low) steps
    → turns p.deal d steps x + one_if (asks_at (run_of p.deal steps x) d) ≤ one_if (asks_at x d)
turns_once laws p d low [] x r serve = omega arith
turns_once laws p d low (s ∷ steps) x r serve =
    let y = next p.deal x s in
    let ok = (r []).coherent in
    let here = one_turn (asks_at x d) (asks_at y d) (asked_before laws low s x y ok (r (s ∷ [])).coherent (MovedBy-step p.deal x ok.numbered s) serve.0 d) in
    let rest = turns_once laws p d low steps y (IsSure-after p x r s) serve.1 in
    omega arith

-- ---- the first entry

-- steps that help, by which a client enters that was not idle, and nothing else is seen
record FirstEntry (deal : Dealing) (low : ℕ) (x : WorldState) : Type 0 where
  steps : List Step
  helps : AllByRecursion (Helps low) steps
  who : ℕ
  busy : is_idle (client_at x.clients who).phase ≡ false
  enters : (run_of deal steps x).visible ≡ x.visible ++ events who Entered

-- nothing is seen, nobody is inside, and the same clients are idle
record Quiet (x y : WorldState) : Type 0 where
  visible : y.visible ≡ x.visible
  free : IsFree y
  idle : (d : ℕ) → is_idle (client_at y.clients d).phase ≡ is_idle (client_at x.clients d).phase

-- one client enters that was not idle
record EntersNow (x y : WorldState) : Type 0 where
  who : ℕ
  busy : is_idle (client_at x.clients who).phase ≡ false
  visible : y.visible ≡ x.visible ++ events who Entered

Quiet-same : (x y : WorldState) → y.clients ≡ x.clients → y.visible ≡ x.visible → IsFree x → Quiet x y
Quiet-same x y clients visible free = record {
  visible = visible;
  free = λ d. ap (λ (cs : List ClientState). is_inside (client_at cs d).phase) clients ∙ free d;
  idle = λ d. ap (λ (cs : List ClientState). is_idle (client_at cs d).phase) clients;
}

idle_by : (low : ℕ) (s : Step) (who : ℕ) (x : ClientState) (cause : requester.Cause) (o : requester.Outcome) → Makes s who cause → Helps low s → requester.step x cause ≡ Ok o
    → KeepsQuorum x cause o.state → is_idle o.state.phase ≡ is_idle x.phase
idle_by low s who x (requester.Asks q) o makes helps step keeps = absurd (subst (Helps low) makes helps)
idle_by low s who x (requester.Takes m) o makes helps step keeps = keeps.1
idle_by low s who x requester.Leaves o makes helps step keeps = absurd (subst (Helps low) makes helps)
idle_by low s who x requester.GivesUp o makes helps step keeps = absurd (subst (Helps low) makes helps)

seen_by : (x y : WorldState) (who : ℕ) (seen : Seen) → Sees (client_at x.clients who).phase seen (client_at y.clients who).phase → y.visible ≡ x.visible ++ events who seen
    → ((q : ℕ) → q ≢ who → client_at y.clients q ≡ client_at x.clients q) → is_idle (client_at y.clients who).phase ≡ is_idle (client_at x.clients who).phase → IsFree x → Quiet x y ⊎ EntersNow x y
seen_by x y who Nothing sees visible others idle free = inl (record {
  visible = visible ∙ append-nil x.visible;
  free = λ d. elim (cases_eq d who) [
    | inl same ↦ subst (λ i. is_inside (client_at y.clients i).phase ≡ false) (sym same) (sym sees ∙ free who)
    | inr other ↦ ap (λ (z : ClientState). is_inside z.phase) (others d other) ∙ free d
  ];
  idle = λ d. elim (cases_eq d who) [
    | inl same ↦ subst (λ i. is_idle (client_at y.clients i).phase ≡ is_idle (client_at x.clients i).phase) (sym same) idle
    | inr other ↦ ap (λ (z : ClientState). is_idle z.phase) (others d other)
  ];
})
seen_by x y who Entered sees visible others idle free =
    inr (record { who = who; busy = sym idle ∙ is_inside-busy (client_at y.clients who).phase sees.1; visible = visible })
seen_by x y who Left sees visible others idle free = absurd (false≢true (sym (free who) ∙ sees.0))

quiet_or : (laws : Laws) (low : ℕ) (s : Step) (x y : WorldState) → IsCoherent x → IsCoherent y → MovedBy s x y → Helps low s → IsFree x → Quiet x y ⊎ EntersNow x y
quiet_or laws low s x y ok now moved helps free = elim moved [
  | inl client ↦
      let k = client.0 in
      let contract = meets laws.client x y ok now k in
      let before = client_at x.clients k.who in
      seen_by x y k.who k.outcome.seen (subst (λ (z : ClientState). Sees before.phase k.outcome.seen z.phase) (sym k.here) contract.seen) k.visible k.others
      (ap (λ (z : ClientState). is_idle z.phase) k.here ∙ idle_by low s k.who before k.cause k.outcome client.1 helps k.step contract.quorum) free
  | inr (inl voter) ↦ inl (Quiet-same x y voter.0.clients voter.0.visible free)
  | inr (inr sent) ↦ inl (Quiet-same x y sent.clients sent.visible free)
]

-- a step that serves helps, or a client leaves
helps_or : (low : ℕ) (s : Step) → Serves low s → Helps low s ⊎ ((c : ℕ) × (s ≡ Leave c))
helps_or low (Ask c) serves = absurd serves
helps_or low (Deliver k) serves = inl serves
helps_or low (Leave c) serves = inr (c, refl)
helps_or low (GiveUp c) serves = absurd serves
helps_or low (RemindClient c) serves = inl serves
helps_or low (RemindVoter v) serves = inl serves
helps_or low Exchange serves = absurd serves

-- who is not inside can't leave
refused : (deal : Dealing) (x : WorldState) (c : ℕ) → is_inside (client_at x.clients c).phase ≡ false → next deal x (Leave c) ≡ x
unfolding step requester.step requester.leave
refused deal x c outside = by (nat_lt c (length x.clients))
  where
    by : (b : Bool)
        → after x (if_client b c (after_client x c (requester.unless (if is_inside (client_at x.clients c).phase then None else Some NotInside) (requester.end_request (client_at x.clients c) Left)))) ≡ x
    by false = refl
    by true = ap (λ b. after x (after_client x c (requester.unless (if b then None else Some NotInside) (requester.end_request (client_at x.clients c) Left)))) outside

-- Steps that serve are cut before the first entry, or nothing is seen of them. Who leaves while nobody is
-- inside is left out.
first_entry : (laws : Laws) (p : Course) (low : ℕ) (steps : List Step) (x : WorldState) → IsSure p x → IsFree x → AllByRecursion (Serves low) steps
    → FirstEntry p.deal low x ⊎ ((run_of p.deal steps x).visible ≡ x.visible)
first_entry laws p low [] x r free serve = inr refl
first_entry laws p low (s ∷ steps) x r free serve =
    let y = next p.deal x s in
    let ok = (r []).coherent in
    elim (helps_or low s serve.0) [
      | inr leaves ↦
          let same : y ≡ x = ap (next p.deal x) leaves.1 ∙ refused p.deal x leaves.0 (free leaves.0) in
          subst (λ (z : WorldState). FirstEntry p.deal low x ⊎ ((run_of p.deal steps z).visible ≡ x.visible)) (sym same) (first_entry laws p low steps x r free serve.1)
      | inl helps ↦ elim (quiet_or laws low s x y ok (r (s ∷ [])).coherent (MovedBy-step p.deal x ok.numbered s) helps free) [
        | inr now ↦ inl (record { steps = s ∷ []; helps = (helps, tt); who = now.who; busy = now.busy; enters = now.visible })
        | inl quiet ↦ elim (first_entry laws p low steps y (IsSure-after p x r s) quiet.free serve.1) [
          | inl e ↦ inl (record {
            steps = s ∷ e.steps;
            helps = (helps, e.helps);
            who = e.who;
            busy = sym (quiet.idle e.who) ∙ e.busy;
            enters = e.enters ∙ ap (λ es. es ++ events e.who Entered) quiet.visible;
          })
          | inr none ↦ inr (none ∙ quiet.visible)
        ]
      ]
    ]

-- ---- rounds that are made

-- what is so of k blocks of rounds that are made
record Made (p : Course) (w : WorldState) (k : ℕ) (steps : List Step) : Type 0 where
  serve : AllByRecursion (Serves (length w.sent)) steps
  stays : (d : ℕ) → d < length w.clients → own_give_ups d steps ≡ 0
  -- if the client c asks, and does not enter, there are as many turns as blocks
  turns : (c : ℕ) (more : List Event) → Asks w c → (run_of p.deal steps w).visible ≡ w.visible ++ more → entries_of c more ≡ 0
      → k ≤ all_up_to p.deal (client_at w.clients c).stamp (length w.clients) steps w + olds_of p (length w.voters) w

made : (laws : Laws) (p : Course) (w : WorldState) (a k : ℕ) → ((c : ℕ) → p.live.client c ≡ true) → ((v : ℕ) → p.live.voter v ≡ true) → AreOld p w → IsSure p w → askers w ≤ a → HasGrants (grants_for a (length w.clients) k) w
    → Made p w k (steps_of (made_rounds p.deal w (k * block (length w.clients))))
made laws p w a k every up few r ask has =
    let n = length w.clients in
    let m = length w.voters in
    let rounds = made_rounds p.deal w (k * block n) in
    let timely = are_timely p.deal w (k * block n) in
    let none = timely.kept_up in
    let all = all_give_ups n (steps_of rounds) in
    let stays : (d : ℕ) → d < n → own_give_ups d (steps_of rounds) ≡ 0 = λ d within. (let one = sum_has n d (λ i. own_give_ups i (steps_of rounds)) within in omega arith) in
    record {
      serve = rounds_serve p.deal w (k * block n);
      stays = stays;
      turns = λ c more asks visible entered.
          let count = timely.count in
          let late = timely.in_time in
          let on = asks_on laws p c (steps_of rounds) w more r visible entered (stays c asks.client) asks.asks in
          let some = blocks_turn laws p c n m (client_at w.clients c).stamp (block n) k (full_is_block laws p n up) rounds w 0 (record { clients = refl; voters = refl; few = few; sure = r; asks = asks.asks; stamp = refl }) (omega arith)
          (fair_are_live p.live p.deal w rounds every up timely.fair) (everybody_serves p w (run_of p.deal (steps_of rounds) w) every (rounds_leave laws p w a (k * block n) 1 r ask has)) on.1 in
          omega arith;
    }

-- ---- ways in

-- who does not enter turns not
no_turns : (laws : Laws) (p : Course) (w : WorldState) (k d : ℕ) (steps : List Step) → IsSure p w → Made p w k steps → (run_of p.deal steps w).visible ≡ w.visible → d < length w.clients
    → turns p.deal d steps w ≡ 0
no_turns laws p w k d steps r m same within = by (asks_at w d) refl
  where
    by : (b : Bool) → asks_at w d ≡ b → turns p.deal d steps w ≡ 0
    by true asks = (asks_on laws p d steps w [] r (same ∙ sym (append-nil w.visible)) refl (m.stays d within) asks).1
    by false asks = (let once = turns_once laws p d (length w.sent) steps w r m.serve in let not : one_if (asks_at w d) ≡ 0 = ap one_if asks in omega arith)

-- 1 + the old grants are blocks enough
somebody_first : (laws : Laws) (p : Course) (w : WorldState) (a c k : ℕ) → ((c : ℕ) → p.live.client c ≡ true) → ((v : ℕ) → p.live.voter v ≡ true) → AreOld p w → IsSure p w → Asks w c → IsFree w → olds_of p (length w.voters) w < k → askers w ≤ a
    → HasGrants (grants_for a (length w.clients) k) w
    → FirstEntry p.deal (length w.sent) w
unfolding all_up_to
somebody_first laws p w a c k every up few r asks free enough ask has =
    let n = length w.clients in
    let steps = steps_of (made_rounds p.deal w (k * block n)) in
    let m = made laws p w a k every up few r ask has in
    elim (first_entry laws p (length w.sent) steps w r free m.serve) [
      | inl e ↦ e
      | inr same ↦
          let some = m.turns c [] asks (same ∙ sym (append-nil w.visible)) refl in
          let s = (client_at w.clients c).stamp in
          let most = sum_below-le n (λ d. turns_up_to p.deal s d steps w) (λ d. 0) (λ d within. (let none = no_turns laws p w k d steps r m same within in let few = up_to_most laws p s d steps w r in omega arith)) in
          let zeros = sum_below-zero n in
          absurd (omega arith)
    ]

pub somebody_gets_in : (laws : Laws) (p : Course) (w : WorldState) (c k : ℕ) → ((c : ℕ) → p.live.client c ≡ true) → ((v : ℕ) → p.live.voter v ≡ true) → AreOld p w → IsSure p w → Asks w c → IsFree w → olds_of p (length w.voters) w < k
    → HasGrants (grants_for (length w.clients) (length w.clients) k) w → (steps : List Step) × (d : ℕ) × IsWayIn p.deal w d steps
somebody_gets_in laws p w c k every up few r asks free enough has =
    let e = somebody_first laws p w (length w.clients) c k every up few r asks free enough (askers_most (asks_at w) 0 (length w.clients)) has in
    (e.steps, e.who, record { helps = e.helps; enters = e.enters })

pub alone_gets_in : (laws : Laws) (p : Course) (w : WorldState) (c k : ℕ) → ((c : ℕ) → p.live.client c ≡ true) → ((v : ℕ) → p.live.voter v ≡ true) → AreOld p w → IsSure p w → AsksAlone w c → olds_of p (length w.voters) w < k
    → HasGrants (grants_for 1 (length w.clients) k) w → (steps : List Step) × IsWayIn p.deal w c steps
alone_gets_in laws p w c k every up few r alone enough has =
    let free : IsFree w = λ d. elim (cases_eq d c) [
      | inl same ↦ ap (λ i. is_inside (client_at w.clients i).phase) same ∙ is_asking-outside (client_at w.clients c).phase alone.asks
      | inr other ↦ is_idle-outside (client_at w.clients d).phase (alone.others d other)
    ] in
    let one : askers w ≤ 1 = (one_from (asks_at w) c 0 (length w.clients) (λ d other. idle_not_asking (client_at w.clients d).phase (alone.others d other))).0 in
    let e = somebody_first laws p w 1 c k every up few r (record { client = alone.client; asks = alone.asks }) free enough one has in
    elim (cases_eq e.who c) [
      | inl same ↦ (e.steps, record { helps = e.helps; enters = e.enters ∙ ap (λ i. w.visible ++ events i Entered) same })
      | inr other ↦ absurd (false≢true (sym e.busy ∙ alone.others e.who other))
    ]

-- as many blocks as clients and old grants are enough
pub everybody_gets_in : (laws : Laws) (p : Course) (w : WorldState) (c k : ℕ) → ((c : ℕ) → p.live.client c ≡ true) → ((v : ℕ) → p.live.voter v ≡ true) → AreOld p w → IsSure p w → Asks w c → length w.clients + olds_of p (length w.voters) w ≤ k
    → HasGrants (grants_for (length w.clients) (length w.clients) k) w → (steps : List Step) × GetsIn p.deal w c steps
unfolding all_up_to
everybody_gets_in laws p w c k every up few r asks enough has =
    let n = length w.clients in
    let steps = steps_of (made_rounds p.deal w (k * block n)) in
    let m = made laws p w n k every up few r (askers_most (asks_at w) 0 n) has in
    let z = run_of p.deal steps w in
    let seen = shown laws p steps w r in
    let enters : 1 ≤ entries_of c seen.0 = elim (cases_lt 0 (entries_of c seen.0)) [
      | inl some ↦ omega arith
      | inr none ↦
          let no_entry : entries_of c seen.0 ≡ 0 = omega arith in
          let some = m.turns c seen.0 asks seen.1 no_entry in
          let s = (client_at w.clients c).stamp in
          let each = sum_below-le n (λ d. turns_up_to p.deal s d steps w + one_if (asks_at z d)) (λ d. 1) (λ d within.
          (let few = up_to_most laws p s d steps w r in let once = turns_once laws p d (length w.sent) steps w r m.serve in let one = one_most (asks_at w d) in omega arith)) in
          let both = sum_below-add n (λ d. turns_up_to p.deal s d steps w) (λ d. one_if (asks_at z d)) in
          let ones = sum_below-one n in
          let last = sum_has n c (λ d. one_if (asks_at z d)) asks.client in
          let on : one_if (asks_at z c) ≡ 1 = ap one_if (asks_on laws p c steps w seen.0 r seen.1 no_entry (m.stays c asks.client) asks.asks).0 in
          absurd (omega arith)
    ] in
    (steps, record { serves = m.serve; more = seen.0; visible = seen.1; enters = enters })
