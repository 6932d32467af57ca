-- stretches in which no request with a stamp up to a bound begins or ends; requests with higher stamps come and go
use Rattle.std.proofs.Common.{◌≡◌, ℕ, ◌+◌, ◌<◌, ◌≤◌, Bool, true, false, List, [], ◌∷◌, ◌++◌, map, Ok, refl, sym, ap, subst, ◌∙◌, ◌⊎◌, inl, inr, arith, append_assoc}
use Rattle.std.specs.Prelude.{◌&&◌, nat_le}
use Rattle.std.specs.List.{AllByRecursion, Contains}
use Rattle.std.proofs.lemmas.Bool.{cases_lt, false≢true}
use Rattle.std.proofs.lemmas.Bool.Decides.{nat_tests}
use Rattle.std.proofs.lemmas.List.{append-nil}
use Rattle.numbers.proofs.Lists.{AllByRecursion-append}
use Rattle.message.specs.declared.message.Message.{Message}
use Rattle.message.specs.declared.message.Message.TheVariants as kinds
use Rattle.message.specs.declared.message.ToVoter.{ToVoter}
use Rattle.message.specs.declared.message.VoterBody.{VoterBody}
use Rattle.message.specs.declared.message.VoterBody.TheVariants as asks
use Rattle.requester.specs.declared.state.ClientState.{ClientState}
use Rattle.requester.specs.RequesterContract.{AllRepeat, Repeats}
use Rattle.requester.specs.Soundness.{IsSound}
use Rattle.requester.specs.Steps as requester
use Rattle.requester.specs.Words.{is_asking, is_idle, is_inside, members}
use Rattle.requester.proofs.SoundSteps.{give_up-Ok, leave-Ok}
use Rattle.world.specs.Coherence.{IsCoherent}
use Rattle.world_state.specs.declared.step.Step.{Step}
use Rattle.world_state.specs.declared.step.Step.TheVariants.{Leave}
use Rattle.world.specs.Runs.{run_of}
use Rattle.world_state.specs.Steps.{Dealing, WorldState, client_at}
use Rattle.progress.specs.Rules.{Laws}
use Rattle.progress.proofs.run.Along.{Along, along-first, along-kept, next, spot_end, spot_in, spot_through}
use Rattle.progress.proofs.overtaking.Behind.{ask-Ok}
use Rattle.progress.proofs.invariants.Fitting.{take-Ok}
use Rattle.world.proofs.Exclusion.{inside_busy}
use Rattle.progress.proofs.block.Known.{idle_by, left_idle, within_by}
use Rattle.progress.proofs.rounds.Longer.{Grows, Grows-moved}
use Rattle.progress.proofs.run.Moves.{ClientMoved, IsReminder, Moved, Moved-by, MovedBy, MovedBy-step, all_sent}
use Rattle.progress.proofs.invariants.Outstanding.{step-GivesUp, step-Leaves}
use Rattle.progress.proofs.invariants.Placed.{NoRequest, NoRequests, no-take}
use Rattle.progress.proofs.losses.Lasting.{Lasts-moved, SameAsk, left_before, no_asks_to, reminds_asking, serving_both}
use Rattle.progress.proofs.invariants.Sure.{Course, IsSure, IsSure-after, LiveServe, Serving}
use Rattle.progress.proofs.patience.Turns.{idle_not_asking, no_turn, stamp_stays, turn}

-- ---- requests up to a stamp

-- the client asks under a stamp up to s
abbrev pub asks_up_to : ℕ → WorldState → ℕ → Bool
asks_up_to s x d = is_asking (client_at x.clients d).phase && nat_le (client_at x.clients d).stamp s

-- how often the client begins or stops to do so in these steps
abbrev pub turns_up_to : Dealing → ℕ → ℕ → List Step → WorldState → ℕ
turns_up_to deal s d [] x = 0
turns_up_to deal s d (t ∷ steps) x = turn (asks_up_to s x d) (asks_up_to s (next deal x t) d) + turns_up_to deal s d steps (next deal x t)

pub turns_up_to-append : (deal : Dealing) (s d : ℕ) (a b : List Step) (x : WorldState) → turns_up_to deal s d (a ++ b) x ≡ turns_up_to deal s d a x + turns_up_to deal s d b (run_of deal a x)
turns_up_to-append deal s d [] b x = omega arith
turns_up_to-append deal s d (t ∷ a) b x = (let rest = turns_up_to-append deal s d a b (next deal x t) in omega arith)

pub up_to_asks : (s : ℕ) (x : WorldState) (d : ℕ) → asks_up_to s x d ≡ true → is_asking (client_at x.clients d).phase ≡ true
up_to_asks s x d is = grind (arith, nat_tests)

pub up_to_stamp : (s : ℕ) (x : WorldState) (d : ℕ) → asks_up_to s x d ≡ true → (client_at x.clients d).stamp ≤ s
up_to_stamp s x d is = grind (arith, nat_tests)

pub up_to_is : (s : ℕ) (x : WorldState) (d : ℕ) → is_asking (client_at x.clients d).phase ≡ true → (client_at x.clients d).stamp ≤ s → asks_up_to s x d ≡ true
up_to_is s x d asks most = (let e : nat_le (client_at x.clients d).stamp s ≡ true = grind (arith, nat_tests) in ap (λ b. b && nat_le (client_at x.clients d).stamp s) asks ∙ e)

-- who asks, and not under such a stamp, has a higher one
pub above_bound : (s : ℕ) (x : WorldState) (d : ℕ) → asks_up_to s x d ≡ false → is_asking (client_at x.clients d).phase ≡ true → s < (client_at x.clients d).stamp
above_bound s x d not asks = elim (cases_lt s (client_at x.clients d).stamp) [
  | inl less ↦ less
  | inr most ↦ absurd (false≢true (sym not ∙ up_to_is s x d asks most))
]

-- ---- REQUESTs that are sent

-- a REQUEST has a higher stamp, or is of a request that runs in the world w
abbrev pub FitBody : WorldState → ℕ → ℕ → VoterBody → Type 0
FitBody w s c (asks.Request t) = (s < t) ⊎ ((asks_up_to s w c ≡ true) × (t ≡ (client_at w.clients c).stamp))
FitBody w s c (asks.Relinquish n) = Unit {0}
FitBody w s c (asks.Release t) = Unit {0}

abbrev pub IsFitAt : WorldState → ℕ → Message → Type 0
IsFitAt w s (kinds.ToVoter m) = FitBody w s m.client m.body
IsFitAt w s (kinds.ToClient m) = Unit {0}

-- each message that was sent since the world w is such
pub record SentSince (w : WorldState) (s : ℕ) (x : WorldState) : Type 0 where
  pub more : List Message
  pub sent : x.sent ≡ w.sent ++ more
  pub fit : AllByRecursion (IsFitAt w s) more

-- The clients that asked under a stamp up to s do so, as before, and no others. Each voter has a grant left.
pub record Tame (p : Course) (w : WorldState) (s : ℕ) (x : WorldState) : Type 0 where
  pub reached : IsSure p x
  pub left : LiveServe p x
  pub grows : Grows w x
  pub ahead : (d : ℕ) → asks_up_to s x d ≡ asks_up_to s w d
  pub same : (d : ℕ) → asks_up_to s w d ≡ true → SameAsk (client_at w.clients d) (client_at x.clients d)
  pub sends : SentSince w s x

fit_none : (w : WorldState) (s c : ℕ) (b : VoterBody) → NoRequest b → FitBody w s c b
fit_none w s c (asks.Request t) none = absurd none
fit_none w s c (asks.Relinquish n) none = tt
fit_none w s c (asks.Release t) none = tt

fits_none : (w : WorldState) (s : ℕ) (out : List ToVoter) → NoRequests out → AllByRecursion (IsFitAt w s) (map kinds.ToVoter out)
fits_none w s [] none = tt
fits_none w s (m ∷ out) none = (fit_none w s m.client m.body none.0, fits_none w s out none.1)

fits_to : (w : WorldState) (s : ℕ) (x : ClientState) (t : ℕ) (vs : List ℕ) → FitBody w s x.id (asks.Request t) → AllByRecursion (IsFitAt w s) (map kinds.ToVoter (map (λ v. requester.tell x v (asks.Request t)) vs))
fits_to w s x t [] fit = tt
fits_to w s x t (v ∷ vs) fit = (fit, fits_to w s x t vs fit)

-- a request that runs is such
fit_of : (w : WorldState) (s : ℕ) (x : WorldState) (d t : ℕ) → ((e : ℕ) → asks_up_to s x e ≡ asks_up_to s w e) → ((e : ℕ) → asks_up_to s w e ≡ true → SameAsk (client_at w.clients e) (client_at x.clients e))
    → is_asking (client_at x.clients d).phase ≡ true → t ≡ (client_at x.clients d).stamp → FitBody w s d (asks.Request t)
fit_of w s x d t ahead same asks stamp = elim (cases_lt s (client_at x.clients d).stamp) [
  | inl more ↦ inl (omega arith)
  | inr most ↦ (let is = sym (ahead d) ∙ up_to_is s x d asks most in inr (is, stamp ∙ (same d is).stamp))
]

client_sends : (w : WorldState) (s : ℕ) (x y : WorldState) (k : ClientMoved x y) (id : ℕ) → IsSound (client_at x.clients k.who) → (client_at x.clients k.who).id ≡ k.who → ((e : ℕ) → asks_up_to s y e ≡ asks_up_to s w e)
    → ((e : ℕ) → asks_up_to s w e ≡ true → SameAsk (client_at w.clients e) (client_at y.clients e)) → (cause : requester.Cause) → requester.step (client_at x.clients k.who) cause ≡ Ok k.outcome
    → AllByRecursion (IsFitAt w s) (map kinds.ToVoter k.outcome.out)
client_sends w s x y k id sound own ahead same (requester.Asks q) step =
    let old = client_at x.clients k.who in
    let is = ask-Ok old q k.outcome step in
    let now = k.here ∙ ap (λ (o : requester.Outcome). o.state) (sym is) in
    let fit : FitBody w s k.who (asks.Request (old.clock + 1)) = fit_of w s y k.who (old.clock + 1) ahead same (ap (λ (z : ClientState). is_asking z.phase) now) (ap (λ (z : ClientState). z.stamp) (sym now)) in
    subst (λ (o : requester.Outcome). AllByRecursion (IsFitAt w s) (map kinds.ToVoter o.out)) is
    (fits_to w s (requester.begin_request old q) (old.clock + 1) q (subst (λ c. FitBody w s c (asks.Request (old.clock + 1))) (sym own) fit))
client_sends w s x y k id sound own ahead same (requester.Takes m) step =
    fits_none w s k.outcome.out (subst (λ (r : requester.Outcome). NoRequests r.out) (take-Ok (client_at x.clients k.who) m k.outcome step) (no-take (client_at x.clients k.who) m sound))
client_sends w s x y k id sound own ahead same requester.Leaves step =
    let old = client_at x.clients k.who in
    fits_none w s k.outcome.out (subst (λ (r : requester.Outcome). NoRequests r.out) (leave-Ok old k.outcome (step-Leaves old k.outcome step)).1 (no_asks_to old (asks.Release old.stamp) (members old) tt))
client_sends w s x y k id sound own ahead same requester.GivesUp step =
    let old = client_at x.clients k.who in
    fits_none w s k.outcome.out (subst (λ (r : requester.Outcome). NoRequests r.out) (give_up-Ok old k.outcome (step-GivesUp old k.outcome step)).1 (no_asks_to old (asks.Release old.stamp) (members old) tt))

fit_repeat : (w : WorldState) (s who v : ℕ) (x : ClientState) (b : VoterBody) → ((t : ℕ) → t ≡ x.stamp → FitBody w s who (asks.Request t)) → Repeats x v b → FitBody w s who b
fit_repeat w s who v x (asks.Request t) fit says = fit t says
fit_repeat w s who v x (asks.Relinquish n) fit says = tt
fit_repeat w s who v x (asks.Release t) fit says = tt

fits_repeat : (w : WorldState) (s who : ℕ) (x : ClientState) (out : List ToVoter) → x.id ≡ who → (is_asking x.phase ≡ true → (t : ℕ) → t ≡ x.stamp → FitBody w s who (asks.Request t)) → AllRepeat x out
    → AllByRecursion (λ (m : ToVoter). is_asking x.phase ≡ true) out → AllByRecursion (IsFitAt w s) (map kinds.ToVoter out)
fits_repeat w s who x [] id fit says asks = tt
fits_repeat w s who x (m ∷ out) id fit says asks = (
  subst (λ c. FitBody w s c m.body) (sym (says.0.0 ∙ id)) (fit_repeat w s who m.voter x m.body (fit asks.0) says.0.1),
  fits_repeat w s who x out id fit says.1 asks.1,
)

reminder_sends : (laws : Laws) (w : WorldState) (s : ℕ) (x : WorldState) → IsCoherent x → ((e : ℕ) → asks_up_to s x e ≡ asks_up_to s w e)
    → ((e : ℕ) → asks_up_to s w e ≡ true → SameAsk (client_at w.clients e) (client_at x.clients e)) → (more : List Message) → IsReminder x more → AllByRecursion (IsFitAt w s) more
reminder_sends laws w s x ok ahead same more said = elim said [
  | inl out ↦ subst (λ ms. AllByRecursion (IsFitAt w s) ms) (sym out.1) (elim out.2 [
    | inl none ↦ subst (λ l. AllByRecursion (IsFitAt w s) (map kinds.ToVoter l)) (sym none) tt
    | inr own ↦
        let z = client_at x.clients own.0 in
        subst (λ l. AllByRecursion (IsFitAt w s) (map kinds.ToVoter l)) (sym own.2)
        (fits_repeat w s own.0 z (requester.remind z) (ok.numbered.clients own.0 own.1) (λ asks t stamp. fit_of w s x own.0 t ahead same asks stamp) (laws.client.repeats z) (reminds_asking z))
  ])
  | inr v ↦ subst (λ ms. AllByRecursion (IsFitAt w s) ms) (sym v.2) (all_sent (IsFitAt w s) kinds.ToClient (λ m. tt) _)
]

step_sends : (laws : Laws) (p : Course) (w : WorldState) (s : ℕ) (x y : WorldState) → Tame p w s x → ((e : ℕ) → asks_up_to s y e ≡ asks_up_to s w e)
    → ((e : ℕ) → asks_up_to s w e ≡ true → SameAsk (client_at w.clients e) (client_at y.clients e)) → Moved x y → SentSince w s y
step_sends laws p w s x y before ahead same moved =
    let ok = (before.reached []).coherent in
    let h = before.sends in
    let out : (more : List Message) × (y.sent ≡ x.sent ++ more) × AllByRecursion (IsFitAt w s) more = elim moved [
      | inl k ↦ (map kinds.ToVoter k.outcome.out, k.sent, client_sends w s x y k k.who (ok.clients k.who) (ok.numbered.clients k.who k.within) ahead same k.cause k.step)
      | inr (inl k) ↦ (map kinds.ToClient k.outcome.replies, k.sent, all_sent (IsFitAt w s) kinds.ToClient (λ m. tt) k.outcome.replies)
      | inr (inr k) ↦ (k.more, k.sent, reminder_sends laws w s x ok before.ahead before.same k.more k.reminder)
    ] in
    record {
      more = h.more ++ out.0;
      sent = out.1 ∙ ap (λ ms. ms ++ out.0) h.sent ∙ append_assoc w.sent h.more out.0;
      fit = AllByRecursion-append (IsFitAt w s) h.more out.0 h.fit out.2;
    }

-- ---- all along

tame_next : (laws : Laws) (p : Course) (w : WorldState) (s : ℕ) (t : Step) (x y : WorldState) → Tame p w s x → IsSure p y → (LiveServe p y)
    → MovedBy t x y → ((d : ℕ) → turn (asks_up_to s x d) (asks_up_to s y d) ≡ 0) → Tame p w s y
tame_next laws p w s t x y before reached left moved none =
    let ahead : (d : ℕ) → asks_up_to s y d ≡ asks_up_to s w d = λ d. no_turn (asks_up_to s x d) (asks_up_to s y d) (none d) ∙ before.ahead d in
    let same : (d : ℕ) → asks_up_to s w d ≡ true → SameAsk (client_at w.clients d) (client_at y.clients d) = λ d is.
    let was = before.same d is in
    let asks_x = up_to_asks s x d (before.ahead d ∙ is) in
    let asks_y = up_to_asks s y d (ahead d ∙ is) in
    let stays = stamp_stays t x y d moved (asks_y ∙ sym asks_x) in
    let lasts = Lasts-moved laws x y (before.reached []).coherent (reached []).coherent (Moved-by t x y moved) d in
    record {
      stamp = stays ∙ was.stamp;
      asks = asks_y ∙ sym asks_x ∙ was.asks;
      quorum = λ asks. lasts.quorum stays asks_y ∙ was.quorum asks;
    } in
    let grows = Grows-moved x y (Moved-by t x y moved) in
    let first = before.grows.sent in
    let second = grows.sent in
    record {
      reached = reached;
      left = left;
      grows = record { clients = grows.clients ∙ before.grows.clients; voters = grows.voters ∙ before.grows.voters; sent = omega arith };
      ahead = ahead;
      same = same;
      sends = step_sends laws p w s x y before ahead same (Moved-by t x y moved);
    }

pub tame_from : (laws : Laws) (p : Course) (w : WorldState) (s : ℕ) (steps : List Step) (x : WorldState) → Tame p w s x → Serving p x (run_of p.deal steps x) → ((d : ℕ) → turns_up_to p.deal s d steps x ≡ 0)
    → Along (Tame p w s) MovedBy p.deal steps x
tame_from laws p w s [] x here left none = here
tame_from laws p w s (t ∷ steps) x here left none =
    let deal = p.deal in
    let y = next deal x t in
    let ok = (here.reached []).coherent in
    let reached = IsSure-after p x here.reached t in
    let by = MovedBy-step deal x ok.numbered t in
    let first : (d : ℕ) → turn (asks_up_to s x d) (asks_up_to s y d) ≡ 0 = λ d. (let all = none d in omega arith) in
    let rest : (d : ℕ) → turns_up_to deal s d steps y ≡ 0 = λ d. (let all = none d in omega arith) in
    let later = (serving_both laws p (t ∷ []) steps x here.reached left).1 in
    (here, by, tame_from laws p w s steps y (tame_next laws p w s t x y here reached (left_before laws p steps y reached later) by first) later rest)

pub tame_along : (laws : Laws) (p : Course) (w : WorldState) (s : ℕ) (steps : List Step) → IsSure p w → Serving p w (run_of p.deal steps w) → ((d : ℕ) → turns_up_to p.deal s d steps w ≡ 0)
    → Along (Tame p w s) MovedBy p.deal steps w
tame_along laws p w s steps r left none = tame_from laws p w s steps w (record {
  reached = r;
  left = left_before laws p steps w r left;
  grows = record { clients = refl; voters = refl; sent = omega arith };
  ahead = λ d. refl;
  same = λ d is. record { stamp = refl; asks = refl; quorum = λ _. refl };
  sends = record { more = []; sent = sym (append-nil w.sent); fit = tt };
}) left none

-- ---- who does not ask under such a stamp

-- the client is idle, or has a higher stamp
abbrev pub IsAway : ℕ → ℕ → WorldState → Type 0
IsAway s d x = (is_idle (client_at x.clients d).phase ≡ true) ⊎ (s < (client_at x.clients d).stamp)

pub away_kept : (laws : Laws) (p : Course) (w : WorldState) (s d : ℕ) → asks_up_to s w d ≡ false → (t : Step) (x y : WorldState) → Tame p w s x → Tame p w s y → MovedBy t x y → IsAway s d x → IsAway s d y
away_kept laws p w s d not t x y before after moved h =
    let lasts = Lasts-moved laws x y (before.reached []).coherent (after.reached []).coherent (Moved-by t x y moved) d in
    let rises = lasts.stamp in
    elim h [
      | inr more ↦ inr (omega arith)
      | inl idle ↦ elim (is_asking (client_at y.clients d).phase) as (λ b. is_asking (client_at y.clients d).phase ≡ b → IsAway s d y) [
        | true ↦ λ asks. inr (above_bound s y d (after.ahead d ∙ not) asks)
        | false ↦ λ quiet.
            let stays = stamp_stays t x y d moved (quiet ∙ sym (idle_not_asking (client_at x.clients d).phase idle)) in
            inl (lasts.idle stays idle)
      ] refl
    ]

-- who is not inside is away
outside_away : (p : Course) (w : WorldState) (s d : ℕ) → asks_up_to s w d ≡ false → (x : WorldState) → Tame p w s x → is_inside (client_at x.clients d).phase ≡ false → IsAway s d x
outside_away p w s d not x here out = elim (is_asking (client_at x.clients d).phase) as (λ b. is_asking (client_at x.clients d).phase ≡ b → IsAway s d x) [
  | true ↦ λ asks. inr (above_bound s x d (here.ahead d ∙ not) asks)
  | false ↦ λ quiet. inl (idle_by (client_at x.clients d).phase quiet out)
] refl

-- after a round in which it leaves it is away
pub away_after : (laws : Laws) (p : Course) (w : WorldState) (s d : ℕ) → asks_up_to s w d ≡ false → (round : List Step) → Along (Tame p w s) MovedBy p.deal round w
    → (is_inside (client_at w.clients d).phase ≡ true → Contains round (Leave d)) → IsAway s d (run_of p.deal round w)
away_after laws p w s d not round all leaves =
    let deal = p.deal in
    let P = Tame p w s in
    let z = run_of deal round w in
    let keep = away_kept laws p w s d not in
    elim (is_inside (client_at w.clients d).phase) as (λ b. is_inside (client_at w.clients d).phase ≡ b → IsAway s d z) [
      | false ↦ λ out. along-kept P MovedBy deal (IsAway s d) keep round w all (outside_away p w s d not w (along-first P MovedBy deal round w all) out)
      | true ↦ λ inside.
          let spot = spot_in P MovedBy deal round w (Leave d) all (leaves inside) in
          let u = spot.before in
          elim (is_inside (client_at u.clients d).phase) as (λ b. is_inside (client_at u.clients d).phase ≡ b → IsAway s d z) [
            | false ↦ λ out. spot_through P MovedBy deal (IsAway s d) keep w z (Leave d) spot (outside_away p w s d not u spot.here out)
            | true ↦ λ still. spot_end P MovedBy deal (IsAway s d) keep w z (Leave d) spot
                (inl (left_idle laws deal u d (within_by u d (inside_busy (client_at u.clients d).phase still)) still))
          ] refl
    ] refl
