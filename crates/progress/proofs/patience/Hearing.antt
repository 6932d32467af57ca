-- a request that ran for two fair rounds has heard of each request that was known everywhere before it was made
use Rattle.std.proofs.Common.{◌≡◌, ℕ, ◌<◌, ◌≤◌, Bool, true, false, List, [], ◌∷◌, Option, None, Some, refl, sym, ap, subst, ◌∙◌, ◌⊎◌, inl, inr, arith}
use Rattle.std.specs.Prelude.{◌==◌, max, slice_get, slice_index}
use Rattle.std.proofs.lemmas.Bool.{cases_lt}
use Rattle.std.proofs.lemmas.Bool.Decides.{nat_tests}
use Rattle.numbers.specs.Sets.{has}
use Rattle.message.specs.declared.message.Message.{Message}
use Rattle.message.specs.declared.message.Message.TheVariants as kinds
use Rattle.message.specs.declared.message.ToClient.{ToClient}
use Rattle.voter.specs.declared.state.Grant.{Grant}
use Rattle.voter.specs.declared.state.VoterState.{VoterState}
use Rattle.voter.specs.Steps as voter
use Rattle.voter.specs.VoterContract.{IsEntry}
use Rattle.requester.specs.declared.state.ClientState.{ClientState}
use Rattle.requester.specs.Soundness.{IsSound}
use Rattle.requester.specs.Steps as requester
use Rattle.requester.specs.Words.{held_of, holds, is_asking, is_current, is_idle, is_member}
use Rattle.requester.proofs.SoundSteps.{is_asking-busy}
use Rattle.world.specs.Coherence.{IsCoherent}
use Rattle.world_state.specs.declared.step.Step.{Step}
use Rattle.world_state.specs.declared.step.Step.TheVariants.{Deliver, RemindClient}
use Rattle.world.specs.Runs.{run_of}
use Rattle.world_state.specs.Steps.{WorldState, client_at, voter_at}
use Rattle.world.proofs.Exclusion.{held_under}
use Rattle.progress.specs.Overtaking.{IsKnownEverywhere, StillRuns}
use Rattle.progress.specs.Rules.{ClientLaws, Laws}
use Rattle.progress.proofs.run.Along.{Along, Reminded, between_from, between_to, next, spot_after, spot_before, spot_end, spot_through}
use Rattle.progress.proofs.invariants.Always.{Heeds}
use Rattle.progress.proofs.run.Arrivals.{client_takes, message_stays, replied, voter_takes}
use Rattle.progress.proofs.overtaking.Behind.{Behind, Behind-first, Behind-moved, IsLater-moved, given_at, stamp_of}
use Rattle.progress.proofs.overtaking.Counting.{IsLater-run, still_before}
use Rattle.progress.proofs.invariants.Inquiries.{replies_again}
use Rattle.progress.proofs.block.Known.{asks_for, entry_kept, request_to}
use Rattle.progress.proofs.run.Moves.{Moved, Moved-by, MovedBy, MovedBy-step, each_client}
use Rattle.progress.proofs.invariants.Placed.{Heeds-moved}
use Rattle.progress.proofs.losses.Lasting.{RunsOn, left_before, serving_both}
use Rattle.progress.proofs.invariants.Sure.{Course, IsSure, IsSure-after, LiveServe, Serving, live_by, stays_coherent}

-- ---- worlds in which the request of the client c still runs

-- The request of the client c, which was known everywhere in the world w, still runs. Each voter has a
-- grant left.
pub record Trails (p : Course) (w : WorldState) (c : ℕ) (x : WorldState) : Type 0 where
  pub reached : IsSure p x
  pub left : LiveServe p x
  pub heeds : Heeds c x
  pub still : StillRuns w x c
  pub behind : Behind w c x

trails_from : (laws : Laws) (p : Course) (w : WorldState) (c : ℕ) (steps : List Step) (x : WorldState) → Trails p w c x → Serving p x (run_of p.deal steps x) → StillRuns w (run_of p.deal steps x) c
    → Along (Trails p w c) MovedBy p.deal steps x
trails_from laws p w c [] x here left end = here
trails_from laws p w c (s ∷ steps) x here left end =
    let deal = p.deal in
    let ok = (here.reached []).coherent in
    let y = next deal x s in
    let reached = IsSure-after p x here.reached s in
    let now = (reached []).coherent in
    let by = MovedBy-step deal x ok.numbered s in
    let moved = Moved-by s x y by in
    let later = (serving_both laws p (s ∷ []) steps x here.reached left).1 in
    let heeds_y = Heeds-moved laws c x y ok now moved here.heeds in
    let least : stamp_of w c ≤ stamp_of y c = (let first = here.behind.clients.later c in let rises = (IsLater-moved laws.client x y ok now moved c).stamp in omega arith) in
    let still_y = still_before w y (run_of deal steps y) c least (IsLater-run laws deal steps y (stays_coherent p y reached) c) end in (
      here,
      by,
      trails_from laws p w c steps y (record {
        reached = reached;
        left = left_before laws p steps y reached later;
        heeds = heeds_y;
        still = still_y;
        behind = Behind-moved laws w x y c ok now here.heeds heeds_y here.still moved here.behind;
      }) later end,
    )

pub trails_along : (laws : Laws) (p : Course) (w : WorldState) (c : ℕ) (steps : List Step) → IsSure p w → Heeds c w → IsKnownEverywhere w c → Serving p w (run_of p.deal steps w) → StillRuns w (run_of p.deal steps w) c
    → Along (Trails p w c) MovedBy p.deal steps w
trails_along laws p w c steps r heeded known left end = trails_from laws p w c steps w (record {
  reached = r;
  left = left_before laws p steps w r left;
  heeds = heeded;
  still = record { runs = known.runs; same = refl };
  behind = Behind-first w c (r []).coherent heeded known;
}) left end

-- ---- clocks

-- the clock does not fall, and who asks asked before under the same stamp, or its stamp is above the clock
pub record Ticks (x y : ClientState) : Type 0 where
  pub clock : x.clock ≤ y.clock
  pub asking : is_asking y.phase ≡ true → ((is_asking x.phase ≡ true) × (y.stamp ≡ x.stamp)) ⊎ (x.clock < y.stamp)

Ticks-self : (x : ClientState) → Ticks x x
Ticks-self x = record { clock = omega arith; asking = λ asks. inl (asks, refl) }

pub Ticks-moved : (laws : ClientLaws) (x y : WorldState) → IsCoherent x → Moved x y → (d : ℕ) → Ticks (client_at x.clients d) (client_at y.clients d)
Ticks-moved laws x y ok moved d = elim moved [
  | inl k ↦ each_client (λ c z. Ticks (client_at x.clients c) z) x y k (subst (λ (z : ClientState). Ticks (client_at x.clients k.who) z) (sym k.here)
      (let time = laws.clock (client_at x.clients k.who) k.cause k.outcome (ok.clients k.who) k.step in record { clock = time.clock; asking = time.asking })) (λ c. Ticks-self (client_at x.clients c)) d
  | inr (inl k) ↦ subst (λ (cs : List ClientState). Ticks (client_at x.clients d) (client_at cs d)) (sym k.clients) (Ticks-self (client_at x.clients d))
  | inr (inr k) ↦ subst (λ (cs : List ClientState). Ticks (client_at x.clients d) (client_at cs d)) (sym k.clients) (Ticks-self (client_at x.clients d))
]

-- ---- what a client has heard

-- the client's clock is not behind the request of c
abbrev pub ClientHeard : WorldState → ℕ → ℕ → WorldState → Type 0
ClientHeard w c d x = stamp_of w c ≤ (client_at x.clients d).clock

pub heard_kept : (laws : Laws) (p : Course) (w : WorldState) (c d : ℕ) → (s : Step) (x y : WorldState) → IsSure p x → MovedBy s x y → ClientHeard w c d x → ClientHeard w c d y
heard_kept laws p w c d s x y reached moved h = (let rises = (Ticks-moved laws.client x y (reached []).coherent (Moved-by s x y moved) d).clock in omega arith)

-- who has the vote of a voter that the request asked, for a newer request than in the world w, has heard of it
pub hears_by_vote : (p : Course) (w : WorldState) (c d v : ℕ) (x : WorldState) → Trails p w c x → stamp_of w d < stamp_of x d → is_member (client_at w.clients c) v ≡ true
    → holds (client_at x.clients d) v ≡ true → ClientHeard w c d x
hears_by_vote p w c d v x here newer asked has =
    let y = client_at x.clients d in
    let holds_n = held_under y v has in
    let n = held_of y v in
    let names = (here.reached []).coherent.held d v n holds_n in
    let grant : Grant = record { client = d; stamp = y.stamp; grant = n } in
    elim (cases_lt (given_at w v) n) [
      | inl new ↦ here.behind.clients.heard d v n asked holds_n new
      | inr old ↦ (let most = (here.behind.voters v).old grant names (omega arith) in absurd (omega arith))
    ]

-- ---- a round

again_one : (v : VoterState) (o : Option Grant) (c s : ℕ) → (r : ToClient) × (voter.again v o c s ≡ r ∷ []) × (r.client ≡ c) × (r.seen ≡ v.seen) × (r.voter ≡ v.id)
again_one v None c s = (_, refl, refl, refl, refl)
again_one v (Some g) c s = by (g.client == c) refl
  where
    by : (b : Bool) → (g.client == c) ≡ b → (r : ToClient) × (voter.again_by (g.client == c) v g c s ≡ r ∷ []) × (r.client ≡ c) × (r.seen ≡ v.seen) × (r.voter ≡ v.id)
    by true e = (_, ap (λ b. voter.again_by b v g c s) e, refl, refl, refl)
    by false e = (_, ap (λ b. voter.again_by b v g c s) e, refl, refl, refl)

more_seen : (a b n : ℕ) → n ≤ a → n ≤ max a b
more_seen a b n most = grind (arith, nat_tests)

take_hears : (laws : ClientLaws) (x : ClientState) (m : ToClient) → IsSound x → m.seen ≤ (requester.take x m).state.clock
unfolding requester.step
take_hears laws x m sound = (laws.clock x (requester.Takes m) (requester.take x m) sound refl).heard

-- runs on, while the request of c does
abbrev pub RunsBeside : Course → WorldState → ℕ → WorldState → ℕ → WorldState → Type 0
RunsBeside p w c b d x = Trails p w c x × RunsOn p b d x

-- A request that ran from the world b on, newer than in the world w and known at the voter, hears of the
-- request of c in a fair round.
pub hears : (laws : Laws) (p : Course) (w : WorldState) (c : ℕ) (b : WorldState) (d v : ℕ) (x z : WorldState) → p.live.voter v ≡ true → is_asking (client_at b.clients d).phase ≡ true → stamp_of w d < stamp_of b d
    → is_member (client_at b.clients d) v ≡ true → is_member (client_at w.clients c) v ≡ true → IsEntry (voter_at x.voters v) d (stamp_of b d)
    → Reminded (RunsBeside p w c b d) MovedBy p.live p.deal x z (RemindClient d) → ClientHeard w c d z
hears laws p w c b d v x z up asking newer member asked entry r =
    let deal = p.deal in
    let P = RunsBeside p w c b d in
    let keep : (s : Step) (a e : WorldState) → P a → P e → MovedBy s a e → ClientHeard w c d a → ClientHeard w c d e = λ s a e before after moved h. heard_kept laws p w c d s a e before.0.reached moved h in
    let stays : (k : ℕ) (n : Message) (s : Step) (a e : WorldState) → P a → P e → MovedBy s a e → slice_get a.sent k ≡ Some n → slice_get e.sent k ≡ Some n =
    λ k n s a e _ _ moved is. message_stays k n a e (Moved-by s a e moved) is in
    let keep_entry : (s : Step) (a e : WorldState) → P a → P e → MovedBy s a e → IsEntry (voter_at a.voters v) d (stamp_of b d) → IsEntry (voter_at e.voters v) d (stamp_of b d) =
    λ s a e before after moved h. entry_kept laws p b d v asking s a e before.1 after.1 moved h in
    let vote : (u : WorldState) → P u → holds (client_at u.clients d) v ≡ true → ClientHeard w c d u = λ u h has.
    (let same = h.1.same.stamp in hears_by_vote p w c d v u h.0 (omega arith) asked has) in
    let spot = r.spot in
    let x1 = spot.before in
    let entry1 = spot_before P MovedBy deal (λ q. IsEntry (voter_at q.voters v) d (stamp_of b d)) keep_entry x z (RemindClient d) spot entry in
    let u1 = next deal x1 (RemindClient d) in
    elim (holds (client_at x1.clients d) v) as (λ t. holds (client_at x1.clients d) v ≡ t → ClientHeard w c d z) [
      | true ↦ λ has. spot_through P MovedBy deal (ClientHeard w c d) keep x z (RemindClient d) spot (vote x1 spot.here has)
      | false ↦ λ free.
          let sends = asks_for laws p b x1 d v spot.here.1 asking member free in
          let msg = request_to b d v in
          let alive = live_by p x1 d spot.here.1.left (is_asking-busy (client_at x1.clients d).phase (spot.here.1.same.asks ∙ asking)) in
          let heard = r.heard sends.place sends.least (between_to p.live (slice_get u1.sent sends.place) msg sends.is alive up) in
          let there = spot_before P MovedBy deal (λ q. slice_get q.sent sends.place ≡ Some (kinds.ToVoter msg)) (stays sends.place (kinds.ToVoter msg)) u1 z (Deliver sends.place) heard.spot sends.is in
          let entry_u = keep_entry (RemindClient d) x1 u1 spot.here (spot_after P MovedBy deal x z (RemindClient d) spot) spot.moved entry1 in
          let x2 = heard.spot.before in
          let here2 = heard.spot.here in
          let ok = (here2.0.reached []).coherent in
          let entry2 = spot_before P MovedBy deal (λ q. IsEntry (voter_at q.voters v) d (stamp_of b d)) keep_entry u1 z (Deliver sends.place) heard.spot entry_u in
          let y2 = next deal x2 (Deliver sends.place) in
          let y = voter_at x2.voters v in
          let now = here2.1.same in
          let asks_x = now.asks ∙ asking in
          let within = ok.members d v (ap (λ l. has l v) (now.quorum asking) ∙ member) in
          let t = voter_takes laws deal x2 sends.place msg ok (here2.1.left.grants v within up) there in
          let pair = (here2.0.reached []).fits.pairs d v in
          let unfinished = subst (λ n. slice_index y.finished d < n) now.stamp (pair.unfinished.busy (is_asking-busy (client_at x2.clients d).phase asks_x)) in
          let again = replies_again y msg (stamp_of b d) t.outcome (ok.voters v) refl unfinished entry2 t.step in
          let one = again_one (voter.see y (stamp_of b d)) y.held d (stamp_of b d) in
          let reply = one.0 in
          let out : t.outcome.replies ≡ reply ∷ [] = ap (λ (o : voter.Outcome). o.replies) again ∙ one.1 in
          let says_it = replied deal x2 sends.place msg reply t out in
          let from : reply.voter ≡ v = one.4 ∙ ok.numbered.voters v within in
          let comes = heard.replies says_it.place says_it.least (between_from p.live (slice_get y2.sent says_it.place) reply says_it.is (ap p.live.client one.2 ∙ alive) (ap p.live.voter from ∙ up)) in
          let x3 = comes.before in
          let got = spot_before P MovedBy deal (λ q. slice_get q.sent says_it.place ≡ Some (kinds.ToClient reply)) (stays says_it.place (kinds.ToClient reply)) y2 z (Deliver says_it.place) comes says_it.is in
          let ok3 = (comes.here.0.reached []).coherent in
          let taken = client_takes deal x3 says_it.place reply ok3 got in
          let high = take_hears laws.client (client_at x3.clients reply.client) reply (ok3.clients reply.client) in
          let clock = ap (λ (q : ClientState). q.clock) taken.here in
          -- the voter has seen the stamp of the request, which it knows
          let z_c = client_at x2.clients c in
          let known = (here2.0.behind.voters v).known asked in
          let current : is_current z_c (stamp_of w c) ≡ true = current_still z_c (stamp_of w c) here2.0.still.runs (sym here2.0.still.same) in
          let seen = here2.0.heeds.seen v (stamp_of w c) known current in
          let more = more_seen y.seen (stamp_of b d) (stamp_of w c) seen in
          let carried = one.3 in
          spot_end P MovedBy deal (ClientHeard w c d) keep y2 z (Deliver says_it.place) comes
          (subst (λ i. stamp_of w c ≤ (client_at (next deal x3 (Deliver says_it.place)).clients i).clock) one.2 (omega arith))
    ] refl
  where
    current_still : (q : ClientState) (s : ℕ) → is_idle q.phase ≡ false → s ≡ q.stamp → is_current q s ≡ true
    current_still q s busy same = grind (arith, nat_tests)
