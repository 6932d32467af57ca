-- after one fair round each request that runs on is known everywhere
use Rattle.std.proofs.Common.{◌≡◌, ℕ, ◌<◌, ◌≤◌, true, false, List, [], length, Some, refl, sym, ap, subst, ◌∙◌, inl, inr, Bool}
use Rattle.std.specs.Prelude.{slice_get, slice_index}
use Rattle.std.specs.List.{Contains}
use Rattle.std.proofs.lemmas.Bool.{cases_eq, cases_lt, false≢true, lt-ltb}
use Rattle.std.proofs.lemmas.List.{get_or_past}
use Rattle.numbers.specs.Sets.{has}
use Rattle.message.specs.declared.message.Message.TheVariants as kinds
use Rattle.message.specs.declared.message.ToVoter.{ToVoter}
use Rattle.message.specs.declared.message.VoterBody.TheVariants as asks
use Rattle.voter.specs.declared.state.VoterState.{VoterState}
use Rattle.voter.specs.Entries.{Finishes}
use Rattle.voter.specs.VoterContract.{IsEntry}
use Rattle.requester.specs.declared.state.ClientState.{ClientState}
use Rattle.requester.specs.declared.state.Phase.{Phase}
use Rattle.requester.specs.declared.state.Phase.TheVariants.{Idle, Asking, Inside}
use Rattle.requester.specs.declared.state.Seen.TheVariants.{Left}
use Rattle.requester.specs.Steps as requester
use Rattle.requester.specs.Words.{held_of, holds, is_asking, is_idle, is_inside, is_member}
use Rattle.requester.proofs.SoundSteps.{is_asking-busy}
use Rattle.world_state.specs.declared.step.Step.{Step}
use Rattle.world_state.specs.declared.step.Step.TheVariants.{Deliver, Leave, RemindClient}
use Rattle.world.specs.Runs.{after, run_of}
use Rattle.world_state.specs.Steps.{Dealing, WorldState, after_client, client_at, client_did, if_client, step, voter_at}
use Rattle.world.proofs.Exclusion.{held_under}
use Rattle.progress.specs.LiveRounds.{AsksOn, IsLiveRound}
use Rattle.progress.specs.Moves.{of_steps}
use Rattle.progress.specs.Rules.{Laws}
use Rattle.progress.proofs.run.Along.{Along, along-first, along-kept, along-last, between_to, next, reminded_at, spot_before, spot_end, spot_through}
use Rattle.progress.proofs.invariants.Always.{asked_by}
use Rattle.progress.proofs.run.Arrivals.{Sends, message_stays, says, voter_takes}
use Rattle.progress.proofs.overtaking.Behind.{not_finished}
use Rattle.progress.proofs.run.Moves.{Moved-by, MovedBy, VoterMoved, client_here}
use Rattle.progress.proofs.losses.Lasting.{RunsOn, SameAsk}
use Rattle.progress.proofs.invariants.Sure.{Course, live_by}

-- ---- words

-- who asks or is inside is a client of the world
pub within_by : (x : WorldState) (d : ℕ) → is_idle (client_at x.clients d).phase ≡ false → d < length x.clients
unfolding client_at
within_by x d busy = elim (cases_lt d (length x.clients)) [
  | inl less ↦ less
  | inr beyond ↦ absurd (false≢true (sym busy ∙ ap (λ (z : ClientState). is_idle z.phase) (get_or_past x.clients d (requester.start 0 1) beyond)))
]

pub asks_within : (x : WorldState) (d : ℕ) → is_asking (client_at x.clients d).phase ≡ true → d < length x.clients
asks_within x d asks = within_by x d (is_asking-busy (client_at x.clients d).phase asks)

-- what a voter's step does to one voter
pub voter_after : (P : ℕ → VoterState → Type 0) (x y : WorldState) (k : VoterMoved x y) (v : ℕ) → (P k.message.voter (voter_at x.voters k.message.voter) → P k.message.voter k.outcome.state)
    → P v (voter_at x.voters v) → P v (voter_at y.voters v)
voter_after P x y k v then before = elim (cases_eq v k.message.voter) [
  | inl same ↦ subst (λ q. P q (voter_at y.voters q)) (sym same) (subst (P k.message.voter) (sym k.here) (then (subst (λ q. P q (voter_at x.voters q)) same before)))
  | inr other ↦ subst (P v) (sym (k.others v other)) before
]

member_here : (w x : ClientState) (v : ℕ) → SameAsk w x → is_asking w.phase ≡ true → is_member w v ≡ true → is_member x v ≡ true
member_here w x v same asks member = ap (λ l. has l v) (same.quorum asks) ∙ member

-- ---- a request that is known stays so

pub entry_kept : (laws : Laws) (p : Course) (w : WorldState) (d v : ℕ) → is_asking (client_at w.clients d).phase ≡ true → (s : Step) (x y : WorldState) → RunsOn p w d x → RunsOn p w d y
    → MovedBy s x y → IsEntry (voter_at x.voters v) d (client_at w.clients d).stamp → IsEntry (voter_at y.voters v) d (client_at w.clients d).stamp
entry_kept laws p w d v asks s x y before after moved entry =
    let stamp = (client_at w.clients d).stamp in
    elim moved [
      | inl k ↦ subst (λ (vs : List VoterState). IsEntry (voter_at vs v) d stamp) (sym k.0.voters) entry
      | inr (inl moves) ↦
          let k = moves.0 in
          let ok = (before.reached []).coherent in
          let same = before.same in
          voter_after (λ _ z. IsEntry z d stamp) x y k v (λ was. elim (laws.voter.stays (voter_at x.voters k.message.voter) k.message k.outcome d stamp (ok.voters k.message.voter) k.step was) [
            | inl stays ↦ stays
            | inr finishes ↦ absurd (not_finished (client_at x.clients d) (voter_at x.voters k.message.voter) k.message.voter k.message.client d k.message.body (asked_by x y ok k d)
                (is_asking-busy (client_at x.clients d).phase (same.asks ∙ asks)) (subst (λ n. Finishes k.message.client k.message.body d n) (sym same.stamp) finishes))
          ]) entry
      | inr (inr k) ↦ subst (λ (vs : List VoterState). IsEntry (voter_at vs v) d stamp) (sym k.voters) entry
    ]

message_kept : (p : Course) (w : WorldState) (d k : ℕ) (m : ToVoter) (s : Step) (x y : WorldState) → RunsOn p w d x → RunsOn p w d y → MovedBy s x y → slice_get x.sent k ≡ Some (kinds.ToVoter m)
    → slice_get y.sent k ≡ Some (kinds.ToVoter m)
message_kept p w d k m s x y before after moved is = message_stays k (kinds.ToVoter m) x y (Moved-by s x y moved) is

-- ---- the REQUEST of a reminder arrives

-- the REQUEST of the client d to the voter v
abbrev pub request_to : WorldState → ℕ → ℕ → ToVoter
request_to w d v = record { client = d; voter = v; body = asks.Request (client_at w.clients d).stamp }

comes_known : (laws : Laws) (p : Course) (w x : WorldState) (d v k : ℕ) → RunsOn p w d x → p.live.voter v ≡ true → is_asking (client_at w.clients d).phase ≡ true → is_member (client_at w.clients d) v ≡ true
    → slice_get x.sent k ≡ Some (kinds.ToVoter (request_to w d v)) → IsEntry (voter_at (next p.deal x (Deliver k)).voters v) d (client_at w.clients d).stamp
comes_known laws p w x d v k early up asking member is =
    let ok = (early.reached []).coherent in
    let z = client_at x.clients d in
    let same = early.same in
    let m = request_to w d v in
    let y = voter_at x.voters v in
    let within = ok.members d v (member_here (client_at w.clients d) z v same asking member) in
    let t = voter_takes laws p.deal x k m ok (early.left.grants v within up) is in
    let pair = (early.reached []).fits.pairs d v in
    let busy = is_asking-busy z.phase (same.asks ∙ asking) in
    let unfinished = subst (λ n. slice_index y.finished d < n) same.stamp (pair.unfinished.busy busy) in
    let most : (s : ℕ) → IsEntry y d s → s ≤ (client_at w.clients d).stamp = λ s entry. subst (λ n. s ≤ n) same.stamp (ok.made v d s entry).reached in
    subst (λ (u : VoterState). IsEntry u d (client_at w.clients d).stamp) (sym t.here)
    (laws.voter.taken_up y m t.outcome (client_at w.clients d).stamp (ok.voters v) refl unfinished most t.step)

-- the reminder of a client that lacks the vote sends its REQUEST
pub asks_for : (laws : Laws) (p : Course) (w x : WorldState) (d v : ℕ) → RunsOn p w d x → is_asking (client_at w.clients d).phase ≡ true → is_member (client_at w.clients d) v ≡ true
    → holds (client_at x.clients d) v ≡ false → Sends p.deal x (RemindClient d) (kinds.ToVoter (request_to w d v))
asks_for laws p w x d v early asking member free =
    let ok = (early.reached []).coherent in
    let z = client_at x.clients d in
    let same = early.same in
    let asks_now = same.asks ∙ asking in
    let within = within_by x d (is_asking-busy z.phase asks_now) in
    let there = laws.client.requests z v asks_now (member_here (client_at w.clients d) z v same asking member) free in
    let id = ok.numbered.clients d within in
    let stamp = same.stamp in
    let is : requester.tell z v (asks.Request z.stamp) ≡ request_to w d v = λ i. record { client = id i; voter = v; body = asks.Request (stamp i) } in
    says p.deal x d (request_to w d v) within (subst (Contains (requester.remind z)) is there)

-- the client d holds the votes of voters that are down
abbrev pub HoldsDown : Course → WorldState → ℕ → Type 0
HoldsDown p x d = (v : ℕ) → is_member (client_at x.clients d) v ≡ true → p.live.voter v ≡ false → holds (client_at x.clients d) v ≡ true

-- a client that asks on through a round holds them when it begins
pub holds_down : (p : Course) (x : WorldState) (d : ℕ) (round : List Step) → IsLiveRound of_steps p.live p.deal x round → p.live.client d ≡ true → is_asking (client_at x.clients d).phase ≡ true
    → AsksOn x (run_of p.deal round x) d → HoldsDown p x d
holds_down p x d round fair alive asks on v member down = by (holds (client_at x.clients d) v) refl
  where
    by : (b : Bool) → holds (client_at x.clients d) v ≡ b → holds (client_at x.clients d) v ≡ true
    by true has = has
    by false free = absurd (fair.ends d alive (record { asks = asks; voter = v; member = member; lacks = free; down = down }) on)

-- so does one whose request runs on
pub runs_down : (p : Course) (w : WorldState) (d : ℕ) (round : List Step) (x : WorldState) → Along (RunsOn p w d) MovedBy p.deal round x → is_asking (client_at w.clients d).phase ≡ true
    → IsLiveRound of_steps p.live p.deal x round → HoldsDown p x d
runs_down p w d round x all asking fair =
    let here = along-first (RunsOn p w d) MovedBy p.deal round x all in
    let first = here.same in
    let last = (along-last (RunsOn p w d) MovedBy p.deal round x all).same in
    holds_down p x d round fair (live_by p x d here.left (is_asking-busy (client_at x.clients d).phase (first.asks ∙ asking))) (first.asks ∙ asking) (record { asks = last.asks ∙ asking; same = last.stamp ∙ sym first.stamp })

pub known_after : (laws : Laws) (p : Course) (w : WorldState) (round : List Step) (d v : ℕ) → Along (RunsOn p w d) MovedBy p.deal round w
    → IsLiveRound of_steps p.live p.deal w round → is_asking (client_at w.clients d).phase ≡ true → is_member (client_at w.clients d) v ≡ true
    → IsEntry (voter_at (run_of p.deal round w).voters v) d (client_at w.clients d).stamp
known_after laws p w round d v all fair asking member =
    let deal = p.deal in
    let P = RunsOn p w d in
    let z = run_of deal round w in
    let stamp = (client_at w.clients d).stamp in
    let keep = entry_kept laws p w d v asking in
    let named : (x : WorldState) → P x → holds (client_at x.clients d) v ≡ true → IsEntry (voter_at x.voters v) d stamp = λ x here has.
    inl (_, (here.reached []).coherent.held d v (held_of (client_at x.clients d) v) (held_under (client_at x.clients d) v has), refl, here.same.stamp) in
    elim (p.live.voter v) as (λ b. p.live.voter v ≡ b → IsEntry (voter_at z.voters v) d stamp) [
      | false ↦ λ down. along-kept P MovedBy deal (λ u. IsEntry (voter_at u.voters v) d stamp) keep round w all
          (named w (along-first P MovedBy deal round w all) (runs_down p w d round w all asking fair v member down))
      | true ↦ λ up.
          let busy = is_asking-busy (client_at w.clients d).phase asking in
          let alive = live_by p w d (along-first P MovedBy deal round w all).left busy in
          let within = within_by w d busy in
          let r = reminded_at P MovedBy p.live deal round w (RemindClient d) all (fair.clients d within alive) in
          let spot = r.spot in
          let x = spot.before in
          elim (holds (client_at x.clients d) v) as (λ b. holds (client_at x.clients d) v ≡ b → IsEntry (voter_at z.voters v) d stamp) [
            | true ↦ λ has. spot_through P MovedBy deal (λ u. IsEntry (voter_at u.voters v) d stamp) keep w z (RemindClient d) spot (named x spot.here has)
            | false ↦ λ free.
                let sends = asks_for laws p w x d v spot.here asking member free in
                let u = next deal x (RemindClient d) in
                let heard = r.heard sends.place sends.least (between_to p.live (slice_get u.sent sends.place) (request_to w d v) sends.is alive up) in
                let there = spot_before P MovedBy deal (λ y. slice_get y.sent sends.place ≡ Some (kinds.ToVoter (request_to w d v))) (message_kept p w d sends.place (request_to w d v)) u z
                (Deliver sends.place) heard.spot sends.is in
                spot_end P MovedBy deal (λ y. IsEntry (voter_at y.voters v) d stamp) keep u z (Deliver sends.place) heard.spot
                (comes_known laws p w heard.spot.before d v sends.place heard.spot.here up asking member there)
          ] refl
    ] refl

-- ---- who is inside leaves

pub left_idle : (laws : Laws) (deal : Dealing) (x : WorldState) (d : ℕ) → d < length x.clients → is_inside (client_at x.clients d).phase ≡ true
    → is_idle (client_at (next deal x (Leave d)).clients d).phase ≡ true
unfolding step requester.step
left_idle laws deal x d within inside =
    let o = requester.end_request (client_at x.clients d) Left in
    let goes : next deal x (Leave d) ≡ (client_did x d o).state = ap (λ b. after x (if_client b d (after_client x d (requester.leave (client_at x.clients d))))) (lt-ltb d (length x.clients) within)
    ∙ ap (λ r. after x (after_client x d r)) (laws.client.left (client_at x.clients d) inside) in
    ap (λ (u : WorldState). is_idle (client_at u.clients d).phase) goes ∙ ap (λ (z : ClientState). is_idle z.phase) (client_here x.clients d o.state within)

pub idle_by : (q : Phase) → is_asking q ≡ false → is_inside q ≡ false → is_idle q ≡ true
idle_by Idle not outside = refl
idle_by Asking not outside = absurd (false≢true (sym not))
idle_by Inside not outside = absurd (false≢true (sym outside))
