-- a vote that was granted to a later request comes back within seven rounds, whether that request runs on,
-- is given up, or enters
use Rattle.std.proofs.Common.{◌≡◌, ◌≢◌, ℕ, ◌<◌, ◌≤◌, true, false, List, [], ◌∷◌, ◌++◌, length, Some, refl, sym, ap, subst, ◌∙◌, ◌⊎◌, inl, inr, arith}
use Rattle.std.specs.Prelude.{nat_lt, slice_get}
use Rattle.std.specs.List.{Contains}
use Rattle.std.proofs.lemmas.Bool.{cases_lt, false≢true}
use Rattle.std.proofs.lemmas.Bool.Decides.{nat_tests}
use Rattle.std.proofs.lemmas.Option.{same_Some}
use Rattle.message.specs.declared.message.ClientBody.TheVariants as to_client
use Rattle.message.specs.declared.message.Message.{Message}
use Rattle.message.specs.declared.message.Message.TheVariants as kinds
use Rattle.message.specs.declared.message.ToClient.{ToClient}
use Rattle.message.specs.declared.message.ToVoter.{ToVoter}
use Rattle.message.specs.declared.message.VoterBody.TheVariants as asks
use Rattle.voter.specs.declared.state.Grant.{Grant}
use Rattle.voter.specs.declared.state.VoterState.{VoterState}
use Rattle.voter.specs.Entries.{request_of}
use Rattle.voter.specs.Steps as voter
use Rattle.voter.specs.VoterContract.{IsEntry}
use Rattle.message.specs.Requests.{precedes}
use Rattle.requester.specs.declared.state.ClientState.{ClientState}
use Rattle.requester.specs.Steps as requester
use Rattle.requester.specs.Words.{holds, is_asking, is_current, is_idle, is_inquired, is_inside, is_member, last_of}
use Rattle.world_state.specs.declared.step.Step.{Step}
use Rattle.world_state.specs.declared.step.Step.TheVariants.{Deliver, Leave, RemindClient, RemindVoter}
use Rattle.world.specs.Runs.{run_of}
use Rattle.world_state.specs.Steps.{Dealing, WorldState, client_at, voter_at}
use Rattle.progress.specs.LiveRounds.{AreLiveRounds, IsLiveRound, IsReminded}
use Rattle.progress.specs.Moves.{of_steps}
use Rattle.progress.specs.Rules.{Laws}
use Rattle.progress.proofs.block.Ahead.{NotBehind, not_behind_kept, own_not, vote_or_ahead}
use Rattle.progress.proofs.run.Along.{Along, Reminded, Served, along-first, along-kept, along-last, along-or, along-split, along-weaker, between_from, between_to, next, reminded_at, served_at, spot_after, spot_before, spot_end, spot_in}
use Rattle.progress.proofs.run.Arrivals.{answered, client_takes, message_stays, reminds_first, voter_takes}
use Rattle.progress.proofs.overtaking.Behind.{the_request}
use Rattle.progress.proofs.invariants.Fitting.{entry_waits, held_grant, not_current, own_stamp}
use Rattle.progress.proofs.invariants.Inquiries.{ends_up_to}
use Rattle.world.proofs.Exclusion.{inside_busy}
use Rattle.progress.proofs.block.Known.{entry_kept, holds_down, idle_by, known_after, left_idle, within_by}
use Rattle.progress.proofs.run.Moves.{Moved-by, MovedBy}
use Rattle.progress.proofs.block.Steady.{AskedFor, GivenBack, GivenBack-lasting, HasMarked, GrantHasVote, IsOfSome, Seeks, Steady, With, asked, asks_now, client_live, fate_goes, held_exists, locked_to, mark_goes, not_given_back, not_marked, release_to, steady_ok, told, voter_below, voter_within}
use Rattle.progress.proofs.losses.Lasting.{Lasts, Lasts-moved, Lasts-run, Lasts-self, Lasts-then, RunsOn, SameAsk, same_between}
use Rattle.progress.proofs.invariants.Sure.{Course, IsSure, LiveServe, live_by}
use Rattle.requester.proofs.SoundSteps.{is_asking-busy}

-- the client m alone; the clients m and d
abbrev pub Only : ℕ → ℕ → Type 0
Only m e = e ≡ m

abbrev pub EitherOf : ℕ → ℕ → ℕ → Type 0
EitherOf m d e = (e ≡ m) ⊎ (e ≡ d)

-- ---- along

pub along-and : (P Q : WorldState → Type 0) (R : Step → WorldState → WorldState → Type 0) (deal : Dealing) (steps : List Step) (x : WorldState) → Along P R deal steps x → Along Q R deal steps x
    → Along (λ y. P y × Q y) R deal steps x
along-and P Q R deal [] x h k = (h, k)
along-and P Q R deal (s ∷ steps) x h k = ((h.0, k.0), h.1, along-and P Q R deal steps (next deal x s) h.2 k.2)

-- what each step keeps holds all along
pub along-all : (P : WorldState → Type 0) (R : Step → WorldState → WorldState → Type 0) (deal : Dealing) (K : WorldState → Type 0) → ((s : Step) (x y : WorldState) → P x → P y → R s x y → K x → K y)
    → (steps : List Step) (x : WorldState) → Along P R deal steps x → K x → Along (λ y. P y × K y) R deal steps x
along-all P R deal K keep [] x h k = (h, k)
along-all P R deal K keep (s ∷ steps) x h k =
    let y = next deal x s in
    ((h.0, k), h.1, along-all P R deal K keep steps y h.2 (keep s x y h.0 (along-first P R deal steps y h.2) h.1 k))

-- a request that runs at the end ran all along
pub runs_until : (laws : Laws) (p : Course) (w : WorldState) (P : WorldState → Type 0) → ((y : WorldState) → P y → IsSure p y)
    → ((y : WorldState) → P y → LiveServe p y) → (d : ℕ) (steps : List Step) (x : WorldState)
    → Along P MovedBy p.deal steps x → Lasts (client_at w.clients d) (client_at x.clients d) → (client_at (run_of p.deal steps x).clients d).stamp ≡ (client_at w.clients d).stamp
    → is_asking (client_at (run_of p.deal steps x).clients d).phase ≡ true → Along (RunsOn p w d) MovedBy p.deal steps x
runs_until laws p w P sure left d [] x h lasts stamp asks = record {
  reached = sure x h;
  same = same_between (client_at w.clients d) (client_at x.clients d) (client_at x.clients d) lasts (Lasts-self (client_at x.clients d)) stamp (λ _. asks);
  left = left x h;
}
runs_until laws p w P sure left d (s ∷ steps) x h lasts stamp asks =
    let deal = p.deal in
    let y = next deal x s in
    let z = run_of deal steps y in
    let first = sure x h.0 in
    let then_sure = sure y (along-first P MovedBy deal steps y h.2) in
    let on = Lasts-moved laws x y (first []).coherent (then_sure []).coherent (Moved-by s x y h.1) d in
    let later = Lasts-run laws p steps y then_sure d in (
      record {
        reached = first;
        same = same_between (client_at w.clients d) (client_at x.clients d) (client_at z.clients d) lasts (Lasts-then (client_at x.clients d) (client_at y.clients d) (client_at z.clients d) on later) stamp (λ _. asks);
        left = left x h.0;
      },
      h.1,
      runs_until laws p w P sure left d steps y h.2 (Lasts-then (client_at w.clients d) (client_at x.clients d) (client_at y.clients d) lasts on) stamp asks,
    )

-- ---- two clients

-- each voter of its quorum knows the request of the client d
abbrev IsKnownByAll : WorldState → ℕ → WorldState → Type 0
IsKnownByAll w d x = (v : ℕ) → is_member (client_at w.clients d) v ≡ true → IsEntry (voter_at x.voters v) d (client_at w.clients d).stamp

steady_pair : (p : Course) (w : WorldState) (m d : ℕ) (x : WorldState) → is_asking (client_at w.clients d).phase ≡ true → Steady p w (Only m) x → RunsOn p w d x → IsKnownByAll w d x → Steady p w (EitherOf m d) x
steady_pair p w m d x asking calm runs known = record {
  reached = calm.reached;
  left = calm.left;
  asks = λ e on. elim on [
    | inl is ↦ calm.asks e is
    | inr is ↦ subst (λ i. is_asking (client_at w.clients i).phase ≡ true) (sym is) asking
  ];
  same = λ e on. elim on [
    | inl is ↦ calm.same e is
    | inr is ↦ subst (λ i. SameAsk (client_at w.clients i) (client_at x.clients i)) (sym is) runs.same
  ];
  known = λ e v on. elim on [
    | inl is ↦ calm.known e v is
    | inr is ↦ subst (λ i. is_member (client_at w.clients i) v ≡ true → IsEntry (voter_at x.voters v) i (client_at w.clients i).stamp) (sym is) (known v)
  ];
}

-- ---- a later request that runs on gives the vote back

-- the vote is asked for while the grant is behind
asked_for : (laws : Laws) (p : Course) (w : WorldState) (D : ℕ → Type 0) (m v : ℕ) → Seeks p w D m v → (g : Grant) → g.client ≢ m → precedes (the_request w m) (request_of g) ≡ true → (x : WorldState)
    → With p w D (GrantHasVote v g) x → With p w D (AskedFor v g) x
asked_for laws p w D m v f g other behind x here =
    let stamp = (client_at w.clients m).stamp in
    let waits = entry_waits (voter_at x.voters v) m stamp g (here.0.known m v f.asks f.member) here.1 other in
    (here.0, (here.1, (here.0.reached []).placed.back v g m stamp here.1 waits behind))

mark_or : (laws : Laws) (p : Course) (w : WorldState) (D : ℕ → Type 0) (m v : ℕ) → Seeks p w D m v → (g : Grant) → IsOfSome w D g → (s : Step) (x y : WorldState) → With p w D (GrantHasVote v g) x → With p w D (GrantHasVote v g) y
    → MovedBy s x y → HasMarked g.client v x → HasMarked g.client v y ⊎ GivenBack v (client_at y.clients g.client) g
mark_or laws p w D m v f g live s x y before after moved h = elim (fate_goes laws p w D s x y g.client v before.0 after.0 moved live.0 (voter_below laws p w D x m v before.0 f.asks f.member)) [
  | inl same ↦ inl (subst (λ (z : ClientState). (holds z v ≡ true) × (is_inquired z v ≡ true)) (sym same) h)
  | inr took ↦ elim took.2 [
    | inl stays ↦ inl (ap (λ n. nat_lt 0 n) stays.held ∙ h.0, stays.marked h.1)
    | inr (inl comes) ↦ absurd (false≢true (sym comes.free ∙ h.0))
    | inr (inr back) ↦
        let number = held_grant x (before.0.reached []).coherent g.client v g before.1 h.0 in
        let last = back.last in
        inr (omega arith)
  ]
]

given_kept : (laws : Laws) (p : Course) (w : WorldState) (D : ℕ → Type 0) (m v : ℕ) → Seeks p w D m v → (g : Grant) → IsOfSome w D g → (s : Step) (x y : WorldState) → With p w D (GrantHasVote v g) x → With p w D (GrantHasVote v g) y
    → MovedBy s x y → GivenBack v (client_at x.clients g.client) g → GivenBack v (client_at y.clients g.client) g
given_kept laws p w D m v f g live s x y before after moved h =
    mark_goes laws p w D (GivenBack v) v (GivenBack-lasting v) s x y before.0 after.0 moved (voter_below laws p w D x m v before.0 f.asks f.member) g before.1 live h

-- a marked vote is given back in a round
pub gives_back : (laws : Laws) (p : Course) (w : WorldState) (D : ℕ → Type 0) (m v : ℕ) → Seeks p w D m v → (g : Grant) → IsOfSome w D g → (round : List Step) (x : WorldState)
    → Along (With p w D (GrantHasVote v g)) MovedBy p.deal round x → IsLiveRound of_steps p.live p.deal x round
    → (g.grant ≤ last_of (client_at x.clients g.client) v) ⊎ HasMarked g.client v x → GivenBack v (client_at (run_of p.deal round x).clients g.client) g
gives_back laws p w D m v f g live round x all fair before =
    let deal = p.deal in
    let z = run_of deal round x in
    let P = With p w D (GrantHasVote v g) in
    let keep = given_kept laws p w D m v f g live in
    elim before [
      | inl few ↦ along-kept P MovedBy deal (λ q. GivenBack v (client_at q.clients g.client) g) keep round x all few
      | inr mark ↦ elim (along-or P MovedBy deal (HasMarked g.client v) (λ q. GivenBack v (client_at q.clients g.client) g) (mark_or laws p w D m v f g live) keep round x all mark) [
        | inl done ↦ done
        | inr kept ↦
            let marks = along-weaker (λ q. P q × HasMarked g.client v q) (With p w D (HasMarked g.client v)) MovedBy deal (λ q h. (h.0.0, h.1)) round x kept in
            let calm = along-first P MovedBy deal round x all in
            let end = along-last P MovedBy deal round x all in
            let asks = asks_now p w D x g.client calm.0 live.0 in
            let alive = client_live p w D x g.client calm.0 live.0 in
            let down = holds_down p x g.client round fair alive asks
            (record { asks = asks_now p w D z g.client end.0 live.0; same = (end.0.same g.client live.0).stamp ∙ sym (calm.0.same g.client live.0).stamp }) in
            absurd (not_marked laws p w D g.client v live.0 (voter_below laws p w D x m v calm.0 f.asks f.member) x z calm.0 end.0 down
            (reminded_at (With p w D (HasMarked g.client v)) MovedBy p.live deal round x (RemindClient g.client) marks
            (fair.clients g.client (within_by x g.client (is_asking-busy (client_at x.clients g.client).phase asks)) alive)))
      ]
    ]

-- four rounds in which the grant has the vote and its request runs
four_rounds : (laws : Laws) (p : Course) (w : WorldState) (D : ℕ → Type 0) (m v : ℕ) → Seeks p w D m v → (g : Grant) → IsOfSome w D g → g.client ≢ m → precedes (the_request w m) (request_of g) ≡ true
    → (a b c e : List Step) (x : WorldState) → Along (With p w D (GrantHasVote v g)) MovedBy p.deal (a ++ (b ++ (c ++ e))) x
    → IsReminded of_steps p.live p.deal x a (RemindVoter v) → IsReminded of_steps p.live p.deal (run_of p.deal a x) b (RemindVoter v)
    → IsLiveRound of_steps p.live p.deal (run_of p.deal b (run_of p.deal a x)) c
    → IsReminded of_steps p.live p.deal (run_of p.deal c (run_of p.deal b (run_of p.deal a x))) e (RemindClient g.client) → ⊥
four_rounds laws p w D m v f g live other behind a b c e x all ra rb rc re =
    let deal = p.deal in
    let P = With p w D (GrantHasVote v g) in
    let x1 = run_of deal a x in
    let x2 = run_of deal b x1 in
    let x3 = run_of deal c x2 in
    let x4 = run_of deal e x3 in
    let A = along-split P MovedBy deal a (b ++ (c ++ e)) x all in
    let B = along-split P MovedBy deal b (c ++ e) x1 A.1 in
    let C = along-split P MovedBy deal c e x2 B.1 in
    let first = told laws p w D m v f g live x x1 (reminded_at P MovedBy p.live deal a x (RemindVoter v) A.0 ra) in
    let Q = With p w D (AskedFor v g) in
    let askeds = along-weaker P Q MovedBy deal (asked_for laws p w D m v f g other behind) b x1 B.0 in
    let second = asked laws p w D m v f g live x1 x2 (reminded_at Q MovedBy p.live deal b x1 (RemindVoter v) askeds rb) first in
    let third = gives_back laws p w D m v f g live c x2 C.0 rc second in
    let calm = along-first P MovedBy deal e x3 C.1 in
    not_given_back laws p w D v (voter_below laws p w D x3 m v calm.0 f.asks f.member) f.up g live x3 x4 (reminded_at P MovedBy p.live deal e x3 (RemindClient g.client) C.1 re) third

-- ---- a later request that is over frees the vote

-- the client no longer asks under this stamp, though it may be inside; it has no such request
abbrev HasEnded : ℕ → ℕ → WorldState → Type 0
HasEnded d t x = (t ≤ (client_at x.clients d).stamp) × (is_asking (client_at x.clients d).phase ≡ true → t < (client_at x.clients d).stamp)

abbrev pub RequestIsOver : ℕ → ℕ → WorldState → Type 0
RequestIsOver d t x = (t < (client_at x.clients d).stamp) ⊎ ((t ≤ (client_at x.clients d).stamp) × (is_idle (client_at x.clients d).phase ≡ true))

ended_kept : (laws : Laws) (p : Course) (w : WorldState) (D : ℕ → Type 0) (d t : ℕ) → (s : Step) (x y : WorldState) → Steady p w D x → Steady p w D y → MovedBy s x y → HasEnded d t x → HasEnded d t y
ended_kept laws p w D d t s x y before after moved h =
    let lasts = Lasts-moved laws x y (before.reached []).coherent (after.reached []).coherent (Moved-by s x y moved) d in
    let rises = lasts.stamp in
    let most = h.0 in (
      omega arith,
      λ asks. elim (cases_lt (client_at x.clients d).stamp (client_at y.clients d).stamp) [
        | inl more ↦ omega arith
        | inr few ↦ (let same : (client_at y.clients d).stamp ≡ (client_at x.clients d).stamp = omega arith in let less = h.1 (lasts.asks same asks) in omega arith)
      ],
    )

pub over_kept : (laws : Laws) (p : Course) (w : WorldState) (D : ℕ → Type 0) (d t : ℕ) → (s : Step) (x y : WorldState) → Steady p w D x → Steady p w D y → MovedBy s x y → RequestIsOver d t x → RequestIsOver d t y
over_kept laws p w D d t s x y before after moved h =
    let lasts = Lasts-moved laws x y (before.reached []).coherent (after.reached []).coherent (Moved-by s x y moved) d in
    let rises = lasts.stamp in
    elim h [
      | inl less ↦ inl (omega arith)
      | inr idle ↦
          let most = idle.0 in
          elim (cases_lt (client_at x.clients d).stamp (client_at y.clients d).stamp) [
            | inl more ↦ inl (omega arith)
            | inr few ↦ (let same : (client_at y.clients d).stamp ≡ (client_at x.clients d).stamp = omega arith in inr (omega arith, lasts.idle same idle.1))
          ]
    ]

pub over_current : (d t : ℕ) (x : WorldState) → RequestIsOver d t x → is_current (client_at x.clients d) t ≡ false
over_current d t x h = elim h [
  | inl less ↦ later (client_at x.clients d) t less
  | inr idle ↦ not_current (client_at x.clients d) t idle.1
]
  where
    later : (z : ClientState) (t : ℕ) → t < z.stamp → is_current z t ≡ false
    later z t less = grind (arith, nat_tests)

-- who is inside when a round begins leaves in it
leaves_by : (laws : Laws) (p : Course) (w : WorldState) (D : ℕ → Type 0) (d t : ℕ) (round : List Step) (x : WorldState) → Along (Steady p w D) MovedBy p.deal round x
    → (is_inside (client_at x.clients d).phase ≡ true → Contains round (Leave d)) → HasEnded d t x → RequestIsOver d t (run_of p.deal round x)
leaves_by laws p w D d t round x all leaves h =
    let deal = p.deal in
    let P = Steady p w D in
    let z = run_of deal round x in
    let keep = over_kept laws p w D d t in
    let outside : (y : WorldState) → HasEnded d t y → is_inside (client_at y.clients d).phase ≡ false → RequestIsOver d t y = λ y e out.
    elim (is_asking (client_at y.clients d).phase) as (λ b. is_asking (client_at y.clients d).phase ≡ b → RequestIsOver d t y) [
      | true ↦ λ asks. inl (e.1 asks)
      | false ↦ λ not. inr (e.0, idle_by (client_at y.clients d).phase not out)
    ] refl in
    elim (is_inside (client_at x.clients d).phase) as (λ b. is_inside (client_at x.clients d).phase ≡ b → RequestIsOver d t z) [
      | false ↦ λ out. along-kept P MovedBy deal (RequestIsOver d t) keep round x all (outside x h out)
      | true ↦ λ inside.
          let spot = spot_in P MovedBy deal round x (Leave d) all (leaves inside) in
          let u = spot.before in
          let e = spot_before P MovedBy deal (HasEnded d t) (ended_kept laws p w D d t) x z (Leave d) spot h in
          let y = next deal u (Leave d) in
          let after_calm = spot_after P MovedBy deal x z (Leave d) spot in
          spot_end P MovedBy deal (RequestIsOver d t) keep x z (Leave d) spot
          (elim (is_inside (client_at u.clients d).phase) as (λ b. is_inside (client_at u.clients d).phase ≡ b → RequestIsOver d t y) [
            | false ↦ λ out. keep (Leave d) u y spot.here after_calm spot.moved (outside u e out)
            | true ↦ λ still.
                let lasts = Lasts-moved laws u y (spot.here.reached []).coherent (after_calm.reached []).coherent (Moved-by (Leave d) u y spot.moved) d in
                let rises = lasts.stamp in
                let most = e.0 in
                inr (omega arith, left_idle laws deal u d (within_by u d (inside_busy (client_at u.clients d).phase still)) still)
          ] refl)
    ] refl

-- the reminder of the voter frees the vote of a request that is over
not_over : (laws : Laws) (p : Course) (w : WorldState) (D : ℕ → Type 0) (m v : ℕ) → Seeks p w D m v → (g : Grant) → (x z : WorldState)
    → Reminded (λ y. With p w D (GrantHasVote v g) y × RequestIsOver g.client g.stamp y) MovedBy p.live p.deal x z (RemindVoter v) → p.live.client g.client ≡ true → ⊥
not_over laws p w D m v f g x z r alive =
    let deal = p.deal in
    let P : WorldState → Type 0 = λ y. With p w D (GrantHasVote v g) y × RequestIsOver g.client g.stamp y in
    let stays : (k : ℕ) (n : Message) (s : Step) (a b : WorldState) → P a → P b → MovedBy s a b → slice_get a.sent k ≡ Some n → slice_get b.sent k ≡ Some n =
    λ k n s a b _ _ moved is. message_stays k n a b (Moved-by s a b moved) is in
    let d = g.client in
    let spot = r.spot in
    let u = spot.before in
    let calm = spot.here.0.0 in
    let ok = steady_ok laws p w D u calm in
    let y = voter_at u.voters v in
    let within = voter_within laws p w D u m v calm f.asks f.member in
    let id : y.id ≡ v = ok.numbered.voters v within in
    let msg = locked_to v d y.seen g.stamp g.grant in
    let is : voter.reply y d (to_client.Locked g.stamp g.grant) ≡ msg = λ i. record { voter = id i; client = d; seen = y.seen; body = to_client.Locked g.stamp g.grant } in
    let out = laws.voter.reminds y g spot.here.0.1 ∙ ap (λ (n : ToClient). n ∷ voter.inquiry_again y.inquiring y g) is in
    let sends = reminds_first deal u v msg (voter.inquiry_again y.inquiring y g) within out in
    let u1 = next deal u (RemindVoter v) in
    let heard = r.heard sends.place sends.least (between_from p.live (slice_get u1.sent sends.place) msg sends.is alive f.up) in
    let there = spot_before P MovedBy deal (λ q. slice_get q.sent sends.place ≡ Some (kinds.ToClient msg)) (stays sends.place (kinds.ToClient msg)) u1 z (Deliver sends.place) heard.spot sends.is in
    let x2 = heard.spot.before in
    let here2 = heard.spot.here in
    let ok2 = steady_ok laws p w D x2 here2.0.0 in
    let old = client_at x2.clients d in
    let t = client_takes deal x2 sends.place msg ok2 there in
    let rel = release_to d v g.stamp in
    let made = (ok2.made v d g.stamp (inl (g, here2.0.1, refl, refl))).client in
    let own : old.id ≡ d = ok2.numbered.clients d made in
    let tells : requester.tell old v (asks.Release g.stamp) ≡ rel = λ i. record { client = own i; voter = v; body = asks.Release g.stamp } in
    let gives : (requester.take old msg).out ≡ rel ∷ [] = ap (λ (o : requester.Outcome). o.out) (laws.client.released old msg g.stamp g.grant refl (over_current d g.stamp x2 here2.1))
    ∙ ap (λ (n : ToVoter). n ∷ []) tells in
    let says_it = answered deal x2 sends.place msg rel t gives in
    let y2 = next deal x2 (Deliver sends.place) in
    let comes = heard.replies says_it.place says_it.least (between_to p.live (slice_get y2.sent says_it.place) rel says_it.is alive f.up) in
    let got = spot_before P MovedBy deal (λ q. slice_get q.sent says_it.place ≡ Some (kinds.ToVoter rel)) (stays says_it.place (kinds.ToVoter rel)) y2 z (Deliver says_it.place) comes says_it.is in
    let x3 = comes.before in
    let calm3 = comes.here.0.0 in
    let ok3 = steady_ok laws p w D x3 calm3 in
    let taken = voter_takes laws deal x3 says_it.place rel ok3 (calm3.left.grants v (voter_within laws p w D x3 m v calm3 f.asks f.member) f.up) got in
    let above = ends_up_to laws.voter (voter_at x3.voters v) rel g.stamp taken.outcome (ok3.voters v) refl taken.step in
    let held = (spot_after P MovedBy deal y2 z (Deliver says_it.place) comes).0.1 in
    let high = above g.stamp (inl (g, ap (λ (q : VoterState). q.held) (sym taken.here) ∙ held, refl, refl)) in
    omega arith

-- or the voter drops it, if its client is not live
pub served_over : (laws : Laws) (p : Course) (w : WorldState) (D : ℕ → Type 0) (m v : ℕ) → Seeks p w D m v → (g : Grant) → (x z : WorldState)
    → Served (λ y. With p w D (GrantHasVote v g) y × RequestIsOver g.client g.stamp y) MovedBy p.live p.deal x z v → ⊥
served_over laws p w D m v f g x z r = elim (p.live.client g.client) as (λ b. p.live.client g.client ≡ b → ⊥) [
  | true ↦ λ alive. not_over laws p w D m v f g x z r.reminded alive
  | false ↦ λ dead.
      let P : WorldState → Type 0 = λ y. With p w D (GrantHasVote v g) y × RequestIsOver g.client g.stamp y in
      let d = r.drops g r.reminded.spot.here.0.1 dead in
      d.over (inl (g, (along-last P MovedBy p.deal d.first r.reminded.spot.before d.lead).0.1, refl, refl))
] refl

-- ---- seven rounds

made_at : (laws : Laws) (p : Course) (w : WorldState) (D : ℕ → Type 0) (v : ℕ) (g : Grant) (x : WorldState) → With p w D (GrantHasVote v g) x → g.client < length x.clients
made_at laws p w D v g x here = ((steady_ok laws p w D x here.0).made v g.client g.stamp (inl (g, here.1, refl, refl))).client

-- the request of the grant does not run through the first five rounds
runs_not : (laws : Laws) (p : Course) (w : WorldState) (m v : ℕ) → Seeks p w (Only m) m v → (g : Grant) → g.client ≢ m → precedes (the_request w m) (request_of g) ≡ true → (a b c d e : List Step)
    → Along (With p w (Only m) (GrantHasVote v g)) MovedBy p.deal (a ++ (b ++ (c ++ (d ++ e)))) w → AreLiveRounds of_steps p.live p.deal w (a ∷ b ∷ c ∷ d ∷ e ∷ [])
    → g.stamp ≡ (client_at w.clients g.client).stamp → (client_at (run_of p.deal (a ++ (b ++ (c ++ (d ++ e)))) w).clients g.client).stamp ≡ (client_at w.clients g.client).stamp
    → is_asking (client_at (run_of p.deal (a ++ (b ++ (c ++ (d ++ e)))) w).clients g.client).phase ≡ true → ⊥
runs_not laws p w m v f g other behind a b c d e all fair number stamp asks =
    let deal = p.deal in
    let D = Only m in
    let P = With p w D (GrantHasVote v g) in
    let q = g.client in
    let mid = b ++ (c ++ (d ++ e)) in
    let start = along-first P MovedBy deal (a ++ mid) w all in
    let steadily = along-weaker P (Steady p w D) MovedBy deal (λ y h. h.0) (a ++ mid) w all in
    let asking = (Lasts-run laws p (a ++ mid) w start.0.reached q).asks stamp asks in
    let runs = runs_until laws p w (Steady p w D) (λ y h. h.reached) (λ y h. h.left) q (a ++ mid) w steadily (Lasts-self (client_at w.clients q)) stamp asks in
    let R = RunsOn p w q in
    let runs_parts = along-split R MovedBy deal a mid w runs in
    let parts = along-split P MovedBy deal a mid w all in
    let x1 = run_of deal a w in
    let known : IsKnownByAll w q x1 = λ u member. known_after laws p w a q u runs_parts.0 fair.0 asking member in
    let both = along-and P R MovedBy deal mid x1 parts.1 runs_parts.1 in
    let with_known = along-all (λ y. P y × R y) MovedBy deal (IsKnownByAll w q) (λ s x y before after moved k u member. entry_kept laws p w q u asking s x y before.1 after.1 moved (k u member)) mid x1 both known in
    let pairs = along-weaker (λ y. (P y × R y) × IsKnownByAll w q y) (With p w (EitherOf m q) (GrantHasVote v g)) MovedBy deal (λ y h. (steady_pair p w m q y asking h.0.0.0 h.0.1 h.1, h.0.0.1)) mid x1 with_known in
    let x2 = run_of deal b x1 in
    let x3 = run_of deal c x2 in
    let x4 = run_of deal d x3 in
    let B = along-split P MovedBy deal b (c ++ (d ++ e)) x1 parts.1 in
    let C = along-split P MovedBy deal c (d ++ e) x2 B.1 in
    let E = along-split P MovedBy deal d e x3 C.1 in
    let h1 = along-first P MovedBy deal mid x1 parts.1 in
    let h2 = along-first P MovedBy deal (c ++ (d ++ e)) x2 B.1 in
    let h4 = along-first P MovedBy deal e x4 E.1 in
    let pair4 = along-first (With p w (EitherOf m q) (GrantHasVote v g)) MovedBy deal e x4
    (along-split (With p w (EitherOf m q) (GrantHasVote v g)) MovedBy deal d e x3 (along-split (With p w (EitherOf m q) (GrantHasVote v g)) MovedBy deal c (d ++ e) x2 (along-split (With p w (EitherOf m q) (GrantHasVote v g)) MovedBy deal b (c ++ (d ++ e)) x1 pairs).1).1).1 in
    four_rounds laws p w (EitherOf m q) m v (record { up = f.up; asks = inl refl; member = f.member }) g (inr refl, number) other behind b c d e x1 pairs
    (fair.1.0.voters v (voter_within laws p w D x1 m v h1.0 f.asks f.member) f.up).reminded (fair.1.1.0.voters v (voter_within laws p w D x2 m v h2.0 f.asks f.member) f.up).reminded
    fair.1.1.1.0 (fair.1.1.1.1.0.clients q (made_at laws p w D v g x4 h4) (client_live p w (EitherOf m q) x4 q pair4.0 (inr refl)))

-- it is over before the last two rounds, and then the vote is free
ends_not : (laws : Laws) (p : Course) (w : WorldState) (m v : ℕ) → Seeks p w (Only m) m v → (g : Grant) → (l q : List Step) (x : WorldState)
    → Along (With p w (Only m) (GrantHasVote v g)) MovedBy p.deal (l ++ q) x → AreLiveRounds of_steps p.live p.deal x (l ∷ q ∷ []) → HasEnded g.client g.stamp x → ⊥
ends_not laws p w m v f g l q x all fair ended =
    let deal = p.deal in
    let D = Only m in
    let P = With p w D (GrantHasVote v g) in
    let x1 = run_of deal l x in
    let parts = along-split P MovedBy deal l q x all in
    let steadily = along-weaker P (Steady p w D) MovedBy deal (λ y h. h.0) l x parts.0 in
    let over = leaves_by laws p w D g.client g.stamp l x steadily (λ inside. fair.0.leaves g.client (live_by p x g.client (along-first P MovedBy deal (l ++ q) x all).0.left (inside_busy (client_at x.clients g.client).phase inside)) inside) ended in
    let overs = along-all P MovedBy deal (RequestIsOver g.client g.stamp) (λ s a b before after moved k. over_kept laws p w D g.client g.stamp s a b before.0 after.0 moved k) q x1 parts.1 over in
    let here = along-first P MovedBy deal q x1 parts.1 in
    served_over laws p w D m v f g x1 (run_of deal q x1)
    (served_at (λ y. P y × RequestIsOver g.client g.stamp y) MovedBy p.live deal q x1 v overs (fair.1.0.voters v (voter_within laws p w D x1 m v here.0 f.asks f.member) f.up))

-- after seven rounds the voter's grant is not behind the request
pub catches_up : (laws : Laws) (p : Course) (w : WorldState) (m v : ℕ) → Seeks p w (Only m) m v → (a b c d e l q : List Step)
    → Along (Steady p w (Only m)) MovedBy p.deal ((a ++ (b ++ (c ++ (d ++ e)))) ++ (l ++ q)) w → AreLiveRounds of_steps p.live p.deal w (a ∷ b ∷ c ∷ d ∷ e ∷ [])
    → AreLiveRounds of_steps p.live p.deal (run_of p.deal (a ++ (b ++ (c ++ (d ++ e)))) w) (l ∷ q ∷ []) → NotBehind w m v (run_of p.deal ((a ++ (b ++ (c ++ (d ++ e)))) ++ (l ++ q)) w)
catches_up laws p w m v f a b c d e l q all fair last =
    let deal = p.deal in
    let D = Only m in
    let P = Steady p w D in
    let five = a ++ (b ++ (c ++ (d ++ e))) in
    let steps = five ++ (l ++ q) in
    let z = run_of deal steps w in
    let start = along-first P MovedBy deal steps w all in
    let ok = steady_ok laws p w D w start in
    let stamp = (client_at w.clients m).stamp in
    let now = held_exists laws p w D w m v start f.asks f.member in
    let g = now.0 in
    let keep = not_behind_kept laws p w D m v f in
    elim (precedes (the_request w m) (request_of g)) as (λ t. precedes (the_request w m) (request_of g) ≡ t → NotBehind w m v z) [
      | false ↦ λ ahead. along-kept P MovedBy deal (NotBehind w m v) keep steps w all
          (λ h held. subst (λ (k : Grant). precedes (the_request w m) (request_of k) ≡ false) (same_Some g h (sym now.1 ∙ held)) ahead)
      | true ↦ λ behind.
          let other : g.client ≢ m = λ same. false≢true (sym (own_not g m stamp same (own_stamp (voter_at w.voters v) m stamp g (ok.voters v) (start.known m v f.asks f.member) now.1 same)) ∙ behind) in
          elim (along-or P MovedBy deal (GrantHasVote v g) (NotBehind w m v) (vote_or_ahead laws p w D m v f g) keep steps w all now.1) [
            | inl done ↦ done
            | inr kept ↦
                let t = g.stamp in
                let u = g.client in
                let K = With p w D (GrantHasVote v g) in
                let parts = along-split K MovedBy deal five (l ++ q) w kept in
                let x = run_of deal five w in
                let most = (ok.made v u t (inl (g, now.1, refl, refl))).reached in
                let lasts = Lasts-run laws p five w start.reached u in
                let rises = lasts.stamp in
                absurd (elim (cases_lt t (client_at x.clients u).stamp) [
                  | inl less ↦ ends_not laws p w m v f g l q x parts.1 last (omega arith, λ _. less)
                  | inr few ↦ elim (is_asking (client_at x.clients u).phase) as (λ b. is_asking (client_at x.clients u).phase ≡ b → ⊥) [
                    | false ↦ λ not. ends_not laws p w m v f g l q x parts.1 last (omega arith, λ asks. absurd (false≢true (sym not ∙ asks)))
                    | true ↦ λ asks. runs_not laws p w m v f g other behind a b c d e parts.0 fair (omega arith) (omega arith) asks
                  ] refl
                ])
          ]
    ] refl
