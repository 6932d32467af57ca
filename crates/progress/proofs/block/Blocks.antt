-- in a block of fair rounds a request that is not later than a given one begins or ends, or an old grant is given back
use Rattle.std.proofs.Common.{append_assoc, ◌≡◌, ◌≢◌, ℕ, ◌<◌, ◌≤◌, true, false, List, [], ◌∷◌, ◌++◌, length, refl, sym, ap, subst, ◌∙◌, inl, inr, arith, Bool, Some, zero, suc, ◌⊎◌, ◌+◌}
use Rattle.std.specs.Prelude.{if◌then◌else◌, nat_lt, slice_get}
use Rattle.std.specs.List.{range_with_len}
use Rattle.std.proofs.lemmas.Bool.{cases_eq, false≢true, false_from_ne_true, cases_lt}
use Rattle.std.proofs.lemmas.Bool.Decides.{nat_tests}
use Rattle.std.proofs.lemmas.List.{append-nil}
use Rattle.std.proofs.lemmas.List.FromFn.{length-range_with_len}
use Rattle.numbers.specs.Sets.{has}
use Rattle.message.specs.declared.message.Message.{Message}
use Rattle.message.specs.declared.message.Message.TheVariants as kinds
use Rattle.message.specs.declared.message.ToVoter.{ToVoter}
use Rattle.message.specs.declared.message.VoterBody.TheVariants as asks
use Rattle.message.specs.declared.request.Request.{Request}
use Rattle.voter.specs.VoterContract.{IsEntry}
use Rattle.message.specs.Requests.{precedes}
use Rattle.requester.specs.declared.state.ClientState.{ClientState}
use Rattle.requester.specs.Words.{holds, is_asking, is_current, is_member, members}
use Rattle.world_state.specs.declared.step.Step.TheVariants.{Deliver}
use Rattle.world_state.specs.declared.step.Step.{Step}
use Rattle.world.specs.Runs.{run_of}
use Rattle.world_state.specs.Steps.{Dealing, WorldState, client_at, voter_at}
use Rattle.world.proofs.Exclusion.{inside_busy}
use Rattle.world.proofs.Plans.{run_then}
use Rattle.progress.specs.LiveRounds.{AreLiveRounds}
use Rattle.progress.specs.Moves.{of_steps}
use Rattle.progress.specs.Rounds.{late_body, late_in, late_message, late_step, late_steps, steps_of}
use Rattle.progress.specs.Rules.{Laws}
use Rattle.world.specs.WayIn.{Asks}
use Rattle.world.specs.Waiting.{block, live_block}
use Rattle.progress.proofs.block.Ahead.{NotBehind}
use Rattle.progress.proofs.run.Along.{Along, along-first, along-kept, along-last, along-split, along-weaker, next}
use Rattle.progress.proofs.run.Arrivals.{get_after}
use Rattle.progress.proofs.overtaking.Behind.{the_request}
use Rattle.progress.proofs.invariants.Fitting.{current_busy, current_stamp}
use Rattle.progress.proofs.block.Known.{HoldsDown, asks_within, entry_kept, holds_down, known_after}
use Rattle.progress.proofs.block.Leading.{Clear, Hushed, NotAhead, OwnStage, Quietly, along-quiet, four_settle, own_stage_kept}
use Rattle.progress.proofs.run.Lists.{all_hold, has_range, remove_from, shorter}
use Rattle.progress.proofs.run.Moves.{Moved, Moved-by, MovedBy}
use Rattle.progress.proofs.losses.Olds.{AreOld, KeepsOlds}
use Rattle.progress.proofs.block.Overdue.{Only, along-all, catches_up}
use Rattle.progress.proofs.rounds.Parts.{late-split, live-split, split_rounds, steps-append}
use Rattle.progress.proofs.block.Steady.{Never, Never-lasting, Seeks, Steady}
use Rattle.progress.proofs.losses.Lasting.{RunsOn, SameAsk, keeps_both, serving_both}
use Rattle.progress.proofs.invariants.Sure.{Course, IsSure, Serving, live_by}
use Rattle.progress.proofs.block.Tame.{FitBody, IsAway, IsFitAt, Tame, asks_up_to, away_after, away_kept, tame_along, turns_up_to, turns_up_to-append, up_to_asks, up_to_is, up_to_stamp}
use Rattle.progress.proofs.block.Winning.{ClearRounds, olds_others, wins}
use Rattle.voter.proofs.Front.{precedes-trans}
use Rattle.requester.proofs.SoundSteps.{is_asking-busy}

-- ---- the first request

precedes-one : (a b : Request) → a.client ≢ b.client → precedes a b ≡ false → precedes b a ≡ true
precedes-one a b other not = grind (arith, nat_tests)

-- the client precedes those below n that ask
abbrev Precedes : WorldState → ℕ → ℕ → Type 0
Precedes u c n = (d : ℕ) → d < n → d ≢ c → is_asking (client_at u.clients d).phase ≡ true → precedes (the_request u c) (the_request u d) ≡ true

first_below : (u : WorldState) (n : ℕ) → ((d : ℕ) → d < n → is_asking (client_at u.clients d).phase ≡ false) ⊎ ((c : ℕ) × (is_asking (client_at u.clients c).phase ≡ true) × Precedes u c n)
first_below u zero = inl (λ d below. absurd (omega arith))
first_below u (suc n) = elim (is_asking (client_at u.clients n).phase) as (λ b. is_asking (client_at u.clients n).phase ≡ b
    → ((d : ℕ) → d < suc n → is_asking (client_at u.clients d).phase ≡ false) ⊎ ((c : ℕ) × (is_asking (client_at u.clients c).phase ≡ true) × Precedes u c (suc n))) [
      | false ↦ λ quiet. elim (first_below u n) [
        | inl none ↦ inl (λ d below. elim (cases_eq d n) [
          | inl same ↦ ap (λ i. is_asking (client_at u.clients i).phase) same ∙ quiet
          | inr other ↦ none d (omega arith)
        ])
        | inr best ↦ inr (
          best.0,
          best.1,
          λ d below other asks. elim (cases_eq d n) [
            | inl same ↦ absurd (false≢true (sym quiet ∙ ap (λ i. is_asking (client_at u.clients i).phase) (sym same) ∙ asks))
            | inr unlike ↦ best.2 d (omega arith) other asks
          ],
        )
      ]
      | true ↦ λ loud. elim (first_below u n) [
        | inl none ↦ inr (n, loud, λ d below other asks. absurd (false≢true (sym (none d (omega arith)) ∙ asks)))
        | inr best ↦ elim (cases_eq n best.0) [
          | inl same ↦ inr (best.0, best.1, λ d below other asks. best.2 d (omega arith) other asks)
          | inr apart ↦ elim (precedes (the_request u best.0) (the_request u n)) as (λ b. precedes (the_request u best.0) (the_request u n) ≡ b
              → ((d : ℕ) → d < suc n → is_asking (client_at u.clients d).phase ≡ false) ⊎ ((c : ℕ) × (is_asking (client_at u.clients c).phase ≡ true) × Precedes u c (suc n))) [
                | true ↦ λ first. inr (
                  best.0,
                  best.1,
                  λ d below other asks. elim (cases_eq d n) [
                    | inl same ↦ subst (λ i. precedes (the_request u best.0) (the_request u i) ≡ true) (sym same) first
                    | inr unlike ↦ best.2 d (omega arith) other asks
                  ],
                )
                | false ↦ λ later. (let ahead = precedes-one (the_request u best.0) (the_request u n) (λ same. apart (sym same)) later in inr (
                  n,
                  loud,
                  λ d below other asks. elim (cases_eq d best.0) [
                    | inl same ↦ subst (λ i. precedes (the_request u n) (the_request u i) ≡ true) (sym same) ahead
                    | inr unlike ↦ precedes-trans (the_request u n) (the_request u best.0) (the_request u d) ahead (best.2 d (omega arith) unlike asks)
                  ],
                ))
              ] refl
        ]
      ]
    ] refl

-- The client m asks, and precedes all others that ask; its stamp is at most s.
record IsFirst (w : WorldState) (s m : ℕ) : Type 0 where
  ahead : asks_up_to s w m ≡ true
  first : (d : ℕ) → d ≢ m → is_asking (client_at w.clients d).phase ≡ true → precedes (the_request w m) (the_request w d) ≡ true

precedes_most : (a b : Request) → precedes a b ≡ true → a.stamp ≤ b.stamp
precedes_most a b is = grind (arith, nat_tests)

first_of : (w : WorldState) (c : ℕ) → Asks w c → (m : ℕ) × IsFirst w (client_at w.clients c).stamp m
first_of w c asks = elim (first_below w (length w.clients)) [
  | inl none ↦ absurd (false≢true (sym (none c asks.client) ∙ asks.asks))
  | inr best ↦
      let m = best.0 in
      let first : (d : ℕ) → d ≢ m → is_asking (client_at w.clients d).phase ≡ true → precedes (the_request w m) (the_request w d) ≡ true = λ d other too. best.2 d (asks_within w d too) other too in
      let most : (client_at w.clients m).stamp ≤ (client_at w.clients c).stamp = elim (cases_eq c m) [
        | inl same ↦ (let e = ap (λ i. (client_at w.clients i).stamp) same in omega arith)
        | inr other ↦ precedes_most (the_request w m) (the_request w c) (first c other asks.asks)
      ] in
      (m, record { ahead = up_to_is (client_at w.clients c).stamp w m best.1 most; first = first })
]

-- ---- worlds in which it leads

same_from : (w b x : ClientState) → is_asking w.phase ≡ true → SameAsk w b → SameAsk w x → SameAsk b x
same_from w b x asks first second = record {
  stamp = second.stamp ∙ sym first.stamp;
  asks = second.asks ∙ sym first.asks;
  quorum = λ _. second.quorum asks ∙ sym (first.quorum asks);
}

-- its request is known, and who does not ask under such a stamp is idle or has a higher one
record Ready (w : WorldState) (s m : ℕ) (x : WorldState) : Type 0 where
  known : (v : ℕ) → is_member (client_at w.clients m) v ≡ true → IsEntry (voter_at x.voters v) m (client_at w.clients m).stamp
  away : (d : ℕ) → asks_up_to s w d ≡ false → IsAway s d x

runs_by : (p : Course) (w : WorldState) (s m : ℕ) → IsFirst w s m → (x : WorldState) → Tame p w s x → RunsOn p w m x
runs_by p w s m f x here = record { reached = here.reached; same = here.same m f.ahead; left = here.left }

ready_kept : (laws : Laws) (p : Course) (w : WorldState) (s m : ℕ) → IsFirst w s m → (t : Step) (x y : WorldState) → Tame p w s x → Tame p w s y → MovedBy t x y → Ready w s m x → Ready w s m y
ready_kept laws p w s m f t x y before after moved h = record {
  known = λ v member. entry_kept laws p w m v (up_to_asks s w m f.ahead) t x y (runs_by p w s m f x before) (runs_by p w s m f y after) moved (h.known v member);
  away = λ d not. away_kept laws p w s d not t x y before after moved (h.away d not);
}

-- two requests do not precede each other
twice_first : (m d sm sb t sd : ℕ) → sb ≡ sm → t ≡ sd → precedes (record { stamp = sm; client = m }) (record { stamp = sd; client = d }) ≡ true
    → precedes (record { stamp = t; client = d }) (record { stamp = sb; client = m }) ≡ true → ⊥
twice_first m d sm sb t sd first second a b = grind (arith, nat_tests)

not_self : (m d t s : ℕ) → d ≡ m → t ≡ s → precedes (record { stamp = t; client = d }) (record { stamp = s; client = m }) ≡ true → ⊥
not_self m d t s client stamp is = grind (arith, nat_tests)

clear_at : (p : Course) (w : WorldState) (s m : ℕ) → IsFirst w s m → (b x : WorldState) → Tame p w s b → Tame p w s x → Ready w s m x → Clear p b m x
clear_at p w s m f b x base here ready =
    let asking = up_to_asks s w m f.ahead in
    let first = base.same m f.ahead in
    let now = here.same m f.ahead in
    let same = same_from (client_at w.clients m) (client_at b.clients m) (client_at x.clients m) asking first now in
    record {
      steady = record {
        reached = here.reached;
        left = here.left;
        asks = λ e is. subst (λ i. is_asking (client_at b.clients i).phase ≡ true) (sym is) (first.asks ∙ asking);
        same = λ e is. subst (λ i. SameAsk (client_at b.clients i) (client_at x.clients i)) (sym is) same;
        known = λ e v is. subst (λ i. is_member (client_at b.clients i) v ≡ true → IsEntry (voter_at x.voters v) i (client_at b.clients i).stamp) (sym is)
            (λ member. subst (λ n. IsEntry (voter_at x.voters v) m n) (sym first.stamp) (ready.known v (ap (λ l. has l v) (sym (first.quorum asking)) ∙ member)));
      };
      count = here.grows.clients ∙ sym base.grows.clients;
      over = λ d t ahead. false_from_ne_true (is_current (client_at x.clients d) t) (λ is.
          let busy = current_busy (client_at x.clients d) t is in
          let stamp = current_stamp (client_at x.clients d) t is in
          let bound = up_to_stamp s w m f.ahead in
          let most = precedes_most (record { stamp = t; client = d }) (the_request b m) ahead in
          let base_stamp = first.stamp in
          elim (asks_up_to s w d) as (λ q. asks_up_to s w d ≡ q → ⊥) [
            | false ↦ λ not. elim (ready.away d not) [
              | inl idle ↦ false≢true (sym busy ∙ idle)
              | inr more ↦ omega arith
            ]
            | true ↦ λ up. (let number = stamp ∙ (here.same d up).stamp in elim (cases_eq d m) [
              | inl own ↦ not_self m d t (client_at b.clients m).stamp own (number ∙ ap (λ i. (client_at w.clients i).stamp) own ∙ sym base_stamp) ahead
              | inr other ↦ twice_first m d (client_at w.clients m).stamp (client_at b.clients m).stamp t (client_at w.clients d).stamp base_stamp number (f.first d other (up_to_asks s w d up)) ahead
            ])
          ] refl);
    }

-- ---- no REQUEST that precedes it comes

get_prefix : {A : Type 0} (xs ys : List A) (k : ℕ) (m : A) → k < length xs → slice_get (xs ++ ys) k ≡ Some m → slice_get xs k ≡ Some m
get_prefix [] ys k m less is = absurd (omega arith)
get_prefix (x ∷ xs) ys zero m less is = is
get_prefix (x ∷ xs) ys (suc k) m less is = get_prefix xs ys k m (omega arith) is

in_time : (b : Bool) (old k : ℕ) → nat_lt k old ≡ b → ◌≡◌ {A = ℕ} (if b then 1 else 0) 0 → old ≤ k
in_time true old k e none = absurd (omega arith)
in_time false old k e none = grind (arith, nat_tests)

comes_in_time : (old k : ℕ) (sent : List Message) (m : ToVoter) (t : ℕ) → slice_get sent k ≡ Some (kinds.ToVoter m) → m.body ≡ asks.Request t → late_message old k (slice_get sent k) ≡ 0 → old ≤ k
comes_in_time old k sent m t is body none =
    in_time _ old k refl (ap (late_body old k) (sym body) ∙ ap (late_message old k) (sym is) ∙ none)

-- the message came since the world w
since : (w x : WorldState) (sent more : List Message) (old k : ℕ) (m : ToVoter) (t : ℕ) → x.sent ≡ sent ++ more → length w.sent ≤ old → length w.sent ≤ length sent
    → slice_get x.sent k ≡ Some (kinds.ToVoter m) → m.body ≡ asks.Request t → late_step old sent (Deliver k) ≡ 0 → length w.sent ≤ k
since w x sent more old k m t grown least long is body none = elim (cases_lt k (length sent)) [
  | inl less ↦
      let there = get_prefix sent more k (kinds.ToVoter m) less (ap (λ ms. slice_get ms k) (sym grown) ∙ is) in
      let late = comes_in_time old k sent m t there body none in
      omega arith
  | inr beyond ↦ omega arith
]

grown_on : (x y : WorldState) → Moved x y → (out : List Message) × (y.sent ≡ x.sent ++ out)
grown_on x y moved = elim moved [
  | inl k ↦ (_, k.sent)
  | inr (inl k) ↦ (_, k.sent)
  | inr (inr k) ↦ (_, k.sent)
]

later_by : (m c n s sm : ℕ) → sm ≤ s → s < n → precedes (record { stamp = sm; client = m }) (record { stamp = n; client = c }) ≡ true
later_by m c n s sm most more = grind (arith, nat_tests)

moved_stamp : (m d sm sb t sd : ℕ) → sb ≡ sm → t ≡ sd → precedes (record { stamp = sm; client = m }) (record { stamp = sd; client = d }) ≡ true
    → precedes (record { stamp = sb; client = m }) (record { stamp = t; client = d }) ≡ true
moved_stamp m d sm sb t sd first second a = grind (arith, nat_tests)

fit_not_ahead : (p : Course) (w : WorldState) (s m : ℕ) → IsFirst w s m → (b : WorldState) → Tame p w s b → (c n : ℕ) → FitBody w s c (asks.Request n) → NotAhead b m c n
fit_not_ahead p w s m f b base c n fit =
    let stamp = (base.same m f.ahead).stamp in
    let bound = up_to_stamp s w m f.ahead in
    elim fit [
      | inl more ↦ inr (later_by m c n s (client_at b.clients m).stamp (omega arith) more)
      | inr runs ↦ elim (cases_eq c m) [
        | inl own ↦ inl (own, runs.1 ∙ ap (λ i. (client_at w.clients i).stamp) own ∙ sym stamp)
        | inr other ↦ inr (moved_stamp m c (client_at w.clients m).stamp (client_at b.clients m).stamp n (client_at w.clients c).stamp stamp runs.1 (f.first c other (up_to_asks s w c runs.0)))
      ]
    ]

hushed : (p : Course) (w : WorldState) (s m : ℕ) → IsFirst w s m → (b : WorldState) → Tame p w s b → (t : Step) (x y : WorldState) (sent more : List Message) (old : ℕ) → Tame p w s x → x.sent ≡ sent ++ more
    → length w.sent ≤ old → length w.sent ≤ length sent → late_step old sent t ≡ 0 → MovedBy t x y → Hushed b m t x y
hushed p w s m f b base t x y sent more old here grown least long none moved = elim moved [
  | inl k ↦ inl k
  | inr (inl k) ↦ inr (inl (
    k.0,
    k.1,
    λ n body.
        let r = k.0.message in
        let late = since w x sent more old k.0.place r n grown least long k.0.came body (ap (late_step old sent) (sym k.1) ∙ none) in
        let sends = here.sends in
        let fit = get_after (IsFitAt w s) w.sent sends.more k.0.place (kinds.ToVoter r) late (ap (λ ms. slice_get ms k.0.place) (sym sends.sent) ∙ k.0.came) sends.fit in
        fit_not_ahead p w s m f b base r.client n (subst (λ q. FitBody w s r.client q) body fit),
  ))
  | inr (inr k) ↦ inr (inr k)
]

-- tame, and ready
abbrev TameAndReady : Course → WorldState → ℕ → ℕ → WorldState → Type 0
TameAndReady p w s m x = Tame p w s x × Ready w s m x

quiet_steps : (laws : Laws) (p : Course) (w : WorldState) (s m : ℕ) → IsFirst w s m → (b : WorldState) → Tame p w s b → (sent : List Message) (old : ℕ) → length w.sent ≤ old → length w.sent ≤ length sent
    → (steps : List Step) (x : WorldState) (more : List Message) → x.sent ≡ sent ++ more → Along (TameAndReady p w s m) MovedBy p.deal steps x → late_steps old sent steps ≡ 0
    → AreOld p x → KeepsOlds p x (run_of p.deal steps x) → Along (Clear p b m) (Quietly p b m) p.deal steps x
quiet_steps laws p w s m f b base sent old least long [] x more grown h late few keeps = clear_at p w s m f b x base h.0 h.1
quiet_steps laws p w s m f b base sent old least long (t ∷ steps) x more grown h late few keeps =
    let y = next p.deal x t in
    let here : late_step old sent t ≡ 0 = omega arith in
    let rest : late_steps old sent steps ≡ 0 = omega arith in
    let out = grown_on x y (Moved-by t x y h.1) in
    let olds = keeps_both laws p (t ∷ []) steps x few h.0.0.reached keeps in (
      clear_at p w s m f b x base h.0.0 h.0.1,
      (hushed p w s m f b base t x y sent more old h.0.0 grown least long here h.1, olds.first),
      quiet_steps laws p w s m f b base sent old least long steps y (more ++ out.0) (out.1 ∙ ap (λ ms. ms ++ out.0) grown ∙ append_assoc sent more out.0) h.2 rest olds.few olds.rest,
    )

clear_rounds : (laws : Laws) (p : Course) (w : WorldState) (s m : ℕ) → IsFirst w s m → (b : WorldState) → Tame p w s b → (rounds : List (List Step)) (x : WorldState) (old : ℕ) → length w.sent ≤ old
    → Along (TameAndReady p w s m) MovedBy p.deal (steps_of rounds) x → late_in p.deal old x rounds ≡ 0 → AreOld p x → KeepsOlds p x (run_of p.deal (steps_of rounds) x) → ClearRounds p b m rounds x
clear_rounds laws p w s m f b base [] x old least h late few keeps = clear_at p w s m f b x base h.0 h.1
clear_rounds laws p w s m f b base (r ∷ rs) x old least h late few keeps =
    let deal = p.deal in
    let z = run_of deal r x in
    let parts = along-split (TameAndReady p w s m) MovedBy deal r (steps_of rs) x h in
    let here : late_steps old x.sent r ≡ 0 = omega arith in
    let rest : late_in deal (length x.sent) z rs ≡ 0 = omega arith in
    let now = along-first (TameAndReady p w s m) MovedBy deal r x parts.0 in
    let olds = keeps_both laws p r (steps_of rs) x few now.0.reached keeps in (
      quiet_steps laws p w s m f b base x.sent old least now.0.grows.sent r x [] (sym (append-nil x.sent)) parts.0 here few olds.first,
      clear_rounds laws p w s m f b base rs z (length x.sent) now.0.grows.sent parts.1 rest olds.few olds.rest,
    )

-- ---- a whole block

along-join : (P : WorldState → Type 0) (R : Step → WorldState → WorldState → Type 0) (deal : Dealing) (a b : List Step) (x : WorldState) → Along P R deal a x → Along P R deal b (run_of deal a x) → Along P R deal (a ++ b) x
along-join P R deal [] b x h k = k
along-join P R deal (s ∷ a) b x h k = (h.0, h.1, along-join P R deal a b (next deal x s) h.2 k)

-- the votes of all members at the end
has_all : (laws : Laws) (p : Course) (b : WorldState) (m v : ℕ) → Seeks p b (Only m) m v → (r1 r2 r3 r4 r5 r6 r7 : List Step) (rest : List (List Step))
    → ClearRounds p b m (r1 ∷ r2 ∷ r3 ∷ r4 ∷ r5 ∷ r6 ∷ r7 ∷ rest) b → AreLiveRounds of_steps p.live p.deal b (r1 ∷ r2 ∷ r3 ∷ r4 ∷ r5 ∷ r6 ∷ r7 ∷ rest)
    → length b.clients ≤ length rest → m < length b.clients
    → holds (client_at (run_of p.deal (steps_of (r1 ∷ r2 ∷ r3 ∷ r4 ∷ r5 ∷ r6 ∷ r7 ∷ rest)) b).clients m) v ≡ true
has_all laws p b m v f r1 r2 r3 r4 r5 r6 r7 rest all fair long within =
    let deal = p.deal in
    let P = Clear p b m in
    let R = Quietly p b m in
    let D = Only m in
    let x1 = run_of deal r1 b in
    let x2 = run_of deal r2 x1 in
    let x3 = run_of deal r3 x2 in
    let x4 = run_of deal r4 x3 in
    let x5 = run_of deal r5 x4 in
    let x6 = run_of deal r6 x5 in
    let x7 = run_of deal r7 x6 in
    let five = r1 ++ (r2 ++ (r3 ++ (r4 ++ r5))) in
    let seven = five ++ (r6 ++ r7) in
    let four = r1 ++ (r2 ++ (r3 ++ r4)) in
    let to_five : run_of deal five b ≡ x5 = run_then deal r1 (r2 ++ (r3 ++ (r4 ++ r5))) b ∙ run_then deal r2 (r3 ++ (r4 ++ r5)) x1 ∙ run_then deal r3 (r4 ++ r5) x2 ∙ run_then deal r4 r5 x3 in
    let to_seven : run_of deal seven b ≡ x7 = run_then deal five (r6 ++ r7) b ∙ ap (run_of deal (r6 ++ r7)) to_five ∙ run_then deal r6 r7 x5 in
    let to_four : run_of deal four b ≡ x4 = run_then deal r1 (r2 ++ (r3 ++ r4)) b ∙ run_then deal r2 (r3 ++ r4) x1 ∙ run_then deal r3 r4 x2 in
    let A5 : Along P R deal five b = along-join P R deal r1 (r2 ++ (r3 ++ (r4 ++ r5))) b all.0 (along-join P R deal r2 (r3 ++ (r4 ++ r5)) x1 all.1.0 (along-join P R deal r3 (r4 ++ r5) x2 all.1.1.0
    (along-join P R deal r4 r5 x3 all.1.1.1.0 all.1.1.1.1.0))) in
    let A67 : Along P R deal (r6 ++ r7) x5 = along-join P R deal r6 r7 x5 all.1.1.1.1.1.0 all.1.1.1.1.1.1.0 in
    let A7 : Along P R deal seven b = along-join P R deal five (r6 ++ r7) b A5 (subst (Along P R deal (r6 ++ r7)) (sym to_five) A67) in
    let A4 : Along P R deal four b = along-join P R deal r1 (r2 ++ (r3 ++ r4)) b all.0 (along-join P R deal r2 (r3 ++ r4) x1 all.1.0 (along-join P R deal r3 r4 x2 all.1.1.0 all.1.1.1.0)) in
    let steadily : Along (Steady p b D) MovedBy deal seven b = along-weaker P (Steady p b D) MovedBy deal (λ y h. h.steady) seven b (along-quiet P p b m seven b A7) in
    let fair_five : AreLiveRounds of_steps p.live deal b (r1 ∷ r2 ∷ r3 ∷ r4 ∷ r5 ∷ []) = (fair.0, (fair.1.0, (fair.1.1.0, (fair.1.1.1.0, (fair.1.1.1.1.0, tt))))) in
    let fair_two : AreLiveRounds of_steps p.live deal x5 (r6 ∷ r7 ∷ []) = (fair.1.1.1.1.1.0, (fair.1.1.1.1.1.1.0, tt)) in
    let ahead7 : NotBehind b m v x7 = subst (NotBehind b m v) to_seven
    (catches_up laws p b m v f r1 r2 r3 r4 r5 r6 r7 steadily fair_five (subst (λ (u : WorldState). AreLiveRounds of_steps p.live deal u (r6 ∷ r7 ∷ [])) (sym to_five) fair_two)) in
    let quiet_four : Along (Steady p b D) R deal four b = along-weaker P (Steady p b D) R deal (λ y h. h.steady) four b A4 in
    let stage4 : OwnStage Never m v x4 = subst (OwnStage Never m v) to_four (four_settle laws p b m v f r1 r2 r3 r4 b quiet_four (fair.0, (fair.1.0, (fair.1.1.0, (fair.1.1.1.0, tt))))) in
    let keep : (s : Step) (x y : WorldState) → P x → P y → R s x y → OwnStage Never m v x → OwnStage Never m v y = λ s x y before after moved. own_stage_kept laws p b m v f Never (Never-lasting v) s x y before.steady after.steady moved in
    let stage5 : OwnStage Never m v x5 = along-kept P R deal (OwnStage Never m v) keep r5 x4 all.1.1.1.1.0 stage4 in
    let stage : OwnStage Never m v x7 = subst (OwnStage Never m v) (run_then deal r6 r7 x5) (along-kept P R deal (OwnStage Never m v) keep (r6 ++ r7) x5 A67 stage5) in
    let clear7 : Clear p b m x7 = subst (Clear p b m) (run_then deal r6 r7 x5) (along-last P R deal (r6 ++ r7) x5 A67) in
    let there = has_range 0 (length b.clients) m (omega arith) (omega arith) in
    let short = shorter m (range_with_len 0 (length b.clients)) there in
    let count = length-range_with_len 0 (length b.clients) in
    let goes : run_of deal (steps_of (r1 ∷ r2 ∷ r3 ∷ r4 ∷ r5 ∷ r6 ∷ r7 ∷ rest)) b ≡ run_of deal (steps_of rest) x7 =
    run_then deal r1 (steps_of (r2 ∷ r3 ∷ r4 ∷ r5 ∷ r6 ∷ r7 ∷ rest)) b ∙ run_then deal r2 (steps_of (r3 ∷ r4 ∷ r5 ∷ r6 ∷ r7 ∷ rest)) x1 ∙ run_then deal r3 (steps_of (r4 ∷ r5 ∷ r6 ∷ r7 ∷ rest)) x2
    ∙ run_then deal r4 (steps_of (r5 ∷ r6 ∷ r7 ∷ rest)) x3 ∙ run_then deal r5 (steps_of (r6 ∷ r7 ∷ rest)) x4 ∙ run_then deal r6 (steps_of (r7 ∷ rest)) x5 ∙ run_then deal r7 (steps_of rest) x6 in
    ap (λ (u : WorldState). holds (client_at u.clients m) v) goes
    ∙ wins laws p b m v f rest x7 (remove_from m (range_with_len 0 (length b.clients))) all.1.1.1.1.1.1.1 fair.1.1.1.1.1.1.1 (omega arith) stage ahead7 (olds_others laws p b x7 m v f clear7)

block_ends : (laws : Laws) (p : Course) (w : WorldState) (c : ℕ) (r0 r1 r2 r3 r4 r5 r6 r7 : List Step) (rest : List (List Step)) → IsSure p w → Asks w c
    → AreLiveRounds of_steps p.live p.deal w (r0 ∷ r1 ∷ r2 ∷ r3 ∷ r4 ∷ r5 ∷ r6 ∷ r7 ∷ rest) → late_in p.deal 0 w (r0 ∷ r1 ∷ r2 ∷ r3 ∷ r4 ∷ r5 ∷ r6 ∷ r7 ∷ rest) ≡ 0
    → Serving p w (run_of p.deal (steps_of (r0 ∷ r1 ∷ r2 ∷ r3 ∷ r4 ∷ r5 ∷ r6 ∷ r7 ∷ rest)) w) → length w.clients ≤ length rest
    → AreOld p w → KeepsOlds p w (run_of p.deal (steps_of (r0 ∷ r1 ∷ r2 ∷ r3 ∷ r4 ∷ r5 ∷ r6 ∷ r7 ∷ rest)) w)
    → ((d : ℕ) → turns_up_to p.deal (client_at w.clients c).stamp d (steps_of (r0 ∷ r1 ∷ r2 ∷ r3 ∷ r4 ∷ r5 ∷ r6 ∷ r7 ∷ rest)) w ≡ 0)
    → ((m : ℕ) → asks_up_to (client_at w.clients c).stamp w m ≡ true → HoldsDown p (run_of p.deal (steps_of (r0 ∷ r1 ∷ r2 ∷ r3 ∷ r4 ∷ r5 ∷ r6 ∷ r7 ∷ rest)) w) m) → ⊥
block_ends laws p w c r0 r1 r2 r3 r4 r5 r6 r7 rest r asks fair late left long few keeps still down =
    let deal = p.deal in
    let s = (client_at w.clients c).stamp in
    let more = r1 ∷ r2 ∷ r3 ∷ r4 ∷ r5 ∷ r6 ∷ r7 ∷ rest in
    let b = run_of deal r0 w in
    let z = run_of deal (steps_of (r0 ∷ more)) w in
    let P = Tame p w s in
    let all = tame_along laws p w s (steps_of (r0 ∷ more)) r left still in
    let parts = along-split P MovedBy deal r0 (steps_of more) w all in
    let best = first_of w c asks in
    let m = best.0 in
    let f = best.1 in
    let asking = up_to_asks s w m f.ahead in
    let within = asks_within w m asking in
    let runs = along-weaker P (RunsOn p w m) MovedBy deal (runs_by p w s m f) r0 w parts.0 in
    let ready : Ready w s m b = record {
      known = λ v member. known_after laws p w r0 m v runs fair.0 asking member;
      away = λ d not. away_after laws p w s d not r0 parts.0 (λ inside. fair.0.leaves d (live_by p w d (along-first P MovedBy deal r0 w parts.0).left (inside_busy (client_at w.clients d).phase inside)) inside);
    } in
    let base = along-last P MovedBy deal r0 w parts.0 in
    let both = along-all P MovedBy deal (Ready w s m) (ready_kept laws p w s m f) (steps_of more) b parts.1 ready in
    let late_more : late_in deal (length w.sent) b more ≡ 0 = omega arith in
    let olds = keeps_both laws p r0 (steps_of more) w few r keeps in
    let rounds = clear_rounds laws p w s m f b base more b (length w.sent) (omega arith) both late_more olds.few olds.rest in
    let first = base.same m f.ahead in
    let end = along-last P MovedBy deal (steps_of (r0 ∷ more)) w all in
    let last = end.same m f.ahead in
    let lacks = (end.reached []).fits.lacks m (last.asks ∙ asking) in
    let count = base.grows.clients in
    false≢true (sym lacks ∙ all_hold (holds (client_at z.clients m)) (members (client_at z.clients m)) (λ v there.
    let member : is_member (client_at b.clients m) v ≡ true = ap (λ l. has l v) (first.quorum asking) ∙ ap (λ l. has l v) (sym (last.quorum asking)) ∙ there in
    elim (p.live.voter v) as (λ t. p.live.voter v ≡ t → holds (client_at z.clients m) v ≡ true) [
      | true ↦ λ up. ap (λ (u : WorldState). holds (client_at u.clients m) v) (run_then deal r0 (steps_of more) w)
          ∙ has_all laws p b m v (record { up = up; asks = refl; member = member }) r1 r2 r3 r4 r5 r6 r7 rest rounds fair.1 (omega arith) (omega arith)
      | false ↦ λ dead. down m f.ahead v there dead
    ] refl))

-- the same of any n + 8 rounds
eight_end : (laws : Laws) (p : Course) (w : WorldState) (c : ℕ) (rounds : List (List Step)) → length w.clients + 8 ≤ length rounds → IsSure p w → Asks w c → AreLiveRounds of_steps p.live p.deal w rounds
    → late_in p.deal 0 w rounds ≡ 0 → Serving p w (run_of p.deal (steps_of rounds) w) → AreOld p w → KeepsOlds p w (run_of p.deal (steps_of rounds) w)
    → ((d : ℕ) → turns_up_to p.deal (client_at w.clients c).stamp d (steps_of rounds) w ≡ 0)
    → ((m : ℕ) → asks_up_to (client_at w.clients c).stamp w m ≡ true → HoldsDown p (run_of p.deal (steps_of rounds) w) m) → ⊥
eight_end laws p w c (r0 ∷ r1 ∷ r2 ∷ r3 ∷ r4 ∷ r5 ∷ r6 ∷ r7 ∷ rest) long r asks fair late left few keeps still down =
    block_ends laws p w c r0 r1 r2 r3 r4 r5 r6 r7 rest r asks fair late left (omega arith) few keeps still down
eight_end laws p w c [] long r asks fair late left few keeps still down = omega arith
eight_end laws p w c (r0 ∷ []) long r asks fair late left few keeps still down = omega arith
eight_end laws p w c (r0 ∷ r1 ∷ []) long r asks fair late left few keeps still down = omega arith
eight_end laws p w c (r0 ∷ r1 ∷ r2 ∷ []) long r asks fair late left few keeps still down = omega arith
eight_end laws p w c (r0 ∷ r1 ∷ r2 ∷ r3 ∷ []) long r asks fair late left few keeps still down = omega arith
eight_end laws p w c (r0 ∷ r1 ∷ r2 ∷ r3 ∷ r4 ∷ []) long r asks fair late left few keeps still down = omega arith
eight_end laws p w c (r0 ∷ r1 ∷ r2 ∷ r3 ∷ r4 ∷ r5 ∷ []) long r asks fair late left few keeps still down = omega arith
eight_end laws p w c (r0 ∷ r1 ∷ r2 ∷ r3 ∷ r4 ∷ r5 ∷ r6 ∷ []) long r asks fair late left few keeps still down = omega arith

-- In these rounds some request that is not later than that of the client c begins or ends, or an old grant is given
-- back.
abbrev pub MovesIn : Course → WorldState → ℕ → List (List Step) → Type 0
MovesIn p w c rounds = AreLiveRounds of_steps p.live p.deal w rounds → late_in p.deal 0 w rounds ≡ 0 → Serving p w (run_of p.deal (steps_of rounds) w)
    → KeepsOlds p w (run_of p.deal (steps_of rounds) w) → ((d : ℕ) → turns_up_to p.deal (client_at w.clients c).stamp d (steps_of rounds) w ≡ 0) → ⊥

-- the round after n + 8 others shows that the first request lacks no vote of a voter that is down
one_more : (laws : Laws) (p : Course) (w : WorldState) (c : ℕ) (a : List (List Step)) (l : List Step) (b : List (List Step)) → length w.clients + 8 ≤ length a → IsSure p w → Asks w c → AreOld p w → MovesIn p w c (a ++ l ∷ b)
one_more laws p w c a l b long r asks few fair late left keeps still =
    let deal = p.deal in
    let s = (client_at w.clients c).stamp in
    let P = Tame p w s in
    let first = steps_of a in
    let rest = l ++ steps_of b in
    let both = steps-append a (l ∷ b) in
    let z = run_of deal first w in
    let goes : run_of deal (steps_of (a ++ l ∷ b)) w ≡ run_of deal rest z = ap (λ k. run_of deal k w) both ∙ run_then deal first rest w in
    let serves = subst (λ k. Serving p w (run_of deal k w)) both left in
    let all = tame_along laws p w s (first ++ rest) r serves (λ d. subst (λ k. turns_up_to deal s d k w ≡ 0) both (still d)) in
    let parts = along-split P MovedBy deal first rest w all in
    let there = along-first P MovedBy deal rest z parts.1 in
    let after_l = along-last P MovedBy deal l z (along-split P MovedBy deal l (steps_of b) z parts.1).0 in
    let fairs = live-split p.live deal a (l ∷ b) w fair in
    let lates = (late-split deal 0 a (l ∷ b) w).1 in
    let olds = keeps_both laws p first rest w few r (subst (λ k. KeepsOlds p w (run_of deal k w)) both keeps) in
    eight_end laws p w c a long r asks fairs.0 (omega arith) (serving_both laws p first rest w r serves).0 few olds.first
    (λ d. (let none = still d in let sum = ap (λ k. turns_up_to deal s d k w) both ∙ turns_up_to-append deal s d first rest w in omega arith))
    (λ m up.
    let asking = up_to_asks s w m up in
    let now = there.same m up in
    let later = after_l.same m up in
    holds_down p z m l fairs.1.0 (live_by p z m there.left (is_asking-busy (client_at z.clients m).phase (now.asks ∙ asking))) (now.asks ∙ asking) (record { asks = later.asks ∙ asking; same = later.stamp ∙ sym now.stamp }))

-- any b rounds of n clients are such
abbrev pub IsBlock : Course → ℕ → ℕ → Type 0
IsBlock p n b = (x : WorldState) (c : ℕ) (rounds : List (List Step)) → length x.clients ≡ n → IsSure p x → Asks x c → AreOld p x → b ≤ length rounds → MovesIn p x c rounds

pub live_is_block : (laws : Laws) (p : Course) (n : ℕ) → IsBlock p n (live_block n)
live_is_block laws p n x c rounds count r asks few long =
    let parts = split_rounds (length x.clients + 8) rounds (omega arith) in
    subst (MovesIn p x c) (sym parts.2) (by parts.0 parts.1 parts.3 (let more = parts.4 in omega arith))
  where
    by : (a b : List (List Step)) → length a ≡ length x.clients + 8 → 1 ≤ length b → MovesIn p x c (a ++ b)
    by a [] long some = absurd (omega arith)
    by a (l ∷ b) long some = one_more laws p x c a l b (omega arith) r asks few

-- if all voters are live, nobody lacks the vote of one that is down
pub full_is_block : (laws : Laws) (p : Course) (n : ℕ) → ((v : ℕ) → p.live.voter v ≡ true) → IsBlock p n (block n)
full_is_block laws p n up x c rounds count r asks few long fair late left keeps still =
    eight_end laws p x c rounds (omega arith) r asks fair late left few keeps still (λ m _ v member down. absurd (false≢true (sym down ∙ up v)))
