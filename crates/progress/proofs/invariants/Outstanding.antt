-- after every run, an INQUIRE that was sent for the current grant is outstanding, and so is one for
-- each marked vote, unless the grant is old; and a client that is hindered has no mark
use Rattle.std.proofs.Common.{◌≡◌, ℕ, ◌≤◌, true, false, List, [], ◌∷◌, ◌++◌, map, Some, Ok, refl, sym, ap, subst, ◌∙◌, inl, inr, arith}
use Rattle.std.specs.List.{AllByRecursion}
use Rattle.std.proofs.lemmas.Bool.{false≢true, false_from_ne_true}
use Rattle.numbers.proofs.Lists.{AllByRecursion-append, AllByRecursion-get, AllByRecursion-weaker}
use Rattle.message.specs.declared.message.Message.{Message}
use Rattle.message.specs.declared.message.Message.TheVariants as kinds
use Rattle.message.specs.declared.message.ToClient.{ToClient}
use Rattle.message.specs.declared.message.ClientBody.{ClientBody}
use Rattle.message.specs.declared.message.ClientBody.TheVariants as to_client
use Rattle.voter.specs.declared.state.Grant.{Grant}
use Rattle.voter.specs.declared.state.VoterState.{VoterState}
use Rattle.voter.specs.Replies.{AllCarry, AllReportPlace, ReportsPlace, seen_after}
use Rattle.voter.specs.Steps as voter
use Rattle.voter.proofs.ReplyLemmas.{AllReportPlace-remind, AreAnswers-step}
use Rattle.requester.specs.declared.state.ClientState.{ClientState}
use Rattle.requester.specs.Soundness.{IsSound}
use Rattle.requester.specs.Steps as requester
use Rattle.requester.specs.Votes.{AsksFor}
use Rattle.requester.specs.Words.{held_of, is_hindered, is_inquired}
use Rattle.requester.proofs.Messages.{VoteFate-take}
use Rattle.requester.proofs.SoundSteps.{give_up-Ok, leave-Ok}
use Rattle.world.specs.Coherence.{IsCoherent}
use Rattle.world.specs.Runs.{start}
use Rattle.world_state.specs.Steps.{WorldState, client_at, voter_at}
use Rattle.world.proofs.Exclusion.{held_under}
use Rattle.world.proofs.Reached.{new_clients}
use Rattle.progress.specs.Rules.{Laws, VoterLaws}
use Rattle.progress.proofs.invariants.Always.{is_named}
use Rattle.progress.proofs.overtaking.Behind.{ask-Ok}
use Rattle.progress.proofs.invariants.Fitting.{new_client, take-Ok}
use Rattle.progress.proofs.invariants.Inquiries.{Outlasts, Outlasts-self, Outlasts-step}
use Rattle.progress.proofs.run.Moves.{Came, ClientMoved, IsReminder, Moved, OnlySent, VoterMoved, all_sent, each_client, each_voter}

-- If the INQUIRE names the current grant, it is outstanding, unless the grant is below this number.
abbrev pub IsNoted : ℕ → VoterState → ClientBody → Type 0
IsNoted first y (to_client.Locked s g) = Unit {0}
IsNoted first y (to_client.Fail s) = Unit {0}
IsNoted first y (to_client.Inquire n) = (n ≤ y.granted) × ((g : Grant) → y.held ≡ Some g → g.grant ≡ n → first ≤ n → y.inquiring ≡ true)

abbrev pub IsNotedAt : (ℕ → ℕ) → List VoterState → Message → Type 0
IsNotedAt old vs (kinds.ToVoter m) = Unit {0}
IsNotedAt old vs (kinds.ToClient m) = IsNoted (old m.voter) (voter_at vs m.voter) m.body

-- the voter of each marked vote has asked for it, unless its grant is old
abbrev pub AreMarked : (ℕ → ℕ) → ClientState → List VoterState → Type 0
AreMarked old x vs = (v : ℕ) → is_inquired x v ≡ true → old v ≤ held_of x v → (voter_at vs v).inquiring ≡ true

-- a client that is hindered has no mark
abbrev pub IsClear : ClientState → Type 0
IsClear x = is_hindered x ≡ true → (v : ℕ) → is_inquired x v ≡ false

-- Grants of the voter v below the number `old v` are old: nothing is known of them.
pub record Outstanding (old : ℕ → ℕ) (w : WorldState) : Type 0 where
  pub noted : AllByRecursion (IsNotedAt old w.voters) w.sent
  pub marks : (d : ℕ) → AreMarked old (client_at w.clients d) w.voters
  pub clear : (d : ℕ) → IsClear (client_at w.clients d)

-- ---- a client moves

pub came_noted : (old : ℕ → ℕ) (w : WorldState) → IsCoherent w → (d v : ℕ) (m : ToClient) → AllByRecursion (IsNotedAt old w.voters) w.sent → Came w d (requester.Takes m)
    → AsksFor m (client_at w.clients d) v → old v ≤ held_of (client_at w.clients d) v → (voter_at w.voters v).inquiring ≡ true
came_noted old w ok d v m noted came asked =
    let x = client_at w.clients d in
    let names = ok.held d v (held_of x v) (held_under x v asked.held) in
    let g : Grant = record { client = d; stamp = x.stamp; grant = held_of x v } in
    let about = subst (λ b. IsNoted (old m.voter) (voter_at w.voters m.voter) b) asked.body (AllByRecursion-get (IsNotedAt old w.voters) w.sent came.1 (kinds.ToClient m) noted came.2) in
    (subst (λ i. IsNoted (old i) (voter_at w.voters i) (to_client.Inquire (held_of x v))) asked.voter about).1 g names refl

pub step-Leaves : (x : ClientState) (o : requester.Outcome) → requester.step x requester.Leaves ≡ Ok o → requester.leave x ≡ Ok o
unfolding requester.step
step-Leaves x o e = e

pub step-GivesUp : (x : ClientState) (o : requester.Outcome) → requester.step x requester.GivesUp ≡ Ok o → requester.give_up x ≡ Ok o
unfolding requester.step
step-GivesUp x o e = e

-- no voter is marked
Plain : ClientState → Type 0
Plain x = (v : ℕ) → is_inquired x v ≡ false

plain-asks : (x : ClientState) (q : List ℕ) (o : requester.Outcome) → requester.step x (requester.Asks q) ≡ Ok o → Plain o.state
unfolding Plain
plain-asks x q o step = subst (λ (p : requester.Outcome). (v : ℕ) → is_inquired p.state v ≡ false) (ask-Ok x q o step) (λ v. refl)

plain-leaves : (x : ClientState) (o : requester.Outcome) → requester.step x requester.Leaves ≡ Ok o → Plain o.state
unfolding Plain
plain-leaves x o step = subst (λ (p : requester.Outcome). (v : ℕ) → is_inquired p.state v ≡ false) (leave-Ok x o (step-Leaves x o step)).1 (λ v. refl)

plain-gives_up : (x : ClientState) (o : requester.Outcome) → requester.step x requester.GivesUp ≡ Ok o → Plain o.state
unfolding Plain
plain-gives_up x o step = subst (λ (p : requester.Outcome). (v : ℕ) → is_inquired p.state v ≡ false) (give_up-Ok x o (step-GivesUp x o step)).1 (λ v. refl)

marked_by : (old : ℕ → ℕ) (w u : WorldState) → IsCoherent w → IsCoherent u → (k : ClientMoved w u) → Outstanding old w → (cause : requester.Cause) → Came w k.who cause
    → requester.step (client_at w.clients k.who) cause ≡ Ok k.outcome → (v : ℕ) → is_inquired k.outcome.state v ≡ true → old v ≤ held_of k.outcome.state v
    → (voter_at w.voters v).inquiring ≡ true
unfolding Plain
marked_by old w u ok now k h (requester.Asks q) came step v is new = absurd (false≢true (sym (plain-asks (client_at w.clients k.who) q k.outcome step v) ∙ is))
marked_by old w u ok now k h (requester.Takes m) came step v is new =
    let x = client_at w.clients k.who in
    let same = take-Ok x m k.outcome step in
    let marked : is_inquired (requester.take x m).state v ≡ true = ap (λ (p : requester.Outcome). is_inquired p.state v) same ∙ is in
    elim (VoteFate-take x m v (ok.clients k.who)) [
      | inl stays ↦
          let before : old v ≤ held_of x v = subst (λ n. old v ≤ n) (ap (λ (p : requester.Outcome). held_of p.state v) (sym same) ∙ stays.held) new in
          elim (stays.new marked) [
            | inl was ↦ h.marks k.who v was before
            | inr asked ↦ came_noted old w ok k.who v m h.noted came asked before
          ]
      | inr (inl comes) ↦ absurd (false≢true (sym comes.inquired ∙ marked))
      | inr (inr returns) ↦ absurd (false≢true (sym returns.inquired ∙ marked))
    ]
marked_by old w u ok now k h requester.Leaves came step v is new = absurd (false≢true (sym (plain-leaves (client_at w.clients k.who) k.outcome step v) ∙ is))
marked_by old w u ok now k h requester.GivesUp came step v is new = absurd (false≢true (sym (plain-gives_up (client_at w.clients k.who) k.outcome step v) ∙ is))

clear-take : (x : ClientState) (m : ToClient) → IsSound x → IsClear x → IsClear (requester.take x m).state
clear-take x m s h hindered v = false_from_ne_true (is_inquired (requester.take x m).state v) (λ is. elim (VoteFate-take x m v s) [
  | inl stays ↦ let was = stays.clear hindered is in false≢true (sym (h was.0 v) ∙ was.1)
  | inr (inl comes) ↦ false≢true (sym comes.inquired ∙ is)
  | inr (inr returns) ↦ false≢true (sym returns.inquired ∙ is)
])

clear_by : (x : ClientState) (cause : requester.Cause) (o : requester.Outcome) → IsSound x → requester.step x cause ≡ Ok o → IsClear x → IsClear o.state
unfolding Plain
clear_by x (requester.Asks q) o s step h hindered v = plain-asks x q o step v
clear_by x (requester.Takes m) o s step h hindered v = subst (λ (p : requester.Outcome). IsClear p.state) (take-Ok x m o step) (clear-take x m s h) hindered v
clear_by x requester.Leaves o s step h hindered v = plain-leaves x o step v
clear_by x requester.GivesUp o s step h hindered v = plain-gives_up x o step v

Outstanding-client : (old : ℕ → ℕ) (w u : WorldState) → IsCoherent w → IsCoherent u → ClientMoved w u → Outstanding old w → Outstanding old u
Outstanding-client old w u ok now k h = record {
  noted = subst (λ ms. AllByRecursion (IsNotedAt old u.voters) ms) (sym k.sent) (subst (λ (vs : List VoterState). AllByRecursion (IsNotedAt old vs) (w.sent ++ map kinds.ToVoter k.outcome.out)) (sym k.voters)
      (AllByRecursion-append (IsNotedAt old w.voters) w.sent _ h.noted (all_sent (IsNotedAt old w.voters) kinds.ToVoter (λ m. tt) k.outcome.out)));
  marks = subst (λ (vs : List VoterState). (d : ℕ) → AreMarked old (client_at u.clients d) vs) (sym k.voters)
      (each_client (λ d x. AreMarked old x w.voters) w u k
      (λ v is new. marked_by old w u ok now k h k.cause k.came k.step v (subst (λ (x : ClientState). is_inquired x v ≡ true) k.here is)
      (subst (λ (x : ClientState). old v ≤ held_of x v) k.here new)) h.marks);
  clear = each_client (λ d x. IsClear x) w u k (subst (λ (x : ClientState). IsClear x) (sym k.here)
      (clear_by (client_at w.clients k.who) k.cause k.outcome (ok.clients k.who) k.step (h.clear k.who))) h.clear;
}

-- ---- a voter moves

still_noted : (first : ℕ) (y z : VoterState) → Outlasts y z → (b : ClientBody) → IsNoted first y b → IsNoted first z b
still_noted first y z later (to_client.Locked s g) h = tt
still_noted first y z later (to_client.Fail s) h = tt
still_noted first y z later (to_client.Inquire n) h =
    let few = h.0 in
    let rises = later.granted in (
      omega arith,
      λ g held number new. elim (later.grants g held) [
        | inl was ↦ was.1 (h.1 g was.0 number new)
        | inr later_grant ↦ absurd (omega arith)
      ],
    )

noted_later : (old : ℕ → ℕ) (vs us : List VoterState) → ((v : ℕ) → Outlasts (voter_at vs v) (voter_at us v)) → (m : Message) → IsNotedAt old vs m → IsNotedAt old us m
noted_later old vs us later (kinds.ToVoter m) h = tt
noted_later old vs us later (kinds.ToClient m) h = still_noted (old m.voter) (voter_at vs m.voter) (voter_at us m.voter) (later m.voter) m.body h

noted_now : (first : ℕ) (y : VoterState) (client : ℕ) (b : ClientBody) → voter.IsSound y → ReportsPlace y client b → IsNoted first y b
noted_now first y client (to_client.Locked s g) ok place = tt
noted_now first y client (to_client.Fail s) ok place = tt
noted_now first y client (to_client.Inquire n) ok place =
    (let number = place.3 in let few = ok.numbered place.0 place.1 in omega arith, λ g held same new. place.4)

replies_noted : (old : ℕ → ℕ) (vs : List VoterState) (v seen : ℕ) (y : VoterState) → voter_at vs v ≡ y → voter.IsSound y → (rs : List ToClient) → AllReportPlace y rs
    → AllCarry v seen rs → AllByRecursion (IsNotedAt old vs) (map kinds.ToClient rs)
replies_noted old vs v seen y is ok [] place carry = tt
replies_noted old vs v seen y is ok (r ∷ rs) place carry = (
  subst (λ (z : VoterState). IsNoted (old r.voter) z r.body) (sym (ap (voter_at vs) carry.0.0 ∙ is)) (noted_now (old r.voter) y r.client r.body ok place.0),
  replies_noted old vs v seen y is ok rs place.1 carry.1,
)

pub Outlasts-voter : (w u : WorldState) → (k : VoterMoved w u) → (v : ℕ) → Outlasts (voter_at w.voters v) (voter_at u.voters v)
Outlasts-voter w u k = each_voter (λ v y. Outlasts (voter_at w.voters v) y) w u k (Outlasts-step (voter_at w.voters k.message.voter) k.message k.outcome k.step)
    (λ v. Outlasts-self (voter_at w.voters v))

Outstanding-voter : (laws : VoterLaws) (old : ℕ → ℕ) (w u : WorldState) → IsCoherent w → IsCoherent u → VoterMoved w u → Outstanding old w → Outstanding old u
Outstanding-voter laws old w u ok now k h =
    let v = k.message.voter in
    let y = voter_at w.voters v in
    let later = Outlasts-voter w u k in
    let carried = (laws.carries y k.message k.outcome k.step).carried in
    let sound = subst voter.IsSound k.here (now.voters v) in
    record {
      noted = subst (λ ms. AllByRecursion (IsNotedAt old u.voters) ms) (sym k.sent) (AllByRecursion-append (IsNotedAt old u.voters) w.sent _
          (AllByRecursion-weaker (IsNotedAt old w.voters) (IsNotedAt old u.voters) (noted_later old w.voters u.voters later) w.sent h.noted)
          (replies_noted old u.voters v (seen_after y.seen k.message.body) k.outcome.state k.here sound k.outcome.replies
          (AreAnswers-step y k.message k.outcome (ok.voters v) k.step).place
          (subst (λ i. AllCarry i (seen_after y.seen k.message.body) k.outcome.replies) (is_named w u ok k) carried)));
      marks = λ d q is fresh.
          let before : is_inquired (client_at w.clients d) q ≡ true = ap (λ cs. is_inquired (client_at cs d) q) (sym k.clients) ∙ is in
          let x = client_at u.clients d in
          let has = (now.clients d).inquired q is in
          let names = now.held d q (held_of x q) (held_under x q has) in
          let g : Grant = record { client = d; stamp = x.stamp; grant = held_of x q } in
          let x0 = client_at w.clients d in
          let had = (ok.clients d).inquired q before in
          let named = ok.held d q (held_of x0 q) (held_under x0 q had) in
          let had_grant : Grant = record { client = d; stamp = x0.stamp; grant = held_of x0 q } in
          let number = (ok.voters q).numbered had_grant named in
          let same : held_of x q ≡ held_of x0 q = ap (λ cs. held_of (client_at cs d) q) k.clients in
          elim ((later q).grants g names) [
            | inl was ↦ was.1 (h.marks d q before (subst (λ n. old q ≤ n) same fresh))
            | inr new ↦ absurd (omega arith)
          ];
      clear = subst (λ (cs : List ClientState). (d : ℕ) → IsClear (client_at cs d)) (sym k.clients) h.clear;
    }

-- ---- messages alone

reminder_noted : (laws : VoterLaws) (old : ℕ → ℕ) (w : WorldState) → IsCoherent w → (more : List Message) → IsReminder w more → AllByRecursion (IsNotedAt old w.voters) more
reminder_noted laws old w ok more said = elim said [
  | inl out ↦ subst (λ ms. AllByRecursion (IsNotedAt old w.voters) ms) (sym out.1) (all_sent (IsNotedAt old w.voters) kinds.ToVoter (λ m. tt) out.0)
  | inr v ↦
      let y = voter_at w.voters v.0 in
      subst (λ ms. AllByRecursion (IsNotedAt old w.voters) ms) (sym v.2) (replies_noted old w.voters v.0 y.seen y refl (ok.voters v.0) (voter.remind y) (AllReportPlace-remind y)
      (subst (λ i. AllCarry i y.seen (voter.remind y)) (ok.numbered.voters v.0 v.1) (laws.remembers y)))
]

Outstanding-sent : (laws : VoterLaws) (old : ℕ → ℕ) (w u : WorldState) → IsCoherent w → OnlySent w u → Outstanding old w → Outstanding old u
Outstanding-sent laws old w u ok k h = record {
  noted = subst (λ (vs : List VoterState). AllByRecursion (IsNotedAt old vs) u.sent) (sym k.voters) (subst (λ ms. AllByRecursion (IsNotedAt old w.voters) ms) (sym k.sent)
      (AllByRecursion-append (IsNotedAt old w.voters) w.sent k.more h.noted (reminder_noted laws old w ok k.more k.reminder)));
  marks = subst (λ (vs : List VoterState). (d : ℕ) → AreMarked old (client_at u.clients d) vs) (sym k.voters)
      (subst (λ (cs : List ClientState). (d : ℕ) → AreMarked old (client_at cs d) w.voters) (sym k.clients) h.marks);
  clear = subst (λ (cs : List ClientState). (d : ℕ) → IsClear (client_at cs d)) (sym k.clients) h.clear;
}

pub Outstanding-moved : (laws : Laws) (old : ℕ → ℕ) (w u : WorldState) → IsCoherent w → IsCoherent u → Moved w u → Outstanding old w → Outstanding old u
Outstanding-moved laws old w u ok now moved h = elim moved [
  | inl client ↦ Outstanding-client old w u ok now client h
  | inr (inl voter) ↦ Outstanding-voter laws.voter old w u ok now voter h
  | inr (inr sent) ↦ Outstanding-sent laws.voter old w u ok sent h
]

-- ---- every run

pub Outstanding-start : (old : ℕ → ℕ) (voters clients limit : ℕ) → Outstanding old (start voters clients limit)
unfolding new_clients
Outstanding-start old voters clients limit = record {
  noted = tt;
  marks = λ d v is new. (let x = new_client clients limit d in absurd (false≢true (ap (λ (z : ClientState). is_inquired z v) (sym x.2) ∙ is)));
  clear = λ d. (let x = new_client clients limit d in subst (λ (z : ClientState). IsClear z) (sym x.2) (λ hindered v. refl));
}
