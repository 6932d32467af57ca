-- what is so of every message that was ever sent, of every vote that is held, and of every client and voter
use Rattle.std.proofs.Common.{◌≡◌, ℕ, ◌<◌, ◌≤◌, true, false, cond, List, [], Option, Some, refl, sym, ap, subst, ◌∙◌, ◌⊎◌, inl, inr, arith, eqb, ltb}
use Rattle.std.specs.List.{AllByRecursion}
use Rattle.std.proofs.lemmas.Bool.{false≢true}
use Rattle.std.proofs.lemmas.Bool.Decides.{nat_tests}
use Rattle.numbers.proofs.Lists.{AllByRecursion-weaker}
use Rattle.numbers.proofs.Options.{false-by}
use Rattle.message.specs.declared.message.Message.{Message}
use Rattle.message.specs.declared.message.Message.TheVariants as kinds
use Rattle.message.specs.declared.message.VoterBody.{VoterBody}
use Rattle.message.specs.declared.message.VoterBody.TheVariants as asks
use Rattle.message.specs.declared.message.ClientBody.{ClientBody}
use Rattle.message.specs.declared.message.ClientBody.TheVariants as to_client
use Rattle.voter.specs.declared.state.Grant.{Grant}
use Rattle.voter.specs.declared.state.VoterState.{VoterState}
use Rattle.voter.specs.Steps as voter
use Rattle.voter.specs.VoterContract.{Ends, IsEntry}
use Rattle.requester.specs.declared.state.ClientState.{ClientState}
use Rattle.requester.specs.RequesterContract.{IsLater, IsLive}
use Rattle.requester.specs.Soundness as sound
use Rattle.requester.specs.Words.{is_idle, members, last_of}
pub use Rattle.world.specs.Coherence.{Names, AskOk, ReportOk, MessageOk, HeldOk}
use Rattle.world.specs.Ranges.{AreInRange, IsWithin}
use Rattle.world.specs.Visible.{IsAmong}

-- how many voters and clients there are, how far numbers go, and the quorums
pub record Bounds : Type 0 where
  pub voters : ℕ
  pub clients : ℕ
  pub limit : ℕ
  pub quorums : List (List ℕ)

pub record ClientOk (b : Bounds) (x : ClientState) : Type 0 where
  pub sound : sound.IsSound x
  pub quorum : (members x ≡ []) ⊎ IsAmong b.quorums (members x)

-- the client has this number, and its stamps go this far
pub record IsClient (number most : ℕ) (x : ClientState) : Type 0 where
  pub id : x.id ≡ number
  pub limit : x.limit ≡ most

-- a request that a voter knows is one that its client made
pub record EntryOk (b : Bounds) (X : ℕ → ClientState) (c s : ℕ) : Type 0 where
  pub client : c < b.clients
  pub stamp : IsWithin b.limit s
  pub reached : s ≤ (X c).stamp

pub record VoterOk (b : Bounds) (X : ℕ → ClientState) (y : VoterState) : Type 0 where
  pub sound : voter.IsSound y
  pub entries : (c s : ℕ) → IsEntry y c s → EntryOk b X c s
  pub numbered : (g : Grant) → y.held ≡ Some g → 1 ≤ g.grant
  pub limit : y.limit ≤ b.limit
  pub seen : y.seen ≤ b.limit

pub record WorldOk (b : Bounds) (X : ℕ → ClientState) (Y : ℕ → VoterState) (sent : List Message) : Type 0 where
  pub messages : AllByRecursion (MessageOk X Y) sent
  pub ranges : AreInRange b.voters b.clients b.limit sent
  pub held : HeldOk X Y
  -- each grant that a client gave back last was given by its voter
  pub last : (c v : ℕ) → last_of (X c) v ≤ (Y v).granted
  pub clients : (c : ℕ) → ClientOk b (X c)
  pub voters : (v : ℕ) → VoterOk b X (Y v)
  pub client_ids : (c : ℕ) → c < b.clients → IsClient c b.limit (X c)
  pub voter_ids : (v : ℕ) → v < b.voters → (Y v).id ≡ v

-- ---- a client goes on

is_idle-before : (x y : ClientState) → (x.stamp ≡ y.stamp → is_idle x.phase ≡ true → is_idle y.phase ≡ true) → x.stamp ≡ y.stamp → is_idle y.phase ≡ false → is_idle x.phase ≡ false
is_idle-before x y idle same busy = false-by (is_idle x.phase) (is_idle y.phase) (idle same) busy

pub IsLive-before : (x y : ClientState) (v s g : ℕ) → IsLater x y → s ≤ x.stamp → IsLive y v s g → IsLive x v s g
IsLive-before x y v s g later known live =
    let rises = later.stamp in
    let now = live.current in
    let same : x.stamp ≡ y.stamp = omega arith in
    let over = later.last v in
    let above = live.fresh in
    record { busy = is_idle-before x y later.idle same live.busy; current = now ∙ sym same; fresh = omega arith }

-- The client at a later time. It may have lost all but its stamp, and is then idle. No LOCKED counts
-- again that counted no more.
pub record IsAfter (x y : ClientState) : Type 0 where
  pub stamp : x.stamp ≤ y.stamp
  pub idle : x.stamp ≡ y.stamp → is_idle x.phase ≡ true → is_idle y.phase ≡ true
  pub live : (v s g : ℕ) → s ≤ x.stamp → IsLive y v s g → IsLive x v s g

pub IsAfter-later : (x y : ClientState) → IsLater x y → IsAfter x y
IsAfter-later x y later = record { stamp = later.stamp; idle = later.idle; live = λ v s g known live. IsLive-before x y v s g later known live }

pub IsAfter-self : (x : ClientState) → IsAfter x x
IsAfter-self x = record { stamp = omega arith; idle = λ _ idle. idle; live = λ v s g known live. live }

-- whatever an idle client lost, if no stamp falls
pub IsAfter-idle : (x y : ClientState) → x.stamp ≤ y.stamp → is_idle y.phase ≡ true → IsAfter x y
IsAfter-idle x y rises idle = record { stamp = rises; idle = λ _ _. idle; live = λ v s g known live. absurd (false≢true (sym live.busy ∙ idle)) }

less_or_same : (a b : ℕ) → a ≤ b → (a < b) ⊎ (a ≡ b)
less_or_same a b h = elim (ltb a b) as (λ t. ltb a b ≡ t → (a < b) ⊎ (a ≡ b)) [
  | true ↦ λ t. inl (grind (arith, nat_tests))
  | false ↦ λ t. inr (grind (arith, nat_tests))
] refl

-- the voter's vote is granted to requests that this client reached
abbrev VoteIsKnown : ClientState → VoterState → ℕ → Type 0
VoteIsKnown x w c = (s g : ℕ) → Names w.held c s g → s ≤ x.stamp

ask_later : (x y : ClientState) (w : VoterState) (v c : ℕ) (b : VoterBody) → IsAfter x y → VoteIsKnown x w c → AskOk x w v c b → AskOk y w v c b
ask_later x y w v c (asks.Request s) later known ok = let rises = later.stamp in omega arith
ask_later x y w v c (asks.Relinquish g) later known ok = (ok.0, λ s live names. ok.1 s (later.live v s g (known s g names) live) names)
ask_later x y w v c (asks.Release s) later known ok =
    let rises = later.stamp in
    let most = ok.0 in (
      omega arith,
      λ busy. elim (less_or_same x.stamp y.stamp rises) [
        | inl less ↦ omega arith
        | inr same ↦ let before = ok.1 (is_idle-before x y later.idle same busy) in omega arith
      ],
    )

report_later : (x y : ClientState) (held : Option Grant) (v c : ℕ) (b : ClientBody) → IsAfter x y → ReportOk x held v c b → ReportOk y held v c b
report_later x y held v c (to_client.Locked s g) later ok =
    let rises = later.stamp in
    let known = ok.0 in
    (omega arith, λ live. ok.1 (later.live v s g known live))
report_later x y held v c (to_client.Fail s) later ok = tt
report_later x y held v c (to_client.Inquire g) later ok = tt

-- each voter's vote is granted to a request that its client reached
abbrev AreKnown : (ℕ → ClientState) → (ℕ → VoterState) → Type 0
AreKnown X Y = (v c : ℕ) → VoteIsKnown (X c) (Y v) c

message_later : (X W : ℕ → ClientState) (Y : ℕ → VoterState) → ((c : ℕ) → IsAfter (X c) (W c)) → AreKnown X Y → (m : Message) → MessageOk X Y m → MessageOk W Y m
message_later X W Y later known (kinds.ToVoter m) ok = ask_later (X m.client) (W m.client) (Y m.voter) m.voter m.client m.body (later m.client) (known m.voter m.client) ok
message_later X W Y later known (kinds.ToClient m) ok = report_later (X m.client) (W m.client) (Y m.voter).held m.voter m.client m.body (later m.client) ok

pub VoterOk-later : (b : Bounds) (X W : ℕ → ClientState) → ((c : ℕ) → IsAfter (X c) (W c)) → (y : VoterState) → VoterOk b X y → VoterOk b W y
VoterOk-later b X W later y ok = record {
  sound = ok.sound;
  entries = λ c s is.
      let e = ok.entries c s is in
      let rises = (later c).stamp in
      let known = e.reached in
      record { client = e.client; stamp = e.stamp; reached = omega arith };
  numbered = ok.numbered;
  limit = ok.limit;
  seen = ok.seen;
}

-- ---- a vote moves

-- a message that is so ends no vote that its holder may still count
pub AskOk-not_ends : (x : ClientState) (y : VoterState) (v c : ℕ) (b : VoterBody) (h : Grant) → AskOk x y v c b → y.held ≡ Some h → IsLive x v h.stamp h.grant → Ends c b h → ⊥
AskOk-not_ends x y v c (asks.Request s) h ok held live ends = let now = live.current in let less = ends.1 in omega arith
AskOk-not_ends x y v c (asks.Relinquish g) h ok held live ends =
    ok.1 h.stamp (subst (λ n. IsLive x v h.stamp n) ends.1 live) (subst (λ n. Names y.held c h.stamp n) ends.1 (subst (λ n. Names y.held n h.stamp h.grant) ends.0 held))
AskOk-not_ends x y v c (asks.Release s) h ok held live ends = let now = live.current in let most = ends.1 in let less = ok.1 live.busy in omega arith

pub Ends-client : (c : ℕ) (b : VoterBody) (h : Grant) → Ends c b h → h.client ≡ c
Ends-client c (asks.Request s) h ends = ends.0
Ends-client c (asks.Relinquish g) h ends = ends.0
Ends-client c (asks.Release s) h ends = ends.0

-- how the votes of all voters change in one step
abbrev pub VotesKeep : (ℕ → VoterState) → (ℕ → VoterState) → (ℕ → Grant → Type 0) → Type 0
VotesKeep Y Z Killed = (v : ℕ) (h : Grant) → (Y v).held ≡ Some h → ((Z v).held ≡ Some h) ⊎ Killed v h

-- a voter's grants are no fewer, and one that has the vote had it before or has a greater number
abbrev pub GrantsMore : VoterState → VoterState → Type 0
GrantsMore y z = (y.granted ≤ z.granted) × ((h : Grant) → z.held ≡ Some h → (y.held ≡ Some h) ⊎ (y.granted < h.grant))

pub GrantsMore-self : (y : VoterState) → GrantsMore y y
GrantsMore-self y = (omega arith, λ h held. inl held)

ask_keeps : (x : ClientState) (y z : VoterState) (v c : ℕ) (b : VoterBody) → GrantsMore y z → AskOk x y v c b → AskOk x z v c b
ask_keeps x y z v c (asks.Request s) more ok = ok
ask_keeps x y z v c (asks.Relinquish g) more ok = (
  (let rises = more.0 in let few = ok.0 in omega arith),
  λ s live names. elim (more.1 (record { client = c; stamp = s; grant = g }) names) [ inl was ↦ ok.1 s live was | inr new ↦ (let few = ok.0 in absurd (omega arith)) ],
)
ask_keeps x y z v c (asks.Release s) more ok = ok

-- no vote that its holder may still count is ended
abbrev pub SparesCounted : (ℕ → ClientState) → (ℕ → Grant → Type 0) → Type 0
SparesCounted X Killed = (v : ℕ) (h : Grant) → IsLive (X h.client) v h.stamp h.grant → Killed v h → ⊥

pub Names-still : (Y Z : ℕ → VoterState) (X : ℕ → ClientState) (Killed : ℕ → Grant → Type 0) → VotesKeep Y Z Killed → SparesCounted X Killed
    → (v c s g : ℕ) → IsLive (X c) v s g → Names (Y v).held c s g → Names (Z v).held c s g
Names-still Y Z X Killed keep spares v c s g live names = elim (keep v (record { client = c; stamp = s; grant = g }) names) [
  | inl kept ↦ kept
  | inr killed ↦ absurd (spares v (record { client = c; stamp = s; grant = g }) live killed)
]

report_keeps : (X : ℕ → ClientState) (Y Z : ℕ → VoterState) (Killed : ℕ → Grant → Type 0) → VotesKeep Y Z Killed → SparesCounted X Killed
    → (v c : ℕ) (b : ClientBody) → ReportOk (X c) (Y v).held v c b → ReportOk (X c) (Z v).held v c b
report_keeps X Y Z Killed keep spares v c (to_client.Locked s g) ok = (ok.0, λ live. Names-still Y Z X Killed keep spares v c s g live (ok.1 live))
report_keeps X Y Z Killed keep spares v c (to_client.Fail s) ok = tt
report_keeps X Y Z Killed keep spares v c (to_client.Inquire g) ok = tt

message_keeps : (X : ℕ → ClientState) (Y Z : ℕ → VoterState) (Killed : ℕ → Grant → Type 0) → VotesKeep Y Z Killed → SparesCounted X Killed
    → ((v : ℕ) → GrantsMore (Y v) (Z v)) → (m : Message) → MessageOk X Y m → MessageOk X Z m
message_keeps X Y Z Killed keep spares more (kinds.ToVoter m) ok = ask_keeps (X m.client) (Y m.voter) (Z m.voter) m.voter m.client m.body (more m.voter) ok
message_keeps X Y Z Killed keep spares more (kinds.ToClient m) ok = report_keeps X Y Z Killed keep spares m.voter m.client m.body ok

-- ---- lists of messages

pub MessageOk-keep : (X : ℕ → ClientState) (Y Z : ℕ → VoterState) (Killed : ℕ → Grant → Type 0) → VotesKeep Y Z Killed → SparesCounted X Killed
    → ((v : ℕ) → GrantsMore (Y v) (Z v)) → (ms : List Message) → AllByRecursion (MessageOk X Y) ms → AllByRecursion (MessageOk X Z) ms
MessageOk-keep X Y Z Killed keep spares more ms h = AllByRecursion-weaker (MessageOk X Y) (MessageOk X Z) (message_keeps X Y Z Killed keep spares more) ms h

pub MessageOk-later : (b : Bounds) (X W : ℕ → ClientState) (Y : ℕ → VoterState) → ((c : ℕ) → IsAfter (X c) (W c)) → ((v : ℕ) → VoterOk b X (Y v))
    → (ms : List Message) → AllByRecursion (MessageOk X Y) ms → AllByRecursion (MessageOk W Y) ms
MessageOk-later b X W Y later voters ms h =
    let known : AreKnown X Y = λ v c s g names. ((voters v).entries c s (inl (record { client = c; stamp = s; grant = g }, names, refl, refl))).reached in
    AllByRecursion-weaker (MessageOk X Y) (MessageOk W Y) (message_later X W Y later known) ms h

-- ---- one client, one voter changes

abbrev pub put : {A : Type 0} → (ℕ → A) → ℕ → A → ℕ → A
put X c x q = cond (eqb q c) x (X q)

pub put-each : {A : Type 0} (P : ℕ → A → Type 0) (X : ℕ → A) (c : ℕ) (x : A) → P c x → ((q : ℕ) → P q (X q)) → (q : ℕ) → P q (put X c x q)
put-each P X c x here others q = elim (eqb q c) as (λ b. eqb q c ≡ b → P q (cond b x (X q))) [
  | true ↦ λ e. let same : c ≡ q = grind (arith, nat_tests) in subst (λ n. P n x) same here
  | false ↦ λ _. others q
] refl

pub put-same : {A : Type 0} (X : ℕ → A) (c : ℕ) (x : A) → put X c x c ≡ x
put-same X c x = ap (λ b. cond b x (X c)) (let e : eqb c c ≡ true = grind (arith, nat_tests) in e)
