-- what a client's step keeps so
use Rattle.std.proofs.Common.{◌≡◌, ℕ, ◌<◌, ◌≤◌, true, false, List, [], ◌∷◌, ◌++◌, map, Ok, refl, sym, ap, subst, ◌∙◌, ◌⊎◌, inl, inr, arith, eqb}
use Rattle.std.specs.Prelude.{◌||◌}
use Rattle.std.proofs.lemmas.List.Elements.{recursion_from_All}
use Rattle.std.specs.List.{All, AllByRecursion}
use Rattle.std.proofs.lemmas.Bool.{false≢true}
use Rattle.std.proofs.lemmas.Bool.Decides.{nat_tests}
use Rattle.numbers.proofs.Lists.{AllByRecursion-append}
use Rattle.numbers.specs.Sets.{has}
use Rattle.message.specs.declared.message.ToVoter.{ToVoter}
use Rattle.message.specs.declared.message.Message.{Message}
use Rattle.message.specs.declared.message.Message.TheVariants as kinds
use Rattle.message.specs.declared.message.VoterBody.{VoterBody}
use Rattle.message.specs.declared.message.VoterBody.TheVariants as asks
use Rattle.message.specs.Lines.{voter_number}
use Rattle.voter.specs.declared.state.VoterState.{VoterState}
use Rattle.requester.specs.declared.state.ClientState.{ClientState}
use Rattle.requester.specs.RequesterContract.{Accepts, AllInRange, AllRepeat, AllSay, ComesInRange, IsLater, IsLive, IsLocked, IsReached, KeepsQuorum, RemindersInRange, Repeats, Says, SaysInRange}
use Rattle.requester.specs.Steps as client
use Rattle.requester.specs.Words.{is_member, members, holds_under, last_of}
use Rattle.world.specs.Ranges.{AreInRange, IsInRange, IsWithin}
use Rattle.world.specs.Visible.{AreQuorums, IsAmong}
use Rattle.world.specs.Rules.{ClientLaws}
use Rattle.world.proofs.Claims.{Bounds, Names, AskOk, MessageOk, ClientOk, IsClient, VoterOk, WorldOk, IsAfter, IsAfter-later, IsAfter-self, IsLive-before, VoterOk-later}
use Rattle.world.proofs.Claims.{MessageOk-later, put, put-each, put-same}

-- what came: each LOCKED names voters and stamps that are in range, and is so
abbrev pub CameTrue : Bounds → ClientState → (ℕ → VoterState) → ℕ → client.Cause → Type 0
CameTrue b x Y c cause = (v s g : ℕ) → IsLocked cause v s g → (v < b.voters) × IsWithin b.limit s × (s ≤ x.stamp) × (IsLive x v s g → Names (Y v).held c s g)

-- the quorum that is asked is one of the quorums
abbrev pub Draws : Bounds → client.Cause → Type 0
Draws b (client.Asks quorum) = IsAmong b.quorums quorum
Draws b (client.Takes m) = Unit {0}
Draws b client.Leaves = Unit {0}
Draws b client.GivesUp = Unit {0}

-- a vote that is held has a grant from 1 to the limit
grant_within : (b : Bounds) (X : ℕ → ClientState) (y : VoterState) (c s g : ℕ) → VoterOk b X y → Names y.held c s g → IsWithin b.limit g
grant_within b X y c s g ok names =
    let least = ok.numbered (record { client = c; stamp = s; grant = g }) names in
    let given = ok.sound.numbered (record { client = c; stamp = s; grant = g }) names in
    let most = ok.sound.granted in
    let far = ok.limit in
    (least, omega arith)

-- ---- what is sent

-- a grant that a client gave back last counts no more
last_not_live : (x : ClientState) (v s g : ℕ) → g ≡ last_of x v → IsLive x v s g → ⊥
last_not_live x v s g same live = let above = live.fresh in omega arith

says_ok : (b : Bounds) (x y : ClientState) (X : ℕ → ClientState) (Y : ℕ → VoterState) (c : ℕ) (cause : client.Cause) → ((v : ℕ) → VoterOk b X (Y v))
    → ((v g : ℕ) → holds_under x v g ≡ true → Names (Y v).held c x.stamp g) → CameTrue b x Y c cause → IsLater x y
    → (v : ℕ) (body : VoterBody) → Says x cause y v body → AskOk y (Y v) v c body
says_ok b x y X Y c cause voters held came later v (asks.Request s) says = let same = says in omega arith
says_ok b x y X Y c cause voters held came later v (asks.Relinquish g) says =
    ((voters v).sound.numbered (record { client = c; stamp = x.stamp; grant = g }) (held v g says.1), λ s live names. last_not_live y v s g says.0 live)
says_ok b x y X Y c cause voters held came later v (asks.Release s) says = elim says [
  | inl own ↦ (let same = own.0 in omega arith, λ busy. absurd (false≢true (sym busy ∙ own.1)))
  | inr other ↦
      let was = came v s other.0.0 other.0.1 in
      let known = was.2 in
      let rises = later.stamp in (
        omega arith,
        λ busy. elim other.1 [
          | inl idle ↦ absurd (false≢true (sym busy ∙ idle))
          | inr apart ↦ omega arith
        ],
      )
]

number_within : (b : Bounds) (x y : ClientState) (X : ℕ → ClientState) (Y : ℕ → VoterState) (cause : client.Cause) (c : ℕ) → ((v : ℕ) → VoterOk b X (Y v))
    → ((v g : ℕ) → holds_under x v g ≡ true → Names (Y v).held c x.stamp g) → y.limit ≡ b.limit
    → (v : ℕ) (body : VoterBody) → Says x cause y v body → SaysInRange y.limit body → IsWithin b.limit (voter_number body)
number_within b x y X Y cause c voters held limit v (asks.Request s) says within = let most = within.1 in (within.0, omega arith)
number_within b x y X Y cause c voters held limit v (asks.Relinquish g) says within = grant_within b X (Y v) c x.stamp g (voters v) (held v g says.1)
number_within b x y X Y cause c voters held limit v (asks.Release s) says within = let most = within.1 in (within.0, omega arith)

-- a member of one of the quorums is a voter
has_below : (n : ℕ) (q : List ℕ) (v : ℕ) → AllByRecursion (λ i. i < n) q → has q v ≡ true → v < n
has_below n [] v all is = absurd (false≢true is)
has_below n (x ∷ xs) v all is = elim (eqb x v) as (λ b. eqb x v ≡ b → (b || has xs v) ≡ true → v < n) [
  | true ↦ λ e _. let same : x ≡ v = grind (arith, nat_tests) in let below = all.0 in omega arith
  | false ↦ λ _ rest. has_below n xs v all.1 rest
] refl is

pub member_below : (b : Bounds) → AreQuorums b.voters b.quorums → (x : ClientState) → (members x ≡ []) ⊎ IsAmong b.quorums (members x) → (v : ℕ) → is_member x v ≡ true → v < b.voters
member_below b are x quorum v is = elim quorum [
  | inl none ↦ absurd (false≢true (ap (λ (q : List ℕ). has q v) (sym none) ∙ is))
  | inr j ↦ has_below b.voters (members x) v (recursion_from_All (λ i. i < b.voters) (members x) (subst (λ (q : List ℕ). All (λ i. i < b.voters) q) (sym j.2) (are.in_range j.0 [] j.1))) is
]

reached_below : (b : Bounds) → AreQuorums b.voters b.quorums → (x y : ClientState) (Y : ℕ → VoterState) (c : ℕ) (cause : client.Cause) → CameTrue b x Y c cause
    → (members y ≡ []) ⊎ IsAmong b.quorums (members y) → (v : ℕ) → IsReached cause y v → v < b.voters
reached_below b are x y Y c cause came quorum v reached = elim reached [
  | inl member ↦ member_below b are y quorum v member
  | inr locked ↦ (came v locked.0 locked.1.0 locked.1.1).0
]

quorum_after : (b : Bounds) (x y : ClientState) (cause : client.Cause) → Draws b cause → KeepsQuorum x cause y → (members x ≡ []) ⊎ IsAmong b.quorums (members x)
    → (members y ≡ []) ⊎ IsAmong b.quorums (members y)
quorum_after b x y (client.Asks quorum) draws keeps was = inr (subst (λ (q : List ℕ). IsAmong b.quorums q) (sym keeps) draws)
quorum_after b x y (client.Takes m) draws keeps was = subst (λ (q : List ℕ). (q ≡ []) ⊎ IsAmong b.quorums q) (sym keeps.0) was
quorum_after b x y client.Leaves draws keeps was = subst (λ (q : List ℕ). (q ≡ []) ⊎ IsAmong b.quorums q) (sym keeps.0) was
quorum_after b x y client.GivesUp draws keeps was = subst (λ (q : List ℕ). (q ≡ []) ⊎ IsAmong b.quorums q) (sym keeps.0) was

-- what is known of one message that a client sends
record SentByClient (b : Bounds) (c : ℕ) (y : ClientState) (Y : ℕ → VoterState) (m : ToVoter) : Type 0 where
  client : m.client ≡ c
  voter : m.voter < b.voters
  number : IsWithin b.limit (voter_number m.body)
  ok : AskOk y (Y m.voter) m.voter c m.body

asks_ok : (b : Bounds) (W : ℕ → ClientState) (Y : ℕ → VoterState) (c : ℕ) (y : ClientState) → W c ≡ y → (out : List ToVoter) → AllByRecursion (SentByClient b c y Y) out
    → AllByRecursion (MessageOk W Y) (map kinds.ToVoter out)
asks_ok b W Y c y is [] h = tt
asks_ok b W Y c y is (m ∷ ms) h = (
  subst (λ n. AskOk (W n) (Y m.voter) m.voter n m.body) (sym h.0.client) (subst (λ (w : ClientState). AskOk w (Y m.voter) m.voter c m.body) (sym is) h.0.ok),
  asks_ok b W Y c y is ms h.1,
)

asks_range : (b : Bounds) (c : ℕ) (y : ClientState) (Y : ℕ → VoterState) → c < b.clients → (out : List ToVoter) → AllByRecursion (SentByClient b c y Y) out
    → AreInRange b.voters b.clients b.limit (map kinds.ToVoter out)
asks_range b c y Y within [] h = tt
asks_range b c y Y within (m ∷ ms) h = ((subst (λ n. n < b.clients) (sym h.0.client) within, h.0.voter, h.0.number), asks_range b c y Y within ms h.1)

all_sent : (b : Bounds) → AreQuorums b.voters b.quorums → (X : ℕ → ClientState) (Y : ℕ → VoterState) → ((v : ℕ) → VoterOk b X (Y v)) → (c : ℕ) (x y : ClientState) (cause : client.Cause) → x.id ≡ c
    → ((v g : ℕ) → holds_under x v g ≡ true → Names (Y v).held c x.stamp g) → y.limit ≡ b.limit → IsLater x y
    → (members y ≡ []) ⊎ IsAmong b.quorums (members y) → CameTrue b x Y c cause
    → (out : List ToVoter) → AllSay x cause y out → AllInRange cause y out → AllByRecursion (SentByClient b c y Y) out
all_sent b are X Y voters c x y cause id held limit later quorum came [] say range = tt
all_sent b are X Y voters c x y cause id held limit later quorum came (m ∷ ms) say range = (
  record {
    client = say.0.0 ∙ id;
    voter = reached_below b are x y Y c cause came quorum m.voter range.0.0;
    number = number_within b x y X Y cause c voters held limit m.voter m.body say.0.1 range.0.2;
    ok = says_ok b x y X Y c cause voters held came later m.voter m.body say.0.1;
  },
  all_sent b are X Y voters c x y cause id held limit later quorum came ms say.1 range.1,
)

-- ---- a client takes a step

comes_in_range : (b : Bounds) (x : ClientState) (Y : ℕ → VoterState) (c : ℕ) (cause : client.Cause) → x.limit ≡ b.limit → CameTrue b x Y c cause → ComesInRange x.limit cause
comes_in_range b x Y c cause limit came = λ v s g locked. let within = (came v s g locked).1 in let most = within.1 in (within.0, omega arith)

pub client_moves : ClientLaws → (b : Bounds) → AreQuorums b.voters b.quorums → (X : ℕ → ClientState) (Y : ℕ → VoterState) (sent : List Message) → WorldOk b X Y sent → (c : ℕ) → c < b.clients
    → (cause : client.Cause) (o : client.Outcome) → Accepts (X c) cause → client.step (X c) cause ≡ Ok o → CameTrue b (X c) Y c cause → Draws b cause
    → WorldOk b (put X c o.state) Y (sent ++ map kinds.ToVoter o.out)
client_moves laws b are X Y sent ok c within cause o accepts step came draws =
    let x = X c in
    let is = ok.client_ids c within in
    let here = ok.clients c in
    let move = laws.meets x cause o here.sound accepts step in
    let range = laws.ranges x cause o here.sound accepts (comes_in_range b x Y c cause is.limit came) step in
    let W = put X c o.state in
    let later : (q : ℕ) → IsAfter (X q) (W q) = put-each (λ q y. IsAfter (X q) y) X c o.state (IsAfter-later x o.state move.later) (λ q. IsAfter-self (X q)) in
    let quorum = quorum_after b x o.state cause draws move.quorum here.quorum in
    let held : (v g : ℕ) → holds_under x v g ≡ true → Names (Y v).held c x.stamp g = ok.held c in
    let sent_now = all_sent b are X Y ok.voters c x o.state cause is.id held (move.limit ∙ is.limit) move.later quorum came o.out move.out range in
    record {
      messages = AllByRecursion-append (MessageOk W Y) sent _ (MessageOk-later b X W Y later ok.voters sent ok.messages) (asks_ok b W Y c o.state (put-same X c o.state) o.out sent_now);
      ranges = AllByRecursion-append (IsInRange b.voters b.clients b.limit) sent _ ok.ranges (asks_range b c o.state Y within o.out sent_now);
      held = put-each (λ q y. (v g : ℕ) → holds_under y v g ≡ true → Names (Y v).held q y.stamp g) X c o.state
          (λ v g holds. elim (move.held v g holds) [
            | inl was ↦ subst (λ s. Names (Y v).held c s g) (sym was.1) (held v g was.0)
            | inr got ↦ let heard = came v o.state.stamp g got.0 in heard.3 (IsLive-before x o.state v o.state.stamp g move.later heard.2 got.1)
          ]) ok.held;
      last = put-each (λ q y. (v : ℕ) → last_of y v ≤ (Y v).granted) X c o.state
          (λ v. elim (move.last v) [
            | inl same ↦ let most = ok.last c v in omega arith
            | inr was ↦ (ok.voters v).sound.numbered (record { client = c; stamp = x.stamp; grant = last_of o.state v }) (held v (last_of o.state v) was)
          ]) ok.last;
      clients = put-each (λ q y. ClientOk b y) X c o.state (record { sound = laws.stays x cause o here.sound accepts step; quorum = quorum }) ok.clients;
      voters = λ v. VoterOk-later b X W later (Y v) (ok.voters v);
      client_ids = put-each (λ q y. q < b.clients → IsClient q b.limit y) X c o.state (λ _. record { id = move.id ∙ is.id; limit = move.limit ∙ is.limit }) ok.client_ids;
      voter_ids = ok.voter_ids;
    }

-- ---- reminders

repeats_ok : (x : ClientState) (y : VoterState) (v c : ℕ) (body : VoterBody) → last_of x v ≤ y.granted → Repeats x v body → AskOk x y v c body
repeats_ok x y v c (asks.Request s) last says = let same = says in omega arith
repeats_ok x y v c (asks.Relinquish g) last says = ((let same = says in omega arith), λ s live names. last_not_live x v s g says live)
repeats_ok x y v c (asks.Release s) last says = absurd says

repeat_within : (b : Bounds) (X : ℕ → ClientState) (x : ClientState) (y : VoterState) → VoterOk b X y → x.limit ≡ b.limit → (v : ℕ) (body : VoterBody) → last_of x v ≤ y.granted → Repeats x v body
    → SaysInRange x.limit body → IsWithin b.limit (voter_number body)
repeat_within b X x y ok limit v (asks.Request s) last says within = let most = within.1 in (within.0, omega arith)
repeat_within b X x y ok limit v (asks.Relinquish g) last says within =
    let least = within in
    let same = says in
    let most = ok.sound.granted in
    let far = ok.limit in
    (least, omega arith)
repeat_within b X x y ok limit v (asks.Release s) last says within = absurd says

all_repeated : (b : Bounds) → AreQuorums b.voters b.quorums → (X : ℕ → ClientState) (Y : ℕ → VoterState) → ((v : ℕ) → VoterOk b X (Y v)) → (c : ℕ) (x : ClientState) → ClientOk b x → x.id ≡ c → x.limit ≡ b.limit
    → ((v : ℕ) → last_of x v ≤ (Y v).granted) → (out : List ToVoter) → AllRepeat x out → RemindersInRange x out → AllByRecursion (SentByClient b c x Y) out
all_repeated b are X Y voters c x ok id limit last [] say range = tt
all_repeated b are X Y voters c x ok id limit last (m ∷ ms) say range = (
  record {
    client = say.0.0 ∙ id;
    voter = member_below b are x ok.quorum m.voter range.0.0;
    number = repeat_within b X x (Y m.voter) (voters m.voter) limit m.voter m.body (last m.voter) say.0.1 range.0.2;
    ok = repeats_ok x (Y m.voter) m.voter c m.body (last m.voter) say.0.1;
  },
  all_repeated b are X Y voters c x ok id limit last ms say.1 range.1,
)

pub client_reminds : ClientLaws → (b : Bounds) → AreQuorums b.voters b.quorums → (X : ℕ → ClientState) (Y : ℕ → VoterState) (sent : List Message) → WorldOk b X Y sent → (c : ℕ) → c < b.clients
    → WorldOk b X Y (sent ++ map kinds.ToVoter (client.remind (X c)))
client_reminds laws b are X Y sent ok c within =
    let x = X c in
    let is = ok.client_ids c within in
    let out = client.remind x in
    let here = ok.clients c in
    let sent_now = all_repeated b are X Y ok.voters c x here is.id is.limit (ok.last c) out (laws.repeats x) (laws.reminders x here.sound) in
    record {
      messages = AllByRecursion-append (MessageOk X Y) sent _ ok.messages (asks_ok b X Y c x refl out sent_now);
      ranges = AllByRecursion-append (IsInRange b.voters b.clients b.limit) sent _ ok.ranges (asks_range b c x Y within out sent_now);
      held = ok.held;
      last = ok.last;
      clients = ok.clients;
      voters = ok.voters;
      client_ids = ok.client_ids;
      voter_ids = ok.voter_ids;
    }
