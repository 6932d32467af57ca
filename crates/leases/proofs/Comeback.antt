-- exclusion comes back once all clients were idle
use Rattle.std.proofs.Common.{◌≡◌, ℕ, ◌+◌, ◌<◌, ◌≤◌, Bool, true, false, List, [], ◌∷◌, map, length, Option, Some, Ok, refl, sym, ap, subst, ◌∙◌, ◌⊎◌, inl, inr, arith}
use Rattle.std.specs.Prelude.{slice_index, slice_set}
use Rattle.std.specs.FinMap as fin
use Rattle.std.specs.Ordering.{nat_cmp}
use Rattle.std.specs.List.{AllByRecursion}
use Rattle.std.proofs.lemmas.Bool.{cases_lt, false≢true}
use Rattle.std.proofs.lemmas.Bool.Decides.{nat_tests}
use Rattle.std.proofs.lemmas.Option.{none-some, same_Some}
use Rattle.numbers.proofs.Lists.{AllByRecursion-append, AllByRecursion-get, AllByRecursion-weaker, slice_index-replicate_zero}
use Rattle.message.specs.Lines.{voter_number}
use Rattle.message.specs.declared.message.ToVoter.{ToVoter}
use Rattle.message.specs.declared.message.ToClient.{ToClient}
use Rattle.message.specs.declared.message.Message.{Message}
use Rattle.message.specs.declared.message.Message.TheVariants as kinds
use Rattle.message.specs.declared.message.VoterBody.{VoterBody}
use Rattle.message.specs.declared.message.VoterBody.TheVariants as asks
use Rattle.message.specs.declared.message.ClientBody.{ClientBody}
use Rattle.message.specs.declared.message.ClientBody.TheVariants as to_client
use Rattle.voter.specs.declared.state.Grant.{Grant}
use Rattle.voter.specs.Entries.{AsksBack, Finishes, FinishesBy}
use Rattle.voter.specs.declared.state.VoterState.{VoterState}
use Rattle.voter.specs.Replies.{AllCarry, AllReportPlace, ReportsPlace, seen_after}
use Rattle.voter.specs.Saved.{least_voter}
use Rattle.voter.specs.Steps as voter
use Rattle.voter.specs.VoteMoves.{VoteMoves}
use Rattle.voter.specs.VoterContract.{AllReport, Brings, IsEntry, ReportsVote}
use Rattle.requester.specs.declared.state.ClientState.{ClientState}
use Rattle.requester.specs.RequesterContract.{AllInRange, AllRepeat, AllSay, ComesInRange, IsLocked, RemindersInRange, Repeats, Says, SaysInRange}
use Rattle.requester.specs.Saved.{least_client}
use Rattle.requester.specs.Steps as client
use Rattle.requester.specs.Words.{holds, holds_under, is_idle, last_of, members}
use Rattle.world.specs.Ranges.{IsInRange, IsWithin, ReportsWithin}
use Rattle.world.specs.Restarts.{Saved, Happening, begin}
use Rattle.world.specs.Runs.{start}
use Rattle.world_state.specs.Steps.{Dealing, client_at, voter_at}
use Rattle.world.specs.Rules.{ClientLaws, VoterLaws}
use Rattle.requester.specs.Soundness as sound
use Rattle.requester.specs.declared.state.Phase.{Phase}
use Rattle.requester.specs.declared.state.Phase.TheVariants.{Idle, Asking, Inside}
use Rattle.requester.specs.Words.{is_inside}
use Rattle.world.specs.Restarts.{all_happen}
use Rattle.world.specs.Runs.{AreLimits}
use Rattle.world.specs.Visible.{DealsFrom, DoMeet, IsAmong, IsExclusive}
use Rattle.world.specs.Incidents.{Incident, Hears, all_befall, anew, limited, skipped, befalls, reborn}
use Rattle.leases.specs.Orderly.{EndsOld}
use Rattle.leases.proofs.Rebirths.{ends_within}
use Rattle.leases.specs.Comeback.{AllIdle, AreLawful, IsEviction, IsLawful, unseen}
use Rattle.world.proofs.Befalling.{Acts, Arrives, Keeps, Scene, befalls_keeps, client_turns, scene_of, voter_turns}
use Rattle.leases.proofs.Numbers.{AreNumbered, VoterLives, Numbered, ToldSaved, SoundVoter, befalls_on, begin_on, count, given_within, known_by, newborn, told_arrives}
use Rattle.world.proofs.Restarts.{SavedOk, all_ok}
use Rattle.world.proofs.VoterMoves.{more_granted}
use Rattle.world.proofs.Claims.{AskOk, IsClient, MessageOk, ReportOk, WorldOk, Bounds}
use Rattle.world.proofs.IncidentLemmas.{brought, counted}
use Rattle.world.proofs.Places.{client_here, set_client, set_voter}
use Rattle.world.proofs.Reached.{RunPremises, new_voters, start_ok, start_unused, voter_new, voter_past}
use Rattle.world_state.specs.Steps.{say}

-- what `voter` says of the requests that a message finishes, and of votes that are asked back
pub record EndLaws : Type 0 where
  pub finishes : (v : VoterState) (m : ToVoter) (o : voter.Outcome) → voter.step v m ≡ Some o → FinishesBy v m.client m.body o.state
  pub asks_back : (v : VoterState) (m : ToVoter) (o : voter.Outcome) → AsksBack v → voter.step v m ≡ Some o → AsksBack o.state

-- ---- what is reached

-- what holds of a message to a voter, by the saved client and by how many grants each voter has saved
abbrev pub AskedBody : (ℕ → ℕ) → ClientState → ℕ → VoterBody → Type 0
AskedBody N x v (asks.Request s) = s ≤ x.stamp
AskedBody N x v (asks.Relinquish g) = g ≤ N v
AskedBody N x v (asks.Release s) = s ≤ x.stamp

abbrev pub SaidBody : ℕ → ClientState → ClientBody → Type 0
SaidBody limit x (to_client.Locked s g) = (s ≤ x.stamp) × IsWithin limit s × IsWithin limit g
SaidBody limit x (to_client.Fail s) = IsWithin limit s
SaidBody limit x (to_client.Inquire g) = IsWithin limit g

abbrev pub MessageFits : Bounds → (ℕ → ℕ) → List ClientState → Message → Type 0
MessageFits b N clients (kinds.ToVoter m) = AskedBody N (client_at clients m.client) m.voter m.body × IsWithin b.limit (voter_number m.body)
MessageFits b N clients (kinds.ToClient m) = (m.seen ≤ b.limit) × SaidBody b.limit (client_at clients m.client) m.body

pub record VoterFits (b : Bounds) (clients : List ClientState) (y : VoterState) : Type 0 where
  pub entries : (c s : ℕ) → IsEntry y c s → s ≤ (client_at clients c).stamp
  pub numbered : (g : Grant) → y.held ≡ Some g → 1 ≤ g.grant
  pub seen : y.seen ≤ b.limit
  pub finished : (c : ℕ) → slice_index y.finished c ≤ (client_at clients c).stamp
  pub back : AsksBack y

-- no stamp fell
abbrev pub NoStampFell : ClientState → ClientState → Type 0
NoStampFell x y = x.stamp ≤ y.stamp

-- each grant that the client gave back last is one that its voter has saved
abbrev pub LastsAreSaved : (ℕ → ℕ) → ClientState → Type 0
LastsAreSaved N x = (v : ℕ) → last_of x v ≤ N v

pub record AreSettled (b : Bounds) (w : Scene) : Type 0 where
  pub sent : AllByRecursion (MessageFits b (count w.voters) w.clients) w.live.sent
  pub live_voters : (v : ℕ) → VoterFits b w.clients (voter_at w.live.voters v)
  pub voters : (v : ℕ) → VoterFits b w.clients (voter_at w.voters v)
  pub behind : (c : ℕ) → NoStampFell (client_at w.clients c) (client_at w.live.clients c)
  pub last : (c : ℕ) → LastsAreSaved (count w.voters) (client_at w.live.clients c)
  pub last_saved : (c : ℕ) → LastsAreSaved (count w.voters) (client_at w.clients c)

abbrev pub Settled : Bounds → Saved → Type 0
Settled b s = AreSettled b (scene_of s)

self : (x : ClientState) → NoStampFell x x
self x = omega arith

join : (x y z : ClientState) → NoStampFell x y → NoStampFell y z → NoStampFell x z
join x y z one two = omega arith

-- more grants are saved
abbrev AreMore : (ℕ → ℕ) → (ℕ → ℕ) → Type 0
AreMore N M = (v : ℕ) → N v ≤ M v

as_many : (N : ℕ → ℕ) → AreMore N N
as_many N v = omega arith

counted_more : (N M : ℕ → ℕ) (x : ClientState) → AreMore N M → LastsAreSaved N x → LastsAreSaved M x
counted_more N M x more few v = let a = more v in let c = few v in omega arith

asked_on : (N M : ℕ → ℕ) (x y : ClientState) (v : ℕ) (body : VoterBody) → AreMore N M → NoStampFell x y → AskedBody N x v body → AskedBody M y v body
asked_on N M x y v (asks.Request s) more on is = omega arith
asked_on N M x y v (asks.Relinquish g) more on is = let a = more v in omega arith
asked_on N M x y v (asks.Release s) more on is = omega arith

said_on : (limit : ℕ) (x y : ClientState) (body : ClientBody) → NoStampFell x y → SaidBody limit x body → SaidBody limit y body
said_on limit x y (to_client.Locked s g) on is = let c = is.0 in (omega arith, is.1, is.2)
said_on limit x y (to_client.Fail s) on is = is
said_on limit x y (to_client.Inquire g) on is = is

fits_on : (b : Bounds) (N M : ℕ → ℕ) (l k : List ClientState) → AreMore N M → ((c : ℕ) → NoStampFell (client_at l c) (client_at k c)) → (m : Message) → MessageFits b N l m → MessageFits b M k m
fits_on b N M l k more on (kinds.ToVoter m) is = (asked_on N M (client_at l m.client) (client_at k m.client) m.voter m.body more (on m.client) is.0, is.1)
fits_on b N M l k more on (kinds.ToClient m) is = (is.0, said_on b.limit (client_at l m.client) (client_at k m.client) m.body (on m.client) is.1)

voter_fits_on : (b : Bounds) (l k : List ClientState) → ((c : ℕ) → NoStampFell (client_at l c) (client_at k c)) → (y : VoterState) → VoterFits b l y → VoterFits b k y
voter_fits_on b l k on y is = record {
  entries = λ c s e. let a = is.entries c s e in let r = on c in omega arith;
  numbered = is.numbered;
  seen = is.seen;
  finished = λ c. let a = is.finished c in let r = on c in omega arith;
  back = is.back;
}

-- a client goes on, and what is saved of it, not past it
client_settles : (b : Bounds) (w : Scene) → AreSettled b w → (c : ℕ) (x y : ClientState) (ms : List ToVoter) → c < length w.live.clients → NoStampFell (client_at w.clients c) y → NoStampFell y x
    → LastsAreSaved (count w.voters) x → LastsAreSaved (count w.voters) y → AllByRecursion (MessageFits b (count w.voters) (slice_set w.clients c y)) (map kinds.ToVoter ms) → AreSettled b (client_turns w c x y ms)
client_settles b w st c x y ms within from to few few_saved fits =
    let N = count w.voters in
    let K = client_at w.clients in
    let k = slice_set w.clients c y in
    let live = slice_set w.live.clients c x in
    let on : (q : ℕ) → NoStampFell (K q) (client_at k q) = set_client (λ q a. NoStampFell (K q) a) w.clients c y from (λ q. self (K q)) in
    let ahead = set_client (λ q a. NoStampFell (K q) a) w.live.clients c x (join (K c) y x from to) st.behind in
    record {
      sent = AllByRecursion-append (MessageFits b N k) w.live.sent (map kinds.ToVoter ms) (AllByRecursion-weaker (MessageFits b N w.clients) (MessageFits b N k) (fits_on b N N w.clients k (as_many N) on) w.live.sent st.sent) fits;
      live_voters = λ v. voter_fits_on b w.clients k on (voter_at w.live.voters v) (st.live_voters v);
      voters = λ v. voter_fits_on b w.clients k on (voter_at w.voters v) (st.voters v);
      behind = set_client (λ q a. NoStampFell a (client_at live q)) w.clients c y (subst (λ (a : ClientState). NoStampFell y a) (sym (client_here w.live.clients c x within)) to) ahead;
      last = set_client (λ q a. LastsAreSaved N a) w.live.clients c x few st.last;
      last_saved = set_client (λ q a. LastsAreSaved N a) w.clients c y few_saved st.last_saved;
    }

-- a voter goes on, and what is saved of it
voter_settles : (b : Bounds) (w : Scene) → AreSettled b w → (v : ℕ) (y z : VoterState) (rs : List ToClient) → VoterFits b w.clients y → VoterFits b w.clients z → count w.voters v ≤ z.granted
    → AllByRecursion (MessageFits b (count (slice_set w.voters v z)) w.clients) (map kinds.ToClient rs) → AreSettled b (voter_turns w v y z rs)
voter_settles b w st v y z rs live saved rises fits =
    let N = count w.voters in
    let M = count (slice_set w.voters v z) in
    let more : AreMore N M = set_voter (λ q a. N q ≤ a.granted) w.voters v z rises (as_many N) in
    record {
      sent = AllByRecursion-append (MessageFits b M w.clients) w.live.sent (map kinds.ToClient rs)
          (AllByRecursion-weaker (MessageFits b N w.clients) (MessageFits b M w.clients) (fits_on b N M w.clients w.clients more (λ c. self (client_at w.clients c))) w.live.sent st.sent) fits;
      live_voters = set_voter (λ q a. VoterFits b w.clients a) w.live.voters v y live st.live_voters;
      voters = set_voter (λ q a. VoterFits b w.clients a) w.voters v z saved st.voters;
      behind = st.behind;
      last = λ c. counted_more N M (client_at w.live.clients c) more (st.last c);
      last_saved = λ c. counted_more N M (client_at w.clients c) more (st.last_saved c);
    }

-- ---- a client's messages

asked_says : (N : ℕ → ℕ) (x y : ClientState) (cause : client.Cause) → x.stamp ≤ y.stamp → ((v s g : ℕ) → IsLocked cause v s g → s ≤ x.stamp) → ((v g : ℕ) → holds_under x v g ≡ true → g ≤ N v)
    → (v : ℕ) (body : VoterBody) → Says x cause y v body → AskedBody N y v body
asked_says N x y cause rises came held v (asks.Request s) says = let same = says in omega arith
asked_says N x y cause rises came held v (asks.Relinquish g) says = held v g says.1
asked_says N x y cause rises came held v (asks.Release s) says = elim says [
  | inl own ↦ (let same = own.0 in omega arith)
  | inr other ↦ (let known = came v s other.0.0 other.0.1 in omega arith)
]

number_says : (b : Bounds) (N : ℕ → ℕ) → ((v : ℕ) → N v ≤ b.limit) → (x y : ClientState) (cause : client.Cause) → y.limit ≡ b.limit → ((v g : ℕ) → holds_under x v g ≡ true → g ≤ N v) → (v : ℕ) (body : VoterBody) → Says x cause y v body
    → SaysInRange y.limit body → IsWithin b.limit (voter_number body)
number_says b N few x y cause limit held v (asks.Request s) says within = let most = within.1 in (within.0, omega arith)
number_says b N few x y cause limit held v (asks.Relinquish g) says within = (let up = held v g says.1 in let most = few v in (within, omega arith))
number_says b N few x y cause limit held v (asks.Release s) says within = let most = within.1 in (within.0, omega arith)

out_fits : (b : Bounds) (N : ℕ → ℕ) → ((v : ℕ) → N v ≤ b.limit) → (l : List ClientState) (c : ℕ) (x y : ClientState) (cause : client.Cause) → client_at l c ≡ y → x.id ≡ c → x.stamp ≤ y.stamp → ((v s g : ℕ) → IsLocked cause v s g → s ≤ x.stamp)
    → y.limit ≡ b.limit → ((v g : ℕ) → holds_under x v g ≡ true → g ≤ N v) → (out : List ToVoter) → AllSay x cause y out → AllInRange cause y out → AllByRecursion (MessageFits b N l) (map kinds.ToVoter out)
out_fits b N few l c x y cause at id rises came limit held [] say range = tt
out_fits b N few l c x y cause at id rises came limit held (m ∷ ms) say range = (
  (
    subst (λ (z : ClientState). AskedBody N z m.voter m.body) (sym (ap (λ k. client_at l k) (say.0.0 ∙ id) ∙ at)) (asked_says N x y cause rises came held m.voter m.body say.0.1),
    number_says b N few x y cause limit held m.voter m.body say.0.1 range.0.2,
  ),
  out_fits b N few l c x y cause at id rises came limit held ms say.1 range.1,
)

repeated : (N : ℕ → ℕ) (x : ClientState) → LastsAreSaved N x → (v : ℕ) (body : VoterBody) → Repeats x v body → AskedBody N x v body
repeated N x last v (asks.Request s) says = let same = says in omega arith
repeated N x last v (asks.Relinquish g) says = let same = says in let most = last v in omega arith
repeated N x last v (asks.Release s) says = absurd says

number_repeats : (b : Bounds) (N : ℕ → ℕ) → ((v : ℕ) → N v ≤ b.limit) → (x : ClientState) → x.limit ≡ b.limit → LastsAreSaved N x → (v : ℕ) (body : VoterBody) → Repeats x v body → SaysInRange x.limit body
    → IsWithin b.limit (voter_number body)
number_repeats b N few x limit last v (asks.Request s) says within = let most = within.1 in (within.0, omega arith)
number_repeats b N few x limit last v (asks.Relinquish g) says within = let up = last v in let most = few v in let same = says in (within, omega arith)
number_repeats b N few x limit last v (asks.Release s) says within = absurd says

repeats_fit : (b : Bounds) (N : ℕ → ℕ) → ((v : ℕ) → N v ≤ b.limit) → (l : List ClientState) (c : ℕ) (x : ClientState) → client_at l c ≡ x → x.id ≡ c → x.limit ≡ b.limit → LastsAreSaved N x → (out : List ToVoter)
    → AllRepeat x out → RemindersInRange x out → AllByRecursion (MessageFits b N l) (map kinds.ToVoter out)
repeats_fit b N few l c x at id limit last [] say range = tt
repeats_fit b N few l c x at id limit last (m ∷ ms) say range = (
  (
    subst (λ (z : ClientState). AskedBody N z m.voter m.body) (sym (ap (λ k. client_at l k) (say.0.0 ∙ id) ∙ at)) (repeated N x last m.voter m.body say.0.1),
    number_repeats b N few x limit last m.voter m.body say.0.1 range.0.2,
  ),
  repeats_fit b N few l c x at id limit last ms say.1 range.1,
)

-- ---- a voter's step

seen_within : (limit seen : ℕ) (body : VoterBody) → seen ≤ limit → IsWithin limit (voter_number body) → seen_after seen body ≤ limit
seen_within limit seen (asks.Request s) h within = let most = within.1 in omega arith
seen_within limit seen (asks.Relinquish g) h within = h
seen_within limit seen (asks.Release s) h within = let most = within.1 in omega arith

new_numbered : (w : VoterState) (n : ℕ) (h : Grant) → w.held ≡ Some h → h.grant ≡ n + 1 → (g : Grant) → w.held ≡ Some g → 1 ≤ g.grant
new_numbered w n h is number g held =
    let same : h ≡ g = same_Some h g (sym is ∙ held) in
    let here = ap (λ (k : Grant). k.grant) same in
    omega arith

numbered_after : (frees : Bool) (y w : VoterState) → VoteMoves frees y w → ((g : Grant) → y.held ≡ Some g → 1 ≤ g.grant) → (g : Grant) → w.held ≡ Some g → 1 ≤ g.grant
numbered_after true y w moves was = elim moves [
  | inl ends ↦ λ g held. absurd (none-some g (sym ends.held ∙ held))
  | inr new ↦ new_numbered w y.granted new.grant new.held new.number
]
numbered_after false y w moves was = elim moves [
  | inl stays ↦ λ g held. was g (sym stays.held ∙ held)
  | inr new ↦ new_numbered w y.granted new.1.grant new.1.held new.1.number
]

brought_reached : (N : ℕ → ℕ) (l : List ClientState) (v c : ℕ) (body : VoterBody) → AskedBody N (client_at l c) v body → (d s : ℕ) → Brings c body d s → s ≤ (client_at l d).stamp
brought_reached N l v c (asks.Request t) asked d s brings = subst (λ (k : ℕ). s ≤ (client_at l k).stamp) (sym brings.0) (let same = brings.1 in let low = asked in omega arith)
brought_reached N l v c (asks.Relinquish g) asked d s brings = absurd brings
brought_reached N l v c (asks.Release t) asked d s brings = absurd brings

-- what a message finishes is a request that its client reached
finished_reached : (N : ℕ → ℕ) (l : List ClientState) (v c : ℕ) (body : VoterBody) → AskedBody N (client_at l c) v body → (d s : ℕ) → Finishes c body d s → s ≤ (client_at l d).stamp
finished_reached N l v c (asks.Request t) asked d s ends = subst (λ (k : ℕ). s ≤ (client_at l k).stamp) (sym ends.0) (let less = ends.1 in let low = asked in omega arith)
finished_reached N l v c (asks.Relinquish g) asked d s ends = absurd ends
finished_reached N l v c (asks.Release t) asked d s ends = subst (λ (k : ℕ). s ≤ (client_at l k).stamp) (sym ends.0) (let less = ends.1 in let low = asked in omega arith)

voter_after : VoterLaws → EndLaws → (b : Bounds) (N : ℕ → ℕ) (l : List ClientState) (y : VoterState) → voter.IsSound y → VoterFits b l y → (m : ToVoter) → MessageFits b N l (kinds.ToVoter m) → (o : voter.Outcome)
    → voter.step y m ≡ Some o → VoterFits b l o.state
voter_after laws end b N l y sound ok m fits o is =
    let meets = laws.meets y m o is in
    let carry = laws.carries y m o is in
    record {
      entries = λ c s e. elim (meets.entries c s e) [ inl was ↦ ok.entries c s was | inr brings ↦ brought_reached N l m.voter m.client m.body fits.0 c s brings ];
      numbered = numbered_after (voter.effect_of y m).frees y o.state (laws.numbers y m o sound is) ok.numbered;
      seen = (let same = carry.seen in let most = seen_within b.limit y.seen m.body ok.seen fits.1 in omega arith);
      finished = λ c. elim (end.finishes y m o is c) [
        | inl same ↦ (let low = ok.finished c in omega arith)
        | inr ends ↦ finished_reached N l m.voter m.client m.body fits.0 c (slice_index o.state.finished c) ends.0
      ];
      back = end.asks_back y m o ok.back is;
    }

-- what a voter knows beside: its entries have stamps in range, and its grants are within the limit
record VoterKnown (b : Bounds) (y : VoterState) : Type 0 where
  sound : voter.IsSound y
  limit : y.limit ≤ b.limit
  stamps : (c s : ℕ) → IsEntry y c s → IsWithin b.limit s

grant_within : (b : Bounds) (l : List ClientState) (y : VoterState) → VoterKnown b y → VoterFits b l y → (g : Grant) → y.held ≡ Some g → IsWithin b.limit g.grant
grant_within b l y known fits g is =
    let least = fits.numbered g is in
    let given = known.sound.numbered g is in
    let most = known.sound.granted in
    let far = known.limit in
    (least, omega arith)

said_by : (b : Bounds) (l : List ClientState) (y : VoterState) → VoterKnown b y → VoterFits b l y → (c : ℕ) (body : ClientBody) → ReportsVote y.held c body → ReportsPlace y c body → SaidBody b.limit (client_at l c) body
said_by b l y known fits c (to_client.Locked s g) vote place =
    let e : IsEntry y c s = inl (record { client = c; stamp = s; grant = g }, vote, refl, refl) in
    (fits.entries c s e, known.stamps c s e, grant_within b l y known fits (record { client = c; stamp = s; grant = g }) vote)
said_by b l y known fits c (to_client.Fail s) vote place = known.stamps c s (inr place)
said_by b l y known fits c (to_client.Inquire g) vote place = subst (λ n. IsWithin b.limit n) place.3 (grant_within b l y known fits place.0 place.1)

replies_fit : (b : Bounds) (N : ℕ → ℕ) (l : List ClientState) (y : VoterState) → VoterKnown b y → VoterFits b l y → (id seen : ℕ) → seen ≤ b.limit → (rs : List ToClient) → AllReport y.held rs → AllReportPlace y rs → AllCarry id seen rs
    → AllByRecursion (MessageFits b N l) (map kinds.ToClient rs)
replies_fit b N l y known fits id seen few [] report place carry = tt
replies_fit b N l y known fits id seen few (r ∷ rs) report place carry = (
  ((let same = carry.0.1 in omega arith), said_by b l y known fits r.client r.body report.0 place.0),
  replies_fit b N l y known fits id seen few rs report.1 place.1 carry.1,
)

-- ---- what the naming knows beside

known_of : (b : Bounds) (v : ℕ) (y : VoterState) → SoundVoter b v y → VoterKnown b y
known_of b v y is = record { sound = is.sound; limit = is.limit; stamps = λ c s e. (is.entries c s e).1 }

held_counted : (b : Bounds) (G : VoterLives) (w : Scene) → AreNumbered b G w → (c v g : ℕ) → holds_under (client_at w.live.clients c) v g ≡ true → g ≤ count w.voters v
held_counted b G w num c v g has = let had = (num.live_clients c).votes v g has in given_within b G w num v had.1 c (client_at w.live.clients c).stamp g had.0

count_within : (b : Bounds) (G : VoterLives) (w : Scene) → AreNumbered b G w → (v : ℕ) → count w.voters v ≤ b.limit
count_within b G w num v =
    let y = num.voters v in
    let most = y.sound.granted in
    let far = y.limit in
    omega arith

-- ---- what clients do

-- a LOCKED that comes is of a request that was made
came_reached : (b : Bounds) (w : Scene) → AreSettled b w → (c : ℕ) (cause : client.Cause) → Acts b w c cause → (v t g : ℕ) → IsLocked cause v t g → (t ≤ (client_at w.live.clients c).stamp) × IsWithin b.limit t
came_reached b w st c cause act v t g locks =
    let at = act.came v t g locks in
    let m : ToClient = record { voter = v; client = c; seen = at.1; body = to_client.Locked t g } in
    let fit = AllByRecursion-get (MessageFits b (count w.voters) w.clients) w.live.sent at.0 (kinds.ToClient m) st.sent at.2 in
    let low = fit.1.0 in
    let behind = st.behind c in
    (omega arith, fit.1.1)

-- what a client's step comes to
record SceneLater (w : Scene) (c : ℕ) (y : ClientState) : Type 0 where
  on : NoStampFell (client_at w.live.clients c) y
  few : LastsAreSaved (count w.voters) y

later : (b : Bounds) → RunPremises b → (G : VoterLives) (w : Scene) → AreNumbered b G w → AreSettled b w → (c : ℕ) (cause : client.Cause) (o : client.Outcome) → Acts b w c cause
    → client.step (client_at w.live.clients c) cause ≡ Ok o → SceneLater w c o.state
later b given G w num st c cause o act is =
    let kept = given.client.meets (client_at w.live.clients c) cause o (num.live_clients c).sound act.accepts is in
    record { on = kept.later.stamp; few = λ v. elim (kept.last v) [ inl same ↦ (let most = st.last c v in omega arith) | inr held ↦ held_counted b G w num c v (last_of o.state v) held ] }

said_fits : (b : Bounds) → RunPremises b → (G : VoterLives) (w : Scene) → AreNumbered b G w → AreSettled b w → (c : ℕ) (cause : client.Cause) (o : client.Outcome) → Acts b w c cause → client.step (client_at w.live.clients c) cause ≡ Ok o
    → AllByRecursion (MessageFits b (count w.voters) (slice_set w.clients c o.state)) (map kinds.ToVoter o.out)
said_fits b given G w num st c cause o act is =
    let x = client_at w.live.clients c in
    let was = num.live_clients c in
    let kept = given.client.meets x cause o was.sound act.accepts is in
    let lim = was.limit act.within in
    let came = came_reached b w st c cause act in
    let comes : ComesInRange x.limit cause = λ v t g locks. subst (λ n. IsWithin n t) (sym lim) (came v t g locks).1 in
    out_fits b (count w.voters) (count_within b G w num) (slice_set w.clients c o.state) c x o.state cause (client_here w.clients c o.state (subst (λ n. c < n) (sym num.sizes.2) act.within)) (was.id act.within) kept.later.stamp
    (λ v t g locks. (came v t g locks).0) (kept.limit ∙ lim) (held_counted b G w num c) o.out kept.out (given.client.ranges x cause o was.sound act.accepts comes is)

none_counted : (N : ℕ → ℕ) (x : ClientState) → ((v : ℕ) → last_of x v ≡ 0) → LastsAreSaved N x
none_counted N x none v = let zero = none v in omega arith

-- ---- what voters do

-- a message that is made up ends a request, and the request was made
evicted_fits : (b : Bounds) (G : VoterLives) (s : Saved) → Numbered b G s → Settled b s → (m : ToVoter) → IsEviction s m → MessageFits b (count s.voters) s.clients (kinds.ToVoter m)
evicted_fits b G s num st m is =
    let g = is.grant in
    let entry : IsEntry (voter_at s.live.voters m.voter) g.client g.stamp = inl (g, is.held, refl, refl) in (
      subst (λ (k : ℕ). AskedBody (count s.voters) (client_at s.clients k) m.voter m.body) (sym is.client)
          (subst (λ (body : VoterBody). AskedBody (count s.voters) (client_at s.clients g.client) m.voter body) (sym is.body) ((st.live_voters m.voter).entries g.client g.stamp entry)),
      subst (λ (body : VoterBody). IsWithin b.limit (voter_number body)) (sym is.body) ((num.live_voters m.voter).entries g.client g.stamp entry).1,
    )

asked_old : (N : ℕ → ℕ) (x : ClientState) (v : ℕ) (body : VoterBody) → EndsOld x body → AskedBody N x v body
asked_old N x v (asks.Request t) ends = absurd ends
asked_old N x v (asks.Relinquish g) ends = absurd ends
asked_old N x v (asks.Release t) ends = ends.1

fits_arrives : (b : Bounds) (G : VoterLives) (s : Saved) → Numbered b G s → Settled b s → (m : ToVoter) → Arrives b (λ n. IsLawful s (Hears n)) (scene_of s) m → MessageFits b (count s.voters) s.clients (kinds.ToVoter m)
fits_arrives b G s num st m arrives = elim arrives.source [
  | inl sent ↦ AllByRecursion-get (MessageFits b (count s.voters) s.clients) s.live.sent sent.0 (kinds.ToVoter m) st.sent sent.1
  | inr made ↦ elim made.0 [
    | inl evicts ↦ evicted_fits b G s num st m evicts
    | inr ends ↦
        let x = client_at s.clients m.client in
        let known = num.clients m.client in
        let stamp = known.sound.stamp in
        let limit = known.limit arrives.client in
        (asked_old (count s.voters) x m.voter m.body ends, ends_within b.limit x m.body ends (omega arith))
  ]
]

-- what a voter's step comes to
record StillFits (b : Bounds) (w : Scene) (v : ℕ) (y : VoterState) : Type 0 where
  fits : VoterFits b w.clients y
  known : VoterKnown b y
  rises : count w.voters v ≤ y.granted

still_fits : (b : Bounds) → RunPremises b → EndLaws → (G : VoterLives) (w : Scene) → AreNumbered b G w → AreSettled b w → (m : ToVoter) (o : voter.Outcome) → ToldSaved b (count w.voters) (kinds.ToVoter m)
    → MessageFits b (count w.voters) w.clients (kinds.ToVoter m) → voter.step (voter_at w.live.voters m.voter) m ≡ Some o → StillFits b w m.voter o.state
still_fits b given end G w num st m o told fits is =
    let v = m.voter in
    let y = voter_at w.live.voters v in
    let was = num.live_voters v in
    let laws = given.voter in
    record {
      fits = voter_after laws end b (count w.voters) w.clients y was.sound (st.live_voters v) m fits o is;
      known = record {
        sound = laws.stays y m o was.sound is;
        limit = (let same = (laws.carries y m o is).limit in let most = was.limit in omega arith);
        stamps = λ c t e. elim ((laws.meets y m o is).entries c t e) [ inl old ↦ (was.entries c t old).1 | inr brings ↦ (brought b m.client m.body told.0 told.2 c t brings).1 ];
      };
      rises = (let more = (more_granted (voter.effect_of y m).frees y o.state (laws.numbers y m o was.sound is)).0 in let behind = num.behind v in omega arith);
    }

least_fits : (b : Bounds) (l : List ClientState) (y : VoterState) → VoterFits b l y → VoterFits b l (least_voter y)
least_fits b l y was = record {
  entries = λ c t e. elim e [ inl held ↦ was.entries c t (inl held) | inr waits ↦ absurd (none-some t (sym (fin.get-empty nat_cmp c) ∙ waits)) ];
  numbered = was.numbered;
  seen = omega arith;
  finished = λ c. (let none = slice_index-replicate_zero 64 c in omega arith);
  back = λ g c t held waits. absurd (none-some t (sym (fin.get-empty nat_cmp c) ∙ waits));
}

reborn_fits : (b : Bounds) (l : List ClientState) (y : VoterState) (above : ℕ) → VoterFits b l (reborn y above)
reborn_fits b l y above = record {
  entries = λ c t e. elim e [ inl held ↦ absurd (none-some held.0 held.1) | inr waits ↦ absurd (none-some t (sym (fin.get-empty nat_cmp c) ∙ waits)) ];
  numbered = λ g held. absurd (none-some g held);
  seen = omega arith;
  finished = λ c. (let none = slice_index-replicate_zero 64 c in omega arith);
  back = λ g c t held waits. absurd (none-some g held);
}

counted_fits : (b : Bounds) (l : List ClientState) (y : VoterState) (granted limit : ℕ) → VoterFits b l y → VoterFits b l (counted y granted limit)
counted_fits b l y granted limit was = record { entries = was.entries; numbered = was.numbered; seen = was.seen; finished = was.finished; back = was.back }

-- ---- what befalls

settled_keeps : (b : Bounds) → RunPremises b → EndLaws → (G : VoterLives) (s : Saved) → Numbered b G s → Settled b s → Keeps b (λ m. IsLawful s (Hears m)) (scene_of s) (AreSettled b)
settled_keeps b given end G s num st =
    let w = scene_of s in
    let X = client_at s.live.clients in
    let K = client_at s.clients in
    let Y = voter_at s.live.voters in
    let Z = voter_at s.voters in
    let N = count s.voters in
    let here = λ (c : ℕ) (few : c < b.clients). subst (λ n. c < n) (sym num.sizes.0) few in
    let zero = λ (v : ℕ). slice_index-replicate_zero 64 v in
    record {
      known = known_by b G w num;
      stays = st;
      client_rests = λ c cause o act is seen.
          let go = later b given G w num st c cause o act is in
          client_settles b w st c o.state (K c) [] (here c act.within) (self (K c)) (join (K c) (X c) o.state (st.behind c) go.on) go.few (st.last_saved c) tt;
      client_speaks = λ c cause o act is.
          let go = later b given G w num st c cause o act is in
          client_settles b w st c o.state o.state o.out (here c act.within) (join (K c) (X c) o.state (st.behind c) go.on) (self o.state) go.few go.few (said_fits b given G w num st c cause o act is);
      client_reminds = λ c within.
          let x = X c in
          let was = num.live_clients c in
          client_settles b w st c x x (client.remind x) (here c within) (st.behind c) (self x) (st.last c) (st.last c)
          (repeats_fit b N (count_within b G w num) (slice_set s.clients c x) c x (client_here s.clients c x (subst (λ n. c < n) (sym num.sizes.2) within)) (was.id within) (was.limit within) (st.last c) (client.remind x)
          (given.client.repeats x) (given.client.reminders x was.sound));
      client_saves = λ c within. client_settles b w st c (X c) (X c) [] (here c within) (st.behind c) (self (X c)) (st.last c) (st.last c) tt;
      client_forgets = λ c within. client_settles b w st c (X c) (least_client (K c)) [] (here c within) (self (K c)) (st.behind c) (st.last c) (none_counted N (least_client (K c)) zero) tt;
      client_restarts = λ c within. client_settles b w st c (K c) (K c) [] (here c within) (self (K c)) (self (K c)) (st.last_saved c) (st.last_saved c) tt;
      client_anew = λ c clock within least most.
          let z = anew (X c) clock in
          let none = none_counted N z zero in
          client_settles b w st c z z [] (here c within) (join (K c) (X c) z (st.behind c) least) (self z) none none tt;
      voter_rests = λ m o arrives is none.
          let v = m.voter in
          let go = still_fits b given end G w num st m o (told_arrives b G (λ n. IsLawful s (Hears n)) w num m arrives) (fits_arrives b G s num st m arrives) is in
          voter_settles b w st v o.state (Z v) [] go.fits (st.voters v) (as_many N v) tt;
      voter_speaks = λ m o arrives is.
          let v = m.voter in
          let y = Y v in
          let fits = fits_arrives b G s num st m arrives in
          let go = still_fits b given end G w num st m o (told_arrives b G (λ n. IsLawful s (Hears n)) w num m arrives) fits is in
          voter_settles b w st v o.state o.state o.replies go.fits go.fits go.rises
          (replies_fit b (count (slice_set s.voters v o.state)) s.clients o.state go.known go.fits y.id (seen_after y.seen m.body) (seen_within b.limit y.seen m.body (st.live_voters v).seen fits.1) o.replies
          (given.voter.meets y m o is).heard (given.voter.answers y m o (num.live_voters v).sound is).place (given.voter.carries y m o is).carried);
      voter_reminds = λ v within.
          let y = Y v in
          let fits = st.live_voters v in
          voter_settles b w st v y y (voter.remind y) fits fits (num.behind v)
          (replies_fit b (count (slice_set s.voters v y)) s.clients y (known_of b v y (num.live_voters v)) fits y.id y.seen fits.seen (voter.remind y) (given.voter.reminds y) (given.voter.places y) (given.voter.remembers y));
      voter_saves = λ v within. voter_settles b w st v (Y v) (Y v) [] (st.live_voters v) (st.live_voters v) (num.behind v) tt;
      voter_forgets = λ v within. voter_settles b w st v (Y v) (least_voter (Z v)) [] (st.live_voters v) (least_fits b s.clients (Z v) (st.voters v)) (as_many N v) tt;
      voter_restarts = λ v within. voter_settles b w st v (Z v) (Z v) [] (st.voters v) (st.voters v) (as_many N v) tt;
      voter_reborn = λ v above within least most.
          let fits = reborn_fits b s.clients (Y v) above in
          voter_settles b w st v (reborn (Y v) above) (reborn (Y v) above) [] fits fits (let behind = num.behind v in omega arith) tt;
      voter_limited = λ v limit within least most. voter_settles b w st v (limited (Y v) limit) (Z v) [] (counted_fits b s.clients (Y v) (Y v).granted limit (st.live_voters v)) (st.voters v) (as_many N v) tt;
      voter_skipped = λ v above within least most. voter_settles b w st v (skipped (Y v) above) (Z v) [] (counted_fits b s.clients (Y v) above (Y v).limit (st.live_voters v)) (st.voters v) (as_many N v) tt;
    }

settled_befalls : (b : Bounds) → RunPremises b → EndLaws → (deal : Dealing) → DealsFrom b.quorums deal → (G : VoterLives) (s : Saved) → Numbered b G s → Settled b s → (i : Incident) → IsLawful s i → Settled b (befalls deal s i)
settled_befalls b given end deal deals G s num st i lawful =
    befalls_keeps b given deal deals (λ m. IsLawful s (Hears m)) s (AreSettled b) (settled_keeps b given end G s num st) i (λ m e. subst (λ (j : Incident). IsLawful s j) e lawful)

pub record Reaches (b : Bounds) (s : Saved) : Type 0 where
  pub lives : VoterLives
  pub num : Numbered b lives s
  pub settled : Settled b s

settled_all : (b : Bounds) → RunPremises b → EndLaws → (deal : Dealing) → DealsFrom b.quorums deal → (is : List Incident) (s : Saved) → Reaches b s → AreLawful deal s is → Reaches b (all_befall deal is s)
settled_all b given end deal deals [] s r lawful = r
settled_all b given end deal deals (i ∷ is) s r lawful =
    let one = befalls_on b given deal deals r.lives s r.num i in
    settled_all b given end deal deals is (befalls deal s i) (record { lives = one.lives; num = one.ok; settled = settled_befalls b given end deal deals r.lives s r.num r.settled i lawful.0 }) lawful.1

-- no voter of the first world finished a request
first_finished : (voters limit v c : ℕ) → slice_index (voter_at (new_voters voters limit) v).finished c ≡ 0
first_finished voters limit v c = elim (cases_lt v voters) [
  | inl within ↦ ap (λ (y : VoterState). slice_index y.finished c) (voter_new voters limit v within) ∙ slice_index-replicate_zero 64 c
  | inr beyond ↦ ap (λ (y : VoterState). slice_index y.finished c) (voter_past voters limit v beyond) ∙ slice_index-replicate_zero 64 c
]

begin_settled : (b : Bounds) → RunPremises b → Settled b (begin b.voters b.clients b.limit)
unfolding new_voters
begin_settled b given =
    let w = start b.voters b.clients b.limit in
    let world = (start_ok b given).world in
    let fits : (v : ℕ) → VoterFits b w.clients (voter_at w.voters v) = λ v. record {
      entries = λ c t e. ((world.voters v).entries c t e).reached;
      numbered = (world.voters v).numbered;
      seen = (world.voters v).seen;
      finished = λ c. (let none = first_finished b.voters b.limit v c in omega arith);
      back = λ g c t held waits. absurd (none-some g (sym (start_unused b given v).held ∙ held));
    } in
    let last : (c : ℕ) → LastsAreSaved (count w.voters) (client_at w.clients c) = world.last in
    record { sent = tt; live_voters = fits; voters = fits; behind = λ c. self (client_at w.clients c); last = last; last_saved = last }

-- what is settled after these incidents
pub reaches_all : (b : Bounds) → RunPremises b → EndLaws → (deal : Dealing) → DealsFrom b.quorums deal → (is : List Incident) → AreLawful deal (begin b.voters b.clients b.limit) is
    → Reaches b (all_befall deal is (begin b.voters b.clients b.limit))
reaches_all b given end deal deals is lawful =
    settled_all b given end deal deals is (begin b.voters b.clients b.limit) (record { lives = newborn; num = begin_on b given; settled = begin_settled b given }) lawful

-- ---- all clients are idle

asked_idle : (x : ClientState) (y : VoterState) (N : ℕ → ℕ) (v c : ℕ) (body : VoterBody) → is_idle x.phase ≡ true → N v ≤ y.granted → AskedBody N x v body → AskOk x y v c body
asked_idle x y N v c (asks.Request t) idle more is = is
asked_idle x y N v c (asks.Relinquish g) idle more is = (omega arith, λ t live names. absurd (false≢true (sym live.busy ∙ idle)))
asked_idle x y N v c (asks.Release t) idle more is = (is, λ busy. absurd (false≢true (sym busy ∙ idle)))

said_idle : (b : Bounds) (x : ClientState) (held : Option Grant) (v c : ℕ) (body : ClientBody) → is_idle x.phase ≡ true → SaidBody b.limit x body → ReportOk x held v c body
said_idle b x held v c (to_client.Locked t g) idle is = (is.0, λ live. absurd (false≢true (sym live.busy ∙ idle)))
said_idle b x held v c (to_client.Fail t) idle is = tt
said_idle b x held v c (to_client.Inquire g) idle is = tt

reports_within : (b : Bounds) (x : ClientState) (body : ClientBody) → SaidBody b.limit x body → ReportsWithin b.limit body
reports_within b x (to_client.Locked t g) is = (is.1, is.2)
reports_within b x (to_client.Fail t) is = is
reports_within b x (to_client.Inquire g) is = is

message_idle : (b : Bounds) (N : ℕ → ℕ) (l : List ClientState) (X : ℕ → ClientState) (Y : ℕ → VoterState) → ((c : ℕ) → is_idle (X c).phase ≡ true) → ((c : ℕ) → NoStampFell (client_at l c) (X c))
    → ((v : ℕ) → N v ≤ (Y v).granted) → (m : Message) → MessageFits b N l m → MessageOk X Y m
message_idle b N l X Y idle on more (kinds.ToVoter m) fits =
    asked_idle (X m.client) (Y m.voter) N m.voter m.client m.body (idle m.client) (more m.voter) (asked_on N N (client_at l m.client) (X m.client) m.voter m.body (as_many N) (on m.client) fits.0)
message_idle b N l X Y idle on more (kinds.ToClient m) fits =
    said_idle b (X m.client) (Y m.voter).held m.voter m.client m.body (idle m.client) (said_on b.limit (client_at l m.client) (X m.client) m.body (on m.client) fits.1)

range_of : (b : Bounds) (N : ℕ → ℕ) (l : List ClientState) (m : Message) → ToldSaved b N m → MessageFits b N l m → IsInRange b.voters b.clients b.limit m
range_of b N l (kinds.ToVoter m) told fits = (told.0, told.1, fits.1)
range_of b N l (kinds.ToClient m) told fits = (told.0, told.1, fits.0, reports_within b (client_at l m.client) m.body fits.1)

ranges_of : (b : Bounds) (N : ℕ → ℕ) (l : List ClientState) (ms : List Message) → AllByRecursion (ToldSaved b N) ms → AllByRecursion (MessageFits b N l) ms → AllByRecursion (IsInRange b.voters b.clients b.limit) ms
ranges_of b N l [] told fits = tt
ranges_of b N l (m ∷ ms) told fits = (range_of b N l m told.0 fits.0, ranges_of b N l ms told.1 fits.1)

held_holds : (x : ClientState) (v g : ℕ) → holds_under x v g ≡ true → holds x v ≡ true
held_holds x v g is = grind (arith, nat_tests)

-- what is known of a client, live or saved
pub record ClientKnown (b : Bounds) (N : ℕ → ℕ) (l : List ClientState) (c : ℕ) (x : ClientState) : Type 0 where
  pub sound : sound.IsSound x
  pub quorum : (members x ≡ []) ⊎ IsAmong b.quorums (members x)
  pub id : c < b.clients → IsClient c b.limit x
  pub idle : is_idle x.phase ≡ true
  pub on : NoStampFell (client_at l c) x
  pub last : LastsAreSaved N x

pub idle_world : (b : Bounds) (G : VoterLives) (s : Saved) → Numbered b G s → Settled b s → (X : ℕ → ClientState) (Y : ℕ → VoterState) → ((c : ℕ) → ClientKnown b (count s.voters) s.clients c (X c))
    → ((v : ℕ) → SoundVoter b v (Y v) × VoterFits b s.clients (Y v) × (count s.voters v ≤ (Y v).granted)) → WorldOk b X Y s.live.sent
idle_world b G s num st X Y clients voters = record {
  messages = AllByRecursion-weaker (MessageFits b (count s.voters) s.clients) (MessageOk X Y)
      (message_idle b (count s.voters) s.clients X Y (λ c. (clients c).idle) (λ c. (clients c).on) (λ v. (voters v).2)) s.live.sent st.sent;
  ranges = ranges_of b (count s.voters) s.clients s.live.sent num.told st.sent;
  held = λ c v g is. absurd (false≢true (sym ((clients c).sound.held v (held_holds (X c) v g is)).busy ∙ (clients c).idle));
  last = λ c v. (let most = (voters v).2 in let few = (clients c).last v in omega arith);
  clients = λ c. record { sound = (clients c).sound; quorum = (clients c).quorum };
  voters = λ v.
      let known = (voters v).0 in
      let fits = (voters v).1 in
      record {
        sound = known.sound;
        entries = λ c t e.
            let low = fits.entries c t e in
            let up = (clients c).on in
            let in_range = known.entries c t e in
            record { client = in_range.0; stamp = in_range.1; reached = omega arith };
        numbered = fits.numbered;
        limit = known.limit;
        seen = fits.seen;
      };
  client_ids = λ c within. (clients c).id within;
  voter_ids = λ v within. (voters v).0.id within;
}

pub idle_out : (p : Phase) → is_idle p ≡ true → is_inside p ≡ false
idle_out Idle e = refl
idle_out Asking e = absurd (false≢true e)
idle_out Inside e = absurd (false≢true e)

pub live_known : (b : Bounds) (G : VoterLives) (s : Saved) → Numbered b G s → Settled b s → (c : ℕ) → is_idle (client_at s.live.clients c).phase ≡ true
    → ClientKnown b (count s.voters) s.clients c (client_at s.live.clients c)
live_known b G s num st c idle =
    let k = num.live_clients c in
    record { sound = k.sound; quorum = k.quorum; id = λ w. record { id = k.id w; limit = k.limit w }; idle = idle; on = st.behind c; last = st.last c }

idle_ok : (b : Bounds) (G : VoterLives) (s : Saved) → Numbered b G s → Settled b s → AllIdle s → SavedOk b (unseen s)
idle_ok b G s num st idle =
    let N = count s.voters in
    let live : (c : ℕ) → ClientKnown b N s.clients c (client_at s.live.clients c) = λ c. live_known b G s num st c (idle c).0 in
    let saved : (c : ℕ) → ClientKnown b N s.clients c (client_at s.clients c) = λ c.
    let k = num.clients c in
    record {
      sound = k.sound;
      quorum = k.quorum;
      id = λ w. record { id = k.id w; limit = k.limit w };
      idle = (idle c).1;
      on = self (client_at s.clients c);
      last = st.last_saved c;
    } in
    record {
      sizes = num.sizes;
      mixes = λ X Y mix other. idle_world b G s num st X Y
          (λ c. elim (mix c) [ inl e ↦ subst (λ (x : ClientState). ClientKnown b N s.clients c x) (sym e) (live c) | inr e ↦ subst (λ (x : ClientState). ClientKnown b N s.clients c x) (sym e) (saved c) ])
          (λ v. elim (other v) [
            | inl e ↦ subst (λ (y : VoterState). SoundVoter b v y × VoterFits b s.clients y × (N v ≤ y.granted)) (sym e) (num.live_voters v, st.live_voters v, num.behind v)
            | inr e ↦ subst (λ (y : VoterState). SoundVoter b v y × VoterFits b s.clients y × (N v ≤ y.granted)) (sym e) (num.voters v, st.voters v, as_many N v)
          ]);
      walked = record { list = tt; inside = λ c. idle_out (client_at s.live.clients c).phase (idle c).0 };
    }

pub comes_back : ClientLaws → VoterLaws → EndLaws → (voters clients limit : ℕ) (quorums : List (List ℕ)) (deal : Dealing) (incidents : List Incident) (hs : List Happening)
    → AreLimits voters clients limit → DoMeet voters quorums → DealsFrom quorums deal → AreLawful deal (begin voters clients limit) incidents
    → AllIdle (all_befall deal incidents (begin voters clients limit))
    → IsExclusive (all_happen deal hs (unseen (all_befall deal incidents (begin voters clients limit)))).live.visible
comes_back cs vs end voters clients limit quorums deal incidents hs limits meets deals lawful idle =
    let b : Bounds = record { voters = voters; clients = clients; limit = limit; quorums = quorums } in
    let given : RunPremises b = record { client = cs; voter = vs; limits = limits; meet = meets } in
    let first = begin voters clients limit in
    let r = reaches_all b given end deal deals incidents lawful in
    (all_ok b given deal deals hs (unseen (all_befall deal incidents first)) (idle_ok b r.lives (all_befall deal incidents first) r.num r.settled idle)).walked.list
