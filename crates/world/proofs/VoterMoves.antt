-- what a voter's step keeps so
use Rattle.std.proofs.Common.{◌≡◌, ℕ, ◌+◌, ◌<◌, ◌≤◌, Bool, true, false, List, [], ◌∷◌, ◌++◌, map, Option, Some, refl, sym, ap, subst, ◌∙◌, ◌⊎◌, inl, inr, arith}
use Rattle.std.specs.List.{AllByRecursion}
use Rattle.std.proofs.lemmas.Bool.Decides.{nat_tests}
use Rattle.std.proofs.lemmas.Option.{none-some, same_Some}
use Rattle.numbers.proofs.Lists.{AllByRecursion-append}
use Rattle.message.specs.declared.message.ToVoter.{ToVoter}
use Rattle.message.specs.declared.message.ToClient.{ToClient}
use Rattle.message.specs.declared.message.Message.{Message}
use Rattle.message.specs.declared.message.Message.TheVariants as kinds
use Rattle.message.specs.declared.message.VoterBody.{VoterBody}
use Rattle.message.specs.declared.message.VoterBody.TheVariants as asks
use Rattle.message.specs.declared.message.ClientBody.{ClientBody}
use Rattle.message.specs.declared.message.ClientBody.TheVariants as to_client
use Rattle.message.specs.Lines.{voter_number}
use Rattle.voter.specs.declared.state.Grant.{Grant}
use Rattle.voter.specs.declared.state.VoterState.{VoterState}
use Rattle.voter.specs.Replies.{AllCarry, AllReportPlace, ReportsPlace, seen_after}
use Rattle.voter.specs.Steps as voter
use Rattle.voter.specs.VoteMoves.{GrantIsNew, VoteMoves}
use Rattle.voter.specs.VoterContract.{AllReport, Brings, Ends, ReportsVote}
use Rattle.requester.specs.declared.state.ClientState.{ClientState}
use Rattle.requester.specs.RequesterContract.{IsLive}
use Rattle.requester.specs.Soundness as sound
use Rattle.requester.specs.Words.{holds, holds_under, held_of}
use Rattle.world.specs.Ranges.{AreInRange, IsInRange, IsWithin, ReportsWithin}
use Rattle.world.specs.Rules.{VoterLaws}
use Rattle.world.proofs.Claims.{Bounds, AskOk, ReportOk, MessageOk, HeldOk, ClientOk, EntryOk, VoterOk, WorldOk, VotesKeep, SparesCounted, AskOk-not_ends, Ends-client, Names-still}
use Rattle.world.proofs.Claims.{GrantsMore, GrantsMore-self, MessageOk-keep, put, put-each, put-same}

-- ---- what is replied

-- what a reply says of the voter afterwards
record Reported (b : Bounds) (v : ℕ) (y : VoterState) (r : ToClient) : Type 0 where
  voter : r.voter ≡ v
  seen : r.seen ≤ b.limit
  vote : ReportsVote y.held r.client r.body
  place : ReportsPlace y r.client r.body

all_reported : (b : Bounds) (v seen : ℕ) (y : VoterState) → seen ≤ b.limit → (rs : List ToClient) → AllReport y.held rs → AllReportPlace y rs → AllCarry v seen rs → AllByRecursion (Reported b v y) rs
all_reported b v seen y few [] votes places carry = tt
all_reported b v seen y few (r ∷ rs) votes places carry = (
  record { voter = carry.0.0; seen = (let same = carry.0.1 in omega arith); vote = votes.0; place = places.0 },
  all_reported b v seen y few rs votes.1 places.1 carry.1,
)

EntryOk-holder : (b : Bounds) (X : ℕ → ClientState) (y : VoterState) → VoterOk b X y → (g : Grant) → y.held ≡ Some g → EntryOk b X g.client g.stamp
EntryOk-holder b X y ok g is = ok.entries g.client g.stamp (inl (g, is, refl, refl))

grant_within : (b : Bounds) (X : ℕ → ClientState) (y : VoterState) → VoterOk b X y → (g : Grant) → y.held ≡ Some g → IsWithin b.limit g.grant
grant_within b X y ok g is =
    let least = ok.numbered g is in
    let given = ok.sound.numbered g is in
    let most = ok.sound.granted in
    let far = ok.limit in
    (least, omega arith)

-- what is so of the client and the numbers of a reply
record ReplyOk (b : Bounds) (X : ℕ → ClientState) (held : Option Grant) (v c : ℕ) (body : ClientBody) : Type 0 where
  client : c < b.clients
  numbers : ReportsWithin b.limit body
  ok : ReportOk (X c) held v c body

reply_ok : (b : Bounds) (X : ℕ → ClientState) (y : VoterState) → VoterOk b X y → (v c : ℕ) (body : ClientBody) → ReportsVote y.held c body → ReportsPlace y c body → ReplyOk b X y.held v c body
reply_ok b X y ok v c (to_client.Locked s g) vote place =
    let e = EntryOk-holder b X y ok _ vote in
    record { client = e.client; numbers = (e.stamp, grant_within b X y ok _ vote); ok = (e.reached, λ _. vote) }
reply_ok b X y ok v c (to_client.Fail s) vote place = let e = ok.entries c s (inr place) in record { client = e.client; numbers = e.stamp; ok = tt }
reply_ok b X y ok v c (to_client.Inquire g) vote place =
    let e = EntryOk-holder b X y ok place.0 place.1 in
    record {
      client = subst (λ n. n < b.clients) place.2 e.client;
      numbers = subst (λ n. IsWithin b.limit n) place.3 (grant_within b X y ok place.0 place.1);
      ok = tt;
    }

replies_ok : (b : Bounds) (X : ℕ → ClientState) (Z : ℕ → VoterState) (v : ℕ) (y : VoterState) → Z v ≡ y → VoterOk b X y → (rs : List ToClient) → AllByRecursion (Reported b v y) rs
    → AllByRecursion (MessageOk X Z) (map kinds.ToClient rs)
replies_ok b X Z v y is ok [] heard = tt
replies_ok b X Z v y is ok (r ∷ rs) heard = (
  subst (λ (held : Option Grant). ReportOk (X r.client) held r.voter r.client r.body) (sym (ap (λ n. (Z n).held) heard.0.voter ∙ ap (λ (z : VoterState). z.held) is))
      (reply_ok b X y ok r.voter r.client r.body heard.0.vote heard.0.place).ok,
  replies_ok b X Z v y is ok rs heard.1,
)

replies_range : (b : Bounds) (X : ℕ → ClientState) (v : ℕ) (y : VoterState) → v < b.voters → VoterOk b X y → (rs : List ToClient) → AllByRecursion (Reported b v y) rs
    → AreInRange b.voters b.clients b.limit (map kinds.ToClient rs)
replies_range b X v y within ok [] heard = tt
replies_range b X v y within ok (r ∷ rs) heard =
    let is = reply_ok b X y ok r.voter r.client r.body heard.0.vote heard.0.place in
    ((is.client, subst (λ n. n < b.voters) (sym heard.0.voter) within, heard.0.seen, is.numbers), replies_range b X v y within ok rs heard.1)

-- ---- the voter afterwards

EntryOk-brought : (b : Bounds) (X : ℕ → ClientState) (y : VoterState) (v c : ℕ) (body : VoterBody) → c < b.clients → IsWithin b.limit (voter_number body) → AskOk (X c) y v c body → (d s : ℕ)
    → Brings c body d s → EntryOk b X d s
EntryOk-brought b X y v c (asks.Request stamp) client within ok d s brings = record {
  client = subst (λ n. n < b.clients) (sym brings.0) client;
  stamp = subst (λ n. IsWithin b.limit n) (sym brings.1) within;
  reached = subst (λ n. s ≤ (X n).stamp) (sym brings.0) (subst (λ n. n ≤ (X c).stamp) (sym brings.1) ok);
}
EntryOk-brought b X y v c (asks.Relinquish g) client within ok d s brings = absurd brings
EntryOk-brought b X y v c (asks.Release stamp) client within ok d s brings = absurd brings

seen_within : (limit seen : ℕ) (body : VoterBody) → seen ≤ limit → IsWithin limit (voter_number body) → seen_after seen body ≤ limit
seen_within limit seen (asks.Request s) h within = let most = within.1 in omega arith
seen_within limit seen (asks.Relinquish g) h within = h
seen_within limit seen (asks.Release s) h within = let most = within.1 in omega arith

abbrev GrantIsNumbered : VoterState → Type 0
GrantIsNumbered y = (g : Grant) → y.held ≡ Some g → 1 ≤ g.grant

new_numbered : (w : VoterState) (n : ℕ) (h : Grant) → w.held ≡ Some h → h.grant ≡ n + 1 → GrantIsNumbered w
new_numbered w n h is number g held =
    let same : h ≡ g = same_Some h g (sym is ∙ held) in
    let here = ap (λ (k : Grant). k.grant) same in
    omega arith

new_granted : (y w : VoterState) → GrantIsNew y w → GrantsMore y w
new_granted y w new = (
  (let more = new.granted in omega arith),
  λ h held. (let number : h.grant ≡ new.grant.grant = ap (λ (k : Grant). k.grant) (same_Some h new.grant (sym held ∙ new.held)) in let next = new.number in inr (omega arith)),
)

numbered_after : (frees : Bool) (y w : VoterState) → VoteMoves frees y w → GrantIsNumbered y → GrantIsNumbered w
numbered_after true y w moves was = elim moves [
  | inl ends ↦ λ g held. absurd (none-some g (sym ends.held ∙ held))
  | inr new ↦ new_numbered w y.granted new.grant new.held new.number
]
numbered_after false y w moves was = elim moves [
  | inl stays ↦ λ g held. was g (sym stays.held ∙ held)
  | inr new ↦ new_numbered w y.granted new.1.grant new.1.held new.1.number
]

-- a step gives no fewer grants, and a new one has the next number
pub more_granted : (frees : Bool) (y w : VoterState) → VoteMoves frees y w → GrantsMore y w
more_granted true y w (inl ends) = ((let same = ends.granted in omega arith), λ h held. absurd (none-some h (sym ends.held ∙ held)))
more_granted true y w (inr new) = new_granted y w new
more_granted false y w (inl stays) = ((let same = stays.granted in omega arith), λ h held. inl (sym stays.held ∙ held))
more_granted false y w (inr new) = new_granted y w new.1

voter_after : VoterLaws → (b : Bounds) (X : ℕ → ClientState) (y : VoterState) → VoterOk b X y → (m : ToVoter) → m.client < b.clients → IsWithin b.limit (voter_number m.body)
    → AskOk (X m.client) y m.voter m.client m.body
    → (o : voter.Outcome) → voter.step y m ≡ Some o → VoterOk b X o.state
voter_after laws b X y ok m client within asked o step =
    let meets = laws.meets y m o step in
    let carry = laws.carries y m o step in
    record {
      sound = laws.stays y m o ok.sound step;
      entries = λ c s is. elim (meets.entries c s is) [
        | inl was ↦ ok.entries c s was
        | inr brings ↦ EntryOk-brought b X y m.voter m.client m.body client within asked c s brings
      ];
      numbered = numbered_after _ y o.state (laws.numbers y m o ok.sound step) ok.numbered;
      limit = (let same = carry.limit in let most = ok.limit in omega arith);
      seen = (let same = carry.seen in let most = seen_within b.limit y.seen m.body ok.seen within in omega arith);
    }

-- ---- a vote that is held stays

holds_under-parts : (x : ClientState) (v g : ℕ) → holds_under x v g ≡ true → (holds x v ≡ true) × (held_of x v ≡ g)
holds_under-parts x v g is = (grind (arith, nat_tests), grind (arith, nat_tests))

-- a vote that is held may still count
live_held : (x : ClientState) → sound.IsSound x → (v g : ℕ) → holds_under x v g ≡ true → IsLive x v x.stamp g
live_held x ok v g is =
    let u = holds_under-parts x v g is in
    let well = ok.held v u.0 in
    let fresh = well.fresh in
    let same = u.1 in
    record { busy = well.busy; current = refl; fresh = omega arith }

held_keeps : (b : Bounds) (X : ℕ → ClientState) (Y Z : ℕ → VoterState) (Killed : ℕ → Grant → Type 0) → VotesKeep Y Z Killed → SparesCounted X Killed → ((c : ℕ) → ClientOk b (X c))
    → HeldOk X Y → HeldOk X Z
held_keeps b X Y Z Killed keep spares clients ok c v g is = Names-still Y Z X Killed keep spares v c (X c).stamp g (live_held (X c) (clients c).sound v g is) (ok c v g is)

-- ---- a voter takes a step

pub voter_moves : VoterLaws → (b : Bounds) (X : ℕ → ClientState) (Y : ℕ → VoterState) (sent : List Message) → WorldOk b X Y sent → (m : ToVoter)
    → IsInRange b.voters b.clients b.limit (kinds.ToVoter m) → AskOk (X m.client) (Y m.voter) m.voter m.client m.body
    → (o : voter.Outcome) → voter.step (Y m.voter) m ≡ Some o
    → WorldOk b X (put Y m.voter o.state) (sent ++ map kinds.ToClient o.replies)
voter_moves laws b X Y sent ok m range asked o step =
    let y = Y m.voter in
    let Z = put Y m.voter o.state in
    let id = ok.voter_ids m.voter range.1 in
    let meets = laws.meets y m o step in
    let carry = laws.carries y m o step in
    let before = ok.voters m.voter in
    let after = voter_after laws b X y before m range.0 range.2 asked o step in
    let Killed : ℕ → Grant → Type 0 = λ v h. (v ≡ m.voter) × Ends m.client m.body h × ((Y m.voter).held ≡ Some h) in
    let keep : VotesKeep Y Z Killed = λ v. put-each (λ v z. (h : Grant) → (Y v).held ≡ Some h → (z.held ≡ Some h) ⊎ Killed v h) Y m.voter o.state
    (λ h is. elim (meets.kept h is) [ inl stays ↦ inl stays | inr ended ↦ inr (refl, ended, is) ]) (λ v h is. inl is) v in
    let spares : SparesCounted X Killed = λ v h live killed.
    let own = Ends-client m.client m.body h killed.1 in
    AskOk-not_ends (X h.client) y m.voter m.client m.body h (subst (λ n. AskOk (X n) y m.voter m.client m.body) (sym own) asked) killed.2
    (subst (λ n. IsLive (X h.client) n h.stamp h.grant) killed.0 live) killed.1 in
    let more : (v : ℕ) → GrantsMore (Y v) (Z v) = put-each (λ v z. GrantsMore (Y v) z) Y m.voter o.state (more_granted _ y o.state (laws.numbers y m o before.sound step)) (λ v. GrantsMore-self (Y v)) in
    let heard = all_reported b m.voter (seen_after y.seen m.body) o.state (seen_within b.limit y.seen m.body before.seen range.2) o.replies meets.heard (laws.answers y m o before.sound step).place
    (subst (λ i. AllCarry i (seen_after y.seen m.body) o.replies) id carry.carried) in
    record {
      messages = AllByRecursion-append (MessageOk X Z) sent _ (MessageOk-keep X Y Z Killed keep spares more sent ok.messages)
          (replies_ok b X Z m.voter o.state (put-same Y m.voter o.state) after o.replies heard);
      ranges = AllByRecursion-append (IsInRange b.voters b.clients b.limit) sent _ ok.ranges (replies_range b X m.voter o.state range.1 after o.replies heard);
      held = held_keeps b X Y Z Killed keep spares ok.clients ok.held;
      last = λ c v. (let rises = (more v).0 in let most = ok.last c v in omega arith);
      clients = ok.clients;
      voters = put-each (λ v z. VoterOk b X z) Y m.voter o.state after ok.voters;
      client_ids = ok.client_ids;
      voter_ids = put-each (λ v z. v < b.voters → z.id ≡ v) Y m.voter o.state (λ _. carry.id ∙ id) ok.voter_ids;
    }

-- a vote is reported again
pub voter_reminds : VoterLaws → (b : Bounds) (X : ℕ → ClientState) (Y : ℕ → VoterState) (sent : List Message) → WorldOk b X Y sent → (v : ℕ) → v < b.voters
    → WorldOk b X Y (sent ++ map kinds.ToClient (voter.remind (Y v)))
voter_reminds laws b X Y sent ok v within =
    let y = Y v in
    let here = ok.voters v in
    let heard = all_reported b v y.seen y here.seen (voter.remind y) (laws.reminds y) (laws.places y) (subst (λ i. AllCarry i y.seen (voter.remind y)) (ok.voter_ids v within) (laws.remembers y)) in
    record {
      messages = AllByRecursion-append (MessageOk X Y) sent _ ok.messages (replies_ok b X Y v y refl here (voter.remind y) heard);
      ranges = AllByRecursion-append (IsInRange b.voters b.clients b.limit) sent _ ok.ranges (replies_range b X v y within here (voter.remind y) heard);
      held = ok.held;
      last = ok.last;
      clients = ok.clients;
      voters = ok.voters;
      client_ids = ok.client_ids;
      voter_ids = ok.voter_ids;
    }
