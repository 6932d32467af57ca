-- whose REQUESTs the votes are granted to, and who hears so
use Rattle.std.proofs.Common.{◌≡◌, ℕ, ◌<◌, ◌≤◌, Bool, true, false, List, [], ◌∷◌, ◌++◌, refl, sym, ap, subst, ◌∙◌, ◌⊎◌, inl, inr, Option, Some, None, Result, arith}
use Rattle.std.specs.Prelude.{◌==◌, ◌&&◌, nat_le, nat_lt, max, if◌then◌else◌, not}
use Rattle.numbers.specs.Bounds.{max_limit}
use Rattle.std.specs.FinMap.{get, get-empty}
use Rattle.std.proofs.lemmas.Bool.{and_from, eq-eqb, eqb-true, false≢true}
use Rattle.std.proofs.lemmas.Bool.Decides.{nat_tests}
use Rattle.std.proofs.lemmas.Option.{none-some, same_Some}
use Rattle.message.specs.declared.message.ClientBody.{ClientBody}
use Rattle.message.specs.declared.message.ClientBody.TheVariants as to_client
use Rattle.message.specs.declared.message.ToClient.{ToClient}
use Rattle.message.specs.declared.message.ToVoter.{ToVoter}
use Rattle.message.specs.declared.message.VoterBody.{VoterBody}
use Rattle.message.specs.declared.message.VoterBody.TheVariants as asks
use Rattle.session_rows.specs.Runs as rows
use Rattle.session_rows.proofs.Deeds.{turns_lead}
use Rattle.sessions.specs.Rows.{AreOnce, Deed, IsOneOf, Request, Reserve, Row, Use, Voter, begin, does, does_all, has_number, is_name, is_taken, reserved}
use Rattle.sessions.proofs.Rows.{own}
use Rattle.voter.specs.declared.state.Grant.{Grant}
use Rattle.voter.specs.declared.state.VoterState.{VoterState}
use Rattle.voter.specs.Leases.{evict_held, reborn, release_of}
use Rattle.voter.specs.Saved.{least_voter}
use Rattle.voter.specs.Steps.{Outcome, no_reply, remind, step}
use Rattle.voter.specs.VoterContract.{AllReport, Brings, IsEntry, ReportsVote}
use Rattle.voter.proofs.Contract.{MeetsContract-step}
use Rattle.voter.proofs.ReplyLemmas.{AllReport-remind}
use Rattle.voter.specs.Waiting.{Waiting}
use Rattle.voter_node.specs.Lives.{Fate, HasLimit, IsReborn, IsSkipped, be_reborn, becomes}
use Rattle.voter_node.specs.Nodes as nodes
use Rattle.lock_node.specs.Letters.{Letter, hearer, letter_to, letters_of, may_say, subject}
use Rattle.lock_node.specs.Locks.{Begins, Calls, Crashes, Event, Extends, IsForgotten, LetsGo, LockNode, Reminds, Saves, Skips, Speaks, all_leave, alters, forgets, happens, leaves, letters_by, moves, outcome_at, request_turn, turn_of, turns_of}
use Rattle.lock_node.proofs.LockLemmas.{IsAltered, StepsVoter, evicts, letter_lock, limit_keeps, one_filtered, one_of_two, reminds, set_by, skip_keeps, takes}

-- ---- one number

-- turns led the voter from this row to where it is
abbrev pub Led : Row → Voter → Type 0
Led r v = (ts : List rows.Turn) × (rows.after_turns (begin r) ts ≡ v)

pub turns_more : (v : Voter) (ts us : List rows.Turn) → rows.after_turns v (ts ++ us) ≡ rows.after_turns (rows.after_turns v ts) us
turns_more v [] us = refl
turns_more v (t ∷ ts) us = turns_more (rows.after_turn v t) ts us

led_on : (r : Row) (v : Voter) (us : List rows.Turn) → Led r v → Led r (rows.after_turns v us)
led_on r v us led = (led.0 ++ us, turns_more (begin r) led.0 us ∙ ap (λ (x : Voter). rows.after_turns x us) led.1)

all_deeds : (v : Voter) (ds es : List Deed) → does_all v (ds ++ es) ≡ does_all (does_all v ds) es
all_deeds v [] es = refl
all_deeds v (d ∷ ds) es = all_deeds (does v d) ds es

-- somebody asked under this stamp
abbrev pub Asked : List Use → ℕ → Type 0
Asked uses stamp = (session : ℕ) × (epoch : ℕ) × IsOneOf (record { session = session; epoch = epoch; stamp = stamp }) uses

names : (r : Row) (s : ℕ) → r.session ≡ Some s → has_number r s r.epoch ≡ true
names r s is = and_from (r.epoch == r.epoch) (is_name r.session s) (eq-eqb r.epoch r.epoch refl)
    (subst (λ (o : Option ℕ). is_name o s ≡ true) (sym is) (eq-eqb s s refl))

above_base : (base t : ℕ) → base < t → nat_lt base t ≡ true
above_base base t less = grind (arith, nat_tests)

up_to_max : (a t : ℕ) → nat_le t (max a t) ≡ true
up_to_max a t = (let more : t ≤ max a t = omega arith in grind (arith, nat_tests))

-- once the session that has the number reserved a stamp above its base, a REQUEST under it is taken
taken_by : (r : Row) (s t : ℕ) (b : Bool) → b ≡ true → has_number r s r.epoch ≡ true → r.base < t
    → is_taken (if b then record { epoch = r.epoch; session = r.session; base = r.base; reserved = max r.reserved t; again = r.again } else r) s r.epoch t ≡ true
taken_by r s t true e has less =
    and_from (has_number r s r.epoch) (nat_lt r.base t && nat_le t (max r.reserved t)) has
    (and_from (nat_lt r.base t) (nat_le t (max r.reserved t)) (above_base r.base t less) (up_to_max r.reserved t))
taken_by r s t false e has less = absurd (false≢true e)

-- whoever has the number, if the stamp is above its base, is the one that asked under it
same_session : (r : Row) (v : Voter) (s e t now : ℕ) → Led r v → IsOneOf (record { session = s; epoch = e; stamp = t }) v.took
    → v.live.session ≡ Some now → v.live.base < t → now ≡ s
same_session r v s e t now led among is less =
    let leads = turns_lead (begin r) led.0 in
    let u : Use = record { session = now; epoch = v.live.epoch; stamp = t } in
    let more : List Deed = Reserve now v.live.epoch t ∷ Request now v.live.epoch t ∷ [] in
    let there : does_all (begin r) leads.deeds ≡ v = leads.there ∙ led.1 in
    let once : AreOnce (does_all v more).took =
    subst (λ (w : Voter). AreOnce w.took) (all_deeds (begin r) leads.deeds more ∙ ap (λ (w : Voter). does_all w more) there) (own r (leads.deeds ++ more)) in
    let took : is_taken (reserved v.live now v.live.epoch t) now v.live.epoch t ≡ true =
    taken_by v.live now t (has_number v.live now v.live.epoch) (names v.live now is) (names v.live now is) less in
    let two : AreOnce (u ∷ v.took) = subst (λ (b : Bool). AreOnce (if b then u ∷ v.took else v.took)) took once in
    (two u (record { session = s; epoch = e; stamp = t }) (inl refl) (inr among) refl).0

-- ---- one step of a vote

-- what a step of a voter leaves, by which requests are new
pub record Tells (v : VoterState) (New : ℕ → ℕ → Type 0) (o : Outcome) : Type 0 where
  pub entries : (client stamp : ℕ) → IsEntry o.state client stamp → IsEntry v client stamp ⊎ New client stamp
  pub heard : AllReport o.state.held o.replies

abbrev NobodyAsked : ℕ → ℕ → Type 0
NobodyAsked client stamp = ⊥

pub take_tells : (v : VoterState) (m : ToVoter) (o : Outcome) → step v m ≡ Some o → Tells v (Brings m.client m.body) o
take_tells v m o is = (let meets = MeetsContract-step v m o is in record { entries = meets.entries; heard = meets.heard })

nothing_tells : (v : VoterState) (New : ℕ → ℕ → Type 0) (o : Outcome) → Some (no_reply v) ≡ Some o → Tells v New o
nothing_tells v New o is = subst (λ (x : Outcome). Tells v New x) (same_Some (no_reply v) o is) (record { entries = λ c s at. inl at; heard = tt })

letting_by : (b : Bool) (v : VoterState) (g : Grant) (o : Outcome) → (if b then step v (release_of v g) else Some (no_reply v)) ≡ Some o → Tells v NobodyAsked o
letting_by true v g o is = (let meets = MeetsContract-step v (release_of v g) o is in record { entries = meets.entries; heard = meets.heard })
letting_by false v g o is = nothing_tells v NobodyAsked o is

pub letting_go : (held : Option Grant) (v : VoterState) (grant : ℕ) (o : Outcome) → evict_held held v grant ≡ Some o → Tells v NobodyAsked o
letting_go None v grant o is = nothing_tells v NobodyAsked o is
letting_go (Some g) v grant o is = letting_by (g.grant == grant) v g o is

pub remind_tells : (n : nodes.Node) (o : Outcome) → outcome_at n nodes.Reminds ≡ Some o → Tells n.live NobodyAsked o
remind_tells n o is =
    let reminder : Outcome = record { replies = remind n.live; state = n.live } in
    let told : Tells n.live NobodyAsked reminder = record { entries = λ c s at. inl at; heard = AllReport-remind n.live } in
    subst (λ (x : Outcome). Tells n.live NobodyAsked x) (same_Some reminder o is) told

-- ---- all numbers and all locks

-- of one lock: each session whose request is granted or waits asked, and so did whoever hears of a grant
pub record EachAsked (at : ℕ) (r : ℕ → Row) (h : ℕ → Voter) (n : LockNode) : Type 0 where
  pub led : (c : ℕ) → Led (r c) (h c)
  pub live : (c : ℕ) → n.rows c ≡ (h c).live
  pub saved : (c : ℕ) → n.saved c ≡ (h c).saved
  pub grows : (c : ℕ) (u : Use) → IsOneOf u (h c).kept → IsOneOf u (h c).took
  pub asked : (c t : ℕ) → IsEntry (n.locks at).live c t → Asked (h c).took t
  pub kept : (c t : ℕ) → IsEntry (n.locks at).saved c t → Asked (h c).kept t
  pub letters : (l : Letter) (t grant : ℕ) → IsOneOf l n.outbox → l.lock ≡ at → l.message.body ≡ to_client.Locked t grant
      → (epoch : ℕ) × IsOneOf (record { session = l.session; epoch = epoch; stamp = t }) (h l.message.client).took

-- who hears of a stamp
record HearsStamp (row : Row) (t s : ℕ) : Type 0 where
  of_session : row.session ≡ Some s
  above : row.base < t

hears_of : (o : Option ℕ) (row : Row) (t lock : ℕ) (m : ToClient) (l : Letter) → row.session ≡ o → row.base < t
    → IsOneOf l (letter_to o lock m) → HearsStamp row t l.session × (l.message ≡ m)
hears_of None row t lock m l at less is = absurd is
hears_of (Some s) row t lock m l at less is = elim is [
  | inl here ↦ (record { of_session = at ∙ ap (λ (x : Letter). Some x.session) (sym here); above = less }, ap (λ (x : Letter). x.message) here)
  | inr none ↦ absurd none
]

hears_by : (row : Row) (t : ℕ) (b : Bool) (lock : ℕ) (m : ToClient) (l : Letter) → nat_lt row.base t ≡ b
    → IsOneOf l (letter_to (if b then row.session else None) lock m) → HearsStamp row t l.session × (l.message ≡ m)
hears_by row t false lock m l e is = absurd is
hears_by row t true lock m l e is =
    let less : row.base < t = grind (arith, nat_tests) in
    hears_of row.session row t lock m l refl less is

-- a LOCKED is about its stamp
about : (held : Option Grant) (client t grant : ℕ) (body : ClientBody) → body ≡ to_client.Locked t grant → subject held client body ≡ t
about held client t grant body is = ap (λ (b : ClientBody). subject held client b) is

one_heard : (h : ℕ → Voter) (rs r : ℕ → Row) (lock : ℕ) (v : VoterState) (m : ToClient)
    → ((c : ℕ) → Led (r c) (h c)) → ((c : ℕ) → rs c ≡ (h c).live) → ((c t : ℕ) → IsEntry v c t → Asked (h c).took t)
    → ReportsVote v.held m.client m.body → (l : Letter) (t grant : ℕ) → IsOneOf l (letter_to (hearer (rs m.client) (subject v.held m.client m.body)) lock m)
    → l.message.body ≡ to_client.Locked t grant
    → (epoch : ℕ) × IsOneOf (record { session = l.session; epoch = epoch; stamp = t }) (h l.message.client).took
one_heard h rs r lock v m led live asked reports l t grant is body =
    let c = m.client in
    let at = hears_by (rs c) (subject v.held c m.body) (nat_lt (rs c).base (subject v.held c m.body)) lock m l refl is in
    let of_m : m.body ≡ to_client.Locked t grant = ap (λ (x : ToClient). x.body) (sym at.1) ∙ body in
    let stamp : subject v.held c m.body ≡ t = about v.held c t grant m.body of_m in
    let held : v.held ≡ Some (record { client = c; stamp = t; grant = grant }) =
    subst (λ (b : ClientBody). ReportsVote v.held c b) of_m reports in
    let one = asked c t (inl (record { client = c; stamp = t; grant = grant }, held, refl, refl)) in
    let now : l.session ≡ one.0 = same_session (r c) (h c) one.0 one.1 t l.session (led c) one.2
    (ap (λ (x : Row). x.session) (sym (live c)) ∙ at.0.of_session)
    (subst (λ (x : Row). x.base < t) (live c) (subst (λ (k : ℕ). (rs c).base < k) stamp at.0.above)) in
    subst (λ (k : ToClient). (epoch : ℕ) × IsOneOf (record { session = l.session; epoch = epoch; stamp = t }) (h k.client).took) (sym at.1)
    (one.1, subst (λ (s : ℕ). IsOneOf (record { session = s; epoch = one.1; stamp = t }) (h c).took) (sym now) one.2)

-- a LOCKED of these that is heard is of a session that asked
heard_asked : (h : ℕ → Voter) (rs r : ℕ → Row) (lock : ℕ) (v : VoterState) (messages : List ToClient)
    → ((c : ℕ) → Led (r c) (h c)) → ((c : ℕ) → rs c ≡ (h c).live) → ((c t : ℕ) → IsEntry v c t → Asked (h c).took t)
    → AllReport v.held messages → (l : Letter) (t grant : ℕ) → IsOneOf l (letters_of rs lock v.held messages)
    → l.message.body ≡ to_client.Locked t grant
    → (epoch : ℕ) × IsOneOf (record { session = l.session; epoch = epoch; stamp = t }) (h l.message.client).took
heard_asked h rs r lock v [] led live asked heard l t grant is body = absurd is
heard_asked h rs r lock v (m ∷ ms) led live asked heard l t grant is body =
    elim (one_of_two l (letter_to (hearer (rs m.client) (subject v.held m.client m.body)) lock m) (letters_of rs lock v.held ms) is) [
      | inl here ↦ one_heard h rs r lock v m led live asked heard.0 l t grant here body
      | inr there ↦ heard_asked h rs r lock v ms led live asked heard.1 l t grant there body
    ]

-- ---- what events are to a number

-- the number asked more, and else is as it was
record AskedGrows (v w : Voter) : Type 0 where
  live : w.live ≡ v.live
  saved : w.saved ≡ v.saved
  kept : w.kept ≡ v.kept
  took : (u : Use) → IsOneOf u v.took → IsOneOf u w.took

same_voter : (v : Voter) → AskedGrows v v
same_voter v = record { live = refl; saved = refl; kept = refl; took = λ u is. is }

one_more : (u x : Use) (uses : List Use) (b : Bool) → IsOneOf u uses → IsOneOf u (if b then x ∷ uses else uses)
one_more u x uses true is = inr is
one_more u x uses false is = is

request_grows : (v : Voter) (s e : ℕ) (body : VoterBody) → AskedGrows v (rows.after_turns v (request_turn s e body))
request_grows v s e (asks.Request stamp) = record {
  live = refl;
  saved = refl;
  kept = refl;
  took = λ u is. one_more u (record { session = s; epoch = e; stamp = stamp }) v.took (is_taken v.live s e stamp) is;
}
request_grows v s e (asks.Relinquish grant) = same_voter v
request_grows v s e (asks.Release stamp) = same_voter v

speaks_grows : (v : Voter) (b : Bool) (s e : ℕ) (body : VoterBody) → AskedGrows v (rows.after_turns v (if b then request_turn s e body else []))
speaks_grows v true s e body = request_grows v s e body
speaks_grows v false s e body = same_voter v

asked_more : (v w : Voter) (t : ℕ) → AskedGrows v w → Asked v.took t → Asked w.took t
asked_more v w t grows asked = (asked.0, asked.1, grows.took _ asked.2)

-- the same process, once numbers asked more
grown : (at : ℕ) (r : ℕ → Row) (h k : ℕ → Voter) (n : LockNode) → EachAsked at r h n → ((c : ℕ) → Led (r c) (k c)) → ((c : ℕ) → AskedGrows (h c) (k c)) → EachAsked at r k n
grown at r h k n is led grows = record {
  led = led;
  live = λ c. is.live c ∙ sym (grows c).live;
  saved = λ c. is.saved c ∙ sym (grows c).saved;
  grows = λ c u among. (grows c).took u (is.grows c u (subst (λ (us : List Use). IsOneOf u us) (grows c).kept among));
  asked = λ c t has. asked_more (h c) (k c) t (grows c) (is.asked c t has);
  kept = λ c t has. subst (λ (us : List Use). Asked us t) (sym (grows c).kept) (is.kept c t has);
  letters = λ l t grant among of body. (let one = is.letters l t grant among of body in (one.0, (grows l.message.client).took _ one.1));
}

-- the vote of a lock makes a step
live_after : (r : ℕ → Row) (h : ℕ → Voter) (node : nodes.Node) (New : ℕ → ℕ → Type 0) (b : Bool) (o : Option Outcome)
    → ((x : Outcome) → o ≡ Some x → Tells node.live New x) → ((c t : ℕ) → New c t → Asked (h c).took t) → ((c t : ℕ) → IsEntry node.live c t → Asked (h c).took t)
    → (c t : ℕ) → IsEntry (nodes.after node (nodes.if_room b (nodes.after_voter node o))).live c t → Asked (h c).took t
live_after r h node New false o tells new old c t at = old c t at
live_after r h node New true None tells new old c t at = old c t at
live_after r h node New true (Some x) tells new old c t at = elim ((tells x refl).entries c t at) [
  | inl before ↦ old c t before
  | inr now ↦ new c t now
]

saved_after : (node : nodes.Node) (b : Bool) (o : Option Outcome) → (nodes.after node (nodes.if_room b (nodes.after_voter node o))).saved ≡ node.saved
saved_after node false o = refl
saved_after node true None = refl
saved_after node true (Some x) = refl

letters_after : (at : ℕ) (r : ℕ → Row) (h : ℕ → Voter) (n : LockNode) (lock : ℕ) (node : nodes.Node) (New : ℕ → ℕ → Type 0) (b : Bool) (o : Option Outcome)
    → EachAsked at r h n → ((x : Outcome) → o ≡ Some x → Tells node.live New x) → ((c t : ℕ) → New c t → Asked (h c).took t)
    → ((c t : ℕ) → IsEntry node.live c t → Asked (h c).took t)
    → (l : Letter) (t grant : ℕ) → IsOneOf l (letters_by b n.rows lock o) → l.message.body ≡ to_client.Locked t grant
    → (epoch : ℕ) × IsOneOf (record { session = l.session; epoch = epoch; stamp = t }) (h l.message.client).took
letters_after at r h n lock node New false o is tells new old l t grant among body = absurd among
letters_after at r h n lock node New true None is tells new old l t grant among body = absurd among
letters_after at r h n lock node New true (Some x) is tells new old l t grant among body =
    heard_asked h n.rows r lock x.state x.replies is.led is.live
    (λ c s at. elim ((tells x refl).entries c s at) [
      | inl before ↦ old c s before
      | inr now ↦ new c s now
    ]) (tells x refl).heard l t grant among body

moves_served : (at : ℕ) (r : ℕ → Row) (h : ℕ → Voter) (n : LockNode) (lock : ℕ) (e : nodes.Event) (New : ℕ → ℕ → Type 0) → EachAsked at r h n → StepsVoter e
    → ((x : Outcome) → outcome_at (n.locks lock) e ≡ Some x → Tells (n.locks lock).live New x) → (lock ≡ at → (c t : ℕ) → New c t → Asked (h c).took t)
    → EachAsked at r h (moves n lock e)
moves_served at r h n lock e New is of tells new =
    let node = n.locks lock in
    let next = nodes.after node (nodes.node_step node e) in
    let by : next ≡ nodes.after node (nodes.if_room (nodes.has_room node) (nodes.after_voter node (outcome_at node e))) =
    ap (λ (t : Result nodes.Turn _). nodes.after node t) (of.is node) in
    let old : lock ≡ at → (c t : ℕ) → IsEntry node.live c t → Asked (h c).took t =
    λ same c t has. is.asked c t (subst (λ (k : ℕ). IsEntry (n.locks k).live c t) same has) in
    record {
      led = is.led;
      live = is.live;
      saved = is.saved;
      grows = is.grows;
      asked = λ c t. set_by (λ (k : ℕ) (x : nodes.Node). k ≡ at → IsEntry x.live c t → Asked (h c).took t) n.locks lock next at
          (λ same has. live_after r h node New (nodes.has_room node) (outcome_at node e) tells (new same) (old same) c t (subst (λ (x : nodes.Node). IsEntry x.live c t) by has))
          (λ same has. is.asked c t has) refl;
      kept = λ c t. set_by (λ (k : ℕ) (x : nodes.Node). k ≡ at → IsEntry x.saved c t → Asked (h c).kept t) n.locks lock next at
          (λ same has. is.kept c t (subst (λ (k : ℕ). IsEntry (n.locks k).saved c t) same
          (subst (λ (v : VoterState). IsEntry v c t) (ap (λ (x : nodes.Node). x.saved) by ∙ saved_after node (nodes.has_room node) (outcome_at node e)) has)))
          (λ same has. is.kept c t has) refl;
      letters = λ l t grant among its body. elim (one_of_two l n.outbox (letters_by (nodes.has_room node) n.rows lock (outcome_at node e)) among) [
        | inl before ↦ is.letters l t grant before its body
        | inr fresh ↦ (
            let same : lock ≡ at = sym (letter_lock n.rows lock (nodes.has_room node) (outcome_at node e) l fresh) ∙ its in
            letters_after at r h n lock node New (nodes.has_room node) (outcome_at node e) is tells (new same) (old same) l t grant fresh body)
      ];
    }

-- the REQUEST that a number may say is one that it asked
brought : (n : LockNode) (v : Voter) (session epoch : ℕ) (client : ℕ) (body : VoterBody) (c t : ℕ) → n.rows client ≡ v.live
    → may_say (n.rows client) session epoch body ≡ true → Brings client body c t → Asked (rows.after_turns v (request_turn session epoch body)).took t
brought n v session epoch client (asks.Request stamp) c t live may new = (
  session,
  epoch,
  subst (λ (b : Bool). IsOneOf (record { session = session; epoch = epoch; stamp = t }) (if b then record { session = session; epoch = epoch; stamp = stamp } ∷ v.took else v.took))
      (sym (subst (λ (x : Row). is_taken x session epoch stamp ≡ true) live may))
      (inl (ap (λ (s : ℕ). record { session = session; epoch = epoch; stamp = s }) new.1)),
)
brought n v session epoch client (asks.Relinquish grant) c t live may new = absurd new
brought n v session epoch client (asks.Release stamp) c t live may new = absurd new

-- the lives of all numbers after an event
abbrev pub lives : ℕ → (ℕ → Voter) → Event → ℕ → Voter
lives at h e c = rows.after_turns (h c) (turn_of at c e)

brings_client : (client : ℕ) (body : VoterBody) (c t : ℕ) → Brings client body c t → c ≡ client
brings_client client (asks.Request stamp) c t new = new.0
brings_client client (asks.Relinquish grant) c t new = absurd new
brings_client client (asks.Release stamp) c t new = absurd new

brings_asked : (at : ℕ) (h : ℕ → Voter) (n : LockNode) (lock session epoch : ℕ) (m : ToVoter) (c t : ℕ) → lock ≡ at → n.rows m.client ≡ (h m.client).live
    → may_say (n.rows m.client) session epoch m.body ≡ true → Brings m.client m.body c t → Asked (lives at h (Speaks lock session epoch m) c).took t
brings_asked at h n lock session epoch m c t same live may new =
    let of : c ≡ m.client = brings_client m.client m.body c t new in
    subst (λ (k : ℕ). Asked (lives at h (Speaks lock session epoch m) k).took t) (sym of)
    (subst (λ (b : Bool). Asked (rows.after_turns (h m.client) (if b then request_turn session epoch m.body else [])).took t)
    (sym (and_from (m.client == m.client) (lock == at) (eq-eqb m.client m.client refl) (eq-eqb lock at same)))
    (brought n (h m.client) session epoch m.client m.body c t live may new))

speaks_by : (at : ℕ) (r : ℕ → Row) (h : ℕ → Voter) (n : LockNode) (lock session epoch : ℕ) (m : ToVoter) (b : Bool) → may_say (n.rows m.client) session epoch m.body ≡ b
    → EachAsked at r h n → EachAsked at r (lives at h (Speaks lock session epoch m)) n
    → EachAsked at r (lives at h (Speaks lock session epoch m)) (if b then moves n lock (nodes.Takes m) else n)
speaks_by at r h n lock session epoch m false may is more = more
speaks_by at r h n lock session epoch m true may is more =
    moves_served at r (lives at h (Speaks lock session epoch m)) n lock (nodes.Takes m) (Brings m.client m.body) more (takes m) (λ x at. take_tells (n.locks lock).live m x at)
    (λ same c t new. brings_asked at h n lock session epoch m c t same (is.live m.client) may new)

speaks_served : (at : ℕ) (r : ℕ → Row) (h : ℕ → Voter) (n : LockNode) (lock session epoch : ℕ) (m : ToVoter) (b : Bool) → may_say (n.rows m.client) session epoch m.body ≡ b
    → EachAsked at r h n → EachAsked at r (lives at h (Speaks lock session epoch m)) (if b then moves n lock (nodes.Takes m) else n)
speaks_served at r h n lock session epoch m b may is =
    let k = lives at h (Speaks lock session epoch m) in
    let more : EachAsked at r k n = grown at r h k n is (λ c. led_on (r c) (h c) (turn_of at c (Speaks lock session epoch m)) (is.led c))
    (λ c. speaks_grows (h c) ((m.client == c) && (lock == at)) session epoch m.body) in
    speaks_by at r h n lock session epoch m b may is more

called : (rs : ℕ → Row) (h : ℕ → Voter) (number : ℕ) (call : rows.Call) (c : ℕ) (b : Bool) → (number == c) ≡ b → ((x : ℕ) → rs x ≡ (h x).live)
    → (if b then rows.after_call (rs number) call else rs c) ≡ (rows.after_turns (h c) (if b then rows.Calls call ∷ [] else [])).live
called rs h number call c false at live = live c
called rs h number call c true at live = ap (λ (x : ℕ). rows.after_call (rs x) call) (eqb-true number c at) ∙ ap (λ (x : Row). rows.after_call x call) (live c)

record IsCalled (v w : Voter) : Type 0 where
  saved : w.saved ≡ v.saved
  kept : w.kept ≡ v.kept
  took : w.took ≡ v.took

calls_keep : (v : Voter) (call : rows.Call) (b : Bool) → IsCalled v (rows.after_turns v (if b then rows.Calls call ∷ [] else []))
calls_keep v call true = record { saved = refl; kept = refl; took = refl }
calls_keep v call false = record { saved = refl; kept = refl; took = refl }

calls_served : (at : ℕ) (r : ℕ → Row) (h : ℕ → Voter) (n : LockNode) (number : ℕ) (call : rows.Call) → EachAsked at r h n
    → EachAsked at r (lives at h (Calls number call)) (happens n (Calls number call))
calls_served at r h n number call is =
    let keep : (c : ℕ) → IsCalled (h c) (lives at h (Calls number call) c) = λ c. calls_keep (h c) call (number == c) in
    record {
      led = λ c. led_on (r c) (h c) (turn_of at c (Calls number call)) (is.led c);
      live = λ c. called n.rows h number call c (number == c) refl is.live;
      saved = λ c. is.saved c ∙ sym (keep c).saved;
      grows = λ c u among. subst (λ (us : List Use). IsOneOf u us) (sym (keep c).took) (is.grows c u (subst (λ (us : List Use). IsOneOf u us) (keep c).kept among));
      asked = λ c t has. subst (λ (us : List Use). Asked us t) (sym (keep c).took) (is.asked c t has);
      kept = λ c t has. subst (λ (us : List Use). Asked us t) (sym (keep c).kept) (is.kept c t has);
      letters = λ l t grant among its body. (
          let one = is.letters l t grant among its body in
          (one.0, subst (λ (us : List Use). IsOneOf (record { session = l.session; epoch = one.0; stamp = t }) us) (sym (keep l.message.client).took) one.1));
    }

saves_served : (at : ℕ) (r : ℕ → Row) (h : ℕ → Voter) (n : LockNode) → EachAsked at r h n → EachAsked at r (lives at h Saves) (happens n Saves)
unfolding nodes.node_step
saves_served at r h n is = record {
  led = λ c. led_on (r c) (h c) (turn_of at c Saves) (is.led c);
  live = is.live;
  saved = is.live;
  grows = λ c u among. among;
  asked = is.asked;
  kept = is.asked;
  letters = λ l t grant among its body. absurd among;
}

least_entry : (v : VoterState) (c t : ℕ) → IsEntry (least_voter v) c t → IsEntry v c t
least_entry v c t at = elim at [
  | inl held ↦ inl held
  | inr waits ↦ absurd (none-some t (sym (get-empty _ c) ∙ waits))
]

crashes_served : (at : ℕ) (r : ℕ → Row) (h : ℕ → Voter) (n : LockNode) → EachAsked at r h n → EachAsked at r (lives at h Crashes) (happens n Crashes)
unfolding nodes.node_step
crashes_served at r h n is = record {
  led = λ c. led_on (r c) (h c) (turn_of at c Crashes) (is.led c);
  live = is.saved;
  saved = is.saved;
  grows = λ c u among. among;
  asked = λ c t has. is.kept c t (least_entry (n.locks at).saved c t has);
  kept = λ c t has. is.kept c t (least_entry (n.locks at).saved c t has);
  letters = λ l t grant among its body. absurd among;
}

same_entry : (v w : VoterState) (c t : ℕ) → w.held ≡ v.held → w.waiting ≡ v.waiting → IsEntry w c t → IsEntry v c t
same_entry v w c t held waiting at = elim at [
  | inl has ↦ inl (has.0, sym held ∙ has.1, has.2, has.3)
  | inr waits ↦ inr (subst (λ (q : Waiting). get q c ≡ Some t) waiting waits)
]

alters_served : (at : ℕ) (r : ℕ → Row) (h : ℕ → Voter) (n : LockNode) (lock : ℕ) (f : Fate) → EachAsked at r h n → IsAltered (n.locks lock) (becomes (n.locks lock) f) → EachAsked at r h (alters n lock f)
alters_served at r h n lock f is same = record {
  led = is.led;
  live = is.live;
  saved = is.saved;
  grows = is.grows;
  asked = λ c t. set_by (λ (k : ℕ) (x : nodes.Node). k ≡ at → IsEntry x.live c t → Asked (h c).took t) n.locks lock (becomes (n.locks lock) f) at
      (λ here has. is.asked c t (subst (λ (k : ℕ). IsEntry (n.locks k).live c t) here (same_entry (n.locks lock).live (becomes (n.locks lock) f).live c t same.held same.waiting has)))
      (λ here has. is.asked c t has) refl;
  kept = λ c t. set_by (λ (k : ℕ) (x : nodes.Node). k ≡ at → IsEntry x.saved c t → Asked (h c).kept t) n.locks lock (becomes (n.locks lock) f) at
      (λ here has. is.kept c t (subst (λ (k : ℕ). IsEntry (n.locks k).saved c t) here (subst (λ (v : VoterState). IsEntry v c t) same.saved has)))
      (λ here has. is.kept c t has) refl;
  letters = is.letters;
}

-- a voter that is made anew has no entry; and one that is not, its own
record HasNone (n m : nodes.Node) : Type 0 where
  live : (c t : ℕ) → IsEntry m.live c t → IsEntry n.live c t
  saved : (c t : ℕ) → IsEntry m.saved c t → IsEntry n.saved c t

no_entry : (id above limit c t : ℕ) → IsEntry (reborn id above limit) c t → ⊥
no_entry id above limit c t at = elim at [
  | inl has ↦ none-some has.0 has.1
  | inr waits ↦ none-some t (sym (get-empty _ c) ∙ waits)
]

reborn_entries : (n : nodes.Node) (above limit : ℕ) (b : Bool) → HasNone n (be_reborn b n above limit)
reborn_entries n above limit true = record {
  live = λ c t at. absurd (no_entry n.saved.id above limit c t at);
  saved = λ c t at. absurd (no_entry n.saved.id above limit c t at);
}
reborn_entries n above limit false = record { live = λ c t at. at; saved = λ c t at. at }

forgets_served : (at : ℕ) (r : ℕ → Row) (h : ℕ → Voter) (n : LockNode) (lock above limit : ℕ) → EachAsked at r h n → HasNone (n.locks lock) (becomes (n.locks lock) (IsReborn above limit))
    → EachAsked at r h (forgets n lock (IsReborn above limit))
forgets_served at r h n lock above limit is none = record {
  led = is.led;
  live = is.live;
  saved = is.saved;
  grows = is.grows;
  asked = λ c t. set_by (λ (k : ℕ) (x : nodes.Node). k ≡ at → IsEntry x.live c t → Asked (h c).took t) n.locks lock (becomes (n.locks lock) (IsReborn above limit)) at
      (λ here has. is.asked c t (subst (λ (k : ℕ). IsEntry (n.locks k).live c t) here (none.live c t has))) (λ here has. is.asked c t has) refl;
  kept = λ c t. set_by (λ (k : ℕ) (x : nodes.Node). k ≡ at → IsEntry x.saved c t → Asked (h c).kept t) n.locks lock (becomes (n.locks lock) (IsReborn above limit)) at
      (λ here has. is.kept c t (subst (λ (k : ℕ). IsEntry (n.locks k).saved c t) here (none.saved c t has))) (λ here has. is.kept c t has) refl;
  letters = λ l t grant among its body. is.letters l t grant (one_filtered (λ (x : Letter). not (lock == x.lock)) l n.outbox among).0 its body;
}

pub served_after : (at : ℕ) (r : ℕ → Row) (h : ℕ → Voter) (n : LockNode) (e : Event) → EachAsked at r h n → EachAsked at r (lives at h e) (happens n e)
served_after at r h n (Calls number call) is = calls_served at r h n number call is
served_after at r h n (Speaks lock session epoch m) is = speaks_served at r h n lock session epoch m (may_say (n.rows m.client) session epoch m.body) refl is
served_after at r h n (LetsGo lock grant) is =
    moves_served at r h n lock (nodes.Evicts grant) NobodyAsked is (evicts grant) (λ x at. letting_go (n.locks lock).live.held (n.locks lock).live grant x at) (λ same c t none. absurd none)
served_after at r h n (Reminds lock) is =
    moves_served at r h n lock nodes.Reminds NobodyAsked is reminds (λ x at. remind_tells (n.locks lock) x at) (λ same c t none. absurd none)
served_after at r h n (Extends lock limit) is =
    alters_served at r h n lock (HasLimit limit) is (limit_keeps (n.locks lock) limit (nat_le (n.locks lock).live.granted limit && nat_le limit max_limit))
served_after at r h n (Skips lock above) is =
    alters_served at r h n lock (IsSkipped above) is (skip_keeps (n.locks lock) above (nat_le (n.locks lock).live.granted above && nat_le above (n.locks lock).live.limit))
served_after at r h n (IsForgotten lock above limit) is =
    forgets_served at r h n lock above limit is (reborn_entries (n.locks lock) above limit (nat_le (n.locks lock).saved.granted above && (nat_le above limit && nat_le limit max_limit)))
served_after at r h n Saves is = saves_served at r h n is
served_after at r h n Crashes is = crashes_served at r h n is

-- what one number asked and saved stays so
pub kept_now : (at : ℕ) (r : ℕ → Row) (h : ℕ → Voter) (n : LockNode) (e : Event) (c : ℕ) (u : Use) → EachAsked at r h n → IsOneOf u (h c).kept → IsOneOf u (lives at h e c).kept
kept_now at r h n (Calls number call) c u is among = subst (λ (us : List Use). IsOneOf u us) (sym (calls_keep (h c) call (number == c)).kept) among
kept_now at r h n (Speaks lock session epoch m) c u is among = subst (λ (us : List Use). IsOneOf u us) (sym (speaks_grows (h c) ((m.client == c) && (lock == at)) session epoch m.body).kept) among
kept_now at r h n (LetsGo lock grant) c u is among = among
kept_now at r h n (Reminds lock) c u is among = among
kept_now at r h n (Extends lock limit) c u is among = among
kept_now at r h n (Skips lock above) c u is among = among
kept_now at r h n (IsForgotten lock above limit) c u is among = among
kept_now at r h n Saves c u is among = is.grows c u among
kept_now at r h n Crashes c u is among = among

pub kept_on : (at : ℕ) (r : ℕ → Row) (h : ℕ → Voter) (n : LockNode) (es : List Event) (c : ℕ) (u : Use) → EachAsked at r h n → IsOneOf u (h c).kept
    → IsOneOf u (rows.after_turns (h c) (turns_of at c es)).kept
kept_on at r h n [] c u is among = among
kept_on at r h n (e ∷ es) c u is among =
    subst (λ (v : Voter). IsOneOf u v.kept) (sym (turns_more (h c) (turn_of at c e) (turns_of at c es)))
    (kept_on at r (lives at h e) (happens n e) es c u (served_after at r h n e is) (kept_now at r h n e c u is among))

pub left_now : (at : ℕ) (r : ℕ → Row) (h : ℕ → Voter) (n : LockNode) (e : Event) (l : Letter) (t grant : ℕ) → EachAsked at r h n → IsOneOf l (leaves n e)
    → l.lock ≡ at → l.message.body ≡ to_client.Locked t grant
    → (epoch : ℕ) × IsOneOf (record { session = l.session; epoch = epoch; stamp = t }) (lives at h e l.message.client).kept
left_now at r h n (Calls number call) l t grant is among its body = absurd among
left_now at r h n (Speaks lock session epoch m) l t grant is among its body = absurd among
left_now at r h n (LetsGo lock g) l t grant is among its body = absurd among
left_now at r h n (Reminds lock) l t grant is among its body = absurd among
left_now at r h n (Extends lock limit) l t grant is among its body = absurd among
left_now at r h n (Skips lock above) l t grant is among its body = absurd among
left_now at r h n (IsForgotten lock above limit) l t grant is among its body = absurd among
left_now at r h n Saves l t grant is among its body = is.letters l t grant among its body
left_now at r h n Crashes l t grant is among its body = absurd among

left_then : (at : ℕ) (r : ℕ → Row) (h : ℕ → Voter) (n : LockNode) (es : List Event) (l : Letter) (t grant : ℕ) → EachAsked at r h n → IsOneOf l (all_leave n es)
    → l.lock ≡ at → l.message.body ≡ to_client.Locked t grant
    → (epoch : ℕ) × IsOneOf (record { session = l.session; epoch = epoch; stamp = t }) (rows.after_turns (h l.message.client) (turns_of at l.message.client es)).kept
left_then at r h n [] l t grant is among its body = absurd among
left_then at r h n (e ∷ es) l t grant is among its body =
    let c = l.message.client in
    let next = served_after at r h n e is in
    subst (λ (v : Voter). (epoch : ℕ) × IsOneOf (record { session = l.session; epoch = epoch; stamp = t }) v.kept) (sym (turns_more (h c) (turn_of at c e) (turns_of at c es)))
    (elim (one_of_two l (leaves n e) (all_leave (happens n e) es) among) [
      | inl now ↦ (let one = left_now at r h n e l t grant is now its body in (one.0, kept_on at r (lives at h e) (happens n e) es c _ next one.1))
      | inr later ↦ left_then at r (lives at h e) (happens n e) es l t grant next later its body
    ])

-- a process that begins
pub begins_served : (at : ℕ) (n : LockNode) → Begins n → EachAsked at n.rows (λ c. begin (n.rows c)) n
begins_served at n begins = record {
  led = λ c. ([], refl);
  live = λ c. refl;
  saved = begins.rows;
  grows = λ c u none. none;
  asked = λ c s has. absurd (begins.nobody at c s has);
  kept = λ c s has. absurd (begins.nobody at c s (subst (λ (v : VoterState). IsEntry v c s) (begins.saved at) has));
  letters = λ x s g none its body. absurd (subst (λ (ls : List Letter). IsOneOf x ls) begins.waits none);
}

pub reaches : (n : LockNode) (es : List Event) (l : Letter) (t grant : ℕ) → Begins n → IsOneOf l (all_leave n es) → l.message.body ≡ to_client.Locked t grant
    → (epoch : ℕ) × IsOneOf (record { session = l.session; epoch = epoch; stamp = t }) (rows.after_turns (begin (n.rows l.message.client)) (turns_of l.lock l.message.client es)).kept
reaches n es l t grant begins among body = left_then l.lock n.rows (λ c. begin (n.rows c)) n es l t grant (begins_served l.lock n begins) among refl body
