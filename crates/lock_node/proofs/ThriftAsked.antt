-- what a host hands out with no save was granted to requests that are on its disk
use Rattle.std.proofs.Common.{◌≡◌, ℕ, ◌+◌, ◌<◌, ◌≤◌, Bool, true, false, List, [], ◌∷◌, refl, sym, ap, subst, ◌∙◌, ◌⊎◌, inl, inr, Option, Some, None, Result, arith}
use Rattle.std.specs.Prelude.{◌==◌, ◌&&◌, nat_le, if◌then◌else◌, not}
use Rattle.std.specs.List.{filter}
use Rattle.std.proofs.lemmas.Bool.{eq-eqb, eqb-true, false≢true}
use Rattle.std.proofs.lemmas.Bool.Decides.{nat_tests}
use Rattle.std.proofs.lemmas.Option.{none-some, same_Some}
use Rattle.numbers.specs.Bounds.{max_limit}
use Rattle.message.specs.declared.message.ClientBody.{ClientBody}
use Rattle.message.specs.declared.message.ClientBody.TheVariants as to_client
use Rattle.message.specs.declared.message.ToClient.{ToClient}
use Rattle.message.specs.declared.message.ToVoter.{ToVoter}
use Rattle.sessions.specs.Rows.{AreOnce, IsOneOf, Row, Use, Voter, begin}
use Rattle.sessions.proofs.Rows.{own}
use Rattle.sessions.proofs.Tables.{one_of}
use Rattle.session_rows.specs.Runs as rows
use Rattle.session_rows.proofs.Deeds.{turns_lead}
use Rattle.voter.specs.declared.state.Grant.{Grant}
use Rattle.voter.specs.declared.state.VoterState.{VoterState}
use Rattle.voter.specs.Leases.{evict_held, release_of}
use Rattle.voter.specs.Saved.{least_voter}
use Rattle.voter.specs.Steps.{Outcome, ends_grant, no_reply, remind, step}
use Rattle.voter.specs.VoteMoves.{VoteMoves}
use Rattle.voter.specs.VoterContract.{AllReport, IsEntry, ReportsVote}
use Rattle.voter.proofs.Contract.{MeetsContract-step}
use Rattle.voter.proofs.Effects.{step-Some}
use Rattle.voter.proofs.Moves.{VoteMoves-outcome_of}
use Rattle.voter.proofs.ReplyLemmas.{AllReport-remind}
use Rattle.voter_node.specs.LeftOut.{HaveSameLeast}
use Rattle.voter_node.specs.Lives.{HasLimit, IsReborn, IsSkipped, be_reborn, be_skipped, becomes, have_limit}
use Rattle.voter_node.specs.Nodes as nodes
use Rattle.lock_node.specs.Letters.{Letter, may_say}
use Rattle.lock_node.specs.Locks.{Begins, Calls, Crashes, Event, Extends, IsForgotten, LetsGo, LockNode, Reminds, Saves, Skips, Speaks, happens, letters_by, moves, outcome_at, set, turn_of, turns_of}
use Rattle.lock_node.specs.Thrift.{Befalls, HandsOut, HostTurn, MayLeaveOut, LeaveOut, host_does, events_in, handed_out, host_sends, host_sent}
use Rattle.lock_node.proofs.LockLemmas.{StepsVoter, evicts, letter_lock, letters_are, one_filtered, one_of_two, reminds, set_by, set_here, takes}
use Rattle.lock_node.proofs.Asked.{Asked, EachAsked, Led, begins_served, kept_now, left_now, lives, served_after, turns_more}

-- ---- a vote, and what of it is on the disk

-- More grants were given than are on the disk, or as many. Then the grant is that on the disk, or there is none.
abbrev FollowsDisk : VoterState → VoterState → Type 0
FollowsDisk disk v = (disk.granted < v.granted) ⊎ ((v.granted ≡ disk.granted) × ((v.held ≡ disk.held) ⊎ (v.held ≡ None)))

-- a LOCKED tells of the grant that is on the disk, or of one that is not there yet: disk, vote, client, stamp, grant
abbrev TellsOfDisk : VoterState → VoterState → ℕ → ℕ → ℕ → Type 0
TellsOfDisk disk v client stamp grant = (disk.granted < v.granted) ⊎ (disk.held ≡ Some (record { client = client; stamp = stamp; grant = grant }))

-- a step of a vote, and what it says
record StepGoes (v : VoterState) (o : Outcome) : Type 0 where
  more : v.granted ≤ o.state.granted
  follows : (disk : VoterState) → FollowsDisk disk v → FollowsDisk disk o.state
  heard : AllReport o.state.held o.replies

stays_more : (a b : ℕ) → b ≡ a → a ≤ b
stays_more a b e = grind (arith, nat_tests)

one_more : (a b : ℕ) → b ≡ a + 1 → a ≤ b
one_more a b e = grind (arith, nat_tests)

still_less : (a b c : ℕ) → a < b → b ≤ c → a < c
still_less a b c less more = grind (arith, nat_tests)

now_less : (a b c : ℕ) → b ≡ a → c ≡ b + 1 → a < c
now_less a b c e f = grind (arith, nat_tests)

moved_more : (e : Bool) (v w : VoterState) → VoteMoves e v w → v.granted ≤ w.granted
moved_more true v w (inl k) = stays_more v.granted w.granted k.granted
moved_more true v w (inr k) = one_more v.granted w.granted k.granted
moved_more false v w (inl k) = stays_more v.granted w.granted k.granted
moved_more false v w (inr k) = one_more v.granted w.granted k.1.granted

moved_follows : (e : Bool) (disk v w : VoterState) → VoteMoves e v w → FollowsDisk disk v → FollowsDisk disk w
moved_follows e disk v w moves (inl less) = inl (still_less disk.granted v.granted w.granted less (moved_more e v w moves))
moved_follows true disk v w (inl k) (inr at) = inr (k.granted ∙ at.0, inr k.held)
moved_follows true disk v w (inr k) (inr at) = inl (now_less disk.granted v.granted w.granted at.0 k.granted)
moved_follows false disk v w (inl k) (inr at) = inr (
  k.granted ∙ at.0,
  elim at.1 [
    | inl held ↦ inl (k.held ∙ held)
    | inr none ↦ inr (k.held ∙ none)
  ],
)
moved_follows false disk v w (inr k) (inr at) = inl (now_less disk.granted v.granted w.granted at.0 k.1.granted)

stays : (v : VoterState) (replies : List ToClient) → AllReport v.held replies → StepGoes v (record { replies = replies; state = v })
stays v replies heard = record { more = stays_more v.granted v.granted refl; follows = λ disk at. at; heard = heard }

take_moves : (v : VoterState) (m : ToVoter) (o : Outcome) → step v m ≡ Some o → VoteMoves (ends_grant v m.client m.body) v o.state
take_moves v m o is = subst (λ (x : Outcome). VoteMoves (ends_grant v m.client m.body) v x.state) (step-Some v m o is).1 (VoteMoves-outcome_of v m.client m.body)

take_goes : (v : VoterState) (m : ToVoter) (o : Outcome) → step v m ≡ Some o → StepGoes v o
take_goes v m o is = record {
  more = moved_more (ends_grant v m.client m.body) v o.state (take_moves v m o is);
  follows = λ disk at. moved_follows (ends_grant v m.client m.body) disk v o.state (take_moves v m o is) at;
  heard = (MeetsContract-step v m o is).heard;
}

nothing_goes : (v : VoterState) (o : Outcome) → Some (no_reply v) ≡ Some o → StepGoes v o
nothing_goes v o is = subst (λ (x : Outcome). StepGoes v x) (same_Some (no_reply v) o is) (stays v [] tt)

letting_by : (b : Bool) (v : VoterState) (g : Grant) (o : Outcome) → (if b then step v (release_of v g) else Some (no_reply v)) ≡ Some o → StepGoes v o
letting_by true v g o is = take_goes v (release_of v g) o is
letting_by false v g o is = nothing_goes v o is

letting_goes : (held : Option Grant) (v : VoterState) (grant : ℕ) (o : Outcome) → evict_held held v grant ≡ Some o → StepGoes v o
letting_goes None v grant o is = nothing_goes v o is
letting_goes (Some g) v grant o is = letting_by (g.grant == grant) v g o is

remind_goes : (n : nodes.Node) (o : Outcome) → outcome_at n nodes.Reminds ≡ Some o → StepGoes n.live o
remind_goes n o is =
    subst (λ (x : Outcome). StepGoes n.live x) (same_Some (record { replies = remind n.live; state = n.live }) o is) (stays n.live (remind n.live) (AllReport-remind n.live))

-- ---- a node

-- a vote stays so while nothing is saved
record IsUnsavedLater (n m : nodes.Node) : Type 0 where
  saved : m.saved ≡ n.saved
  more : n.live.granted ≤ m.live.granted
  follows : (disk : VoterState) → FollowsDisk disk n.live → FollowsDisk disk m.live

later_by : (n : nodes.Node) (b : Bool) (o : Option Outcome) → ((x : Outcome) → o ≡ Some x → StepGoes n.live x) → IsUnsavedLater n (nodes.after n (nodes.if_room b (nodes.after_voter n o)))
later_by n false o goes = record { saved = refl; more = stays_more n.live.granted n.live.granted refl; follows = λ disk at. at }
later_by n true None goes = record { saved = refl; more = stays_more n.live.granted n.live.granted refl; follows = λ disk at. at }
later_by n true (Some x) goes = record { saved = refl; more = (goes x refl).more; follows = (goes x refl).follows }

later_limit : (n : nodes.Node) (limit : ℕ) (b : Bool) → IsUnsavedLater n (have_limit b n limit)
later_limit n limit true = record { saved = refl; more = stays_more n.live.granted n.live.granted refl; follows = λ disk at. at }
later_limit n limit false = record { saved = refl; more = stays_more n.live.granted n.live.granted refl; follows = λ disk at. at }

less_or_same : (a b c : ℕ) → b ≡ a → b ≤ c → (a < c) ⊎ (c ≡ a)
less_or_same a b c e more = grind (arith, nat_tests)

skipped_to : (disk v : VoterState) (above : ℕ) → v.granted ≤ above → FollowsDisk disk v → FollowsDisk disk (record v { granted = above })
skipped_to disk v above more (inl less) = inl (still_less disk.granted v.granted above less more)
skipped_to disk v above more (inr at) = elim (less_or_same disk.granted v.granted above at.0 more) [
  | inl less ↦ inl less
  | inr same ↦ inr (same, at.1)
]

up_to_above : (v : VoterState) (above : ℕ) → (nat_le v.granted above && nat_le above v.limit) ≡ true → v.granted ≤ above
up_to_above v above e = grind (arith, nat_tests)

later_skipped : (n : nodes.Node) (above : ℕ) (b : Bool) → (nat_le n.live.granted above && nat_le above n.live.limit) ≡ b → IsUnsavedLater n (be_skipped b n above)
later_skipped n above true e = (
    let more = up_to_above n.live above e in
    record { saved = refl; more = more; follows = λ disk at. skipped_to disk n.live above more at })
later_skipped n above false e = record { saved = refl; more = stays_more n.live.granted n.live.granted refl; follows = λ disk at. at }

-- ---- a process

-- of one lock: the vote follows what is on the disk, and the LOCKEDs that wait tell of grants there, or of new ones
record IsSteady (at : ℕ) (n : LockNode) : Type 0 where
  vote : FollowsDisk (n.locks at).saved (n.locks at).live
  letters : (l : Letter) (t grant : ℕ) → IsOneOf l n.outbox → l.lock ≡ at → l.message.body ≡ to_client.Locked t grant
      → TellsOfDisk (n.locks at).saved (n.locks at).live l.message.client t grant

tells_later : (n m : nodes.Node) (c t grant : ℕ) → IsUnsavedLater n m → TellsOfDisk n.saved n.live c t grant → TellsOfDisk m.saved m.live c t grant
tells_later n m c t grant later (inl less) = inl (subst (λ (v : VoterState). v.granted < m.live.granted) (sym later.saved) (still_less n.saved.granted n.live.granted m.live.granted less later.more))
tells_later n m c t grant later (inr held) = inr (ap (λ (v : VoterState). v.held) later.saved ∙ held)

follows_later : (n m : nodes.Node) → IsUnsavedLater n m → FollowsDisk n.saved n.live → FollowsDisk m.saved m.live
follows_later n m later at = subst (λ (v : VoterState). FollowsDisk v m.live) (sym later.saved) (later.follows n.saved at)

-- a LOCKED that a vote says now
reported : (held : Option Grant) (messages : List ToClient) (m : ToClient) (t grant : ℕ) → AllReport held messages → IsOneOf m messages → m.body ≡ to_client.Locked t grant
    → held ≡ Some (record { client = m.client; stamp = t; grant = grant })
reported held messages m t grant heard is body =
    subst (λ (b : ClientBody). ReportsVote held m.client b) body (one_of (λ (r : ToClient). ReportsVote held r.client r.body) messages m heard is)

tells_held : (disk v : VoterState) (g : Grant) → FollowsDisk disk v → v.held ≡ Some g → (disk.granted < v.granted) ⊎ (disk.held ≡ Some g)
tells_held disk v g (inl less) held = inl less
tells_held disk v g (inr at) held = elim at.1 [
  | inl same ↦ inr (sym same ∙ held)
  | inr none ↦ absurd (none-some g (sym none ∙ held))
]

said_tells : (n : nodes.Node) (rs : ℕ → Row) (lock : ℕ) (b : Bool) (o : Option Outcome) → ((x : Outcome) → o ≡ Some x → StepGoes n.live x) → FollowsDisk n.saved n.live
    → (l : Letter) (t grant : ℕ) → IsOneOf l (letters_by b rs lock o) → l.message.body ≡ to_client.Locked t grant
    → TellsOfDisk (nodes.after n (nodes.if_room b (nodes.after_voter n o))).saved (nodes.after n (nodes.if_room b (nodes.after_voter n o))).live l.message.client t grant
said_tells n rs lock false o goes at l t grant is body = absurd is
said_tells n rs lock true None goes at l t grant is body = absurd is
said_tells n rs lock true (Some x) goes at l t grant is body =
    tells_held n.saved x.state (record { client = l.message.client; stamp = t; grant = grant }) ((goes x refl).follows n.saved at)
    (reported x.state.held x.replies l.message t grant (goes x refl).heard (letters_are rs lock x.state.held x.replies l is).among body)

-- the node of one lock becomes another one, and its letters stay
altered_steady : (at : ℕ) (n : LockNode) (lock : ℕ) (next : nodes.Node) (rows saved : ℕ → Row) → IsSteady at n → IsUnsavedLater (n.locks lock) next
    → IsSteady at (record { rows = rows; saved = saved; locks = set n.locks lock next; outbox = n.outbox })
altered_steady at n lock next rows saved is later = record {
  vote = set_by (λ (k : ℕ) (x : nodes.Node). k ≡ at → FollowsDisk x.saved x.live) n.locks lock next at
      (λ same. follows_later (n.locks lock) next later (subst (λ (k : ℕ). FollowsDisk (n.locks k).saved (n.locks k).live) (sym same) is.vote))
      (λ same. is.vote) refl;
  letters = λ l t grant among its body. set_by (λ (k : ℕ) (x : nodes.Node). k ≡ at → TellsOfDisk x.saved x.live l.message.client t grant) n.locks lock next at
      (λ same. tells_later (n.locks lock) next l.message.client t grant later
      (subst (λ (k : ℕ). TellsOfDisk (n.locks k).saved (n.locks k).live l.message.client t grant) (sym same) (is.letters l t grant among its body)))
      (λ same. is.letters l t grant among its body) refl;
}

moves_steady : (at : ℕ) (n : LockNode) (lock : ℕ) (e : nodes.Event) → StepsVoter e → ((x : Outcome) → outcome_at (n.locks lock) e ≡ Some x → StepGoes (n.locks lock).live x)
    → IsSteady at n → IsSteady at (moves n lock e)
moves_steady at n lock e of goes is =
    let node = n.locks lock in
    let next = nodes.after node (nodes.node_step node e) in
    let plain = nodes.after node (nodes.if_room (nodes.has_room node) (nodes.after_voter node (outcome_at node e))) in
    let by : plain ≡ next = ap (λ (t : Result nodes.Turn _). nodes.after node t) (sym (of.is node)) in
    let later : IsUnsavedLater node next = subst (λ (x : nodes.Node). IsUnsavedLater node x) by (later_by node (nodes.has_room node) (outcome_at node e) goes) in
    let old = altered_steady at n lock next n.rows n.saved is later in
    record {
      vote = old.vote;
      letters = λ l t grant among its body. elim (one_of_two l n.outbox (letters_by (nodes.has_room node) n.rows lock (outcome_at node e)) among) [
        | inl before ↦ old.letters l t grant before its body
        | inr fresh ↦ (
            let same : lock ≡ at = sym (letter_lock n.rows lock (nodes.has_room node) (outcome_at node e) l fresh) ∙ its in
            let here : FollowsDisk node.saved node.live = subst (λ (k : ℕ). FollowsDisk (n.locks k).saved (n.locks k).live) (sym same) is.vote in
            let told : TellsOfDisk next.saved next.live l.message.client t grant =
            subst (λ (x : nodes.Node). TellsOfDisk x.saved x.live l.message.client t grant) by
            (said_tells node n.rows lock (nodes.has_room node) (outcome_at node e) goes here l t grant fresh body) in
            subst (λ (k : ℕ). TellsOfDisk (set n.locks lock next k).saved (set n.locks lock next k).live l.message.client t grant) same
            (set_here (λ (x : nodes.Node). TellsOfDisk x.saved x.live l.message.client t grant) n.locks lock next told))
      ];
    }

speaks_steady : (at : ℕ) (n : LockNode) (lock : ℕ) (m : ToVoter) (b : Bool) → IsSteady at n → IsSteady at (if b then moves n lock (nodes.Takes m) else n)
speaks_steady at n lock m true is = moves_steady at n lock (nodes.Takes m) (takes m) (λ x made. take_goes (n.locks lock).live m x made) is
speaks_steady at n lock m false is = is

same_follows : (v : VoterState) → FollowsDisk v v
same_follows v = inr (refl, inl refl)

reborn_follows : (n : nodes.Node) (above limit : ℕ) (b : Bool) → FollowsDisk n.saved n.live → FollowsDisk (be_reborn b n above limit).saved (be_reborn b n above limit).live
reborn_follows n above limit true at = same_follows (be_reborn true n above limit).live
reborn_follows n above limit false at = at

-- the node of one lock becomes another one, and its letters are gone
gone_steady : (at : ℕ) (n : LockNode) (lock : ℕ) (next : nodes.Node) → IsSteady at n → (FollowsDisk (n.locks lock).saved (n.locks lock).live → FollowsDisk next.saved next.live)
    → IsSteady at (record { rows = n.rows; saved = n.saved; locks = set n.locks lock next; outbox = filter (λ l. not (lock == l.lock)) n.outbox })
gone_steady at n lock next is follows = record {
  vote = set_by (λ (k : ℕ) (x : nodes.Node). k ≡ at → FollowsDisk x.saved x.live) n.locks lock next at
      (λ same. follows (subst (λ (k : ℕ). FollowsDisk (n.locks k).saved (n.locks k).live) (sym same) is.vote))
      (λ same. is.vote) refl;
  letters = λ l t grant among its body. (
      let one = one_filtered (λ (x : Letter). not (lock == x.lock)) l n.outbox among in
      set_by (λ (k : ℕ) (x : nodes.Node). k ≡ at → TellsOfDisk x.saved x.live l.message.client t grant) n.locks lock next at
      (λ same. absurd (false≢true (sym (ap not (eq-eqb lock l.lock (same ∙ sym its))) ∙ one.1)))
      (λ same. is.letters l t grant one.0 its body) refl);
}

silent_steady : (at : ℕ) (n : LockNode) → n.outbox ≡ [] → FollowsDisk (n.locks at).saved (n.locks at).live → IsSteady at n
silent_steady at n none follows = record {
  vote = follows;
  letters = λ l t grant among its body. absurd (subst (λ (ls : List Letter). IsOneOf l ls) none among);
}

steady_event : (at : ℕ) (n : LockNode) (e : Event) → IsSteady at n → IsSteady at (happens n e)
unfolding nodes.node_step
steady_event at n (Calls number call) is = record { vote = is.vote; letters = is.letters }
steady_event at n (Speaks lock session epoch m) is = speaks_steady at n lock m (may_say (n.rows m.client) session epoch m.body) is
steady_event at n (LetsGo lock grant) is = moves_steady at n lock (nodes.Evicts grant) (evicts grant) (λ x made. letting_goes (n.locks lock).live.held (n.locks lock).live grant x made) is
steady_event at n (Reminds lock) is = moves_steady at n lock nodes.Reminds reminds (λ x made. remind_goes (n.locks lock) x made) is
steady_event at n (Extends lock limit) is =
    altered_steady at n lock (becomes (n.locks lock) (HasLimit limit)) n.rows n.saved is
    (later_limit (n.locks lock) limit (nat_le (n.locks lock).live.granted limit && nat_le limit max_limit))
steady_event at n (Skips lock above) is =
    altered_steady at n lock (becomes (n.locks lock) (IsSkipped above)) n.rows n.saved is
    (later_skipped (n.locks lock) above (nat_le (n.locks lock).live.granted above && nat_le above (n.locks lock).live.limit) refl)
steady_event at n (IsForgotten lock above limit) is =
    gone_steady at n lock (becomes (n.locks lock) (IsReborn above limit)) is
    (λ follows. reborn_follows (n.locks lock) above limit (nat_le (n.locks lock).saved.granted above && (nat_le above limit && nat_le limit max_limit)) follows)
steady_event at n Saves is = silent_steady at (happens n Saves) refl (same_follows (n.locks at).live)
steady_event at n Crashes is = silent_steady at (happens n Crashes) refl (same_follows (least_voter (n.locks at).saved))

steady_turn : (at : ℕ) (n : LockNode) (t : HostTurn) → IsSteady at n → IsSteady at (host_does n t)
steady_turn at n (Befalls e) is = steady_event at n e is
steady_turn at n (HandsOut lock) is = gone_steady at n lock (handed_out (n.locks lock)) is (λ follows. follows)

-- ---- whose requests are on the disk

-- letters of a lock leave, and nothing is saved: who is served is the same
served_out : (at : ℕ) (r : ℕ → Row) (h : ℕ → Voter) (n : LockNode) (lock : ℕ) → EachAsked at r h n → EachAsked at r h (host_does n (HandsOut lock))
served_out at r h n lock is = record {
  led = is.led;
  live = is.live;
  saved = is.saved;
  grows = is.grows;
  asked = λ c t. set_by (λ (k : ℕ) (x : nodes.Node). k ≡ at → IsEntry x.live c t → Asked (h c).took t) n.locks lock (handed_out (n.locks lock)) at
      (λ same has. is.asked c t (subst (λ (k : ℕ). IsEntry (n.locks k).live c t) same has)) (λ same has. is.asked c t has) refl;
  kept = λ c t. set_by (λ (k : ℕ) (x : nodes.Node). k ≡ at → IsEntry x.saved c t → Asked (h c).kept t) n.locks lock (handed_out (n.locks lock)) at
      (λ same has. is.kept c t (subst (λ (k : ℕ). IsEntry (n.locks k).saved c t) same has)) (λ same has. is.kept c t has) refl;
  letters = λ l t grant among its body. is.letters l t grant (one_filtered (λ (x : Letter). not (lock == x.lock)) l n.outbox among).0 its body;
}

-- no stamp is taken of two sessions
once : (r : Row) (v : Voter) → Led r v → AreOnce v.took
once r v led = (
    let leads = turns_lead (begin r) led.0 in
    subst (λ (w : Voter). AreOnce w.took) (leads.there ∙ led.1) (own r leads.deeds))

not_less : (a b : ℕ) → a ≡ b → a < b → ⊥
not_less a b e less = grind (arith, nat_tests)

-- a LOCKED that leaves with no save is of a request that is on the disk
kept_one : (at : ℕ) (r : ℕ → Row) (h : ℕ → Voter) (n : LockNode) (l : Letter) (t grant : ℕ) → EachAsked at r h n → IsSteady at n → HaveSameLeast (n.locks at).saved (n.locks at).live
    → IsOneOf l n.outbox → l.lock ≡ at → l.message.body ≡ to_client.Locked t grant
    → (epoch : ℕ) × IsOneOf (record { session = l.session; epoch = epoch; stamp = t }) (h l.message.client).kept
kept_one at r h n l t grant is steady same among its body =
    let c = l.message.client in
    let one = is.letters l t grant among its body in
    let held : (n.locks at).saved.held ≡ Some (record { client = c; stamp = t; grant = grant }) = elim (steady.letters l t grant among its body) [
      | inl less ↦ absurd (not_less (n.locks at).saved.granted (n.locks at).live.granted (ap (λ (v : VoterState). v.granted) same) less)
      | inr told ↦ told
    ] in
    let saved = is.kept c t (inl (record { client = c; stamp = t; grant = grant }, held, refl, refl)) in
    let two : l.session ≡ saved.0 = (once (r c) (h c) (is.led c) (record { session = l.session; epoch = one.0; stamp = t })
    (record { session = saved.0; epoch = saved.1; stamp = t }) one.1 (is.grows c _ saved.2) refl).0 in
    (saved.1, subst (λ (s : ℕ). IsOneOf (record { session = s; epoch = saved.1; stamp = t }) (h c).kept) (sym two) saved.2)

-- the lives of all numbers after a turn
abbrev lives_by : ℕ → (ℕ → Voter) → HostTurn → ℕ → Voter
lives_by at h (Befalls e) = lives at h e
lives_by at h (HandsOut lock) = h

served_turn : (at : ℕ) (r : ℕ → Row) (h : ℕ → Voter) (n : LockNode) (t : HostTurn) → EachAsked at r h n → EachAsked at r (lives_by at h t) (host_does n t)
served_turn at r h n (Befalls e) is = served_after at r h n e is
served_turn at r h n (HandsOut lock) is = served_out at r h n lock is

out_now : (at : ℕ) (r : ℕ → Row) (h : ℕ → Voter) (n : LockNode) (t : HostTurn) (l : Letter) (s grant : ℕ) → EachAsked at r h n → IsSteady at n → MayLeaveOut n t
    → IsOneOf l (host_sends n t) → l.lock ≡ at → l.message.body ≡ to_client.Locked s grant
    → (epoch : ℕ) × IsOneOf (record { session = l.session; epoch = epoch; stamp = s }) (lives_by at h t l.message.client).kept
out_now at r h n (Befalls e) l s grant is steady may among its body = left_now at r h n e l s grant is among its body
out_now at r h n (HandsOut lock) l s grant is steady may among its body =
    let one = one_filtered (λ (x : Letter). lock == x.lock) l n.outbox among in
    let here : lock ≡ at = eqb-true lock l.lock one.1 ∙ its in
    kept_one at r h n l s grant is steady (subst (λ (k : ℕ). HaveSameLeast (n.locks k).saved (n.locks k).live) here may) one.0 its body

-- what one number asked and saved
abbrev kept_by : ℕ → (ℕ → Voter) → List HostTurn → ℕ → List Use
kept_by at h ts c = (rows.after_turns (h c) (turns_of at c (events_in ts))).kept

first_turn : (at : ℕ) (h : ℕ → Voter) (t : HostTurn) (ts : List HostTurn) (c : ℕ) → kept_by at (lives_by at h t) ts c ≡ kept_by at h (t ∷ ts) c
first_turn at h (Befalls e) ts c = ap (λ (v : Voter). v.kept) (sym (turns_more (h c) (turn_of at c e) (turns_of at c (events_in ts))))
first_turn at h (HandsOut lock) ts c = refl

stays_kept : (at : ℕ) (r : ℕ → Row) (h : ℕ → Voter) (n : LockNode) (ts : List HostTurn) (c : ℕ) (u : Use) → EachAsked at r h n → IsOneOf u (h c).kept → IsOneOf u (kept_by at h ts c)
stays_kept at r h n [] c u is among = among
stays_kept at r h n (Befalls e ∷ ts) c u is among =
    subst (λ (us : List Use). IsOneOf u us) (first_turn at h (Befalls e) ts c)
    (stays_kept at r (lives at h e) (happens n e) ts c u (served_after at r h n e is) (kept_now at r h n e c u is among))
stays_kept at r h n (HandsOut lock ∷ ts) c u is among = stays_kept at r h (host_does n (HandsOut lock)) ts c u (served_out at r h n lock is) among

out_then : (at : ℕ) (r : ℕ → Row) (h : ℕ → Voter) (n : LockNode) (ts : List HostTurn) (l : Letter) (s grant : ℕ) → EachAsked at r h n → IsSteady at n → LeaveOut n ts
    → IsOneOf l (host_sent n ts) → l.lock ≡ at → l.message.body ≡ to_client.Locked s grant
    → (epoch : ℕ) × IsOneOf (record { session = l.session; epoch = epoch; stamp = s }) (kept_by at h ts l.message.client)
out_then at r h n [] l s grant is steady may among its body = absurd among
out_then at r h n (t ∷ ts) l s grant is steady may among its body =
    let c = l.message.client in
    let next = served_turn at r h n t is in
    subst (λ (us : List Use). (epoch : ℕ) × IsOneOf (record { session = l.session; epoch = epoch; stamp = s }) us) (first_turn at h t ts c)
    (elim (one_of_two l (host_sends n t) (host_sent (host_does n t) ts) among) [
      | inl now ↦ (
          let one = out_now at r h n t l s grant is steady may.0 now its body in
          (one.0, stays_kept at r (lives_by at h t) (host_does n t) ts c _ next one.1))
      | inr later ↦ out_then at r (lives_by at h t) (host_does n t) ts l s grant next (steady_turn at n t steady) may.1 later its body
    ])

pub thrifty_reaches : (n : LockNode) (ts : List HostTurn) (l : Letter) (s grant : ℕ) → Begins n → LeaveOut n ts → IsOneOf l (host_sent n ts)
    → l.message.body ≡ to_client.Locked s grant
    → (epoch : ℕ) × IsOneOf (record { session = l.session; epoch = epoch; stamp = s })
    (rows.after_turns (begin (n.rows l.message.client)) (turns_of l.lock l.message.client (events_in ts))).kept
thrifty_reaches n ts l s grant begins may among body =
    out_then l.lock n.rows (λ c. begin (n.rows c)) n ts l s grant (begins_served l.lock n begins)
    (silent_steady l.lock n begins.waits (subst (λ (v : VoterState). FollowsDisk v (n.locks l.lock).live) (sym (begins.saved l.lock)) (same_follows (n.locks l.lock).live)))
    may among refl body
