-- who gets the vote is told
use Rattle.std.proofs.Common.{◌≡◌, ℕ, ◌+◌, ◌<◌, ◌≤◌, Bool, true, false, List, [], ◌∷◌, ◌++◌, refl, sym, ap, subst, ◌∙◌, ◌⊎◌, inl, inr, Option, Some, None, Result, arith}
use Rattle.std.specs.Prelude.{◌==◌, ◌&&◌, nat_le, if◌then◌else◌}
use Rattle.std.specs.List.{AllByRecursion}
use Rattle.std.proofs.lemmas.Bool.{eqb-true}
use Rattle.std.proofs.lemmas.Bool.Decides.{nat_tests}
use Rattle.std.proofs.lemmas.Option.{none-some, same_Some}
use Rattle.numbers.specs.Bounds.{max_limit}
use Rattle.message.specs.declared.request.Request.{Request}
use Rattle.message.specs.declared.message.ClientBody.{ClientBody}
use Rattle.message.specs.declared.message.ClientBody.TheVariants as to_client
use Rattle.message.specs.declared.message.ToClient.{ToClient}
use Rattle.message.specs.declared.message.ToVoter.{ToVoter}
use Rattle.message.specs.declared.message.VoterBody.{VoterBody}
use Rattle.message.specs.declared.message.VoterBody.TheVariants as asks
use Rattle.sessions.specs.Rows.{IsOneOf, Row}
use Rattle.voter.specs.declared.state.Grant.{Grant}
use Rattle.voter.specs.declared.state.VoterState.{VoterState}
use Rattle.voter.specs.Leases.{evict_held, release_of}
use Rattle.voter.specs.Steps.{IsSound, Outcome, admit, and_then, free_vote, finish, grant_front, grant_to, join_queue, join_queue_by, no_reply, outcome_of, queue, remind, see, step, take_release, take_request}
use Rattle.voter.specs.Waiting.{front}
use Rattle.voter.proofs.Effects.{step-Some}
use Rattle.voter.proofs.Cases.{by_admit, by_release, by_relinquish, by_request}
use Rattle.voter_node.specs.Lives.{HasLimit, IsSkipped, be_skipped, becomes, have_limit}
use Rattle.voter_node.specs.Nodes as nodes
use Rattle.lock_node.specs.Leaving.{IsTold, KeepsLetters}
use Rattle.lock_node.specs.Letters.{Letter, hearer, letter_to, letters_of, may_say, subject}
use Rattle.lock_node.specs.Locks.{Calls, Crashes, Event, Extends, IsForgotten, LetsGo, LockNode, Reminds, Saves, Skips, Speaks, happens, leaves, letters_by, moves, outcome_at}
use Rattle.lock_node.specs.Thrift.{Befalls, HostTurn, host_sent}
use Rattle.lock_node.proofs.LeavingLemmas.{leaves_then}
use Rattle.lock_node.proofs.LockLemmas.{StepsVoter, evicts, one_left, one_right, reminds, takes}

-- ---- one step of a vote

-- one of these messages says LOCKED by this grant
abbrev SaysLocked : List ToClient → Grant → Type 0
SaysLocked messages g = (m : ToClient) × IsOneOf m messages × (m.client ≡ g.client) × (m.body ≡ to_client.Locked g.stamp g.grant)

-- who has the vote then, by a grant above this number, is told
abbrev TellsNew : ℕ → Outcome → Type 0
TellsNew k o = (g : Grant) → o.state.held ≡ Some g → k < g.grant → SaysLocked o.replies g

-- the vote has no grant above this number
abbrev UpTo : ℕ → VoterState → Type 0
UpTo k v = (g : Grant) → v.held ≡ Some g → g.grant ≤ k

not_above : (a b : ℕ) → a < b → b ≤ a → ⊥
not_above a b less more = grind (arith, nat_tests)

-- a step that keeps the grant
same_grant : (k : ℕ) (v : VoterState) (o : Outcome) → UpTo k v → o.state.held ≡ v.held → TellsNew k o
same_grant k v o up same = λ g held more. absurd (not_above k g.grant more (up g (sym same ∙ held)))

tells-grant_to : (k : ℕ) (v : VoterState) (o : Option Request) → v.held ≡ None → TellsNew k (grant_to v o)
tells-grant_to k v None free = λ g held more. absurd (none-some g (sym free ∙ held))
tells-grant_to k v (Some r) free = λ g held more. (
    let same = same_Some (record { client = r.client; stamp = r.stamp; grant = v.granted + 1 }) g held in (
      record { voter = v.id; client = r.client; seen = v.seen; body = to_client.Locked r.stamp (v.granted + 1) },
      inl refl,
      ap (λ (x : Grant). x.client) same,
      ap (λ (x : Grant). to_client.Locked x.stamp x.grant) same,
    ))

tells-grant_front : (k : ℕ) (v : VoterState) → v.held ≡ None → TellsNew k (grant_front v)
unfolding grant_front
tells-grant_front k v free = tells-grant_to k v (front v.waiting) free

tells-take_release : (k : ℕ) (v : VoterState) (c s : ℕ) → UpTo k v → TellsNew k (take_release v c s)
tells-take_release k v c s up = by_release (TellsNew k) v c s (λ _. tells-grant_front k (free_vote (finish v c s)) refl)
    (λ _ _ g held more. absurd (not_above k g.grant more (up g held))) (λ _ _ g held more. absurd (not_above k g.grant more (up g held)))

held-join_queue_by : (waits granted : Bool) (v : VoterState) (g : Grant) (c s : ℕ) → (join_queue_by waits granted v g c s).state.held ≡ v.held
held-join_queue_by true granted v g c s = refl
held-join_queue_by false true v g c s = refl
held-join_queue_by false false v g c s = refl

held-join_queue : (v : VoterState) (g : Grant) (c s : ℕ) → (join_queue v g c s).state.held ≡ v.held
unfolding join_queue
held-join_queue v g c s = held-join_queue_by _ _ v g c s

-- the vote is free, and is granted by this step, or its grant stays
abbrev TellsOrStays : ℕ → VoterState → Outcome → Type 0
TellsOrStays k v o = TellsNew k o ⊎ (o.state.held ≡ v.held)

tells-admit : (k : ℕ) (v : VoterState) (c s : ℕ) → TellsOrStays k v (admit v c s)
tells-admit k v c s = by_admit (TellsOrStays k v) v c s (λ free. inl (tells-grant_front k (queue v c s) free)) (λ g _. inr (held-join_queue v g c s))

more_said : (first more : List ToClient) (g : Grant) → SaysLocked first g ⊎ SaysLocked more g → SaysLocked (first ++ more) g
more_said first more g (inl says) = (says.0, one_left says.0 first more says.1, says.2, says.3)
more_said first more g (inr says) = (says.0, one_right says.0 first more says.1, says.2, says.3)

tells-both : (k : ℕ) (a b : Outcome) → TellsNew k a → TellsOrStays k a.state b → TellsNew k (and_then a b)
tells-both k a b first (inl then_told) = λ g held more. more_said a.replies b.replies g (inr (then_told g held more))
tells-both k a b first (inr stays) = λ g held more. more_said a.replies b.replies g (inl (first g (sym stays ∙ held) more))

told_of : (k : ℕ) (v : VoterState) (o : Outcome) → UpTo k v → TellsOrStays k v o → TellsNew k o
told_of k v o up (inl tells) = tells
told_of k v o up (inr stays) = same_grant k v o up stays

tells-take_request : (k : ℕ) (v : VoterState) (c s : ℕ) → UpTo k v → TellsNew k (take_request v c s)
tells-take_request k v c s up = by_request (TellsNew k) v c s (record {
  stale = λ is. same_grant k v (no_reply v) up refl;
  repeated = λ is g held more. absurd (not_above k g.grant more (up g held));
  only = λ new none. told_of k v (admit v c s) up (tells-admit k v c s);
  newer = λ new t now less. tells-both k (take_release v c t) (admit (take_release v c t).state c s) (tells-take_release k v c t up) (tells-admit k (take_release v c t).state c s);
})

tells-outcome_of : (k : ℕ) (v : VoterState) (c : ℕ) (b : VoterBody) → UpTo k v → TellsNew k (outcome_of v c b)
tells-outcome_of k v c (asks.Request s) up = tells-take_request k (see v s) c s up
tells-outcome_of k v c (asks.Relinquish n) up =
    by_relinquish (TellsNew k) v c n (same_grant k v (no_reply v) up refl) (λ g _. tells-grant_front k (queue (free_vote v) g.client g.stamp) refl)
tells-outcome_of k v c (asks.Release s) up = tells-take_release k (see v s) c s up

tells-step : (k : ℕ) (v : VoterState) (m : ToVoter) (o : Outcome) → UpTo k v → step v m ≡ Some o → TellsNew k o
tells-step k v m o up is = subst (λ (x : Outcome). TellsNew k x) (step-Some v m o is).1 (tells-outcome_of k v m.client m.body up)

tells_nothing : (k : ℕ) (v : VoterState) (o : Outcome) → UpTo k v → Some (no_reply v) ≡ Some o → TellsNew k o
tells_nothing k v o up is = subst (λ (x : Outcome). TellsNew k x) (same_Some (no_reply v) o is) (same_grant k v (no_reply v) up refl)

letting_by : (k : ℕ) (b : Bool) (v : VoterState) (g : Grant) (o : Outcome) → UpTo k v → (if b then step v (release_of v g) else Some (no_reply v)) ≡ Some o → TellsNew k o
letting_by k true v g o up is = tells-step k v (release_of v g) o up is
letting_by k false v g o up is = tells_nothing k v o up is

tells-evict : (k : ℕ) (held : Option Grant) (v : VoterState) (grant : ℕ) (o : Outcome) → UpTo k v → evict_held held v grant ≡ Some o → TellsNew k o
tells-evict k None v grant o up is = tells_nothing k v o up is
tells-evict k (Some g) v grant o up is = letting_by k (g.grant == grant) v g o up is

tells-remind : (k : ℕ) (n : nodes.Node) (o : Outcome) → UpTo k n.live → outcome_at n nodes.Reminds ≡ Some o → TellsNew k o
tells-remind k n o up is =
    let now : Outcome = record { replies = remind n.live; state = n.live } in
    subst (λ (x : Outcome). TellsNew k x) (same_Some now o is) (same_grant k n.live now up refl)

-- ---- a process

-- who hears it has a letter
letter_for : (rs : ℕ → Row) (lock session : ℕ) (held : Option Grant) (messages : List ToClient) (m : ToClient) → IsOneOf m messages
    → hearer (rs m.client) (subject held m.client m.body) ≡ Some session → IsOneOf (record { lock = lock; session = session; message = m }) (letters_of rs lock held messages)
letter_for rs lock session held [] m is hears = absurd is
letter_for rs lock session held (x ∷ xs) m is hears =
    let l : Letter = record { lock = lock; session = session; message = m } in
    elim is [
      | inl here ↦
          let at : hearer (rs x.client) (subject held x.client x.body) ≡ Some session =
          subst (λ (y : ToClient). hearer (rs y.client) (subject held y.client y.body) ≡ Some session) here hears in
          let first : IsOneOf l (letter_to (hearer (rs x.client) (subject held x.client x.body)) lock x) =
          subst (λ (o : Option ℕ). IsOneOf l (letter_to o lock x)) (sym at) (inl (ap (λ (y : ToClient). record { lock = lock; session = session; message = y }) here)) in
          one_left l _ (letters_of rs lock held xs) first
      | inr there ↦ one_right l (letter_to (hearer (rs x.client) (subject held x.client x.body)) lock x) (letters_of rs lock held xs) (letter_for rs lock session held xs m there hears)
    ]

told_by : (rs : ℕ → Row) (lock session : ℕ) (o : Outcome) (g : Grant) → SaysLocked o.replies g → hearer (rs g.client) g.stamp ≡ Some session
    → IsTold (letters_of rs lock o.state.held o.replies) lock session g
told_by rs lock session o g says hears =
    let m = says.0 in
    let about : subject o.state.held m.client m.body ≡ g.stamp = ap (λ (b : ClientBody). subject o.state.held m.client b) says.3 in
    let at : hearer (rs m.client) (subject o.state.held m.client m.body) ≡ Some session =
    ap (λ (t : ℕ). hearer (rs m.client) t) about ∙ ap (λ (c : ℕ). hearer (rs c) g.stamp) says.2 ∙ hears in
    (record { lock = lock; session = session; message = m }, letter_for rs lock session o.state.held o.replies m says.1 at, refl, refl, says.2, says.3)

more_told : (first more : List Letter) (lock session : ℕ) (g : Grant) → IsTold more lock session g → IsTold (first ++ more) lock session g
more_told first more lock session g told = (told.0, one_right told.0 first more told.1, told.2, told.3, told.4, told.5)

told_then : (n : LockNode) (ts : List HostTurn) (lock session : ℕ) (g : Grant) → AllByRecursion (KeepsLetters lock) ts → IsTold n.outbox lock session g
    → IsTold (host_sent n (ts ++ (Befalls Saves ∷ []))) lock session g
told_then n ts lock session g keeps told =
    (told.0, leaves_then n ts told.0 (subst (λ (k : ℕ). AllByRecursion (KeepsLetters k) ts) (sym told.2) keeps) told.1, told.2, told.3, told.4, told.5)

-- the node of a lock after a step has a grant that is new
told_node : (n : nodes.Node) (rs : ℕ → Row) (lock session : ℕ) (b : Bool) (o : Option Outcome) (g : Grant) → UpTo n.live.granted n.live
    → ((x : Outcome) → o ≡ Some x → TellsNew n.live.granted x) → (nodes.after n (nodes.if_room b (nodes.after_voter n o))).live.held ≡ Some g → n.live.granted < g.grant
    → hearer (rs g.client) g.stamp ≡ Some session → IsTold (letters_by b rs lock o) lock session g
told_node n rs lock session false o g up tells held more hears = absurd (not_above n.live.granted g.grant more (up g held))
told_node n rs lock session true None g up tells held more hears = absurd (not_above n.live.granted g.grant more (up g held))
told_node n rs lock session true (Some x) g up tells held more hears = told_by rs lock session x g (tells x refl g held more) hears

up_to : (v : VoterState) → IsSound v → UpTo v.granted v
up_to v sound = λ g held. sound.numbered g held

-- a lock that stays as it was has no new grant
no_news : (v : VoterState) (g : Grant) → IsSound v → v.held ≡ Some g → v.granted < g.grant → ⊥
no_news v g sound held more = not_above v.granted g.grant more (sound.numbered g held)

moves_by : (n : LockNode) (other lock session : ℕ) (e : nodes.Event) (g : Grant) (b : Bool) → (other == lock) ≡ b → StepsVoter e → IsSound (n.locks lock).live
    → ((x : Outcome) → outcome_at (n.locks other) e ≡ Some x → UpTo (n.locks other).live.granted (n.locks other).live → TellsNew (n.locks other).live.granted x)
    → (if b then nodes.after (n.locks other) (nodes.node_step (n.locks other) e) else n.locks lock).live.held ≡ Some g → (n.locks lock).live.granted < g.grant
    → hearer (n.rows g.client) g.stamp ≡ Some session → IsTold (moves n other e).outbox lock session g
moves_by n other lock session e g false at of sound tells held more hears = absurd (no_news (n.locks lock).live g sound held more)
moves_by n other lock session e g true at of sound tells held more hears =
    let here : other ≡ lock = eqb-true other lock at in
    let node = n.locks other in
    let up : UpTo node.live.granted node.live = up_to node.live (subst (λ (k : ℕ). IsSound (n.locks k).live) (sym here) sound) in
    let now = subst (λ (t : Result nodes.Turn _). (nodes.after node t).live.held ≡ Some g) (of.is node) held in
    let less = subst (λ (k : ℕ). (n.locks k).live.granted < g.grant) (sym here) more in
    more_told n.outbox (letters_by (nodes.has_room node) n.rows other (outcome_at node e)) lock session g
    (subst (λ (k : ℕ). IsTold (letters_by (nodes.has_room node) n.rows other (outcome_at node e)) k session g) here
    (told_node node n.rows other session (nodes.has_room node) (outcome_at node e) g up (λ x is. tells x is up) now less hears))

speaks_by : (n : LockNode) (other lock session : ℕ) (m : ToVoter) (g : Grant) (b : Bool) → IsSound (n.locks lock).live
    → ((if b then moves n other (nodes.Takes m) else n).locks lock).live.held ≡ Some g → (n.locks lock).live.granted < g.grant
    → hearer (n.rows g.client) g.stamp ≡ Some session → IsTold (if b then moves n other (nodes.Takes m) else n).outbox lock session g
speaks_by n other lock session m g false sound held more hears = absurd (no_news (n.locks lock).live g sound held more)
speaks_by n other lock session m g true sound held more hears =
    moves_by n other lock session (nodes.Takes m) g (other == lock) refl (takes m) sound (λ x is up. tells-step (n.locks other).live.granted (n.locks other).live m x up is) held more hears

held_limit : (n : nodes.Node) (limit : ℕ) (b : Bool) → (have_limit b n limit).live.held ≡ n.live.held
held_limit n limit true = refl
held_limit n limit false = refl

held_skipped : (n : nodes.Node) (above : ℕ) (b : Bool) → (be_skipped b n above).live.held ≡ n.live.held
held_skipped n above true = refl
held_skipped n above false = refl

alters_by : (n : LockNode) (other lock : ℕ) (next : nodes.Node) (g : Grant) (b : Bool) → (other == lock) ≡ b → next.live.held ≡ (n.locks other).live.held
    → (if b then next else n.locks lock).live.held ≡ Some g → (n.locks lock).live.held ≡ Some g
alters_by n other lock next g false at same held = held
alters_by n other lock next g true at same held = ap (λ (k : ℕ). (n.locks k).live.held) (sym (eqb-true other lock at)) ∙ sym same ∙ held

forgets_by : (n : LockNode) (other lock : ℕ) (next : nodes.Node) (g : Grant) (b : Bool) → (other == lock) ≡ b → (other ≡ lock → ⊥)
    → (if b then next else n.locks lock).live.held ≡ Some g → (n.locks lock).live.held ≡ Some g
forgets_by n other lock next g false at another held = held
forgets_by n other lock next g true at another held = absurd (another (eqb-true other lock at))

told_now : (n : LockNode) (e : Event) (lock session : ℕ) (g : Grant) → IsSound (n.locks lock).live → ((happens n e).locks lock).live.held ≡ Some g
    → (n.locks lock).live.granted < g.grant → hearer (n.rows g.client) g.stamp ≡ Some session → KeepsLetters lock (Befalls e) → IsTold (happens n e).outbox lock session g
unfolding nodes.node_step
told_now n (Calls number call) lock session g sound held more hears keeps = absurd (no_news (n.locks lock).live g sound held more)
told_now n (Speaks other by epoch m) lock session g sound held more hears keeps = speaks_by n other lock session m g (may_say (n.rows m.client) by epoch m.body) sound held more hears
told_now n (LetsGo other grant) lock session g sound held more hears keeps =
    moves_by n other lock session (nodes.Evicts grant) g (other == lock) refl (evicts grant) sound
    (λ x is up. tells-evict (n.locks other).live.granted (n.locks other).live.held (n.locks other).live grant x up is) held more hears
told_now n (Reminds other) lock session g sound held more hears keeps =
    moves_by n other lock session nodes.Reminds g (other == lock) refl reminds sound (λ x is up. tells-remind (n.locks other).live.granted (n.locks other) x up is) held more hears
told_now n (Extends other limit) lock session g sound held more hears keeps =
    absurd (no_news (n.locks lock).live g sound (alters_by n other lock (becomes (n.locks other) (HasLimit limit)) g (other == lock) refl
    (held_limit (n.locks other) limit (nat_le (n.locks other).live.granted limit && nat_le limit max_limit)) held) more)
told_now n (Skips other above) lock session g sound held more hears keeps =
    absurd (no_news (n.locks lock).live g sound (alters_by n other lock (becomes (n.locks other) (IsSkipped above)) g (other == lock) refl
    (held_skipped (n.locks other) above (nat_le (n.locks other).live.granted above && nat_le above (n.locks other).live.limit)) held) more)
told_now n (IsForgotten other above limit) lock session g sound held more hears keeps =
    absurd (no_news (n.locks lock).live g sound (forgets_by n other lock _ g (other == lock) refl keeps held) more)
told_now n Saves lock session g sound held more hears keeps = absurd (no_news (n.locks lock).live g sound held more)
told_now n Crashes lock session g sound held more hears keeps = absurd keeps

pub new_told : (n : LockNode) (e : Event) (ts : List HostTurn) (lock session : ℕ) (g : Grant) → IsSound (n.locks lock).live
    → ((happens n e).locks lock).live.held ≡ Some g → (n.locks lock).live.granted < g.grant → hearer (n.rows g.client) g.stamp ≡ Some session
    → AllByRecursion (KeepsLetters lock) (Befalls e ∷ ts) → IsTold (host_sent n (Befalls e ∷ ts ++ (Befalls Saves ∷ []))) lock session g
new_told n e ts lock session g sound held more hears keeps =
    more_told (leaves n e) (host_sent (happens n e) (ts ++ (Befalls Saves ∷ []))) lock session g
    (told_then (happens n e) ts lock session g keeps.1 (told_now n e lock session g sound held more hears keeps.0))
