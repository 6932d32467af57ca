-- letters that do leave
use Rattle.std.proofs.Common.{◌≡◌, ℕ, ◌+◌, ◌<◌, ◌≤◌, Bool, true, false, cond, List, [], ◌∷◌, ◌++◌, refl, sym, ap, subst, ◌∙◌, ◌⊎◌, inl, inr, Option, Some, None, arith, eqb}
use Rattle.std.specs.Prelude.{◌==◌, ◌&&◌, nat_lt, nat_le, if◌then◌else◌, not, slice_index}
use Rattle.std.specs.List.{AllByRecursion, filter}
use Rattle.std.specs.FinMap.{get, insert}
use Rattle.std.proofs.lemmas.Bool.{eq-eqb, eqb-true, false≢true}
use Rattle.std.proofs.lemmas.Bool.Decides.{nat_tests}
use Rattle.std.proofs.lemmas.Option.{none-some, same_Some}
use Rattle.numbers.proofs.Options.{and-true}
use Rattle.message.specs.declared.request.Request.{Request}
use Rattle.message.specs.declared.message.ClientBody.TheVariants as to_client
use Rattle.message.specs.declared.message.ToClient.{ToClient}
use Rattle.message.specs.declared.message.ToVoter.{ToVoter}
use Rattle.message.specs.declared.message.VoterBody.{VoterBody}
use Rattle.message.specs.declared.message.VoterBody.TheVariants as asks
use Rattle.message.specs.Requests.{precedes}
use Rattle.sessions.specs.Rows.{IsOneOf, Row, has_number, is_name, is_taken}
use Rattle.voter.specs.declared.state.Grant.{Grant}
use Rattle.voter.specs.declared.state.VoterState.{VoterState}
use Rattle.voter.specs.Steps.{IsSound, Outcome, again, again_by, admit, current_stamp, first_some, grant_front, grant_to, granted_to, held_stamp, outcome_of, queue, reply, see, step, take_request, unless_spent}
use Rattle.voter.specs.Waiting.{Waiting, front}
use Rattle.voter.proofs.Cases.{by_admit, by_request}
use Rattle.voter.proofs.Front.{front-is}
use Rattle.voter.proofs.NewRequests.{here_inserted}
use Rattle.voter.proofs.Soundness.{get-inserted}
use Rattle.voter_node.specs.LeftOut.{HaveSameLeast}
use Rattle.voter_node.specs.Nodes as nodes
use Rattle.lock_node.specs.Leaving.{KeepsLetters, locked_letter}
use Rattle.lock_node.specs.Letters.{Letter, hearer, letter_to, letters_of, may_say}
use Rattle.lock_node.specs.Locks.{Calls, Crashes, Extends, IsForgotten, LetsGo, LockNode, Reminds, Saves, Skips, Speaks, happens, letters_by, moves}
use Rattle.lock_node.specs.Thrift.{Befalls, HandsOut, HostTurn, LeaveOut, host_does, host_sends, host_sent}
use Rattle.lock_node.proofs.LockLemmas.{one_left, one_right, set_here}

-- ---- letters that wait leave

keep_test : {A : Type 0} (p : A → Bool) (x y : A) (ys : List A) (b : Bool) → p y ≡ b → p x ≡ true → (x ≡ y) ⊎ IsOneOf x (filter p ys)
    → IsOneOf x (cond b (y ∷ filter p ys) (filter p ys))
keep_test p x y ys true e is at = at
keep_test p x y ys false e is at = elim at [
  | inl here ↦ absurd (false≢true (sym e ∙ ap p (sym here) ∙ is))
  | inr there ↦ there
]

keep_one : {A : Type 0} (p : A → Bool) (x : A) (xs : List A) → IsOneOf x xs → p x ≡ true → IsOneOf x (filter p xs)
keep_one p x [] is e = absurd is
keep_one p x (y ∷ ys) is e = keep_test p x y ys (p y) refl e (elim is [
  | inl here ↦ inl here
  | inr there ↦ inr (keep_one p x ys there e)
])

other_lock : (lock at : ℕ) (b : Bool) → (lock == at) ≡ b → (lock ≡ at → ⊥) → not b ≡ true
other_lock lock at true e other = absurd (other (eqb-true lock at e))
other_lock lock at false e other = refl

speaks_on : (n : LockNode) (lock : ℕ) (m : ToVoter) (l : Letter) (b : Bool) → IsOneOf l n.outbox → IsOneOf l (if b then moves n lock (nodes.Takes m) else n).outbox
speaks_on n lock m l true is = one_left l n.outbox _ is
speaks_on n lock m l false is = is

handed_by : (n : LockNode) (lock : ℕ) (l : Letter) (b : Bool) → (lock == l.lock) ≡ b → IsOneOf l n.outbox
    → IsOneOf l (host_sends n (HandsOut lock)) ⊎ IsOneOf l (host_does n (HandsOut lock)).outbox
handed_by n lock l true at is = inl (keep_one (λ (x : Letter). lock == x.lock) l n.outbox is at)
handed_by n lock l false at is = inr (keep_one (λ (x : Letter). not (lock == x.lock)) l n.outbox is (ap not at))

goes_on : (n : LockNode) (t : HostTurn) (l : Letter) → KeepsLetters l.lock t → IsOneOf l n.outbox → IsOneOf l (host_sends n t) ⊎ IsOneOf l (host_does n t).outbox
goes_on n (Befalls (Calls number call)) l keeps is = inr is
goes_on n (Befalls (Speaks lock session epoch m)) l keeps is = inr (speaks_on n lock m l (may_say (n.rows m.client) session epoch m.body) is)
goes_on n (Befalls (LetsGo lock grant)) l keeps is = inr (one_left l n.outbox _ is)
goes_on n (Befalls (Reminds lock)) l keeps is = inr (one_left l n.outbox _ is)
goes_on n (Befalls (Extends lock limit)) l keeps is = inr is
goes_on n (Befalls (Skips lock above)) l keeps is = inr is
goes_on n (Befalls (IsForgotten lock above limit)) l keeps is = inr (keep_one (λ (x : Letter). not (lock == x.lock)) l n.outbox is (other_lock lock l.lock (lock == l.lock) refl keeps))
goes_on n (Befalls Saves) l keeps is = inl is
goes_on n (Befalls Crashes) l keeps is = absurd keeps
goes_on n (HandsOut lock) l keeps is = handed_by n lock l (lock == l.lock) refl is

pub leaves_then : (n : LockNode) (ts : List HostTurn) (l : Letter) → AllByRecursion (KeepsLetters l.lock) ts → IsOneOf l n.outbox → IsOneOf l (host_sent n (ts ++ (Befalls Saves ∷ [])))
leaves_then n [] l keeps is = one_left l n.outbox [] is
leaves_then n (t ∷ ts) l keeps is = elim (goes_on n t l keeps.0 is) [
  | inl now ↦ one_left l (host_sends n t) _ now
  | inr later ↦ one_right l (host_sends n t) _ (leaves_then (host_does n t) ts l keeps.1 later)
]

-- ---- what a vote answers

-- the new request, which gets the vote
abbrev granted : VoterState → ℕ → ℕ → Outcome
granted v c s = record {
  replies = reply (see v s) c (to_client.Locked s (v.granted + 1)) ∷ [];
  state = granted_to (queue (see v s) c s) (record { stamp = s; client = c });
}

by_key : (w : Waiting) (c s d t : ℕ) (b : Bool) → ((x : ℕ) → get w x ≡ None) → eqb d c ≡ b → cond b (Some s) (get w d) ≡ Some t
    → precedes (record { stamp = t; client = d }) (record { stamp = s; client = c }) ≡ false
by_key w c s d t true none e at = let one = same_Some s t at in grind (arith, nat_tests)
by_key w c s d t false none e at = absurd (none-some t (sym (none d) ∙ at))

first_alone : (w : Waiting) (c s d t : ℕ) → ((x : ℕ) → get w x ≡ None) → get (insert w c s) d ≡ Some t → precedes (record { stamp = t; client = d }) (record { stamp = s; client = c }) ≡ false
first_alone w c s d t none is = by_key w c s d t (eqb d c) none refl (sym (get-inserted w c s d) ∙ is)

front_alone : (w : Waiting) (c s : ℕ) → ((x : ℕ) → get w x ≡ None) → front (insert w c s) ≡ Some (record { stamp = s; client = c })
front_alone w c s none = front-is (insert w c s) (record { stamp = s; client = c }) (here_inserted w c s) (λ d t is. first_alone w c s d t none is)

front_granted : (v : VoterState) (c s : ℕ) → ((x : ℕ) → get v.waiting x ≡ None) → grant_front (queue (see v s) c s) ≡ granted v c s
unfolding grant_front
front_granted v c s none = ap (λ (o : Option Request). grant_to (queue (see v s) c s) o) (front_alone v.waiting c s none)

admit_granted : (v : VoterState) (c s : ℕ) → v.held ≡ None → ((x : ℕ) → get v.waiting x ≡ None) → admit (see v s) c s ≡ granted v c s
admit_granted v c s free none = by_admit (λ o. o ≡ granted v c s) (see v s) c s (λ is. front_granted v c s none) (λ g held. absurd (none-some g (sym free ∙ held)))

not_up_to : (a b : ℕ) → a < b → b ≤ a → ⊥
not_up_to a b less more = grind (arith, nat_tests)

none_current : (v : VoterState) (c s t : ℕ) → v.held ≡ None → ((x : ℕ) → get v.waiting x ≡ None) → current_stamp (see v s) c ≡ Some t → ⊥
none_current v c s t free none is =
    none-some t (sym (ap (λ (o : Option Grant). first_some (held_stamp o c) (get v.waiting c)) free ∙ none c) ∙ is)

request_granted : (v : VoterState) (c s : ℕ) → v.held ≡ None → ((x : ℕ) → get v.waiting x ≡ None) → slice_index v.finished c < s → take_request (see v s) c s ≡ granted v c s
request_granted v c s free none new = by_request (λ o. o ≡ granted v c s) (see v s) c s (record {
  stale = λ is. elim is [
    | inl over ↦ absurd (not_up_to (slice_index v.finished c) s new over)
    | inr now ↦ absurd (none_current v c s now.0 free none now.1)
  ];
  repeated = λ is. absurd (none_current v c s s free none is);
  only = λ is now. admit_granted v c s free none;
  newer = λ is t now less. absurd (none_current v c s t free none now);
})

not_spent : (limit granted : ℕ) → granted < limit → nat_lt limit (granted + 1) ≡ false
not_spent limit granted less = grind (arith, nat_tests)

step_granted : (v : VoterState) (m : ToVoter) (s : ℕ) → m.body ≡ asks.Request s → IsSound v → v.held ≡ None → slice_index v.finished m.client < s → v.granted < v.limit
    → step v m ≡ Some (granted v m.client s)
unfolding step
step_granted v m s is sound free new left =
    let o : outcome_of v m.client m.body ≡ granted v m.client s = ap (λ (b : VoterBody). outcome_of v m.client b) is ∙ request_granted v m.client s free (sound.free free) new in
    ap (λ (x : Outcome). unless_spent (nat_lt v.limit x.state.granted) x) o ∙ ap (λ (b : Bool). unless_spent b (granted v m.client s)) (not_spent v.limit v.granted left)

-- the request that has the vote, again
abbrev repeated : VoterState → ℕ → ℕ → ℕ → Outcome
repeated v c s grant = record { replies = reply (see v s) c (to_client.Locked s grant) ∷ []; state = see v s }

holds : (v : VoterState) (c s grant : ℕ) → v.held ≡ Some (record { client = c; stamp = s; grant = grant }) → current_stamp (see v s) c ≡ Some s
holds v c s grant held =
    ap (λ (o : Option Grant). first_some (held_stamp o c) (get v.waiting c)) held
    ∙ ap (λ (b : Bool). first_some (if b then Some s else None) (get v.waiting c)) (eq-eqb c c refl)

holds_this : (v : VoterState) (c s grant t : ℕ) → v.held ≡ Some (record { client = c; stamp = s; grant = grant }) → current_stamp (see v s) c ≡ Some t → s ≡ t
holds_this v c s grant t held is = same_Some s t (sym (holds v c s grant held) ∙ is)

not_other : (s t : ℕ) → s ≡ t → (s < t) ⊎ (t < s) → ⊥
not_other s t same (inl less) = grind (arith, nat_tests)
not_other s t same (inr less) = grind (arith, nat_tests)

again_told : (v : VoterState) (c s grant : ℕ) → v.held ≡ Some (record { client = c; stamp = s; grant = grant })
    → again (see v s) v.held c s ≡ reply (see v s) c (to_client.Locked s grant) ∷ []
again_told v c s grant held =
    ap (λ (o : Option Grant). again (see v s) o c s) held
    ∙ ap (λ (b : Bool). again_by b (see v s) (record { client = c; stamp = s; grant = grant }) c s) (eq-eqb c c refl)

request_repeated : (v : VoterState) (c s grant : ℕ) → v.held ≡ Some (record { client = c; stamp = s; grant = grant }) → slice_index v.finished c < s
    → take_request (see v s) c s ≡ repeated v c s grant
request_repeated v c s grant held new = by_request (λ o. o ≡ repeated v c s grant) (see v s) c s (record {
  stale = λ is. elim is [
    | inl over ↦ absurd (not_up_to (slice_index v.finished c) s new over)
    | inr now ↦ absurd (not_other s now.0 (holds_this v c s grant now.0 held now.1) (inl now.2))
  ];
  repeated = λ is. ap (λ (ms : List ToClient). record { replies = ms; state = see v s }) (again_told v c s grant held);
  only = λ is now. absurd (none-some s (sym now ∙ holds v c s grant held));
  newer = λ is t now less. absurd (not_other s t (holds_this v c s grant t held now) (inr less));
})

within : (limit granted : ℕ) → granted ≤ limit → nat_lt limit granted ≡ false
within limit granted less = grind (arith, nat_tests)

step_repeated : (v : VoterState) (m : ToVoter) (s grant : ℕ) → m.body ≡ asks.Request s → IsSound v → v.held ≡ Some (record { client = m.client; stamp = s; grant = grant })
    → slice_index v.finished m.client < s → step v m ≡ Some (repeated v m.client s grant)
unfolding step
step_repeated v m s grant is sound held new =
    let o : outcome_of v m.client m.body ≡ repeated v m.client s grant = ap (λ (b : VoterBody). outcome_of v m.client b) is ∙ request_repeated v m.client s grant held new in
    ap (λ (x : Outcome). unless_spent (nat_lt v.limit x.state.granted) x) o ∙ ap (λ (b : Bool). unless_spent b (repeated v m.client s grant)) (within v.limit v.granted sound.granted)

-- ---- who hears it

named : (o : Option ℕ) (session : ℕ) → is_name o session ≡ true → o ≡ Some session
named None session e = absurd (false≢true e)
named (Some name) session e = ap (λ (s : ℕ). Some s) (eqb-true name session e)

hears : (r : Row) (session epoch stamp : ℕ) → is_taken r session epoch stamp ≡ true → hearer r stamp ≡ Some session
hears r session epoch stamp taken =
    let two = and-true (has_number r session epoch) (nat_lt r.base stamp && nat_le stamp r.reserved) taken in
    let above = (and-true (nat_lt r.base stamp) (nat_le stamp r.reserved) two.1).0 in
    ap (λ (b : Bool). if b then r.session else None) above ∙ named r.session session (and-true (r.epoch == epoch) (is_name r.session session) two.0).1

-- the one letter of a step that says LOCKED
letter_said : (rs : ℕ → Row) (lock session epoch c s grant : ℕ) (v w : VoterState) → is_taken (rs c) session epoch s ≡ true
    → IsOneOf (locked_letter v lock session c s grant) (letters_of rs lock w.held (reply (see v s) c (to_client.Locked s grant) ∷ []))
letter_said rs lock session epoch c s grant v w taken =
    subst (λ (o : Option ℕ). IsOneOf (locked_letter v lock session c s grant) (letter_to o lock (reply (see v s) c (to_client.Locked s grant)) ++ []))
    (sym (hears (rs c) session epoch s taken)) (inl refl)

-- a step that says this one LOCKED
said_by : (n : LockNode) (lock session epoch s grant : ℕ) (m : ToVoter) (w : VoterState) (b : Bool) (o : Option Outcome) → b ≡ true
    → o ≡ Some (record { replies = reply (see (n.locks lock).live s) m.client (to_client.Locked s grant) ∷ []; state = w })
    → is_taken (n.rows m.client) session epoch s ≡ true
    → IsOneOf (locked_letter (n.locks lock).live lock session m.client s grant) (n.outbox ++ letters_by b n.rows lock o)
said_by n lock session epoch s grant m w b o room is taken =
    let l = locked_letter (n.locks lock).live lock session m.client s grant in
    let x : Outcome = record { replies = reply (see (n.locks lock).live s) m.client (to_client.Locked s grant) ∷ []; state = w } in
    one_right l n.outbox (letters_by b n.rows lock o)
    (subst (λ (t : Bool). IsOneOf l (letters_by t n.rows lock o)) (sym room)
    (subst (λ (t : Option Outcome). IsOneOf l (letters_by true n.rows lock t)) (sym is)
    (letter_said n.rows lock session epoch m.client s grant (n.locks lock).live x.state taken)))

says_request : (r : Row) (session epoch s : ℕ) (body : VoterBody) → body ≡ asks.Request s → is_taken r session epoch s ≡ true → may_say r session epoch body ≡ true
says_request r session epoch s body is taken = ap (λ (b : VoterBody). may_say r session epoch b) is ∙ taken

waits_now : (n : LockNode) (lock session epoch s grant : ℕ) (m : ToVoter) (w : VoterState) → m.body ≡ asks.Request s → is_taken (n.rows m.client) session epoch s ≡ true
    → nodes.has_room (n.locks lock) ≡ true
    → step (n.locks lock).live m ≡ Some (record { replies = reply (see (n.locks lock).live s) m.client (to_client.Locked s grant) ∷ []; state = w })
    → IsOneOf (locked_letter (n.locks lock).live lock session m.client s grant) (happens n (Speaks lock session epoch m)).outbox
waits_now n lock session epoch s grant m w is taken room made =
    subst (λ (b : Bool). IsOneOf (locked_letter (n.locks lock).live lock session m.client s grant) (if b then moves n lock (nodes.Takes m) else n).outbox)
    (sym (says_request (n.rows m.client) session epoch s m.body is taken))
    (said_by n lock session epoch s grant m w (nodes.has_room (n.locks lock)) (step (n.locks lock).live m) room made taken)

pub granted_told : (n : LockNode) (lock session epoch s : ℕ) (m : ToVoter) (ts : List HostTurn) → m.body ≡ asks.Request s
    → is_taken (n.rows m.client) session epoch s ≡ true → IsSound (n.locks lock).live → (n.locks lock).live.held ≡ None
    → slice_index (n.locks lock).live.finished m.client < s → (n.locks lock).live.granted < (n.locks lock).live.limit
    → nodes.has_room (n.locks lock) ≡ true → AllByRecursion (KeepsLetters lock) ts
    → IsOneOf (locked_letter (n.locks lock).live lock session m.client s ((n.locks lock).live.granted + 1)) (host_sent n (Befalls (Speaks lock session epoch m) ∷ ts ++ (Befalls Saves ∷ [])))
granted_told n lock session epoch s m ts is taken sound free new left room keeps =
    let v = (n.locks lock).live in
    leaves_then (happens n (Speaks lock session epoch m)) ts (locked_letter v lock session m.client s (v.granted + 1)) keeps
    (waits_now n lock session epoch s (v.granted + 1) m (granted v m.client s).state is taken room (step_granted v m s is sound free new left))

-- ---- with no save

stepped : (n : nodes.Node) (m : ToVoter) (o : Outcome) → nodes.has_room n ≡ true → step n.live m ≡ Some o → nodes.after n (nodes.node_step n (nodes.Takes m)) ≡ nodes.put n o
unfolding nodes.node_step
stepped n m o room is =
    ap (λ (b : Bool). nodes.after n (nodes.if_room b (nodes.after_voter n (step n.live m)))) room
    ∙ ap (λ (x : Option Outcome). nodes.after n (nodes.if_room true (nodes.after_voter n x))) is

still_least : (n : LockNode) (lock session epoch s grant : ℕ) (m : ToVoter) → m.body ≡ asks.Request s → is_taken (n.rows m.client) session epoch s ≡ true
    → nodes.has_room (n.locks lock) ≡ true → step (n.locks lock).live m ≡ Some (repeated (n.locks lock).live m.client s grant)
    → HaveSameLeast (n.locks lock).saved (n.locks lock).live
    → HaveSameLeast ((happens n (Speaks lock session epoch m)).locks lock).saved ((happens n (Speaks lock session epoch m)).locks lock).live
still_least n lock session epoch s grant m is taken room made same =
    let node = n.locks lock in
    let next = nodes.after node (nodes.node_step node (nodes.Takes m)) in
    let here : HaveSameLeast next.saved next.live = subst (λ (x : nodes.Node). HaveSameLeast x.saved x.live) (sym (stepped node m (repeated node.live m.client s grant) room made)) same in
    subst (λ (b : Bool). HaveSameLeast ((if b then moves n lock (nodes.Takes m) else n).locks lock).saved ((if b then moves n lock (nodes.Takes m) else n).locks lock).live)
    (sym (says_request (n.rows m.client) session epoch s m.body is taken))
    (set_here (λ (x : nodes.Node). HaveSameLeast x.saved x.live) n.locks lock next here)

pub repeated_told : (n : LockNode) (lock session epoch s grant : ℕ) (m : ToVoter) → m.body ≡ asks.Request s
    → is_taken (n.rows m.client) session epoch s ≡ true → IsSound (n.locks lock).live
    → (n.locks lock).live.held ≡ Some (record { client = m.client; stamp = s; grant = grant })
    → slice_index (n.locks lock).live.finished m.client < s → nodes.has_room (n.locks lock) ≡ true
    → HaveSameLeast (n.locks lock).saved (n.locks lock).live
    → LeaveOut n (Befalls (Speaks lock session epoch m) ∷ HandsOut lock ∷ [])
    × IsOneOf (locked_letter (n.locks lock).live lock session m.client s grant) (host_sent n (Befalls (Speaks lock session epoch m) ∷ HandsOut lock ∷ []))
repeated_told n lock session epoch s grant m is taken sound held new room same =
    let v = (n.locks lock).live in
    let l = locked_letter v lock session m.client s grant in
    let made = step_repeated v m s grant is sound held new in
    let next = happens n (Speaks lock session epoch m) in (
      (tt, (still_least n lock session epoch s grant m is taken room made same, tt)),
      one_left l (filter (λ (x : Letter). lock == x.lock) next.outbox) []
          (keep_one (λ (x : Letter). lock == x.lock) l next.outbox (waits_now n lock session epoch s grant m (see v s) is taken room made) (eq-eqb lock lock refl)),
    )
