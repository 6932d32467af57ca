-- lock by lock, the process is a node, and its letters are what the nodes say
use Rattle.std.proofs.Common.{◌≡◌, ℕ, Bool, true, false, List, [], ◌∷◌, ◌++◌, refl, sym, ap, subst, ◌∙◌, ◌⊎◌, inl, inr, Option, Some, None, Result}
use Rattle.std.specs.Prelude.{◌==◌, ◌&&◌, nat_le, cond, if◌then◌else◌, is_some, map, not}
use Rattle.std.specs.List.{filter}
use Rattle.numbers.specs.Bounds.{max_limit}
use Rattle.std.proofs.lemmas.Bool.{eq-eqb, eqb-true, false≢true}
use Rattle.message.specs.declared.message.ToClient.{ToClient}
use Rattle.message.specs.declared.message.ToVoter.{ToVoter}
use Rattle.sessions.specs.Rows.{IsOneOf, Row}
use Rattle.voter.specs.declared.state.Grant.{Grant}
use Rattle.voter.specs.Steps.{Outcome}
use Rattle.voter_node.specs.Lives.{Fate, HasLimit, IsReborn, IsSkipped, Meets, be_skipped, becomes, have_limit, node_after, says, sends}
use Rattle.voter_node.specs.Nodes as nodes
use Rattle.lock_node.specs.Letters.{Letter, heard, hearer, letter_to, letters_of, may_say, subject}
use Rattle.lock_node.specs.Locks.{Begins, Calls, Crashes, Event, Extends, IsForgotten, LetsGo, LockNode, Reminds, Saves, Skips, Speaks, all_happen, all_leave, alters, fate_at, forgets, happens, leaves, letters_by, life_at, moves, outcome_at, set}

-- ---- lists

pub one_left : {A : Type 0} (x : A) (xs ys : List A) → IsOneOf x xs → IsOneOf x (xs ++ ys)
one_left x [] ys is = absurd is
one_left x (y ∷ xs) ys is = elim is [
  | inl here ↦ inl here
  | inr there ↦ inr (one_left x xs ys there)
]

pub one_right : {A : Type 0} (x : A) (xs ys : List A) → IsOneOf x ys → IsOneOf x (xs ++ ys)
one_right x [] ys is = is
one_right x (y ∷ xs) ys is = inr (one_right x xs ys is)

pub one_of_two : {A : Type 0} (x : A) (xs ys : List A) → IsOneOf x (xs ++ ys) → IsOneOf x xs ⊎ IsOneOf x ys
one_of_two x [] ys is = inr is
one_of_two x (y ∷ xs) ys is = elim is [
  | inl here ↦ inl (inl here)
  | inr there ↦ elim (one_of_two x xs ys there) [
    | inl left ↦ inl (inr left)
    | inr right ↦ inr right
  ]
]

-- ---- one lock

set_test : {X : Type 0} (P : ℕ → X → Type 0) (f : ℕ → X) (place : ℕ) (value : X) (other : ℕ) (b : Bool) → (place == other) ≡ b
    → P place value → P other (f other) → P other (if b then value else f other)
set_test P f place value other false e here there = there
set_test P f place value other true e here there = subst (λ (o : ℕ). P o value) (eqb-true place other e) here

-- a property of a function with another value at one place, at that place and elsewhere
pub set_by : {X : Type 0} (P : ℕ → X → Type 0) (f : ℕ → X) (place : ℕ) (value : X) (other : ℕ) → P place value → P other (f other) → P other (set f place value other)
set_by P f place value other here there = set_test P f place value other (place == other) refl here there

pub set_here : {X : Type 0} (P : X → Type 0) (f : ℕ → X) (place : ℕ) (value : X) → P value → P (set f place value place)
set_here P f place value here = subst (λ (b : Bool). P (if b then value else f place)) (sym (eq-eqb place place refl)) here

pub life_more : (n : nodes.Node) (fs gs : List Fate) → node_after n (fs ++ gs) ≡ node_after (node_after n fs) gs
life_more n [] gs = refl
life_more n (f ∷ fs) gs = life_more (becomes n f) fs gs

pub says_more : (n : nodes.Node) (fs gs : List Fate) (m : ToClient) → IsOneOf m (says n fs) ⊎ IsOneOf m (says (node_after n fs) gs) → IsOneOf m (says n (fs ++ gs))
says_more n [] gs m is = elim is [
  | inl none ↦ absurd none
  | inr more ↦ more
]
says_more n (f ∷ fs) gs m is = elim is [
  | inl first ↦ elim (one_of_two m (sends n f) (says (becomes n f) fs) first) [
    | inl now ↦ one_left m (sends n f) _ now
    | inr later ↦ one_right m (sends n f) _ (says_more (becomes n f) fs gs m (inl later))
  ]
  | inr more ↦ one_right m (sends n f) _ (says_more (becomes n f) fs gs m (inr more))
]

altered : (locks : ℕ → nodes.Node) (other lock : ℕ) (f : Fate) (b : Bool) → (other == lock) ≡ b
    → (if b then becomes (locks other) f else locks lock) ≡ node_after (locks lock) (if b then f ∷ [] else [])
altered locks other lock f false at = refl
altered locks other lock f true at = ap (λ (k : ℕ). becomes (locks k) f) (eqb-true other lock at)

spoken : (n : LockNode) (other lock session epoch : ℕ) (m : ToVoter) (b : Bool)
    → (if b then moves n other (nodes.Takes m) else n).locks lock
    ≡ node_after (n.locks lock) (if b then (if other == lock then Meets (nodes.Takes m) ∷ [] else []) else [])
spoken n other lock session epoch m false = refl
spoken n other lock session epoch m true = altered n.locks other lock (Meets (nodes.Takes m)) (other == lock) refl

pub lock_after : (n : LockNode) (e : Event) (lock : ℕ) → (happens n e).locks lock ≡ node_after (n.locks lock) (fate_at lock n e)
lock_after n (Calls number call) lock = refl
lock_after n (Speaks other session epoch m) lock = spoken n other lock session epoch m (may_say (n.rows m.client) session epoch m.body)
lock_after n (LetsGo other grant) lock = altered n.locks other lock (Meets (nodes.Evicts grant)) (other == lock) refl
lock_after n (Reminds other) lock = altered n.locks other lock (Meets nodes.Reminds) (other == lock) refl
lock_after n (Extends other limit) lock = altered n.locks other lock (HasLimit limit) (other == lock) refl
lock_after n (Skips other above) lock = altered n.locks other lock (IsSkipped above) (other == lock) refl
lock_after n (IsForgotten other above limit) lock = altered n.locks other lock (IsReborn above limit) (other == lock) refl
lock_after n Saves lock = refl
lock_after n Crashes lock = refl

pub locks_after : (n : LockNode) (es : List Event) (lock : ℕ) → (all_happen n es).locks lock ≡ node_after (n.locks lock) (life_at lock n es)
locks_after n [] lock = refl
locks_after n (e ∷ es) lock =
    locks_after (happens n e) es lock
    ∙ ap (λ (k : nodes.Node). node_after k (life_at lock (happens n e) es)) (lock_after n e lock)
    ∙ sym (life_more (n.locks lock) (fate_at lock n e) (life_at lock (happens n e) es))

-- ---- letters

-- a letter with a message of these, of this lock
pub record IsLetterOf (lock : ℕ) (messages : List ToClient) (l : Letter) : Type 0 where
  pub of_lock : l.lock ≡ lock
  pub among : IsOneOf l.message messages

letter_is : (o : Option ℕ) (lock : ℕ) (m : ToClient) (l : Letter) → IsOneOf l (letter_to o lock m) → (l.lock ≡ lock) × (l.message ≡ m)
letter_is None lock m l is = absurd is
letter_is (Some session) lock m l is = elim is [
  | inl here ↦ (ap (λ (x : Letter). x.lock) here, ap (λ (x : Letter). x.message) here)
  | inr none ↦ absurd none
]

pub letters_are : (r : ℕ → Row) (lock : ℕ) (held : Option Grant) (messages : List ToClient) (l : Letter)
    → IsOneOf l (letters_of r lock held messages) → IsLetterOf lock messages l
letters_are r lock held [] l is = absurd is
letters_are r lock held (m ∷ ms) l is =
    elim (one_of_two l (letter_to (hearer (r m.client) (subject held m.client m.body)) lock m) (letters_of r lock held ms) is) [
      | inl here ↦ (let at = letter_is (hearer (r m.client) (subject held m.client m.body)) lock m l here in record { of_lock = at.0; among = inl at.1 })
      | inr there ↦ (let at = letters_are r lock held ms l there in record { of_lock = at.of_lock; among = inr at.among })
    ]

-- ---- what is heard

heard_first : (o : Option ℕ) (lock : ℕ) (m : ToClient) (rest : List Letter) (kept : List ToClient) → map (λ (l : Letter). l.message) rest ≡ kept
    → map (λ (l : Letter). l.message) (letter_to o lock m ++ rest) ≡ (if is_some o then m ∷ kept else kept)
heard_first None lock m rest kept same = same
heard_first (Some session) lock m rest kept same = ap (λ (ms : List ToClient). m ∷ ms) same

pub letters_heard : (r : ℕ → Row) (lock : ℕ) (held : Option Grant) (messages : List ToClient)
    → map (λ (l : Letter). l.message) (letters_of r lock held messages) ≡ heard r held messages
letters_heard r lock held [] = refl
letters_heard r lock held (m ∷ ms) =
    heard_first (hearer (r m.client) (subject held m.client m.body)) lock m (letters_of r lock held ms) (heard r held ms) (letters_heard r lock held ms)

-- each letter that waits has a message that waits at its lock
abbrev pub AllWait : LockNode → Type 0
AllWait n = (l : Letter) → IsOneOf l n.outbox → IsOneOf l.message (n.locks l.lock).outbox

pub letter_lock : (r : ℕ → Row) (lock : ℕ) (b : Bool) (o : Option Outcome) (l : Letter) → IsOneOf l (letters_by b r lock o) → l.lock ≡ lock
letter_lock r lock false o l is = absurd is
letter_lock r lock true None l is = absurd is
letter_lock r lock true (Some o) l is = (letters_are r lock o.state.held o.replies l is).of_lock

-- an event of a node that is a step of its voter
pub record StepsVoter (e : nodes.Event) : Type 0 where
  pub is : (n : nodes.Node) → nodes.node_step n e ≡ nodes.if_room (nodes.has_room n) (nodes.after_voter n (outcome_at n e))

pub takes : (m : ToVoter) → StepsVoter (nodes.Takes m)
unfolding nodes.node_step
takes m = record { is = λ n. refl }

pub evicts : (grant : ℕ) → StepsVoter (nodes.Evicts grant)
unfolding nodes.node_step
evicts grant = record { is = λ n. refl }

pub reminds : StepsVoter nodes.Reminds
unfolding nodes.node_step
reminds = record { is = λ n. refl }

still_waits : (n : nodes.Node) (b : Bool) (o : Option Outcome) (m : ToClient) → IsOneOf m n.outbox
    → IsOneOf m (nodes.after n (nodes.if_room b (nodes.after_voter n o))).outbox
still_waits n false o m is = is
still_waits n true None m is = is
still_waits n true (Some o) m is = one_left m n.outbox o.replies is

now_waits : (n : nodes.Node) (r : ℕ → Row) (lock : ℕ) (b : Bool) (o : Option Outcome) (l : Letter) → IsOneOf l (letters_by b r lock o)
    → (l.lock ≡ lock) × IsOneOf l.message (nodes.after n (nodes.if_room b (nodes.after_voter n o))).outbox
now_waits n r lock false o l is = absurd is
now_waits n r lock true None l is = absurd is
now_waits n r lock true (Some o) l is =
    let at = letters_are r lock o.state.held o.replies l is in
    (at.of_lock, one_right l.message n.outbox o.replies at.among)

moves_wait : (n : LockNode) (lock : ℕ) (e : nodes.Event) → StepsVoter e → AllWait n → AllWait (moves n lock e)
moves_wait n lock e of wait l is =
    let node = n.locks lock in
    let next = nodes.after node (nodes.node_step node e) in
    let by : (m : ToClient) → IsOneOf m (nodes.after node (nodes.if_room (nodes.has_room node) (nodes.after_voter node (outcome_at node e)))).outbox → IsOneOf m next.outbox =
    λ m at. subst (λ (t : Result nodes.Turn _). IsOneOf m (nodes.after node t).outbox) (sym (of.is node)) at in
    elim (one_of_two l n.outbox (letters_by (nodes.has_room node) n.rows lock (outcome_at node e)) is) [
      | inl old ↦ set_by (λ (k : ℕ) (x : nodes.Node). k ≡ l.lock → IsOneOf l.message x.outbox) n.locks lock next l.lock
          (λ same. by l.message (still_waits node (nodes.has_room node) (outcome_at node e) l.message (subst (λ (k : ℕ). IsOneOf l.message (n.locks k).outbox) (sym same) (wait l old))))
          (λ same. wait l old) refl
      | inr new ↦ (
          let at = now_waits node n.rows lock (nodes.has_room node) (outcome_at node e) l new in
          subst (λ (k : ℕ). IsOneOf l.message (set n.locks lock next k).outbox) (sym at.0)
          (set_here (λ (x : nodes.Node). IsOneOf l.message x.outbox) n.locks lock next (by l.message at.1)))
    ]

-- a voter with another limit, or that skips numbers, is else as it was
pub record IsAltered (n m : nodes.Node) : Type 0 where
  pub outbox : m.outbox ≡ n.outbox
  pub held : m.live.held ≡ n.live.held
  pub waiting : m.live.waiting ≡ n.live.waiting
  pub saved : m.saved ≡ n.saved

pub limit_keeps : (n : nodes.Node) (limit : ℕ) (b : Bool) → IsAltered n (have_limit b n limit)
limit_keeps n limit true = record { outbox = refl; held = refl; waiting = refl; saved = refl }
limit_keeps n limit false = record { outbox = refl; held = refl; waiting = refl; saved = refl }

pub skip_keeps : (n : nodes.Node) (above : ℕ) (b : Bool) → IsAltered n (be_skipped b n above)
skip_keeps n above true = record { outbox = refl; held = refl; waiting = refl; saved = refl }
skip_keeps n above false = record { outbox = refl; held = refl; waiting = refl; saved = refl }

alters_wait : (n : LockNode) (lock : ℕ) (f : Fate) → (becomes (n.locks lock) f).outbox ≡ (n.locks lock).outbox → AllWait n → AllWait (alters n lock f)
alters_wait n lock f same wait l is =
    set_by (λ (k : ℕ) (x : nodes.Node). k ≡ l.lock → IsOneOf l.message x.outbox) n.locks lock (becomes (n.locks lock) f) l.lock
    (λ at. subst (λ (ms : List ToClient). IsOneOf l.message ms) (sym same) (subst (λ (k : ℕ). IsOneOf l.message (n.locks k).outbox) (sym at) (wait l is)))
    (λ at. wait l is) refl

one_test : {A : Type 0} (p : A → Bool) (x y : A) (ys : List A) (b : Bool) → p y ≡ b → (IsOneOf x (filter p ys) → IsOneOf x ys × (p x ≡ true))
    → IsOneOf x (cond b (y ∷ filter p ys) (filter p ys)) → IsOneOf x (y ∷ ys) × (p x ≡ true)
one_test p x y ys false e rest is = (let at = rest is in (inr at.0, at.1))
one_test p x y ys true e rest is = elim is [
  | inl here ↦ (inl here, ap p here ∙ e)
  | inr there ↦ (let at = rest there in (inr at.0, at.1))
]

pub one_filtered : {A : Type 0} (p : A → Bool) (x : A) (xs : List A) → IsOneOf x (filter p xs) → IsOneOf x xs × (p x ≡ true)
one_filtered p x [] is = absurd is
one_filtered p x (y ∷ ys) is = one_test p x y ys (p y) refl (one_filtered p x ys) is

forgets_wait : (n : LockNode) (lock : ℕ) (f : Fate) → AllWait n → AllWait (forgets n lock f)
forgets_wait n lock f wait l is =
    let at = one_filtered (λ (x : Letter). not (lock == x.lock)) l n.outbox is in
    set_by (λ (k : ℕ) (x : nodes.Node). k ≡ l.lock → IsOneOf l.message x.outbox) n.locks lock (becomes (n.locks lock) f) l.lock
    (λ same. absurd (false≢true (sym (ap not (eq-eqb lock l.lock same)) ∙ at.1))) (λ same. wait l at.0) refl

speaks_wait : (n : LockNode) (lock : ℕ) (m : ToVoter) (b : Bool) → AllWait n → AllWait (if b then moves n lock (nodes.Takes m) else n)
speaks_wait n lock m false wait = wait
speaks_wait n lock m true wait = moves_wait n lock (nodes.Takes m) (takes m) wait

pub all_wait : (n : LockNode) (e : Event) → AllWait n → AllWait (happens n e)
all_wait n (Calls number call) wait = wait
all_wait n (Speaks lock session epoch m) wait = speaks_wait n lock m (may_say (n.rows m.client) session epoch m.body) wait
all_wait n (LetsGo lock grant) wait = moves_wait n lock (nodes.Evicts grant) (evicts grant) wait
all_wait n (Reminds lock) wait = moves_wait n lock nodes.Reminds reminds wait
all_wait n (Extends lock limit) wait = alters_wait n lock (HasLimit limit) (limit_keeps (n.locks lock) limit (nat_le (n.locks lock).live.granted limit && nat_le limit max_limit)).outbox wait
all_wait n (Skips lock above) wait = alters_wait n lock (IsSkipped above) (skip_keeps (n.locks lock) above (nat_le (n.locks lock).live.granted above && nat_le above (n.locks lock).live.limit)).outbox wait
all_wait n (IsForgotten lock above limit) wait = forgets_wait n lock (IsReborn above limit) wait
all_wait n Saves wait = λ l is. absurd is
all_wait n Crashes wait = λ l is. absurd is

-- a letter that leaves by one event
said_now : (n : LockNode) (e : Event) (l : Letter) → AllWait n → IsOneOf l (leaves n e) → IsOneOf l.message (says (n.locks l.lock) (fate_at l.lock n e))
unfolding nodes.node_step
said_now n (Calls number call) l wait is = absurd is
said_now n (Speaks lock session epoch m) l wait is = absurd is
said_now n (LetsGo lock grant) l wait is = absurd is
said_now n (Reminds lock) l wait is = absurd is
said_now n (Extends lock limit) l wait is = absurd is
said_now n (Skips lock above) l wait is = absurd is
said_now n (IsForgotten lock above limit) l wait is = absurd is
said_now n Saves l wait is = one_left l.message (n.locks l.lock).outbox [] (wait l is)
said_now n Crashes l wait is = absurd is

said_then : (n : LockNode) (es : List Event) (l : Letter) → AllWait n → IsOneOf l (all_leave n es)
    → IsOneOf l.message (says (n.locks l.lock) (life_at l.lock n es))
said_then n [] l wait is = absurd is
said_then n (e ∷ es) l wait is =
    says_more (n.locks l.lock) (fate_at l.lock n e) (life_at l.lock (happens n e) es) l.message
    (elim (one_of_two l (leaves n e) (all_leave (happens n e) es) is) [
      | inl now ↦ inl (said_now n e l wait now)
      | inr later ↦ inr (subst (λ (k : nodes.Node). IsOneOf l.message (says k (life_at l.lock (happens n e) es))) (lock_after n e l.lock)
          (said_then (happens n e) es l (all_wait n e wait) later))
    ])

pub given_out : (n : LockNode) (es : List Event) (l : Letter) → Begins n → IsOneOf l (all_leave n es)
    → IsOneOf l.message (says (n.locks l.lock) (life_at l.lock n es))
given_out n es l begins is = said_then n es l (λ x at. absurd (subst (λ (ls : List Letter). IsOneOf x ls) begins.waits at)) is
