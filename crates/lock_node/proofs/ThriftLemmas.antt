-- lock by lock, a host that leaves saves out is a node that was saved
use Rattle.std.proofs.Common.{◌≡◌, ℕ, Bool, true, false, List, [], ◌∷◌, ◌++◌, refl, sym, ap, subst, ◌∙◌, ◌⊎◌, inl, inr, Option, Some, None}
use Rattle.std.specs.Prelude.{◌==◌, ◌&&◌, nat_le, if◌then◌else◌, map, not}
use Rattle.std.specs.List.{AllByRecursion}
use Rattle.std.proofs.lemmas.Bool.{eq-eqb, eqb-true, false≢true}
use Rattle.numbers.specs.Bounds.{max_limit}
use Rattle.message.specs.declared.message.ToClient.{ToClient}
use Rattle.message.specs.declared.message.ToVoter.{ToVoter}
use Rattle.sessions.specs.Rows.{IsOneOf}
use Rattle.voter.specs.declared.state.VoterState.{VoterState}
use Rattle.voter.specs.Leases.{evict, reborn}
use Rattle.voter.specs.Saved.{least_voter}
use Rattle.voter.specs.Steps.{Outcome, remind, step}
use Rattle.voter_node.specs.LeftOut.{HaveSameLeast}
use Rattle.voter_node.specs.Lives.{Fate, HasLimit, IsReborn, IsSkipped, Meets, be_reborn, be_skipped, becomes, have_limit, node_after, says}
use Rattle.voter_node.specs.Nodes as nodes
use Rattle.lock_node.specs.Letters.{Letter, may_say}
use Rattle.lock_node.specs.Locks.{Begins, Calls, Crashes, Event, Extends, IsForgotten, LetsGo, LockNode, Reminds, Saves, Skips, Speaks, all_happen, all_leave, fate_at, happens, leaves, life_at, moves, set}
use Rattle.lock_node.specs.Thrift.{Befalls, HandsOut, HostTurn, IsLike, KeepLeast, MayLeaveOut, LeaveOut, host_does, host_after, events_in, fate_by, handed_out, life_by, host_sends, host_sent}
use Rattle.lock_node.proofs.LockLemmas.{AllWait, all_wait, life_more, lock_after, one_filtered, one_left, one_of_two, says_more, set_by}

-- ---- one node

pub like_itself : (n : nodes.Node) → IsLike n n
like_itself n = record { live = refl; outbox = refl; disk = refl }

-- the same node, with something else saved
abbrev saved_as : nodes.Node → VoterState → nodes.Node
saved_as n s = record { live = n.live; saved = s; outbox = n.outbox }

is_saved_as : (n m : nodes.Node) → IsLike n m → saved_as n m.saved ≡ m
is_saved_as n m like = λ i. record { live = like.live i; saved = m.saved; outbox = like.outbox i }

-- all that comes to the nodes of a process: it restarts by forgetting
abbrev Forgetful : Fate → Type 0
Forgetful (Meets (nodes.Takes m)) = Unit {0}
Forgetful (Meets (nodes.Evicts grant)) = Unit {0}
Forgetful (Meets nodes.Reminds) = Unit {0}
Forgetful (Meets nodes.IsSaved) = Unit {0}
Forgetful (Meets nodes.Restarts) = ⊥
Forgetful (Meets nodes.Forgets) = Unit {0}
Forgetful (IsReborn above limit) = Unit {0}
Forgetful (HasLimit limit) = Unit {0}
Forgetful (IsSkipped above) = Unit {0}

like_step : (n : nodes.Node) (s : VoterState) (b : Bool) (o : Option Outcome) → HaveSameLeast n.saved s
    → IsLike (nodes.after n (nodes.if_room b (nodes.after_voter n o))) (nodes.after (saved_as n s) (nodes.if_room b (nodes.after_voter (saved_as n s) o)))
like_step n s false o same = record { live = refl; outbox = refl; disk = same }
like_step n s true None same = record { live = refl; outbox = refl; disk = same }
like_step n s true (Some o) same = record { live = refl; outbox = refl; disk = same }

like_reborn : (n : nodes.Node) (s : VoterState) (above limit : ℕ) (b : Bool) → HaveSameLeast n.saved s
    → IsLike (be_reborn b n above limit) (be_reborn b (saved_as n s) above limit)
like_reborn n s above limit false same = record { live = refl; outbox = refl; disk = same }
like_reborn n s above limit true same =
    let one : reborn n.saved.id above limit ≡ reborn s.id above limit = ap (λ (v : VoterState). reborn v.id above limit) same in
    record { live = one; outbox = refl; disk = ap least_voter one }

like_limit : (n : nodes.Node) (s : VoterState) (limit : ℕ) (b : Bool) → HaveSameLeast n.saved s → IsLike (have_limit b n limit) (have_limit b (saved_as n s) limit)
like_limit n s limit true same = record { live = refl; outbox = refl; disk = same }
like_limit n s limit false same = record { live = refl; outbox = refl; disk = same }

like_skipped : (n : nodes.Node) (s : VoterState) (above : ℕ) (b : Bool) → HaveSameLeast n.saved s → IsLike (be_skipped b n above) (be_skipped b (saved_as n s) above)
like_skipped n s above true same = record { live = refl; outbox = refl; disk = same }
like_skipped n s above false same = record { live = refl; outbox = refl; disk = same }

same_test : (n : nodes.Node) (s : VoterState) (above limit : ℕ) → HaveSameLeast n.saved s
    → (nat_le n.saved.granted above && (nat_le above limit && nat_le limit max_limit)) ≡ (nat_le s.granted above && (nat_le above limit && nat_le limit max_limit))
same_test n s above limit same = ap (λ (v : VoterState). nat_le v.granted above && (nat_le above limit && nat_le limit max_limit)) same

like_as : (n : nodes.Node) (s : VoterState) (f : Fate) → Forgetful f → HaveSameLeast n.saved s → IsLike (becomes n f) (becomes (saved_as n s) f)
unfolding nodes.node_step
like_as n s (Meets (nodes.Takes m)) is same = like_step n s (nodes.has_room n) (step n.live m) same
like_as n s (Meets (nodes.Evicts grant)) is same = like_step n s (nodes.has_room n) (evict n.live grant) same
like_as n s (Meets nodes.Reminds) is same = like_step n s (nodes.has_room n) (Some (record { replies = remind n.live; state = n.live })) same
like_as n s (Meets nodes.IsSaved) is same = record { live = refl; outbox = refl; disk = refl }
like_as n s (Meets nodes.Restarts) is same = absurd is
like_as n s (Meets nodes.Forgets) is same = record { live = same; outbox = refl; disk = ap least_voter same }
like_as n s (IsReborn above limit) is same =
    subst (λ (b : Bool). IsLike (becomes n (IsReborn above limit)) (be_reborn b (saved_as n s) above limit)) (same_test n s above limit same)
    (like_reborn n s above limit (nat_le n.saved.granted above && (nat_le above limit && nat_le limit max_limit)) same)
like_as n s (HasLimit limit) is same = like_limit n s limit (nat_le n.live.granted limit && nat_le limit max_limit) same
like_as n s (IsSkipped above) is same = like_skipped n s above (nat_le n.live.granted above && nat_le above n.live.limit) same

like_fate : (n m : nodes.Node) (f : Fate) → Forgetful f → IsLike n m → IsLike (becomes n f) (becomes m f)
like_fate n m f is like = subst (λ (x : nodes.Node). IsLike (becomes n f) (becomes x f)) (is_saved_as n m like) (like_as n m.saved f is like.disk)

like_life : (n m : nodes.Node) (fs : List Fate) → AllByRecursion Forgetful fs → IsLike n m → IsLike (node_after n fs) (node_after m fs)
like_life n m [] all like = like
like_life n m (f ∷ fs) all like = like_life (becomes n f) (becomes m f) fs all.1 (like_fate n m f all.0 like)

-- ---- a process

one_if : (b : Bool) (f : Fate) → Forgetful f → AllByRecursion Forgetful (if b then f ∷ [] else [])
one_if true f is = (is, tt)
one_if false f is = tt

spoken_if : (may b : Bool) (f : Fate) → Forgetful f → AllByRecursion Forgetful (if may then (if b then f ∷ [] else []) else [])
spoken_if true b f is = one_if b f is
spoken_if false b f is = tt

all_forgetful : (lock : ℕ) (n : LockNode) (e : Event) → AllByRecursion Forgetful (fate_at lock n e)
all_forgetful lock n (Calls number call) = tt
all_forgetful lock n (Speaks other session epoch m) = spoken_if (may_say (n.rows m.client) session epoch m.body) (other == lock) (Meets (nodes.Takes m)) tt
all_forgetful lock n (LetsGo other grant) = one_if (other == lock) (Meets (nodes.Evicts grant)) tt
all_forgetful lock n (Reminds other) = one_if (other == lock) (Meets nodes.Reminds) tt
all_forgetful lock n (Extends other limit) = one_if (other == lock) (HasLimit limit) tt
all_forgetful lock n (Skips other above) = one_if (other == lock) (IsSkipped above) tt
all_forgetful lock n (IsForgotten other above limit) = one_if (other == lock) (IsReborn above limit) tt
all_forgetful lock n Saves = (tt, tt)
all_forgetful lock n Crashes = (tt, tt)

handed_by : (locks : ℕ → nodes.Node) (other lock : ℕ) (m : nodes.Node) (b : Bool) → (other == lock) ≡ b
    → HaveSameLeast (locks other).saved (locks other).live → IsLike (locks lock) m
    → IsLike (if b then handed_out (locks other) else locks lock) (node_after m (if b then Meets nodes.IsSaved ∷ [] else []))
unfolding nodes.node_step
handed_by locks other lock m false at same like = like
handed_by locks other lock m true at same like =
    let here : other ≡ lock = eqb-true other lock at in
    record {
      live = ap (λ (k : ℕ). (locks k).live) here ∙ like.live;
      outbox = refl;
      disk = same ∙ ap (λ (k : ℕ). least_voter (locks k).live) here ∙ ap least_voter like.live;
    }

like_turn : (n : LockNode) (t : HostTurn) (lock : ℕ) (m : nodes.Node) → MayLeaveOut n t → IsLike (n.locks lock) m → IsLike ((host_does n t).locks lock) (node_after m (fate_by lock n t))
like_turn n (Befalls e) lock m may like =
    subst (λ (x : nodes.Node). IsLike x (node_after m (fate_at lock n e))) (sym (lock_after n e lock)) (like_life (n.locks lock) m (fate_at lock n e) (all_forgetful lock n e) like)
like_turn n (HandsOut other) lock m may like = handed_by n.locks other lock m (other == lock) refl may like

pub like_turns : (n : LockNode) (ts : List HostTurn) (lock : ℕ) (m : nodes.Node) → LeaveOut n ts → IsLike (n.locks lock) m
    → IsLike ((host_after n ts).locks lock) (node_after m (life_by lock n ts))
like_turns n [] lock m may like = like
like_turns n (t ∷ ts) lock m may like =
    subst (λ (x : nodes.Node). IsLike ((host_after (host_does n t) ts).locks lock) x) (sym (life_more m (fate_by lock n t) (life_by lock (host_does n t) ts)))
    (like_turns (host_does n t) ts lock (node_after m (fate_by lock n t)) may.1 (like_turn n t lock m may.0 like))

-- ---- its letters

pub all_wait_on : (n : LockNode) (t : HostTurn) → AllWait n → AllWait (host_does n t)
all_wait_on n (Befalls e) wait = all_wait n e wait
all_wait_on n (HandsOut lock) wait = λ l is. (
    let at = one_filtered (λ (x : Letter). not (lock == x.lock)) l n.outbox is in
    set_by (λ (k : ℕ) (x : nodes.Node). k ≡ l.lock → IsOneOf l.message x.outbox) n.locks lock (handed_out (n.locks lock)) l.lock
    (λ same. absurd (false≢true (sym (ap not (eq-eqb lock l.lock same)) ∙ at.1))) (λ same. wait l at.0) refl)

saved_says : (m : nodes.Node) (x : ToClient) → IsOneOf x m.outbox → IsOneOf x (says m (Meets nodes.IsSaved ∷ []))
unfolding nodes.node_step
saved_says m x is = one_left x m.outbox [] is

waits_at : (n : LockNode) (l : Letter) (m : nodes.Node) → AllWait n → IsLike (n.locks l.lock) m → IsOneOf l n.outbox → IsOneOf l.message m.outbox
waits_at n l m wait like is = subst (λ (ms : List ToClient). IsOneOf l.message ms) like.outbox (wait l is)

says_now : (n : LockNode) (t : HostTurn) (l : Letter) (m : nodes.Node) → AllWait n → IsLike (n.locks l.lock) m → IsOneOf l (host_sends n t)
    → IsOneOf l.message (says m (fate_by l.lock n t))
says_now n (Befalls (Calls number call)) l m wait like is = absurd is
says_now n (Befalls (Speaks lock session epoch said)) l m wait like is = absurd is
says_now n (Befalls (LetsGo lock grant)) l m wait like is = absurd is
says_now n (Befalls (Reminds lock)) l m wait like is = absurd is
says_now n (Befalls (Extends lock limit)) l m wait like is = absurd is
says_now n (Befalls (Skips lock above)) l m wait like is = absurd is
says_now n (Befalls (IsForgotten lock above limit)) l m wait like is = absurd is
says_now n (Befalls Saves) l m wait like is = saved_says m l.message (waits_at n l m wait like is)
says_now n (Befalls Crashes) l m wait like is = absurd is
says_now n (HandsOut lock) l m wait like is =
    let at = one_filtered (λ (x : Letter). lock == x.lock) l n.outbox is in
    subst (λ (b : Bool). IsOneOf l.message (says m (if b then Meets nodes.IsSaved ∷ [] else []))) (sym at.1) (saved_says m l.message (waits_at n l m wait like at.0))

says_all : (n : LockNode) (ts : List HostTurn) (l : Letter) (m : nodes.Node) → AllWait n → LeaveOut n ts → IsLike (n.locks l.lock) m → IsOneOf l (host_sent n ts)
    → IsOneOf l.message (says m (life_by l.lock n ts))
says_all n [] l m wait may like is = absurd is
says_all n (t ∷ ts) l m wait may like is =
    says_more m (fate_by l.lock n t) (life_by l.lock (host_does n t) ts) l.message
    (elim (one_of_two l (host_sends n t) (host_sent (host_does n t) ts) is) [
      | inl now ↦ inl (says_now n t l m wait like now)
      | inr later ↦ inr (says_all (host_does n t) ts l (node_after m (fate_by l.lock n t)) (all_wait_on n t wait) may.1 (like_turn n t l.lock m may.0 like) later)
    ])

pub thrifty_given_out : (n : LockNode) (ts : List HostTurn) (l : Letter) → Begins n → LeaveOut n ts → IsOneOf l (host_sent n ts)
    → IsOneOf l.message (says (n.locks l.lock) (life_by l.lock n ts))
thrifty_given_out n ts l begins may is =
    says_all n ts l (n.locks l.lock) (λ x at. absurd (subst (λ (ls : List Letter). IsOneOf x ls) begins.waits at)) may (like_itself (n.locks l.lock)) is

-- ---- a host that leaves no save out

pub may_all : (n : LockNode) (es : List Event) → LeaveOut n (map Befalls es)
may_all n [] = tt
may_all n (e ∷ es) = (tt, may_all (happens n e) es)

pub all_ends : (n : LockNode) (es : List Event) → host_after n (map Befalls es) ≡ all_happen n es
all_ends n [] = refl
all_ends n (e ∷ es) = all_ends (happens n e) es

pub all_events : (es : List Event) → events_in (map Befalls es) ≡ es
all_events [] = refl
all_events (e ∷ es) = ap (λ (ds : List Event). e ∷ ds) (all_events es)

pub all_letters : (n : LockNode) (es : List Event) → host_sent n (map Befalls es) ≡ all_leave n es
all_letters n [] = refl
all_letters n (e ∷ es) = ap (λ (ls : List Letter). leaves n e ++ ls) (all_letters (happens n e) es)

pub all_lives : (n : LockNode) (es : List Event) (lock : ℕ) → life_by lock n (map Befalls es) ≡ life_at lock n es
all_lives n [] lock = refl
all_lives n (e ∷ es) lock = ap (λ (fs : List Fate). fate_at lock n e ++ fs) (all_lives (happens n e) es lock)

-- ---- votes that stay as they are on the disk

-- what is on the disk stays, or is the vote
abbrev DiskIsKept : nodes.Node → nodes.Node → Type 0
DiskIsKept n m = (m.saved ≡ n.saved) ⊎ (m.saved ≡ m.live)

kept_step : (n : nodes.Node) (b : Bool) (o : Option Outcome) → DiskIsKept n (nodes.after n (nodes.if_room b (nodes.after_voter n o)))
kept_step n false o = inl refl
kept_step n true None = inl refl
kept_step n true (Some o) = inl refl

kept_reborn : (n : nodes.Node) (above limit : ℕ) (b : Bool) → DiskIsKept n (be_reborn b n above limit)
kept_reborn n above limit true = inr refl
kept_reborn n above limit false = inl refl

kept_limit : (n : nodes.Node) (limit : ℕ) (b : Bool) → DiskIsKept n (have_limit b n limit)
kept_limit n limit true = inl refl
kept_limit n limit false = inl refl

kept_skipped : (n : nodes.Node) (above : ℕ) (b : Bool) → DiskIsKept n (be_skipped b n above)
kept_skipped n above true = inl refl
kept_skipped n above false = inl refl

kept_fate : (n : nodes.Node) (f : Fate) → DiskIsKept n (becomes n f)
unfolding nodes.node_step
kept_fate n (Meets (nodes.Takes m)) = kept_step n (nodes.has_room n) (step n.live m)
kept_fate n (Meets (nodes.Evicts grant)) = kept_step n (nodes.has_room n) (evict n.live grant)
kept_fate n (Meets nodes.Reminds) = kept_step n (nodes.has_room n) (Some (record { replies = remind n.live; state = n.live }))
kept_fate n (Meets nodes.IsSaved) = inr refl
kept_fate n (Meets nodes.Restarts) = inr refl
kept_fate n (Meets nodes.Forgets) = inr refl
kept_fate n (IsReborn above limit) = kept_reborn n above limit _
kept_fate n (HasLimit limit) = kept_limit n limit _
kept_fate n (IsSkipped above) = kept_skipped n above _

kept_set : (n : LockNode) (other : ℕ) (next : nodes.Node) (lock : ℕ) → DiskIsKept (n.locks other) next → DiskIsKept (n.locks lock) (set n.locks other next lock)
kept_set n other next lock here =
    set_by (λ (k : ℕ) (x : nodes.Node). k ≡ lock → DiskIsKept (n.locks lock) x) n.locks other next lock
    (λ same. subst (λ (k : ℕ). DiskIsKept (n.locks k) next) same here) (λ same. inl refl) refl

kept_said : (n : LockNode) (other : ℕ) (m : ToVoter) (lock : ℕ) (b : Bool) → DiskIsKept (n.locks lock) ((if b then moves n other (nodes.Takes m) else n).locks lock)
kept_said n other m lock true = kept_set n other (becomes (n.locks other) (Meets (nodes.Takes m))) lock (kept_fate (n.locks other) (Meets (nodes.Takes m)))
kept_said n other m lock false = inl refl

kept_event : (n : LockNode) (e : Event) (lock : ℕ) → DiskIsKept (n.locks lock) ((happens n e).locks lock)
kept_event n (Calls number call) lock = inl refl
kept_event n (Speaks other session epoch m) lock = kept_said n other m lock (may_say (n.rows m.client) session epoch m.body)
kept_event n (LetsGo other grant) lock = kept_set n other (becomes (n.locks other) (Meets (nodes.Evicts grant))) lock (kept_fate (n.locks other) (Meets (nodes.Evicts grant)))
kept_event n (Reminds other) lock = kept_set n other (becomes (n.locks other) (Meets nodes.Reminds)) lock (kept_fate (n.locks other) (Meets nodes.Reminds))
kept_event n (Extends other limit) lock = kept_set n other (becomes (n.locks other) (HasLimit limit)) lock (kept_fate (n.locks other) (HasLimit limit))
kept_event n (Skips other above) lock = kept_set n other (becomes (n.locks other) (IsSkipped above)) lock (kept_fate (n.locks other) (IsSkipped above))
kept_event n (IsForgotten other above limit) lock = kept_set n other (becomes (n.locks other) (IsReborn above limit)) lock (kept_fate (n.locks other) (IsReborn above limit))
kept_event n Saves lock = kept_fate (n.locks lock) (Meets nodes.IsSaved)
kept_event n Crashes lock = kept_fate (n.locks lock) (Meets nodes.Forgets)

kept_turn : (n : LockNode) (t : HostTurn) (lock : ℕ) → DiskIsKept (n.locks lock) ((host_does n t).locks lock)
kept_turn n (Befalls e) lock = kept_event n e lock
kept_turn n (HandsOut other) lock = kept_set n other (handed_out (n.locks other)) lock (inl refl)

least_turn : (n m : nodes.Node) → DiskIsKept n m → HaveSameLeast n.saved n.live → HaveSameLeast n.live m.live → HaveSameLeast m.saved m.live
least_turn n m (inl saved) same keeps = ap least_voter saved ∙ same ∙ keeps
least_turn n m (inr live) same keeps = ap least_voter live

pub least_turns : (n : LockNode) (ts : List HostTurn) (lock : ℕ) → HaveSameLeast (n.locks lock).saved (n.locks lock).live → KeepLeast lock n ts
    → HaveSameLeast ((host_after n ts).locks lock).saved ((host_after n ts).locks lock).live
least_turns n [] lock same keeps = same
least_turns n (t ∷ ts) lock same keeps =
    least_turns (host_does n t) ts lock (least_turn (n.locks lock) ((host_does n t).locks lock) (kept_turn n t lock) same keeps.0) keeps.1
