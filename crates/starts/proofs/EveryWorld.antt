-- each event keeps what holds, so it holds in every world
use Rattle.std.proofs.Common.{◌≡◌, ℕ, ◌<◌, ◌≤◌, Bool, true, false, List, [], ◌∷◌, ◌++◌, refl, sym, subst, ◌∙◌, ◌⊎◌, inl, inr, arith, Option, Some, None, Result, Ok, Err}
use Rattle.std.specs.Prelude.{◌==◌, ◌&&◌, nat_le, nat_lt, if◌then◌else◌, slice_get, Contains}
use Rattle.std.proofs.lemmas.Bool.{false≢true}
use Rattle.std.proofs.lemmas.Bool.Decides.{nat_tests}
use Rattle.std.proofs.lemmas.List.Elements.{Contains-append_cases, Contains-append_left, Contains-push_cases}
use Rattle.std.proofs.lemmas.Nat.Bits.{bit_at-zero}
use Rattle.std.proofs.lemmas.Option.{get_or_from_slice_get, slice_get_within}
use Rattle.starts.specs.declared.fault.StartFault.{StartFault}
use Rattle.starts.specs.declared.peer.Peer.{Peer}
use Rattle.starts.specs.declared.start.Start.{Start}
use Rattle.starts.specs.Peers.{meets}
use Rattle.starts.specs.Starts.{has_voter, hears, is_kept_by, may_give}
use Rattle.starts.specs.Worlds.{AreProcesses, Begins, Crashes, Ends, Event, Gives, Given, Hears, IsAsked, Keeps, Knows, Learns, Meets, Met, Needs, Renews, Reply, Saves, Turns, World, after, after_all, comes, crashes, first_world, gives, goes_on, knew, meets_asker, meets_start, saves, says, set, shown}
use Rattle.starts.proofs.Counts.{Goes, IsNew, Nobody, begins_go, hears_goes, keeps_go, needs_go, renews_go, turns_go}
use Rattle.starts.proofs.Keepers.{Fits, Holds, IsCount, IsFrom, IsGiven, Remembers, answers_on, keeps_on, kept_by, never_itself, none_in, none_some, not_earlier, process_of, shows, shows_most, some_is, straight, turned, voter_of}
use Rattle.starts.proofs.PeerLemmas.{Before, IsKnown, Moves, Why, ended_moves, later_or_same, learned_moves, reaches_it, taken_moves, takes}
use Rattle.starts.proofs.Sets.{set_both, set_by, set_here}

-- ---- a process starts, or asks for a ceiling

-- whom the voter took before is the same process, or an earlier one
earlier_one : (who : ℕ → Peer) (w : World) (voter q ceiling ended : ℕ) → AreProcesses who → Holds who w → Why (w.peers voter) (says (who q) ceiling ended)
    → (r : Reply) → IsFrom w voter r → (process_of r ≡ q) ⊎ Before (who (process_of r)) (who q)
earlier_one who w voter q ceiling ended are h why r from =
    later_or_same who (process_of r) q ceiling ended (w.peers voter) are (h.live_known voter) (h.live voter r from).reached why

reached_on : (who : ℕ → Peer) (w : World) (voter : ℕ) (next : Peer) (m : Met) → Holds who w → Moves who (w.peers voter) next
    → w.met voter ≡ Some m → Remembers who (λ r. IsFrom w voter r) next m
reached_on who w voter next m h moves is =
    let was = h.met voter m is in
    record { reached = moves.reached m.process (h.live_known voter) was.reached; most = was.most }

start_on : (who : ℕ → Peer) (w : World) (voter q ceiling : ℕ) (r : Result Peer StartFault) → meets (w.peers voter) (says (who q) ceiling 0) ≡ r → AreProcesses who
    → Holds who w → Holds who (meets_start w voter q r)
start_on who w voter q ceiling (Err fault) is are h = h
start_on who w voter q ceiling (Ok next) is are h =
    let took = takes (w.peers voter) (says (who q) ceiling 0) next is in
    let moves = taken_moves who q ceiling 0 (w.peers voter) next are took in
    let it = reaches_it who q ceiling 0 (w.peers voter) next are took in
    let known = shown (w.met voter) q (w.peers voter).ceiling in
    let most : (r : Reply) → IsFrom w voter r → Before (who (process_of r)) (who q) → kept_by r ≤ known = shows_most who w voter q (w.met voter) refl h in
    let order : (r : Reply) → IsFrom w voter r → (process_of r ≡ q) ⊎ Before (who (process_of r)) (who q) = earlier_one who w voter q ceiling 0 are h took.why in
    answers_on who w voter next (Some (record { process = q; known = known })) (Knows voter q known) moves (record {
      of_voter = refl;
      fits = record { reached = it; keeps = omega arith };
      later = λ r from. record {
        order = straight who (process_of r) q (order r from);
        shown = λ k is earlier. subst (λ (n : ℕ). kept_by r ≤ n) (some_is known k is) (most r from earlier);
      };
      earlier = λ r from. record { order = turned who (process_of r) q (order r from); shown = λ k is earlier. (omega arith) };
      itself = record { order = inl refl; shown = λ k is earlier. (omega arith) };
      remembers = λ m at. subst (λ (n : Met). Remembers who (λ r. IsFrom w voter r) next n) (some_is (record { process = q; known = known }) m at) (record { reached = it; most = most });
      remembers_it = λ m at earlier. (omega arith);
    }) h

-- who does not know the process says which ceiling it knew
knew_ceiling : (p now : Peer) (k : ℕ) → knew p now ≡ Some k → p.ceiling ≡ k
knew_ceiling p now k is = by_test ((p.identity == now.identity) && (p.process == now.process)) is
  where
    by_test : (b : Bool) → (if b then None else Some p.ceiling) ≡ Some k → p.ceiling ≡ k
    by_test true at = absurd (none_some k at)
    by_test false at = some_is p.ceiling k at

ask_on : (who : ℕ → Peer) (w : World) (voter q ceiling : ℕ) (r : Result Peer StartFault) → meets (w.peers voter) (says (who q) ceiling 0) ≡ r → AreProcesses who
    → Holds who w → Holds who (meets_asker w voter q ceiling (knew (w.peers voter) (who q)) r)
ask_on who w voter q ceiling (Err fault) is are h = h
ask_on who w voter q ceiling (Ok next) is are h =
    let took = takes (w.peers voter) (says (who q) ceiling 0) next is in
    let moves = taken_moves who q ceiling 0 (w.peers voter) next are took in
    let it = reaches_it who q ceiling 0 (w.peers voter) next are took in
    let known = knew (w.peers voter) (who q) in
    let order : (r : Reply) → IsFrom w voter r → (process_of r ≡ q) ⊎ Before (who (process_of r)) (who q) = earlier_one who w voter q ceiling 0 are h took.why in
    answers_on who w voter next (w.met voter) (Keeps voter q ceiling known) moves (record {
      of_voter = refl;
      fits = record { reached = it; keeps = took.raises };
      later = λ r from. record {
        order = straight who (process_of r) q (order r from);
        shown = λ k is earlier. subst (λ (n : ℕ). kept_by r ≤ n) (knew_ceiling (w.peers voter) (who q) k is) (h.live voter r from).keeps;
      };
      earlier = λ r from. record {
        order = turned who (process_of r) q (order r from);
        shown = λ k is later. absurd (not_earlier who (process_of r) q (order r from) later);
      };
      itself = record { order = inl refl; shown = λ k is later. absurd (never_itself (who q) later) };
      remembers = λ m at. reached_on who w voter next m h moves at;
      remembers_it = λ m at later. absurd (not_earlier who m.process q
          (later_or_same who m.process q ceiling 0 (w.peers voter) are (h.live_known voter) (h.met voter m at).reached took.why) later);
    }) h

-- ---- a voter saves, or crashes

-- a reply after a save was there before
from_saved : (who : ℕ → Peer) (w : World) (voter v : ℕ) (r : Reply) → Holds who w → IsFrom (saves w voter) v r → IsFrom w v r
from_saved who w voter v r h from = elim from [
  | inl left ↦ elim (Contains-append_cases w.said (w.outbox voter) r left.1) [
    | inl was ↦ inl (left.0, was)
    | inr now ↦ inr (subst (λ (u : ℕ). Contains (w.outbox u) r) (sym (h.voters voter r now) ∙ left.0) now)
  ]
  | inr waits ↦ inr (set_by (λ u (xs : List Reply). Contains xs r → Contains (w.outbox u) r) w.outbox voter [] v (λ none. absurd (none_in r none)) (λ other was. was) waits)
]

outbox_less : (who : ℕ → Peer) (w : World) (voter v : ℕ) (r : Reply) → Contains (set w.outbox voter [] v) r → Contains (w.outbox v) r
outbox_less who w voter v r waits =
    set_by (λ u (xs : List Reply). Contains xs r → Contains (w.outbox u) r) w.outbox voter [] v (λ none. absurd (none_in r none)) (λ other was. was) waits

count_on : (said more : List Reply) (v q : ℕ) (t : Start) → IsCount said v q t → IsCount (said ++ more) v q t
count_on said more v q t c = record {
  reply = c.reply;
  left = Contains-append_left said more c.reply c.left;
  voter = c.voter;
  process = c.process;
  ceiling = c.ceiling;
  shows = c.shows;
  known = c.known;
  floor = c.floor;
}

save_on : (who : ℕ → Peer) (w : World) (voter : ℕ) → Holds who w → Holds who (saves w voter)
save_on who w voter h = record {
  live_known = h.live_known;
  safe_known = λ v. set_by (λ u x. IsKnown who x) w.saved voter (w.peers voter) v (h.live_known voter) (λ other. h.safe_known v);
  live = λ v r from. h.live v r (from_saved who w voter v r h from);
  safe = λ r left. elim (Contains-append_cases w.said (w.outbox voter) r left) [
    | inl was ↦ set_by (λ u x. voter_of r ≡ u → Fits who x r) w.saved voter (w.peers voter) (voter_of r)
        (λ it. h.live voter r (inl (it, was))) (λ other it. h.safe r was) refl
    | inr now ↦ subst (λ (u : ℕ). Fits who (set w.saved voter (w.peers voter) u) r) (sym (h.voters voter r now))
        (set_here (λ x. Fits who x r) w.saved voter (w.peers voter) (h.live voter r (inr now)))
  ];
  voters = λ v r waits. h.voters v r (outbox_less who w voter v r waits);
  agree = λ v r s from to. h.agree v r s (from_saved who w voter v r h from) (from_saved who w voter v s h to);
  met = λ v m is. (let was = h.met v m is in record { reached = was.reached; most = λ r from. was.most r (from_saved who w voter v r h from) });
  counts = λ v q has. count_on w.said (w.outbox voter) v q (w.starts q) (h.counts v q has);
  given = h.given;
}

from_crashed : (who : ℕ → Peer) (w : World) (voter v : ℕ) (r : Reply) → IsFrom (crashes w voter) v r → IsFrom w v r
from_crashed who w voter v r from = elim from [
  | inl left ↦ inl left
  | inr waits ↦ inr (outbox_less who w voter v r waits)
]

crash_on : (who : ℕ → Peer) (w : World) (voter : ℕ) → Holds who w → Holds who (crashes w voter)
crash_on who w voter h =
    let x = crashes w voter in
    record {
      live_known = λ v. set_by (λ u y. IsKnown who y) w.peers voter (w.saved voter) v (h.safe_known voter) (λ other. h.live_known v);
      safe_known = h.safe_known;
      live = λ v. set_both (λ u y (box : List Reply). (r : Reply) → ((voter_of r ≡ u) × Contains w.said r) ⊎ Contains box r → Fits who y r) w.peers w.outbox voter (w.saved voter) [] v
          (λ r from. elim from [
            | inl left ↦ subst (λ (u : ℕ). Fits who (w.saved u) r) left.0 (h.safe r left.1)
            | inr none ↦ absurd (none_in r none)
          ]) (λ other. h.live v);
      safe = h.safe;
      voters = λ v r waits. h.voters v r (outbox_less who w voter v r waits);
      agree = λ v r s from to. h.agree v r s (from_crashed who w voter v r from) (from_crashed who w voter v s to);
      met = λ v. set_both (λ u y (o : Option Met). (m : Met) → o ≡ Some m → Remembers who (λ r. IsFrom x u r) y m) w.peers w.met voter (w.saved voter) None v
          (λ m none. absurd (none_some m none))
          (λ other m is. (let was = h.met v m is in record { reached = was.reached; most = λ r from. was.most r (from_crashed who w voter v r from) }));
      counts = h.counts;
      given = h.given;
    }

-- ---- a process goes on

count_goes : (New : ℕ → Type 0) (said : List Reply) (v q : ℕ) (s t : Start) → Goes New s t → IsCount said v q s → IsCount said v q t
count_goes New said v q s t goes c = record {
  reply = c.reply;
  left = c.left;
  voter = c.voter;
  process = c.process;
  ceiling = c.ceiling;
  shows = c.shows;
  known = (let most = c.known in let more = goes.more in omega arith);
  floor = λ now. floor_by s.serves refl now;
}
  where
    floor_by : (b : Bool) → s.serves ≡ b → t.serves ≡ true → c.ceiling ≤ t.floor
    floor_by true is now = (let low = c.floor is in let stays = (goes.stays is).1 in omega arith)
    floor_by false is now = (let low = goes.begins is now in let most = c.known in omega arith)

start_goes : (who : ℕ → Peer) (w : World) (q : ℕ) (t : Start) (New : ℕ → Type 0) → Goes New (w.starts q) t → ((v : ℕ) → New v → IsCount w.said v q t)
    → Holds who w → Holds who (goes_on w q t)
start_goes who w q t New goes new h = record {
  live_known = h.live_known;
  safe_known = h.safe_known;
  live = h.live;
  safe = h.safe;
  voters = h.voters;
  agree = h.agree;
  met = h.met;
  counts = λ v p. set_by (λ o (s : Start). has_voter s.counted v ≡ true → IsCount w.said v o s) w.starts q t p
      (λ has. elim (goes.counts v has) [
        | inl was ↦ count_goes New w.said v q (w.starts q) t goes (h.counts v q was)
        | inr now ↦ new v now
      ]) (λ other. h.counts v p);
  given = λ g among. set_by (λ o (s : Start). g.process ≡ o → IsGiven s g) w.starts q t g.process
      (λ is. (let was = subst (λ (o : ℕ). IsGiven (w.starts o) g) is (h.given g among) in let stays = goes.stays was.serves in
      let floor = stays.1 in let above = was.above in
      record { serves = stays.0; above = omega arith; below = was.below }))
      (λ other is. h.given g among) refl;
}

goes_alone : (who : ℕ → Peer) (w : World) (q : ℕ) (t : Start) → Goes Nobody (w.starts q) t → Holds who w → Holds who (goes_on w q t)
goes_alone who w q t goes h = start_goes who w q t Nobody goes (λ v never. absurd never) h

-- a reply that left comes to its process
reply_counts : (said : List Reply) (r : Reply) (q voter v : ℕ) (t : Start) (o : Option ℕ) → Contains said r → voter_of r ≡ voter → process_of r ≡ q → shows r ≡ o
    → IsNew t voter o v → IsCount said v q t
reply_counts said r q voter v t o left of_voter process says new = record {
  reply = r;
  left = left;
  voter = of_voter ∙ sym new.it;
  process = process;
  ceiling = new.ceiling;
  shows = says ∙ new.said;
  known = new.known;
  floor = λ now. absurd (false≢true (sym new.not_yet ∙ now));
}

comes_on : (who : ℕ → Peer) (w : World) (o : Option Reply) (is_clean : Bool) → ((r : Reply) → o ≡ Some r → Contains w.said r) → Holds who w → Holds who (comes w o is_clean)
comes_on who w None is_clean left h = h
comes_on who w (Some (Knows voter q known)) is_clean left h =
    let t = hears (w.starts q) voter known is_clean in
    start_goes who w q t (IsNew t voter (Some known)) (hears_goes (w.starts q) voter known is_clean)
    (λ v new. reply_counts w.said (Knows voter q known) q voter v t (Some known) (left (Knows voter q known) refl) refl refl refl new) h
comes_on who w (Some (Keeps voter q ceiling known)) is_clean left h =
    let t = is_kept_by (w.starts q) voter ceiling known in
    start_goes who w q t (IsNew t voter known) (keeps_go (w.starts q) voter ceiling known)
    (λ v new. reply_counts w.said (Keeps voter q ceiling known) q voter v t known (left (Keeps voter q ceiling known) refl) refl refl refl new) h

-- ---- a grant is given

given_before : (x g : Given) (xs : List Given) → Contains (x ∷ xs) g → (x ≡ g) ⊎ Contains xs g
given_before x g xs among = elim (Contains-append_cases (x ∷ []) xs g among) [
  | inl first ↦ elim (Contains-push_cases [] x g first) [
    | inl none ↦ absurd (none_in g none)
    | inr it ↦ inl it
  ]
  | inr rest ↦ inr rest
]

may_give_by : (s : Start) (number : ℕ) (b : Bool) → s.serves ≡ b → (b && (nat_lt s.floor number && nat_le number s.ceiling)) ≡ true
    → (s.serves ≡ true) × (s.floor < number) × (number ≤ s.ceiling)
may_give_by s number false serves may = absurd (false≢true may)
may_give_by s number true serves may =
    (serves, let above : s.floor < number = grind (arith, nat_tests) in above, let below : number ≤ s.ceiling = grind (arith, nat_tests) in below)

give_on : (who : ℕ → Peer) (w : World) (q number : ℕ) → may_give (w.starts q) number ≡ true → Holds who w → Holds who (gives w q number)
give_on who w q number may h =
    let s = w.starts q in
    let is = may_give_by s number s.serves refl may in
    let given : Given = record { process = q; number = number; ceiling = s.ceiling } in
    record {
      live_known = h.live_known;
      safe_known = h.safe_known;
      live = h.live;
      safe = h.safe;
      voters = h.voters;
      agree = h.agree;
      met = h.met;
      counts = h.counts;
      given = λ g among. elim (given_before given g w.given among) [
        | inl it ↦ subst (λ (o : Given). IsGiven (w.starts o.process) o) it (record { serves = is.0; above = is.1; below = is.2 })
        | inr was ↦ h.given g was
      ];
    }

give_by : (who : ℕ → Peer) (w : World) (q number : ℕ) (b : Bool) → may_give (w.starts q) number ≡ b → Holds who w → Holds who (if b then gives w q number else w)
give_by who w q number true may h = give_on who w q number may h
give_by who w q number false may h = h

-- ---- all events

pub at_place : (said : List Reply) (place : ℕ) (r : Reply) → slice_get said place ≡ Some r → Contains said r
at_place said place r is = (place, slice_get_within said place r is, get_or_from_slice_get said place r r is)

event_on : (who : ℕ → Peer) (w : World) (e : Event) → AreProcesses who → Holds who w → Holds who (after who w e)
event_on who w (Meets voter q ceiling) are h = start_on who w voter q ceiling (meets (w.peers voter) (says (who q) ceiling 0)) refl are h
event_on who w (IsAsked voter q ceiling) are h = ask_on who w voter q ceiling (meets (w.peers voter) (says (who q) ceiling 0)) refl are h
event_on who w (Learns voter q ceiling ended) are h = keeps_on who w voter _ (learned_moves who q ceiling ended (w.peers voter) are) h
event_on who w (Ends voter q ended) are h = keeps_on who w voter _ (ended_moves who (w.peers voter) (who q).identity (who q).start ended) h
event_on who w (Saves voter) are h = save_on who w voter h
event_on who w (Crashes voter) are h = crash_on who w voter h
event_on who w (Hears place is_clean) are h = comes_on who w (slice_get w.said place) is_clean (λ r is. at_place w.said place r is) h
event_on who w (Begins q a) are h = goes_alone who w q _ (begins_go (w.starts q) a) h
event_on who w (Turns q have_quorums) are h = goes_alone who w q _ (turns_go (w.starts q) have_quorums) h
event_on who w (Needs q number) are h = goes_alone who w q _ (needs_go (w.starts q) number) h
event_on who w (Renews q) are h = goes_alone who w q _ (renews_go (w.starts q)) h
event_on who w (Gives q number) are h = give_by who w q number (may_give (w.starts q) number) refl h

events_on : (who : ℕ → Peer) (w : World) (es : List Event) → AreProcesses who → Holds who w → Holds who (after_all who w es)
events_on who w [] are h = h
events_on who w (e ∷ es) are h = events_on who (after who w e) es are (event_on who w e are h)

pub nobody_yet : (v : ℕ) → has_voter 0 v ≡ true → ⊥
nobody_yet v has = (let none = bit_at-zero v in false≢true (let never : false ≡ true = grind (arith, nat_tests) in never))

first_holds : (who : ℕ → Peer) (ceilings blocks : ℕ → ℕ) → Holds who (first_world ceilings blocks)
first_holds who ceilings blocks = record {
  live_known = λ v. inl refl;
  safe_known = λ v. inl refl;
  live = λ v r from. elim from [
    | inl left ↦ absurd (none_in r left.1)
    | inr waits ↦ absurd (none_in r waits)
  ];
  safe = λ r left. absurd (none_in r left);
  voters = λ v r waits. absurd (none_in r waits);
  agree = λ v r s from to. elim from [
    | inl left ↦ absurd (none_in r left.1)
    | inr waits ↦ absurd (none_in r waits)
  ];
  met = λ v m is. absurd (none_some m is);
  counts = λ v q has. absurd (nobody_yet v has);
  given = λ g among. absurd (none_in g among);
}

pub every_world : (who : ℕ → Peer) (ceilings blocks : ℕ → ℕ) (es : List Event) → AreProcesses who → Holds who (after_all who (first_world ceilings blocks) es)
every_world who ceilings blocks es are = events_on who (first_world ceilings blocks) es are (first_holds who ceilings blocks)
