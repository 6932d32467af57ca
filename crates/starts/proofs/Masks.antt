-- the sets of a process are of voters that said so
use Rattle.std.proofs.Common.{◌≡◌, ℕ, ◌+◌, Bool, true, false, List, [], ◌∷◌, ◌++◌, refl, sym, subst, ◌∙◌, inl, inr, Option, Some, None, Result, Ok, Err}
use Rattle.std.specs.Prelude.{◌==◌, ◌/◌, ◌&&◌, max, nat_lt, if◌then◌else◌, is_some, not, unwrap_or, slice_get, Contains}
use Rattle.std.proofs.lemmas.Bool.{eqb-true, false≢true}
use Rattle.std.proofs.lemmas.List.Elements.{Contains-append_left}
use Rattle.starts.specs.declared.fault.StartFault.{StartFault}
use Rattle.starts.specs.declared.peer.Peer.{Peer}
use Rattle.starts.specs.declared.start.Answers.{Answers}
use Rattle.starts.specs.declared.start.Start.{Start}
use Rattle.starts.specs.declared.start.Turn.{Turn}
use Rattle.starts.specs.declared.start.Turn.TheVariants.{AsksAgain, Raises, Serves, ServesQuietly, Waits}
use Rattle.starts.specs.Peers.{meets}
use Rattle.starts.specs.Starts.{after_turn, asks, begins, counted_by, has_voter, hears, is_kept_by, is_waiting, may_ask, may_give, needs, renews, turn_of, with_voter}
use Rattle.starts.specs.Worlds.{Begins, Crashes, Ends, Event, Gives, Hears, IsAsked, IsCounted, Keeps, Knows, Learns, Meets, Needs, Renews, Reply, Saves, SaysItKeeps, Turns, World, after, after_all, comes, first_world, gives, goes_on, knew, meets_asker, meets_start, says, world_after}
use Rattle.starts.proofs.EveryWorld.{at_place, nobody_yet}
use Rattle.starts.proofs.Sets.{set_by}
use Rattle.starts.proofs.VoterSets.{has_with, with_both}

-- who is said to keep the ceiling said so, and whoever answered before the process serves counts
pub record AreSaid (said : List Reply) (q : ℕ) (s : Start) : Type 0 where
  pub kept : (v : ℕ) → has_voter s.kept v ≡ true → (known : Option ℕ) × Contains said (Keeps v q s.asked known)
  pub answered : s.serves ≡ false → (v : ℕ) → has_voter s.answered v ≡ true → has_voter s.counted v ≡ true

abbrev pub AllSaid : World → Type 0
AllSaid w = (q : ℕ) → AreSaid w.said q (w.starts q)

-- a step after which nobody new keeps the ceiling
pub alike : (said : List Reply) (q : ℕ) (s t : Start) → ((v : ℕ) → has_voter t.kept v ≡ true → (has_voter s.kept v ≡ true) × (t.asked ≡ s.asked))
    → (t.serves ≡ false → s.serves ≡ false) → t.answered ≡ s.answered → t.counted ≡ s.counted → AreSaid said q s → AreSaid said q t
alike said q s t kept serves answered counted h = record {
  kept = λ v has. (let was = h.kept v (kept v has).0 in (was.0, subst (λ (a : ℕ). Contains said (Keeps v q a was.0)) (sym (kept v has).1) was.1));
  answered = λ not_yet v has. subst (λ (c : ℕ). has_voter c v ≡ true) (sym counted)
      (h.answered (serves not_yet) v (subst (λ (a : ℕ). has_voter a v ≡ true) answered has));
}

asked_none : (said : List Reply) (q : ℕ) (s t : Start) → t.kept ≡ 0 → t.serves ≡ s.serves → t.answered ≡ s.answered → t.counted ≡ s.counted → AreSaid said q s → AreSaid said q t
asked_none said q s t none serves answered counted h =
    alike said q s t (λ v has. absurd (nobody_yet v (subst (λ (k : ℕ). has_voter k v ≡ true) none has))) (λ not_yet. sym serves ∙ not_yet) answered counted h

asks_said : (said : List Reply) (q : ℕ) (s : Start) (above : ℕ) → AreSaid said q s → AreSaid said q (asks s above)
asks_said said q s above h = asked_none said q s (asks s above) refl refl refl refl h

begins_said : (said : List Reply) (q : ℕ) (s : Start) (a : Answers) → AreSaid said q s → AreSaid said q (begins s a)
begins_said said q s a h = elim ((s.asked == 0) && may_ask s a) as (λ b. AreSaid said q (if b then asks s (max s.known s.ceiling) else s)) [
  | true ↦ asks_said said q s (max s.known s.ceiling) h
  | false ↦ h
]

needs_said : (said : List Reply) (q : ℕ) (s : Start) (number : ℕ) → AreSaid said q s → AreSaid said q (needs s number)
needs_said said q s number h =
    elim (s.serves && (not (is_waiting s) && nat_lt s.ceiling (number + s.block / 2))) as (λ b. AreSaid said q (if b then asks s (max s.ceiling number) else s)) [
      | true ↦ asks_said said q s (max s.ceiling number) h
      | false ↦ h
    ]

renews_said : (said : List Reply) (q : ℕ) (s : Start) → AreSaid said q s → AreSaid said q (renews s)
renews_said said q s h = asked_none said q s (renews s) refl refl refl refl h

turn_said : (said : List Reply) (q : ℕ) (s : Start) (t : Turn) → AreSaid said q s → AreSaid said q (after_turn s t)
turn_said said q s Waits h = h
turn_said said q s AsksAgain h = asks_said said q s s.known h
turn_said said q s Serves h = alike said q s (after_turn s Serves) (λ v has. (has, refl)) (λ never. absurd (false≢true (sym never))) refl refl h
turn_said said q s ServesQuietly h = alike said q s (after_turn s ServesQuietly) (λ v has. (has, refl)) (λ never. absurd (false≢true (sym never))) refl refl h
turn_said said q s Raises h = alike said q s (after_turn s Raises) (λ v has. (has, refl)) (λ is. is) refl refl h

-- ---- replies

answers_count : (s : Start) (voter v : ℕ) (b : Bool) → s.serves ≡ b → b ≡ false → has_voter (with_voter s.answered voter) v ≡ true
    → ((u : ℕ) → has_voter s.answered u ≡ true → has_voter s.counted u ≡ true) → has_voter (if not b then with_voter s.counted voter else s.counted) v ≡ true
answers_count s voter v true serves never has was = absurd (false≢true (sym never))
answers_count s voter v false serves not_yet has was = elim (has_with s.answered voter v has) [
  | inl before ↦ with_both s.counted voter v (inl (was v before))
  | inr it ↦ with_both s.counted voter v (inr it)
]

hears_said : (said : List Reply) (q : ℕ) (s : Start) (voter ceiling : ℕ) (is_clean : Bool) → AreSaid said q s → AreSaid said q (hears s voter ceiling is_clean)
hears_said said q s voter ceiling is_clean h = record {
  kept = h.kept;
  answered = λ not_yet v has. answers_count s voter v s.serves refl not_yet has (h.answered not_yet);
}

counts_more : (s : Start) (says : Bool) (voter v : ℕ) → has_voter s.counted v ≡ true → has_voter (counted_by s says voter) v ≡ true
counts_more s says voter v has = elim (says && not s.serves) as (λ b. has_voter (if b then with_voter s.counted voter else s.counted) v ≡ true) [
  | true ↦ with_both s.counted voter v (inl has)
  | false ↦ has
]

keeps_said : (said : List Reply) (q : ℕ) (s : Start) (voter ceiling : ℕ) (known : Option ℕ) (b : Bool) → (ceiling == s.asked) ≡ b → Contains said (Keeps voter q ceiling known)
    → AreSaid said q s → AreSaid said q (if b then record s {
      kept = with_voter s.kept voter;
      counted = counted_by s (is_some known) voter;
      known = max s.known (unwrap_or known 0);
    } else s)
keeps_said said q s voter ceiling known false is left h = h
keeps_said said q s voter ceiling known true is left h = record {
  kept = λ v has. elim (has_with s.kept voter v has) [
    | inl was ↦ h.kept v was
    | inr it ↦ (
      known,
      subst (λ (u : ℕ). Contains said (Keeps u q s.asked known)) (sym it)
          (subst (λ (c : ℕ). Contains said (Keeps voter q c known)) (eqb-true ceiling s.asked is) left),
    )
  ];
  answered = λ not_yet v has. counts_more s (is_some known) voter v (h.answered not_yet v has);
}

-- ---- all events

goes_said : (w : World) (q : ℕ) (t : Start) → (AreSaid w.said q (w.starts q) → AreSaid w.said q t) → AllSaid w → AllSaid (goes_on w q t)
goes_said w q t on h = λ p. set_by (λ o (s : Start). AreSaid w.said o s) w.starts q t p (on (h q)) (λ other. h p)

comes_said : (w : World) (o : Option Reply) (is_clean : Bool) → ((r : Reply) → o ≡ Some r → Contains w.said r) → AllSaid w → AllSaid (comes w o is_clean)
comes_said w None is_clean left h = h
comes_said w (Some (Knows voter q known)) is_clean left h =
    goes_said w q (hears (w.starts q) voter known is_clean) (hears_said w.said q (w.starts q) voter known is_clean) h
comes_said w (Some (Keeps voter q ceiling known)) is_clean left h =
    goes_said w q (is_kept_by (w.starts q) voter ceiling known)
    (keeps_said w.said q (w.starts q) voter ceiling known (ceiling == (w.starts q).asked) refl (left (Keeps voter q ceiling known) refl)) h

start_said : (w : World) (voter q : ℕ) (r : Result Peer StartFault) → AllSaid w → AllSaid (meets_start w voter q r)
start_said w voter q (Err fault) h = h
start_said w voter q (Ok next) h = h

ask_said : (w : World) (voter q ceiling : ℕ) (known : Option ℕ) (r : Result Peer StartFault) → AllSaid w → AllSaid (meets_asker w voter q ceiling known r)
ask_said w voter q ceiling known (Err fault) h = h
ask_said w voter q ceiling known (Ok next) h = h

give_said : (w : World) (q number : ℕ) (b : Bool) → AllSaid w → AllSaid (if b then gives w q number else w)
give_said w q number true h = h
give_said w q number false h = h

more_said : (said more : List Reply) (q : ℕ) (s : Start) → AreSaid said q s → AreSaid (said ++ more) q s
more_said said more q s h = record {
  kept = λ v has. (let was = h.kept v has in (was.0, Contains-append_left said more (Keeps v q s.asked was.0) was.1));
  answered = h.answered;
}

event_said : (who : ℕ → Peer) (w : World) (e : Event) → AllSaid w → AllSaid (after who w e)
event_said who w (Meets voter q ceiling) h = start_said w voter q (meets (w.peers voter) (says (who q) ceiling 0)) h
event_said who w (IsAsked voter q ceiling) h = ask_said w voter q ceiling (knew (w.peers voter) (who q)) (meets (w.peers voter) (says (who q) ceiling 0)) h
event_said who w (Learns voter q ceiling ended) h = h
event_said who w (Ends voter q ended) h = h
event_said who w (Saves voter) h = λ q. more_said w.said (w.outbox voter) q (w.starts q) (h q)
event_said who w (Crashes voter) h = h
event_said who w (Hears place is_clean) h = comes_said w (slice_get w.said place) is_clean (λ r is. at_place w.said place r is) h
event_said who w (Begins q a) h = goes_said w q (begins (w.starts q) a) (begins_said w.said q (w.starts q) a) h
event_said who w (Turns q have_quorums) h =
    goes_said w q (after_turn (w.starts q) (turn_of (w.starts q) have_quorums)) (turn_said w.said q (w.starts q) (turn_of (w.starts q) have_quorums)) h
event_said who w (Needs q number) h = goes_said w q (needs (w.starts q) number) (needs_said w.said q (w.starts q) number) h
event_said who w (Renews q) h = goes_said w q (renews (w.starts q)) (renews_said w.said q (w.starts q)) h
event_said who w (Gives q number) h = give_said w q number (may_give (w.starts q) number) h

events_said : (who : ℕ → Peer) (w : World) (es : List Event) → AllSaid w → AllSaid (after_all who w es)
events_said who w [] h = h
events_said who w (e ∷ es) h = events_said who (after who w e) es (event_said who w e h)

all_said : (who : ℕ → Peer) (ceilings blocks : ℕ → ℕ) (es : List Event) → AllSaid (world_after who ceilings blocks es)
all_said who ceilings blocks es = events_said who (first_world ceilings blocks) es (λ q. record {
  kept = λ v has. absurd (nobody_yet v has);
  answered = λ not_yet v has. absurd (nobody_yet v has);
})

pub kept_said : (who : ℕ → Peer) (ceilings blocks : ℕ → ℕ) (es : List Event) (v q : ℕ)
    → has_voter ((world_after who ceilings blocks es).starts q).kept v ≡ true
    → SaysItKeeps (world_after who ceilings blocks es) v q ((world_after who ceilings blocks es).starts q).asked
kept_said who ceilings blocks es v q has = (all_said who ceilings blocks es q).kept v has

pub answered_counts : (who : ℕ → Peer) (ceilings blocks : ℕ → ℕ) (es : List Event) (v q : ℕ)
    → ((world_after who ceilings blocks es).starts q).serves ≡ false
    → has_voter ((world_after who ceilings blocks es).starts q).answered v ≡ true → IsCounted (world_after who ceilings blocks es) v q
answered_counts who ceilings blocks es v q not_yet has = (all_said who ceilings blocks es q).answered not_yet v has
