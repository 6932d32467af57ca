-- a voter that is reborn once all clients are done with it, and a client that starts anew
use Rattle.std.proofs.Common.{◌≡◌, ◌≢◌, ℕ, ◌<◌, ◌≤◌, Bool, true, false, List, [], ◌∷◌, length, None, Some, Ok, refl, sym, ap, subst, ◌∙◌, ◌⊎◌, inl, inr, arith, eqb}
use Rattle.std.specs.Prelude.{◌&&◌, nat_le, nat_lt, slice_set}
use Rattle.std.specs.FinMap as fin
use Rattle.std.specs.Ordering.{nat_cmp}
use Rattle.std.specs.List.{AllByRecursion}
use Rattle.std.proofs.lemmas.Option.{none-some}
use Rattle.std.proofs.lemmas.Bool.{and_parts, ltb-true}
use Rattle.std.proofs.lemmas.Bool.Decides.{nat_tests}
use Rattle.std.proofs.lemmas.List.{length-set}
use Rattle.numbers.proofs.Lists.{AllByRecursion-weaker, slice_index-replicate_zero}
use Rattle.message.specs.Lines.{voter_number}
use Rattle.message.specs.declared.message.ToVoter.{ToVoter}
use Rattle.message.specs.declared.message.VoterBody.{VoterBody}
use Rattle.message.specs.declared.message.VoterBody.TheVariants as asks
use Rattle.message.specs.declared.message.Message.{Message}
use Rattle.message.specs.declared.message.Message.TheVariants as kinds
use Rattle.message.specs.declared.message.ClientBody.{ClientBody}
use Rattle.message.specs.declared.message.ClientBody.TheVariants as to_client
use Rattle.voter.specs.declared.state.VoterState.{VoterState}
use Rattle.requester.specs.declared.state.ClientState.{ClientState}
use Rattle.requester.specs.declared.state.Phase.{Phase}
use Rattle.requester.specs.declared.state.Phase.TheVariants.{Idle, Asking, Inside}
use Rattle.requester.specs.RequesterContract.{Sees}
use Rattle.requester.specs.Steps as client
use Rattle.requester.specs.Soundness as sound
use Rattle.requester.specs.Words.{holds_under, is_inside, last_of}
use Rattle.voter.specs.Steps as voter
use Rattle.voter.proofs.Soundness.{IsSound-counted}
use Rattle.world.specs.Ranges.{IsWithin}
use Rattle.world.specs.Restarts.{OneVoter, Saved, begin, crash_seen}
use Rattle.world.specs.Runs.{AreLimits}
use Rattle.world_state.specs.Steps.{Dealing, client_at, voter_at}
use Rattle.world.specs.Visible.{DealsFrom, DoMeet, IsExclusive}
use Rattle.world.specs.Rules.{ClientLaws, VoterLaws}
use Rattle.world.proofs.Claims.{AskOk, Bounds, ReportOk, MessageOk, VoterOk, WorldOk, put, put-same}
use Rattle.world.proofs.IncidentLemmas.{anew_by, counted, may_count, may_have, reborn_sound}
use Rattle.world.proofs.Places.{client_at-set, voter_at-set, voter_here}
use Rattle.world.proofs.Reached.{Grounds, RunPremises, grounds}
use Rattle.world.proofs.Restarts.{ClientReturns, Follows, Mix, MixedOk, SavedOk, begin_ok, client_less, client_tried, follows_ok, happens_mixed, if_one, if_voter_one, live_fits, mixed_of, stays, unmoved, voter_tried}
use Rattle.world.specs.Incidents.{Incident, Happens, Hears, IsReborn, StartsAnew, HasLimit, IsRaised, IsSkipped, all_befall, anew, be_raised, be_reborn, be_skipped, befalls, have_limit, hear, is_above, is_ahead, is_limit, is_message, is_request_within, reborn, start_anew}
use Rattle.leases.specs.Orderly.{AreDone, AreOrderly, CountsNoMore, EndsOld, IsOrderly, IsOver, IsStale}
use Rattle.world.proofs.Raises.{no_inquiry, raised_by_step}
use Rattle.leases.proofs.LifeLemmas.{put_at}

put_back : {A : Type 0} (Y : ℕ → A) (v : ℕ) (y z : A) → Y v ≡ z → put (put Y v y) v z ≡ Y
put_back Y v y z is = λ i q. put_at (λ a. a ≡ Y q) (put Y v y) v z q (λ same. sym is ∙ ap Y (sym same)) (λ other. put_at (λ a. a ≡ Y q) Y v y q (λ same. absurd (other same)) (λ _. refl)) i

-- ---- one world

past_report : (x : ClientState) (held : _) (z : VoterState) (v c : ℕ) (body : ClientBody) → ReportOk x held v c body → IsStale x v body → ReportOk x z.held v c body
past_report x held z v c (to_client.Locked s g) ok past = (ok.0, λ live. absurd (past live))
past_report x held z v c (to_client.Fail s) ok past = tt
past_report x held z v c (to_client.Inquire g) ok past = tt

abbrev CountsPast : (ℕ → ClientState) → ℕ → Message → Type 0
CountsPast X v (kinds.ToVoter m) = Unit {0}
CountsPast X v (kinds.ToClient m) = m.voter ≡ v → IsStale (X m.client) v m.body

-- a free voter has no grant that a RELINQUISH could end
ask_free : (x : ClientState) (y z : VoterState) (v c : ℕ) (body : VoterBody) → z.held ≡ None → y.granted ≤ z.granted → AskOk x y v c body → AskOk x z v c body
ask_free x y z v c (asks.Request t) free few ok = ok
ask_free x y z v c (asks.Relinquish g) free few ok = ((let most = ok.0 in omega arith), λ t live names. none-some (record { client = c; stamp = t; grant = g }) (sym free ∙ names))
ask_free x y z v c (asks.Release t) free few ok = ok

past_message : (X : ℕ → ClientState) (Y : ℕ → VoterState) (v : ℕ) (z : VoterState) → z.held ≡ None → (Y v).granted ≤ z.granted → (m : Message) → MessageOk X Y m → CountsPast X v m
    → MessageOk X (put Y v z) m
past_message X Y v z free few (kinds.ToVoter m) ok past = put_at (λ (y : VoterState). AskOk (X m.client) y m.voter m.client m.body) Y v z m.voter
    (λ same. ask_free (X m.client) (Y m.voter) z m.voter m.client m.body free (subst (λ n. (Y n).granted ≤ z.granted) (sym same) few) ok)
    (λ other. ok)
past_message X Y v z free few (kinds.ToClient m) ok past = put_at (λ (y : VoterState). ReportOk (X m.client) y.held m.voter m.client m.body) Y v z m.voter
    (λ same. past_report (X m.client) (Y m.voter).held z m.voter m.client m.body ok (subst (λ (k : ℕ). IsStale (X m.client) k m.body) (sym same) (past same)))
    (λ other. ok)

past_messages : (X : ℕ → ClientState) (Y : ℕ → VoterState) (v : ℕ) (z : VoterState) → z.held ≡ None → (Y v).granted ≤ z.granted → (ms : List Message) → AllByRecursion (MessageOk X Y) ms
    → AllByRecursion (CountsPast X v) ms → AllByRecursion (MessageOk X (put Y v z)) ms
past_messages X Y v z free few [] ok past = tt
past_messages X Y v z free few (m ∷ ms) ok past = (past_message X Y v z free few m ok.0 past.0, past_messages X Y v z free few ms ok.1 past.1)

reborn_ok : (b : Bounds) (X : ℕ → ClientState) (y : VoterState) (above : ℕ) → VoterOk b X y → above ≤ y.limit → VoterOk b X (reborn y above)
reborn_ok b X y above ok most = record {
  sound = reborn_sound y above ok.sound most;
  entries = λ c s is. elim is [ inl held ↦ absurd (none-some held.0 held.1) | inr waits ↦ absurd (none-some s (sym (fin.get-empty nat_cmp c) ∙ waits)) ];
  numbered = λ g held. absurd (none-some g held);
  limit = ok.limit;
  seen = omega arith;
}

reborn_world : (b : Bounds) (X : ℕ → ClientState) (Y : ℕ → VoterState) (sent : List Message) (v : ℕ) (z : VoterState) → WorldOk b X Y sent → VoterOk b X z → (v < b.voters → z.id ≡ v)
    → z.held ≡ None → (Y v).granted ≤ z.granted → ((c g : ℕ) → holds_under (X c) v g ≡ true → ⊥) → AllByRecursion (CountsPast X v) sent → WorldOk b X (put Y v z) sent
reborn_world b X Y sent v z ok here id free few none past = record {
  messages = past_messages X Y v z free few sent ok.messages past;
  ranges = ok.ranges;
  held = λ c q g is. put_at (λ (y : VoterState). y.held ≡ Some (record { client = c; stamp = (X c).stamp; grant = g })) Y v z q
      (λ same. absurd (none c g (subst (λ (k : ℕ). holds_under (X c) k g ≡ true) same is))) (λ other. ok.held c q g is);
  last = λ c q. put_at (λ (y : VoterState). last_of (X c) q ≤ y.granted) Y v z q (λ same. let most = subst (λ n. last_of (X c) q ≤ (Y n).granted) same (ok.last c q) in omega arith) (λ other. ok.last c q);
  clients = ok.clients;
  voters = λ q. put_at (λ (y : VoterState). VoterOk b X y) Y v z q (λ same. here) (λ other. ok.voters q);
  client_ids = ok.client_ids;
  voter_ids = λ q within. put_at (λ (y : VoterState). y.id ≡ q) Y v z q (λ same. id (subst (λ (k : ℕ). k < b.voters) same within) ∙ sym same) (λ other. ok.voter_ids q within);
}

-- ---- live and saved

one_past : (L K : ℕ → ClientState) (v : ℕ) (X : ℕ → ClientState) → Mix L K X → (m : Message) → CountsPast L v m → CountsPast K v m → CountsPast X v m
one_past L K v X mix (kinds.ToVoter m) live saved = tt
one_past L K v X mix (kinds.ToClient m) live saved = λ same. elim (mix m.client) [
  | inl e ↦ subst (λ (x : ClientState). IsStale x v m.body) (sym e) (live same)
  | inr e ↦ subst (λ (x : ClientState). IsStale x v m.body) (sym e) (saved same)
]

all_past : (L K : ℕ → ClientState) (v : ℕ) (X : ℕ → ClientState) → Mix L K X → (ms : List Message) → AllByRecursion (CountsPast L v) ms → AllByRecursion (CountsPast K v) ms → AllByRecursion (CountsPast X v) ms
all_past L K v X mix [] live saved = tt
all_past L K v X mix (m ∷ ms) live saved = (one_past L K v X mix m live.0 saved.0, all_past L K v X mix ms live.1 saved.1)

counts_of : (clients : List ClientState) (v : ℕ) (m : Message) → CountsNoMore clients v m → CountsPast (client_at clients) v m
counts_of clients v (kinds.ToVoter m) is = tt
counts_of clients v (kinds.ToClient m) is = is

all_counts : (clients : List ClientState) (v : ℕ) (ms : List Message) → AllByRecursion (CountsNoMore clients v) ms → AllByRecursion (CountsPast (client_at clients) v) ms
all_counts clients v [] is = tt
all_counts clients v (m ∷ ms) is = (counts_of clients v m is.0, all_counts clients v ms is.1)

-- ---- a vote that nobody has

free_report : (x : ClientState) (held : _) (v c : ℕ) (body : ClientBody) → held ≡ None → ReportOk x held v c body → IsStale x v body
free_report x held v c (to_client.Locked s g) free ok = λ live. none-some (record { client = c; stamp = s; grant = g }) (sym free ∙ ok.1 live)
free_report x held v c (to_client.Fail s) free ok = tt
free_report x held v c (to_client.Inquire g) free ok = tt

free_message : (clients : List ClientState) (Y : ℕ → VoterState) (v : ℕ) → (Y v).held ≡ None → (m : Message) → MessageOk (client_at clients) Y m → CountsNoMore clients v m
free_message clients Y v free (kinds.ToVoter m) ok = tt
free_message clients Y v free (kinds.ToClient m) ok = λ same.
    subst (λ (k : ℕ). IsStale (client_at clients m.client) k m.body) same
    (free_report (client_at clients m.client) (Y m.voter).held m.voter m.client m.body (ap (λ (k : ℕ). (Y k).held) same ∙ free) ok)

free_done : (b : Bounds) (clients : List ClientState) (Y : ℕ → VoterState) (sent : List Message) (v : ℕ) → WorldOk b (client_at clients) Y sent → (Y v).held ≡ None → AreDone clients v sent
free_done b clients Y sent v ok free = record {
  votes = λ c g has. none-some (record { client = c; stamp = (client_at clients c).stamp; grant = g }) (sym free ∙ ok.held c v g has);
  messages = AllByRecursion-weaker (MessageOk (client_at clients) Y) (CountsNoMore clients v) (free_message clients Y v free) sent ok.messages;
}

-- the live voter beside the live clients, and beside the saved ones
free_over : (b : Bounds) (s : Saved) → MixedOk b s → (v : ℕ) → (voter_at s.live.voters v).held ≡ None → IsOver s v
free_over b s ok v free =
    let M = voter_at s.live.voters in (
      free_done b s.live.clients M s.live.sent v (live_fits b s ok) free,
      free_done b s.clients M s.live.sent v (ok.mixes (client_at s.clients) M (λ q. inr refl) (λ q. inl refl)) free,
    )

over_or_free : (b : Bounds) (s : Saved) → MixedOk b s → (v : ℕ) → IsOver s v ⊎ ((voter_at s.live.voters v).held ≡ None) → IsOver s v
over_or_free b s ok v is = elim is [ inl over ↦ over | inr free ↦ free_over b s ok v free ]

-- ---- a voter that is reborn

rebirth_ok : (b : Bounds) (s : Saved) → MixedOk b s → (v above : ℕ) → IsOver s v → (t : Bool) → (nat_lt v (length s.live.voters) && is_above (voter_at s.live.voters v) above) ≡ t
    → Follows b s (be_reborn t s v above)
rebirth_ok b s ok v above over false is = stays b s ok
rebirth_ok b s ok v above over true is =
    let M = voter_at s.live.voters in
    let N = voter_at s.voters in
    let L = client_at s.live.clients in
    let K = client_at s.clients in
    let y = M v in
    let z = reborn y above in
    let may = may_count s v above is in
    let within = may.within in
    let within_b : v < b.voters = subst (λ n. v < n) ok.sizes.1 within in
    let within_saved : v < length s.voters = subst (λ n. v < n) (sym ok.sizes.3) within_b in
    let live = live_fits b s ok in
    unmoved b s _ refl refl (record {
      sizes = (ok.sizes.0, length-set s.live.voters v z ∙ ok.sizes.1, ok.sizes.2, length-set s.voters v z ∙ ok.sizes.3);
      mixes = λ X Y mix other.
          let at : Y v ≡ z = elim (other v) [
            | inl e ↦ e ∙ voter_here s.live.voters v z within
            | inr e ↦ e ∙ voter_here s.voters v z within_saved
          ] in
          let Z = put Y v y in
          let before : Mix M N Z = λ q. put_at (λ (a : VoterState). (a ≡ M q) ⊎ (a ≡ N q)) Y v y q (λ same. inl (ap M (sym same)))
          (λ apart. elim (other q) [
            | inl e ↦ inl (e ∙ ap (λ (f : ℕ → VoterState). f q) (voter_at-set s.live.voters v z within) ∙ put_at (λ (a : VoterState). a ≡ M q) M v z q (λ same. absurd (apart same)) (λ _. refl))
            | inr e ↦ inr (e ∙ ap (λ (f : ℕ → VoterState). f q) (voter_at-set s.voters v z within_saved) ∙ put_at (λ (a : VoterState). a ≡ N q) N v z q (λ same. absurd (apart same)) (λ _. refl))
          ]) in
          let world = ok.mixes X Z mix before in
          let none : (c g : ℕ) → holds_under (X c) v g ≡ true → ⊥ = λ c g has. elim (mix c) [
            | inl e ↦ over.0.votes c g (subst (λ (x : ClientState). holds_under x v g ≡ true) e has)
            | inr e ↦ over.1.votes c g (subst (λ (x : ClientState). holds_under x v g ≡ true) e has)
          ] in
          let past = all_past L K v X mix s.live.sent (all_counts s.live.clients v s.live.sent over.0.messages) (all_counts s.clients v s.live.sent over.1.messages) in
          let old : VoterOk b X y = subst (λ (a : VoterState). VoterOk b X a) (put-same Y v y) (world.voters v) in
          subst (λ (W : ℕ → VoterState). WorldOk b X W s.live.sent) (put_back Y v y z at)
          (reborn_world b X Z s.live.sent v z world (reborn_ok b X y above old may.most) (λ w. live.voter_ids v w) refl (subst (λ (a : VoterState). a.granted ≤ above) (sym (put-same Y v y)) may.least) none past);
    })

-- ---- a client that starts anew

anew_comes : ClientLaws → (x : ClientState) (clock : ℕ) → sound.IsSound x → x.stamp ≤ clock → clock ≤ x.limit → ClientReturns x (anew x clock)
anew_comes laws x clock ok least most = record {
  sound = anew_by laws x clock ok most;
  id = refl;
  limit = refl;
  stamp = least;
  idle = refl;
  last = λ v. (let none = slice_index-replicate_zero 64 v in omega arith);
  quorum = refl;
}

-- the client was inside and leaves, or was not
left_by : (p : Phase) → Sees p (crash_seen (is_inside p) false) Idle
left_by Idle = refl
left_by Asking = refl
left_by Inside = (refl, refl)

anew_ok : (b : Bounds) → Grounds b → (s : Saved) → MixedOk b s → (c clock : ℕ) (t : Bool) → (nat_lt c (length s.live.clients) && is_ahead (client_at s.live.clients c) clock) ≡ t
    → Follows b s (start_anew t s c clock)
anew_ok b given s ok c clock false is = stays b s ok
anew_ok b given s ok c clock true is =
    let L = client_at s.live.clients in
    let K = client_at s.clients in
    let M = voter_at s.live.voters in
    let x = L c in
    let z = anew x clock in
    let parts = and_parts (nat_lt c (length s.live.clients)) (is_ahead x clock) is in
    let ends = and_parts (nat_le x.stamp clock) (nat_le clock x.limit) parts.1 in
    let least : x.stamp ≤ clock = (let h = ends.0 in grind (arith, nat_tests)) in
    let most : clock ≤ x.limit = (let h = ends.1 in grind (arith, nat_tests)) in
    let within : c < length s.live.clients = ltb-true _ _ parts.0 in
    let within_saved : c < length s.clients = subst (λ n. c < n) (sym ok.sizes.2) (subst (λ n. c < n) ok.sizes.0 within) in
    let comes = anew_comes given.client x clock ((live_fits b s ok).clients c).sound least most in
    let live : put L c z ≡ client_at (slice_set s.live.clients c z) = sym (client_at-set s.live.clients c z within) in
    let saved : put K c z ≡ client_at (slice_set s.clients c z) = sym (client_at-set s.clients c z within_saved) in
    record {
      mixed = record {
        sizes = (length-set s.live.clients c z ∙ ok.sizes.0, ok.sizes.1, length-set s.clients c z ∙ ok.sizes.2, ok.sizes.3);
        mixes = λ X Y mix other.
            let at : X c ≡ z = elim (mix c) [
              | inl e ↦ e ∙ ap (λ (f : ℕ → ClientState). f c) (sym live) ∙ put-same L c z
              | inr e ↦ e ∙ ap (λ (f : ℕ → ClientState). f c) (sym saved) ∙ put-same K c z
            ] in
            let Z = put X c x in
            let before : Mix L K Z = λ q. put_at (λ (a : ClientState). (a ≡ L q) ⊎ (a ≡ K q)) X c x q (λ same. inl (ap L (sym same)))
            (λ apart. elim (mix q) [
              | inl e ↦ inl (e ∙ ap (λ (f : ℕ → ClientState). f q) (sym live) ∙ put_at (λ (a : ClientState). a ≡ L q) L c z q (λ same. absurd (apart same)) (λ _. refl))
              | inr e ↦ inr (e ∙ ap (λ (f : ℕ → ClientState). f q) (sym saved) ∙ put_at (λ (a : ClientState). a ≡ K q) K c z q (λ same. absurd (apart same)) (λ _. refl))
            ]) in
            subst (λ (W : ℕ → ClientState). WorldOk b W Y s.live.sent) (put_back X c x z at)
            (client_less b Z Y s.live.sent c z (ok.mixes Z Y before other) (subst (λ (a : ClientState). ClientReturns a z) (sym (put-same X c x)) comes));
      };
      shows = record {
        client = c;
        after = z;
        seen = crash_seen (is_inside x.phase) false;
        visible = refl;
        clients = live;
        sees = left_by x.phase;
      };
    }

-- ---- a voter that skips numbers, or has another limit

ask_counted : (x : ClientState) (y : VoterState) (granted limit v c : ℕ) (body : VoterBody) → y.granted ≤ granted → AskOk x y v c body → AskOk x (counted y granted limit) v c body
ask_counted x y granted limit v c (asks.Request t) more ok = ok
ask_counted x y granted limit v c (asks.Relinquish g) more ok = ((let most = ok.0 in omega arith), ok.1)
ask_counted x y granted limit v c (asks.Release t) more ok = ok

counted_message : (X : ℕ → ClientState) (Y : ℕ → VoterState) (v granted limit : ℕ) → (Y v).granted ≤ granted → (m : Message) → MessageOk X Y m → MessageOk X (put Y v (counted (Y v) granted limit)) m
counted_message X Y v granted limit more (kinds.ToVoter m) ok = put_at (λ (y : VoterState). AskOk (X m.client) y m.voter m.client m.body) Y v (counted (Y v) granted limit) m.voter
    (λ same. ask_counted (X m.client) (Y v) granted limit m.voter m.client m.body more (subst (λ (k : ℕ). AskOk (X m.client) (Y k) m.voter m.client m.body) same ok))
    (λ other. ok)
counted_message X Y v granted limit more (kinds.ToClient m) ok = put_at (λ (y : VoterState). ReportOk (X m.client) y.held m.voter m.client m.body) Y v (counted (Y v) granted limit) m.voter
    (λ same. subst (λ (k : ℕ). ReportOk (X m.client) (Y k).held m.voter m.client m.body) same ok)
    (λ other. ok)

counted_ok : (b : Bounds) → Grounds b → (X : ℕ → ClientState) (y : VoterState) (granted limit : ℕ) → VoterOk b X y → y.granted ≤ granted → granted ≤ limit → limit ≤ b.limit
    → VoterOk b X (counted y granted limit)
counted_ok b given X y granted limit ok more within most = record {
  sound = IsSound-counted y granted limit ok.sound more within (let few = given.limits.few_stamps in omega arith);
  entries = ok.entries;
  numbered = ok.numbered;
  limit = most;
  seen = ok.seen;
}

counted_world : (b : Bounds) → Grounds b → (X : ℕ → ClientState) (Y : ℕ → VoterState) (sent : List Message) (v granted limit : ℕ) → WorldOk b X Y sent → (Y v).granted ≤ granted → granted ≤ limit
    → limit ≤ b.limit → WorldOk b X (put Y v (counted (Y v) granted limit)) sent
counted_world b given X Y sent v granted limit ok more within most =
    let z = counted (Y v) granted limit in
    record {
      messages = AllByRecursion-weaker (MessageOk X Y) (MessageOk X (put Y v z)) (counted_message X Y v granted limit more) sent ok.messages;
      ranges = ok.ranges;
      held = λ c q g is. put_at (λ (y : VoterState). y.held ≡ Some (record { client = c; stamp = (X c).stamp; grant = g })) Y v z q
          (λ same. subst (λ (k : ℕ). (Y k).held ≡ Some (record { client = c; stamp = (X c).stamp; grant = g })) same (ok.held c q g is)) (λ other. ok.held c q g is);
      last = λ c q. put_at (λ (y : VoterState). last_of (X c) q ≤ y.granted) Y v z q
          (λ same. let few = subst (λ (k : ℕ). last_of (X c) q ≤ (Y k).granted) same (ok.last c q) in let up : last_of (X c) q ≤ granted = omega arith in up) (λ other. ok.last c q);
      clients = ok.clients;
      voters = λ q. put_at (λ (y : VoterState). VoterOk b X y) Y v z q (λ same. counted_ok b given X (Y v) granted limit (ok.voters v) more within most) (λ other. ok.voters q);
      client_ids = ok.client_ids;
      voter_ids = λ q within_q. put_at (λ (y : VoterState). y.id ≡ q) Y v z q (λ same. subst (λ (k : ℕ). (Y k).id ≡ q) same (ok.voter_ids q within_q)) (λ other. ok.voter_ids q within_q);
    }

mix_beside : (lives : List VoterState) (v : ℕ) (z : VoterState) → v < length lives → (N Y : ℕ → VoterState) → Mix (voter_at (slice_set lives v z)) N Y → (q : ℕ) → q ≢ v
    → (Y q ≡ voter_at lives q) ⊎ (Y q ≡ N q)
mix_beside lives v z within N Y other q apart = elim (other q) [
  | inl e ↦ inl (e ∙ ap (λ (f : ℕ → VoterState). f q) (voter_at-set lives v z within) ∙ put_at (λ (a : VoterState). a ≡ voter_at lives q) (voter_at lives) v z q (λ same. absurd (apart same)) (λ _. refl))
  | inr e ↦ inr e
]

mix_saved : (lives : List VoterState) (v : ℕ) (z : VoterState) → v < length lives → (N Y : ℕ → VoterState) → Mix (voter_at (slice_set lives v z)) N Y → Y v ≡ N v → Mix (voter_at lives) N Y
mix_saved lives v z within N Y other is q = elim (eqb q v) as (λ t. eqb q v ≡ t → (Y q ≡ voter_at lives q) ⊎ (Y q ≡ N q)) [
  | true ↦ λ t. let same : q ≡ v = grind (arith, nat_tests) in inr (subst (λ (k : ℕ). Y k ≡ N k) (sym same) is)
  | false ↦ λ t. mix_beside lives v z within N Y other q (λ same. grind (arith, nat_tests))
] refl

-- a live voter skips numbers, or has another limit
recount_ok : (b : Bounds) → Grounds b → (s : Saved) → MixedOk b s → (v granted limit : ℕ) → v < length s.live.voters → (voter_at s.live.voters v).granted ≤ granted → granted ≤ limit → limit ≤ b.limit
    → Follows b s (record s { live = record s.live { voters = slice_set s.live.voters v (counted (voter_at s.live.voters v) granted limit) } })
recount_ok b given s ok v granted limit there more within most =
    let M = voter_at s.live.voters in
    let N = voter_at s.voters in
    let z = counted (M v) granted limit in
    unmoved b s _ refl refl (record {
      sizes = (ok.sizes.0, length-set s.live.voters v z ∙ ok.sizes.1, ok.sizes.2, ok.sizes.3);
      mixes = λ X Y mix other. elim (other v) [
        | inl e ↦
            let at : Y v ≡ z = e ∙ voter_here s.live.voters v z there in
            let Z = put Y v (M v) in
            let here : Z v ≡ M v = put-same Y v (M v) in
            let before : Mix M N Z = λ q. put_at (λ (a : VoterState). (a ≡ M q) ⊎ (a ≡ N q)) Y v (M v) q (λ same. inl (ap M (sym same)))
            (λ apart. mix_beside s.live.voters v z there N Y other q apart) in
            let world = counted_world b given X Z s.live.sent v granted limit (ok.mixes X Z mix before) (subst (λ (a : VoterState). a.granted ≤ granted) (sym here) more) within most in
            subst (λ (W : ℕ → VoterState). WorldOk b X W s.live.sent) (put_back Y v (M v) z at)
            (subst (λ (a : VoterState). WorldOk b X (put Z v (counted a granted limit)) s.live.sent) here world)
        | inr e ↦ ok.mixes X Y mix (mix_saved s.live.voters v z there N Y other e)
      ];
    })

limit_ok : (b : Bounds) → Grounds b → (s : Saved) → MixedOk b s → (v limit : ℕ) (t : Bool) → (nat_lt v (length s.live.voters) && is_limit s v limit) ≡ t → Follows b s (have_limit t s v limit)
limit_ok b given s ok v limit false is = stays b s ok
limit_ok b given s ok v limit true is =
    let may = may_have b s ok.sizes.0 (λ some. ((live_fits b s ok).client_ids 0 some).limit) v limit is in
    recount_ok b given s ok v (voter_at s.live.voters v).granted limit may.within (omega arith) may.least may.most

skip_ok : (b : Bounds) → Grounds b → (s : Saved) → MixedOk b s → (v above : ℕ) (t : Bool) → (nat_lt v (length s.live.voters) && is_above (voter_at s.live.voters v) above) ≡ t → Follows b s (be_skipped t s v above)
skip_ok b given s ok v above false is = stays b s ok
skip_ok b given s ok v above true is =
    let may = may_count s v above is in
    recount_ok b given s ok v above (voter_at s.live.voters v).limit may.within may.least may.most ((live_fits b s ok).voters v).limit

raise_ok : (b : Bounds) → Grounds b → (s : Saved) → MixedOk b s → (c clock : ℕ) (t : Bool) → nat_lt c (length s.live.clients) ≡ t → Follows b s (be_raised t s c clock)
unfolding client.step
raise_ok b given s ok c clock false is = stays b s ok
raise_ok b given s ok c clock true is =
    let x = client_at s.live.clients c in
    subst (λ (u : Saved). Follows b s u) (raised_by_step s c clock)
    (client_tried b given s ok c (ltb-true _ _ is) (client.Takes (no_inquiry x clock)) (refl, omega arith) (λ X Y world v t g never. absurd never) tt (Ok (client.take x (no_inquiry x clock))) refl)

-- ---- a RELEASE of a request that is over

ends_ok : (x : ClientState) (y : VoterState) (v c : ℕ) (body : VoterBody) → EndsOld x body → AskOk x y v c body
ends_ok x y v c (asks.Request t) ends = absurd ends
ends_ok x y v c (asks.Relinquish g) ends = absurd ends
ends_ok x y v c (asks.Release t) ends = (ends.1, ends.2)

pub ends_within : (limit : ℕ) (x : ClientState) (body : VoterBody) → EndsOld x body → x.stamp ≤ limit → IsWithin limit (voter_number body)
ends_within limit x (asks.Request t) ends most = absurd ends
ends_within limit x (asks.Relinquish g) ends most = absurd ends
ends_within limit x (asks.Release t) ends most = (let low = ends.1 in (ends.0, omega arith))

hear_ok : (b : Bounds) → Grounds b → (s : Saved) → MixedOk b s → (m : ToVoter) → EndsOld (client_at s.live.clients m.client) m.body × EndsOld (client_at s.clients m.client) m.body → Follows b s (hear s m)
hear_ok b given s ok m ends = if_voter_one b s ok (OneVoter m.voter) (nat_lt m.voter (length s.live.voters)) m.voter _ (λ t.
    if_one b s ok (OneVoter m.voter) (is_message s m) m.client _ (λ u.
    let parts = and_parts (nat_lt m.client (length s.live.clients)) (is_request_within (client_at s.live.clients m.client).limit m.body) u in
    let within : m.client < b.clients = subst (λ n. m.client < n) ok.sizes.0 (ltb-true _ _ parts.0) in
    let here : m.voter < b.voters = subst (λ n. m.voter < n) ok.sizes.1 (ltb-true _ _ t) in
    let x = client_at s.live.clients m.client in
    let live = live_fits b s ok in
    let stamp = (live.clients m.client).sound.stamp in
    let limit = (live.client_ids m.client within).limit in
    voter_tried b given s ok m (within, here, ends_within b.limit x m.body ends.0 (omega arith))
    (λ X Y mix world. elim (mix m.client) [
      | inl e ↦ subst (λ (a : ClientState). AskOk a (Y m.voter) m.voter m.client m.body) (sym e) (ends_ok x (Y m.voter) m.voter m.client m.body ends.0)
      | inr e ↦ subst (λ (a : ClientState). AskOk a (Y m.voter) m.voter m.client m.body) (sym e) (ends_ok (client_at s.clients m.client) (Y m.voter) m.voter m.client m.body ends.1)
    ])
    (voter.step (voter_at s.live.voters m.voter) m) refl))

-- ---- all that may befall

-- whichever quorums there are
pub orderly_follows : (b : Bounds) → Grounds b → (deal : Dealing) → DealsFrom b.quorums deal → (s : Saved) → MixedOk b s → (i : Incident) → IsOrderly s i → Follows b s (befalls deal s i)
orderly_follows b given deal deals s ok (Happens h) orderly = happens_mixed b given deal deals s ok h
orderly_follows b given deal deals s ok (Hears m) orderly = hear_ok b given s ok m orderly
orderly_follows b given deal deals s ok (IsReborn v above) orderly = rebirth_ok b s ok v above (over_or_free b s ok v orderly) _ refl
orderly_follows b given deal deals s ok (StartsAnew c clock) orderly = anew_ok b given s ok c clock _ refl
orderly_follows b given deal deals s ok (HasLimit v limit) orderly = limit_ok b given s ok v limit _ refl
orderly_follows b given deal deals s ok (IsRaised c clock) orderly = raise_ok b given s ok c clock _ refl
orderly_follows b given deal deals s ok (IsSkipped v above) orderly = skip_ok b given s ok v above _ refl

-- with quorums that meet
orderly_ok : (b : Bounds) → RunPremises b → (deal : Dealing) → DealsFrom b.quorums deal → (is : List Incident) (s : Saved) → SavedOk b s → AreOrderly deal s is → SavedOk b (all_befall deal is s)
orderly_ok b given deal deals [] s ok orderly = ok
orderly_ok b given deal deals (i ∷ is) s ok orderly =
    let next = befalls deal s i in
    orderly_ok b given deal deals is next (follows_ok b given.meet s next ok (orderly_follows b (grounds b given) deal deals s (mixed_of b s ok) i orderly.0)) orderly.1

every_orderly : ClientLaws → VoterLaws → (voters clients limit : ℕ) (quorums : List (List ℕ)) (deal : Dealing) (is : List Incident)
    → AreLimits voters clients limit → DoMeet voters quorums → DealsFrom quorums deal → AreOrderly deal (begin voters clients limit) is
    → SavedOk (record { voters = voters; clients = clients; limit = limit; quorums = quorums }) (all_befall deal is (begin voters clients limit))
every_orderly cs vs voters clients limit quorums deal is limits meets deals orderly =
    let b : Bounds = record { voters = voters; clients = clients; limit = limit; quorums = quorums } in
    let given : RunPremises b = record { client = cs; voter = vs; limits = limits; meet = meets } in
    orderly_ok b given deal deals is (begin voters clients limit) (begin_ok b given) orderly

pub every_rebirth : ClientLaws → VoterLaws → (voters clients limit : ℕ) (quorums : List (List ℕ)) (deal : Dealing) (is : List Incident)
    → AreLimits voters clients limit → DoMeet voters quorums → DealsFrom quorums deal → AreOrderly deal (begin voters clients limit) is
    → IsExclusive (all_befall deal is (begin voters clients limit)).live.visible
every_rebirth cs vs voters clients limit quorums deal is limits meets deals orderly = (every_orderly cs vs voters clients limit quorums deal is limits meets deals orderly).walked.list

pub every_free_vote : ClientLaws → VoterLaws → (voters clients limit : ℕ) (quorums : List (List ℕ)) (deal : Dealing) (is : List Incident) (v : ℕ)
    → AreLimits voters clients limit → DoMeet voters quorums → DealsFrom quorums deal → AreOrderly deal (begin voters clients limit) is
    → (voter_at (all_befall deal is (begin voters clients limit)).live.voters v).held ≡ None → IsOver (all_befall deal is (begin voters clients limit)) v
every_free_vote cs vs voters clients limit quorums deal is v limits meets deals orderly free =
    let b : Bounds = record { voters = voters; clients = clients; limit = limit; quorums = quorums } in
    let s = all_befall deal is (begin voters clients limit) in
    free_over b s (mixed_of b s (every_orderly cs vs voters clients limit quorums deal is limits meets deals orderly)) v free
