-- numbers that a voter skips while a grant has its vote: which numbers it gives before, and which after
use Rattle.std.proofs.Common.{◌≡◌, ℕ, ◌+◌, ◌<◌, ◌≤◌, Bool, true, false, List, [], ◌∷◌, ◌++◌, ◌⊎◌, inl, inr, Option, Some, None, refl, sym, ap, subst, ◌∙◌, arith}
use Rattle.std.specs.List.{AllByRecursion}
use Rattle.std.proofs.lemmas.Option.{none-some, same_Some}
use Rattle.numbers.specs.Bounds.{max_limit}
use Rattle.numbers.proofs.Lists.{AllByRecursion-append, AllByRecursion-weaker}
use Rattle.message.specs.declared.message.ToClient.{ToClient}
use Rattle.message.specs.declared.message.ClientBody.{ClientBody}
use Rattle.message.specs.declared.message.ClientBody.TheVariants as to_client
use Rattle.voter.specs.declared.state.Grant.{Grant}
use Rattle.voter.specs.declared.state.VoterState.{VoterState}
use Rattle.voter.specs.Leases.{reborn}
use Rattle.voter.specs.Saved.{least_voter}
use Rattle.voter.proofs.KeptLemmas.{least_is_sound}
use Rattle.voter.specs.Steps as voter
use Rattle.voter.specs.VoteMoves.{VoteMoves, GrantIsNew}
use Rattle.voter.specs.VoterContract.{AllReport, ReportsVote}
use Rattle.voter.proofs.Soundness.{IsSound-counted}
use Rattle.voter_node.specs.Nodes as nodes
use Rattle.voter_node.specs.Lives.{Fate, node_after, said, says}
use Rattle.world.specs.Rules.{VoterLaws}
use Rattle.passes.specs.Grants.{IsGiven, IsLockedFor}
use Rattle.passes.specs.Turns.{HasSkipped}
use Rattle.passes.proofs.Lives.{LifeKeeps, lasts, reborn_is_sound, same_number, says-join}

-- ---- numbers in messages

-- the number of a LOCKED has this property
abbrev NumberIs : (ℕ → Type 0) → ClientBody → Type 0
NumberIs P (to_client.Locked s g) = P g
NumberIs P (to_client.Fail s) = Unit {0}
NumberIs P (to_client.Inquire g) = Unit {0}

abbrev AllName : (ℕ → Type 0) → List ToClient → Type 0
AllName P rs = AllByRecursion (λ r. NumberIs P r.body) rs

names_also : (P Q : ℕ → Type 0) → ((n : ℕ) → P n → Q n) → (body : ClientBody) → NumberIs P body → NumberIs Q body
names_also P Q f (to_client.Locked s g) is = f g is
names_also P Q f (to_client.Fail s) is = tt
names_also P Q f (to_client.Inquire g) is = tt

all_name_also : (P Q : ℕ → Type 0) → ((n : ℕ) → P n → Q n) → (rs : List ToClient) → AllName P rs → AllName Q rs
all_name_also P Q f rs all = AllByRecursion-weaker (λ r. NumberIs P r.body) (λ r. NumberIs Q r.body) (λ r is. names_also P Q f r.body is) rs all

all_name_join : (P : ℕ → Type 0) (rs ms : List ToClient) → AllName P rs → AllName P ms → AllName P (rs ++ ms)
all_name_join P rs ms all more = AllByRecursion-append (λ r. NumberIs P r.body) rs ms all more

-- messages about the grant that has the vote name its number
reported : (P : ℕ → Type 0) (held : Option Grant) → ((g : Grant) → held ≡ Some g → P g.grant) → (c : ℕ) (body : ClientBody) → ReportsVote held c body → NumberIs P body
reported P held is c (to_client.Locked s g) vote = is (record { client = c; stamp = s; grant = g }) vote
reported P held is c (to_client.Fail s) vote = tt
reported P held is c (to_client.Inquire g) vote = tt

all_reported : (P : ℕ → Type 0) (held : Option Grant) → ((g : Grant) → held ≡ Some g → P g.grant) → (rs : List ToClient) → AllReport held rs → AllName P rs
all_reported P held is rs all = AllByRecursion-weaker (λ r. ReportsVote held r.client r.body) (λ r. NumberIs P r.body) (λ r one. reported P held is r.client r.body one) rs all

named_in : (P : ℕ → Type 0) (rs : List ToClient) (c s g : ℕ) → AllName P rs → IsGiven rs c s g → P g
named_in P [] c s g all is = absurd is
named_in P (r ∷ rs) c s g all (inl is) = here r.body all.0 is.1
  where
    here : (body : ClientBody) → NumberIs P body → IsLockedFor body s g → P g
    here (to_client.Locked t h) one locks = subst P locks.1 one
    here (to_client.Fail t) one locks = absurd locks
    here (to_client.Inquire t) one locks = absurd locks
named_in P (r ∷ rs) c s g all (inr is) = named_in P rs c s g all.1 is

-- ---- a step of the vote

-- the vote ends, or has a new grant, or stays
abbrev Steps : VoterState → VoterState → Type 0
Steps y z = ((z.granted ≡ y.granted) × (z.held ≡ None)) ⊎ (GrantIsNew y z ⊎ ((z.granted ≡ y.granted) × (z.held ≡ y.held)))

steps_by : (frees : Bool) (y z : VoterState) → VoteMoves frees y z → Steps y z
steps_by true y z (inl ends) = inl (ends.granted, ends.held)
steps_by true y z (inr new) = inr (inl new)
steps_by false y z (inl stays) = inr (inr (stays.granted, stays.held))
steps_by false y z (inr new) = inr (inl new.1)

more_after : (y z : VoterState) → Steps y z → y.granted ≤ z.granted
more_after y z (inl ends) = (let is = ends.0 in omega arith)
more_after y z (inr (inl new)) = (let is = new.granted in omega arith)
more_after y z (inr (inr stays)) = (let is = stays.0 in omega arith)

-- what holds of the number of the grant, and of the next number, holds of the grant after the step
held_after : (P : ℕ → Type 0) (y z : VoterState) → ((g : Grant) → y.held ≡ Some g → P g.grant) → P (y.granted + 1) → Steps y z → (g : Grant) → z.held ≡ Some g → P g.grant
held_after P y z was next (inl ends) g is = absurd (none-some g (sym ends.1 ∙ is))
held_after P y z was next (inr (inl new)) g is =
    let same : new.grant ≡ g = same_Some new.grant g (sym new.held ∙ is) in
    subst (λ (h : Grant). P h.grant) same (subst P (sym new.number) next)
held_after P y z was next (inr (inr stays)) g is = was g (sym stays.1 ∙ is)

-- ---- before: the grant that is saved has the greatest number of all that left, and what waits is newer, or is of that grant

abbrev IsNoMoreThan : ℕ → ℕ → Type 0
IsNoMoreThan top n = n ≤ top

-- the number was given after the last save, or is that of the grant which is saved
abbrev IsFresh : VoterState → ℕ → Type 0
IsFresh saved n = (saved.granted < n) ⊎ ((h : Grant) × (saved.held ≡ Some h) × (n ≡ h.grant))

record Newest (told : List ToClient) (n : nodes.Node) : Type 0 where
  live : voter.IsSound n.live
  saved : voter.IsSound n.saved
  behind : n.saved.granted ≤ n.live.granted
  left : AllName (IsNoMoreThan n.saved.granted) told
  waits : AllName (IsNoMoreThan n.live.granted) n.outbox
  saved_newest : (g : Grant) → n.saved.held ≡ Some g → AllName (IsNoMoreThan g.grant) told
  live_newest : (g : Grant) → n.live.held ≡ Some g → AllName (IsNoMoreThan g.grant) told
  waits_newest : (g : Grant) → n.live.held ≡ Some g → AllName (IsNoMoreThan g.grant) n.outbox
  live_fresh : (g : Grant) → n.live.held ≡ Some g → IsFresh n.saved g.grant
  waits_fresh : AllName (IsFresh n.saved) n.outbox

up_to_more : (low top : ℕ) → low ≤ top → (rs : List ToClient) → AllName (IsNoMoreThan low) rs → AllName (IsNoMoreThan top) rs
up_to_more low top more rs all = all_name_also (IsNoMoreThan low) (IsNoMoreThan top) (λ n is. omega arith) rs all

-- the voter's next state, and messages about its grant that wait
newer_on : (told : List ToClient) (n : nodes.Node) → Newest told n → (z : VoterState) (rs : List ToClient) → voter.IsSound z → Steps n.live z → AllReport z.held rs
    → Newest told (nodes.put n (record { replies = rs; state = z }))
newer_on told n k z rs sound steps report =
    let behind = k.behind in
    let more = more_after n.live z steps in
    let fresh : (g : Grant) → z.held ≡ Some g → IsFresh n.saved g.grant = held_after (IsFresh n.saved) n.live z k.live_fresh (inl (omega arith)) steps in
    let newest : (top : ℕ) (ms : List ToClient) → top ≤ n.live.granted → AllName (IsNoMoreThan top) ms → ((g : Grant) → n.live.held ≡ Some g → AllName (IsNoMoreThan g.grant) ms)
    → (g : Grant) → z.held ≡ Some g → AllName (IsNoMoreThan g.grant) ms =
    λ top ms few all was. held_after (λ m. AllName (IsNoMoreThan m) ms) n.live z was (up_to_more top (n.live.granted + 1) (omega arith) ms all) steps in
    record {
      live = sound;
      saved = k.saved;
      behind = omega arith;
      left = k.left;
      waits = all_name_join (IsNoMoreThan z.granted) n.outbox rs (up_to_more n.live.granted z.granted more n.outbox k.waits) (all_reported (IsNoMoreThan z.granted) z.held sound.numbered rs report);
      saved_newest = k.saved_newest;
      live_newest = newest n.saved.granted told k.behind k.left k.live_newest;
      waits_newest = λ g is. all_name_join (IsNoMoreThan g.grant) n.outbox rs (newest n.live.granted n.outbox (same_number n.live.granted) k.waits k.waits_newest g is)
          (all_reported (IsNoMoreThan g.grant) z.held (λ h of_h. subst (λ (i : Grant). i.grant ≤ g.grant) (same_Some g h (sym is ∙ of_h)) (same_number g.grant)) rs report);
      live_fresh = fresh;
      waits_fresh = all_name_join (IsFresh n.saved) n.outbox rs k.waits_fresh (all_reported (IsFresh n.saved) z.held fresh rs report);
    }

-- a node that begins with this voter, whose grant is the one that was saved, if it has one
newest_begins : (told : List ToClient) (n : nodes.Node) → Newest told n → (y : VoterState) → voter.IsSound y → n.saved.granted ≤ y.granted → ((g : Grant) → y.held ≡ Some g → n.saved.held ≡ Some g)
    → Newest told (nodes.node_of y)
newest_begins told n k y sound more held = record {
  live = sound;
  saved = sound;
  behind = same_number y.granted;
  left = up_to_more n.saved.granted y.granted more told k.left;
  waits = tt;
  saved_newest = λ g is. k.saved_newest g (held g is);
  live_newest = λ g is. k.saved_newest g (held g is);
  waits_newest = λ g is. tt;
  live_fresh = λ g is. inr (g, is, refl);
  waits_fresh = tt;
}

newest_endures : VoterLaws → LifeKeeps Newest
newest_endures laws = record {
  limit = λ told n k. k.live.limit;
  steps = λ told n m o k is. newer_on told n k o.state o.replies (laws.stays n.live m o k.live is)
      (steps_by (voter.effect_of n.live m).frees n.live o.state (laws.numbers n.live m o k.live is)) (laws.meets n.live m o is).heard;
  reports = λ told n rs k report. newer_on told n k n.live rs k.live (inr (inr (refl, refl))) report;
  saves = λ told n k. record {
    live = k.live;
    saved = k.live;
    behind = same_number n.live.granted;
    left = all_name_join (IsNoMoreThan n.live.granted) told n.outbox (up_to_more n.saved.granted n.live.granted k.behind told k.left) k.waits;
    waits = tt;
    saved_newest = λ g is. all_name_join (IsNoMoreThan g.grant) told n.outbox (k.live_newest g is) (k.waits_newest g is);
    live_newest = λ g is. all_name_join (IsNoMoreThan g.grant) told n.outbox (k.live_newest g is) (k.waits_newest g is);
    waits_newest = λ g is. tt;
    live_fresh = λ g is. inr (g, is, refl);
    waits_fresh = tt;
  };
  restarts = λ told n k. newest_begins told n k n.saved k.saved (same_number n.saved.granted) (λ g is. is);
  forgets = λ told n k. newest_begins told n k (least_voter n.saved) (least_is_sound n.saved k.saved) (same_number n.saved.granted) (λ g is. is);
  reborn = λ told n above limit k least most few.
      newest_begins told n k (reborn n.saved.id above limit) (reborn_is_sound n.saved.id above limit most few) least (λ g is. absurd (none-some g is));
  counts = λ told n granted limit k more within most. record {
    live = IsSound-counted n.live granted limit k.live more within most;
    saved = k.saved;
    behind = (let behind = k.behind in omega arith);
    left = k.left;
    waits = up_to_more n.live.granted granted more n.outbox k.waits;
    saved_newest = k.saved_newest;
    live_newest = k.live_newest;
    waits_newest = k.waits_newest;
    live_fresh = k.live_fresh;
    waits_fresh = k.waits_fresh;
  };
}

-- ---- after: no number between the grant and those that were skipped

abbrev IsOutside : ℕ → ℕ → ℕ → Type 0
IsOutside low top n = (n ≤ low) ⊎ (top < n)

record Apart (low top : ℕ) (told : List ToClient) (n : nodes.Node) : Type 0 where
  live : voter.IsSound n.live
  saved : voter.IsSound n.saved
  live_past : top ≤ n.live.granted
  saved_past : top ≤ n.saved.granted
  live_apart : (g : Grant) → n.live.held ≡ Some g → IsOutside low top g.grant
  saved_apart : (g : Grant) → n.saved.held ≡ Some g → IsOutside low top g.grant
  left : AllName (IsOutside low top) told
  waits : AllName (IsOutside low top) n.outbox

apart_on : (low top : ℕ) (told : List ToClient) (n : nodes.Node) → Apart low top told n → (z : VoterState) (rs : List ToClient) → voter.IsSound z → Steps n.live z → AllReport z.held rs
    → Apart low top told (nodes.put n (record { replies = rs; state = z }))
apart_on low top told n k z rs sound steps report =
    let past = k.live_past in
    let more = more_after n.live z steps in
    let apart : (g : Grant) → z.held ≡ Some g → IsOutside low top g.grant = held_after (IsOutside low top) n.live z k.live_apart (inr (omega arith)) steps in
    record {
      live = sound;
      saved = k.saved;
      live_past = omega arith;
      saved_past = k.saved_past;
      live_apart = apart;
      saved_apart = k.saved_apart;
      left = k.left;
      waits = all_name_join (IsOutside low top) n.outbox rs k.waits (all_reported (IsOutside low top) z.held apart rs report);
    }

apart_begins : (low top : ℕ) (told : List ToClient) (n : nodes.Node) → Apart low top told n → (y : VoterState) → voter.IsSound y → n.saved.granted ≤ y.granted
    → ((g : Grant) → y.held ≡ Some g → n.saved.held ≡ Some g) → Apart low top told (nodes.node_of y)
apart_begins low top told n k y sound more held =
    let past = k.saved_past in
    record {
      live = sound;
      saved = sound;
      live_past = omega arith;
      saved_past = omega arith;
      live_apart = λ g is. k.saved_apart g (held g is);
      saved_apart = λ g is. k.saved_apart g (held g is);
      left = k.left;
      waits = tt;
    }

apart_endures : VoterLaws → (low top : ℕ) → LifeKeeps (Apart low top)
apart_endures laws low top = record {
  limit = λ told n k. k.live.limit;
  steps = λ told n m o k is. apart_on low top told n k o.state o.replies (laws.stays n.live m o k.live is)
      (steps_by (voter.effect_of n.live m).frees n.live o.state (laws.numbers n.live m o k.live is)) (laws.meets n.live m o is).heard;
  reports = λ told n rs k report. apart_on low top told n k n.live rs k.live (inr (inr (refl, refl))) report;
  saves = λ told n k. record {
    live = k.live;
    saved = k.live;
    live_past = k.live_past;
    saved_past = k.live_past;
    live_apart = k.live_apart;
    saved_apart = k.live_apart;
    left = all_name_join (IsOutside low top) told n.outbox k.left k.waits;
    waits = tt;
  };
  restarts = λ told n k. apart_begins low top told n k n.saved k.saved (same_number n.saved.granted) (λ g is. is);
  forgets = λ told n k. apart_begins low top told n k (least_voter n.saved) (least_is_sound n.saved k.saved) (same_number n.saved.granted) (λ g is. is);
  reborn = λ told n above limit k least most few.
      apart_begins low top told n k (reborn n.saved.id above limit) (reborn_is_sound n.saved.id above limit most few) least (λ g is. absurd (none-some g is));
  counts = λ told n granted limit k more within most. record {
    live = IsSound-counted n.live granted limit k.live more within most;
    saved = k.saved;
    live_past = (let past = k.live_past in omega arith);
    saved_past = k.saved_past;
    live_apart = k.live_apart;
    saved_apart = k.saved_apart;
    left = k.left;
    waits = k.waits;
  };
}

-- ---- both

fresh_apart : (saved : VoterState) (low top : ℕ) (holder : Grant) → saved.held ≡ Some holder → holder.grant ≡ low → top ≤ saved.granted → (n : ℕ) → IsFresh saved n → IsOutside low top n
fresh_apart saved low top holder held number spent n (inl newer) = inr (omega arith)
fresh_apart saved low top holder held number spent n (inr of_grant) =
    let same : of_grant.0 ≡ holder = same_Some of_grant.0 holder (sym of_grant.1 ∙ held) in
    let e : n ≡ low = of_grant.2 ∙ ap (λ (g : Grant). g.grant) same ∙ number in
    inl (omega arith)

-- from the moment on at which the numbers are skipped
skips : (n : nodes.Node) (told : List ToClient) → Newest told n → (low top : ℕ) (holder : Grant) → n.saved.held ≡ Some holder → holder.grant ≡ low → top ≤ n.saved.granted → Apart low top told n
skips n told k low top holder held number spent =
    let behind = k.behind in
    record {
      live = k.live;
      saved = k.saved;
      live_past = omega arith;
      saved_past = spent;
      live_apart = λ g is. fresh_apart n.saved low top holder held number spent g.grant (k.live_fresh g is);
      saved_apart = λ g is. fresh_apart n.saved low top holder held number spent g.grant (inr (g, is, refl));
      left = all_name_also (IsNoMoreThan holder.grant) (IsOutside low top) (λ m few. inl (subst (λ (j : ℕ). m ≤ j) number few)) told (k.saved_newest holder held);
      waits = all_name_also (IsFresh n.saved) (IsOutside low top) (λ m is. fresh_apart n.saved low top holder held number spent m is) n.outbox k.waits_fresh;
    }

newest_first : VoterLaws → (id limit : ℕ) → limit ≤ max_limit → Newest [] (nodes.node_of (voter.start id limit))
newest_first laws id limit few =
    let sound = laws.first id limit few in
    record {
      live = sound;
      saved = sound;
      behind = same_number 0;
      left = tt;
      waits = tt;
      saved_newest = λ g is. tt;
      live_newest = λ g is. tt;
      waits_newest = λ g is. tt;
      live_fresh = λ g is. inr (g, is, refl);
      waits_fresh = tt;
    }

-- a voter that skipped numbers while it had a grant gives a newer one a number above them
pub newer_is_above : VoterLaws → (id limit : ℕ) (life : List Fate) (grant top client stamp number : ℕ) → limit ≤ max_limit → HasSkipped id limit life grant top
    → IsGiven (said id limit life) client stamp number → grant < number → top < number
newer_is_above laws id limit life grant top client stamp number few skipped given newer =
    let first = nodes.node_of (voter.start id limit) in
    let before = skipped.before in
    let after = skipped.after in
    let n = node_after first before in
    let k = lasts Newest (newest_endures laws) laws [] first (newest_first laws id limit few) before in
    let apart = skips n (says first before) k grant top skipped.holder skipped.held skipped.number skipped.spent in
    let all = lasts (Apart grant top) (apart_endures laws grant top) laws (says first before) n apart after in
    let whole : says first life ≡ says first before ++ says n after = ap (λ (l : List Fate). says first l) skipped.parts ∙ says-join first before after in
    let there : IsGiven (says first before ++ says n after) client stamp number = subst (λ (rs : List ToClient). IsGiven rs client stamp number) whole given in
    elim (named_in (IsOutside grant top) (says first before ++ says n after) client stamp number all.left there) [
      | inl low ↦ absurd (omega arith)
      | inr high ↦ high
    ]
