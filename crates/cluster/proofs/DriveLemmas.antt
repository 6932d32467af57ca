-- What becomes of members that are driven.
use Rattle.std.proofs.Common.{◌≡◌, inl, inr, ℕ, zero, suc, ◌+◌, ◌-◌, ◌*◌, ◌/◌, ◌<◌, ◌≤◌, Bool, true, false, true≢false, ◌&&◌, cond, is_some, nat_le, Option, None, Some, List, []}
use Rattle.std.proofs.Common.{◌∷◌, ◌++◌, refl, sym, ap, ◌∙◌, subst, length, add-zero, arith}
use Rattle.std.specs.Prelude.{All, IfOk, IfErr, Result, Ok, Err, option_map, slice_index_or}
use Rattle.std.proofs.Math.Nat.{le-add_right, min-eq_left, min-eq_right}
use Rattle.std.proofs.lemmas.Bool.{cases_lt}
use Rattle.std.proofs.lemmas.Bool.Decides.{nat_tests}
use Rattle.std.specs.List.{AllZip}
use Rattle.std.proofs.lemmas.List.{append-nil, append_assoc, length-append}
use Rattle.requester.specs.Words.{is_idle, is_inside}
use Rattle.board.specs.declared.fault.BoardFault.TheVariants.{RegisterFull, OutOfMemory}
use Rattle.board.specs.Seats.{ClientSeatState as SeatState}
use Rattle.requester.specs.declared.fault.ClientFault.TheVariants.{Busy}
use Rattle.dealer.specs.declared.fault.DealFault.TheVariants.{QuotaSpent, OutOfMemory as NoRoom}
use Rattle.dealer.specs.declared.receipt.Receipt.{Receipt}
use Rattle.dealer.specs.Offices.{ClerkState}
use Rattle.quorum_set.specs.declared.bridge.Side.{Side}
use Rattle.quorum_set.specs.declared.bridge.Side.TheVariants.{First, Second}
use Rattle.clerks.specs.Clerks.{ClerksState, drawn, drawn_by, may_exchange, may_exchange_from, receipts_in, receipts_of, rest_in, rest_of, with_receipt}
use Rattle.run_outcome.specs.declared.fault.ClusterFault.{ClusterFault}
use Rattle.run_outcome.specs.declared.fault.ClusterFault.TheVariants as ends
use Rattle.members.specs.Members.{AreIdle, MemberState, RefusesPass}
use Rattle.members.specs.Losses.{LosesAtLeast}
use Rattle.cluster.specs.Drives.{EndsWait, EndsWork, LeavesTurns, HasMore, HasServed, HasServedOn, IsBack, IsBackBy, HasEndedOn, KeepsWork, LosesBy, Stops, TookTurns, WasLet, Worked, draws_by}
use Rattle.cluster.specs.Drives.{draws_if, next_plan, on, side_after, side_if, tickets_without_pass}

-- More of a list

pub HasMore-then : {A : Type 0} (m n : ℕ) (xs ys zs : List A) → HasMore m xs ys → HasMore n ys zs → HasMore (m + n) xs zs
HasMore-then m n xs ys zs a b = (a.0 ++ b.0, b.1 ∙ ap (λ l. l ++ b.0) a.1 ∙ append_assoc xs a.0 b.0, length-append a.0 b.0 ∙ (λ i. a.2 i + b.2 i))

-- A wait

-- some messages more were lost
pub KeepsWork-lost : (a b c : MemberState) → KeepsWork a b → c ≡ record b { lost = c.lost } → b.lost ≤ c.lost → KeepsWork a c
KeepsWork-lost a b c k same lost = record {
  client = ap (λ (m : MemberState). m.requester.id) same ∙ k.client;
  clerks = ap (λ (m : MemberState). m.clerks) same ∙ k.clerks;
  passes = ap (λ (m : MemberState). m.seat.passes) same ∙ k.passes;
  fault = ap (λ (m : MemberState). m.fault) same ∙ k.fault;
  lost = omega (arith, k.lost, lost);
}

-- One pass

-- one ticket of the second plan was drawn
second_drawn : (k : Option ClerkState) (r : Receipt) → 0 < rest_in k
    → HasMore 1 (receipts_in k) (receipts_in (option_map (λ x. with_receipt x r) k)) × (rest_in (option_map (λ x. with_receipt x r) k) + 1 ≡ rest_in k)
second_drawn None r some = absurd (omega (arith, some))
second_drawn (Some k) r some = ((r ∷ [], refl, refl), omega (arith, some))

-- one ticket of the plan in use was drawn, and none of the other
one_drawn : (side plan : Side) (k : ClerksState) (r : Receipt) → 0 < rest_of k side
    → HasMore (on side plan 1) (receipts_of k plan) (receipts_of (drawn_by side k r) plan) × (rest_of (drawn_by side k r) plan + on side plan 1 ≡ rest_of k plan)
one_drawn First First k r some = ((r ∷ [], refl, refl), omega (arith, some))
one_drawn Second Second k r some = second_drawn k.second r some
one_drawn side plan k r some = (([], sym (append-nil (receipts_of k plan)), refl), omega arith)

side-drawn_by : (side : Side) (k : ClerksState) (r : Receipt) → (drawn_by side k r).side ≡ k.side
side-drawn_by First k r = refl
side-drawn_by Second k r = refl

second-drawn_by : (side : Side) (k : ClerksState) (r : Receipt) → is_some (drawn_by side k r).second ≡ is_some k.second
second-drawn_by First k r = refl
second-drawn_by Second k r = still k.second
  where
    still : (x : Option ClerkState) → is_some (option_map (λ x. with_receipt x r) x) ≡ is_some x
    still None = refl
    still (Some x) = refl

-- a ticket was drawn, and then nothing
pub Worked-draw : (a b c : MemberState) (r : Receipt) → 0 < rest_of a.clerks a.clerks.side → b.requester.id ≡ a.requester.id → b.clerks ≡ drawn a.clerks r → b.seat ≡ a.seat
    → a.lost ≤ b.lost → KeepsWork b c
    → Worked (λ plan. on a.clerks.side plan 1) 0 a c × (c.clerks.side ≡ a.clerks.side)
Worked-draw a b c r some client clerks seat lost k =
    let side = a.clerks.side in
    let is : c.clerks ≡ drawn a.clerks r = k.clerks ∙ clerks in (
      record {
        client = k.client ∙ client;
        receipts = λ plan. subst (λ (x : ClerksState). HasMore (on side plan 1) (receipts_of a.clerks plan) (receipts_of x plan)) (sym is) (one_drawn side plan a.clerks r some).0;
        rest = λ plan. subst (λ (x : ClerksState). rest_of x plan + on side plan 1 ≡ rest_of a.clerks plan) (sym is) (one_drawn side plan a.clerks r some).1;
        passes = ([], k.passes ∙ ap (λ (s : SeatState). s.passes) seat ∙ sym (append-nil a.seat.passes), refl);
        second = ap (λ (x : ClerksState). is_some x.second) is ∙ second-drawn_by side a.clerks r;
        lost = omega (arith, lost, k.lost);
      },
      ap (λ (x : ClerksState). x.side) is ∙ side-drawn_by side a.clerks r,
    )

-- who drew and is inside is refused a pass only by what ends its work
pub Stops-refused_pass : (a b c : MemberState) (fault : ClusterFault) → 0 < rest_of a.clerks a.clerks.side → Worked (λ plan. on a.clerks.side plan 1) 0 a c × (c.clerks.side ≡ a.clerks.side)
    → is_inside b.requester.phase ≡ true → RefusesPass b fault → Stops a c fault
Stops-refused_pass a b c (ends.Board RegisterFull) some w inside r = (w.0, w.1, some, w.0.lost)
Stops-refused_pass a b c (ends.Board OutOfMemory) some w inside r = (w.0, w.1, some, w.0.lost)
Stops-refused_pass a b c ends.NotInside some w inside r = absurd (true≢false (sym inside ∙ r))
Stops-refused_pass a b c fault some w inside r = absurd r

-- why a wait ends

pub Stops-wait : (a b c : MemberState) (left starved : ℕ) (fault : ClusterFault) → 0 < rest_of a.clerks a.clerks.side
    → Worked (λ plan. on a.clerks.side plan 1) 0 a c × (c.clerks.side ≡ a.clerks.side) → b.requester.id ≡ a.requester.id → a.lost ≤ b.lost
    → EndsWait b.requester.id left starved fault → LosesAtLeast starved b.lost c.lost → Stops a c fault
Stops-wait a b c left starved (ends.TurnsSpent k) some w client lost h loses = (w.0, w.1, (h.0 ∙ client, some), w.0.lost)
Stops-wait a b c left starved ends.OutOfMemory some w client lost h loses =
    (w.0, w.1, some, (w.0.lost, omega (arith, lost, h, loses.0, loses.1)))
Stops-wait a b c left starved fault some w client lost h loses = absurd h

pub LeavesTurns-wait : (client left starved : ℕ) (fault : ClusterFault) → EndsWait client left starved fault → LeavesTurns left fault
LeavesTurns-wait client left starved (ends.TurnsSpent k) h = h.1
LeavesTurns-wait client left starved ends.OutOfMemory h = tt
LeavesTurns-wait client left starved fault h = absurd h

-- who drew, then passed by x and left
pub Worked-pass : (a b c : MemberState) (x : ℕ) → Worked (λ plan. on a.clerks.side plan 1) 0 a b × (b.clerks.side ≡ a.clerks.side)
    → c.requester.id ≡ b.requester.id → c.clerks ≡ b.clerks → c.seat.passes ≡ b.seat.passes ++ x ∷ [] → b.lost ≤ c.lost
    → Worked (λ plan. on a.clerks.side plan 1) 1 a c × (c.clerks.side ≡ a.clerks.side)
Worked-pass a b c x w client clerks passes lost =
    let side = a.clerks.side in (
      record {
        client = client ∙ w.0.client;
        receipts = λ plan. subst (λ (k : ClerksState). HasMore (on side plan 1) (receipts_of a.clerks plan) (receipts_of k plan)) (sym clerks) (w.0.receipts plan);
        rest = λ plan. subst (λ (k : ClerksState). rest_of k plan + on side plan 1 ≡ rest_of a.clerks plan) (sym clerks) (w.0.rest plan);
        passes = subst (λ l. HasMore 1 a.seat.passes l) (sym passes) (HasMore-then 0 1 a.seat.passes b.seat.passes (b.seat.passes ++ x ∷ []) w.0.passes (x ∷ [], refl, refl));
        second = ap (λ (k : ClerksState). is_some k.second) clerks ∙ w.0.second;
        lost = omega (arith, w.0.lost, lost);
      },
      ap (λ (k : ClerksState). k.side) clerks ∙ w.1,
    )

-- Several passes by the plan in use

pub Worked-as : (f g : Side → ℕ) → ((plan : Side) → f plan ≡ g plan) → (n : ℕ) (a b : MemberState) → Worked f n a b → Worked g n a b
Worked-as f g e n a b w = record {
  client = w.client;
  receipts = λ plan. subst (λ k. HasMore k (receipts_of a.clerks plan) (receipts_of b.clerks plan)) (e plan) (w.receipts plan);
  rest = λ plan. omega (arith, w.rest plan, e plan);
  passes = w.passes;
  second = w.second;
  lost = w.lost;
}

Worked-then : (f g : Side → ℕ) (n l : ℕ) (a b c : MemberState) → Worked f n a b → Worked g l b c → Worked (λ plan. f plan + g plan) (n + l) a c
Worked-then f g n l a b c first second = record {
  client = second.client ∙ first.client;
  receipts = λ plan. HasMore-then (f plan) (g plan) (receipts_of a.clerks plan) (receipts_of b.clerks plan) (receipts_of c.clerks plan) (first.receipts plan) (second.receipts plan);
  rest = λ plan. omega (arith, first.rest plan, second.rest plan);
  passes = HasMore-then n l a.seat.passes b.seat.passes c.seat.passes first.passes second.passes;
  second = second.second ∙ first.second;
  lost = omega (arith, first.lost, second.lost);
}

on-add : (side plan : Side) (m n : ℕ) → on side plan m + on side plan n ≡ on side plan (m + n)
on-add First First m n = refl
on-add Second Second m n = refl
on-add side plan m n = refl

on-same : (side : Side) (n : ℕ) → on side side n ≡ n
on-same First n = refl
on-same Second n = refl

-- some requests by the plan in use, and then more
on_then : (m k n l : ℕ) (a b c : MemberState) → Worked (λ plan. on a.clerks.side plan m) n a b → b.clerks.side ≡ a.clerks.side → Worked (λ plan. on b.clerks.side plan k) l b c
    → Worked (λ plan. on a.clerks.side plan (m + k)) (n + l) a c
on_then m k n l a b c first same second =
    Worked-as _ _ (λ plan. ap (λ (s : Side). on a.clerks.side plan m + on s plan k) same ∙ on-add a.clerks.side plan m k) (n + l) a c
    (Worked-then (λ plan. on a.clerks.side plan m) (λ plan. on b.clerks.side plan k) n l a b c first second)

-- one pass more
pub HasServedOn-next : (n : ℕ) (a b c : MemberState) → HasServedOn n a b → Worked (λ plan. on b.clerks.side plan 1) 1 b c × (c.clerks.side ≡ b.clerks.side)
    × (is_idle c.requester.phase ≡ true) → c.fault ≡ b.fault
    → HasServedOn (n + 1) a c
HasServedOn-next n a b c r one fault = record {
  worked = on_then n 1 n 1 a b c r.worked r.side one.0;
  side = one.1 ∙ r.side;
  idle = one.2;
  fault = fault ∙ r.fault;
}

-- what ends the work after m passes more
later_ends : (client tickets rest m passed : ℕ) (fault : ClusterFault) → rest + m ≡ tickets → EndsWork client rest passed fault → EndsWork client tickets (m + passed) fault
later_ends client tickets rest m passed (ends.Client Busy) more h = h
later_ends client tickets rest m passed (ends.Deal QuotaSpent) more h = omega (arith, more, h)
later_ends client tickets rest m passed (ends.Deal NoRoom) more h = omega (arith, more, h)
later_ends client tickets rest m passed (ends.Board RegisterFull) more h = omega (arith, more, h)
later_ends client tickets rest m passed (ends.Board OutOfMemory) more h = omega (arith, more, h)
later_ends client tickets rest m passed (ends.TurnsSpent k) more h = (h.0, omega (arith, more, h.1))
later_ends client tickets rest m passed ends.OutOfMemory more h = omega (arith, more, h)
later_ends client tickets rest m passed fault more h = h

-- who lost messages may have lost more before and after
LosesBy-within : (fault : ClusterFault) (first before after last : ℕ) → first ≤ before → LosesBy fault before after → after ≤ last → LosesBy fault first last
LosesBy-within ends.OutOfMemory first before after last early h late = (omega (arith, early, h.0, late), omega (arith, early, h.0, h.1, late))
LosesBy-within (ends.Client Busy) first before after last early h late = omega (arith, early, h, late)
LosesBy-within fault first before after last early h late = omega (arith, early, h, late)

-- after n passes the next was not made
pub Worked-stopped : (n : ℕ) (a b c d : MemberState) (fault : ClusterFault) → HasServedOn n a b → Stops b c fault → KeepsWork c d
    → Worked (λ plan. on a.clerks.side plan (n + tickets_without_pass fault)) n a (record d { fault = Some fault })
Worked-stopped n a b c d fault r stops kept =
    subst (λ k. Worked (λ plan. on a.clerks.side plan (n + tickets_without_pass fault)) k a (record d { fault = Some fault })) (add-zero n)
    (on_then n (tickets_without_pass fault) n 0 a b (record d { fault = Some fault }) r.worked r.side last)
  where
    last : Worked (λ plan. on b.clerks.side plan (tickets_without_pass fault)) 0 b (record d { fault = Some fault })
    last = record {
      client = kept.client ∙ stops.0.client;
      receipts = λ plan. subst (λ (x : ClerksState). HasMore (on b.clerks.side plan (tickets_without_pass fault)) (receipts_of b.clerks plan) (receipts_of x plan)) (sym kept.clerks) (stops.0.receipts plan);
      rest = λ plan. subst (λ (x : ClerksState). rest_of x plan + on b.clerks.side plan (tickets_without_pass fault) ≡ rest_of b.clerks plan) (sym kept.clerks) (stops.0.rest plan);
      passes = subst (λ l. HasMore 0 b.seat.passes l) (sym kept.passes) stops.0.passes;
      second = ap (λ (x : ClerksState). is_some x.second) kept.clerks ∙ stops.0.second;
      lost = omega (arith, stops.0.lost, kept.lost);
    }

pub HasEndedOn-stopped : (passes n : ℕ) (a b c d e : MemberState) (fault : ClusterFault) → HasServedOn n a b → n < passes → Stops b c fault → KeepsWork c d
    → is_idle d.requester.phase ≡ true → e ≡ record d { fault = Some fault }
    → HasEndedOn passes fault a e
HasEndedOn-stopped passes n a b c d e fault r less stops kept idle heard =
    subst (HasEndedOn passes fault a) (sym heard) (
    record {
      passed = n;
      fewer = less;
      worked = Worked-stopped n a b c d fault r stops kept;
      side = ap (λ (x : ClerksState). x.side) kept.clerks ∙ stops.1 ∙ r.side;
      idle = idle;
      keeps = refl;
      ends = subst (λ k. EndsWork d.requester.id (rest_of a.clerks a.clerks.side) k fault) (add-zero n)
          (later_ends d.requester.id (rest_of a.clerks a.clerks.side) (rest_of b.clerks a.clerks.side) n 0 fault left
          (subst (λ k. EndsWork k (rest_of b.clerks a.clerks.side) 0 fault) (sym (kept.client ∙ stops.0.client))
          (subst (λ (s : Side). EndsWork b.requester.id (rest_of b.clerks s) 0 fault) r.side stops.2)));
      lost = LosesBy-within fault a.lost b.lost c.lost d.lost r.worked.lost stops.3 kept.lost;
    }
    )
  where
    left : rest_of b.clerks a.clerks.side + n ≡ rest_of a.clerks a.clerks.side
    left = ap (λ k. rest_of b.clerks a.clerks.side + k) (sym (on-same a.clerks.side n)) ∙ r.worked.rest a.clerks.side

-- Passes by both plans

abbrev is_first : Side → Bool
is_first First = true
is_first Second = false

may_exchange-first : (side : Side) (second : Option ClerkState) → may_exchange_from side second ≡ true → side ≡ First
may_exchange-first First second e = refl
may_exchange-first Second second e = absurd (true≢false (sym e))

may_exchange-is : (side : Side) (second : Option ClerkState) → may_exchange_from side second ≡ (is_first side && is_some second)
may_exchange-is First None = refl
may_exchange-is side second = refl

may_exchange-same : (k later : ClerksState) → later.side ≡ k.side → is_some later.second ≡ is_some k.second → may_exchange later ≡ may_exchange k
may_exchange-same k later side second =
    may_exchange-is later.side later.second ∙ (λ i. is_first (side i) && second i) ∙ sym (may_exchange-is k.side k.second)

-- requests before the exchange
draws_if-before : (b : Bool) (side : Side) → (b ≡ true → side ≡ First) → (half n : ℕ) (plan : Side) → n ≤ half → on side plan n ≡ draws_if b side half n plan
draws_if-before false side first half n plan early = refl
draws_if-before true First first half n First early = sym (min-eq_right early)
draws_if-before true First first half n Second early = omega (arith, early)
draws_if-before true Second first half n plan early = absurd (true≢false (sym (ap is_first (first refl))))

early_draws : (k : ClerksState) (half n : ℕ) (plan : Side) → n ≤ half → on k.side plan n ≡ draws_by k half n plan
early_draws k half n plan early = draws_if-before (may_exchange k) k.side (may_exchange-first k.side k.second) half n plan early

-- requests before and after the exchange
draws_if-both : (b : Bool) (side : Side) → (b ≡ true → side ≡ First) → (half n : ℕ) (plan : Side) → on side plan half + on (cond b Second side) plan n ≡ draws_if b side half (half + n) plan
draws_if-both false side first half n plan = on-add side plan half n
draws_if-both true First first half n First = add-zero half ∙ sym (min-eq_left (le-add_right half n))
draws_if-both true First first half n Second = omega arith
draws_if-both true Second first half n plan = absurd (true≢false (sym (ap is_first (first refl))))

side_if-before : (b : Bool) (side : Side) (half n : ℕ) → n < half → side_if b side half n ≡ side
side_if-before false side half n early = refl
side_if-before true side half n early = ap (λ b. cond {A = Side} b Second side) (not_le half n early)
  where
    not_le : (half n : ℕ) → n < half → nat_le half n ≡ false
    not_le half n early = grind (arith, nat_tests)

side_if-later : (b : Bool) (side : Side) (half n : ℕ) → side_if b side half (half + n) ≡ cond b Second side
side_if-later false side half n = refl
side_if-later true side half n = ap (λ b. cond {A = Side} b Second side) (le half n)
  where
    le : (half n : ℕ) → nat_le half (half + n) ≡ true
    le half n = grind (arith, nat_tests)

few_wasted : (fault : ClusterFault) → tickets_without_pass fault ≤ 1
few_wasted (ends.Client e) = omega arith
few_wasted fault = omega arith

-- the work ended before the exchange
pub IsBack-early : (passes : ℕ) (a b : MemberState) (fault : ClusterFault) → HasEndedOn (passes / 2) fault a b → IsBack passes a b
IsBack-early passes a b fault r =
    let half = passes / 2 in
    let k = a.clerks in
    subst (λ f. IsBackBy passes f a b) (sym r.keeps) (record {
      passed = r.passed;
      fewer = omega (arith, r.fewer);
      worked = Worked-as _ _ (λ plan. early_draws k half (r.passed + tickets_without_pass fault) plan (omega (arith, r.fewer, few_wasted fault))) r.passed a b r.worked;
      side = r.side ∙ sym (side_if-before (may_exchange k) k.side half r.passed r.fewer);
      idle = r.idle;
      ends = subst (λ (s : Side). EndsWork b.requester.id (rest_of k s) (draws_by k half r.passed s) fault) (sym r.side)
          (subst (λ n. EndsWork b.requester.id (rest_of k k.side) n fault) (sym (on-same k.side r.passed) ∙ early_draws k half r.passed k.side (omega (arith, r.fewer))) r.ends);
      lost = r.lost;
    })

receipts_of-next_plan : (k : ClerksState) (plan : Side) → receipts_of (next_plan k) plan ≡ receipts_of k plan
receipts_of-next_plan k First = refl
receipts_of-next_plan k Second = refl

rest_of-next_plan : (k : ClerksState) (plan : Side) → rest_of (next_plan k) plan ≡ rest_of k plan
rest_of-next_plan k First = refl
rest_of-next_plan k Second = refl

-- the member after it exchanged the plan, if there is another one
abbrev exchanged_member : MemberState → MemberState
exchanged_member b = record b { clerks = next_plan b.clerks }

Worked-exchanged : (f : Side → ℕ) (n : ℕ) (a b : MemberState) → Worked f n a b → Worked f n a (exchanged_member b)
Worked-exchanged f n a b w = record {
  client = w.client;
  receipts = λ plan. subst (λ l. HasMore (f plan) (receipts_of a.clerks plan) l) (sym (receipts_of-next_plan b.clerks plan)) (w.receipts plan);
  rest = λ plan. omega (arith, rest_of-next_plan b.clerks plan, w.rest plan);
  passes = w.passes;
  second = w.second;
  lost = w.lost;
}

module _ (half : ℕ) (a b : MemberState) (r : HasServedOn half a b) where
  abbrev k : ClerksState
  k = a.clerks

  abbrev c : MemberState
  c = exchanged_member b

  side : c.clerks.side ≡ cond (may_exchange k) Second k.side
  side = λ i. cond (may_exchange-same k b.clerks r.side r.worked.second i) Second (r.side i)

  so_far : Worked (λ plan. on k.side plan half) half a c
  so_far = Worked-exchanged (λ plan. on k.side plan half) half a b r.worked

  both : (n : ℕ) (plan : Side) → on k.side plan half + on c.clerks.side plan n ≡ draws_by k half (half + n) plan
  both n plan = ap (λ (s : Side). on k.side plan half + on s plan n) side ∙ draws_if-both (may_exchange k) k.side (may_exchange-first k.side k.second) half n plan

  pub Worked-both : (n passed : ℕ) (d : MemberState) → Worked (λ plan. on c.clerks.side plan n) passed c d → Worked (draws_by k half (half + n)) (half + passed) a d
  Worked-both n passed d w = Worked-as _ _ (both n) (half + passed) a d (Worked-then _ _ half passed a c d so_far w)

  pub side-both : (n : ℕ) → c.clerks.side ≡ side_after k half (half + n)
  side-both n = side ∙ sym (side_if-later (may_exchange k) k.side half n)

  pub ends-both : (client passed : ℕ) (fault : ClusterFault) → EndsWork client (rest_of c.clerks c.clerks.side) passed fault
      → EndsWork client (rest_of k c.clerks.side) (draws_by k half (half + passed) c.clerks.side) fault
  ends-both client passed fault h =
      subst (λ n. EndsWork client (rest_of k c.clerks.side) n fault)
      (ap (λ n. on k.side c.clerks.side half + n) (sym (on-same c.clerks.side passed)) ∙ both passed c.clerks.side)
      (later_ends client (rest_of k c.clerks.side) (rest_of c.clerks c.clerks.side) (on k.side c.clerks.side half) passed fault (so_far.rest c.clerks.side) h)

-- all passes were made
pub HasServed-both : (passes : ℕ) (a b d : MemberState) → HasServedOn (passes / 2) a b → HasServedOn (passes - passes / 2) (exchanged_member b) d → HasServed passes a d
HasServed-both passes a b d r s =
    let half = passes / 2 in
    let rest = passes - passes / 2 in
    let whole : half + rest ≡ passes = omega arith in
    record {
      worked = subst (λ n. Worked (draws_by a.clerks half n) n a d) whole (Worked-both half a b r rest rest d s.worked);
      side = subst (λ n. d.clerks.side ≡ side_after a.clerks half n) whole (s.side ∙ side-both half a b r rest);
      idle = s.idle;
      fault = s.fault;
    }

pub IsBack-both : (passes : ℕ) (a b d : MemberState) → HasServedOn (passes / 2) a b → HasServedOn (passes - passes / 2) (exchanged_member b) d → IsBack passes a d
IsBack-both passes a b d r s = subst (λ f. IsBackBy passes f a d) (sym s.fault) (HasServed-both passes a b d r s)

-- the work ended after the exchange
pub IsBack-late : (passes : ℕ) (a b d : MemberState) (fault : ClusterFault) → HasServedOn (passes / 2) a b → HasEndedOn (passes - passes / 2) fault (exchanged_member b) d → IsBack passes a d
IsBack-late passes a b d fault r s =
    let half = passes / 2 in
    let all : half + (s.passed + tickets_without_pass fault) ≡ half + s.passed + tickets_without_pass fault = omega arith in
    subst (λ f. IsBackBy passes f a d) (sym s.keeps) (record {
      passed = half + s.passed;
      fewer = omega (arith, s.fewer);
      worked = subst (λ n. Worked (draws_by a.clerks half n) (half + s.passed) a d) all (Worked-both half a b r (s.passed + tickets_without_pass fault) s.passed d s.worked);
      side = s.side ∙ side-both half a b r s.passed;
      idle = s.idle;
      ends = subst (λ (x : Side). EndsWork d.requester.id (rest_of a.clerks x) (draws_by a.clerks half (half + s.passed) x) fault) (sym s.side)
          (ends-both half a b r d.requester.id s.passed fault s.ends);
      lost = LosesBy-within fault a.lost b.lost d.lost d.lost r.worked.lost s.lost (omega arith);
    })

-- the work came to its end after the exchange
pub IsBack-then : (passes : ℕ) (a b c d : MemberState) (result : Result (Unit {0}) ClusterFault) → HasServedOn (passes / 2) a b → c ≡ exchanged_member b
    → IfOk result (λ _. HasServedOn (passes - passes / 2) c d) → IfErr result (λ fault. HasEndedOn (passes - passes / 2) fault c d) → IsBack passes a d
IsBack-then passes a b c d (Err fault) r is served ended = IsBack-late passes a b d fault r (subst (λ (m : MemberState). HasEndedOn (passes - passes / 2) fault m d) is ended)
IsBack-then passes a b c d (Ok tt) r is served ended = IsBack-both passes a b d r (subst (λ (m : MemberState). HasServedOn (passes - passes / 2) m d) is served)

-- who was let pass each time
pub WasLet-Worked : (lets : ℕ → Bool) (drawn : Side → ℕ) (n : ℕ) (a b : MemberState) → Worked drawn n a b → (0 < n → lets a.requester.id ≡ true) → WasLet lets a b
WasLet-Worked lets drawn n a b worked h longer =
    let more = worked.passes in
    subst (λ k. lets k ≡ true) (sym worked.client) (h (omega (arith, longer, ap length more.1, length-append a.seat.passes more.0, more.2)))

-- who had two turns for each pass
pub TookTurns-Worked : (turns : ℕ) (drawn : Side → ℕ) (n : ℕ) (a b : MemberState) → Worked drawn n a b → 2 * n ≤ turns → TookTurns turns a b
TookTurns-Worked turns drawn n a b worked h =
    let more = worked.passes in
    omega (arith, h, ap length more.1, length-append a.seat.passes more.0, more.2)

-- who was let pass before and after the exchange
pub WasLet-then : (lets : ℕ → Bool) (a b c d : MemberState) → WasLet lets a b → c ≡ exchanged_member b → d.requester.id ≡ c.requester.id → WasLet lets c d → WasLet lets a d
WasLet-then lets a b c d first is client second longer =
    elim (cases_lt (length a.seat.passes) (length b.seat.passes)) [
      | inl more ↦ subst (λ k. lets k ≡ true) (sym (client ∙ ap (λ (m : MemberState). m.requester.id) is)) (first more)
      | inr still ↦ second (omega (arith, still, longer, ap (λ (m : MemberState). length m.seat.passes) is))
    ]

pub TookTurns-then : (turns left n : ℕ) (a b c d : MemberState) → HasServedOn n a b → c ≡ exchanged_member b → left + 2 * n ≤ turns → TookTurns left c d → TookTurns turns a d
TookTurns-then turns left n a b c d r is h took =
    let more = r.worked.passes in
    omega (arith, h, took, ap length more.1, length-append a.seat.passes more.0, more.2, ap (λ (m : MemberState). length m.seat.passes) is)

-- All members

pub AllZip-from : {X : Type 0} (R : X → X → Type 0) (xs ys : List X) → length ys ≡ length xs → ((i : ℕ) (d : X) → i < length xs → R (slice_index_or xs i d) (slice_index_or ys i d)) → AllZip R xs ys
AllZip-from R [] [] e each = tt
AllZip-from R (x ∷ xs) (y ∷ ys) e each = (each 0 x (omega arith), AllZip-from R xs ys (omega (arith, e)) (λ i d below. each (suc i) d (omega (arith, below))))
AllZip-from R xs ys e each = absurd (omega (arith, e))

-- members without a fault did all their work
pub AllZip-HasServed : (passes : ℕ) (xs ys : List MemberState) → AllZip (IsBack passes) xs ys → All (λ m. m.fault ≡ None) ys → AllZip (HasServed passes) xs ys
AllZip-HasServed passes [] [] back done = tt
AllZip-HasServed passes (x ∷ xs) (y ∷ ys) back done =
    (subst (λ f. IsBackBy passes f x y) (done 0 y (omega arith)) back.0, AllZip-HasServed passes xs ys back.1 (λ k d below. done (suc k) d (omega (arith, below))))
AllZip-HasServed passes xs ys back done = absurd back

back_idle : (passes : ℕ) (fault : Option ClusterFault) (x y : MemberState) → IsBackBy passes fault x y → is_idle y.requester.phase ≡ true
back_idle passes None x y back = back.idle
back_idle passes (Some fault) x y back = back.idle

pub AreIdle-IsBack : (passes : ℕ) (xs ys : List MemberState) → AllZip (IsBack passes) xs ys → AreIdle ys
AreIdle-IsBack passes [] [] back k d below = absurd (omega (arith, below))
AreIdle-IsBack passes (x ∷ xs) (y ∷ ys) back zero d below = back_idle passes y.fault x y back.0
AreIdle-IsBack passes (x ∷ xs) (y ∷ ys) back (suc k) d below = AreIdle-IsBack passes xs ys back.1 k d (omega (arith, below))
AreIdle-IsBack passes xs ys back k d below = absurd back
