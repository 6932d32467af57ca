-- What a run of driven members comes to.
use Rattle.std.proofs.Common.{◌≡◌, ℕ, zero, suc, ◌+◌, ◌*◌, ◌/◌, ◌<◌, Option, None, ◌≤◌, ◌++◌, ◌==◌, List, [], ◌∷◌, Bool, true, Some, IsPermutation, map, flat_map, length, sum_by}
use Rattle.std.proofs.Common.{count_by, get_or, refl, sym, ap, ◌∙◌, subst, cond, arith}
use Rattle.std.specs.List.{All, AllZip, range_with_len}
use Rattle.std.proofs.lemmas.List.{length-map}
use Rattle.std.proofs.lemmas.List.FromFn.{get_or-map-range_with_len, get_or-range_with_len, length-range_with_len}
use Rattle.std.proofs.lemmas.Slice.Zip.{AllZip-long}
use Rattle.std.proofs.lemmas.List.Elements.{All-map, AllZip-get_or}
use Rattle.std.proofs.lemmas.List.Sorted.{sum_by-IsPermutation}
use Rattle.std.proofs.lemmas.List.Sums.{sum_by-append, sum_by-cons}
use native.Mathlib.Nat.{add-mul, zero-mul}
use Rattle.numbers.proofs.CountLemmas.{times-range}
use Rattle.requester.specs.Words.{is_idle}
use Rattle.quorum_set.specs.declared.bridge.Side.{Side}
use Rattle.quorum_set.specs.declared.bridge.Side.TheVariants.{First, Second}
use Rattle.certificate.specs.Certificates.{IsCertificate}
use Rattle.dealer.specs.Offices.{OfficeName}
use Rattle.dealer.proofs.AccountLemmas.{ticket_in_range}
use Rattle.clerks.specs.Clerks.{ClerksState, IsDealt, fresh_clerks, receipts_of, rest_of}
use Rattle.members.specs.Clusters.{ClusterState}
use Rattle.cluster.specs.Drives.{HasMore, HasServed, HasEnded, IsBack, IsBackBy, IsLeastFault, EndsWork, TookTurns, WasLet, draws_by, side_after}
use Rattle.members.specs.Members.{AreIdle, MemberState, fresh_member}
use Rattle.members.specs.Records.{Draw, Pass, IsDraw, IsRecordOf, draws_of, idle_count, passes_of}
use Rattle.dealer.specs.declared.receipt.Receipt.{Receipt}
use Rattle.run_outcome.specs.declared.record.RunRecord.{RunRecord}
use Rattle.run_outcome.specs.declared.fault.ClusterFault.{ClusterFault}
use Rattle.run_outcome.specs.declared.fault.ClusterFault.TheVariants as ends
use Rattle.board.specs.declared.fault.BoardFault.TheVariants as board
use Rattle.dealer.specs.declared.fault.DealFault.TheVariants as deal
use Rattle.requester.specs.declared.fault.ClientFault.TheVariants as client
use Rattle.members.proofs.RecordLemmas.{length-draws, register-sum_by, sum_by-evenly}
use Rattle.qlock_cli.specs.Runs.{AreLet, EndsRun, IsRun, run_refusal}
use Rattle.qlock_cli.proofs.SoundRecords.{IsSoundRecord-first}

-- a member of a cluster of one plan, which drew and passed nothing yet
record IsFresh (c : ClusterState) (m : MemberState) : Type 0 where
  pub client : m.requester.id < c.board.clients
  pub clerks : m.clerks ≡ fresh_clerks (c.office, None) c.quota
  pub passes : m.seat.passes ≡ []

-- Lists

sum_by_same : {A : Type 0} (f : A → ℕ) (n : ℕ) (xs : List A) → All (λ x. f x ≡ n) xs → sum_by f xs ≡ length xs * n
sum_by_same f n [] all = sym (zero-mul n)
sum_by_same f n (x ∷ xs) all =
    let rest = sum_by_same f n xs (λ k d lt. all (suc k) d (omega (arith, lt))) in
    let more : (1 + length xs) * n ≡ 1 * n + length xs * n = add-mul 1 (length xs) n in
    let one : suc (length xs) * n ≡ (1 + length xs) * n = ap (λ (k : ℕ). k * n) (omega arith) in
    omega (arith, all 0 x (omega arith), rest, more, one, sum_by-cons f x xs)

zip_right : {A B : Type 0} (P : A → Type 0) (R : A → B → Type 0) (Q : B → Type 0) → ((x : A) (y : B) → P x → R x y → Q y) → (xs : List A) (ys : List B) → All P xs → AllZip R xs ys → All Q ys
zip_right P R Q each [] [] all zip k d lt = absurd (omega (arith, lt))
zip_right P R Q each [] (y ∷ ys) all zip k d lt = absurd zip
zip_right P R Q each (x ∷ xs) [] all zip k d lt = absurd zip
zip_right P R Q each (x ∷ xs) (y ∷ ys) all zip zero d lt = each x y (all 0 x (omega arith)) zip.0
zip_right P R Q each (x ∷ xs) (y ∷ ys) all zip (suc k) d lt = zip_right P R Q each xs ys (λ j e below. all (suc j) e (omega (arith, below))) zip.1 k d (omega (arith, lt))

sum_by-flat_map : {A B : Type 0} (f : B → ℕ) (g : A → List B) (xs : List A) → sum_by f (flat_map g xs) ≡ sum_by (λ x. sum_by f (g x)) xs
sum_by-flat_map f g [] = refl
sum_by-flat_map f g (x ∷ xs) = sum_by-append f (g x) (flat_map g xs) ∙ ap (λ n. sum_by f (g x) + n) (sum_by-flat_map f g xs) ∙ sym (sum_by-cons (λ y. sum_by f (g y)) x xs)

-- the sum of what depends on the number alone
sum_by_number : {A : Type 0} (number : A → ℕ) (f : A → ℕ) (v : ℕ → ℕ) (xs : List A) → All (λ x. f x ≡ v (number x)) xs → sum_by f xs ≡ sum_by v (map number xs)
sum_by_number number f v [] all = refl
sum_by_number number f v (x ∷ xs) all =
    let rest = sum_by_number number f v xs (λ k d lt. all (suc k) d (omega (arith, lt))) in
    omega (arith, all 0 x (omega arith), rest, sum_by-cons f x xs, sum_by-cons v (number x) (map number xs))

-- the sum of multiples
sum_by_times : (k : ℕ) (f : ℕ → ℕ) (xs : List ℕ) → sum_by (λ x. k * f x) xs ≡ k * sum_by f xs
sum_by_times k f [] = omega arith
sum_by_times k f (x ∷ xs) = rw (sum_by-cons (λ y. k * f y) x xs, sum_by-cons f x xs) (omega (arith, sum_by_times k f xs))

-- Fresh members that were driven

are_fresh : (c : ClusterState) (members : List MemberState) → c.second ≡ None → members ≡ map (fresh_member c) (range_with_len 0 c.board.clients) → All (IsFresh c) members
are_fresh c members alone e = subst (All (IsFresh c)) (sym e) (All-map (IsFresh c) (fresh_member c) (range_with_len 0 c.board.clients) (λ k d lt. record {
  client = below c.board.clients k d lt;
  clerks = ap (λ (s : Option OfficeName). fresh_clerks (c.office, s) c.quota) alone;
  passes = refl;
}))
  where
    below : (n k d : ℕ) → k < length (range_with_len 0 n) → get_or (range_with_len 0 n) k d < n
    below n k d lt =
        let less : k < n = omega (arith, lt, length-range_with_len 0 n) in
        omega (arith, get_or-range_with_len 0 n k d less, less)

more_than_none : {A : Type 0} (n : ℕ) (xs ys : List A) → xs ≡ [] → HasMore n xs ys → length ys ≡ n
more_than_none n xs ys none_before more = ap length (more.1 ∙ ap (λ l. l ++ more.0) none_before) ∙ more.2

as_many : (c : ClusterState) (before after : List MemberState) (R : MemberState → MemberState → Type 0) → before ≡ map (fresh_member c) (range_with_len 0 c.board.clients)
    → AllZip R before after → length after ≡ c.board.clients
as_many c before after R e zip = AllZip-long R before after zip ∙ ap length e ∙ length-map (range_with_len 0 c.board.clients) (fresh_member c) ∙ length-range_with_len 0 c.board.clients

-- each made `passes` passes
pub All-passed : (c : ClusterState) (passes : ℕ) (before after : List MemberState) → c.second ≡ None → before ≡ map (fresh_member c) (range_with_len 0 c.board.clients)
    → AllZip (HasServed passes) before after
    → All (λ m. length m.seat.passes ≡ passes) after
All-passed c passes before after alone e served =
    zip_right (IsFresh c) (HasServed passes) (λ m. length m.seat.passes ≡ passes) (λ x y fresh s. more_than_none passes x.seat.passes y.seat.passes fresh.passes s.worked.passes) before after
    (are_fresh c before alone e) served

-- each drew `passes` tickets
pub All-drew : (c : ClusterState) (passes : ℕ) (before after : List MemberState) → c.second ≡ None → before ≡ map (fresh_member c) (range_with_len 0 c.board.clients)
    → AllZip (HasServed passes) before after
    → All (λ m. length (receipts_of m.clerks First) ≡ passes) after
All-drew c passes before after alone e served =
    zip_right (IsFresh c) (HasServed passes) (λ m. length (receipts_of m.clerks First) ≡ passes)
    (λ x y fresh s. more_than_none passes (receipts_of x.clerks First) (receipts_of y.clerks First) (ap (λ (k : ClerksState). receipts_of k First) fresh.clerks)
    (subst (λ (k : ClerksState). HasMore (draws_by k (passes / 2) passes First) (receipts_of x.clerks First) (receipts_of y.clerks First)) fresh.clerks (s.worked.receipts First)))
    before after (are_fresh c before alone e) served

-- what became of the client of this number
AllZip-at_client : (c : ClusterState) (R : MemberState → MemberState → Type 0) (before after : List MemberState) → before ≡ map (fresh_member c) (range_with_len 0 c.board.clients)
    → AllZip R before after
    → (k : ℕ) → k < c.board.clients → R (fresh_member c k) (get_or after k (fresh_member c k))
AllZip-at_client c R before after e zip k less =
    let d = fresh_member c k in
    let there : k < length before = omega (arith, less, ap length e, length-map (range_with_len 0 c.board.clients) (fresh_member c), length-range_with_len 0 c.board.clients) in
    let first : get_or before k d ≡ d = ap (λ (l : List MemberState). get_or l k d) e ∙ get_or-map-range_with_len (fresh_member c) 0 c.board.clients k k d less (omega arith) in
    subst (λ (x : MemberState). R x (get_or after k d)) first (AllZip-get_or R before after k d d zip there)

-- each passed, so each was let pass
pub AreLet-served : (c : ClusterState) (lets : ℕ → Bool) (passes : ℕ) (before after : List MemberState) → before ≡ map (fresh_member c) (range_with_len 0 c.board.clients)
    → AllZip (HasServed passes) before after → AllZip (WasLet lets) before after
    → 0 < passes → AreLet lets c.board.clients
AreLet-served c lets passes before after e served zip some k less =
    let s = AllZip-at_client c (HasServed passes) before after e served k less in
    subst (λ n. lets n ≡ true) s.worked.client (AllZip-at_client c (WasLet lets) before after e zip k less (omega (arith, some, more_than_none passes [] _ refl s.worked.passes)))

-- and each had two turns for each pass
pub turns-served : (c : ClusterState) (turns passes : ℕ) (before after : List MemberState) → before ≡ map (fresh_member c) (range_with_len 0 c.board.clients)
    → AllZip (HasServed passes) before after → AllZip (TookTurns turns) before after
    → 1 ≤ c.board.clients → 2 * passes ≤ turns
turns-served c turns passes before after e served zip some =
    let s = AllZip-at_client c (HasServed passes) before after e served 0 some in
    omega (arith, AllZip-at_client c (TookTurns turns) before after e zip 0 some, more_than_none passes [] _ refl s.worked.passes)

-- no member is missing
pub all_ready : (c : ClusterState) (passes missing : ℕ) (before after : List MemberState) → before ≡ map (fresh_member c) (range_with_len 0 c.board.clients) → AllZip (HasServed passes) before after
    → AreIdle after → 0 < missing → idle_count after + missing ≡ c.board.clients → ⊥
all_ready c passes missing before after e served idle some out =
    let many = as_many c before after (HasServed passes) e served in
    let counted : idle_count after ≡ length after * 1 = sum_by_same (λ (m : MemberState). cond (is_idle m.requester.phase) 1 0) 1 after (λ k d lt. ap (λ b. cond {A = ℕ} b 1 0) (idle k d lt)) in
    omega (arith, many, counted, some, out)

-- Why a run ends

-- a client with a ticket for each pass
ends_by : (client clients tickets passed passes : ℕ) (fault : ClusterFault) → client < clients → passed < passes → passes ≤ tickets → EndsWork client tickets passed fault
    → EndsRun clients (run_refusal fault)
ends_by id clients tickets passed passes (ends.Client client.StampsSpent) less fewer quota h = tt
ends_by id clients tickets passed passes (ends.Deal deal.QuotaSpent) less fewer quota h = omega (arith, fewer, quota, h)
ends_by id clients tickets passed passes (ends.Deal deal.OutOfMemory) less fewer quota h = tt
ends_by id clients tickets passed passes (ends.Board board.RegisterFull) less fewer quota h = tt
ends_by id clients tickets passed passes (ends.Board board.OutOfMemory) less fewer quota h = tt
ends_by id clients tickets passed passes (ends.TurnsSpent c) less fewer quota h = omega (arith, less, h.0)
ends_by id clients tickets passed passes ends.OutOfMemory less fewer quota h = tt
ends_by id clients tickets passed passes fault less fewer quota h = absurd h

abbrev EndsWell : ℕ → MemberState → Type 0
EndsWell clients m = (fault : ClusterFault) → m.fault ≡ Some fault → EndsRun clients (run_refusal fault)

pub EndsRun-driven : (c : ClusterState) (passes : ℕ) (before after : List MemberState) (fault : ClusterFault) → c.second ≡ None → before ≡ map (fresh_member c) (range_with_len 0 c.board.clients)
    → passes ≤ c.quota → AllZip (IsBack passes) before after → IsLeastFault after fault → EndsRun c.board.clients (run_refusal fault)
EndsRun-driven c passes before after fault alone e quota back least =
    let r = least.1 in
    let found = each r.among.0 r.member r.among.1 in
    subst (EndsWell c.board.clients) r.among.2 found fault r.ended
  where
    one : (x y : MemberState) → IsFresh c x → IsBack passes x y → EndsWell c.board.clients y
    one x y fresh h fault heard =
        let ended : HasEnded passes fault x y = subst (λ f. IsBackBy passes f x y) heard h in
        let side : y.clerks.side ≡ First = ended.side ∙ ap (λ (k : ClerksState). side_after k (passes / 2) ended.passed) fresh.clerks in
        let by : EndsWork y.requester.id c.quota ended.passed fault =
        subst (λ (k : ClerksState). EndsWork y.requester.id (rest_of k First) (draws_by k (passes / 2) ended.passed First) fault) fresh.clerks
        (subst (λ (s : Side). EndsWork y.requester.id (rest_of x.clerks s) (draws_by x.clerks (passes / 2) ended.passed s) fault) side ended.ends) in
        ends_by y.requester.id c.board.clients c.quota ended.passed passes fault (omega (arith, ended.worked.client, fresh.client)) ended.fewer quota by

    each : All (EndsWell c.board.clients) after
    each = zip_right (IsFresh c) (IsBack passes) (EndsWell c.board.clients) one before after (are_fresh c before alone e) back

-- What each client did

-- 1 where the client is this one
abbrev one_of : ℕ → ℕ → ℕ
one_of c k = cond (k == c) 1 0

-- how often a client is in a list in which each member's part names it so many times and nobody else
times_of_each : {Y : Type 0} (who : Y → ℕ) (did : MemberState → List Y) (clients times : ℕ) (members : List MemberState) (ys : List Y)
    → IsPermutation (flat_map did members) ys → map (λ m. m.requester.id) members ≡ range_with_len 0 clients
    → All (λ m. length (did m) ≡ times) members → ((m : MemberState) → All (λ y. who y ≡ m.requester.id) (did m))
    → (c : ℕ) → c < clients → count_by (λ y. who y == c) ys ≡ times
times_of_each {Y} who did clients times members ys same numbers long named c less =
    sum_by-IsPermutation (λ y. one_of c (who y)) (flat_map did members) ys same
    ∙ sum_by-flat_map (λ y. one_of c (who y)) did members
    ∙ sum_by_number (λ m. m.requester.id) (λ m. sum_by (λ y. one_of c (who y)) (did m)) (λ k. times * one_of c k) members part
    ∙ ap (sum_by (λ k. times * one_of c k)) numbers
    ∙ sum_by_times times (one_of c) (range_with_len 0 clients)
    ∙ ap (λ n. times * n) (times-range clients c less)
    ∙ omega arith
  where
    part : All (λ m. sum_by (λ y. one_of c (who y)) (did m) ≡ times * one_of c m.requester.id) members
    part k m lt =
        let one = get_or members k m in
        sum_by_same (λ y. one_of c (who y)) (one_of c one.requester.id) (did one) (λ j y below. ap (one_of c) (named one j y below))
        ∙ ap (λ n. n * one_of c one.requester.id) (long k m lt)

numbers_of_fresh : (c : ClusterState) (ks : List ℕ) → map (λ m. m.requester.id) (map (fresh_member c) ks) ≡ ks
numbers_of_fresh c [] = refl
numbers_of_fresh c (k ∷ ks) = ap (λ l. k ∷ l) (numbers_of_fresh c ks)

-- a drive keeps who the members are
same_numbers : (passes : ℕ) (before after : List MemberState) → AllZip (HasServed passes) before after → map (λ m. m.requester.id) after ≡ map (λ m. m.requester.id) before
same_numbers passes [] [] zip = refl
same_numbers passes [] (y ∷ ys) zip = absurd zip
same_numbers passes (x ∷ xs) [] zip = absurd zip
same_numbers passes (x ∷ xs) (y ∷ ys) zip = λ i. zip.0.worked.client i ∷ same_numbers passes xs ys zip.1 i

-- the members' numbers are those below the number of clients
ids-are_range : (c : ClusterState) (passes : ℕ) (before after : List MemberState) → before ≡ map (fresh_member c) (range_with_len 0 c.board.clients) → AllZip (HasServed passes) before after
    → map (λ m. m.requester.id) after ≡ range_with_len 0 c.board.clients
ids-are_range c passes before after e served = same_numbers passes before after served ∙ ap (map (λ (m : MemberState). m.requester.id)) e ∙ numbers_of_fresh c (range_with_len 0 c.board.clients)

-- The record

-- without a second plan no draw is of one
no_second : (c : ClusterState) (draws : List Draw) → c.second ≡ None → All (IsDraw c Second) draws → draws ≡ []
no_second c [] alone all = refl
no_second c (d ∷ ds) alone all =
    absurd (subst (λ (s : Option OfficeName). IsDealt (c.office, s) Second d.1 d.2) alone (all 0 d (omega arith)).quorum)

-- the record of a cluster of one plan is that of a run
pub run_of : (c : ClusterState) (passes : ℕ) (before after : List MemberState) (r : RunRecord) → IsCertificate c.office.cycle → c.second ≡ None
    → before ≡ map (fresh_member c) (range_with_len 0 c.board.clients)
    → AllZip (HasServed passes) before after → IsRecordOf c after r → IsRun c.office.cycle c.board.clients passes r
run_of c passes before after r plan alone e served is =
    let many = as_many c before after (HasServed passes) e served in
    record {
      sound = IsSoundRecord-first c after r is;
      tickets = is.first.tickets;
      numbers = is.numbers;
      drawn = length-draws c First after r.draws.items is.first
          ∙ sum_by_same (λ (m : MemberState). length (receipts_of m.clerks First)) passes after (All-drew c passes before after alone e served) ∙ ap (λ n. n * passes) many;
      one_plan = no_second c r.draws2.items alone is.second.each;
      register = register-sum_by c after r is ∙ sum_by-evenly passes after (All-passed c passes before after alone e served) ∙ ap (λ n. n * passes) many;
      each_draw = λ k d lt. ((is.first.each k d lt).client, omega (arith, (is.first.each k d lt).quorum, ticket_in_range c.office.cycle (get_or r.draws.items k d).1 plan));
      each_pass = is.each_pass;
      draws_of_each = times_of_each (λ (d : Draw). d.0) (draws_of First) c.board.clients passes after r.draws.items is.first.same (ids-are_range c passes before after e served)
          (λ k m lt. length-map (receipts_of (get_or after k m).clerks First) (λ (x : Receipt). ((get_or after k m).requester.id, x.ticket, x.quorum))
          ∙ All-drew c passes before after alone e served k m lt)
          (λ m. All-map (λ (d : Draw). d.0 ≡ m.requester.id) (λ (x : Receipt). (m.requester.id, x.ticket, x.quorum)) (receipts_of m.clerks First) (λ k x lt. refl));
      passes_of_each = times_of_each (λ (p : Pass). p.0) passes_of c.board.clients passes after r.passes.items is.passes (ids-are_range c passes before after e served)
          (λ k m lt. length-map (get_or after k m).seat.passes (λ (x : ℕ). ((get_or after k m).requester.id, x)) ∙ All-passed c passes before after alone e served k m lt)
          (λ m. All-map (λ (p : Pass). p.0 ≡ m.requester.id) (λ (x : ℕ). (m.requester.id, x)) m.seat.passes (λ k x lt. refl));
    }
