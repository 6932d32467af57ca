-- Clerks of one or two offices, and the quorums of their plans.
use Rattle.std.proofs.Common.{◌≡◌, ℕ, ◌+◌, ◌-◌, ◌<◌, ◌≤◌, ◌++◌, true≢false, [], Option, None, Some, is_some, refl, sym, ap, ◌∙◌, subst, length, arith}
use Rattle.std.specs.Prelude.{IfSome, option_map}
use Rattle.std.proofs.lemmas.List.{length-append, length_push}
use Rattle.quorum_set.specs.declared.bridge.Side.{Side}
use Rattle.quorum_set.specs.declared.bridge.Side.TheVariants.{First, Second}
use Rattle.dealer.specs.declared.receipt.Receipt.{Receipt}
use Rattle.dealer.specs.Offices.{ClerkState, OfficeName, share_of}
use Rattle.board.specs.Quorums.{HasQuorum}
use Rattle.members.specs.Clusters.{ClusterState, IsCluster, names_in}
use Rattle.clerks.specs.Clerks.{ClerksState, OfficesState, AreWhole, HasShare, IsThere, IsWholeIn, drawn, drawn_by, fresh_clerk, fresh_clerks, joined_each, joined_second}
use Rattle.clerks.specs.Clerks.{less_each, names_of, offices_with, quorums_of, receipts_in, receipts_of, rest_in, rest_of, with_less, with_receipt}

-- Fresh clerks

pub names_of-fresh : (names : OfficeName × Option OfficeName) (n : ℕ) → names_of (fresh_clerks names n) ≡ names
names_of-fresh names n = λ i. (names.0, second names.1 i)
  where
    second : (office : Option OfficeName) → option_map (λ x. x.office) (option_map (λ o. fresh_clerk o n) office) ≡ office
    second None = refl
    second (Some office) = refl

pub HasShare-fresh : (names : OfficeName × Option OfficeName) (n : ℕ) → HasShare (fresh_clerks names n) n
HasShare-fresh names n = (omega arith, second names.1)
  where
    second : (office : Option OfficeName) → IfSome (option_map (λ o. fresh_clerk o n) office) (λ x. share_of x ≡ n)
    second None = tt
    second (Some office) = omega arith

-- a fresh clerk of the second plan may draw n tickets
pub rest-fresh : (names : OfficeName × Option OfficeName) (n some : ℕ) → some ≤ n → IfSome (fresh_clerks names n).second (λ k. some ≤ k.rest)
rest-fresh names n some enough = second names.1
  where
    second : (office : Option OfficeName) → IfSome (option_map (λ o. fresh_clerk o n) office) (λ k. some ≤ k.rest)
    second None = tt
    second (Some office) = enough

pub less_each-fresh : (names : OfficeName × Option OfficeName) (n less : ℕ) → less_each (fresh_clerks names n) less ≡ fresh_clerks names (n - less)
less_each-fresh names n less = λ i. record { first = fresh_clerk names.0 (n - less); second = second names.1 i; side = First }
  where
    second : (office : Option OfficeName) → option_map (λ x. with_less x less) (option_map (λ o. fresh_clerk o n) office) ≡ option_map (λ o. fresh_clerk o (n - less)) office
    second None = refl
    second (Some office) = refl

pub receipts_of-fresh : (names : OfficeName × Option OfficeName) (n : ℕ) (side : Side) → receipts_of (fresh_clerks names n) side ≡ []
receipts_of-fresh names n First = refl
receipts_of-fresh names n Second = second names.1
  where
    second : (office : Option OfficeName) → receipts_in (option_map (λ o. fresh_clerk o n) office) ≡ []
    second None = refl
    second (Some office) = refl

-- One more ticket

-- a clerk that draws keeps its share
share_of-drawn : (k : ClerkState) (r : Receipt) → 0 < k.rest → share_of (with_receipt k r) ≡ share_of k
share_of-drawn k r some = omega (arith, some, length_push k.receipts r)

-- the office of the second plan's clerk, after that clerk drew
office-drawn : (k : Option ClerkState) (r : Receipt) → option_map (λ x. x.office) (option_map (λ x. with_receipt x r) k) ≡ option_map (λ x. x.office) k
office-drawn None r = refl
office-drawn (Some k) r = refl

names_of-drawn_by : (side : Side) (k : ClerksState) (r : Receipt) → names_of (drawn_by side k r) ≡ names_of k
names_of-drawn_by First k r = refl
names_of-drawn_by Second k r = λ i. (k.first.office, office-drawn k.second r i)

pub names_of-drawn : (k : ClerksState) (r : Receipt) → names_of (drawn k r) ≡ names_of k
names_of-drawn k r = names_of-drawn_by k.side k r

HasShare-drawn_by : (side : Side) (k : ClerksState) (r : Receipt) (n : ℕ) → 0 < rest_of k side → HasShare k n → HasShare (drawn_by side k r) n
HasShare-drawn_by First k r n some share = (share_of-drawn k.first r some ∙ share.0, share.1)
HasShare-drawn_by Second k r n some share = (share.0, second k.second some share.1)
  where
    second : (k : Option ClerkState) → 0 < rest_in k → IfSome k (λ x. share_of x ≡ n) → IfSome (option_map (λ x. with_receipt x r) k) (λ x. share_of x ≡ n)
    second None some share = tt
    second (Some k) some share = share_of-drawn k r some ∙ share

pub HasShare-drawn : (k : ClerksState) (r : Receipt) (n : ℕ) → 0 < rest_of k k.side → HasShare k n → HasShare (drawn k r) n
HasShare-drawn k r n some share = HasShare-drawn_by k.side k r n some share

IsThere-drawn_by : (side by : Side) (k : ClerksState) (r : Receipt) → IsThere side k.second → IsThere side (drawn_by by k r).second
IsThere-drawn_by side First k r there = there
IsThere-drawn_by First Second k r there = tt
IsThere-drawn_by Second Second k r there = second k.second there
  where
    second : (k : Option ClerkState) → IsThere Second k → IsThere Second (option_map (λ x. with_receipt x r) k)
    second None there = there
    second (Some k) there = tt

side-drawn_by : (side : Side) (k : ClerksState) (r : Receipt) → (drawn_by side k r).side ≡ k.side
side-drawn_by First k r = refl
side-drawn_by Second k r = refl

-- the plan in use is still there
pub IsThere-drawn : (k : ClerksState) (r : Receipt) → IsThere k.side k.second → IsThere (drawn k r).side (drawn k r).second
IsThere-drawn k r there = subst (λ (s : Side). IsThere s (drawn k r).second) (sym (side-drawn_by k.side k r)) (IsThere-drawn_by k.side k.side k r there)

-- Joined clerks

pub HasShare-joined_each : (k other : ClerksState) (n m : ℕ) → names_of k ≡ names_of other → HasShare k n → HasShare other m → HasShare (joined_each k other) (n + m)
HasShare-joined_each k other n m same a b =
    (omega (arith, a.0, b.0, length-append k.first.receipts other.first.receipts), second k.second other.second (ap (λ x. x.1) same) a.1 b.1)
  where
    second : (k other : Option ClerkState) → option_map (λ x. x.office) k ≡ option_map (λ x. x.office) other → IfSome k (λ x. share_of x ≡ n) → IfSome other (λ x. share_of x ≡ m)
        → IfSome (joined_second k other) (λ x. share_of x ≡ n + m)
    second None other e a b = tt
    second (Some k) None e a b = absurd (true≢false (ap is_some e))
    second (Some k) (Some o) e a b = omega (arith, a, b, length-append k.receipts o.receipts)

pub receipts_of-joined_each : (k other : ClerksState) → names_of k ≡ names_of other → (side : Side) → receipts_of (joined_each k other) side ≡ receipts_of k side ++ receipts_of other side
receipts_of-joined_each k other same First = refl
receipts_of-joined_each k other same Second = second k.second other.second (ap (λ x. x.1) same)
  where
    of : Option ClerkState → ClerksState
    of second = record k { second = second }

    second : (a b : Option ClerkState) → option_map (λ x. x.office) a ≡ option_map (λ x. x.office) b
        → receipts_of (joined_each (of a) (of b)) Second ≡ receipts_of (of a) Second ++ receipts_of (of b) Second
    second None None e = refl
    second (Some k) (Some o) e = refl
    second a b e = cc

-- clerks with this share have all the tickets of offices with a smaller quota
pub AreWhole-HasShare : (o : OfficesState) (k : ClerksState) (names : OfficeName × Option OfficeName) (n m : ℕ) → o ≡ offices_with names n → names_of k ≡ names → HasShare k m → n ≤ m → AreWhole o k
AreWhole-HasShare o k names n m is same share enough =
    subst (λ (x : OfficesState). AreWhole x k) (sym is) (omega (arith, share.0, enough), second names.1 k.second (ap (λ x. x.1) same) share.1)
  where
    second : (office : Option OfficeName) (clerk : Option ClerkState) → option_map (λ x. x.office) clerk ≡ office → IfSome clerk (λ x. share_of x ≡ m)
        → IsWholeIn (option_map (λ o. record { name = o; quota = n }) office) clerk
    second None clerk e s = tt
    second (Some o) None e s = absurd (true≢false (sym (ap is_some e)))
    second (Some o) (Some k) e s = omega (arith, s, enough)

-- Quorums of the plans

pub HasQuorum-joint : (c : ClusterState) → IsCluster c → (side : Side) (j : ℕ) → j < length (quorums_of (names_in c) side) → HasQuorum c.board.firsts c.board.quorums side j
HasQuorum-joint c cluster First j below = omega (arith, below, cluster.firsts)
HasQuorum-joint c cluster Second j below =
    let firsts = quorums_of (names_in c) First in
    let seconds = quorums_of (names_in c) Second in
    let long = length-append firsts seconds in
    omega (arith, below, cluster.firsts, ap length cluster.quorums, long)
