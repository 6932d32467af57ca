-- The quorums of a tree are a coterie.
use Rattle.std.proofs.Common.{◌≡◌, ◌⊎◌, ℕ, ◌+◌, ◌-◌, ◌*◌, ◌/◌, ◌^◌, ◌<◌, ◌≤◌, true, false, ◌||◌, eqb, List, [], ◌∷◌, ◌++◌, length, get_or, map, zero, suc, sym, refl, ap, ap₂, ◌∙◌}
use Rattle.std.proofs.Common.{inl, inr, arith, length-append}
use Rattle.std.specs.List.{All, AllPairs, flat_map}
use Rattle.std.proofs.Math.Nat.{pow-suc, pow-le-pow_right}
use Rattle.std.proofs.lemmas.Bool.{true≢false, false_from_ne_true, eqb-true, eq-eqb, ne_eqb, or_cases, or_from, or_left, or_right, cases_lt, cases_order}
use Rattle.std.proofs.lemmas.Nat.{pow_pos, pow-add, shr-shr, shr_le, mul-le}
use Rattle.std.proofs.lemmas.List.{get_or_default, length-map}
use Rattle.std.proofs.lemmas.List.Elements.{All-nil, All-cons, All-head, All-tail, All-append, All-map}
use Rattle.std.proofs.lemmas.List.Kept.{AllPairs-cons}
use Rattle.numbers.specs.Sets.{has, IsSet, set_where}
use Rattle.quorum_set.specs.Coteries.{IsCoterie}
use Rattle.numbers.proofs.SetLemmas.{IsSet-set_where, has-set_where, has-above}
use Rattle.construct.specs.Tree.{with_node, union, node_quorums, quorums_under, tree_quorums, tree_system}
use Rattle.construct.proofs.SetLemmas.{has-failed, has-passed}
use Rattle.numbers.proofs.Meetings.{All-members}
use Rattle.numbers.proofs.Lists.{All-flat_map}
use Rattle.construct.proofs.Quorums.{IsQuorum, IsCrossing, IsCoterie-from, IsCrossing-from, not_empty-from, AllPairs-append}

-- the nodes below both children have room where those below the node have
pub room-of_children : (k i m : ℕ) → (i + 2) * 2 ^ suc k ≤ m → ((2 * i + 1 + 2) * 2 ^ k ≤ m) × ((2 * i + 2 + 2) * 2 ^ k ≤ m) × (2 * i + 4 ≤ m)
room-of_children k i m room =
    let twice : 2 ^ suc k ≡ 2 ^ k * 2 = pow-suc 2 k in
    let whole : (i + 2) * (2 ^ k * 2) ≤ m = rw twice at room in
    let some = pow_pos k in
    let least = mul-le (2 * i + 4) 1 (2 * i + 4) (2 ^ k) (omega arith) (omega (arith, some)) in
    (omega (arith, whole), omega (arith, whole), omega (arith, whole, least))

pub child_rooms : (h i m : ℕ) → (h ≡ 0 → ⊥) → (i + 2) * 2 ^ h ≤ m → ((2 * i + 1 + 2) * 2 ^ (h - 1) ≤ m) × ((2 * i + 2 + 2) * 2 ^ (h - 1) ≤ m) × (2 * i + 4 ≤ m)
child_rooms zero i m some room = absurd (some refl)
child_rooms (suc k) i m some room =
    let less : k ≡ suc k - 1 = omega arith in
    let found = room-of_children k i m room in
    rw (sym less) found

pub quorums_under-step : (h i : ℕ) → (h ≡ 0 → ⊥) → quorums_under h i ≡ node_quorums i (quorums_under (h - 1) (2 * i + 1)) (quorums_under (h - 1) (2 * i + 2))
unfolding quorums_under
quorums_under-step zero i some = absurd (some refl)
quorums_under-step (suc k) i some =
    let less : k ≡ suc k - 1 = omega arith in
    ap (λ n. node_quorums i (quorums_under n (2 * i + 1)) (quorums_under n (2 * i + 2))) less

-- how many there are
pub length-pairs : {X Y Z : Type 0} (f : X → Y → Z) (xs : List X) (ys : List Y) → length (flat_map (λ x. map (f x) ys) xs) ≡ length xs * length ys
length-pairs f [] ys = omega arith
length-pairs f (x ∷ xs) ys =
    omega (arith, length-append (map (f x) ys) (flat_map (λ z. map (f z) ys) xs), length-map ys (f x), length-pairs f xs ys)

pub length-node : (i : ℕ) (L R : List (List ℕ)) → length (node_quorums i L R) + 1 ≡ (length L + 1) * (length R + 1)
length-node i L R =
    omega (
      arith,
      length-append (map (with_node i) L ++ map (with_node i) R) (flat_map (λ p. map (union p) R) L),
      length-append (map (with_node i) L) (map (with_node i) R),
      length-map L (with_node i),
      length-map R (with_node i),
      length-pairs union L R,
    )

pub length-quorums_under : (h i : ℕ) → length (quorums_under h i) + 1 ≡ 2 ^ (2 ^ h)
unfolding quorums_under
length-quorums_under zero i = refl
length-quorums_under (suc h) i =
    let twice : 2 ^ suc h ≡ 2 ^ h + 2 ^ h = omega (arith, pow-suc 2 h) in
    length-node i (quorums_under h (2 * i + 1)) (quorums_under h (2 * i + 2))
    ∙ ap₂ (λ a b. a * b) (length-quorums_under h (2 * i + 1)) (length-quorums_under h (2 * i + 2))
    ∙ sym (pow-add 2 (2 ^ h) (2 ^ h)) ∙ ap (λ n. 2 ^ n) (sym twice)

-- v is a node of the tree of height h under i: from some depth of it, the way up comes to i
pub record IsUnder (h i v : ℕ) : Type 0 where
  pub room : v + 2 ≤ (i + 2) * 2 ^ h
  pub from : i ≤ v
  pub depth : ℕ
  pub up : (v + 1) / 2 ^ depth ≡ i + 1

IsUnder-here : (h i : ℕ) → IsUnder h i i
IsUnder-here h i = record {
  room = omega (arith, mul-le (i + 2) 1 (i + 2) (2 ^ h) (omega arith) (omega (arith, pow_pos h)));
  from = omega arith;
  depth = 0;
  up = omega arith;
}

IsUnder-child : (h i c v : ℕ) → (c ≡ 2 * i + 1) ⊎ (c ≡ 2 * i + 2) → IsUnder h c v → IsUnder (suc h) i v
IsUnder-child h i c v which below =
    let twice : 2 ^ suc h ≡ 2 ^ h * 2 = pow-suc 2 h in
    let within : c + 2 ≤ (i + 2) * 2 = elim which [ inl e ↦ omega arith | inr e ↦ omega arith ] in
    let wide = mul-le (c + 2) (2 ^ h) ((i + 2) * 2) (2 ^ h) within (omega arith) in
    let half : (c + 1) / 2 ^ 1 ≡ i + 1 = elim which [ inl e ↦ omega arith | inr e ↦ omega arith ] in
    record {
      room = rw twice (omega (arith, below.room, wide));
      from = let low = below.from in elim which [ inl e ↦ omega arith | inr e ↦ omega arith ];
      depth = below.depth + 1;
      up = sym (shr-shr (v + 1) below.depth 1) ∙ ap (λ n. n / 2 ^ 1) below.up ∙ half;
    }

-- no node is under both children
pub IsUnder-not_both : (h k i v : ℕ) → IsUnder h (2 * i + 1) v → IsUnder k (2 * i + 2) v → ⊥
IsUnder-not_both h k i v left right =
    let d = left.depth in
    let e = right.depth in
    elim (cases_lt e d) [
      | inl deeper ↦
          let m = d - e - 1 in
          let split : d ≡ e + (1 + m) = omega arith in
          let way : (v + 1) / 2 ^ d ≡ (2 * i + 2 + 1) / 2 ^ 1 / 2 ^ m =
          ap (λ n. (v + 1) / 2 ^ n) split ∙ sym (shr-shr (v + 1) e (1 + m)) ∙ ap (λ n. n / 2 ^ (1 + m)) right.up ∙ sym (shr-shr (2 * i + 2 + 1) 1 m) in
          let short = shr_le ((2 * i + 2 + 1) / 2 ^ 1) m in
          let half : (2 * i + 2 + 1) / 2 ^ 1 ≡ i + 1 = omega arith in
          omega (arith, left.up, way, short, half)
      | inr other ↦
          let m = e - d in
          let split : e ≡ d + m = omega arith in
          let way : (v + 1) / 2 ^ e ≡ (2 * i + 1 + 1) / 2 ^ m =
          ap (λ n. (v + 1) / 2 ^ n) split ∙ sym (shr-shr (v + 1) d m) ∙ ap (λ n. n / 2 ^ m) left.up in
          omega (arith, right.up, way, shr_le (2 * i + 1 + 1) m)
    ]

-- a set of nodes of the tree under i, with a member
pub record IsPart (h i : ℕ) (q : List ℕ) : Type 0 where
  pub set : IsSet q
  pub some : (v : ℕ) × (has q v ≡ true)
  pub under : (v : ℕ) → has q v ≡ true → IsUnder h i v

-- the sets have a common member, and each has a member that the other has not
pub record Crosses (q r : List ℕ) : Type 0 where
  pub common : (v : ℕ) × (has q v ≡ true) × (has r v ≡ true)
  pub left : (v : ℕ) × (has q v ≡ true) × (has r v ≡ false)
  pub right : (v : ℕ) × (has r v ≡ true) × (has q v ≡ false)

record Meets (q r : List ℕ) : Type 0 where
  common : (v : ℕ) × (has q v ≡ true) × (has r v ≡ true)

-- membership
has_below : (q : List ℕ) (v : ℕ) → IsSet q → has q v ≡ true → v < 64
has_below q v set there =
    elim (cases_lt v 64) as (λ _. v < 64) [
      | inl lt ↦ lt
      | inr ge ↦ absurd (true≢false (sym there ∙ has-above 0 64 q v set ge))
    ]

has-false : (q : List ℕ) (v : ℕ) → (has q v ≡ true → ⊥) → has q v ≡ false
has-false q v absent = false_from_ne_true (has q v) absent

with_root : (i : ℕ) (s : List ℕ) → i < 64 → has (with_node i s) i ≡ true
with_root i s lt = has-set_where (λ v. eqb v i || has s v) i lt ∙ or_left (eqb i i) (has s i) (eq-eqb i i refl)

with_in : (i : ℕ) (s : List ℕ) (v : ℕ) → IsSet s → has s v ≡ true → has (with_node i s) v ≡ true
with_in i s v set there = has-set_where (λ w. eqb w i || has s w) v (has_below s v set there) ∙ or_right (eqb v i) (has s v) there

with_off : (i : ℕ) (s : List ℕ) (v : ℕ) → (v ≡ i → ⊥) → has s v ≡ false → has (with_node i s) v ≡ false
with_off i s v differ off = has-failed (λ w. eqb w i || has s w) v (or_from (eqb v i) (has s v) (ne_eqb v i differ) off)

with_cases : (i : ℕ) (s : List ℕ) (v : ℕ) → has (with_node i s) v ≡ true → (v ≡ i) ⊎ (has s v ≡ true)
with_cases i s v there =
    elim (or_cases (eqb v i) (has s v) (has-passed (λ w. eqb w i || has s w) v there).1) [
      | inl at ↦ inl (eqb-true v i at)
      | inr later ↦ inr later
    ]

pub union_first : (p q : List ℕ) (v : ℕ) → IsSet p → has p v ≡ true → has (union p q) v ≡ true
union_first p q v set there = has-set_where (λ w. has p w || has q w) v (has_below p v set there) ∙ or_left (has p v) (has q v) there

pub union_second : (p q : List ℕ) (v : ℕ) → IsSet q → has q v ≡ true → has (union p q) v ≡ true
union_second p q v set there = has-set_where (λ w. has p w || has q w) v (has_below q v set there) ∙ or_right (has p v) (has q v) there

pub union_off : (p q : List ℕ) (v : ℕ) → has p v ≡ false → has q v ≡ false → has (union p q) v ≡ false
union_off p q v first second = has-failed (λ w. has p w || has q w) v (or_from (has p v) (has q v) first second)

pub union_cases : (p q : List ℕ) (v : ℕ) → has (union p q) v ≡ true → (has p v ≡ true) ⊎ (has q v ≡ true)
union_cases p q v there = or_cases (has p v) (has q v) (has-passed (λ w. has p w || has q w) v there).1

-- the quorums of a node are sets of nodes under it
IsPart-with : (h i c : ℕ) (s : List ℕ) → i < 64 → (c ≡ 2 * i + 1) ⊎ (c ≡ 2 * i + 2) → IsPart h c s → IsPart (suc h) i (with_node i s)
IsPart-with h i c s lt which part = record {
  set = IsSet-set_where (λ v. eqb v i || has s v);
  some = (i, with_root i s lt);
  under = λ v there.
      elim (with_cases i s v there) as (λ _. IsUnder (suc h) i v) [
        | inl at ↦ rw at (IsUnder-here (suc h) i)
        | inr below ↦ IsUnder-child h i c v which (part.under v below)
      ];
}

IsPart-union : (h i : ℕ) (p q : List ℕ) → IsPart h (2 * i + 1) p → IsPart h (2 * i + 2) q → IsPart (suc h) i (union p q)
IsPart-union h i p q left right = record {
  set = IsSet-set_where (λ v. has p v || has q v);
  some = (left.some.0, union_first p q left.some.0 left.set left.some.1);
  under = λ v there.
      elim (union_cases p q v there) as (λ _. IsUnder (suc h) i v) [
        | inl first ↦ IsUnder-child h i (2 * i + 1) v (inl refl) (left.under v first)
        | inr second ↦ IsUnder-child h i (2 * i + 2) v (inr refl) (right.under v second)
      ];
}

-- the node is no member of a quorum below it, nor a member of the one side of a quorum of the other
not_node : (h i c : ℕ) (q : List ℕ) → i < c → IsPart h c q → (v : ℕ) → has q v ≡ true → v ≡ i → ⊥
not_node h i c q lt part v there at = let low = (part.under v there).from in omega arith

off_node : (h i c : ℕ) (q : List ℕ) → i < c → IsPart h c q → has q i ≡ false
off_node h i c q lt part = has-false q i (λ there. not_node h i c q lt part i there refl)

off_right : (h i : ℕ) (p q : List ℕ) → IsPart h (2 * i + 1) p → IsPart h (2 * i + 2) q → (v : ℕ) → has p v ≡ true → has q v ≡ false
off_right h i p q left right v there = has-false q v (λ also. IsUnder-not_both h h i v (left.under v there) (right.under v also))

off_left : (h i : ℕ) (p q : List ℕ) → IsPart h (2 * i + 1) p → IsPart h (2 * i + 2) q → (v : ℕ) → has q v ≡ true → has p v ≡ false
off_left h i p q left right v there = has-false p v (λ also. IsUnder-not_both h h i v (left.under v also) (right.under v there))

-- two quorums of one child, each with the node
cross_one_side : (h i c : ℕ) (p q : List ℕ) → i < c → IsPart h c p → IsPart h c q → Crosses p q → Crosses (with_node i p) (with_node i q)
cross_one_side h i c p q lt a b cross =
    let (v, v_p, v_q) = cross.common in
    let (w, w_p, w_q) = cross.left in
    let (x, x_q, x_p) = cross.right in record {
      common = (v, with_in i p v a.set v_p, with_in i q v b.set v_q);
      left = (w, with_in i p w a.set w_p, with_off i q w (not_node h i c p lt a w w_p) w_q);
      right = (x, with_in i q x b.set x_q, with_off i p x (not_node h i c q lt b x x_q) x_p);
    }

-- a left quorum and a right one, each with the node
cross_sides : (h i : ℕ) (p q : List ℕ) → i < 64 → IsPart h (2 * i + 1) p → IsPart h (2 * i + 2) q → Crosses (with_node i p) (with_node i q)
cross_sides h i p q lt a b =
    let (v, v_p) = a.some in
    let (w, w_q) = b.some in record {
      common = (i, with_root i p lt, with_root i q lt);
      left = (v, with_in i p v a.set v_p, with_off i q v (not_node h i (2 * i + 1) p (omega arith) a v v_p) (off_right h i p q a b v v_p));
      right = (w, with_in i q w b.set w_q, with_off i p w (not_node h i (2 * i + 2) q (omega arith) b w w_q) (off_left h i p q a b w w_q));
    }

off_union : (h i : ℕ) (p q : List ℕ) → IsPart h (2 * i + 1) p → IsPart h (2 * i + 2) q → has (union p q) i ≡ false
off_union h i p q a b = union_off p q i (off_node h i (2 * i + 1) p (omega arith) a) (off_node h i (2 * i + 2) q (omega arith) b)

-- a left quorum with the node, and a left one with a right one
cross_left : (h i : ℕ) (s p q : List ℕ) → i < 64 → IsPart h (2 * i + 1) s → IsPart h (2 * i + 1) p → IsPart h (2 * i + 2) q → Meets s p → Crosses (with_node i s) (union p q)
cross_left h i s p q lt c a b meet =
    let (v, v_s, v_p) = meet.common in
    let (w, w_q) = b.some in record {
      common = (v, with_in i s v c.set v_s, union_first p q v a.set v_p);
      left = (i, with_root i s lt, off_union h i p q a b);
      right = (w, union_second p q w b.set w_q, with_off i s w (not_node h i (2 * i + 2) q (omega arith) b w w_q) (off_left h i s q c b w w_q));
    }

-- a right quorum with the node, and a left one with a right one
cross_right : (h i : ℕ) (s p q : List ℕ) → i < 64 → IsPart h (2 * i + 2) s → IsPart h (2 * i + 1) p → IsPart h (2 * i + 2) q → Meets s q → Crosses (with_node i s) (union p q)
cross_right h i s p q lt c a b meet =
    let (v, v_s, v_q) = meet.common in
    let (w, w_p) = a.some in record {
      common = (v, with_in i s v c.set v_s, union_second p q v b.set v_q);
      left = (i, with_root i s lt, off_union h i p q a b);
      right = (w, union_first p q w a.set w_p, with_off i s w (not_node h i (2 * i + 1) p (omega arith) a w w_p) (off_right h i p s a c w w_p));
    }

-- one left quorum, each time with another right one
cross_second : (h i : ℕ) (p q r : List ℕ) → IsPart h (2 * i + 1) p → IsPart h (2 * i + 2) q → IsPart h (2 * i + 2) r → Crosses q r → Crosses (union p q) (union p r)
cross_second h i p q r a b c cross =
    let (v, v_p) = a.some in
    let (w, w_q, w_r) = cross.left in
    let (x, x_r, x_q) = cross.right in record {
      common = (v, union_first p q v a.set v_p, union_first p r v a.set v_p);
      left = (w, union_second p q w b.set w_q, union_off p r w (off_left h i p q a b w w_q) w_r);
      right = (x, union_second p r x c.set x_r, union_off p q x (off_left h i p r a c x x_r) x_q);
    }

-- two left quorums, each with some right one
cross_first : (h i : ℕ) (p s q r : List ℕ) → IsPart h (2 * i + 1) p → IsPart h (2 * i + 1) s → IsPart h (2 * i + 2) q → IsPart h (2 * i + 2) r → Crosses p s → Crosses (union p q) (union s r)
cross_first h i p s q r a b c d cross =
    let (v, v_p, v_s) = cross.common in
    let (w, w_p, w_s) = cross.left in
    let (x, x_s, x_p) = cross.right in record {
      common = (v, union_first p q v a.set v_p, union_first s r v b.set v_s);
      left = (w, union_first p q w a.set w_p, union_off s r w w_s (off_right h i p r a d w w_p));
      right = (x, union_first s r x b.set x_s, union_off p q x x_p (off_right h i s q b c x x_s));
    }

pub AllPairs-map : {X Y : Type 0} (R : Y → Y → Type 0) (f : X → Y) (xs : List X) → AllPairs (λ x y. R (f x) (f y)) xs → AllPairs R (map f xs)
AllPairs-map R f [] pairs = λ a b d before lt. absurd (omega arith)
AllPairs-map R f (x ∷ xs) pairs =
    AllPairs-cons R (f x) (map f xs) (All-map (R (f x)) f xs (λ j d lt. pairs 0 (suc j) d (omega arith) (omega arith)))
    (AllPairs-map R f xs (λ a b d before lt. pairs (suc a) (suc b) d (omega arith) (omega arith)))

pub AllPairs-flat_map : {X Y : Type 0} (R : Y → Y → Type 0) (f : X → List Y) (xs : List X) → All (λ x. AllPairs R (f x)) xs → AllPairs (λ x y. All (λ a. All (R a) (f y)) (f x)) xs
    → AllPairs R (flat_map f xs)
AllPairs-flat_map R f [] inner outer = λ a b d before lt. absurd (omega arith)
AllPairs-flat_map R f (x ∷ xs) inner outer =
    AllPairs-append R (f x) (flat_map f xs) (All-head (λ y. AllPairs R (f y)) x xs inner)
    (AllPairs-flat_map R f xs (All-tail (λ y. AllPairs R (f y)) x xs inner) (λ a b d before lt. outer (suc a) (suc b) d (omega arith) (omega arith)))
    (λ k e lk. All-flat_map (R (get_or (f x) k e)) f xs (λ j d lt. outer 0 (suc j) d (omega arith) (omega arith) k e lk))

-- any two quorums of a list have a common member, also where they stand at one place
meets_any : (h i : ℕ) (L : List (List ℕ)) → All (IsPart h i) L → AllPairs Crosses L → All (λ p. All (Meets p) L) L
meets_any h i L parts pairs a d la b e lb =
    let same = get_or_default L b e d lb in
    rw same
    (elim (cases_order a b) as (λ _. Meets (get_or L a d) (get_or L b d)) [
      | inl at ↦
          let (v, there) = (parts a d la).some in
          rw (sym at) (record { common = (v, there, there) })
      | inr other ↦
          elim other as (λ _. Meets (get_or L a d) (get_or L b d)) [
            | inl before ↦ record { common = (pairs a b d before lb).common }
            | inr after ↦ let (v, first, second) = (pairs b a d after la).common in record { common = (v, second, first) }
          ]
    ])

-- what holds of the three kinds of a node's quorums holds of all
pub All-node : (P : List ℕ → Type 0) (i : ℕ) (L R : List (List ℕ)) → All (λ s. P (with_node i s)) L → All (λ s. P (with_node i s)) R
    → All (λ p. All (λ q. P (union p q)) R) L → All P (node_quorums i L R)
All-node P i L R left right pairs =
    All-append P (map (with_node i) L ++ map (with_node i) R) (flat_map (λ p. map (union p) R) L)
    (All-append P (map (with_node i) L) (map (with_node i) R) (All-map P (with_node i) L left) (All-map P (with_node i) R right))
    (All-flat_map P (λ p. map (union p) R) L (λ k d lt. All-map P (union (get_or L k d)) R (pairs k d lt)))

-- the quorums of a node, from those of its children
node_parts : (h i : ℕ) (L R : List (List ℕ)) → i < 64 → All (IsPart h (2 * i + 1)) L → All (IsPart h (2 * i + 2)) R → All (IsPart (suc h) i) (node_quorums i L R)
node_parts h i L R lt left right =
    All-node (IsPart (suc h) i) i L R
    (λ k d lk. IsPart-with h i (2 * i + 1) (get_or L k d) lt (inl refl) (left k d lk))
    (λ k d lk. IsPart-with h i (2 * i + 2) (get_or R k d) lt (inr refl) (right k d lk))
    (λ k d lk j e lj. IsPart-union h i (get_or L k d) (get_or R j e) (left k d lk) (right j e lj))

module _ (h i : ℕ) (L R : List (List ℕ)) (lt : i < 64) (left : All (IsPart h (2 * i + 1)) L) (right : All (IsPart h (2 * i + 2)) R) (lefts : AllPairs Crosses L) (rights : AllPairs Crosses R) where
  unions : List (List ℕ)
  unions = flat_map (λ p. map (union p) R) L

  pairs_with : AllPairs Crosses (map (with_node i) L ++ map (with_node i) R)
  pairs_with =
      AllPairs-append Crosses (map (with_node i) L) (map (with_node i) R)
      (AllPairs-map Crosses (with_node i) L (λ a b d before lb.
      cross_one_side h i (2 * i + 1) (get_or L a d) (get_or L b d) (omega arith) (left a d (omega arith)) (left b d lb) (lefts a b d before lb)))
      (AllPairs-map Crosses (with_node i) R (λ a b d before lb.
      cross_one_side h i (2 * i + 2) (get_or R a d) (get_or R b d) (omega arith) (right a d (omega arith)) (right b d lb) (rights a b d before lb)))
      (All-map (λ x. All (Crosses x) (map (with_node i) R)) (with_node i) L (λ k d lk.
      All-map (Crosses (with_node i (get_or L k d))) (with_node i) R (λ j e lj.
      cross_sides h i (get_or L k d) (get_or R j e) lt (left k d lk) (right j e lj))))

  pairs_union : AllPairs Crosses (flat_map (λ p. map (union p) R) L)
  pairs_union =
      AllPairs-flat_map Crosses (λ p. map (union p) R) L
      (λ k d lk. AllPairs-map Crosses (union (get_or L k d)) R (λ a b e before lb.
      cross_second h i (get_or L k d) (get_or R a e) (get_or R b e) (left k d lk) (right a e (omega arith)) (right b e lb) (rights a b e before lb)))
      (λ a b d before lb. All-map (λ x. All (Crosses x) (map (union (get_or L b d)) R)) (union (get_or L a d)) R (λ m e lm.
      All-map (Crosses (union (get_or L a d) (get_or R m e))) (union (get_or L b d)) R (λ n f ln.
      cross_first h i (get_or L a d) (get_or L b d) (get_or R m e) (get_or R n f) (left a d (omega arith)) (left b d lb) (right m e lm) (right n f ln) (lefts a b d before lb))))

  across : All (λ x. All (Crosses x) (flat_map (λ p. map (union p) R) L)) (map (with_node i) L ++ map (with_node i) R)
  across =
      All-append (λ x. All (Crosses x) (flat_map (λ p. map (union p) R) L)) (map (with_node i) L) (map (with_node i) R)
      (All-map (λ x. All (Crosses x) (flat_map (λ p. map (union p) R) L)) (with_node i) L (λ k d lk.
      All-flat_map (Crosses (with_node i (get_or L k d))) (λ p. map (union p) R) L (λ j e lj.
      All-map (Crosses (with_node i (get_or L k d))) (union (get_or L j e)) R (λ m f lm.
      cross_left h i (get_or L k d) (get_or L j e) (get_or R m f) lt (left k d lk) (left j e lj) (right m f lm) (meets_any h (2 * i + 1) L left lefts k d lk j e lj)))))
      (All-map (λ x. All (Crosses x) (flat_map (λ p. map (union p) R) L)) (with_node i) R (λ k d lk.
      All-flat_map (Crosses (with_node i (get_or R k d))) (λ p. map (union p) R) L (λ j e lj.
      All-map (Crosses (with_node i (get_or R k d))) (union (get_or L j e)) R (λ m f lm.
      cross_right h i (get_or R k d) (get_or L j e) (get_or R m f) lt (right k d lk) (left j e lj) (right m f lm) (meets_any h (2 * i + 2) R right rights k d lk m f lm)))))

  node_pairs : AllPairs Crosses (node_quorums i L R)
  node_pairs = AllPairs-append Crosses (map (with_node i) L ++ map (with_node i) R) (flat_map (λ p. map (union p) R) L) pairs_with pairs_union across

-- the quorums under a node
pub record IsTreeList (h i : ℕ) (qs : List (List ℕ)) : Type 0 where
  pub parts : All (IsPart h i) qs
  pub pairs : AllPairs Crosses qs

leaf_part : (i : ℕ) → i < 64 → IsPart 0 i (set_where (λ v. eqb v i))
leaf_part i lt = record {
  set = IsSet-set_where (λ v. eqb v i);
  some = (i, has-set_where (λ v. eqb v i) i lt ∙ eq-eqb i i refl);
  under = λ v there. rw (eqb-true v i (has-passed (λ w. eqb w i) v there).1) (IsUnder-here 0 i);
}

pub IsTreeList-under : (h i : ℕ) → (i + 2) * 2 ^ h ≤ 65 → IsTreeList h i (quorums_under h i)
unfolding quorums_under
IsTreeList-under zero i room = record {
  parts = All-cons (IsPart 0 i) (set_where (λ v. eqb v i)) [] (leaf_part i (omega arith)) (All-nil (IsPart 0 i));
  pairs = λ a b d before lt. absurd (omega arith);
}
IsTreeList-under (suc h) i room =
    let (left_room, right_room, least) = room-of_children h i 65 room in
    let left = IsTreeList-under h (2 * i + 1) left_room in
    let right = IsTreeList-under h (2 * i + 2) right_room in
    let lt : i < 64 = omega arith in record {
      parts = node_parts h i (quorums_under h (2 * i + 1)) (quorums_under h (2 * i + 2)) lt left.parts right.parts;
      pairs = node_pairs h i (quorums_under h (2 * i + 1)) (quorums_under h (2 * i + 2)) lt left.parts right.parts left.pairs right.pairs;
    }

IsQuorum-part : (h : ℕ) (q : List ℕ) → IsPart h 0 q → IsQuorum (2 ^ (h + 1) - 1) q
IsQuorum-part h q part = record {
  set = part.set;
  not_empty = not_empty-from q part.some.0 part.some.1;
  in_range = All-members (λ i. i < 2 ^ (h + 1) - 1) q (λ v there.
      let room = (part.under v there).room in
      let twice : 2 ^ (h + 1) ≡ 2 ^ h * 2 = pow-add 2 h 1 in
      omega arith);
}

IsCrossing-part : (q r : List ℕ) → Crosses q r → IsCrossing q r
IsCrossing-part q r cross =
    IsCrossing-from q r cross.common.0 cross.left.0 cross.right.0 cross.common.1 cross.common.2 cross.left.1 cross.left.2 cross.right.1 cross.right.2

pub tree_is_coterie : (h : ℕ) → h ≤ 3 → IsCoterie (tree_system h)
tree_is_coterie h few =
    let height = pow-le-pow_right {n = 2} (omega arith) few in
    let wide = pow-le-pow_right {n = 2} (omega arith) height in
    let some = pow_pos h in
    let twice : 2 ^ (h + 1) ≡ 2 ^ h * 2 = pow-add 2 h 1 in
    let long = length-quorums_under h 0 in
    let exponent = pow-le-pow_right {n = 2} (omega arith) {i = 1} some in
    let list = IsTreeList-under h 0 (omega (arith, height)) in
    IsCoterie-from (2 ^ (h + 1) - 1) (tree_quorums h) (omega (arith, some, twice)) (omega (arith, height, twice)) (omega (arith, long, exponent)) (omega (arith, long, wide))
    (λ k d lt. IsQuorum-part h _ (list.parts k d lt))
    (λ a b d before lt. IsCrossing-part _ _ (list.pairs a b d before lt))
