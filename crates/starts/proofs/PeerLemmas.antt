-- what a voter keeps: who comes after whom, and what each change keeps
use Rattle.std.proofs.Common.{◌≡◌, ℕ, ◌<◌, ◌≤◌, Bool, true, false, refl, sym, ap, subst, ◌∙◌, ◌⊎◌, inl, inr, arith, Result, Ok, Err}
use Rattle.std.specs.Prelude.{◌==◌, ◌&&◌, ◌||◌, max, nat_lt, if◌then◌else◌, is_ok}
use Rattle.std.proofs.lemmas.Bool.{eqb-true, false≢true}
use Rattle.std.proofs.lemmas.Bool.Decides.{nat_tests}
use Rattle.starts.specs.declared.fault.StartFault.{StartFault}
use Rattle.starts.specs.declared.fault.StartFault.TheVariants.{Older, Place}
use Rattle.starts.specs.declared.peer.Peer.{Peer}
use Rattle.starts.specs.Peers.{ended_with, is_later, is_made_later, is_same_process, later_of, meets, raised_to, taken}
use Rattle.starts.specs.Worlds.{AreProcesses, says}

-- ---- who comes after whom

-- the second process is of a voter that was made again more often, or as often, and started more often
abbrev pub Before : Peer → Peer → Type 0
Before p q = (p.run < q.run) ⊎ ((p.run ≡ q.run) × (p.start < q.start))

before_more : (p q : Peer) (b : Bool) → nat_lt p.run q.run ≡ b → (b || ((q.run == p.run) && nat_lt p.start q.start)) ≡ true → Before p q
before_more p q true more is = inl (let less : p.run < q.run = grind (arith, nat_tests) in less)
before_more p q false more is =
    inr (let same : p.run ≡ q.run = grind (arith, nat_tests) in same, let less : p.start < q.start = grind (arith, nat_tests) in less)

pub before : (p q : Peer) → is_later p q ≡ true → Before p q
before p q is = before_more p q (nat_lt p.run q.run) refl is

pub not_before : (p q : Peer) → is_later p q ≡ false → Before p q → ⊥
not_before p q is (inl run) = false≢true (let never : false ≡ true = grind (arith, nat_tests) in never)
not_before p q is (inr start) = false≢true (let same = start.0 in let less = start.1 in let never : false ≡ true = grind (arith, nat_tests) in never)

pub before_before : (p q r : Peer) → Before p q → Before q r → Before p r
before_before p q r (inl a) (inl b) = inl (omega arith)
before_before p q r (inl a) (inr b) = inl (let same = b.0 in omega arith)
before_before p q r (inr a) (inl b) = inl (let same = a.0 in omega arith)
before_before p q r (inr a) (inr b) = let same = a.0 in let less = a.1 in let equal = b.0 in let more = b.1 in inr (omega arith, omega arith)

pub never_both : (p q : Peer) → Before p q → Before q p → ⊥
never_both p q (inl a) (inl b) = omega arith
never_both p q (inl a) (inr b) = let same = b.0 in omega arith
never_both p q (inr a) (inl b) = let same = a.0 in omega arith
never_both p q (inr a) (inr b) = let less = a.1 in let more = b.1 in omega arith

-- both are one process
pub record Same (p q : Peer) : Type 0 where
  pub identity : p.identity ≡ q.identity
  pub run : p.run ≡ q.run
  pub start : p.start ≡ q.start
  pub process : p.process ≡ q.process

pub same_self : (p : Peer) → Same p p
same_self p = record { identity = refl; run = refl; start = refl; process = refl }

pub before_same : (p q r : Peer) → Before p q → Same q r → Before p r
before_same p q r (inl a) same = inl (let run = same.run in omega arith)
before_same p q r (inr a) same = let run = same.run in let start = same.start in let equal = a.0 in let less = a.1 in inr (omega arith, omega arith)

pub same_before : (p q r : Peer) → Same p q → Before q r → Before p r
same_before p q r same (inl a) = inl (let run = same.run in omega arith)
same_before p q r same (inr a) = let run = same.run in let start = same.start in let equal = a.0 in let less = a.1 in inr (omega arith, omega arith)

pub same_same : (p q r : Peer) → Same p q → Same q r → Same p r
same_same p q r a b = record { identity = a.identity ∙ b.identity; run = a.run ∙ b.run; start = a.start ∙ b.start; process = a.process ∙ b.process }

-- ---- what a voter keeps is of a process that there is

abbrev pub IsKnown : (ℕ → Peer) → Peer → Type 0
IsKnown who peer = (peer.identity ≡ 0) ⊎ ((p : ℕ) × Same (who p) peer)

-- it is this process, or a later one
pub record IsReached (p peer : Peer) : Type 0 where
  pub somebody : 0 < peer.identity
  pub reached : Same p peer ⊎ Before p peer

-- ---- a process is taken

pub data Why (p now : Peer) : Type 0 where
  is_first : p.identity ≡ 0 → Why p now
  is_again : p.start ≡ now.start → p.process ≡ now.process → Why p now
  is_after : Before p now → Why p now

pub record Takes (p now next : Peer) : Type 0 where
  pub why : Why p now
  pub same : Same now next
  pub keeps : p.ceiling ≤ next.ceiling
  pub raises : now.ceiling ≤ next.ceiling

greater : (a b m : ℕ) → m ≡ max a b → (a ≤ m) × (b ≤ m)
greater a b m is = (omega arith, omega arith)

took : (p now : Peer) (ended : ℕ) → Why p now → Takes p now (taken p now ended)
took p now ended why = record {
  why = why;
  same = record { identity = refl; run = refl; start = refl; process = refl };
  keeps = (greater now.ceiling p.ceiling _ refl).1;
  raises = (greater now.ceiling p.ceiling _ refl).0;
}

abbrev of_ok : Result Peer StartFault → Peer → Peer
of_ok (Ok p) q = p
of_ok (Err fault) q = q

took_so : (p now next : Peer) (ended : ℕ) → Why p now → ◌≡◌ {A = Result Peer StartFault} (Ok (taken p now ended)) (Ok next) → Takes p now next
took_so p now next ended why is =
    subst (λ (x : Peer). Takes p now x) (ap (λ r. of_ok r next) is) (took p now ended why)

no_ok : (fault : StartFault) (next : Peer) → ◌≡◌ {A = Result Peer StartFault} (Err fault) (Ok next) → ⊥
no_ok fault next is = false≢true (ap (λ (r : Result Peer StartFault). is_ok r) is)

again_or_after : (p now next : Peer) (b c : Bool) → is_same_process p now ≡ b → ((now.run == p.run) && nat_lt p.start now.start) ≡ c
    → (if b then Ok (taken p now p.ended) else if c then Ok (taken p now now.ended) else Err Older) ≡ Ok next → Takes p now next
again_or_after p now next true c same after is =
    took_so p now next p.ended (is_again (let start : p.start ≡ now.start = grind (arith, nat_tests) in start)
    (let process : p.process ≡ now.process = grind (arith, nat_tests) in process)) is
again_or_after p now next false true same after is =
    took_so p now next now.ended (is_after (inr (
      let run : p.run ≡ now.run = grind (arith, nat_tests) in run,
      let less : p.start < now.start = grind (arith, nat_tests) in less,
    ))) is
again_or_after p now next false false same after is = absurd (no_ok Older next is)

another : (p now next : Peer) (b : Bool) → is_made_later p now ≡ b → (if b then Ok (taken p now now.ended) else Err Place) ≡ Ok next → Takes p now next
another p now next true later is = took_so p now next now.ended (is_after (inl (let less : p.run < now.run = grind (arith, nat_tests) in less))) is
another p now next false later is = absurd (no_ok Place next is)

known_takes : (p now next : Peer) (b : Bool)
    → (if b then
    (if is_same_process p now then Ok (taken p now p.ended) else if (now.run == p.run) && nat_lt p.start now.start then Ok (taken p now now.ended) else Err Older)
    else if is_made_later p now then Ok (taken p now now.ended) else Err Place) ≡ Ok next → Takes p now next
known_takes p now next true is = again_or_after p now next (is_same_process p now) ((now.run == p.run) && nat_lt p.start now.start) refl refl is
known_takes p now next false is = another p now next (is_made_later p now) refl is

first_takes : (p now next : Peer) (b : Bool) → (p.identity == 0) ≡ b
    → (if b then Ok (taken p now now.ended) else
    if now.identity == p.identity then
    (if is_same_process p now then Ok (taken p now p.ended) else if (now.run == p.run) && nat_lt p.start now.start then Ok (taken p now now.ended) else Err Older)
    else if is_made_later p now then Ok (taken p now now.ended) else Err Place) ≡ Ok next → Takes p now next
first_takes p now next true none is = took_so p now next now.ended (is_first (eqb-true p.identity 0 none)) is
first_takes p now next false none is = known_takes p now next (now.identity == p.identity) is

pub takes : (p now next : Peer) → meets p now ≡ Ok next → Takes p now next
takes p now next is = first_takes p now next (p.identity == 0) refl is

-- ---- what each change keeps

-- from what a voter keeps to what it keeps later
pub record Moves (who : ℕ → Peer) (peer next : Peer) : Type 0 where
  pub known : IsKnown who peer → IsKnown who next
  pub reached : (p : ℕ) → IsKnown who peer → IsReached (who p) peer → IsReached (who p) next
  pub keeps : peer.ceiling ≤ next.ceiling

-- A voter that reached one process takes another one only if that is later, or the same one.
pub later_or_same : (who : ℕ → Peer) (p q ceiling ended : ℕ) (peer : Peer) → AreProcesses who → IsKnown who peer → IsReached (who p) peer
    → Why peer (says (who q) ceiling ended) → (p ≡ q) ⊎ Before (who p) (who q)
later_or_same who p q ceiling ended peer are known reached (is_first none) = absurd (let some = reached.somebody in omega arith)
later_or_same who p q ceiling ended peer are known reached (is_after later) = elim reached.reached [
  | inl same ↦ inr (same_before (who p) peer (who q) same later)
  | inr earlier ↦ inr (before_before (who p) peer (who q) earlier later)
]
later_or_same who p q ceiling ended peer are known reached (is_again start process) = elim reached.reached [
  | inl same ↦ inl (are.apart p q (same.process ∙ process))
  | inr earlier ↦ elim known [
    | inl none ↦ absurd (let some = reached.somebody in omega arith)
    | inr one ↦ (let is = are.apart one.0 q (one.1.process ∙ process) in
        inr (before_same (who p) peer (who q) earlier (subst (λ (r : ℕ). Same peer (who r)) is
        (record { identity = sym one.1.identity; run = sym one.1.run; start = sym one.1.start; process = sym one.1.process }))))
  ]
]

-- the process that is taken
pub reaches_it : (who : ℕ → Peer) (q ceiling ended : ℕ) (peer next : Peer) → AreProcesses who → Takes peer (says (who q) ceiling ended) next → IsReached (who q) next
reaches_it who q ceiling ended peer next are takes = record {
  somebody = (let some = are.somebody q in let is = takes.same.identity in omega arith);
  reached = inl (record { identity = takes.same.identity; run = takes.same.run; start = takes.same.start; process = takes.same.process });
}

pub taken_moves : (who : ℕ → Peer) (q ceiling ended : ℕ) (peer next : Peer) → AreProcesses who → Takes peer (says (who q) ceiling ended) next → Moves who peer next
taken_moves who q ceiling ended peer next are takes =
    let it = reaches_it who q ceiling ended peer next are takes in
    let same : Same (who q) next = record { identity = takes.same.identity; run = takes.same.run; start = takes.same.start; process = takes.same.process } in
    record {
      known = λ known. inr (q, same);
      reached = λ p known reached. record {
        somebody = it.somebody;
        reached = elim (later_or_same who p q ceiling ended peer are known reached takes.why) [
          | inl is ↦ inl (subst (λ (r : ℕ). Same (who r) next) (sym is) same)
          | inr earlier ↦ inr (before_same (who p) (who q) next earlier same)
        ];
      };
      keeps = takes.keeps;
    }

-- the same process, with another ceiling and another note of its end
pub changed : (who : ℕ → Peer) (peer next : Peer) → Same peer next → peer.ceiling ≤ next.ceiling → Moves who peer next
changed who peer next same keeps = record {
  known = λ known. elim known [
    | inl none ↦ inl (sym same.identity ∙ none)
    | inr one ↦ inr (one.0, same_same (who one.0) peer next one.1 same)
  ];
  reached = λ p known reached. record {
    somebody = (let some = reached.somebody in let is = same.identity in omega arith);
    reached = elim reached.reached [
      | inl is ↦ inl (same_same (who p) peer next is same)
      | inr earlier ↦ inr (before_same (who p) peer next earlier same)
    ];
  };
  keeps = keeps;
}

pub ended_moves : (who : ℕ → Peer) (peer : Peer) (identity start saves : ℕ) → Moves who peer (ended_with peer identity start saves)
ended_moves who peer identity start saves =
    elim ((peer.identity == identity) && (peer.start == start)) as (λ b. Moves who peer (if b then
    record { identity = peer.identity; run = peer.run; start = peer.start; process = peer.process; ceiling = peer.ceiling; ended = saves } else peer)) [
      | true ↦ changed who peer _ (record { identity = refl; run = refl; start = refl; process = refl }) (omega arith)
      | false ↦ changed who peer peer (same_self peer) (omega arith)
    ]

-- a later process than the one that is known, or the first one
later_moves : (who : ℕ → Peer) (q ceiling ended : ℕ) (peer : Peer) → AreProcesses who → (peer.identity ≡ 0) ⊎ Before peer (who q)
    → Moves who peer (raised_to (says (who q) ceiling ended) peer.ceiling)
later_moves who q ceiling ended peer are why = record {
  known = λ known. inr (q, record { identity = refl; run = refl; start = refl; process = refl });
  reached = λ p known reached. record {
    somebody = are.somebody q;
    reached = elim why [
      | inl none ↦ absurd (let some = reached.somebody in omega arith)
      | inr later ↦ elim reached.reached [
        | inl is ↦ inr (same_before (who p) peer (who q) is later)
        | inr earlier ↦ inr (before_before (who p) peer (who q) earlier later)
      ]
    ];
  };
  keeps = (greater ceiling peer.ceiling _ refl).1;
}

learns_by : (who : ℕ → Peer) (q ceiling ended : ℕ) (peer : Peer) (b c : Bool) → AreProcesses who → is_later peer (who q) ≡ b
    → (((who q).run == peer.run) && (peer.identity == 0)) ≡ c
    → Moves who peer (if b || c then raised_to (says (who q) ceiling ended) peer.ceiling else raised_to peer ceiling)
learns_by who q ceiling ended peer true c are later first = later_moves who q ceiling ended peer are (inr (before peer (who q) later))
learns_by who q ceiling ended peer false true are later first =
    later_moves who q ceiling ended peer are (inl (let none : peer.identity ≡ 0 = grind (arith, nat_tests) in none))
learns_by who q ceiling ended peer false false are later first =
    changed who peer _ (record { identity = refl; run = refl; start = refl; process = refl }) (greater peer.ceiling ceiling _ refl).0

pub learned_moves : (who : ℕ → Peer) (q ceiling ended : ℕ) (peer : Peer) → AreProcesses who → Moves who peer (later_of peer (says (who q) ceiling ended))
learned_moves who q ceiling ended peer are =
    learns_by who q ceiling ended peer (is_later peer (who q)) (((who q).run == peer.run) && (peer.identity == 0)) are refl refl
