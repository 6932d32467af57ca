-- The root gives seats and takes them back: cutting a view in two, and joining two, keep the rule.
use Rattle.std.proofs.Common.{◌≡◌, ◌≢◌, ⊎_elim, ℕ, ◌+◌, ◌-◌, ◌/◌, ◌<◌, ◌≤◌, List, [], ◌∷◌, ◌++◌, length, set, None, refl, sym, ap, ◌∙◌, subst, arith, get_or-set_same, get_or-set_other}
use Rattle.std.specs.Prelude.{slice_index, Option}
use Rattle.std.specs.List.{sum_by}
use Rattle.std.proofs.lemmas.List.Sums.{sum_by_push, sum_by-append}
use Rattle.std.proofs.lemmas.List.{length-replicate, get_or-replicate, get_or_past}
use mathlib.Core.Option.{some}
use mathlib.Core.Logic.{dite}
use native.Mathlib.Decide.{ℕ_discrete, dec_le}
use lib.ListN.{get_elem?}
use Rattle.atomic_table.specs.Table.{Splits, Joins}
use Rattle.atomic_table.proofs.Lists.{at_snoc, set_else}
use Rattle.numbers.proofs.SumLemmas.{sum_by-set_elem, two-le-sum_by}
use Rattle.board.specs.declared.table.View.{View}
use Rattle.board.specs.Seats.{Setting}
use Rattle.board.specs.Words.{name_of, is, nobody}
use Rattle.board.specs.Rule.{presence, holds_vote, IsVote, IsReading, IsKept, Kept}
use Rattle.board.specs.Views.{current_name, voter_view, client_view, without_voter, without_client, with_voter, with_client, spent_view}
use Rattle.board.proofs.Words.{is-same, is-apart}
use Rattle.board.proofs.Votes.{TableState, each-set_view, IsVote-presence}

-- nothing is read past the end, and of nobody
pub nobody-at : (k : ℕ) → slice_index nobody k ≡ 0
nobody-at k = in_range (dec_le 64 k)
  where
    in_range : Dec (64 ≤ k) → slice_index nobody k ≡ 0
    in_range (yes far) = get_or_past nobody k 0 (omega (arith, length-replicate {A = ℕ} 64 0))
    in_range (no near) = get_or-replicate 64 k 0 0 (omega arith)

-- The rule after one view was changed and another added. Of each vote and in the other sums the two are what the one was
split_keeps : (sheet : Setting) (s : TableState) → Kept sheet s → (id : ℕ) (u l n : View) → get_elem? s.views id ≡ some u
    → ((v : ℕ) → v < sheet.voters → (name : ℕ) → presence v name l + presence v name n ≡ presence v name u)
    → ((v : ℕ) → v < sheet.voters → (name : ℕ) → 64 ≤ name → holds_vote v name l + holds_vote v name n ≡ holds_vote v name u)
    → (l.parts + n.parts ≡ u.parts) → ((h : ℕ → ℕ) → sum_by h l.passes + sum_by h n.passes ≡ sum_by h u.passes)
    → ((x : ℕ) → IsReading sheet x u → IsReading sheet x l × IsReading sheet x n)
    → ((u.parts ≡ 0 → u.passes ≡ []) → (l.parts ≡ 0 → l.passes ≡ []) × (n.parts ≡ 0 → n.passes ≡ []))
    → (u.client < 64 → (l.client < 64) × (n.client < 64))
    → IsKept sheet s.words (set s.views id l ++ n ∷ [])
split_keeps sheet s r id u l n at voters held parts passes reading idle client =
    let x : ℕ = slice_index s.words sheet.voters in
    let clients = client (r.client id u at) in
    let both = reading x (r.readings id u at) in
    let none_kept = idle (r.idle id u at) in
    let all : (F : View → Type 0) → F l → F n → ((i : ℕ) (z : View) → get_elem? s.views i ≡ some z → F z) → (i : ℕ) (z : View) → get_elem? (set s.views id l ++ n ∷ []) i ≡ some z → F z =
    λ F of_l of_n old i z e. ⊎_elim (λ was. each-set_view F s.views id l (λ j y _ d. old j y d) of_l i z was) (λ (d : n ≡ z). subst F d of_n) (at_snoc (set s.views id l) n z i e) in
    record {
      long = r.long;
      votes = λ v inside. let vote = r.votes v inside in record {
        shape = vote.shape;
        current = λ name. omega (arith, sum_by_push (presence v name) (set s.views id l) n, sum_by-set_elem (presence v name) s.views id u l at, vote.current name, voters v inside name);
        held = λ name large. omega (arith, sum_by_push (holds_vote v name) (set s.views id l) n, sum_by-set_elem (holds_vote v name) s.views id u l at, vote.held name large, held v inside name large);
      };
      readings = all (IsReading sheet x) both.0 both.1 r.readings;
      passes = λ h. omega (arith, sum_by_push (λ (z : View). sum_by h z.passes) (set s.views id l) n, sum_by-set_elem (λ (z : View). sum_by h z.passes) s.views id u l at, r.passes h, passes h);
      parts = omega (arith, sum_by_push (λ (z : View). z.parts) (set s.views id l) n, sum_by-set_elem (λ (z : View). z.parts) s.views id u l at, r.parts);
      idle = all (λ z. z.parts ≡ 0 → z.passes ≡ []) none_kept.0 none_kept.1 r.idle;
      client = all (λ z. z.client < 64) clients.0 clients.1 r.client;
      limit = r.limit;
      small = r.small;
      few = r.few;
    }

-- a voter's seat is to all other votes nobody's
far_present : (n v : ℕ) (current : Option (ℕ × ℕ)) → v ≢ n → (name : ℕ) → presence v name (voter_view n current) ≡ 0
far_present n v current far name = is-apart (slice_index (set nobody n (current_name current + 1)) v) (name + 1) (λ e. let z = get_or-set_other nobody n v (current_name current + 1) 0 far
    ∙ nobody-at v in omega arith)

-- no vote is held by who holds none
pub none_held : (v name : ℕ) (u : View) → u.client < 64 → slice_index u.held v ≡ 0 → 64 ≤ name → holds_vote v name u ≡ 0
none_held v name u few free large = is-apart (name_of u.client (slice_index u.held v)) name (λ e. omega arith)

pub Splits-without_voter : (sheet : Setting) (id : ℕ) (u : View) (n : ℕ) → n < 64 → length u.voters ≡ 64 → slice_index u.voters n ≡ 1 → 1 < u.parts
    → Splits (Kept sheet) id u (without_voter n u) (voter_view n None)
Splits-without_voter sheet id u n few wide one some_part s r at =
    let l = without_voter n u in
    let m = voter_view n None in
    split_keeps sheet s r id u l m at
    (λ v inside name. dite (ℕ_discrete v n)
    (λ e. let a : slice_index l.voters v ≡ 0 = ap (slice_index l.voters) e ∙ get_or-set_same u.voters n 0 0 (omega arith) in
    let b : slice_index m.voters v ≡ 1 = ap (slice_index m.voters) e ∙ get_or-set_same nobody n 1 0 (omega (arith, length-replicate {A = ℕ} 64 0)) in
    let c : slice_index u.voters v ≡ 1 = ap (slice_index u.voters) e ∙ one in
    let z : is (slice_index l.voters v) (name + 1) ≡ 0 = is-apart (slice_index l.voters v) (name + 1) (λ d. omega arith) in
    let same : is (slice_index m.voters v) (name + 1) ≡ is (slice_index u.voters v) (name + 1) = ap (λ (k : ℕ). is k (name + 1)) (b ∙ sym c) in
    omega arith)
    (λ far. let same : is (slice_index l.voters v) (name + 1) ≡ is (slice_index u.voters v) (name + 1) = ap (λ (k : ℕ). is k (name + 1)) (get_or-set_other u.voters n v 0 0 far) in
    omega (arith, far_present n v None far name)))
    (λ v inside name large. omega (arith, none_held v name m (omega arith) (get_or_past [] v 0 (omega arith)) large))
    (omega arith)
    (λ h. omega arith)
    (λ x reading. (reading, tt))
    (λ idle. ((λ none. absurd (omega arith)), λ _. refl))
    (λ small. (small, omega arith))

pub Splits-without_client : (sheet : Setting) (id : ℕ) (u : View) (n : ℕ) → n < 64 → 1 < u.parts → Splits (Kept sheet) id u (without_client u) (client_view n nobody None [])
Splits-without_client sheet id u n few some_part s r at =
    let m = client_view n nobody None [] in
    split_keeps sheet s r id u (without_client u) m at
    (λ v inside name. let z : is (slice_index nobody v) (name + 1) ≡ 0 = is-apart (slice_index nobody v) (name + 1) (λ d. let e = nobody-at v in omega arith) in omega arith)
    (λ v inside name large. omega (arith, none_held v name m few (nobody-at v) large))
    (omega arith)
    (λ h. omega arith)
    (λ x reading. (reading, tt))
    (λ idle. ((λ none. absurd (omega arith)), λ _. refl))
    (λ small. (small, few))

-- The rule after one view took in another. Of each vote and in the other sums the one is what the two were
join_keeps : (sheet : Setting) (s : TableState) → Kept sheet s → (id other : ℕ) (u w b : View) → get_elem? s.views id ≡ some u → ¬ (other ≡ id) → get_elem? s.views other ≡ some w
    → ((v : ℕ) → v < sheet.voters → (name : ℕ) → presence v name b ≡ presence v name u + presence v name w)
    → ((v : ℕ) → v < sheet.voters → (name : ℕ) → 64 ≤ name → holds_vote v name b ≡ holds_vote v name u + holds_vote v name w)
    → (b.parts ≡ u.parts + w.parts) → ((h : ℕ → ℕ) → sum_by h b.passes ≡ sum_by h u.passes + sum_by h w.passes)
    → ((x : ℕ) → IsReading sheet x u → IsReading sheet x b)
    → (b.parts ≡ 0 → b.passes ≡ [])
    → b.client ≡ u.client
    → IsKept sheet s.words (set (set s.views id b) other spent_view)
join_keeps sheet s r id other u w b at apart there voters held parts passes reading idle client =
    let x : ℕ = slice_index s.words sheet.voters in
    let there' : get_elem? (set s.views id b) other ≡ some w = set_else s.views id other b apart ∙ there in
    let all : (F : View → Type 0) → F b → F spent_view → ((i : ℕ) (z : View) → get_elem? s.views i ≡ some z → F z) → (i : ℕ) (z : View)
    → get_elem? (set (set s.views id b) other spent_view) i ≡ some z → F z =
    λ F of_b of_spent old. each-set_view F (set s.views id b) other spent_view (λ j y _ d. each-set_view F s.views id b (λ k q _ f. old k q f) of_b j y d) of_spent in
    let spent_present : (v name : ℕ) → presence v name spent_view ≡ 0 = λ v name. is-apart (slice_index nobody v) (name + 1) (λ d. let e = nobody-at v in omega arith) in
    record {
      long = r.long;
      votes = λ v inside. let vote = r.votes v inside in record {
        shape = vote.shape;
        current = λ name. omega (
          arith,
          sum_by-set_elem (presence v name) (set s.views id b) other w spent_view there',
          sum_by-set_elem (presence v name) s.views id u b at,
          vote.current name,
          voters v inside name,
          spent_present v name,
        );
        held = λ name large. omega (
          arith,
          sum_by-set_elem (holds_vote v name) (set s.views id b) other w spent_view there',
          sum_by-set_elem (holds_vote v name) s.views id u b at,
          vote.held name large,
          held v inside name large,
          none_held v name spent_view (omega arith) (get_or_past [] v 0 (omega arith)) large,
        );
      };
      readings = all (IsReading sheet x) (reading x (r.readings id u at)) tt r.readings;
      passes = λ h. omega (
        arith,
        sum_by-set_elem (λ (z : View). sum_by h z.passes) (set s.views id b) other w spent_view there',
        sum_by-set_elem (λ (z : View). sum_by h z.passes) s.views id u b at,
        r.passes h,
        passes h,
      );
      parts = omega (arith, sum_by-set_elem (λ (z : View). z.parts) (set s.views id b) other w spent_view there', sum_by-set_elem (λ (z : View). z.parts) s.views id u b at, r.parts);
      idle = all (λ z. z.parts ≡ 0 → z.passes ≡ []) idle (λ _. refl) r.idle;
      client = all (λ z. z.client < 64) (omega (arith, r.client id u at, client)) (omega arith) r.client;
      limit = r.limit;
      small = r.small;
      few = r.few;
    }

-- the view of the other seat, before the first was changed
was_there : (views : List View) (id other : ℕ) (b w : View) → ¬ (other ≡ id) → get_elem? (set views id b) other ≡ some w → get_elem? views other ≡ some w
was_there views id other b w apart e = sym (set_else views id other b apart) ∙ e

-- two seats don't both stand for one voter
pub IsVote-one_has : (v word : ℕ) (views : List View) → IsVote v word views → (i j : ℕ) (u w : View) → i ≢ j → get_elem? views i ≡ some u → get_elem? views j ≡ some w
    → (a b : ℕ) → slice_index u.voters v ≡ a + 1 → slice_index w.voters v ≡ b + 1 → ⊥
IsVote-one_has v word views r i j u w apart at at' a b of_u of_w =
    let x = IsVote-presence v word views r i u at a of_u in
    let y = IsVote-presence v word views r j w at' b of_w in
    let one : presence v a u ≡ 1 = is-same (slice_index u.voters v) (a + 1) of_u in
    let two : presence v a w ≡ 1 = is-same (slice_index w.voters v) (a + 1) (omega arith) in
    let most : is (word / 4) a ≡ 1 = is-same (word / 4) a x in
    omega (arith, two-le-sum_by (presence v a) views i j u w apart at at', r.current a)

pub Joins-with_voter : (sheet : Setting) (id : ℕ) (u : View) (other n : ℕ) → n < sheet.voters → n < 64 → length u.voters ≡ 64
    → Joins (Kept sheet) id u other (voter_view n None) (with_voter n u (voter_view n None)) spent_view
Joins-with_voter sheet id u other n inside few wide s r at apart changed =
    let w = voter_view n None in
    let b = with_voter n u w in
    let there = was_there s.views id other b w apart changed in
    let word : ℕ = slice_index s.words n in
    let mine : slice_index w.voters n ≡ 1 = get_or-set_same nobody n 1 0 (omega (arith, length-replicate {A = ℕ} 64 0)) in
    let none : slice_index u.voters n ≡ 0 = dite (ℕ_discrete (slice_index u.voters n) 0) (λ e. e)
    (λ some_name. absurd (IsVote-one_has n word s.views (r.votes n inside) id other u w (λ e. apart (sym e)) at there (slice_index u.voters n - 1) 0 (omega arith) mine)) in
    join_keeps sheet s r id other u w b at apart there
    (λ v in_range name. dite (ℕ_discrete v n)
    (λ e. let a : slice_index b.voters v ≡ 1 = ap (slice_index b.voters) e ∙ get_or-set_same u.voters n 1 0 (omega arith) in
    let c : slice_index w.voters v ≡ 1 = ap (slice_index w.voters) e ∙ mine in
    let z : is (slice_index u.voters v) (name + 1) ≡ 0 = is-apart (slice_index u.voters v) (name + 1) (λ d. let y = ap (slice_index u.voters) e in omega arith) in
    let same : is (slice_index b.voters v) (name + 1) ≡ is (slice_index w.voters v) (name + 1) = ap (λ (k : ℕ). is k (name + 1)) (a ∙ sym c) in
    omega arith)
    (λ far. let same : is (slice_index b.voters v) (name + 1) ≡ is (slice_index u.voters v) (name + 1) = ap (λ (k : ℕ). is k (name + 1)) (get_or-set_other u.voters n v 1 0 far) in
    omega (arith, far_present n v None far name)))
    (λ v in_range name large. omega (arith, none_held v name w (omega arith) (get_or_past [] v 0 (omega arith)) large))
    refl
    (λ h. omega arith)
    (λ x reading. reading)
    (λ none. absurd (omega arith))
    refl

pub Joins-with_client : (sheet : Setting) (id : ℕ) (u : View) (other n : ℕ) (held : List ℕ) (reading : Option (ℕ × ℕ)) (passes : List ℕ) → n < 64 → ((v : ℕ) → slice_index held v ≡ 0) → 0 < u.parts
    → Joins (Kept sheet) id u other (client_view n held reading passes) (with_client u (client_view n held reading passes)) spent_view
Joins-with_client sheet id u other n held reading passes few free some_part s r at apart changed =
    let w = client_view n held reading passes in
    let b = with_client u w in
    let there = was_there s.views id other b w apart changed in
    join_keeps sheet s r id other u w b at apart there
    (λ v in_range name. let z : is (slice_index nobody v) (name + 1) ≡ 0 = is-apart (slice_index nobody v) (name + 1) (λ d. let e = nobody-at v in omega arith) in omega arith)
    (λ v in_range name large. omega (arith, none_held v name w few (free v) large))
    refl
    (λ h. sum_by-append h u.passes passes)
    (λ x old. old)
    (λ no_part. absurd (omega arith))
    refl
