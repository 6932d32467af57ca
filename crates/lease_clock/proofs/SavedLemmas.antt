-- a clock as numbers
use Rattle.std.proofs.Common.{◌≡◌, ℕ, ◌+◌, ◌-◌, ◌*◌, ◌<◌, ◌≤◌, false, List, [], ◌∷◌, ◌++◌, length, drop, get_or, refl, sym, ap, ◌∙◌, arith, append_assoc, get_or-drop}
use Rattle.std.specs.Prelude.{zero, suc, ◌==◌, if◌then◌else◌}
use Rattle.std.proofs.Math.ListN.{drop_of_length-le}
use Rattle.std.proofs.lemmas.List.{append-nil, drop-drop}
use Rattle.std.proofs.lemmas.Bool.Decides.{nat_tests}
use Rattle.lease_clock.specs.Clocks.{AreInOrder}
use Rattle.lease_clock.specs.Saved.{slots}
use Rattle.lease_clock.specs.declared.marker.Marker.{Marker}

-- the marker of an empty slot
abbrev pub none : Marker
none = record { number = 0; left = 0 }

-- ---- markers as slots

slots_first : (k : ℕ) (ms : List Marker) → slots (suc k) ms ≡ (get_or ms 0 none).number ∷ (get_or ms 0 none).left ∷ slots k (drop 1 ms)
unfolding slots
slots_first k [] = refl
slots_first k (m ∷ ms) = refl

pub slot_more : (n k i : ℕ) (ms : List Marker) → n - i ≡ suc k
    → slots (n - i) (drop i ms) ≡ (get_or ms i none).number ∷ (get_or ms i none).left ∷ slots (n - (i + 1)) (drop (i + 1) ms)
slot_more n k i ms left =
    let one = slots_first k (drop i ms) in
    let here = get_or-drop i ms 0 none in
    let same : i + 0 ≡ i = omega arith in
    let rest = drop-drop 1 i ms in
    let fewer : n - (i + 1) ≡ k = omega arith in
    rw (left, fewer) (one ∙ ap (λ (m : Marker). m.number ∷ m.left ∷ slots k (drop 1 (drop i ms))) (here ∙ ap (λ j. get_or ms j none) same)
    ∙ ap (λ (xs : List Marker). (get_or ms i none).number ∷ (get_or ms i none).left ∷ slots k xs) rest)

-- one more slot is written
pub slots_go : (words more most : List ℕ) (i : ℕ) (ms : List Marker) (m : Marker) → i < 16 → m ≡ get_or ms i none → more ≡ words ++ m.number ∷ [] → most ≡ more ++ m.left ∷ []
    → words ++ slots (16 - i) (drop i ms) ≡ slots 16 ms → most ++ slots (16 - (i + 1)) (drop (i + 1) ms) ≡ slots 16 ms
slots_go words more most i ms m within is first second so_far =
    let rest = slots (16 - (i + 1)) (drop (i + 1) ms) in
    let step = slot_more 16 (16 - (i + 1)) i ms (omega arith) in
    let here : slots (16 - i) (drop i ms) ≡ m.number ∷ m.left ∷ rest = step ∙ ap (λ (n : Marker). n.number ∷ n.left ∷ rest) (sym is) in
    let joined : most ++ rest ≡ words ++ (m.number ∷ m.left ∷ rest) =
    ap (λ (ws : List ℕ). ws ++ rest) second ∙ append_assoc more (m.left ∷ []) rest ∙ ap (λ (ws : List ℕ). ws ++ (m.left ∷ rest)) first ∙ append_assoc words (m.number ∷ []) (m.left ∷ rest) in
    joined ∙ ap (λ (ws : List ℕ). words ++ ws) (sym here) ∙ so_far

no_slots : (ms : List Marker) → slots 0 ms ≡ []
unfolding slots
no_slots ms = refl

pub slots_done : (words : List ℕ) (i : ℕ) (ms : List Marker) → 16 ≤ i → words ++ slots (16 - i) (drop i ms) ≡ slots 16 ms → words ≡ slots 16 ms
slots_done words i ms past so_far =
    let none_left : 16 - i ≡ 0 = omega arith in
    sym (append-nil words) ∙ ap (λ (ws : List ℕ). words ++ ws) (sym (ap (λ n. slots n (drop i ms)) none_left ∙ no_slots (drop i ms))) ∙ so_far

pub length-slots : (n : ℕ) (ms : List Marker) → length (slots n ms) ≡ 2 * n
unfolding slots
length-slots zero ms = refl
length-slots (suc n) [] = let e = length-slots n [] in omega arith
length-slots (suc n) (m ∷ ms) = let e = length-slots n ms in omega arith

-- ---- slots as markers

-- the markers in slots that are not empty
abbrev pub filled : List ℕ → List Marker
filled [] = []
filled (n ∷ []) = []
filled (n ∷ l ∷ ws) = if n == 0 then filled ws else record { number = n; left = l } ∷ filled ws

empty_slots : (n : ℕ) → filled (slots n []) ≡ []
unfolding slots
empty_slots zero = refl
empty_slots (suc n) = empty_slots n

pub filled_slots : (n : ℕ) (first last : Marker) (ms : List Marker) → AreInOrder first ms last → length ms ≤ n → filled (slots n ms) ≡ ms
unfolding slots
filled_slots n first last [] o few = empty_slots n
filled_slots zero first last (m ∷ ms) o few = absurd (omega arith)
filled_slots (suc n) first last (m ∷ ms) o few =
    let some : (m.number == 0) ≡ false = (let more = o.0 in grind (arith, nat_tests)) in
    rw some (ap (λ (xs : List Marker). m ∷ xs) (filled_slots n m last ms o.2 (omega arith)))

-- all slots are read
pub all_read : (items ms : List Marker) (words : List ℕ) (i : ℕ) (first last : Marker) → 16 ≤ i → length words ≡ 32 → items ++ filled (drop (2 * i) words) ≡ filled words
    → AreInOrder first ms last → length ms ≤ 16 → words ≡ slots 16 ms → items ≡ ms
all_read items ms words i first last past len so_far ordered few is =
    let over : drop (2 * i) words ≡ [] = drop_of_length-le words (let past : length words ≤ 2 * i = omega arith in past) in
    sym (append-nil items) ∙ ap (λ (ws : List ℕ). items ++ filled ws) (sym over) ∙ so_far ∙ ap filled is ∙ filled_slots 16 first last ms ordered few
