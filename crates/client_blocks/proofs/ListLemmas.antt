-- lists whose members have so many numbers each, one member after the other
use Rattle.std.proofs.Common.{◌≡◌, ℕ, ◌*◌, ◌+◌, ◌-◌, ◌<◌, List, [], ◌∷◌, ◌++◌, Option, None, Some, length, length-append, suc, zero, take, drop, set, refl, ap, sym, ◌∙◌, arith}
use Rattle.std.specs.List.{flat_map}
use Rattle.std.proofs.Math.Seq.{drop-append_seam, take-add, take-append_seam}
use Rattle.std.proofs.lemmas.List.{append-nil, length-take-le, take-append-drop, take_more_set}
use Rattle.std.proofs.lemmas.List.Concat.{flat_map-append}
use Rattle.words.proofs.WordLemmas.{length-bytes_of}
use Rattle.words.specs.WordBytes.{bytes_of}
use Rattle.vote_leases.specs.Saved.{lease_words, option_words, taken_words, vote_words}
use Rattle.vote_leases.specs.declared.lease.VoterLease.{VoterLease}
use Rattle.vote_leases.specs.declared.vote.Taken.{Taken}
use Rattle.vote_leases.specs.declared.vote.Vote.{Vote}
use Rattle.own_stamps.specs.Stamps as stamps
use Rattle.own_stamps.specs.declared.stamps.OwnStamps.{OwnStamps}
use Rattle.client_blocks.specs.Bytes.{AreAllStamps, AreLeases, AreVotes, leases_words, stamps_words, votes_words}

-- ---- how long they are

length_option : (o : Option ℕ) → length (option_words o) ≡ 2
length_option None = refl
length_option (Some time) = refl

length_taken : (o : Option Taken) → length (taken_words o) ≡ 6
length_taken None = refl
length_taken (Some t) = ap (λ n. suc (suc (suc (suc n)))) (length_option t.beat)

pub length_vote : (v : Vote) → length (vote_words v) ≡ 9
length_vote v = ap (λ n. suc (suc (suc n))) (length_taken v.taken)

pub length_lease : (l : VoterLease) → length (lease_words l) ≡ 5
length_lease l = ap (λ n. suc (suc (suc n))) (length_option l.beat)

pub length_votes : (vs : List Vote) → length (votes_words vs) ≡ 9 * length vs
length_votes [] = refl
length_votes (v ∷ vs) =
    let one = length_vote v in
    let rest = length_votes vs in
    let both = length-append (vote_words v) (votes_words vs) in
    omega arith

pub length_leases : (ls : List VoterLease) → length (leases_words ls) ≡ 5 * length ls
length_leases [] = refl
length_leases (l ∷ ls) =
    let one = length_lease l in
    let rest = length_leases ls in
    let both = length-append (lease_words l) (leases_words ls) in
    omega arith

pub length_all_stamps : (ss : List OwnStamps) → length (stamps_words ss) ≡ 4 * length ss
length_all_stamps [] = refl
length_all_stamps (s ∷ ss) =
    let rest = length_all_stamps ss in
    let both = length-append (stamps.words_of s) (stamps_words ss) in
    omega arith

length_words : (bytes words : List ℕ) → bytes ≡ bytes_of words → length bytes ≡ 8 * length words
length_words bytes words is = ap (λ (l : List ℕ). length l) is ∙ length-bytes_of words

pub votes_len : (bytes : List ℕ) (vs : List Vote) → AreVotes bytes vs → length bytes ≡ 4608
votes_len bytes vs are =
    let long = length_words bytes (votes_words vs) are.bytes_are in
    let many = length_votes vs in
    let places = are.places in
    omega arith

pub leases_len : (bytes : List ℕ) (ls : List VoterLease) → AreLeases bytes ls → length bytes ≡ 2560
leases_len bytes ls are =
    let long = length_words bytes (leases_words ls) are.bytes_are in
    let many = length_leases ls in
    let places = are.places in
    omega arith

pub all_stamps_len : (bytes : List ℕ) (ss : List OwnStamps) → AreAllStamps bytes ss → length bytes ≡ 2048
all_stamps_len bytes ss are =
    let long = length_words bytes (stamps_words ss) are.bytes_are in
    let many = length_all_stamps ss in
    let places = are.places in
    omega arith

-- ---- a member at a place

pub record Member {A : Type 0} (xs : List A) (i : ℕ) : Type 0 where
  pub item : A
  pub behind : drop i xs ≡ item ∷ drop (suc i) xs
  pub before : take (suc i) xs ≡ take i xs ++ item ∷ []

pub member : {A : Type 0} → (xs : List A) (i : ℕ) → i < length xs → Member xs i
member [] i less = absurd (omega arith)
member (x ∷ xs) zero less = record { item = x; behind = refl; before = refl }
member (x ∷ xs) (suc i) less =
    let m = member xs i (omega arith) in
    record { item = m.item; behind = m.behind; before = ap (λ ys. x ∷ ys) m.before }

-- what is from a place on
from_place : {A : Type 0} → (f : A → List ℕ) (xs : List A) (i n : ℕ) → n ≡ length (flat_map f (take i xs)) → drop n (flat_map f xs) ≡ flat_map f (drop i xs)
from_place f xs i n is =
    let parts : flat_map f xs ≡ flat_map f (take i xs) ++ flat_map f (drop i xs) =
    ap (flat_map f) (sym (take-append-drop i xs)) ∙ flat_map-append f (take i xs) (drop i xs) in
    ap (λ k. drop k (flat_map f xs)) is ∙ ap (drop (length (flat_map f (take i xs)))) parts
    ∙ drop-append_seam (flat_map f (take i xs)) (flat_map f (drop i xs))

-- the numbers at a place are those of the member there
at_place : {A : Type 0} → (f : A → List ℕ) (k : ℕ) → ((x : A) → length (f x) ≡ k) → (xs : List A) (i n : ℕ) → n ≡ length (flat_map f (take i xs)) → (m : Member xs i)
    → take k (drop n (flat_map f xs)) ≡ f m.item
at_place f k h xs i n is m =
    let rest = flat_map f (drop (suc i) xs) in
    let e : drop n (flat_map f xs) ≡ f m.item ++ rest = from_place f xs i n is ∙ ap (flat_map f) m.behind in
    ap (take k) e ∙ ap (λ j. take j (f m.item ++ rest)) (sym (h m.item)) ∙ take-append_seam (f m.item) rest

-- so are those of a list that the words are
pub vote_there : (words : List ℕ) (vs : List Vote) (i : ℕ) → i < length vs → words ≡ votes_words vs → (m : Member vs i) → take 9 (drop (9 * i) words) ≡ vote_words m.item
vote_there words vs i less is m =
    let few : length (take i vs) ≡ i = length-take-le i vs (omega (arith, less)) in
    let many = length_votes (take i vs) in
    let n : 9 * i ≡ length (votes_words (take i vs)) = omega (arith, few, many) in
    ap (λ (ws : List ℕ). take 9 (drop (9 * i) ws)) is ∙ at_place vote_words 9 length_vote vs i (9 * i) n m

pub lease_there : (words : List ℕ) (ls : List VoterLease) (i : ℕ) → i < length ls → words ≡ leases_words ls → (m : Member ls i) → take 5 (drop (5 * i) words) ≡ lease_words m.item
lease_there words ls i less is m =
    let few : length (take i ls) ≡ i = length-take-le i ls (omega (arith, less)) in
    let many = length_leases (take i ls) in
    let n : 5 * i ≡ length (leases_words (take i ls)) = omega (arith, few, many) in
    ap (λ (ws : List ℕ). take 5 (drop (5 * i) ws)) is ∙ at_place lease_words 5 length_lease ls i (5 * i) n m

pub stamps_there : (words : List ℕ) (ss : List OwnStamps) (i : ℕ) → i < length ss → words ≡ stamps_words ss → (m : Member ss i) → take 4 (drop (4 * i) words) ≡ stamps.words_of m.item
stamps_there words ss i less is m =
    let few : length (take i ss) ≡ i = length-take-le i ss (omega (arith, less)) in
    let many = length_all_stamps (take i ss) in
    let n : 4 * i ≡ length (stamps_words (take i ss)) = omega (arith, few, many) in
    ap (λ (ws : List ℕ). take 4 (drop (4 * i) ws)) is ∙ at_place stamps.words_of 4 (λ s. refl) ss i (4 * i) n m

-- the numbers at a place, as code takes them
pub wide_9 : (words : List ℕ) (i : ℕ) → take ((9 * i + 9) - 9 * i) (drop (9 * i) words) ≡ take 9 (drop (9 * i) words)
wide_9 words i = ap (λ (n : ℕ). take n (drop (9 * i) words)) (let n : (9 * i + 9) - 9 * i ≡ 9 = omega arith in n)

pub wide_5 : (words : List ℕ) (i : ℕ) → take ((5 * i + 5) - 5 * i) (drop (5 * i) words) ≡ take 5 (drop (5 * i) words)
wide_5 words i = ap (λ (n : ℕ). take n (drop (5 * i) words)) (let n : (5 * i + 5) - 5 * i ≡ 5 = omega arith in n)

pub wide_4 : (words : List ℕ) (i : ℕ) → take ((4 * i + 4) - 4 * i) (drop (4 * i) words) ≡ take 4 (drop (4 * i) words)
wide_4 words i = ap (λ (n : ℕ). take n (drop (4 * i) words)) (let n : (4 * i + 4) - 4 * i ≡ 4 = omega arith in n)

-- ---- one member more

-- what is read so far is what the members so far are
pub text_more : {A : Type 0} → (f : A → List ℕ) (xs : List A) (x : A) (i n k : ℕ) (words : List ℕ) → i < length xs → flat_map f (take i xs) ≡ take n words
    → take k (drop n words) ≡ f x → flat_map f (take (i + 1) (set xs i x)) ≡ take (n + k) words
text_more f xs x i n k words less so_far is =
    let one : flat_map f (x ∷ []) ≡ f x = append-nil (f x) in
    ap (flat_map f) (take_more_set xs i x less) ∙ flat_map-append f (take i xs) (x ∷ []) ∙ (λ j. so_far j ++ (one ∙ sym is) j) ∙ sym (take-add n k words)

-- the members so far are those of any list that the words are
pub read_more : {A : Type 0} → (xs ys : List A) (x : A) (i : ℕ) → i < length xs → take i xs ≡ take i ys → (m : Member ys i) → m.item ≡ x
    → take (i + 1) (set xs i x) ≡ take (i + 1) ys
read_more xs ys x i less so_far m is =
    let next : take (i + 1) ys ≡ take i ys ++ m.item ∷ [] = ap (λ n. take n ys) (let e : i + 1 ≡ suc i = omega arith in e) ∙ m.before in
    take_more_set xs i x less ∙ (λ j. so_far j ++ sym is j ∷ []) ∙ sym next
