-- How long the blocks are, rows in a table, and places in a text.
use Rattle.std.proofs.Common.{◌≡◌, ℕ, ◌+◌, ◌-◌, ◌*◌, ◌<◌, Bool, List, [], ◌∷◌, Option, None, Some, length, ap, refl, subst, sym, ◌∙◌, arith}
use Rattle.std.proofs.lemmas.List.{length-drop, length-take}
use Rattle.std.specs.Prelude.{drop}
use Rattle.sessions.specs.Rows.{Row}
use Rattle.session_rows.specs.Saved as rows
use Rattle.lease_clock.specs.Clocks.{Clock}
use Rattle.lease_clock.specs.Saved as clocks
use Rattle.lease_clock.proofs.SavedLemmas.{length-slots}
use Rattle.token_bucket.specs.Buckets.{Bucket}
use Rattle.token_bucket.specs.Saved as buckets
use Rattle.words.proofs.WordLemmas.{length-bytes_of}
use Rattle.words.specs.WordBytes.{bytes_of}
use Rattle.starts.specs.declared.peer.Peer.{Peer}
use Rattle.starts.specs.declared.start.Start.{Start}
use Rattle.starts.specs.Saved.{peer_words, start_words}
use Rattle.blocks.specs.Bytes.{IsBucket, IsClock, IsNoRow, IsPeer, IsRow, IsStart}
use Rattle.starts.specs.Starts.{needs}
use Rattle.blocks.specs.Numbers.{done}
use Rattle.blocks.specs.StartSteps.{StartNeeds}
use Rattle.blocks.specs.Tables.{AreRows, IsReadAs, row_at}

length-words : (bytes words : List ℕ) (n : ℕ) → bytes ≡ bytes_of words → length words ≡ n → length bytes ≡ 8 * n
length-words bytes words n is few = ap (λ (l : List ℕ). length l) is ∙ length-bytes_of words ∙ ap (λ k. 8 * k) few

length-session_words : (session : Option ℕ) (again : Bool) → length (rows.session_words session again) ≡ 3
length-session_words None again = refl
length-session_words (Some session) again = refl

pub length-row : (bytes : List ℕ) (r : Row) → IsRow bytes r → length bytes ≡ 48
length-row bytes r is = length-words bytes (rows.words_of r) 6 is.bytes_are (let few = length-session_words r.session r.again in omega arith)

pub length-clock : (bytes : List ℕ) (c : Clock) → IsClock bytes c → length bytes ≡ 304
length-clock bytes c is = length-words bytes (clocks.words_of c) 38 is.bytes_are (let few = length-slots 16 c.away in omega arith)

pub length-bucket : (bytes : List ℕ) (b : Bucket) → IsBucket bytes b → length bytes ≡ 40
length-bucket bytes b is = length-words bytes (buckets.words_of b) 5 is.bytes_are refl

pub length-peer : (bytes : List ℕ) (p : Peer) → IsPeer bytes p → length bytes ≡ 56
length-peer bytes p is = length-words bytes (peer_words p) 7 is.bytes_are (omega arith)

pub length-start : (bytes : List ℕ) (s : Start) → IsStart bytes s → length bytes ≡ 80
length-start bytes s is = length-words bytes (start_words s) 10 is.bytes_are (omega arith)

-- the start that made this step, as the one that the bytes are
pub needed : (before after : List ℕ) (it next : Start) (number : ℕ) → IsStart before it → ((s : Start) → IsStart before s → s ≡ it) → next ≡ needs it number
    → IsStart after next → StartNeeds before number after done
needed before after it next number loaded only is stored = record {
  no_start = λ none. absurd (none it loaded);
  needs = λ s at. (refl, subst (λ (t : Start). IsStart after t) (is ∙ ap (λ (t : Start). needs t number) (sym (only s at))) stored);
}

-- ---- rows in a table

no_room : (bytes : List ℕ) (o : Option Row) → IsReadAs bytes o → length bytes < 48 → None ≡ o
no_room bytes None is short = refl
no_room bytes (Some row) is short = (let long = length-row bytes row is in absurd (omega arith))

-- where a table has ended there is no row
pub past_table : (table : List ℕ) (rows : ℕ → Option Row) (number : ℕ) → AreRows table rows → length table < 48 * number + 48 → None ≡ rows number
past_table table rows number are short =
    let dropped = length-drop (48 * number) table in
    let taken = length-take 48 (drop (48 * number) table) in
    no_room (row_at table number) (rows number) (are number) (omega arith)

pub no_bytes : (table : List ℕ) (number : ℕ) → length table < 48 * number + 48 → IsNoRow (row_at table number)
no_bytes table number short =
    let dropped = length-drop (48 * number) table in
    let taken = length-take 48 (drop (48 * number) table) in
    λ row is. (let long = length-row (row_at table number) row is in absurd (omega arith))

-- ---- the first line of a text

pub places_of : (text name line rest n l : List ℕ) (behind : ℕ) → length text ≡ length n + length l + 2 + length rest → behind ≡ length text - length rest → n ≡ name → l ≡ line
    → length n ∷ length l ∷ behind ∷ [] ≡ length name ∷ length line ∷ (length name + length line + 2) ∷ []
places_of text name line rest n l behind long is same also =
    let end : behind ≡ length n + length l + 2 = omega arith in
    ap (λ (k : ℕ). length n ∷ length l ∷ k ∷ []) end
    ∙ ap (λ (m : List ℕ). length m ∷ length l ∷ (length m + length l + 2) ∷ []) same
    ∙ ap (λ (m : List ℕ). length name ∷ length m ∷ (length name + length m + 2) ∷ []) also
