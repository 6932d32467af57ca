-- The waiting requests of a voter: a map from each waiting client to its stamp.
use Rattle.std.specs.Prelude.{ℕ, ◌≡◌, ◌≢◌, ◌<◌, ◌==◌, true, not, List, [], ◌∷◌, map, Option, Some, None, if◌then◌else◌, unwrap_or}
use Rattle.std.specs.Ordering.{nat_cmp}
use Rattle.std.specs.List.{AllByRecursion, filter, range_with_len}
use Rattle.std.specs.FinMap.{FinMap, entries, from_entries, get}
use Rattle.numbers.specs.Bounds.{max_clients}
use Rattle.message.specs.declared.request.Request.{Request}
use Rattle.message.specs.Requests.{precedes}

-- the waiting requests: a finite map from client to the stamp of its request
abbrev pub Waiting : Type 0
Waiting = FinMap nat_cmp ℕ

-- an entry of the map, as a request
abbrev pub request : ℕ × ℕ → Request
request e = record { stamp = e.1; client = e.0 }

-- the one of two requests that precedes the other
abbrev pub first_of : Request → Option Request → Request
first_of r None = r
first_of r (Some q) = if precedes q r then q else r

-- the request of this list that precedes the others
abbrev pub least : List (ℕ × ℕ) → Option Request
least [] = None
least (e ∷ es) = Some (first_of (request e) (least es))

-- the request that precedes the others
unfoldable pub front : Waiting → Option Request
front w = least (entries w)

-- a request of the code's list, which is in order, as an entry of the map
abbrev pub entry : Request → ℕ × ℕ
entry r = (r.client, r.stamp)

-- the map of the requests in the code's list
unfoldable pub waiting_of : List Request → Waiting
waiting_of rs = from_entries (map entry rs)

-- for each client the stamp of its waiting request, 0 if it doesn't wait
abbrev pub waiting_words : Waiting → List ℕ
waiting_words w = map (λ c. unwrap_or (get w c) 0) (range_with_len 0 max_clients)

-- the first request precedes the second, and they are of two clients
pub record Follows (r q : Request) : Type 0 where
  pub later : precedes r q ≡ true
  pub other : r.client ≢ q.client

-- requests of clients below 64, each before all that follow it, and at most one for each client
abbrev pub IsQueue : List Request → Type 0
IsQueue [] = Unit {0}
IsQueue (r ∷ rs) = (r.client < max_clients) × AllByRecursion (Follows r) rs × IsQueue rs

-- the requests of the other clients
abbrev pub without : ℕ → List Request → List Request
without client rs = filter (λ r. not (r.client == client)) rs
