-- Which of two requests precedes the other (Maekawa, ACM TOCS 3(2), 1985, after Lamport's order).
use Rattle.std.specs.Prelude.{ℕ, nat_lt, ◌==◌, ◌&&◌, ◌||◌, Bool}
use Rattle.message.specs.declared.request.Request.{Request}

-- the request with the smaller stamp precedes; of equal stamps, that of the smaller client
abbrev pub precedes : Request → Request → Bool
precedes a b = nat_lt a.stamp b.stamp || (a.stamp == b.stamp && nat_lt a.client b.client)
