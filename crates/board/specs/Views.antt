-- What each seat knows.
use Rattle.std.specs.Prelude.{ℕ, ◌+◌, ◌-◌, ◌++◌, List, [], Option, None, Some, replicate, slice_set}
use Rattle.numbers.specs.Bounds.{max_voters}
use Rattle.board.specs.declared.table.View.{View}
use Rattle.board.specs.Words.{name_of, nobody}

-- the name of the current grant, or 0
abbrev pub current_name : Option (ℕ × ℕ) → ℕ
current_name None = 0
current_name (Some x) = name_of x.0 x.1

-- the view of a voter's seat
abbrev pub voter_view : ℕ → Option (ℕ × ℕ) → View
voter_view v current = record {
  parts = 1;
  voters = slice_set nobody v (current_name current + 1);
  client = 0;
  held = [];
  reading = None;
  passes = [];
}

-- the view of a client's seat
abbrev pub client_view : ℕ → List ℕ → Option (ℕ × ℕ) → List ℕ → View
client_view client held reading passes = record {
  parts = 1;
  voters = nobody;
  client = client;
  held = held;
  reading = reading;
  passes = passes;
}

-- the view of the first seat, the root: it stands for all seats and for itself
abbrev pub root_view : ℕ → ℕ → View
root_view voters clients = record {
  parts = voters + clients + 1;
  voters = replicate max_voters 1;
  client = 0;
  held = [];
  reading = None;
  passes = [];
}

-- the view of a seat that was joined
abbrev pub spent_view : View
spent_view = record { parts = 0; voters = nobody; client = 0; held = []; reading = None; passes = [] }

-- the root's view without the seat of voter n
abbrev pub without_voter : ℕ → View → View
without_voter n u = record u { parts = u.parts - 1; voters = slice_set u.voters n 0 }

-- the root's view without a client's seat
abbrev pub without_client : View → View
without_client u = record u { parts = u.parts - 1 }

-- the root's view with voter n's seat again
abbrev pub with_voter : ℕ → View → View → View
with_voter n u w = record u { parts = u.parts + w.parts; voters = slice_set u.voters n 1 }

-- the root's view with a client's seat again, and its passes
abbrev pub with_client : View → View → View
with_client u w = record u { parts = u.parts + w.parts; passes = u.passes ++ w.passes }
