-- A board and its seats, as contracts see them.
use Rattle.std.specs.Prelude.{ℕ, List, Option, Bool}
use Rattle.atomic_table.specs.Seated.{TableId}

-- What never changes:
-- - the voters 0 to voters - 1;
-- - the quorums, each as the list of its members;
-- - the clients 0 to clients - 1;
-- - the limit: the highest number of the register.
pub record Setting : Type 0 where
  pub voters : ℕ
  pub quorums : List (List ℕ)
  pub clients : ℕ
  pub limit : ℕ

-- A board: the same, which board it is, and how many of its quorums are those of its first coterie.
-- They come first, and then come those of its second coterie, if it has one.
pub record BoardState : Type 0 where
  pub table : TableId
  pub voters : ℕ
  pub quorums : List (List ℕ)
  pub firsts : ℕ
  pub clients : ℕ
  pub limit : ℕ

-- A voter's seat: its board, its voter, the current grant (client and number) if there is one, and
-- the number of the last grant.
pub record VoterSeatState : Type 0 where
  pub table : TableId
  pub voter : ℕ
  pub current : Option (ℕ × ℕ)
  pub last : ℕ

-- A client's seat:
-- - its board and its client;
-- - for each voter, the grant under which its vote is held, or 0;
-- - the place of the quorum in the board's list and the number of the last reading, if it still
--   counts;
-- - the pass numbers.
pub record ClientSeatState : Type 0 where
  pub table : TableId
  pub client : ℕ
  pub held : List ℕ
  pub reading : Option (ℕ × ℕ)
  pub passes : List ℕ

-- The root:
-- - its board;
-- - how many seats it has: those never given, and those joined again;
-- - for each voter and each client, whether its seat was never given;
-- - the passes of the joined seats, each as client and number.
pub record RootState : Type 0 where
  pub table : TableId
  pub seats : ℕ
  pub voters : List Bool
  pub clients : List Bool
  pub passes : List (ℕ × ℕ)
