use Rattle.std.proofs.Common.{◌≡◌, ◌+◌, ◌++◌, map}
use Rattle.std.specs.Prelude.{unwrap_or}
use Rattle.std.specs.FinMap.{get}
use Rattle.std.specs.List.{range_with_len}
use Rattle.arrayvec.specs.ArrayVec.{array_vec_len}
use Rattle.voter.proofs.state.VoterState.push_waiting.Given as goal

abbrev pub invariant-loop-client : goal.invariant-loop-client
invariant-loop-client l = record {
  stamps : l.words.items ≡ l.initial.words.items ++ map (λ c. unwrap_or (get l.self.waiting c) 0) (range_with_len 0 l.client);
  len : array_vec_len l.words ≡ array_vec_len l.initial.words + l.client;
}
