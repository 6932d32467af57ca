-- The record of a cluster that was closed.
use Rattle.std.proofs.Common.{◌≡◌, Option, None, Some, IfSome, refl, ℕ, List, length, get_or, sym, subst}
use Rattle.std.specs.List.{range_with_len}
use Rattle.std.specs.List.Sorted.{IsPermutation}
use Rattle.std.proofs.lemmas.List.Sorted.{IsPermutation-refl}
use Rattle.numbers.proofs.CountLemmas.{times-permuted}
use Rattle.run_outcome.specs.declared.record.RunRecord.{RunRecord}
use Rattle.quorum_set.specs.declared.bridge.Side.TheVariants.{First, Second}
use Rattle.dealer.specs.Offices.{OfficeName}
use Rattle.clerks.specs.Clerks.{IsDealt}
use Rattle.members.specs.Clusters.{ClusterState}
use Rattle.members.specs.Members.{MemberState}
use Rattle.members.specs.Records.{AreInOrder, IsRecordOf}
use Rattle.replay.specs.Records.{EachOnce, IsSoundRecord, entries_on}

-- the numbers 0, 1, 2 and so on stand once each
once_each : (ns : List ℕ) → AreInOrder ns → EachOnce ns
once_each ns up = record {
  in_all = refl;
  each_once = λ n lt. times-permuted (length ns) n ns (subst (IsPermutation (range_with_len 0 (length ns))) (sym up) (IsPermutation-refl _)) lt;
}

-- the record is sound for the first plan
pub IsSoundRecord-first : (c : ClusterState) (members : List MemberState) (r : RunRecord) → IsRecordOf c members r → IsSoundRecord c.office.cycle (entries_on First r)
IsSoundRecord-first c members r is = record {
  tickets = once_each _ is.first.tickets;
  quorums = λ k d lt. (is.first.each k d lt).quorum;
  numbers = once_each _ is.numbers;
  register = is.register;
}

-- the record is sound for the second plan, if there is one
pub IsSoundRecord-second : (c : ClusterState) (members : List MemberState) (r : RunRecord) → IsRecordOf c members r → IfSome c.second (λ o. IsSoundRecord o.cycle (entries_on Second r))
IsSoundRecord-second c members r is = by c.second refl
  where
    by : (o : Option OfficeName) → c.second ≡ o → IfSome o (λ n. IsSoundRecord n.cycle (entries_on Second r))
    by None at = tt
    by (Some n) at = record {
      tickets = once_each _ is.second.tickets;
      quorums = λ k d lt. subst (λ (s : Option OfficeName). IsDealt (c.office, s) Second (get_or r.draws2.items k d).1 (get_or r.draws2.items k d).2) at (is.second.each k d lt).quorum;
      numbers = once_each _ is.numbers;
      register = is.register;
    }
