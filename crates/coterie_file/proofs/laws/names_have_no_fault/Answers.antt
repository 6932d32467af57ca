use Rattle.coterie_file.proofs.NameLaws.{IsName-from_test, is_name-from_IsName, AreNames-from_no_fault, names_fault-none}
use Rattle.coterie_file.proofs.laws.names_have_no_fault.Goals as goal

pub returns : goal.returns
returns c = record {
  test = λ name. (IsName-from_test name, is_name-from_IsName name);
  names = λ names. (AreNames-from_no_fault names, names_fault-none names);
}
