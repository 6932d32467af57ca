use Rattle.coterie_file.proofs.StringLaws.{texts_of-strings, strings-texts_of, text_lists_of-arrays, arrays-text_lists_of}
use Rattle.coterie_file.proofs.laws.lists_are_arrays_of_strings.Goals as goal

pub returns : goal.returns
returns c = record {
  texts = λ items texts. (texts_of-strings items texts, strings-texts_of items texts);
  lists = λ items lists. (text_lists_of-arrays items lists, arrays-text_lists_of items lists);
}
