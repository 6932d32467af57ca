use Rattle.plan_texts.proofs.Numbers.{number_of-Some, number_of-written}
use Rattle.plan_texts.proofs.laws.numbers_have_one_text.Goals as goal

pub returns : goal.returns
returns c = λ digits bytes n few. (number_of-Some digits bytes n, λ h. number_of-written digits bytes n few h.0 h.1)
