-- Lemmas on the parts of an input of a story: names of two coteries, and faults of a script.
use Rattle.std.proofs.Common.{◌≡◌, ◌≢◌, ℕ, ◌+◌, ◌<◌, ◌≤◌, None, Some, List, [], length, take, sym, ◌∙◌}
use Rattle.std.specs.Prelude.{slice_get}
use Rattle.std.proofs.lemmas.List.{take_more_same}
use Rattle.std.proofs.lemmas.Option.{get_or_from_slice_get, slice_get-get_or, slice_get_past, slice_get_within}
use Rattle.std.proofs.Common.{get_or}
use Rattle.replay.specs.declared.fault.ReplayFault.{ReplayFault}
use Rattle.replay.specs.declared.fault.ReplayFault.TheVariants.{BadLine, OutOfMemory}
use Rattle.commands.specs.Faults.{replay_refusal}
use Rattle.stories.specs.Scripts.{IsBadText}
use Rattle.show_cli.specs.Stories.{RefusesScript}

-- one more name that is the same
pub same_more : (xs ys : List (List ℕ)) (i : ℕ) (x y : List ℕ) → take i xs ≡ take i ys → slice_get xs i ≡ Some x → slice_get ys i ≡ Some y → x ≡ y → take (i + 1) xs ≡ take (i + 1) ys
same_more xs ys i x y same hx hy e =
    take_more_same xs ys i [] (slice_get_within xs i x hx) (slice_get_within ys i y hy) same (get_or_from_slice_get xs i x [] hx ∙ e ∙ sym (get_or_from_slice_get ys i y [] hy))

-- a place within one list and past the end of the other
pub one_ended : (xs ys : List (List ℕ)) (i : ℕ) → i < length xs → length ys ≤ i → slice_get xs i ≢ slice_get ys i
one_ended xs ys i within past = λ e.
    let bad : Some (get_or xs i []) ≡ None = sym (slice_get-get_or xs i [] within) ∙ e ∙ slice_get_past ys i past in cc

-- the fault of a script is one of the input's last part
pub script_refused : (text : List ℕ) (fault : ReplayFault) → IsBadText text fault → RefusesScript text (replay_refusal fault)
script_refused text (BadLine line) h = h
script_refused text OutOfMemory h = tt
script_refused text fault h = absurd h
