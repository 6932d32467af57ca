-- The line of a turn with a number is that of a step, or the turn is no step.
use Rattle.std.proofs.Common.{◌≡◌, ℕ, Option, Some, None, List, [], ◌∷◌}
use Rattle.texts.specs.Forms.{IsLineOf}
use Rattle.world_state.specs.declared.step.Step.{Step}
use Rattle.world_state.specs.declared.step.Step.TheVariants.{Ask, Exchange}
use Rattle.replay.specs.Scripts.{step_form}
use Rattle.stories.specs.declared.turn.Turn.{Turn}
use Rattle.stories.specs.declared.turn.Turn.TheVariants.{Step as Makes}
use Rattle.stories.specs.Turns.{IsNoStep, turn_form}

-- where no step has the line
no_step : (t : Turn) (word : List ℕ) (n : ℕ) → IsLineOf turn_form t word (n ∷ []) → ((s : Step) → ¬ (IsLineOf step_form s word (n ∷ []))) → IsNoStep t
no_step (Makes Exchange) word n h none = absurd cc
no_step (Makes (Ask c)) word n h none = none (Ask c) (record { fits = h.fits; word_is = h.word_is; numbers_are = h.numbers_are })
no_step (Makes s) word n h none = none s (record { fits = h.fits; word_is = h.word_is; numbers_are = h.numbers_are })
no_step t word n h none = tt

-- where each step with the line would have been read
pub no_step_read : (t : Turn) (word : List ℕ) (n : ℕ) (result : Option Step) → ((s : Step) → IsLineOf step_form s word (n ∷ []) → result ≡ Some s) → result ≡ None
    → IsLineOf turn_form t word (n ∷ []) → IsNoStep t
no_step_read t word n result read none h = no_step t word n h (λ s k. cc (read s k, none))
