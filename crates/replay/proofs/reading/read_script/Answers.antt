use Rattle.std.proofs.Common.{List, ℕ, ◌∷◌, ◌++◌, ap, inl, refl, sym, ◌∙◌}
use Rattle.texts.specs.Forms.{line_of}
use Rattle.replay.specs.Scripts.{world_form}
use Rattle.replay.proofs.Readings.{bad_text, begins, never_both, never_refused, none_begins, script_text-unique}
use Rattle.replay.proofs.reading.read_script.Goals as goal

pub returns-in_default-clause-bad : goal.returns-in_default-clause-bad
returns-in_default-clause-bad g c = inl (refl, none_begins c.args.text.now c.in_default.ensures)

pub returns-in_default-clause-read : goal.returns-in_default-clause-read
returns-in_default-clause-read g c = λ s h e.
    absurd (never_both g.L.Line.form g.met.L.Line.is_form c.args.text.now 1 s (inl (refl, none_begins c.args.text.now c.in_default.ensures)) h e)

pub returns-in-Err-clause-bad : goal.returns-in-Err-clause-bad
returns-in-Err-clause-bad g c = bad_text g.L.Line.form c.args.text.now c.in-Some.rest.now c.in-Some.sizes c.in-Err.fault c.in-Some.ensures c.in-Err.ensures.bad

pub returns-in-Err-clause-first : goal.returns-in-Err-clause-first
returns-in-Err-clause-first g c = λ none. absurd (none (begins c.args.text.now c.in-Some.sizes c.in-Some.rest.now c.in-Some.ensures))

pub returns-in-Err-clause-read : goal.returns-in-Err-clause-read
returns-in-Err-clause-read g c = λ s h e.
    let form = g.L.Line.form in
    let bad = bad_text form c.args.text.now c.in-Some.rest.now c.in-Some.sizes c.in-Err.fault c.in-Some.ensures c.in-Err.ensures.bad in
    never_refused form g.met.L.Line.is_form c.args.text.now c.in-Err.fault s bad h e

pub returns-in-Ok-clause-read : goal.returns-in-Ok-clause-read
returns-in-Ok-clause-read g c = λ s h e.
    let form = g.L.Line.form in
    let text_is = c.in-Some.ensures.text_is ∙ ap (λ (t : List ℕ). line_of world_form c.in-Some.sizes ++ 10 ∷ t) c.in-Ok.ensures.written in
    c.of.ensures
    ∙ script_text-unique form g.met.L.Line.is_form (record { clients = c.in-Some.sizes.0; limit = c.in-Some.sizes.1; steps = c.in-Ok.steps.items }) s
    (record { sizes = c.in-Some.ensures.has_line; steps = c.in-Ok.ensures.lines }) h (sym text_is ∙ e)
