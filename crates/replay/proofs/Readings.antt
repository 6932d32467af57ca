-- The text of a script is read in one way.
use Rattle.std.proofs.Common.{◌≡◌, ◌≢◌, ℕ, ◌+◌, List, [], ◌∷◌, ◌++◌, length, refl, sym, ap, ◌∙◌, inl, inr}
use Rattle.texts.proofs.CutLemmas.{Lacks}
use Rattle.texts.specs.Forms.{AreFirst, BeginsWithNone, Form, IsForm, IsNext, line_of, text_of}
use Rattle.texts.proofs.LineLemmas.{Lacks-line, all_lines, same_lines, same_next}
use Rattle.replay.specs.declared.fault.ReplayFault.{ReplayFault}
use Rattle.replay.specs.declared.fault.ReplayFault.TheVariants.{BadLine, OutOfMemory}
use Rattle.replay.specs.Scripts.{BeginsWith, IsBadRest, IsBadText, IsFirstBad, IsLine, IsScript, IsWorldLine, Script, script_text, world_form}
use Rattle.replay.specs.Scripts.{worlds_have_form}

pub Lacks-script_line : {S : Type 0} (f : Form S) → IsForm f → (line : List ℕ) → IsLine f line → Lacks 10 line
Lacks-script_line f is line (inl h) = rw h.2 (Lacks-line world_form worlds_have_form h.0 h.1)
Lacks-script_line f is line (inr h) = rw h.2 (Lacks-line f is h.0 h.1)

-- the sizes at the front of a text
same_world : (text : List ℕ) (a b : ℕ × ℕ) (x y : List ℕ) → IsNext world_form text a x → IsNext world_form text b y → (a ≡ b) × (x ≡ y)
same_world text a b x y h k = same_next world_form worlds_have_form a b x y h.has_line k.has_line (sym h.text_is ∙ k.text_is)

world_next : {S : Type 0} (f : Form S) (text : List ℕ) (s : Script S) → IsScript f s → text ≡ script_text f s → IsNext world_form text (s.clients, s.limit) (text_of f s.steps)
world_next f text s h e = record { has_line = h.sizes; text_is = e }

pub script_text-unique : {S : Type 0} (f : Form S) → IsForm f → (s t : Script S) → IsScript f s → IsScript f t → script_text f s ≡ script_text f t → s ≡ t
script_text-unique f is s t hs ht e =
    let text = script_text f s in
    let body = text_of f s.steps in
    let world = same_world text (s.clients, s.limit) (t.clients, t.limit) body (text_of f t.steps) (world_next f text s hs refl) (world_next f text t ht e) in
    let steps = same_lines f is body s.steps t.steps [] [] (all_lines f s.steps body hs.steps refl) (all_lines f t.steps body ht.steps world.1) in
    λ i. record { clients = (world.0 i).0; limit = (world.0 i).1; steps = steps.0 i }

-- a text that begins with a world's line
pub begins : (text : List ℕ) (sizes : ℕ × ℕ) (body : List ℕ) → IsNext world_form text sizes body → BeginsWith IsWorldLine text
begins text sizes body h = (line_of world_form sizes, body, (sizes, h.has_line, refl), h.text_is)

pub script_begins : {S : Type 0} (f : Form S) (text : List ℕ) (s : Script S) → IsScript f s → text ≡ script_text f s → BeginsWith IsWorldLine text
script_begins f text s h e = begins text (s.clients, s.limit) (text_of f s.steps) (world_next f text s h e)

pub none_begins : (text : List ℕ) → BeginsWithNone world_form text → ¬ (BeginsWith IsWorldLine text)
none_begins text none b = none b.2.0 b.1 b.2.1 (b.3 ∙ ap (λ (line : List ℕ). line ++ 10 ∷ b.1) b.2.2)

pub IsFirstBad-unique : {S : Type 0} (f : Form S) → IsForm f → (text : List ℕ) (m n : ℕ) → IsFirstBad f text m → IsFirstBad f text n → m ≡ n
IsFirstBad-unique f is text m n (inl a) (inl b) = a.0 ∙ sym b.0
IsFirstBad-unique f is text m n (inl a) (inr b) = absurd (a.1 (begins text b.sizes b.body b.world))
IsFirstBad-unique f is text m n (inr a) (inl b) = absurd (b.1 (begins text a.sizes a.body a.world))
IsFirstBad-unique {S} f is text m n (inr a) (inr b) =
    let world = same_world text a.sizes b.sizes a.body b.body a.world b.world in
    let ends : AreFirst f a.body b.steps b.ends.rest = rw world.1 b.ends.steps_are in
    let steps = same_lines f is a.body a.steps b.steps a.ends.rest b.ends.rest a.ends.steps_are ends in
    a.line_is ∙ ap (λ (steps : List S). length steps + 2) steps.0 ∙ sym b.line_is

pub never_both : {S : Type 0} (f : Form S) → IsForm f → (text : List ℕ) (line : ℕ) (s : Script S) → IsFirstBad f text line → IsScript f s → text ≢ script_text f s
never_both f is text line s (inl a) h = λ e. a.1 (script_begins f text s h e)
never_both f is text line s (inr a) h = λ e.
    let world = same_world text a.sizes (s.clients, s.limit) a.body (text_of f s.steps) a.world (world_next f text s h e) in
    let whole = all_lines f s.steps a.body h.steps world.1 in
    a.ends.some (same_lines f is a.body a.steps s.steps a.ends.rest [] a.ends.steps_are whole).1

-- the body's bad line is the text's
pub bad_text : {S : Type 0} (f : Form S) (text body : List ℕ) (sizes : ℕ × ℕ) (fault : ReplayFault) → IsNext world_form text sizes body → IsBadRest f body fault → IsBadText f text fault
bad_text f text body sizes (BadLine line) next h = inr (record { sizes = sizes; body = body; world = next; steps = h.0; ends = h.1; line_is = h.2 })
bad_text f text body sizes OutOfMemory next h = tt
bad_text f text body sizes fault next h = absurd h

-- a text that is refused, unless memory ran out, is no script's
pub never_refused : {S : Type 0} (f : Form S) → IsForm f → (text : List ℕ) (fault : ReplayFault) (s : Script S) → IsBadText f text fault → IsScript f s → text ≡ script_text f s → fault ≡ OutOfMemory
never_refused f is text (BadLine line) s bad h e = absurd (never_both f is text line s bad h e)
never_refused f is text OutOfMemory s bad h e = refl
never_refused f is text fault s bad h e = absurd bad
