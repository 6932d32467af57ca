-- Lemmas on which command words name.
use Rattle.std.proofs.Common.{◌≡◌, ℕ, ◌<◌, Bool, true, false, refl, arith, length, String, Vec, List, Option, [], sym, ap, subst, ◌∙◌, rules, codes, Some, None, inl, inr, All, map, string_bytes}
use Rattle.std.specs.declared.alloc.Global.{Global}
use Rattle.std.proofs.lemmas.List.{length-map}
use Rattle.std.proofs.lemmas.Option.{same_Some}
use Rattle.numbers.specs.Bounds.{max_dealt}
use Rattle.clap.specs.Words.{Row, Text, all_of, fault_of, first_of, subcommand_of}
use Rattle.show_faults.specs.Codes.{IsNoneOf, code_in, fault_codes}
use Rattle.command_line.specs.Words.{HasNumber, RefusesByClap}
use Rattle.command_line.specs.declared.usage.Usage.{Usage}
use Rattle.command_line.specs.declared.usage.Usage.TheVariants.{Arguments, OutOfMemory, Refused}
use Rattle.show_waiting.specs.declared.waiting.Waiting.{Waiting as Question}
use Rattle.command_line.specs.Words.{AreSizes, size_texts}
use Rattle.command_line.proofs.WordLemmas.{same_sizes}
use Rattle.show_coteries.specs.Names.{IsShapeOf}
use Rattle.show_coteries.specs.declared.shape.CoterieShape.{CoterieShape}
use Rattle.show_command_line.specs.Words.{HasFlag, HasShape, HasTexts, IsNamedBy, MayHaveCapacities, MayHaveNumber, NamesNone, Refuses, RefusesUse, picture_word, show_app}
use Rattle.show_command_line.specs.declared.command.Picture.{Picture}
use Rattle.show_command_line.specs.declared.command.NearPage.{NearPage}
use Rattle.show_command_line.specs.declared.command.ShowCommand.TheVariants.{Compare, Coterie, Deal, Explain, ExplainAll, ListFaults, Near, Picture as Show, Waiting, Without}

-- a flag whose value is this text
pub HasFlag-of : (name : Text) (rows : List Row) (text : Text) (b : Bool) → Some text ≡ first_of name rows → (b ≡ true → text ≡ codes "true") → (b ≡ false → text ≡ codes "true" → ⊥)
    → HasFlag name rows b
HasFlag-of name rows text true there set unset = sym there ∙ ap Some (set refl)
HasFlag-of name rows text false there set unset = λ e. unset refl (same_Some text (codes "true") (there ∙ e))

-- a flag without a value
pub HasFlag-none : (name : Text) (rows : List Row) → None ≡ first_of name rows → HasFlag name rows false
HasFlag-none name rows absent = λ e. let bad : None ≡ Some (codes "true") = absent ∙ e in cc

-- where `deal` was used with no number in range, it names nothing
pub NamesNone-deal : (rows : List Row) → ((n : ℕ) → HasNumber (codes "N") 0 max_dealt rows n → ⊥) → NamesNone (Some (codes "deal", rows))
NamesNone-deal rows none (Deal dealing) named = none dealing.count named.1
NamesNone-deal rows none command named = search rules

-- nor does `near` with a number out of range
pub NamesNone-near : (rows : List Row) → ((page : NearPage) → IsNamedBy (Some (codes "near", rows)) (Near page) → ⊥) → NamesNone (Some (codes "near", rows))
NamesNone-near rows none (Near page) named = none page named
NamesNone-near rows none command named = search rules

-- an argument without values has no texts
pub HasTexts-none : (name : Text) (rows : List Row) (texts : List (String Global)) → None ≡ all_of name rows → HasTexts name rows texts → ⊥
HasTexts-none name rows texts absent has = let bad : None ≡ Some (map string_bytes texts) = absent ∙ has in cc

-- nor does `without` with no names
pub NamesNone-without : (rows : List Row) → None ≡ all_of (codes "NAMES") rows → NamesNone (Some (codes "without", rows))
NamesNone-without rows absent (Without names) named = HasTexts-none (codes "NAMES") rows names.items absent named.1
NamesNone-without rows absent command named = search rules

-- nor does `compare` with no files
pub NamesNone-no_files : (rows : List Row) → None ≡ all_of (codes "FILES") rows → NamesNone (Some (codes "compare", rows))
NamesNone-no_files rows absent (Compare files form) named = HasTexts-none (codes "FILES") rows files.items absent named.1
NamesNone-no_files rows absent command named = search rules

-- the texts of an argument are as many, however they are kept
same_length : (name : Text) (rows : List Row) (a b : List (String Global)) → HasTexts name rows a → HasTexts name rows b → length a ≡ length b
same_length name rows a b has_a has_b =
    let same : map string_bytes a ≡ map string_bytes b = same_Some (map string_bytes a) (map string_bytes b) (sym has_a ∙ has_b) in
    sym (length-map a string_bytes) ∙ ap length same ∙ length-map b string_bytes

-- nor does it with more than 64
pub NamesNone-many_files : (rows : List Row) (files : List (String Global)) → HasTexts (codes "FILES") rows files → 64 < length files → NamesNone (Some (codes "compare", rows))
NamesNone-many_files rows files has many (Compare others form) named =
    let same : length others.items ≡ length files = same_length (codes "FILES") rows others.items files named.1 has in
    omega (arith, same, many, named.2)
NamesNone-many_files rows files has many command named = search rules

-- nor does `coterie` with no shape, with other numbers, or with another name
pub NamesNone-shape : (rows : List Row) → ((shape : CoterieShape) → HasShape rows shape → ⊥) → NamesNone (Some (codes "coterie", rows))
NamesNone-shape rows none (Coterie shape capacities) named = none shape named.1
NamesNone-shape rows none command named = search rules

-- nor with other capacities
pub NamesNone-capacities : (rows : List Row) → ((list : Option (Vec ℕ Global)) → MayHaveCapacities rows list → ⊥) → NamesNone (Some (codes "coterie", rows))
NamesNone-capacities rows none (Coterie shape capacities) named = none capacities named.2
NamesNone-capacities rows none command named = search rules

-- the shape of a name and sizes that are there
pub HasShape-none : (rows : List Row) (name : Text) (sizes : List ℕ) → Some name ≡ first_of (codes "SHAPE") rows → AreSizes (size_texts (codes "NUMBERS") rows) sizes
    → ((shape : CoterieShape) → IsShapeOf name sizes shape → ⊥) → (shape : CoterieShape) → HasShape rows shape → ⊥
HasShape-none rows name sizes given are none shape has =
    let name_is : has.0 ≡ name = same_Some has.0 name (sym has.1 ∙ sym given) in
    let sizes_are : has.2.0 ≡ sizes = same_sizes (size_texts (codes "NUMBERS") rows) has.2.0 sizes has.2.1 are in
    none shape (subst (λ (t : List ℕ). IsShapeOf t sizes shape) name_is (subst (λ (ns : List ℕ). IsShapeOf has.0 ns shape) sizes_are has.2.2))

-- a word that is there, and is no number in range
pub MayHaveNumber-none : (name : Text) (least most : ℕ) (rows : List Row) (text : Text) → Some text ≡ first_of name rows → ((n : ℕ) → HasNumber name least most rows n → ⊥)
    → (number : Option ℕ) → MayHaveNumber name least most rows number → ⊥
MayHaveNumber-none name least most rows text there none None absent = let bad : Some text ≡ None = there ∙ absent in cc
MayHaveNumber-none name least most rows text there none (Some n) has = none n has

-- nor does `waiting`, where a number is missing or out of range
pub NamesNone-waiting : (rows : List Row) → ((w : Question) → IsNamedBy (Some (codes "waiting", rows)) (Waiting w) → ⊥) → NamesNone (Some (codes "waiting", rows))
NamesNone-waiting rows none (Waiting w) named = none w named
NamesNone-waiting rows none command named = search rules

-- nor does `explain` with another word than `all` and than those that begin with a code
pub NamesNone-explain : (rows : List Row) (text : Text) → first_of (codes "CODE") rows ≡ Some text → (text ≡ codes "all" → ⊥) → All (IsNoneOf (code_in text)) fault_codes
    → NamesNone (Some (codes "explain", rows))
NamesNone-explain rows text given other none (Explain e) named =
    let same : named.1.0.0 ≡ text = same_Some named.1.0.0 text (sym named.1.0.1 ∙ given) in
    let code : e.now.code.now ≡ code_in text = named.1.0.2 ∙ ap (λ (t : Text). code_in t) same in
    named.1.1 (subst (λ (t : Text). All (IsNoneOf t) fault_codes) (sym code) none)
NamesNone-explain rows text given other none ExplainAll named = other (same_Some text (codes "all") (sym given ∙ named.1))
NamesNone-explain rows text given other none ListFaults named = let bad : Some text ≡ None = sym given ∙ named.1 in cc
NamesNone-explain rows text given other none command named = search rules

-- nor does `picture` with another word than those of pictures
pub NamesNone-picture : (rows : List Row) → ((picture : Picture) → first_of (codes "KIND") rows ≡ Some (picture_word picture) → ⊥) → NamesNone (Some (codes "picture", rows))
NamesNone-picture rows none (Show picture) named = none picture named.1
NamesNone-picture rows none command named = search rules

-- a refusal of what the words name
pub Refuses-use : (words : List Text) (usage : Usage) → fault_of show_app words ≡ [] → RefusesUse (subcommand_of show_app words) usage → Refuses words usage
Refuses-use words (Refused error) faultless refused = inr (faultless, refused)
Refuses-use words Arguments faultless refused = (faultless, refused)
Refuses-use words OutOfMemory faultless refused = tt

-- and clap's refusal of them
pub Refuses-by_clap : (words : List Text) (usage : Usage) → RefusesByClap show_app words usage → Refuses words usage
Refuses-by_clap words (Refused error) refused = inl refused
Refuses-by_clap words Arguments refused = absurd refused
Refuses-by_clap words OutOfMemory refused = tt
