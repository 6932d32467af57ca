use Rattle.std.proofs.Common.{◌≡◌, ℕ, List, ◌++◌, [], ap, sym, ◌∙◌, arith, length, string_bytes, slice_index}
use Rattle.std.specs.List.{flat_map, range_with_len}
use Rattle.std.proofs.lemmas.Option.{get_or_from_slice_get}
use Rattle.coterie_file.specs.Names.{name_at}
use Rattle.commands.specs.Commands.{voter_line}
use Rattle.commands.proofs.TextLemmas.{flat_map-more_lines}
use Rattle.commands.proofs.lines.push_voters.Goals as goal

pub loop-i-preserved : goal.loop-i-preserved
loop-i-preserved c =
    let names = c.args.named.now.names in
    let counts = c.args.counts.now in
    let name = get_or_from_slice_get names c.loop-i.i c.name.result.now [] c.name.ensures.value in
    flat_map-more_lines (λ i. voter_line (name_at names i) (slice_index counts i)) c.loop-i.i (string_bytes c.args.text.now) (string_bytes c.loop-i.text)
    (string_bytes c.push_voter.new.text) c.loop-i.invariant
    (c.in_ok-push_voter.ensures ∙ ap (λ n. string_bytes c.loop-i.text ++ voter_line n (slice_index counts c.loop-i.i)) (sym name))

pub returns : goal.returns
returns c =
    let line : ℕ → List ℕ = λ i. voter_line (name_at c.args.named.now.names i) (slice_index c.args.counts.now i) in
    let all : c.loop-i.i ≡ length c.args.named.now.names = omega (arith, c.requires.named.one_each) in
    c.loop-i.invariant ∙ ap (λ n. string_bytes c.args.text.now ++ flat_map line (range_with_len 0 n)) all
