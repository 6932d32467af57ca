use Rattle.std.proofs.Common.{◌≡◌, map, string_bytes, take}
use Rattle.show_json.specs.Values.{member_of, member_text}
use Rattle.show_json.proofs.values.member_texts.Given as goal

-- the texts of the members so far
abbrev pub invariant-loop-member : goal.invariant-loop-member
invariant-loop-member l = map string_bytes l.texts.items ≡ map (λ m. member_text (member_of m)) (take l.member-index l.members)
