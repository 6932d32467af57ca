use Rattle.std.proofs.Common.{◌≡◌, ◌∙◌, ◌++◌, append_assoc, codes, string_bytes}
use Rattle.show_refusals.specs.Codes.{code_of}
use Rattle.show_refusals.proofs.page.push_more.Goals as goal

pub returns : goal.returns
returns c =
    let before = string_bytes c.args.text.now in
    let words = codes "  more: qlock-show explain " in
    let code = code_of c.args.fault in
    let whole : string_bytes c.push_str-2.new.self ≡ ((before ++ words) ++ code) ++ codes "\n" =
    rw (c.in_ok-push_code.ensures, c.in_ok-push_str.ensures.bytes) at c.in_ok-push_str-2.ensures.bytes in
    record { before = before; is = whole ∙ append_assoc (before ++ words) code (codes "\n") ∙ append_assoc before words (code ++ codes "\n") }
