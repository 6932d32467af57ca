use Rattle.std.proofs.Common.{◌∙◌, [], ap, map}
use Rattle.show_json.specs.Compared.{loss_text}
use Rattle.show_json.specs.Values.{list_text, member_of, quoted}
use Rattle.show_json.proofs.MemberLemmas.{member_added}
use Rattle.show_json.proofs.compared.coterie_members.Goals as goal

pub returns : goal.returns
returns c =
    let named = c.args.entry.now.candidate.now.named in
    let losses = c.in_ok-losses.ensures ∙ ap (λ ls. list_text (map (loss_text named) ls)) c.as_slice.ensures.value in
    let m1 = member_added _ _ _ [] _ _ _ (ap (map member_of) c.new-members.ensures.items) c.in_ok-push.ensures.items c.of.ensures (c.in_ok-name.ensures ∙ ap quoted c.as_str.ensures.value) in
    let m2 = member_added _ _ _ _ _ _ _ m1 c.in_ok-push-2.ensures.items c.of-2.ensures c.in_ok-number_text.ensures in
    let m3 = member_added _ _ _ _ _ _ _ m2 c.in_ok-push-3.ensures.items c.of-3.ensures c.in_ok-number_text-2.ensures in
    let m4 = member_added _ _ _ _ _ _ _ m3 c.in_ok-push-4.ensures.items c.of-4.ensures c.in_ok-smallest.ensures in
    let m5 = member_added _ _ _ _ _ _ _ m4 c.in_ok-push-5.ensures.items c.of-5.ensures c.in_ok-largest.ensures in
    let m6 = member_added _ _ _ _ _ _ _ m5 c.in_ok-push-6.ensures.items c.of-6.ensures c.in_ok-fraction_text.ensures in
    let m7 = member_added _ _ _ _ _ _ _ m6 c.in_ok-push-7.ensures.items c.of-7.ensures c.in_ok-fraction_text-2.ensures in
    let m8 = member_added _ _ _ _ _ _ _ m7 c.in_ok-push-8.ensures.items c.of-8.ensures c.in_ok-one_down.ensures in
    let m9 = member_added _ _ _ _ _ _ _ m8 c.in_ok-push-9.ensures.items c.of-9.ensures c.in_ok-keeps_tickets.ensures in
    let m10 = member_added _ _ _ _ _ _ _ m9 c.in_ok-push-10.ensures.items c.of-10.ensures c.in_ok-borne.ensures in
    let m11 = member_added _ _ _ _ _ _ _ m10 c.in_ok-push-11.ensures.items c.of-11.ensures c.in_ok-truth_text.ensures in
    member_added _ _ _ _ _ _ _ m11 c.in_ok-push-12.ensures.items c.of-12.ensures losses
