use Rattle.std.proofs.Common.{◌≡◌, ◌*◌, ◌≤◌, ◌++◌, Option, length, sym, ap, ◌∙◌, subst}
use Rattle.std.specs.Prelude.{option_map}
use Rattle.quorum_set.specs.Coteries.{QuorumSystem}
use Rattle.board.specs.Roots.{HasAllSeats}
use Rattle.certificate.specs.Certificates.{Weighted}
use Rattle.dealer.specs.Offices.{OfficeName}
use Rattle.clerks.specs.Clerks.{fresh_clerks, office_names, offices_with, plan_quorums}
use Rattle.members.proofs.BlankLemmas.{cycles_of-names, same_voters}
use Rattle.members.proofs.blank.Blank.new.Goals as goal

joint : {a b : Weighted} {x y : Option Weighted} → a ≡ b → x ≡ y → a.system.quorums ++ plan_quorums x ≡ b.system.quorums ++ plan_quorums y
joint e f = λ i. (e i).system.quorums ++ plan_quorums (f i)

pub invariant_of-result : goal.invariant_of-result
invariant_of-result c =
    let made = c.in_ok-board.ensures in
    let offices = c.in_ok-offices.offices in
    let opened = c.in_ok-offices.ensures in
    let parts = c.into_parts-first.ensures in
    let is_first : offices.first.name.cycle ≡ c.into_parts-first.result.0 = opened.first in
    let is_second : option_map (λ (o : OfficeName). o.cycle) (office_names offices).1 ≡ c.plan_of.result = cycles_of-names offices.second ∙ opened.second in
    let voters : c.voters-voters.result ≡ c.into_parts-first.result.0.system.voters = c.voters-voters.ensures.value ∙ ap (λ (s : QuorumSystem). s.voters) c.coterie.ensures.value in
    let same : c.voters-voters.result ≡ c.in_ok-board.board.voters = voters ∙ sym made.voters in
    let few : c.coterie.result.now.voters ≤ 64 = c.voters-voters.ensures.coterie.few_voters in
    let quota = ap (λ n. n * c.args.quota) (c.from.ensures ∙ sym made.clients) in
    let names = office_names offices in
    record {
      cluster = record {
        voters = made.voters ∙ ap (λ (w : Weighted). w.system.voters) (sym is_first);
        quorums = made.quorums
            ∙ joint (sym is_first) (sym (is_second ∙ c.plan_of.ensures));
        firsts = made.firsts ∙ ap (λ (w : Weighted). length w.system.quorums) (sym is_first);
        same_voters = same_voters c.args.plans parts.plans names.1 (is_second ∙ c.plan_of.ensures ∙ parts.second) c.in_ok-board.board.voters
            (made.voters ∙ ap (λ (w : Weighted). w.system.voters) parts.first);
        few_voters = subst (λ n. n ≤ 64) (sym c.voters-voters.ensures.value ∙ same) few;
        some_client = subst (λ n. 1 ≤ n) (sym made.clients) c.requires.some_client;
        clients = subst (λ n. n ≤ 64) (sym made.clients) c.requires.few_clients;
        limit = made.limit;
      };
      offices_are = opened.quota ∙ ap (offices_with names) quota;
      voters_are = same;
      clients_are = sym made.clients;
      root_is = subst (λ n. HasAllSeats c.in_ok-board.board.table n c.args.clients c.in_ok-board.root) (sym voters) made.root;
      clerks_are = opened.clerks ∙ ap (fresh_clerks names) quota;
    }
