-- steps of a way, one after the other
use Rattle.std.proofs.Common.{ℕ, ◌≡◌, List, [], ◌∷◌, ◌++◌, length, Ok, refl, sym, ap, subst, subst₂, ◌∙◌}
use Rattle.std.proofs.lemmas.List.{append-nil}
use Rattle.numbers.proofs.Lists.{AllByRecursion-append}
use Rattle.requester.specs.declared.state.Seen.TheVariants.{Nothing, Entered, Left}
use Rattle.world.specs.WayIn.{Helps}
use Rattle.world_state.specs.declared.step.Event.{Event}
use Rattle.world_state.specs.declared.step.Step.{Step}
use Rattle.world_state.specs.declared.step.Stepped.{Stepped}
use Rattle.world.specs.Runs.{after}
use Rattle.world_state.specs.Steps.{Planned, WorldState, dealing_of, events, outcome_of, step, step_of}
use Rattle.world.proofs.Added.{Adds-step}
use Rattle.world.proofs.Plans.{run_then}
use Rattle.ways.specs.declared.make.Went.{Went}
use Rattle.ways.specs.declared.make.Went.TheVariants.{On, In}
use Rattle.ways.specs.Leads.{AreLedOn, Lead, LeadFurther, Leads, LeadsOn}

Lead-more : (old w new : Planned) (steps : List Step) (s : Step) (st : Stepped) → Lead old w steps → step_of w s ≡ Ok (outcome_of st new.state) → new.plans ≡ w.plans → Lead old new (steps ++ s ∷ [])
Lead-more old w new steps s st lead ok plans = record {
  plans = plans ∙ lead.plans;
  state = sym (run_then (dealing_of old.plans) steps (s ∷ []) old.state
      ∙ ap (λ u. after u (step (dealing_of old.plans) u s)) (sym lead.state)
      ∙ ap (after w.state) (ap (λ p. step (dealing_of p) w.state s) (sym lead.plans) ∙ ok));
}

-- where a step leads, by what was seen in it
pub Leads-more : (old w new : Planned) (steps : List Step) (s : Step) (st : Stepped) (went : Went) → LeadsOn old w steps → Helps (length old.state.sent) s
    → step_of w s ≡ Ok (outcome_of st new.state) → new.plans ≡ w.plans
    → (st.seen ≡ Nothing → went ≡ On)
    → (st.seen ≡ Entered → (before : List Event) (c : ℕ) → new.state.visible ≡ before ++ events c Entered → went ≡ In c)
    → (st.seen ≡ Left → ⊥)
    → Leads old went new (steps ++ s ∷ [])
Leads-more old w new steps s st went on help ok plans nothing entered stays =
    let adds = Adds-step (dealing_of w.plans) w.state s (outcome_of st new.state) ok in
    let lead = Lead-more old w new steps s st on.leads ok plans in
    let helps = AllByRecursion-append (Helps (length old.state.sent)) steps (s ∷ []) on.helps (help, tt) in
    elim st.seen as (λ seen. st.seen ≡ seen → Leads old went new (steps ++ s ∷ [])) [
      | Nothing ↦ λ e. subst (λ g. Leads old g new (steps ++ s ∷ [])) (sym (nothing e)) (record {
        leads = lead;
        helps = helps;
        visible = adds.visible ∙ ap (λ seen. w.state.visible ++ events adds.client seen) e ∙ append-nil w.state.visible ∙ on.visible;
      })
      | Entered ↦ λ e.
          let seen = adds.visible ∙ ap (λ seen. w.state.visible ++ events adds.client seen) e in
          subst (λ g. Leads old g new (steps ++ s ∷ [])) (sym (entered e w.state.visible adds.client seen)) (record {
            leads = lead;
            way = record {
              helps = helps;
              enters = ap (λ (u : WorldState). u.visible) (sym lead.state) ∙ seen ∙ ap (λ es. es ++ events adds.client Entered) on.visible;
            };
          })
      | Left ↦ λ e. absurd (stays e)
    ] refl

-- no step leads from a world to itself
pub LeadsOn-none : (w : Planned) → LeadsOn w w []
LeadsOn-none w = record { leads = record { plans = refl; state = refl }; helps = tt; visible = refl }

pub AreLedOn-none : (w new : Planned) → new ≡ w → AreLedOn w new
AreLedOn-none w new same = ([], subst (λ x. LeadsOn w x []) (sym same) (LeadsOn-none w))

-- if no step is made, the world goes on
pub LeadFurther-none : (first : ℕ) (w new : Planned) (steps more : List Step) → new ≡ w → more ≡ steps → LeadFurther first w steps On new more
LeadFurther-none first w new steps more same none old is on = subst₂ (λ x xs. LeadsOn old x xs) (sym same) (sym none) on
