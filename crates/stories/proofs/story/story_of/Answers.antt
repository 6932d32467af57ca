use Rattle.std.proofs.Common.{◌++◌, List, ap, ap₂, refl, sym, ◌∙◌}
use Rattle.stories.specs.declared.story.Moment.{Moment}
use Rattle.std.specs.List.{list_all}
use Rattle.std.proofs.lemmas.List.{append-nil, drop_all, take_all}
use Rattle.stories.specs.declared.turn.Turn.{Turn}
use Rattle.stories.specs.Plays.{Scene, first_scene, is_calm, moments_of, world_after}
use Rattle.stories.proofs.PlayLemmas.{calm_on, moments_on, world_on}
use Rattle.stories.proofs.story.story_of.Goals as goal

pub loop-turn-init : goal.loop-turn-init
loop-turn-init c = record {
  moments = ap₂ (λ (l : List Moment) (s : Scene). l ++ moments_of c.steps-turns.result.now s) c.new-moments.ensures.items c.in_ok-player.ensures;
  world = ap (λ (s : Scene). world_after c.steps-turns.result.now s.world) c.in_ok-player.ensures;
  calm = λ _. ap (λ (s : Scene). s.calm) c.in_ok-player.ensures;
}

pub loop-turn-preserved : goal.loop-turn-preserved
loop-turn-preserved c = record {
  moments = moments_on c.steps-turns.result.now c.loop-turn.turn-index _ _ c.loop-turn.player c.play.new.self _ c.loop-turn.moments.items c.push.new.self.items _ c.loop-turn-test.true refl c.loop-turn.invariant.moments
      c.in_ok-push.ensures.items c.in_ok-happening.ensures.did c.in_ok-happening.ensures.played;
  world = world_on c.steps-turns.result.now c.loop-turn.turn-index _ _ c.loop-turn.player c.play.new.self _ c.loop-turn-test.true refl c.loop-turn.invariant.world c.in_ok-happening.ensures.played;
  calm = λ all. ap (λ (s : Scene). s.calm) c.in_ok-happening.ensures.played ∙ calm_on c.steps-turns.result.now c.loop-turn.turn-index _ _ c.loop-turn.player c.loop-turn-test.true refl c.loop-turn.invariant.calm all;
}

pub returns-clause-moments : goal.returns-clause-moments
returns-clause-moments c =
    let items = c.loop-turn.moments.items in
    let turns = c.steps-turns.result.now in
    sym (append-nil items) ∙ ap (λ (ts : List Turn). items ++ moments_of ts c.loop-turn.player) (sym (drop_all c.loop-turn.turn-index turns c.loop-turn-test.false))
    ∙ c.loop-turn.invariant.moments
    ∙ ap (λ (ts : List Turn). moments_of ts (first_scene c.args.plans c.args.script.now.clients c.args.script.now.limit)) c.steps-turns.ensures.value

pub returns-clause-calm : goal.returns-clause-calm
returns-clause-calm c all =
    let turns = c.steps-turns.result.now in
    c.end-world.ensures.calm (c.loop-turn.invariant.calm (ap (λ (ts : List Turn). list_all is_calm ts) (take_all c.loop-turn.turn-index turns c.loop-turn-test.false ∙ c.steps-turns.ensures.value) ∙ all))
