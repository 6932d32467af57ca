use Rattle.std.proofs.Common.{inr, subst, sym}
use Rattle.std.specs.Prelude.{option_map}
use Rattle.plan_inputs.specs.Inputs.{parts_of}
use Rattle.show_cli.specs.Stories.{RefusesStory}
use Rattle.show_cli.proofs.StoryLemmas.{script_refused}
use Rattle.show_cli.proofs.scenes.scene_of.Goals as goal

pub returns-in-Err-read_story-clause-refused : goal.returns-in-Err-read_story-clause-refused
returns-in-Err-read_story-clause-refused c =
    let parts = c.in-Ok.parts in
    subst (RefusesStory c.args.input.now) (sym c.from.ensures) (inr (record {
      first = parts_of parts.0;
      more = (option_map parts_of parts.1, parts.2.now);
      parts = c.in-Ok.ensures.exact;
      bad = inr (script_refused parts.2.now c.in-Err-read_story.fault c.in-Err-read_story.ensures.bad);
    }))
