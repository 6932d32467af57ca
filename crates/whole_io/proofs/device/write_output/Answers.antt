use Rattle.std.proofs.Common.{◌+◌, ◌≤◌, ◌∙◌, arith, length, drop, inr}
use Rattle.std.proofs.lemmas.List.{take_rest, length-drop}
use Rattle.whole_io.proofs.DeviceLemmas.{Appends-more}
use Rattle.whole_io.proofs.device.write_output.Goals as goal

pub writing-preserved : goal.writing-preserved
writing-preserved g c =
    let out = c.args.output.now in
    let bound : c.in-Ok.count ≤ length (drop c.writing.at out) = rw take_rest at c.in-Ok.ensures.bound in
    let within : c.writing.at + c.in-Ok.count ≤ length out = omega (arith, bound, length-drop c.writing.at out) in
    record {
      working = c.in-Ok.ensures.kept (inr (omega arith)) ∙ c.writing.invariant.working;
      within = within;
      written = Appends-more (g.W.Write.contents c.args.writer.now.inner) (g.W.Write.contents c.writing.writer.inner) (g.W.Write.contents c.write.new.self.inner) out c.writing.at c.in-Ok.count within
          c.writing.invariant.written (rw take_rest at c.in-Ok.ensures.bytes);
    }
