use Rattle.std.proofs.Common.{◌∙◌, take, drop, ap, sym, arith, length-drop, take-add}
use Rattle.std.proofs.lemmas.List.{take_rest}
use Rattle.std.specs.Io.KnownBytes.{append_known}
use Rattle.mav_ports.proofs.Known.{append_known_twice}
use Rattle.mav_links.proofs.writing.write_prefix.Goals as goal

pub loop-done-preserved : goal.loop-done-preserved
loop-done-preserved g c =
    let b = c.args.bytes.now in
    let old = g.L.Link.state c.args.link.now in
    let rest = take_rest b c.loop-done.done in
    let within = rw rest at c.in-Took.ensures.within in
    let sent = rw rest at c.in-Took.ensures.bytes in
    record {
      within = omega (arith, length-drop c.loop-done.done b, within);
      sent = sent
          ∙ ap (λ known. append_known known (take c.in-Took.count (drop c.loop-done.done b))) c.loop-done.invariant.sent
          ∙ append_known_twice old.sent (take c.loop-done.done b) (take c.in-Took.count (drop c.loop-done.done b))
          ∙ ap (append_known old.sent) (sym (take-add c.loop-done.done c.in-Took.count b));
      faults = c.in-Took.ensures.faults ∙ c.loop-done.invariant.faults;
      left = c.in-Took.ensures.left ∙ c.loop-done.invariant.left;
      idles = c.in-Took.ensures.idles ∙ c.loop-done.invariant.idles;
      pauses = c.in-Took.ensures.pauses ∙ c.loop-done.invariant.pauses;
      ended = c.in-Took.ensures.ended ∙ c.loop-done.invariant.ended;
    }
