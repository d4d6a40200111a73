use Rattle.std.proofs.Common.{◌≡◌, ◌≤◌, ◌-◌, length, take}
use Rattle.std.specs.Io.KnownBytes.{append_known}
use Rattle.mav_links.proofs.writing.write_prefix.Given as goal

abbrev pub invariant-loop-done : goal.invariant-loop-done
invariant-loop-done g l = record {
  within : l.done ≤ length l.bytes;
  sent : (g.L.Link.state l.link).sent ≡ append_known (g.L.Link.state l.initial.link).sent (take l.done l.bytes);
  faults : (g.L.Link.state l.link).faults ≡ (g.L.Link.state l.initial.link).faults;
  left : (g.L.Link.state l.link).left ≡ (g.L.Link.state l.initial.link).left;
  idles : (g.L.Link.state l.link).idles ≡ (g.L.Link.state l.initial.link).idles;
  pauses : (g.L.Link.state l.link).pauses ≡ (g.L.Link.state l.initial.link).pauses;
  ended : (g.L.Link.state l.link).ended ≡ (g.L.Link.state l.initial.link).ended;
}

abbrev pub decreases-loop-done : goal.decreases-loop-done
decreases-loop-done g l = length l.bytes - l.done
