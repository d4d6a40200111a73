use Rattle.std.proofs.Common.{◌≡◌, map, length}
use Rattle.command_line.specs.Forms.{all_differ}
use Rattle.command_line.specs.Lines.{given_of}
use Rattle.command_line.proofs.forms.all_differ.Given as goal

abbrev pub invariant-loop-settings : goal.invariant-loop-settings
invariant-loop-settings l = all_differ (map given_of l.settings) ≡ all_differ (map given_of l.fn.settings)

abbrev pub decreases-loop-settings : goal.decreases-loop-settings
decreases-loop-settings l = length l.settings
