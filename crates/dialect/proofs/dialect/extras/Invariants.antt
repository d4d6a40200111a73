use Rattle.std.proofs.Common.{◌≡◌, take}
use Rattle.mav_profile.specs.Messages.{extras_of}
use Rattle.dialect.proofs.dialect.extras.Given as goal

abbrev pub invariant-loop-layout : goal.invariant-loop-layout
invariant-loop-layout l = l.by_id.entries ≡ extras_of (take l.layout-index l.layouts)
