-- What contracts see of a file.
use Rattle.plan_items.specs.Plans.{items_of}
use Rattle.fence_command.specs.declared.files.FenceFile.{FenceFile}
use Rattle.fence_command.specs.FenceFile.{FileState}

abbrev pub state_of : FenceFile → FileState
state_of f = record {
  home = f.home;
  step = f.step;
  ticks = f.ticks;
  fence = items_of f.fence;
  mission = items_of f.mission;
  to_fence = f.to_fence;
}
