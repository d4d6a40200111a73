use Rattle.std.proofs.Common.{◌≡◌, ◌≤◌, length, map, take, vec_len, vec_capacity}
use Rattle.mav_router.specs.declared.parts.Side.{Side}
use Rattle.mav_router.specs.Ends.{end_by}
use Rattle.mav_router.proofs.closing.put_ends.Given as goal

abbrev pub invariant-loop-at : goal.invariant-loop-at
invariant-loop-at g l = record {
  long : vec_len l.ends ≡ l.at;
  room : length l.sides ≤ vec_capacity l.ends;
  ends : l.ends.items ≡ map (λ (side : Side g.row.L.Denot). end_by side.lane l.turns) (take l.at l.sides);
}
