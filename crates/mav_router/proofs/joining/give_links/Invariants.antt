use Rattle.std.proofs.Common.{◌≡◌, ◌≤◌, ◌+◌, ◌++◌, map, vec_len, vec_capacity}
use Rattle.mav_router.specs.declared.parts.Side.{Side}
use Rattle.mav_router.proofs.joining.give_links.Given as goal

abbrev pub invariant-loop-at : goal.invariant-loop-at
invariant-loop-at g l = record {
  long : vec_len l.sides + l.at ≡ l.at-end;
  room : vec_len l.sides + vec_len l.links ≤ vec_capacity l.links;
  links : l.links.items ++ map (λ (side : Side g.row.L.Denot). side.link) l.sides.items ≡ map (λ (side : Side g.row.L.Denot). side.link) l.initial.sides.items;
}
