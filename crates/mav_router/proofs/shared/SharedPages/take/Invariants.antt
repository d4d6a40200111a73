use Rattle.std.proofs.Common.{◌≡◌, ◌≤◌, ◌-◌, take, drop, vec_capacity}
use Rattle.mav_router.proofs.shared.SharedPages.take.Given as goal

abbrev pub invariant-loop-number : goal.invariant-loop-number
invariant-loop-number l = record {
  pages : l.self-inside.pages.items ≡ take (l.number - l.from) (drop l.from l.sealed);
  room : 64 ≤ vec_capacity l.self-inside.pages;
}
