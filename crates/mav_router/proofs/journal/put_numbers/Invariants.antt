use Rattle.std.proofs.Common.{◌≡◌, ◌≤◌, ◌+◌, ◌++◌, replicate, vec_len, vec_capacity}
use Rattle.mav_router.proofs.journal.put_numbers.Given as goal

abbrev pub invariant-loop-at : goal.invariant-loop-at
invariant-loop-at l = record {
  items : l.page_of.items ≡ l.initial.page_of.items ++ replicate l.at l.number;
  long : vec_len l.page_of ≡ vec_len l.initial.page_of + l.at;
  room : vec_capacity l.initial.page_of ≤ vec_capacity l.page_of;
}
