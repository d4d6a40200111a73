use Rattle.std.proofs.Common.{◌≡◌, vec_len}
use Rattle.mav_router.proofs.joining.new_rooms.Given as goal

abbrev pub invariant-loop-at : goal.invariant-loop-at
invariant-loop-at l = vec_len l.rooms ≡ l.at
