use Rattle.std.proofs.Common.{arith}
use Rattle.mav_router.proofs.joining.new_stock.Goals as goal

pub returns : goal.returns
returns g c = λ key. record {
  lanes = omega (arith, c.in_ok-new_lanes.field-0.ok.0, c.in_ok-new_lanes.ensures.length);
  fresh = c.in_ok-new_lanes.ensures.fresh key c.args.count;
  turned = c.in_ok-new_lanes.ensures.turned;
  rooms = c.in_ok-new_rooms.ensures;
  sides = c.in_ok-with_capacity.ensures.len;
  room = c.in_ok-with_capacity.ensures.capacity;
}
