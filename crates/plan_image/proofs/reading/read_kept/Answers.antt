use Rattle.std.proofs.Common.{refl}
use Rattle.std.proofs.lemmas.Result.{err_from_is_err_and}
use Rattle.plan_items.specs.Plans.{items_of}
use Rattle.plan_image.proofs.Carrying.{bad_carried, no_bytes, some_bytes}
use Rattle.plan_image.proofs.Readings.{image_cut, image_whole, rest_of_header, rest_of_mission, rest_of_fence, rest_of_rally}
use Rattle.plan_image.proofs.reading.read_kept.Goals as goal

pub returns-in_default-clause-bad : goal.returns-in_default-clause-bad
returns-in_default-clause-bad c = λ is i. c.in_default.ensures.none refl i.low _ i.is.below (image_cut c.args.sys i.low i.plans c.args.bytes.now i.is.encoded)

pub returns-in_err-mission-clause-bad : goal.returns-in_err-mission-clause-bad
returns-in_err-mission-clause-bad c =
    let e = err_from_is_err_and c.from_residual.result c.from_residual.ensures.1 in
    λ is i.
    let bytes = c.args.bytes.now in
    let r0 = rest_of_header c.args.sys c.in-Some.floor bytes c.in-Some.rest.now i c.in-Some.ensures.some.0 c.in-Some.ensures.some.1 in
    c.in_err-mission.ensures.bad (bad_carried c.from_residual.result c.in_err-mission.field-0.0 e.0 e.1 e.2 is) i.plans.mission _ i.is.holdable.mission i.is.mission_in_range r0

pub returns-in_err-fence-clause-bad : goal.returns-in_err-fence-clause-bad
returns-in_err-fence-clause-bad c =
    let e = err_from_is_err_and c.from_residual-in_err-fence.result c.from_residual-in_err-fence.ensures.1 in
    λ is i.
    let bytes = c.args.bytes.now in
    let m = c.in_ok-mission in
    let r0 = rest_of_header c.args.sys c.in-Some.floor bytes c.in-Some.rest.now i c.in-Some.ensures.some.0 c.in-Some.ensures.some.1 in
    let r1 = rest_of_mission c.args.sys bytes c.in-Some.rest.now m.rest.now i (items_of m.mission) r0 m.ensures.holdable m.ensures.range m.ensures.bytes in
    c.in_err-fence.ensures.bad (bad_carried c.from_residual-in_err-fence.result c.in_err-fence.field-0.0 e.0 e.1 e.2 is) i.plans.fence _ i.is.holdable.fence i.is.fence_in_range r1

pub returns-in_err-rally-clause-bad : goal.returns-in_err-rally-clause-bad
returns-in_err-rally-clause-bad c =
    let e = err_from_is_err_and c.from_residual-in_err-rally.result c.from_residual-in_err-rally.ensures.1 in
    λ is i.
    let bytes = c.args.bytes.now in
    let m = c.in_ok-mission in
    let f = c.in_ok-fence in
    let r0 = rest_of_header c.args.sys c.in-Some.floor bytes c.in-Some.rest.now i c.in-Some.ensures.some.0 c.in-Some.ensures.some.1 in
    let r1 = rest_of_mission c.args.sys bytes c.in-Some.rest.now m.rest.now i (items_of m.mission) r0 m.ensures.holdable m.ensures.range m.ensures.bytes in
    let r2 = rest_of_fence c.args.sys bytes m.rest.now f.rest.now i (items_of f.fence) r1 f.ensures.holdable f.ensures.range f.ensures.bytes in
    c.in_err-rally.ensures.bad (bad_carried c.from_residual-in_err-rally.result c.in_err-rally.field-0.0 e.0 e.1 e.2 is) i.plans.rally _ i.is.holdable.rally i.is.rally_in_range r2

pub returns-then-not-is_empty-clause-bad : goal.returns-then-not-is_empty-clause-bad
returns-then-not-is_empty-clause-bad c =
    λ is i.
    let bytes = c.args.bytes.now in
    let m = c.in_ok-mission in
    let f = c.in_ok-fence in
    let r = c.in_ok-rally in
    let r0 = rest_of_header c.args.sys c.in-Some.floor bytes c.in-Some.rest.now i c.in-Some.ensures.some.0 c.in-Some.ensures.some.1 in
    let r1 = rest_of_mission c.args.sys bytes c.in-Some.rest.now m.rest.now i (items_of m.mission) r0 m.ensures.holdable m.ensures.range m.ensures.bytes in
    let r2 = rest_of_fence c.args.sys bytes m.rest.now f.rest.now i (items_of f.fence) r1 f.ensures.holdable f.ensures.range f.ensures.bytes in
    let r3 = rest_of_rally c.args.sys bytes f.rest.now r.rest.now i (items_of r.rally) r2 r.ensures.holdable r.ensures.range r.ensures.bytes in
    some_bytes r.rest.now c.if-not-is_empty.ensures r3

pub returns-clause-image : goal.returns-clause-image
returns-clause-image c =
    let m = c.in_ok-mission in
    let f = c.in_ok-fence in
    let r = c.in_ok-rally in
    record {
      below = c.in-Some.ensures.some.0;
      holdable = record { mission = m.ensures.holdable; fence = f.ensures.holdable; rally = r.ensures.holdable };
      mission_in_range = m.ensures.range;
      fence_in_range = f.ensures.range;
      rally_in_range = r.ensures.range;
      encoded = image_whole c.args.sys c.in-Some.floor _ c.args.bytes.now c.in-Some.rest.now m.rest.now f.rest.now r.rest.now
          c.in-Some.ensures.some.1 m.ensures.bytes f.ensures.bytes r.ensures.bytes (no_bytes r.rest.now c.if-not-is_empty.ensures);
    }
