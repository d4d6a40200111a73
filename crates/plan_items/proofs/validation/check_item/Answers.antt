use Rattle.std.proofs.Common.{refl}
use Rattle.plan_items.specs.Validation.{item_fault}
use Rattle.plan_items.proofs.Rows.{row_fails, row_holds}
use Rattle.plan_items.proofs.validation.check_item.Goals as goal

pub returns-then-not-supports_frame : goal.returns-then-not-supports_frame
unfolding item_fault
returns-then-not-supports_frame c = row_fails _ _ _ c.supports_frame.ensures c.if-not-supports_frame.true

pub returns-then-not-supports_command : goal.returns-then-not-supports_command
unfolding item_fault
returns-then-not-supports_command c =
    row_holds _ _ _ c.supports_frame.ensures c.if-not-supports_frame.false
    (row_fails _ _ _ c.supports_command.ensures c.if-not-supports_command.true)

pub returns-then-not-has_latitude : goal.returns-then-not-has_latitude
unfolding item_fault
returns-then-not-has_latitude c =
    row_holds _ _ _ c.supports_frame.ensures c.if-not-supports_frame.false
    (row_holds _ _ _ c.supports_command.ensures c.if-not-supports_command.false
    (row_fails _ _ _ c.has_latitude.ensures c.if-not-has_latitude.true))

pub returns-then-not-has_longitude : goal.returns-then-not-has_longitude
unfolding item_fault
returns-then-not-has_longitude c =
    row_holds _ _ _ c.supports_frame.ensures c.if-not-supports_frame.false
    (row_holds _ _ _ c.supports_command.ensures c.if-not-supports_command.false
    (row_holds _ _ _ c.has_latitude.ensures c.if-not-has_latitude.false
    (row_fails _ _ _ c.has_longitude.ensures c.if-not-has_longitude.true)))

pub returns-then-not-has_polygon_len : goal.returns-then-not-has_polygon_len
unfolding item_fault
returns-then-not-has_polygon_len c =
    row_holds _ _ _ c.supports_frame.ensures c.if-not-supports_frame.false
    (row_holds _ _ _ c.supports_command.ensures c.if-not-supports_command.false
    (row_holds _ _ _ c.has_latitude.ensures c.if-not-has_latitude.false
    (row_holds _ _ _ c.has_longitude.ensures c.if-not-has_longitude.false
    (row_fails _ _ _ c.has_polygon_len.ensures c.if-not-has_polygon_len.true))))

pub returns : goal.returns
unfolding item_fault
returns c =
    row_holds _ _ _ c.supports_frame.ensures c.if-not-supports_frame.false
    (row_holds _ _ _ c.supports_command.ensures c.if-not-supports_command.false
    (row_holds _ _ _ c.has_latitude.ensures c.if-not-has_latitude.false
    (row_holds _ _ _ c.has_longitude.ensures c.if-not-has_longitude.false
    (row_holds _ _ _ c.has_polygon_len.ensures c.if-not-has_polygon_len.false refl))))
