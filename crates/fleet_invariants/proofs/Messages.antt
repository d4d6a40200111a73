-- Messages in range fit a payload, and what a payload carries is in range.
use Rattle.std.proofs.Common.{Option, Some, None, IfSome}
use Rattle.std.specs.Int.{w32}
use Rattle.std.proofs.lemmas.Int.{to_z-of_z}
use Rattle.field_layout.specs.Payload.{FitsLayout}
use Rattle.plan_items.specs.declared.messages.PlanMsg.{PlanMsg}
use Rattle.plan_items.specs.declared.messages.PlanMsg.TheVariants.{Count, Request, Item as Give, Ack, List as Listing, Clear, Ping}
use Rattle.mav_messages.specs.declared.messages.Message.{Message}
use Rattle.mav_messages.specs.Messages.{definition_of, values_of}
use Rattle.mav_messages.specs.Plans.{message_of_plan, plan_of}
use Rattle.mav_nodes.specs.Payloads.{ItemFits, ServiceFits}
use Rattle.mav_nodes.specs.Laws.{FitsMessage}
use Rattle.plan_ranges.specs.Ranges.{InRange, SignsFit}
use Rattle.plan_ranges.proofs.MessageRanges as ranges
use Rattle.plan_ranges.proofs.ReadingRanges.{readings}

item_fits : (m : PlanMsg) → InRange m → ItemFits (plan_of (message_of_plan m))
item_fits (Count to count kind) h = tt
item_fits (Request to seq kind) h = tt
item_fits (Give to seq kind item) h = (to_z-of_z w32 item.x h.3.x, to_z-of_z w32 item.y h.3.y)
item_fits (Ack to code kind) h = tt
item_fits (Listing to kind) h = tt
item_fits (Clear to kind) h = tt
item_fits (Ping to usec seq) h = tt

service_fits : (m : PlanMsg) → ServiceFits (message_of_plan m)
service_fits (Count to count kind) = tt
service_fits (Request to seq kind) = tt
service_fits (Give to seq kind item) = tt
service_fits (Ack to code kind) = tt
service_fits (Listing to kind) = tt
service_fits (Clear to kind) = tt
service_fits (Ping to usec seq) = tt

pub plan_fits : (m : PlanMsg) → InRange m → FitsMessage (message_of_plan m)
plan_fits m h = record { values = ranges.fits m h; item = item_fits m h; service = service_fits m }

-- what a message carries that fits
item_signs : (o : Option PlanMsg) → ItemFits o → IfSome o SignsFit
item_signs None h = tt
item_signs (Some (Count to count kind)) h = tt
item_signs (Some (Request to seq kind)) h = tt
item_signs (Some (Give to seq kind item)) h = h
item_signs (Some (Ack to code kind)) h = tt
item_signs (Some (Listing to kind)) h = tt
item_signs (Some (Clear to kind)) h = tt
item_signs (Some (Ping to usec seq)) h = tt

pub carried_in_range : (message : Message) → FitsLayout (definition_of message) (values_of message) → ItemFits (plan_of message) → IfSome (plan_of message) InRange
carried_in_range message fits item = readings message fits (item_signs (plan_of message) item)
