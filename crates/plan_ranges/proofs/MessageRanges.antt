-- Messages in range fit their payloads.
use Rattle.std.proofs.Common.{◌≡◌, ℕ, ℤ, ◌^◌, ◌<◌, List, [], ◌∷◌, length, Some, get_or, refl, ap, arith}
use Rattle.std.specs.Prelude.{FitsSigned}
use Rattle.std.specs.Int.{w32, cast_unsigned}
use Rattle.std.proofs.lemmas.Int.{ints, to_z-of_z}
use Rattle.std.proofs.lemmas.List.Elements.{All-get_or}
use Rattle.field_layout.specs.Definition.{all_fields}
use Rattle.field_layout.specs.Payload.{FitsLayout}
use Rattle.mav_profile.specs.Profile.{heartbeat_definition, ping_definition, mission_request_list_definition, mission_count_definition, mission_clear_all_definition, mission_ack_definition, mission_request_int_definition, mission_item_int_definition}
use Rattle.plan_items.specs.declared.items.Item.{Item}
use Rattle.plan_items.specs.declared.messages.PlanMsg.{PlanMsg}
use Rattle.plan_items.specs.declared.messages.PlanMsg.TheVariants.{Count, Request, Item as Give, Ack, List as Listing, Clear, Ping}
use Rattle.mav_messages.specs.declared.nodes.Heartbeat.{Heartbeat}
use Rattle.mav_messages.specs.declared.messages.Message.TheVariants.{Heartbeat as CarriesHeartbeat}
use Rattle.mav_messages.specs.Messages.{definition_of, values_of}
use Rattle.mav_messages.specs.Plans.{message_of_plan, plan_of}
use Rattle.mav_messages.proofs.Decoded.{fits_layout}
use Rattle.plan_ranges.specs.Ranges.{Is32, InRange, ItemInRange, SignsFit, HeartbeatInRange}

-- one of an item's four parameters
parameter : (item : Item) (k : ℕ) → ItemInRange item → k < 4 → get_or item.p k 0 < 2 ^ 32
parameter item k h inside = All-get_or Is32 item.p k 0 (omega (arith, h.four)) h.words

-- the word of a signed number
signed : (x : ℤ) → FitsSigned w32 x → cast_unsigned w32 x < 2 ^ 32
signed x h = omega (arith, ints)

-- a plan message in range fits the fields of the message that carries it
pub fits : (m : PlanMsg) → InRange m → FitsLayout (definition_of (message_of_plan m)) (values_of (message_of_plan m))
fits (Count to count kind) h =
    fits_layout (all_fields mission_count_definition) (values_of (message_of_plan (Count to count kind)))
    ((refl, h.0.sys), ((refl, h.0.comp), ((refl, h.1), ((refl, h.2), tt))))
fits (Request to seq kind) h =
    fits_layout (all_fields mission_request_int_definition) (values_of (message_of_plan (Request to seq kind)))
    ((refl, h.0.sys), ((refl, h.0.comp), ((refl, h.1), ((refl, h.2), tt))))
fits (Give to seq kind item) h =
    let i : ItemInRange item = h.3 in
    fits_layout (all_fields mission_item_int_definition) (values_of (message_of_plan (Give to seq kind item)))
    ((refl, h.0.sys), ((refl, h.0.comp), ((refl, h.1), ((refl, i.frame), ((refl, i.command), ((refl, i.current), ((refl, i.autocontinue), ((refl, parameter item 0 i (omega arith)), ((refl, parameter item 1 i (omega arith)), ((refl, parameter item 2 i (omega arith)), ((refl, parameter item 3 i (omega arith)), ((refl, signed item.x i.x), ((refl, signed item.y i.y), ((refl, i.z), ((refl, h.2), tt)))))))))))))))
fits (Ack to code kind) h =
    fits_layout (all_fields mission_ack_definition) (values_of (message_of_plan (Ack to code kind)))
    ((refl, h.0.sys), ((refl, h.0.comp), ((refl, h.1), ((refl, h.2), tt))))
fits (Listing to kind) h =
    fits_layout (all_fields mission_request_list_definition) (values_of (message_of_plan (Listing to kind)))
    ((refl, h.0.sys), ((refl, h.0.comp), ((refl, h.1), tt)))
fits (Clear to kind) h =
    fits_layout (all_fields mission_clear_all_definition) (values_of (message_of_plan (Clear to kind)))
    ((refl, h.0.sys), ((refl, h.0.comp), ((refl, h.1), tt)))
fits (Ping to usec seq) h =
    fits_layout (all_fields ping_definition) (values_of (message_of_plan (Ping to usec seq)))
    ((refl, h.1), ((refl, h.2), ((refl, h.0.sys), ((refl, h.0.comp), tt))))

-- and is what that message carries
four : (p : List ℕ) → length p ≡ 4 → get_or p 0 0 ∷ get_or p 1 0 ∷ get_or p 2 0 ∷ get_or p 3 0 ∷ [] ≡ p
four [] h = absurd (omega arith)
four (a ∷ []) h = absurd (omega arith)
four (a ∷ b ∷ []) h = absurd (omega arith)
four (a ∷ b ∷ c ∷ []) h = absurd (omega arith)
four (a ∷ b ∷ c ∷ d ∷ []) h = refl
four (a ∷ b ∷ c ∷ d ∷ e ∷ more) h = absurd (omega arith)

pub carried : (m : PlanMsg) → InRange m → plan_of (message_of_plan m) ≡ Some m
carried (Count to count kind) h = refl
carried (Request to seq kind) h = refl
carried (Give to seq kind item) h = ap (λ p. Some (Give to seq kind (record item { p = p }))) (four item.p h.3.four)
carried (Ack to code kind) h = refl
carried (Listing to kind) h = refl
carried (Clear to kind) h = refl
carried (Ping to usec seq) h = refl

-- its coordinates come back from the words of their bits
pub signs : (m : PlanMsg) → InRange m → SignsFit m
signs (Count to count kind) h = tt
signs (Request to seq kind) h = tt
signs (Give to seq kind item) h = (to_z-of_z w32 item.x h.3.x, to_z-of_z w32 item.y h.3.y)
signs (Ack to code kind) h = tt
signs (Listing to kind) h = tt
signs (Clear to kind) h = tt
signs (Ping to usec seq) h = tt

-- HEARTBEAT
pub heartbeat_fits : (m : Heartbeat) → HeartbeatInRange m → FitsLayout (definition_of (CarriesHeartbeat m)) (values_of (CarriesHeartbeat m))
heartbeat_fits m h =
    fits_layout (all_fields heartbeat_definition) (values_of (CarriesHeartbeat m))
    ((refl, h.ty), ((refl, h.autopilot), ((refl, h.base_mode), ((refl, h.custom_mode), ((refl, h.system_status), ((refl, h.mavlink_version), tt))))))
