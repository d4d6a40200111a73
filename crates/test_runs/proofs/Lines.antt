-- What lines of scenarios say, computed from the definitions.
use Rattle.std.proofs.Common.{◌≡◌, [], ◌∷◌, codes, Some, None, pos, neg_ℤ, refl}
use Rattle.std.specs.Prelude.{map}
use Rattle.hex.specs.Hex.{decode_pairs}
use Rattle.mav_names.specs.declared.names.Name.{Name}
use Rattle.plan_items.specs.declared.items.Item.{Item}
use Rattle.plan_items.specs.declared.kinds.PlanKind.TheVariants.{Mission, Fence, Rally}
use Rattle.scenario_lines.specs.declared.faults.Reason.TheVariants.{Word, Draft}
use Rattle.scenario_lines.specs.declared.lines.Line.TheVariants.{Blank, Drone, Station, Item as OneItem, Items, Empty, Begin, Cancel, Clear, Get, Heartbeat, Deliver, Flow, Noise, Tick, Clock}
use Rattle.scenario_lines.specs.Grammar.{line_of}
use Rattle.scenario_lines.specs.Reasons.{item_reason_against}

abbrev drone : Name
drone = record { sys = 1; comp = 1 }

abbrev station : Name
station = record { sys = 255; comp = 190 }

abbrev waypoint : Item
waypoint = record { frame = 3; command = 16; current = 0; autocontinue = 1; p = 0 ∷ 0 ∷ 0 ∷ 0 ∷ []; x = neg_ℤ (pos 1); y = pos 2; z = 0 }

abbrev with_words : Item
with_words = record { frame = 6; command = 65535; current = 0; autocontinue = 1; p = 0x3f800000 ∷ 0x00000001 ∷ 0xffffffff ∷ 0x12345678 ∷ []; x = pos 0; y = neg_ℤ (pos 20); z = 0x0000803f }

pub nodes_are_read :
    map line_of (
    []
    ∷ codes "# drone 0"
    ∷ codes "drone 2"
    ∷ codes "drone 255 -2147483648 2147483647"
    ∷ codes "station 255 1"
    ∷ []
    )
    ≡ Blank ∷ Blank ∷ Drone 2 (pos 0) (pos 0) ∷ Drone 255 (neg_ℤ (pos 2147483648)) (pos 2147483647) ∷ Station 255 1 ∷ []
nodes_are_read = refl

pub items_are_read :
    map line_of (
    codes "item 3 16 -1 2"
    ∷ codes "item 6 65535 0 -20 0000803F 3f800000 00000001 FFFFFFFF 12345678"
    ∷ codes "items 1 3 16 -1 2 00000000"
    ∷ codes "items 2 3 16 -1 2"
    ∷ codes "empty"
    ∷ []
    )
    ≡ OneItem waypoint ∷ OneItem with_words ∷ Items 1 waypoint ∷ Items 2 waypoint ∷ Empty ∷ []
unfolding decode_pairs
items_are_read = refl

pub orders_are_read :
    map line_of (
    codes "begin 255.190 1.1 fence"
    ∷ codes "get 255.190 1.1 mission"
    ∷ codes "clear 255.190 1.1 rally"
    ∷ codes "clear 255.190 1.1 all"
    ∷ codes "cancel 255.190"
    ∷ []
    )
    ≡ Begin station drone Fence ∷ Get station drone Mission ∷ Clear station drone (Some Rally) ∷ Clear station drone None ∷ Cancel station ∷ []
orders_are_read = refl

pub happenings_are_read :
    map line_of (
    codes "heartbeat 1.1"
    ∷ codes "tick 255.190"
    ∷ codes "deliver 18446744073709551615 1.1"
    ∷ codes "flow 18446744073709551615"
    ∷ codes "flow 0"
    ∷ codes "clock 5"
    ∷ codes "noise 255.190 fD00Ab7f"
    ∷ []
    )
    ≡ Heartbeat drone
    ∷ Tick station
    ∷ Deliver 18446744073709551615 drone
    ∷ Flow 18446744073709551615
    ∷ Flow 0
    ∷ Clock 5
    ∷ Noise station (0xFD ∷ 0 ∷ 0xAB ∷ 0x7F ∷ [])
    ∷ []
unfolding decode_pairs
happenings_are_read = refl

-- if lines of items alone are read
pub other_lines_are_refused : item_reason_against 0 (codes "empty") ≡ Some Word
other_lines_are_refused = refl

pub full_drafts_are_refused : item_reason_against 2000 (codes "item 3 16 -1 2") ≡ Some Draft
full_drafts_are_refused = refl

pub items_alone_are_read : item_reason_against 0 (codes "items 2 3 16 -1 2") ≡ None
items_alone_are_read = refl
