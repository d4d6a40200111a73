-- Frames of a few messages, signed under the key of the bytes 0 to 31 or not at all. Admission doesn't look at
-- checksums, so they are 0 here.
use Rattle.std.specs.Prelude.{ℕ, Bool, false, List, [], ◌∷◌, ◌++◌, Some, None, fold}
use Rattle.std.specs.List.{range_with_len}
use Rattle.mav_names.specs.declared.names.Name.{Name}
use Rattle.mav_frame.specs.Packet.{Packet}
use Rattle.mav_sign.specs.Signing.{signature_of}
use Rattle.mav_profile.specs.Profile.{profile_definitions}
use Rattle.mav_router.specs.declared.entries.Entry.{Entry}
use Rattle.mav_router.specs.Journal.{Rules, entry_after}

abbrev pub the_key : List ℕ
the_key = range_with_len 0 32

abbrev pub node : ℕ → ℕ → Name
node sys comp = record { sys = sys; comp = comp }

-- a frame without a signature block, of MAVLink 1 or 2
abbrev pub unsigned : Bool → Name → ℕ → List ℕ → Packet
unsigned old from id payload =
    record { old = old; compat = 0; seq = 0; from = from; id = id; payload = payload; check = 0; block = None }

-- a frame signed on link 0 at that timestamp; the signature doesn't enter itself
abbrev pub with_signature : Packet → ℕ → List ℕ → Packet
with_signature packet stamp sig = record packet { block = Some (record { link = 0; stamp = stamp; sig = sig }) }

abbrev pub signed : Name → ℕ → List ℕ → ℕ → Packet
signed from id payload stamp =
    let packet : Packet = unsigned false from id payload in
    with_signature packet stamp (signature_of the_key (with_signature packet stamp []) 0 stamp)

-- HEARTBEAT; MISSION_COUNT of 1, MISSION_REQUEST_INT of item 0 and MISSION_ACK 0 to a node
abbrev pub heartbeat : ℕ
heartbeat = 0

abbrev pub heartbeat_payload : List ℕ
heartbeat_payload = 0 ∷ 0 ∷ 0 ∷ 0 ∷ 2 ∷ 3 ∷ 0x51 ∷ 4 ∷ 3 ∷ []

abbrev pub count_to : Name → List ℕ
count_to target = 1 ∷ 0 ∷ target.sys ∷ target.comp ∷ []

abbrev pub request_to : Name → List ℕ
request_to target = 0 ∷ 0 ∷ target.sys ∷ target.comp ∷ []

abbrev pub ack_to : Name → List ℕ
ack_to target = target.sys ∷ target.comp ∷ []

-- a frame that comes in at a port
pub record Incoming : Type 0 where
  pub port : ℕ
  pub frame : Packet

abbrev pub at_port : ℕ → Packet → Incoming
at_port port frame = record { port = port; frame = frame }

-- the journal of frames that come in one after another
abbrev pub journal_of : Rules → List Incoming → List Entry
journal_of rules frames = fold (λ before (i : Incoming). before ++ entry_after rules before i.port i.frame ∷ []) []
    frames

abbrev pub rules_of : ℕ → List Bool → Rules
rules_of ports plain = record { key = the_key; known = profile_definitions; ports = ports; plain = plain }
