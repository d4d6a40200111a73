-- The journal of a router: every frame that came in, with its verdict and the ports that it goes to (MAVLink guide,
-- Routing; Message Signing, Accepting Signed Packets).
use Rattle.std.specs.Prelude.{ℕ, ◌≡◌, ◌≤◌, ◌==◌, ◌-◌, ◌&&◌, Bool, if◌then◌else◌, List, [], ◌∷◌, ◌++◌, take, slice_get}
use Rattle.std.specs.Prelude.{slice_index, option_map, Option, Some, None, is_none, ⊤}
use Rattle.std.specs.List.{filter_map, flat_map}
use Rattle.mav_names.specs.declared.names.Name.{Name}
use Rattle.field_layout.specs.Definition.{Definition, base_len_of}
use Rattle.field_layout.specs.Target.{target_of}
use Rattle.mav_profile.specs.Messages.{definition_with}
use Rattle.mav_frame.specs.Packet.{Packet}
use Rattle.mav_frame.specs.Encoding.{encoding}
use Rattle.mav_sign.specs.declared.admission.Admit.{Admit}
use Rattle.mav_sign.specs.declared.admission.Admit.TheVariants.{Admitted}
use Rattle.mav_sign.specs.History.{Entry as Tried, tried, answer_to, is_admitted}
use Rattle.mav_sign.specs.Streams.{listed}
use Rattle.link_table.specs.Routing.{Learned, ways_of, no_ways, common_ways, has_port}
use Rattle.mav_router.specs.declared.entries.Entry.{Entry}

-- what a router goes by: the key of its links, the messages that it knows, how many ports it has, and which of them
-- are open to frames without a signature block
pub record Rules : Type 0 where
  pub key : List ℕ
  pub known : List Definition
  pub ports : ℕ
  pub plain : List Bool

abbrev pub rules_of : List ℕ → List Definition → List Bool → ℕ → Rules
rules_of key known plain ports = record { key = key; known = known; ports = ports; plain = plain }

abbrev pub is_unsigned : Packet → Bool
is_unsigned packet = is_none packet.block

-- an admitted entry teaches that its sender is behind its port
abbrev pub learned_at : Bool → ℕ → Name → Option Learned
learned_at admitted port from = if admitted then Some (record { port = port; from = from }) else None

abbrev pub learned_by : Entry → Option Learned
learned_by entry = learned_at (is_admitted entry.admit) entry.port entry.frame.from

abbrev pub learned_in : List Entry → List Learned
learned_in journal = filter_map learned_by journal

-- the history of the router's verifier, one for all ports: the entries with a signature block
abbrev pub tried_as : Packet → Admit → Option Tried
tried_as packet admit = if is_unsigned packet then None else Some (tried packet admit)

abbrev pub tried_by : Entry → Option Tried
tried_by entry = tried_as entry.frame entry.admit

abbrev pub tried_in : List Entry → List Tried
tried_in journal = filter_map tried_by journal

-- the bytes of a payload that may have target fields: of a frame of MAVLink 1 those of base fields alone
abbrev pub target_bytes : Bool → ℕ → List ℕ → List ℕ
target_bytes old base payload = if old then take base payload else payload

-- the node that a frame is for
abbrev pub target_in : Option Definition → Packet → Name
target_in None packet = record { sys = 0; comp = 0 }
target_in (Some def) packet = target_of def (target_bytes packet.old (base_len_of def) packet.payload)

abbrev pub target_by : Rules → Packet → Name
target_by rules packet = target_in (definition_with packet.id rules.known) packet

-- the verdict on a frame at a port that is open or not, after a history: an open port admits each frame without a
-- signature block
abbrev pub verdict_on : List ℕ → Bool → List Tried → Packet → Admit
verdict_on key is_open history packet = if is_open && is_unsigned packet then Admitted
    else answer_to key history packet

abbrev pub admit_after : Rules → List Entry → ℕ → Packet → Admit
admit_after rules before port packet = verdict_on rules.key (has_port rules.plain port) (tried_in before) packet

-- the ports that a frame goes to: one without a signature block to open ports alone, a refused one to none
abbrev pub ways_by : Bool → Bool → List Bool → List Bool → List Bool
ways_by admitted unsigned plain ways = if admitted then (if unsigned then common_ways ways plain else ways)
    else no_ways

-- the entry of a frame that comes in at a port after these entries
abbrev pub entry_after : Rules → List Entry → ℕ → Packet → Entry
entry_after rules before port packet = record {
  port = port;
  frame = packet;
  admit = admit_after rules before port packet;
  ways = ways_by (is_admitted (admit_after rules before port packet)) (is_unsigned packet) rules.plain
      (ways_of rules.ports (learned_in before) port (target_by rules packet));
}

-- ports are numbered from 1
abbrev pub IsPortOf : Rules → ℕ → Type 0
IsPortOf rules port = (1 ≤ port) × (port ≤ rules.ports)

-- each entry is of one of the router's ports, and is that of its port and frame after those before it
abbrev pub IsJournal : Rules → List Entry → List Entry → Type 0
IsJournal rules before [] = ⊤
IsJournal rules before (entry ∷ entries) =
    IsPortOf rules entry.port × (entry ≡ entry_after rules before entry.port entry.frame)
    × IsJournal rules (before ++ entry ∷ []) entries

-- the frames that came in at a port, and those that go out at it
abbrev pub frame_from : ℕ → Entry → Option Packet
frame_from port entry = if entry.port == port then Some entry.frame else None

abbrev pub frames_from : ℕ → List Entry → List Packet
frames_from port journal = filter_map (frame_from port) journal

abbrev pub frame_to : ℕ → Entry → Option Packet
frame_to port entry = if has_port entry.ways port then Some entry.frame else None

abbrev pub frames_to : ℕ → List Entry → List Packet
frames_to port journal = filter_map (frame_to port) journal

-- the frame of the entry at an index, if there is one
abbrev pub frames_at : List Entry → Option ℕ → List Packet
frames_at journal None = []
frames_at journal (Some index) = listed (option_map (λ (entry : Entry). entry.frame) (slice_get journal index))

-- the bytes of frames, one after another
abbrev pub bytes_of : List Packet → List ℕ
bytes_of frames = flat_map encoding frames

-- a switch: its rules, its journal, and for each port how many of the entries were looked through for it
pub record SwitchState : Type 0 where
  pub rules : Rules
  pub journal : List Entry
  pub seen : List ℕ

-- the frames that a switch gave for a port
abbrev pub given_to : SwitchState → ℕ → List Packet
given_to switch port = frames_to port (take (slice_index switch.seen (port - 1)) switch.journal)

-- more came in at a port, and nothing else changed
pub record Grows (port : ℕ) (old new : SwitchState) : Type 0 where
  pub rules : new.rules ≡ old.rules
  pub others : (other : ℕ) → (other ≡ port → ⊥) → frames_from other new.journal ≡ frames_from other old.journal
  pub given : (other : ℕ) → given_to new other ≡ given_to old other
