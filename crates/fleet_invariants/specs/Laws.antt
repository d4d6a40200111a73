-- The laws of sound states.
use Rattle.std.specs.Prelude.{ℕ, ◌≡◌, ◌≢◌, Bool, false, List, [], slice_get, codes, All, Some, None}
use Rattle.std.specs.Str.{bytes_eq}
use Rattle.mav_names.specs.declared.names.Name.{Name}
use Rattle.mav_names.specs.declared.names.Stream.{Stream}
use Rattle.mav_profile.specs.Messages.{extras_of}
use Rattle.mav_profile.specs.Profile.{profile_definitions}
use Rattle.mav_frame.specs.Packet.{Packet, FitsFrame}
use Rattle.mav_frame.specs.Encoding.{encoding, IsSealed}
use Rattle.mav_sign.specs.Signing.{Verifies}
use Rattle.plan_upload.specs.Refusals.{upload_refusal, refusal}
use Rattle.plan_ranges.specs.Ranges.{Is8, Is16, Is32, NameInRange}
use Rattle.command_proto.specs.Commander.{open_command}
use Rattle.command_proto.specs.Executor.{last_in, has_no_room}
use Rattle.mav_nodes.specs.Links.{Outcome}
use Rattle.mav_nodes.specs.Nodes.{DroneSide, StationSide, station_begins, station_cancels, station_clears}
use Rattle.mav_nodes.specs.Nodes.{station_gets, station_commands, station_lists_params}
use Rattle.scenario_lines.specs.declared.lines.Line.{Line}
use Rattle.scenario_lines.specs.Words.{words_of, word_at}
use Rattle.scenario_lines.specs.LineContext.{LineContext}
use Rattle.scenario_lines.specs.Grammar.{line_of}
use Rattle.scenario_lines.specs.Reasons.{reason_against}
use Rattle.scenario_lines.specs.Permits.{IsPermitted}
use Rattle.node_reports.specs.Nodes.{Node, Drone, Station}
use Rattle.node_reports.specs.Calls.{node_receives, node_beats, node_ticks, as_station, node_flies}
use Rattle.fleet_world.specs.WorldState.{WorldState, stream_of, context_of}
use Rattle.fleet_world.specs.Steps.{node_does, given_to, given_from, given_to_all, flows, calls, after_line}
use Rattle.fleet_world.specs.Steps.{Stamps_spent}
use Rattle.fleet_world.specs.Scenario.{Played, Not_done, played, lines_played}
use Rattle.scenario_lines.specs.FileLines.{whole_lines, unfinished, without_cr}
use Rattle.fleet_world.specs.Authentic.{AuthenticDone, AuthenticBytes, AuthenticLine, HoldsOfLines, Authentic}
use Rattle.fleet_invariants.specs.Sound.{IsSent, Sound}
use Rattle.fleet_invariants.specs.Kept.{Known, Heard, OutcomeReads, Keeps, KeepsLine, LineFits}

-- ---- what is heard

-- each sent frame is heard as it was sent
abbrev pub EachHeard : Type 0
EachHeard = (s : WorldState) → Sound s → (p : Packet) (sent : IsSent s p) → Heard s p sent

-- the bytes of a sent frame, and authentic bytes, bring nothing that wasn't sent
abbrev pub SentKnown : Type 0
SentKnown = (s : WorldState) → Sound s → (i : ℕ) (p : Packet) → slice_get s.sent i ≡ Some p → Known s (encoding p)

abbrev pub AuthenticKnown : Type 0
AuthenticKnown = (s : WorldState) → Sound s → (bytes : List ℕ) → All Is8 bytes → AuthenticBytes s bytes → Known s bytes

-- bytes that bring nothing that wasn't sent are authentic
abbrev pub KnownAuthentic : Type 0
KnownAuthentic = (s : WorldState) (bytes : List ℕ) → Known s bytes → AuthenticBytes s bytes

-- noise that repeats a sent frame is authentic
abbrev pub SentAuthentic : Type 0
SentAuthentic = (s : WorldState) → Sound s → (i : ℕ) (p : Packet) → slice_get s.sent i ≡ Some p
    → AuthenticBytes s (encoding p)

-- and a frame that verifies under the key and wasn't sent is not
abbrev pub UnsentForeign : Type 0
UnsentForeign =
    (s : WorldState) → Sound s → (p : Packet) → FitsFrame p → IsSealed (extras_of profile_definitions) false p
    → Verifies s.key p p.block
    → ((i : ℕ) → slice_get s.sent i ≡ Some p → ⊥) → AuthenticBytes s (encoding p) → ⊥

-- ---- what one node does

abbrev pub CallKeeps : WorldState → (Node → Outcome Node) → Type 0
CallKeeps s call =
    (k : ℕ) (node : Node) (name : Name) → slice_get s.nodes k ≡ Some node
    → Keeps s (node_does s k name (call node)) × OutcomeReads (call node)

abbrev pub OrderKeeps : WorldState → WorldState → ℕ → StationSide → Outcome StationSide → Type 0
OrderKeeps s from k node outcome =
    (name : Name) → slice_get s.nodes k ≡ Some (Station node)
    → Keeps s (node_does from k name (as_station outcome)) × OutcomeReads (as_station outcome)

pub record EachCallKeeps (s : WorldState) : Type 0 where
  pub receives : (bytes : List ℕ) → Known s bytes → CallKeeps s (node_receives s.clock bytes)
  pub beats : CallKeeps s (node_beats s.clock)
  pub ticks : CallKeeps s (node_ticks s.clock)
  pub flies : CallKeeps s (node_flies s.clock)
  pub begins : (k : ℕ) (node : StationSide) (drone : Name) (kind : ℕ) → NameInRange drone → Is8 kind
      → upload_refusal node.core kind s.draft ≡ None
      → OrderKeeps s (record s { draft = [] }) k node (station_begins s.clock (stream_of drone) kind s.draft node)
  pub cancels : (k : ℕ) (node : StationSide) → OrderKeeps s s k node (station_cancels s.clock node)
  pub clears : (k : ℕ) (node : StationSide) (drone : Name) (kind : ℕ) → NameInRange drone → Is8 kind
      → refusal node.core ≡ None
      → OrderKeeps s s k node (station_clears s.clock (stream_of drone) kind node)
  pub gets : (k : ℕ) (node : StationSide) (drone : Name) (kind : ℕ) → NameInRange drone → Is8 kind
      → refusal node.core ≡ None
      → OrderKeeps s s k node (station_gets s.clock (stream_of drone) kind node)
  pub commands : (k : ℕ) (node : StationSide) (drone : Name) (number word : ℕ) → NameInRange drone → Is16 number
      → Is32 word → open_command node.services.commander ≡ None
      → OrderKeeps s s k node (station_commands s.clock (stream_of drone) number word node)
  pub params : (k : ℕ) (node : StationSide) (drone : Name) → NameInRange drone → node.services.client.operation ≡ None
      → OrderKeeps s s k node (station_lists_params s.clock (stream_of drone) node)

abbrev pub EveryCallKeeps : Type 0
EveryCallKeeps = (s : WorldState) → Sound s → EachCallKeeps s

-- ---- what frames that are given do

pub record EachGivingKeeps (s : WorldState) : Type 0 where
  pub one : (i : ℕ) (p : Packet) → slice_get s.sent i ≡ Some p → (k : ℕ)
      → Keeps s (given_to s k p (slice_get s.nodes k))
  pub some : (i : ℕ) (p : Packet) → slice_get s.sent i ≡ Some p → (k n : ℕ) → Keeps s (given_from s k n p)
  pub all : (i : ℕ) (p : Packet) → slice_get s.sent i ≡ Some p → Keeps s (given_to_all s p)
  pub flow : (k : ℕ) → Keeps s (flows k s)
  pub again : (i : ℕ) (p : Packet) → slice_get s.sent i ≡ Some p → (name : Name)
      → Keeps s (calls s name (node_receives s.clock (encoding p)))

abbrev pub EveryGivingKeeps : Type 0
EveryGivingKeeps = (s : WorldState) → Sound s → EachGivingKeeps s

-- ---- lines

abbrev pub EveryLineKeeps : Type 0
EveryLineKeeps =
    (s : WorldState) → Sound s → (line : Line) → IsPermitted (context_of s) line → LineFits line → AuthenticLine s line
    → KeepsLine s line (after_line s line)

-- a line that has no reason against it may be asked for, and its numbers are in range
abbrev pub EveryReadLineFits : Type 0
EveryReadLineFits =
    (context : LineContext) (text : List ℕ) → reason_against context text ≡ None → IsPermitted context (line_of text)
    × LineFits (line_of text)

-- ---- scenarios

abbrev pub EveryLinesSound : Type 0
EveryLinesSound =
    (p : Played) → Sound p.state → (number : ℕ) (lines : List (List ℕ)) → HoldsOfLines AuthenticDone p number lines
    → Sound (lines_played p number lines).state

abbrev pub EveryStateSound : Type 0
EveryStateSound = (key : List ℕ) (ended : Bool) (bytes : List ℕ) → Authentic key ended bytes
    → Sound (played key ended bytes).state

-- an authentic scenario never stops for want of a timestamp
abbrev pub NoneSpent : Type 0
NoneSpent = (key : List ℕ) (ended : Bool) (bytes : List ℕ) → Authentic key ended bytes
    → (played key ended bytes).stop ≢ Some (Not_done Stamps_spent)

-- a drone has room for the last command of every stream: it rejects none for want of room
abbrev pub EveryCommandHasRoom : Type 0
EveryCommandHasRoom =
    (s : WorldState) → Sound s → (k : ℕ) (d : DroneSide) → slice_get s.nodes k ≡ Some (Drone d) → (from : Stream)
    → has_no_room (last_in d.services.executor.last from) d.services.executor.last ≡ false

-- the first word of a line is `noise`
abbrev pub is_noise : List ℕ → Bool
is_noise text = bytes_eq (word_at (words_of text) 0) (codes "noise")

-- that of no line is
pub record IsQuiet (bytes : List ℕ) : Type 0 where
  pub lines : (i : ℕ) (raw : List ℕ) → slice_get (whole_lines bytes) i ≡ Some raw → is_noise (without_cr raw) ≡ false
  pub last : is_noise (unfinished bytes) ≡ false

abbrev pub EveryQuietAuthentic : Type 0
EveryQuietAuthentic = (key : List ℕ) (ended : Bool) (bytes : List ℕ) → IsQuiet bytes → Authentic key ended bytes
