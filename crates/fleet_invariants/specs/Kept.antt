-- What each step keeps of a sound state, and how sent frames are heard.
use Rattle.std.specs.Prelude.{false, ℕ, ◌≡◌, ◌≤◌, List, [], ◌∷◌, ◌++◌, length, slice_get, All, Some, None, Ok, Err}
use Rattle.std.specs.declared.result.Result.{Result}
use Rattle.mav_names.specs.Addresses.{drone_name}
use Rattle.mav_profile.specs.Messages.{extras_of}
use Rattle.mav_profile.specs.Profile.{profile_definitions}
use Rattle.mav_frame.specs.Packet.{Packet}
use Rattle.mav_frame.specs.Encoding.{encoding}
use Rattle.mav_frame.specs.FinalParse.{final_parse}
use Rattle.mav_messages.specs.Plans.{plan_of}
use Rattle.mav_sign.specs.Signing.{Verifies, signature_of}
use Rattle.mav_sign.specs.History.{previous_in}
use Rattle.mav_sign.specs.Endpoints.{frames_of}
use Rattle.mav_nodes.specs.News.{NodeEvent, Sends, Installs, Empties, Drops, Ends, Ends_command, Gives_param}
use Rattle.mav_nodes.specs.News.{Ends_params, Reaches, Captures, Ends_file}
use Rattle.mav_nodes.specs.Links.{Outcome}
use Rattle.mav_nodes.specs.Payloads.{plan_in, service_in, service_of}
use Rattle.scenario_lines.specs.declared.lines.Line.{Line}
use Rattle.scenario_lines.specs.declared.lines.Line.TheVariants.{Drone as DroneLine, Station as StationLine}
use Rattle.scenario_lines.specs.declared.lines.Line.TheVariants.{Item as OneItem, Items, Command, Noise}
use Rattle.scenario_lines.specs.declared.naming.Named.{Named}
use Rattle.scenario_lines.specs.declared.naming.Role.TheVariants.{Drone as DroneRole, Station as StationRole}
use Rattle.plan_ranges.specs.Ranges.{Is8, Is16, Is32, ItemInRange}
use Rattle.drone_sim.specs.Laws.{PointInRange}
use Rattle.node_reports.specs.Nodes.{Node}
use Rattle.fleet_world.specs.WorldState.{WorldState, named, names_of}
use Rattle.fleet_world.specs.Steps.{Step, StepError}
use Rattle.fleet_invariants.specs.Sound.{link_of, IsSent, Sound}

-- a frame is one of those that were sent
pub record IsAmong (sent : List Packet) (p : Packet) : Type 0 where
  pub index : ℕ
  pub found : slice_get sent index ≡ Some p

-- each frame of some bytes that verifies is one of those that were sent
abbrev pub Known : WorldState → List ℕ → Type 0
Known s bytes =
    (index : ℕ) (p : Packet) → slice_get (frames_of (final_parse (extras_of profile_definitions) false bytes)) index
    ≡ Some p
    → Verifies s.key p p.block → IsAmong s.sent p

-- a sent frame is heard as it was sent: alone in its bytes, on link 0, at its timestamp, signed, with its message
pub record Heard (s : WorldState) (p : Packet) (sent : IsSent s p) : Type 0 where
  pub frames : frames_of (final_parse (extras_of profile_definitions) false (encoding p)) ≡ p ∷ []
  pub block : p.block ≡ Some (record { link = 0; stamp = sent.stamp; sig = signature_of s.key p 0 sent.stamp })
  pub verifies : Verifies s.key p p.block
  pub plan : plan_in p.id p.payload ≡ plan_of sent.message
  pub service : service_in p.id p.payload ≡ service_of sent.message

-- a frame that is reported as sent carries the plan message of its message
abbrev pub Reads : NodeEvent → Type 0
Reads (Sends packet message) = plan_in packet.id packet.payload ≡ plan_of message
Reads (Installs kind items by) = Unit {0}
Reads (Empties kind) = Unit {0}
Reads (Drops answer) = Unit {0}
Reads (Ends told) = Unit {0}
Reads (Ends_command result) = Unit {0}
Reads (Gives_param param) = Unit {0}
Reads (Ends_params values) = Unit {0}
Reads (Reaches number) = Unit {0}
Reads (Captures total) = Unit {0}
Reads (Ends_file end) = Unit {0}

abbrev pub AllRead : List NodeEvent → Type 0
AllRead [] = Unit {0}
AllRead (e ∷ es) = Reads e × AllRead es

abbrev pub OutcomeReads : Outcome Node → Type 0
OutcomeReads None = Unit {0}
OutcomeReads (Some d) = AllRead d.events

-- a node keeps its index: its role, its name and its stream are the same, and timestamps only rise
pub record Follows (nodes : List Node) (index : ℕ) (a : Node) : Type 0 where
  pub node : Node
  pub found : slice_get nodes index ≡ Some node
  pub named_is : named node ≡ named a
  pub me : (link_of node).me ≡ (link_of a).me
  pub previous : previous_in (link_of a).history ≤ previous_in (link_of node).history

-- what was named and sent stays
pub record Kept (s t : WorldState) : Type 0 where
  pub key : t.key ≡ s.key
  pub nodes : (i : ℕ) (a : Node) → slice_get s.nodes i ≡ Some a → Follows t.nodes i a
  pub many : length s.nodes ≤ length t.nodes
  pub sent : (i : ℕ) (p : Packet) → slice_get s.sent i ≡ Some p → slice_get t.sent i ≡ Some p
  pub frames : length s.sent ≤ length t.sent
  pub clock : s.clock ≤ t.clock
  pub restarts : s.restarts ≤ t.restarts

-- a step that names no node and moves no clock
pub record StepKeeps (s t : WorldState) : Type 0 where
  pub sound : Sound t
  pub kept : Kept s t
  pub names : names_of t.nodes ≡ names_of s.nodes
  pub clock : t.clock ≡ s.clock

abbrev pub Keeps : WorldState → Result Step StepError → Type 0
Keeps s (Ok t) = StepKeeps s t.state
Keeps s (Err error) = Unit {0}

-- a line: the nodes that it names are the last ones
abbrev pub names_joined : Line → List Named
names_joined (DroneLine sys x y) = record { role = DroneRole; name = drone_name sys } ∷ []
names_joined (StationLine sys comp) = record { role = StationRole; name = record { sys = sys; comp = comp } } ∷ []
names_joined _ = []

pub record LineKeeps (s : WorldState) (line : Line) (t : WorldState) : Type 0 where
  pub sound : Sound t
  pub kept : Kept s t
  pub names : names_of t.nodes ≡ names_of s.nodes ++ names_joined line

abbrev pub KeepsLine : WorldState → Line → Result Step StepError → Type 0
KeepsLine s line (Ok t) = LineKeeps s line t.state
KeepsLine s line (Err error) = Unit {0}

-- the numbers of a line are in the ranges of their types
abbrev pub LineFits : Line → Type 0
LineFits (DroneLine sys x y) = Is8 sys × PointInRange (record { x = x; y = y })
LineFits (StationLine sys comp) = Is8 sys × Is8 comp
LineFits (OneItem item) = ItemInRange item
LineFits (Items n first) = ItemInRange first
LineFits (Noise node bytes) = All Is8 bytes
LineFits (Command station drone number word) = Is16 number × Is32 word
LineFits _ = Unit {0}
