-- How far a router is with a port.
use Rattle.std.specs.Prelude.{ℕ, ◌≡◌, ◌<◌, ◌≤◌, ◌+◌, ◌*◌, ◌-◌, ◌^◌, Bool, true, false, min, List, [], ◌∷◌, ◌++◌}
use Rattle.std.specs.Prelude.{length, All, fold, slice_get, Option, Some, None}
use Rattle.std.specs.List.{filter_map, flat_map}
use Rattle.std.specs.Io.KnownBytes.{append_known, prepend_known}
use Rattle.mav_ports.specs.Counts.{Rose, next_count}
use Rattle.mav_ports.specs.Gets.{IsSpent}
use Rattle.mav_links.specs.Links.{LinkState}
use Rattle.mav_frame.specs.declared.events.Event.{Event}
use Rattle.mav_frame.specs.declared.events.Event.TheVariants.{Frame, Skipped}
use Rattle.mav_frame.specs.Packet.{Packet}
use Rattle.mav_frame.specs.Parse.{BeginsIncremental, BeginsFinal}
use Rattle.mav_profile.specs.Messages.{extras_of}
use Rattle.mav_sign.specs.Endpoints.{frames_of}
use Rattle.mav_stream.specs.Held.{Held, nothing_held}
use Rattle.mav_stream.specs.Progress.{Progress, IsWhole}
use Rattle.link_table.specs.Routing.{has_port}
use Rattle.mav_router.specs.declared.entries.Entry.{Entry}
use Rattle.mav_router.specs.declared.lane.Lane.{Lane}
use Rattle.mav_router.specs.Journal.{Rules, SwitchState, frames_from, frames_to, given_to, bytes_of}

-- a count that stays at the end of its type
abbrev pub capped : ℕ → ℕ
capped n = min n (2 ^ 64 - 1)

abbrev pub skip_in : Event → Option ℕ
skip_in (Frame packet) = None
skip_in (Skipped byte why) = Some byte

-- the skipped bytes of some events
abbrev pub skips_of : List Event → List ℕ
skips_of events = filter_map skip_in events

-- what came in at a port is parsed by the CRC_EXTRA of the known messages; frames of MAVLink 1 are read at open ports
abbrev pub PortProgress : Rules → ℕ → List ℕ → List Event → Held → Type 0
PortProgress rules port bytes events held =
    Progress (extras_of rules.known) (has_port rules.plain port) bytes events held

abbrev pub PortWhole : Rules → ℕ → List ℕ → List Event → Held → Type 0
PortWhole rules port bytes events held = IsWhole (extras_of rules.known) (has_port rules.plain port) bytes events held

-- the events found so far are a prefix of the parse of the bytes read at a port, and its entries are their frames
pub record Reading (rules : Rules) (port : ℕ) (bytes : List ℕ) (held : Held) (skips : ℕ)
    (journal : List Entry) : Type 0 where
  pub events : List Event
  pub progress : PortProgress rules port bytes events held
  pub entries : frames_from port journal ≡ frames_of events
  pub skipped : skips ≡ capped (length (skips_of events))

-- and they are the whole parse: the incremental one, or after the end of the input the final one
pub record AllRead (rules : Rules) (port : ℕ) (bytes : List ℕ) (held : Held) (skips : ℕ)
    (journal : List Entry) : Type 0 where
  pub reading : Reading rules port bytes held skips journal
  pub whole : PortWhole rules port bytes reading.events held

-- the events are a prefix of the parse of the bytes: of the final one after the end of the input, and else of the
-- incremental one
abbrev pub BeginsParse : Bool → Rules → ℕ → List ℕ → List Event → List ℕ → Type 0
BeginsParse true rules port bytes events rest =
    BeginsFinal (extras_of rules.known) (has_port rules.plain port) events rest bytes
BeginsParse false rules port bytes events rest =
    BeginsIncremental (extras_of rules.known) (has_port rules.plain port) events rest bytes

-- the entries of a port and then the frames `beyond` are those of a prefix of the parse of its bytes
pub record Begun (ended : Bool) (rules : Rules) (port : ℕ) (bytes : List ℕ) (beyond : List Packet)
    (journal : List Entry) : Type 0 where
  pub events : List Event
  pub rest : List ℕ
  pub begins : BeginsParse ended rules port bytes events rest
  pub entries : frames_from port journal ++ beyond ≡ frames_of events

-- a read gives at most 4,096 bytes
abbrev pub ArePieces : List (List ℕ) → Type 0
ArePieces turns = All (λ (piece : List ℕ). length piece ≤ 4096) turns

-- the bytes of some turns, and the count of Idle answers after them
abbrev pub joined_turns : List (List ℕ) → List ℕ
joined_turns turns = flat_map (λ (piece : List ℕ). piece) turns

abbrev pub idles_after_turn : ℕ → List ℕ → ℕ
idles_after_turn n [] = next_count n
idles_after_turn n (byte ∷ bytes) = n

abbrev pub idles_over : List (List ℕ) → ℕ → ℕ
idles_over turns n = fold idles_after_turn n turns

-- a port that is still read had so many turns, one that has ended fewer, and no port had more
pub record HadTurns (lane : Lane) (turns : ℕ) : Type 0 where
  pub most : lane.turns ≤ turns
  pub fewer : lane.ended ≡ true → lane.turns < turns
  pub live : lane.ended ≡ false → lane.failed ≡ false → lane.turns ≡ turns

-- a port had at most so many turns, one that has ended fewer, and one that is still read at least so many
pub record HadBetween (low high : ℕ) (lane : Lane) : Type 0 where
  pub most : lane.turns ≤ high
  pub fewer : lane.ended ≡ true → lane.turns < high
  pub least : lane.ended ≡ false → lane.failed ≡ false → low ≤ lane.turns

-- the count of faults rose at a port that failed, and is the same at another
abbrev pub FaultsBy : Bool → ℕ → ℕ → Type 0
FaultsBy true before now = Rose before now
FaultsBy false before now = now ≡ before

-- what was read at a port, and what became of it
pub record Input (rules : Rules) (journal : List Entry) (port : ℕ) (first now : LinkState) (lane : Lane) : Type 0 where
  pub bytes : List ℕ
  -- what each read gave that didn't fail or return End: some bytes, or none at an Idle answer
  pub turns : List (List ℕ)
  pub joined : bytes ≡ joined_turns turns
  pub pieces : ArePieces turns
  pub idles : now.idles ≡ idles_over turns first.idles
  pub turned : lane.turns ≡ capped (length turns)
  pub left : first.left ≡ prepend_known bytes now.left
  pub read : lane.read ≡ capped (length bytes)
  pub parsed : AllRead rules port bytes lane.scanner lane.skipped journal
  pub ended : lane.scanner.ended ≡ lane.ended
  pub spent : lane.ended ≡ true → IsSpent now.left
  pub gave_end : lane.ended ≡ true → now.ended ≡ true
  pub faults : FaultsBy lane.failed first.faults now.faults

-- what was written to a port: the bytes of these frames, or a prefix of them if the port failed
pub record Output (frames : List Packet) (first now : LinkState) (lane : Lane) : Type 0 where
  pub written : List ℕ
  pub rest : List ℕ
  pub sent : now.sent ≡ append_known first.sent written
  pub front : written ++ rest ≡ bytes_of frames
  pub all : lane.failed ≡ false → rest ≡ []
  pub most : length written ≤ 280 * length frames
  pub count : lane.written ≡ capped (length written)

pub record PortSoFar (rules : Rules) (switch : SwitchState) (port : ℕ) (first now : LinkState)
    (lane : Lane) : Type 0 where
  pub input : Input rules switch.journal port first now lane
  pub output : Output (given_to switch port) first now lane

-- so far with each port; ports are numbered from 1
abbrev pub RunSoFar : {A : Type 0} → (A → LinkState) → Rules → SwitchState → (ℕ → LinkState) → List A → List Lane
    → Type 0
RunSoFar {A} state rules switch first links lanes =
    (k : ℕ) (link : A) (lane : Lane) → slice_get links k ≡ Some link → slice_get lanes k ≡ Some lane
    → PortSoFar rules switch (k + 1) (first k) (state link) lane

-- and still with each port, after more was read and written
abbrev pub RunGoesOn : {A : Type 0} → (A → LinkState) → (old new : SwitchState) → (before after : List A)
    → (lanes later : List Lane) → Type 0
RunGoesOn {A} state old new before after lanes later =
    (rules : Rules) (first : ℕ → LinkState) → RunSoFar state rules old first before lanes
    → RunSoFar state rules new first after later

-- all that the journal sends to the port was given for it, unless it failed
abbrev pub IsDrained : SwitchState → List Lane → ℕ → Type 0
IsDrained switch lanes k =
    (lane : Lane) → slice_get lanes k ≡ Some lane → lane.failed ≡ false
    → given_to switch (k + 1) ≡ frames_to (k + 1) switch.journal

-- before the first read of a port
pub record IsNew (extras : List (ℕ × ℕ)) (old : Bool) (lane : Lane) : Type 0 where
  pub scanner : lane.scanner ≡ nothing_held extras old
  pub ended : lane.ended ≡ false
  pub failed : lane.failed ≡ false
  pub turns : lane.turns ≡ 0
  pub read : lane.read ≡ 0
  pub skipped : lane.skipped ≡ 0
  pub written : lane.written ≡ 0

abbrev pub IsFresh : Rules → ℕ → Lane → Type 0
IsFresh rules port lane = IsNew (extras_of rules.known) (has_port rules.plain port) lane

-- each port is before its first read
abbrev pub AllFresh : Rules → List Lane → Type 0
AllFresh rules lanes = (k : ℕ) (lane : Lane) → slice_get lanes k ≡ Some lane → IsFresh rules (k + 1) lane

-- one of the ports did
abbrev pub DidBetween : (least most : ℕ) → List Lane → ℕ → Type 0
DidBetween least most lanes k = (lane : Lane) → slice_get lanes k ≡ Some lane → HadBetween least most lane

-- what holds of the turns of each port holds still
abbrev pub KeepsTurns : ℕ → List Lane → List Lane → Type 0
KeepsTurns most before after =
    (least k : ℕ) → least ≤ most → DidBetween least most before k → DidBetween least most after k

-- and one of them had one turn more, if it is still read
abbrev pub TurnsOnce : ℕ → ℕ → List Lane → List Lane → Type 0
TurnsOnce most k before after =
    (least : ℕ) → least < most → DidBetween least most before k → DidBetween (least + 1) most after k

abbrev pub AllTurned : List Lane → ℕ → Type 0
AllTurned lanes turns = (k : ℕ) (lane : Lane) → slice_get lanes k ≡ Some lane → HadTurns lane turns
