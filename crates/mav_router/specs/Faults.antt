-- What holds when a run stops because its switch takes no more frames.
use Rattle.std.specs.Prelude.{ℕ, ◌≡◌, ◌≤◌, ◌<◌, ◌+◌, ◌^◌, ◌==◌, ◌⊎◌, Bool, true, false, if◌then◌else◌, List, [], ◌∷◌}
use Rattle.std.specs.Prelude.{◌++◌, length, slice_get, Option, Some, None, IsSome, ⊤}
use Rattle.std.specs.Io.KnownBytes.{append_known, prepend_known}
use Rattle.mav_ports.specs.Counts.{Rose}
use Rattle.mav_ports.specs.Gets.{IsSpent}
use Rattle.mav_links.specs.Links.{LinkState}
use Rattle.mav_frame.specs.Packet.{Packet}
use Rattle.mav_sign.specs.Streams.{listed}
use Rattle.mav_router.specs.declared.entries.Entry.{Entry}
use Rattle.mav_router.specs.declared.entries.SwitchFault.{SwitchFault}
use Rattle.mav_router.specs.declared.entries.SwitchFault.TheVariants.{Full, NoMemory}
use Rattle.mav_router.specs.declared.lane.Lane.{Lane}
use Rattle.mav_router.specs.Journal.{Rules, SwitchState, frames_to, bytes_of}
use Rattle.mav_router.specs.Runs.{Begun, RunSoFar, FaultsBy, ArePieces, joined_turns, idles_over}

-- the fault of a switch with this journal: Full only if it has as many entries as it may have
abbrev pub IsSwitchFault : SwitchFault → List Entry → Type 0
IsSwitchFault (Full entries) journal = (entries ≡ 1000000) × (length journal ≡ 1000000)
IsSwitchFault NoMemory journal = ⊤

-- reading stopped at a frame that the switch didn't take
pub record StopsReading (ended : Bool) (rules : Rules) (port : ℕ) (bytes : List ℕ)
    (journal : List Entry) : Type 0 where
  pub frame : Packet
  pub begun : Begun ended rules port bytes (frame ∷ []) journal

-- a port's entries, and then the frames `beyond`, are those of a prefix of the parse of the bytes read from it: of the
-- final one only if nothing is left; at most so many reads gave bytes or returned Idle
pub record PartInput (rules : Rules) (journal : List Entry) (most port : ℕ) (beyond : List Packet)
    (first now : LinkState) : Type 0 where
  pub bytes : List ℕ
  -- what each read gave that didn't fail or return End: some bytes, or none at an Idle answer
  pub turns : List (List ℕ)
  pub pieces : ArePieces turns
  pub joined : bytes ≡ joined_turns turns
  pub idles : now.idles ≡ idles_over turns first.idles
  pub turned : length turns ≤ most
  pub left : first.left ≡ prepend_known bytes now.left
  pub ended : Bool
  pub begun : Begun ended rules port bytes beyond journal
  pub spent : ended ≡ true → IsSpent now.left

-- some bytes are those of the first of these frames, each whole
pub record AreWhole (frames : List Packet) (bytes : List ℕ) : Type 0 where
  pub done : List Packet
  pub more : List Packet
  pub are : frames ≡ done ++ more
  pub same : bytes ≡ bytes_of done

-- what was written to a port is a prefix of these frames' bytes: whole frames, unless a call of the port failed
pub record PartOutput (frames : List Packet) (first now : LinkState) : Type 0 where
  pub written : List ℕ
  pub rest : List ℕ
  pub sent : now.sent ≡ append_known first.sent written
  pub front : written ++ rest ≡ bytes_of frames
  pub whole : Rose first.faults now.faults ⊎ AreWhole frames written

pub record PartRun (rules : Rules) (journal : List Entry) (most port : ℕ) (beyond : List Packet)
    (first now : LinkState) : Type 0 where
  pub input : PartInput rules journal most port beyond first now
  pub output : PartOutput (frames_to port journal) first now

-- at one port, which had so many turns and failed or not, the switch didn't take this frame
pub record StopsInput (rules : Rules) (journal : List Entry) (turns : ℕ) (failed : Bool) (port : ℕ)
    (first now : LinkState) : Type 0 where
  pub frame : Packet
  pub faults : FaultsBy failed first.faults now.faults
  pub input : (most : ℕ) → turns ≤ most → most + 1 < 2 ^ 64 → PartInput rules journal most port (frame ∷ []) first now

-- a frame that came in at a port, and that the switch didn't take
pub record Untaken : Type 0 where
  pub port : ℕ
  pub frame : Packet

-- what was found at a port after the frames of its entries
abbrev pub beyond_at : Option Untaken → ℕ → List Packet
beyond_at None port = []
beyond_at (Some untaken) port = if untaken.port == port then untaken.frame ∷ [] else []

-- so far with each port
abbrev pub PartRuns : {A : Type 0} → (A → LinkState) → Rules → List Entry → ℕ → Option Untaken → (ℕ → LinkState)
    → List A → Type 0
PartRuns {A} state rules journal most untaken first links =
    (k : ℕ) (link : A) → slice_get links k ≡ Some link
    → PartRun rules journal most (k + 1) (beyond_at untaken (k + 1)) (first k) (state link)

-- a round stopped at a frame that the switch didn't take
pub record StopsRound {A : Type 0} (state : A → LinkState) (rules : Rules) (journal : List Entry) (most : ℕ)
    (first : ℕ → LinkState) (links : List A) : Type 0 where
  pub untaken : Untaken
  pub from : 1 ≤ untaken.port
  pub to : untaken.port ≤ length links
  pub ports : PartRuns state rules journal most (Some untaken) first links

-- it stopped in a round, after what holds so far of each port, of which none had more turns than this
abbrev pub RunStops : {A : Type 0} → (A → LinkState) → (old new : SwitchState) → (before after : List A) → List Lane
    → ℕ → Type 0
RunStops {A} state old new before after lanes most =
    (rules : Rules) (first : ℕ → LinkState) → RunSoFar state rules old first before lanes
    → StopsRound state rules new.journal most first after

-- Full comes only if a frame was found that would be one entry more than there may be
abbrev pub CausedBy : SwitchFault → Option Untaken → ℕ → List Entry → Type 0
CausedBy NoMemory untaken ports journal = ⊤
CausedBy (Full entries) None ports journal = ⊥
CausedBy (Full entries) (Some untaken) ports journal =
    (entries ≡ 1000000) × (length journal ≡ 1000000) × (1 ≤ untaken.port) × (untaken.port ≤ ports)

-- the run stopped, of which at most so many reads of each port might give bytes or return Idle
pub record RouteStopped {A : Type 0} (state : A → LinkState) (rules : Rules) (most : ℕ) (why : SwitchFault)
    (journal : List Entry) (before after : List A) : Type 0 where
  pub untaken : Option Untaken
  pub cause : CausedBy why untaken (length before) journal
  pub ports : (k : ℕ) (b c : A) → slice_get before k ≡ Some b → slice_get after k ≡ Some c
      → PartRun rules journal most (k + 1) (beyond_at untaken (k + 1)) (state b) (state c)

-- Full comes only if a frame was found at some port that would be one entry more than there may be
abbrev pub HaltedBy : SwitchFault → (ℕ → Option Packet) → ℕ → List Entry → Type 0
HaltedBy NoMemory untaken ports journal = ⊤
HaltedBy (Full entries) untaken ports journal =
    (entries ≡ 1000000) × (length journal ≡ 1000000)
    × ((port : ℕ) × (1 ≤ port) × (port ≤ ports) × IsSome (untaken port))

-- a run with a thread for each port stopped: at each port there may be a frame that the switch didn't take
pub record RouteHalted {A : Type 0} (state : A → LinkState) (rules : Rules) (most : ℕ) (why : SwitchFault)
    (journal : List Entry) (before after : List A) : Type 0 where
  pub untaken : ℕ → Option Packet
  pub cause : HaltedBy why untaken (length before) journal
  pub ports : (k : ℕ) (b c : A) → slice_get before k ≡ Some b → slice_get after k ≡ Some c
      → PartRun rules journal most (k + 1) (listed (untaken (k + 1))) (state b) (state c)

-- a run stopped, on one thread or with one for each port
abbrev pub StopsBy : {A : Type 0} → (one : Bool) → (A → LinkState) → Rules → ℕ → SwitchFault → List Entry → List A
    → List A → Type 0
StopsBy true state rules most why journal before after = RouteStopped state rules most why journal before after
StopsBy false state rules most why journal before after = RouteHalted state rules most why journal before after
