-- What a run of a router has done at its end.
use Rattle.std.specs.Prelude.{ℕ, Bool, true, false, ◌≡◌, ◌<◌, ◌≤◌, ◌⊎◌, List, ◌++◌, length, ⊤}
use Rattle.std.specs.declared.option.Option.{Option}
use Rattle.std.specs.Io.KnownBytes.{append_known, prepend_known}
use Rattle.mav_ports.specs.Counts.{Rose}
use Rattle.mav_ports.specs.Gets.{IsSpent}
use Rattle.mav_links.specs.Links.{LinkState}
use Rattle.mav_profile.specs.Messages.{extras_of}
use Rattle.mav_frame.specs.Parse.{Final, Incremental}
use Rattle.mav_frame.specs.declared.events.Event.{Event}
use Rattle.mav_sign.specs.Endpoints.{frames_of}
use Rattle.link_table.specs.Routing.{has_port}
use Rattle.mav_router.specs.declared.entries.Entry.{Entry}
use Rattle.mav_router.specs.declared.ends.PortEnd.{PortEnd}
use Rattle.mav_router.specs.declared.ends.How.{How}
use Rattle.mav_router.specs.declared.ends.How.TheVariants.{Ended, Failed, Turns}
use Rattle.mav_router.specs.declared.lane.Lane.{Lane}
use Rattle.mav_router.specs.Journal.{Rules, frames_from, frames_to, bytes_of}
use Rattle.mav_router.specs.Runs.{skips_of, ArePieces, joined_turns, idles_over}

-- the parse of a port's input that isn't at its end
abbrev pub IsOpenParse : Rules → ℕ → List Event → List ℕ → Type 0
IsOpenParse rules port events bytes = (held : List ℕ)
    × Incremental (extras_of rules.known) (has_port rules.plain port) events held bytes

-- the final parse of a port's input of which nothing is left
abbrev pub IsClosedParse : Rules → ℕ → List Event → List ℕ → Option (List ℕ) → Type 0
IsClosedParse rules port events bytes left = Final (extras_of rules.known) (has_port rules.plain port) events bytes
    × IsSpent left

abbrev pub ParsedBy : How → Rules → ℕ → List Event → List ℕ → Option (List ℕ) → Type 0
ParsedBy Ended rules port events bytes left = IsClosedParse rules port events bytes left
ParsedBy Failed rules port events bytes left = IsOpenParse rules port events bytes
    ⊎ IsClosedParse rules port events bytes left
ParsedBy (Turns n) rules port events bytes left = IsOpenParse rules port events bytes

-- all of it was written, or a prefix of it if the port failed
abbrev pub WrittenBy : How → List ℕ → List ℕ → Type 0
WrittenBy Failed written text = (rest : List ℕ) × (written ++ rest ≡ text)
WrittenBy _ written text = written ≡ text

-- the count of faults rose if the port failed, and is the same otherwise
abbrev pub FaultsAtEnd : How → ℕ → ℕ → Type 0
FaultsAtEnd Failed before now = Rose before now
FaultsAtEnd _ before now = now ≡ before

-- a port that hadn't ended was read as often as it may be, and one that returned End fewer times before that
abbrev pub TurnedBy : How → ℕ → List (List ℕ) → Type 0
TurnedBy (Turns n) most turns = (n ≡ most) × (n ≡ length turns)
TurnedBy Ended most turns = length turns < most
TurnedBy Failed most turns = length turns ≤ most

-- it returned End if its run ended so, also if its bytes aren't known
abbrev pub GaveEnd : How → LinkState → Type 0
GaveEnd Ended last = last.ended ≡ true
GaveEnd _ last = ⊤

-- how the run ended at a port, by what the router keeps of it
abbrev pub how_by : Bool → Bool → ℕ → How
how_by true ended turns = Failed
how_by false true turns = Ended
how_by false false turns = Turns turns

abbrev pub end_by : Lane → ℕ → PortEnd
end_by lane turns = record {
  read = lane.read;
  skipped = lane.skipped;
  written = lane.written;
  how = how_by lane.failed lane.ended turns;
}

-- the run of one port, of which at most so many reads may give bytes or return Idle
pub record PortRun (rules : Rules) (journal : List Entry) (most port : ℕ) (first last : LinkState)
    (end : PortEnd) : Type 0 where
  -- the bytes read, their events, and the bytes written
  pub bytes : List ℕ
  pub events : List Event
  pub written : List ℕ
  -- what each read gave that didn't fail or return End: some bytes, or none at an Idle answer
  pub turns : List (List ℕ)
  pub pieces : ArePieces turns
  pub joined : bytes ≡ joined_turns turns
  pub idles : last.idles ≡ idles_over turns first.idles
  pub turned : TurnedBy end.how most turns
  pub gave_end : GaveEnd end.how last
  pub left : first.left ≡ prepend_known bytes last.left
  pub sent : last.sent ≡ append_known first.sent written
  -- the journal's entries of the port are the frames of the parse, in order
  pub parsed : ParsedBy end.how rules port events bytes last.left
  pub entries : frames_from port journal ≡ frames_of events
  -- what was written are the frames that the journal sends there
  pub output : WrittenBy end.how written (bytes_of (frames_to port journal))
  pub faults : FaultsAtEnd end.how first.faults last.faults
  pub read_count : end.read ≡ length bytes
  pub skipped_count : end.skipped ≡ length (skips_of events)
  pub written_count : end.written ≡ length written
