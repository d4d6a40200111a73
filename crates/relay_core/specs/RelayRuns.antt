-- A run of a relay: its history, and the bytes of its links.
use Rattle.std.specs.Prelude.{ℕ, ◌≡◌, ◌+◌, ◌-◌, ◌<◌, false, List, length, map, slice_get, Some}
use Rattle.mav_frame.specs.Encoding.{encoding}
use Rattle.mav_frame.specs.Parse.{BeginsIncremental, Incremental, IsIncomplete}
use Rattle.mav_frame.specs.declared.events.Event.{Event as FrameEvent}
use Rattle.mav_profile.specs.Messages.{extras_of}
use Rattle.mav_sign.specs.Endpoints.{frames_of}
use Rattle.mav_sign.specs.Kept.{Kept}
use Rattle.mav_stream.specs.Held.{Held}
use Rattle.link_table.specs.Routing.{has_port}
use Rattle.mav_router.specs.Journal.{Rules}
use Rattle.mav_router.specs.Runs.{PortProgress}
use Rattle.relay_queue.specs.Deliveries.{Delivered, Delivers}
use Rattle.relay_rules.specs.Kept.{LinksKept, Represents}
use Rattle.relay_rules.specs.States.{LinkState}
use Rattle.relay_rules.specs.Steps.{Event}
use Rattle.relay_core.specs.Flows.{Course, Flow, GoesBy, nothing_yet}
use Rattle.relay_core.specs.Waitings.{WaitingState, counted}

-- the bytes that a link gave, and those that it took
pub record Tape : Type 0 where
  pub given : List ℕ
  pub taken : List ℕ

-- what happened, where it led, and the bytes of each link that was opened, by its number from 1
pub record RelayRun : Type 0 where
  pub events : List Event
  pub course : Course
  pub tapes : List Tape

-- a run by the rules, from what the verifier kept at its start
abbrev pub IsRun : Rules → Kept → RelayRun → Type 0
IsRun rules start run = GoesBy rules run.events (nothing_yet start) run.course

-- what a relay keeps: of its links, of the stream of each that is open, and what waits for it
pub record RelayKept : Type 0 where
  pub links : LinksKept
  pub scanners : List Held
  pub queues : List WaitingState

-- the bytes of the frames that go out at a link
abbrev pub sent_bytes : Flow → List (List ℕ)
sent_bytes flow = map encoding flow.sent

-- the frames heard so far are those of a prefix of the parse of the bytes that a link gave; the rest is held
pub record Hearing (rules : Rules) (flow : Flow) (tape : Tape) (held : Held) : Type 0 where
  pub found : List FrameEvent
  pub parsed : PortProgress rules flow.port tape.given found held
  pub heard : frames_of found ≡ flow.heard
  pub live : held.ended ≡ false

-- and no whole frame is held
pub record IsResting (held : Held) : Type 0 where
  pub incomplete : IsIncomplete held.extras held.reads_old held.bytes
  pub short : length held.bytes < 280

-- what goes out at a link was taken or waits, but for what was dropped
pub record Sending (flow : Flow) (tape : Tape) (waiting : WaitingState) : Type 0 where
  pub dropped : ℕ
  pub delivers : Delivers (sent_bytes flow) dropped tape.taken waiting.queue
  pub same : waiting.dropped ≡ counted dropped

-- the frames heard of a link that has closed are those of the incremental parse of all that it gave
pub record WasHeard (rules : Rules) (flow : Flow) (tape : Tape) : Type 0 where
  pub found : List FrameEvent
  pub left : List ℕ
  pub parsed : Incremental (extras_of rules.known) (has_port rules.plain flow.port) found left tape.given
  pub heard : frames_of found ≡ flow.heard

-- what it took are whole frames of those that go out there, in their order, and perhaps a part of the next one; so
-- many of them were dropped
abbrev pub WasSent : ℕ → Flow → Tape → Type 0
WasSent dropped flow tape = Delivered (sent_bytes flow) dropped tape.taken

-- an open link, with its flow and its bytes
pub record IsOpenAt (run : RelayRun) (index : ℕ) (link : LinkState) (flow : Flow) (tape : Tape) : Type 0 where
  pub link_is : slice_get run.course.state.links index ≡ Some link
  pub flow_is : slice_get run.course.flows (link.number - 1) ≡ Some flow
  pub tape_is : slice_get run.tapes (link.number - 1) ≡ Some tape

-- the link with that number, counted from 0, isn't open
abbrev pub HasClosed : RelayRun → ℕ → Type 0
HasClosed run n = (index : ℕ) (link : LinkState) → slice_get run.course.state.links index ≡ Some link
    → link.number ≡ n + 1 → ⊥

-- what holds of a relay so far in a run, between two frames too
pub record HoldsSoFar (rules : Rules) (run : RelayRun) (view : RelayKept) : Type 0 where
  pub links : Represents view.links run.course.state
  pub flows : length run.course.flows ≡ run.course.state.given
  pub tapes : length run.tapes ≡ run.course.state.given
  pub hearing : (index : ℕ) (link : LinkState) (flow : Flow) (tape : Tape) (held : Held)
      → IsOpenAt run index link flow tape → slice_get view.scanners index ≡ Some held → Hearing rules flow tape held
  pub sending : (index : ℕ) (link : LinkState) (flow : Flow) (tape : Tape) (waiting : WaitingState)
      → IsOpenAt run index link flow tape → slice_get view.queues index ≡ Some waiting → Sending flow tape waiting
  pub heard : (n : ℕ) (flow : Flow) (tape : Tape) → HasClosed run n → slice_get run.course.flows n ≡ Some flow
      → slice_get run.tapes n ≡ Some tape → WasHeard rules flow tape
  pub sent : (n : ℕ) (flow : Flow) (tape : Tape) → HasClosed run n → slice_get run.course.flows n ≡ Some flow
      → slice_get run.tapes n ≡ Some tape → (dropped : ℕ) × WasSent dropped flow tape

-- the frames heard of a link are those of a prefix of the parse of what it gave
pub record WasHeardInPart (rules : Rules) (flow : Flow) (tape : Tape) : Type 0 where
  pub found : List FrameEvent
  pub left : List ℕ
  pub parsed : BeginsIncremental (extras_of rules.known) (has_port rules.plain flow.port) found left tape.given
  pub heard : frames_of found ≡ flow.heard

-- what holds of each link, open or closed, of a run that stopped where there was no memory
pub record HoldsInPart (rules : Rules) (run : RelayRun) : Type 0 where
  pub heard : (n : ℕ) (flow : Flow) (tape : Tape) → slice_get run.course.flows n ≡ Some flow
      → slice_get run.tapes n ≡ Some tape → WasHeardInPart rules flow tape
  pub sent : (n : ℕ) (flow : Flow) (tape : Tape) → slice_get run.course.flows n ≡ Some flow
      → slice_get run.tapes n ≡ Some tape → (dropped : ℕ) × WasSent dropped flow tape

-- and between two calls: all frames of what the links gave were heard
pub record Holds (rules : Rules) (run : RelayRun) (view : RelayKept) : Type 0 where
  pub so_far : HoldsSoFar rules run view
  pub resting : (index : ℕ) (held : Held) → slice_get view.scanners index ≡ Some held → IsResting held
