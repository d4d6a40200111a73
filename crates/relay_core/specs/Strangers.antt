-- What a relay makes of a datagram of somebody who has no link yet.
use Rattle.std.specs.Prelude.{ℕ, ◌≡◌, ◌-◌, ◌≤◌, not, true, Bool, if◌then◌else◌, List, [], ◌∷◌, ◌++◌, length, drop}
use Rattle.std.specs.Prelude.{Option, Some, None, ⊤}
use Rattle.mav_frame.specs.Packet.{Packet}
use Rattle.mav_frame.specs.declared.events.Event.{Event as FrameEvent}
use Rattle.mav_sign.specs.declared.admission.Admit.{Admit}
use Rattle.mav_sign.specs.Endpoints.{frames_of}
use Rattle.mav_sign.specs.History.{is_admitted}
use Rattle.mav_sign.specs.Kept.{HasRoom, Kept}
use Rattle.mav_stream.specs.Held.{Held}
use Rattle.mav_stream.specs.Spans.{first_packet, next_span}
use Rattle.mav_stream.specs.declared.spans.NextSpan.{NextSpan}
use Rattle.mav_stream.specs.declared.spans.NextSpan.TheVariants.{Frame, Skipped, Need}
use Rattle.link_table.specs.Routing.{has_port}
use Rattle.mav_router.specs.Admitting.{verdict_by}
use Rattle.mav_router.specs.Journal.{Rules}
use Rattle.mav_router.specs.Runs.{PortProgress}
use Rattle.relay_rules.specs.Kept.{LinksKept}
use Rattle.relay_rules.specs.Steps.{Event, closes, forgets, hears, opens, refuses}
use Rattle.relay_core.specs.Calls.{RunIs}
use Rattle.relay_core.specs.Flows.{Told, one_told}
use Rattle.relay_core.specs.RelayRuns.{IsResting, RelayKept, RelayRun}
use Rattle.relay_core.specs.Waitings.{WaitingState}
use Rattle.relay_core.specs.Said.{Said, Tells}

-- frames of somebody who has no link are refused at this port, and the verifier makes room
abbrev pub AreRefused : ℕ → List Event → Type 0
AreRefused port [] = ⊤
AreRefused port (refuses at packet answer ∷ events) = (at ≡ port) × AreRefused port events
AreRefused port (forgets ∷ events) = AreRefused port events
AreRefused port (opens number at ∷ events) = ⊥
AreRefused port (closes number ∷ events) = ⊥
AreRefused port (hears number packet answer ∷ events) = ⊥

-- the frames that are refused
abbrev pub refused_in : List Event → List Packet
refused_in [] = []
refused_in (refuses at packet answer ∷ events) = packet ∷ refused_in events
refused_in (forgets ∷ events) = refused_in events
refused_in (opens number at ∷ events) = refused_in events
refused_in (closes number ∷ events) = refused_in events
refused_in (hears number packet answer ∷ events) = refused_in events

-- a frame is judged: it is refused and told of, or would be admitted, which nobody is told yet
pub record IsTested {Watcher : Type 0} (rules : Rules) (port : ℕ) (packet : Packet) (refused : Bool)
    (old new : LinksKept) (told : Watcher → List Said → Type 0) (watcher telling : Watcher) : Type 0 where
  pub answer : Admit
  pub made : HasRoom old.kept new.kept
  pub verdict : answer ≡ verdict_by rules.key (has_port rules.plain port) new.kept packet
  pub refuses_it : is_admitted answer ≡ not refused
  pub same : (new.given ≡ old.given) × (new.links ≡ old.links) × (new.words ≡ old.words)
  pub tells_it : Tells told watcher telling (if refused then one_told 0 packet answer [] else [])

-- of a stranger's bytes a prefix was parsed and the rest is held; each frame in it was refused and told of, in
-- order; no link has changed, nor the bytes of any
pub record Judged {Watcher : Type 0} (rules : Rules) (start : Kept) (port : ℕ) (bytes : List ℕ) (run : RelayRun)
    (held : Held) (new : RelayKept) (told : Watcher → List Said → Type 0) (watcher telling : Watcher) : Type 0 where
  pub found : List FrameEvent
  pub parsed : PortProgress rules port bytes found held
  pub fewer : length held.bytes ≤ length bytes
  pub rest : held.bytes ≡ drop (length bytes - length held.bytes) bytes
  pub now : RelayRun
  pub goes_on : RunIs rules start now new
  pub tapes : now.tapes ≡ run.tapes
  pub since : List Event
  pub events : now.events ≡ run.events ++ since
  pub refused : AreRefused port since
  pub frames : frames_of found ≡ refused_in since
  pub more : List Told
  pub course : now.course.told ≡ run.course.told ++ more
  pub tells_it : Tells told watcher telling more

abbrev pub kept_with : LinksKept → List Held → List WaitingState → RelayKept
kept_with links scanners queues = record { links = links; scanners = scanners; queues = queues }

-- what was judged so far goes on
abbrev pub JudgesOn : {Watcher : Type 0} → Rules → ℕ → (old new : LinksKept) → (held later : Held)
    → (Watcher → List Said → Type 0) → (watcher telling : Watcher) → Type 0
JudgesOn {Watcher} rules port old new held later told watcher telling =
    (start : Kept) (bytes : List ℕ) (run : RelayRun) (scanners : List Held) (queues : List WaitingState)
    (first : Watcher) → Judged rules start port bytes run held (kept_with old scanners queues) told first watcher
    → Judged rules start port bytes run later (kept_with new scanners queues) told first telling

-- a frame of a stranger at that port would be admitted
abbrev pub IsAdmissible : Rules → ℕ → Kept → Packet → Type 0
IsAdmissible rules port kept packet = is_admitted (verdict_by rules.key (has_port rules.plain port) kept packet) ≡ true

-- what is at the start would be admitted, or no whole frame is left
abbrev pub EndsBy : Rules → ℕ → Kept → Held → NextSpan → Type 0
EndsBy rules port kept held (Frame size) = IsAdmissible rules port kept (first_packet held)
EndsBy rules port kept held (Skipped why count) = ⊥
EndsBy rules port kept held Need = IsResting held

-- an offset if a frame is there
abbrev pub if_frame : NextSpan → ℕ → Option ℕ
if_frame (Frame size) from = Some from
if_frame (Skipped why count) from = None
if_frame Need from = None

-- the first frame that would be admitted begins at that offset, or there is none
abbrev pub Answers : Rules → ℕ → Kept → List ℕ → Held → Option ℕ → Type 0
Answers rules port kept bytes held (Some from) =
    (held.bytes ≡ drop from bytes) × ((size : ℕ) × (next_span held ≡ Frame size))
    × IsAdmissible rules port kept (first_packet held)
Answers rules port kept bytes held None = IsResting held

pub record HasJudged {Watcher : Type 0} (rules : Rules) (start : Kept) (port : ℕ) (bytes : List ℕ) (run : RelayRun)
    (new : RelayKept) (told : Watcher → List Said → Type 0) (watcher telling : Watcher) (from : Option ℕ)
    : Type 0 where
  pub held : Held
  pub judged : Judged rules start port bytes run held new told watcher telling
  pub answer : Answers rules port new.links.kept bytes held from

abbrev pub Judges : {Watcher : Type 0} → Rules → ℕ → List ℕ → RelayKept → RelayKept → (Watcher → List Said → Type 0)
    → (watcher telling : Watcher) → Option ℕ → Type 0
Judges rules port bytes old new told watcher telling from =
    (start : Kept) (run : RelayRun) → RunIs rules start run old
    → HasJudged rules start port bytes run new told watcher telling from

-- there was no memory for it all: what was judged so far
pub record HasJudgedInPart {Watcher : Type 0} (rules : Rules) (start : Kept) (port : ℕ) (bytes : List ℕ)
    (run : RelayRun) (new : RelayKept) (told : Watcher → List Said → Type 0) (watcher telling : Watcher) : Type 0 where
  pub held : Held
  pub judged : Judged rules start port bytes run held new told watcher telling

abbrev pub JudgesInPart : {Watcher : Type 0} → Rules → ℕ → List ℕ → RelayKept → RelayKept
    → (Watcher → List Said → Type 0) → (watcher telling : Watcher) → Type 0
JudgesInPart rules port bytes old new told watcher telling =
    (start : Kept) (run : RelayRun) → RunIs rules start run old
    → HasJudgedInPart rules start port bytes run new told watcher telling
