-- What one call leads to, in any run.
use Rattle.std.specs.Prelude.{ℕ, ◌≡◌, ◌+◌, ◌-◌, ◌<◌, Bool, false, if◌then◌else◌, List, [], ◌∷◌, ◌++◌, length, map}
use Rattle.std.specs.Prelude.{filter, get_or, slice_get, slice_set, ⊤}
use Rattle.mav_frame.specs.Packet.{Packet}
use Rattle.mav_sign.specs.declared.admission.Admit.{Admit}
use Rattle.mav_sign.specs.Kept.{Kept}
use Rattle.mav_stream.specs.Held.{Held, nothing_held}
use Rattle.link_table.specs.OpenLinks.{has_link}
use Rattle.mav_router.specs.Journal.{Rules}
use Rattle.relay_rules.specs.Kept.{LinksKept, Represents}
use Rattle.relay_rules.specs.States.{LinkState, RelayState, closed, link_at, opened}
use Rattle.relay_rules.specs.Steps.{Event, Hears, closes, forgets, hears, opens, refuses}
use Rattle.relay_rules.specs.declared.links.OpenLink.{OpenLink}
use Rattle.relay_core.specs.Flows.{Told, no_flow, one_told, passes}
use Rattle.relay_core.specs.RelayRuns.{HoldsInPart, HoldsSoFar, IsRun, RelayKept, RelayRun, Tape}
use Rattle.relay_core.specs.Said.{Said, Tells}

-- the numbers of the links at some indexes, of these from an index on
abbrev pub numbers_of : (ℕ → Bool) → ℕ → List OpenLink → List ℕ
numbers_of goes k [] = []
numbers_of goes k (link ∷ links) =
    if goes k then link.number ∷ numbers_of goes (k + 1) links else numbers_of goes (k + 1) links

-- what a frame does that came in at the open link with that index, before it waits anywhere; a bit for each link to
-- which it goes
pub record IsTried {Watcher : Type 0} (rules : Rules) (index bits : ℕ) (packet : Packet) (before : RelayState)
    (links : LinksKept) (told : Watcher → List Said → Type 0) (watcher telling : Watcher) : Type 0 where
  pub answer : Admit
  pub after : RelayState
  pub step : Hears rules (link_at before.links index).number packet answer before after
  pub links_are : Represents links after
  pub ways : (k : ℕ) → k < length before.links
      → has_link bits k ≡ passes rules packet answer (link_at before.links index) (link_at before.links k)
  pub tells_it : Tells told watcher telling (one_told (link_at before.links index).number packet answer
      (map (λ (link : LinkState). link.number)
      (filter (passes rules packet answer (link_at before.links index)) before.links)))

-- frames come in, and no link opens or closes
abbrev pub AreHeard : List Event → Type 0
AreHeard [] = ⊤
AreHeard (hears number packet answer ∷ events) = AreHeard events
AreHeard (opens number port ∷ events) = ⊥
AreHeard (closes number ∷ events) = ⊥
AreHeard (refuses port packet answer ∷ events) = ⊥
AreHeard (forgets ∷ events) = ⊥

-- a run goes on with frames, without a byte more, and holds of what a relay keeps now
pub record Moved {Watcher : Type 0} (rules : Rules) (start : Kept) (run : RelayRun) (new : RelayKept)
    (told : Watcher → List Said → Type 0) (watcher telling : Watcher) : Type 0 where
  pub now : RelayRun
  pub is_run : IsRun rules start now
  pub holds : HoldsSoFar rules now new
  pub tapes : now.tapes ≡ run.tapes
  pub since : List Event
  pub events : now.events ≡ run.events ++ since
  pub frames : AreHeard since
  pub more : List Told
  pub course : now.course.told ≡ run.course.told ++ more
  pub tells_it : Tells told watcher telling more

abbrev pub Moves : {Watcher : Type 0} → Rules → RelayKept → RelayKept → (Watcher → List Said → Type 0)
    → (watcher telling : Watcher) → Type 0
Moves rules old new told watcher telling =
    (start : Kept) (run : RelayRun) → IsRun rules start run → HoldsSoFar rules run old
    → Moved rules start run new told watcher telling

-- a run goes on with frames until there is no memory
pub record Stopped {Watcher : Type 0} (rules : Rules) (start : Kept) (run : RelayRun)
    (told : Watcher → List Said → Type 0) (watcher telling : Watcher) : Type 0 where
  pub now : RelayRun
  pub is_run : IsRun rules start now
  pub holds : HoldsInPart rules now
  pub tapes : now.tapes ≡ run.tapes
  pub since : List Event
  pub events : now.events ≡ run.events ++ since
  pub frames : AreHeard since
  pub more : List Told
  pub course : now.course.told ≡ run.course.told ++ more
  pub tells_it : Tells told watcher telling more

abbrev pub Stops : {Watcher : Type 0} → Rules → RelayKept → (Watcher → List Said → Type 0)
    → (watcher telling : Watcher) → Type 0
Stops rules old told watcher telling =
    (start : Kept) (run : RelayRun) → IsRun rules start run → HoldsSoFar rules run old
    → Stopped rules start run told watcher telling

-- what the scanner with that index holds
abbrev pub held_at : List Held → ℕ → Held
held_at scanners index = get_or scanners index (nothing_held [] false)

-- no other scanner holds anything else
abbrev pub OthersKept : ℕ → List Held → List Held → Type 0
OthersKept index old new =
    (length new ≡ length old) × ((k : ℕ) → (k ≡ index → ⊥) → slice_get new k ≡ slice_get old k)

-- ---- the runs after each call

-- one link more, or one less; the bytes of all are the same
abbrev pub no_tape : Tape
no_tape = record { given = []; taken = [] }

abbrev pub opened_run : ℕ → RelayRun → RelayRun
opened_run port run = record {
  events = run.events ++ opens (run.course.state.given + 1) port ∷ [];
  course = record {
    state = opened port run.course.state;
    flows = run.course.flows ++ no_flow port ∷ [];
    told = run.course.told;
  };
  tapes = run.tapes ++ no_tape ∷ [];
}

abbrev pub closed_run : ℕ → RelayRun → RelayRun
closed_run index run = record {
  events = run.events ++ closes (link_at run.course.state.links index).number ∷ [];
  course = record { state = closed index run.course.state; flows = run.course.flows; told = run.course.told };
  tapes = run.tapes;
}

-- the tape of the link with that index
abbrev pub tape_place : RelayRun → ℕ → ℕ
tape_place run index = (link_at run.course.state.links index).number - 1

abbrev pub tape_at : RelayRun → ℕ → Tape
tape_at run index = get_or run.tapes (tape_place run index) no_tape

-- it gave these bytes, or took them
abbrev pub gave : List ℕ → Tape → Tape
gave bytes tape = record { given = tape.given ++ bytes; taken = tape.taken }

abbrev pub took : List ℕ → Tape → Tape
took bytes tape = record { given = tape.given; taken = tape.taken ++ bytes }

abbrev pub with_tape : ℕ → Tape → RelayRun → RelayRun
with_tape place tape run = record { events = run.events; course = run.course; tapes = slice_set run.tapes place tape }

abbrev pub gave_run : ℕ → List ℕ → RelayRun → RelayRun
gave_run index bytes run = with_tape (tape_place run index) (gave bytes (tape_at run index)) run

abbrev pub took_run : ℕ → List ℕ → RelayRun → RelayRun
took_run index bytes run = with_tape (tape_place run index) (took bytes (tape_at run index)) run
