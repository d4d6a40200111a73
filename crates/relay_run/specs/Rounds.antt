-- A relay over a hub: its history, the bytes of the hub's links, and what was told of it.
use Rattle.std.specs.Prelude.{◌≡◌, ◌≤◌, ◌+◌, ◌^◌, List, ◌++◌, map, Option, IfSome}
use Rattle.mav_sign.specs.Kept.{Kept}
use Rattle.mav_router.specs.Journal.{Rules}
use Rattle.relay_rules.specs.States.{LinkState}
use Rattle.relay_rules.specs.declared.links.OpenLink.{OpenLink}
use Rattle.relay_hub.specs.Hubs.{HubState, Tape as HubTape}
use Rattle.relay_hub.specs.Seats.{Seats}
use Rattle.relay_core.specs.Calls.{RunIs}
use Rattle.relay_core.specs.RelayRuns.{HoldsInPart, IsRun, RelayKept, RelayRun, Tape}
use Rattle.relay_core.specs.Said.{Said}
use Rattle.relay_run.specs.declared.stops.Stop.{Stop}
use Rattle.relay_run.specs.declared.stops.Stop.TheVariants.{NumbersSpent}
use Rattle.relay_run.specs.Saying.{framed_in, marks_of, marks_said}

-- the open links of a relay are at the ports of the hub's, in their order
abbrev pub AreSeated : Seats → RelayKept → Type 0
AreSeated seats view = seats.ports ≡ map (λ (link : OpenLink). link.port) view.links.links

-- the bytes of a link
abbrev pub bytes_of : HubTape → Tape
bytes_of tape = record { given = tape.given; taken = tape.taken }

-- the links that a hub ever opened are those of a run, with their bytes, and the same ones are open
pub record Agrees (run : RelayRun) (hub : HubState) : Type 0 where
  pub tapes : map bytes_of hub.tapes ≡ run.tapes
  pub links : hub.links ≡ map (λ (link : LinkState). link.number) run.course.state.links

-- what was told since a watcher was so: each frame of the run, with the links that it went to, and in between each
-- opening and closing, in the order of the run's history
pub record IsTold {Watcher : Type 0} (told : Watcher → List Said → Type 0) (first now : Watcher) (run : RelayRun)
    : Type 0 where
  pub said : List Said
  pub tells : (all : List Said) → told first all → told now (all ++ said)
  pub frames : framed_in said ≡ run.course.told
  pub marks : marks_said said ≡ marks_of run.events

-- a run by the rules, of which all this holds
pub record Runs {Watcher : Type 0} (rules : Rules) (start : Kept) (told : Watcher → List Said → Type 0)
    (first now : Watcher) (hub : Option HubState) (view : RelayKept) : Type 0 where
  pub run : RelayRun
  pub goes_on : RunIs rules start run view
  pub telling : IsTold told first now run
  pub bytes : IfSome hub (Agrees run)

-- there was no memory: the links of the run are the hub's, but perhaps the last one, and the frames heard of each are
-- those of a prefix of its parse
pub record RunsInPart {Watcher : Type 0} (stop : Stop) (rules : Rules) (start : Kept)
    (told : Watcher → List Said → Type 0) (first now : Watcher) (hub : Option HubState) : Type 0 where
  pub run : RelayRun
  pub is_run : IsRun rules start run
  pub holds : HoldsInPart rules run
  pub telling : IsTold told first now run
  pub spent : stop ≡ NumbersSpent → 2 ^ 64 ≤ run.course.state.given + 1
  pub bytes : IfSome hub (λ s. (rest : List Tape) × (map bytes_of s.tapes ≡ run.tapes ++ rest))

-- what a call leads to, from any run
abbrev pub Goes : {Watcher : Type 0} → Rules → (Watcher → List Said → Type 0) → (was is : Watcher)
    → (before after : Option HubState) → (old new : RelayKept) → Type 0
Goes {Watcher} rules told was is before after old new =
    (start : Kept) (first : Watcher) → Runs rules start told first was before old
    → Runs rules start told first is after new

abbrev pub GoesInPart : {Watcher : Type 0} → Stop → Rules → (Watcher → List Said → Type 0) → (was is : Watcher)
    → (before after : Option HubState) → RelayKept → Type 0
GoesInPart {Watcher} stop rules told was is before after old =
    (start : Kept) (first : Watcher) → Runs rules start told first was before old
    → RunsInPart stop rules start told first is after
