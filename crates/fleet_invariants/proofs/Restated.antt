-- A state whose place of flows, draft or clock changes.
use Rattle.std.proofs.Common.{ℕ, ◌≤◌, List, length, Ok, Err, refl, arith}
use Rattle.std.specs.Prelude.{All}
use Rattle.std.specs.declared.result.Result.{Result}
use Rattle.plan_items.specs.declared.items.Item.{Item}
use Rattle.plan_ranges.specs.Ranges.{ItemInRange}
use Rattle.fleet_world.specs.WorldState.{WorldState}
use Rattle.fleet_world.specs.Steps.{Step, StepError}
use Rattle.fleet_invariants.specs.Sound.{link_of, Sound}
use Rattle.fleet_invariants.specs.Kept.{Kept, Keeps}
use Rattle.fleet_invariants.proofs.Growth.{kept_on, kept_still, sent_kept, link_kept}
use Rattle.fleet_invariants.proofs.Moves.{Steady, steady_of, sound_of}

abbrev pub restated : WorldState → ℕ → List Item → ℕ → WorldState
restated s given draft clock = record s { given = given; draft = draft; clock = clock }

pub kept_restated : (s : WorldState) (given : ℕ) (draft : List Item) (clock : ℕ) → s.clock ≤ clock → Kept s (restated s given draft clock)
kept_restated s given draft clock h = kept_still s (restated s given draft clock) refl refl refl h (omega arith)

pub steady_restated : (s : WorldState) (given : ℕ) (draft : List Item) (clock : ℕ) → Steady s → given ≤ length s.sent → All ItemInRange draft → s.clock ≤ clock → clock ≤ 140737488355328 → Steady (restated s given draft clock)
steady_restated s given draft clock g few items later soon =
    let k = kept_restated s given draft clock later in
    record {
      apart = g.apart;
      links = λ i a e. link_kept s (restated s given draft clock) k (link_of a) (g.links i a e);
      cores = g.cores;
      sent = λ i p e. (sent_kept s (restated s given draft clock) k p (g.sent i p e)).sent;
      given = few;
      drones = g.drones;
      stations = g.stations;
      draft = items;
      clock = soon;
      restarts = g.restarts;
    }

pub sound_restated : (s : WorldState) (given : ℕ) (draft : List Item) (clock : ℕ) → Sound s → given ≤ length s.sent → All ItemInRange draft → s.clock ≤ clock → clock ≤ 140737488355328 → Sound (restated s given draft clock)
sound_restated s given draft clock g few items later soon =
    sound_of (restated s given draft clock) (steady_restated s given draft clock (steady_of s g) few items later soon) g.frames

pub regiven : (s : WorldState) (given : ℕ) → Sound s → given ≤ length s.sent → Sound (record s { given = given })
regiven s given g few = sound_restated s given s.draft s.clock g few g.draft (omega arith) g.clock

-- a step of such a state, at the same clock, is one of the state
pub restated_keeps : (s : WorldState) (given : ℕ) (draft : List Item) (r : Result Step StepError) → Keeps (restated s given draft s.clock) r → Keeps s r
restated_keeps s given draft (Ok t) h = record {
  sound = h.sound;
  kept = kept_on s (restated s given draft s.clock) t.state (kept_restated s given draft s.clock (omega arith)) h.kept;
  names = h.names;
  clock = h.clock;
}
restated_keeps s given draft (Err error) h = tt
