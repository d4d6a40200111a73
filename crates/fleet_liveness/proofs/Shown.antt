-- The example: its lines by computation, whatever the key is; that its flow isn't stopped, from what flows take.
use Rattle.std.proofs.Common.{◌≡◌, ℕ, zero, suc, Bool, true, false, List, [], ◌∷◌, ◌++◌, None, Ok, Err, codes, refl, arith}
use Rattle.std.specs.Prelude.{All}
use Rattle.std.specs.declared.result.Result.{Result}
use Rattle.hex.specs.Hex.{decode_pairs}
use Rattle.sha2.specs.Sha256.{first_words, schedule, rounds, compress, hash_after, digest_bytes, sha256}
use Rattle.x25_check.specs.Check as check
use Rattle.plan_items.specs.Validation.{item_fault, whole_fault, plan_fault, IsValid}
use Rattle.fleet_world.specs.Steps.{Step, StepError, flows}
use Rattle.fleet_world.specs.Scenario.{Played, at_start, goes_on, played}
use Rattle.fleet_world.specs.Authentic.{Authentic}
use Rattle.fleet_invariants.specs.Sound.{Sound}
use Rattle.fleet_invariants.proofs.Plays.{sound_start, sound_lines}
use Rattle.fleet_liveness.specs.Uncontended.{NextLine, Whole, Last, IsUncontended, begun}
use Rattle.fleet_liveness.specs.Examples.{scenario, upload_lines, one_item, two_items, waypoint, upload, newline, some_key, again, again_lines, acknowledges}
use Rattle.fleet_liveness.proofs.Shorts.{Goes, flows_go}

valid : IsValid 0 (waypoint ∷ [])
unfolding item_fault whole_fault
valid = record { not_empty = omega arith; within = omega arith; items_sound = all; whole_sound = refl }
  where
    all : All (λ item. item_fault 0 item ≡ None) (waypoint ∷ [])
    all zero d l = refl
    all (suc k) d l = absurd (omega arith)

-- a step that there is doesn't stop it
goes_stop : (p : Played) (r : Result Step StepError) → Goes (λ t. Unit {0}) r → (goes_on p r).stop ≡ None
goes_stop p (Ok t) h = refl
goes_stop p (Err error) h = absurd h

module _ (key : List ℕ) (flow : NextLine) where
  abbrev so_far : Played
  so_far = begun key (upload_lines flow)

  so_far_sound : Sound so_far.state
  unfolding item_fault whole_fault plan_fault decode_pairs
  so_far_sound =
      sound_lines (at_start key) (sound_start key) 1 (codes "drone 1" ∷ codes "station 255 190" ∷ one_item ∷ codes "begin 255.190 1.1 mission" ∷ []) (tt, (tt, (tt, (tt, tt))))

  flow_goes : (goes_on so_far (flows 9 so_far.state)).stop ≡ None
  unfolding item_fault whole_fault plan_fault decode_pairs
  flow_goes = goes_stop so_far (flows 9 so_far.state) (flows_go 9 so_far.state so_far_sound (omega arith))

pub whole_line : (key : List ℕ) (ended : Bool) → IsUncontended key ended (scenario one_item (codes "flow 9" ++ newline)) (upload_lines (Whole (codes "flow 9") [])) upload
unfolding item_fault whole_fault plan_fault decode_pairs
whole_line key ended = record {
  lines = refl;
  front_done = refl;
  begin_done = refl;
  flow_done = flow_goes key (Whole (codes "flow 9") []);
  begins = refl;
  plan_is = refl;
  valid = valid;
  accepts = record { index = 1; station = _; found = refl; named = refl; accepted = refl };
  is_free = record { index = 0; drone = _; found = refl; named = refl; free = refl };
  heard = tt;
  frames = 9;
  flows = refl;
  enough = omega arith;
}

pub last_line : (key : List ℕ) → IsUncontended key true (scenario one_item (codes "flow 9")) (upload_lines (Last (codes "flow 9"))) upload
unfolding item_fault whole_fault plan_fault decode_pairs
last_line key = record {
  lines = (refl, (refl, refl));
  front_done = refl;
  begin_done = refl;
  flow_done = flow_goes key (Last (codes "flow 9"));
  begins = refl;
  plan_is = refl;
  valid = valid;
  accepts = record { index = 1; station = _; found = refl; named = refl; accepted = refl };
  is_free = record { index = 0; drone = _; found = refl; named = refl; free = refl };
  heard = tt;
  frames = 9;
  flows = refl;
  enough = omega arith;
}

-- no line is noise
pub whole_authentic : (key : List ℕ) (ended : Bool) → Authentic key ended (scenario one_item (codes "flow 9" ++ newline))
unfolding item_fault whole_fault plan_fault decode_pairs
whole_authentic key true = record { lines = (tt, (tt, (tt, (tt, (tt, tt))))); last = tt }
whole_authentic key false = record { lines = (tt, (tt, (tt, (tt, (tt, tt))))); last = tt }

pub last_authentic : (key : List ℕ) → Authentic key true (scenario one_item (codes "flow 9"))
unfolding item_fault whole_fault plan_fault decode_pairs
last_authentic key = record { lines = (tt, (tt, (tt, (tt, tt)))); last = tt }

-- how many frames it takes: these compute the checksums and signatures of all frames
pub eight_do : acknowledges (played some_key true (scenario one_item (codes "flow 8"))).events ≡ true
unfolding item_fault whole_fault plan_fault decode_pairs first_words schedule rounds compress hash_after digest_bytes sha256 check.after_byte
eight_do = refl

pub seven_do_not : acknowledges (played some_key true (scenario one_item (codes "flow 7"))).events ≡ false
unfolding item_fault whole_fault plan_fault decode_pairs first_words schedule rounds compress hash_after digest_bytes sha256 check.after_byte
seven_do_not = refl

pub ten_do : acknowledges (played some_key true (scenario two_items (codes "flow 10"))).events ≡ true
unfolding item_fault whole_fault plan_fault decode_pairs first_words schedule rounds compress hash_after digest_bytes sha256 check.after_byte
ten_do = refl

pub nine_do_not : acknowledges (played some_key true (scenario two_items (codes "flow 9"))).events ≡ false
unfolding item_fault whole_fault plan_fault decode_pairs first_words schedule rounds compress hash_after digest_bytes sha256 check.after_byte
nine_do_not = refl

-- the premise can be met by a drone that has started again
pub again_uncontended : IsUncontended some_key true (again (codes "flow 5")) again_lines upload
unfolding item_fault whole_fault plan_fault decode_pairs first_words schedule rounds compress hash_after digest_bytes sha256 check.after_byte
again_uncontended = record {
  lines = refl;
  front_done = refl;
  begin_done = refl;
  flow_done = refl;
  begins = refl;
  plan_is = refl;
  valid = valid;
  accepts = record { index = 1; station = _; found = refl; named = refl; accepted = refl };
  is_free = record { index = 0; drone = _; found = refl; named = refl; free = refl };
  heard = omega arith;
  frames = 9;
  flows = refl;
  enough = omega arith;
}

pub a_heard_drone : acknowledges (played some_key true (again (codes "flow 5"))).events ≡ true
unfolding item_fault whole_fault plan_fault decode_pairs first_words schedule rounds compress hash_after digest_bytes sha256 check.after_byte
a_heard_drone = refl

pub an_unheard_drone : acknowledges (played some_key true (again (codes "# not heard"))).events ≡ false
unfolding item_fault whole_fault plan_fault decode_pairs first_words schedule rounds compress hash_after digest_bytes sha256 check.after_byte
an_unheard_drone = refl
