-- Names and streams that are distinct, and which messages a drone and a station leave alone.
use Rattle.std.proofs.Common.{◌≡◌, ◌≢◌, ℕ, ◌≤◌, Bool, true, false, ◌==◌, ◌&&◌, ◌||◌, not, Option, Some, None, refl, ap, subst, arith, ◌∙◌}
use Rattle.std.proofs.lemmas.Bool.{cond-false}
use Rattle.mav_names.specs.declared.names.Name.{Name}
use Rattle.mav_names.specs.declared.names.Stream.{Stream}
use Rattle.plan_items.specs.declared.messages.PlanMsg.{PlanMsg}
use Rattle.plan_items.specs.declared.messages.PlanMsg.TheVariants.{Count, Request, Item as Give, Ack, List as Listing, Clear, Ping}
use Rattle.mav_names.specs.Addresses.{same_stream, same_name, everyone, is_for_drone, drone_name}
use Rattle.plan_upload.specs.Drone.{DroneState, DroneStep, rests, heard, count_comes, item_comes, ack_comes, clear_comes, list_comes, request_comes, drone_step}
use Rattle.plan_upload.specs.Station.{StationState, Operation, stays, addressee, phase_step, operation_step, station_step}
use Rattle.fleet_world.specs.WorldState.{stream_of}
use Rattle.fleet_invariants.proofs.Tests.{number_same, eq_true, both_true, differ, name_eq, name_same, name_is}

pub not_true : (b : Bool) → (b ≡ true → ⊥) → b ≡ false
not_true true h = absurd (h refl)
not_true false h = refl

pub not_is_false : (b : Bool) → not b ≡ false → b ≡ true
not_is_false true e = refl
not_is_false false e = absurd (cc)

-- a stream is itself
pub same : (s : Stream) → same_stream s s ≡ true
same s = rw (number_same s.sys, number_same s.comp) (number_same s.link)

pub names_apart : (a b : Name) → a ≢ b → same_name a b ≡ false
names_apart a b ne = not_true _ (λ e. ne (name_eq a b e))

pub name_apart : (a b : Name) → same_name a b ≡ false → a ≢ b
name_apart a b e is = differ _ (subst (λ x. same_name a x ≡ true) is (name_same a)) e

-- streams of names that differ
pub streams_apart : (a b : Name) → a ≢ b → same_stream (stream_of a) (stream_of b) ≡ false
streams_apart a b ne = not_true _ (λ e. let x = both_true _ _ e in let y = both_true _ _ x.1 in ne (name_is a b (eq_true _ _ x.0) (eq_true _ _ y.0)))

-- no node has the name of everyone
pub not_everyone : (a : Name) → 1 ≤ a.sys → same_name a everyone ≡ false
not_everyone a some = not_true _ (λ e. let x = both_true _ _ e in let z = eq_true a.sys 0 x.0 in absurd (omega arith))

-- a message for a node is for no drone of another name
pub not_for_drone : (sys : ℕ) (to : Name) → 1 ≤ to.comp → to ≢ drone_name sys → is_for_drone sys to ≡ false
not_for_drone sys to some ne = not_true _ (λ e. let x = both_true _ _ e in by_comp (to.comp == 1) refl x.1 (eq_true _ _ x.0))
  where
    by_comp : (b : Bool) → (to.comp == 1) ≡ b → (b || (to.comp == 0)) ≡ true → to.sys ≡ sys → ⊥
    by_comp true one h s = ne (name_is to (drone_name sys) s (eq_true _ _ one))
    by_comp false one h s = let z = eq_true to.comp 0 h in absurd (omega arith)

-- a drone leaves alone what is for another node
unheard : (d : DroneState) (b : Bool) (r : DroneStep) → b ≡ false → heard d b r ≡ rests d
unheard d b r e = cond-false b r (rests d) e

pub drone_rests : (d : DroneState) (from : Stream) (m : PlanMsg) → is_for_drone d.sys (addressee m) ≡ false → same_name (addressee m) everyone ≡ false → drone_step true d from m ≡ rests d
drone_rests d s (Ping to usec seq) other one = unheard d (same_name to everyone) _ one
drone_rests d s (Count to n kind) other one = unheard d (is_for_drone d.sys to) (count_comes d s n kind) other
drone_rests d s (Give to seq kind item) other one = unheard d (is_for_drone d.sys to) (item_comes true d s d.upload seq kind item) other
drone_rests d s (Ack to code kind) other one = unheard d (is_for_drone d.sys to) (ack_comes d s code kind) other
drone_rests d s (Clear to kind) other one = unheard d (is_for_drone d.sys to) (clear_comes true d s kind) other
drone_rests d s (Listing to kind) other one = unheard d (is_for_drone d.sys to) (list_comes d s kind) other
drone_rests d s (Request to seq kind) other one = unheard d (is_for_drone d.sys to) (request_comes d s d.download seq kind) other

-- a station what is for another node, and what another than its operation's drone says
and_off : (a b : Bool) → b ≡ false → (a && b) ≡ false
and_off true b e = e
and_off false b e = refl

pub station_rests : (t : StationState) (from : Stream) (m : PlanMsg) → same_name (addressee m) t.me ≡ false → station_step t from m ≡ stays t
station_rests t from m other = at t.operation
  where
    at : (o : Option Operation) → operation_step t o from m ≡ stays t
    at None = refl
    at (Some o) = cond-false (same_stream from o.drone && same_name (addressee m) t.me) (phase_step t o o.phase m) (stays t) (and_off _ _ other)

pub station_deaf : (t : StationState) (from : Stream) (m : PlanMsg) (o : Operation) → t.operation ≡ Some o → same_stream from o.drone ≡ false → station_step t from m ≡ stays t
station_deaf t from m o is other =
    ap (λ x. operation_step t x from m) is
    ∙ cond-false (same_stream from o.drone && same_name (addressee m) t.me) (phase_step t o o.phase m) (stays t) (ap (λ b. b && same_name (addressee m) t.me) other)
