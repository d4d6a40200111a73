-- No step of a station changes whose it is, and no tick of a drone its plans.
use Rattle.std.proofs.Common.{◌≡◌, ℕ, ◌+◌, Bool, true, if◌then◌else◌, ◌==◌, ◌&&◌, ◌||◌, nat_lt, List, [], ◌∷◌, ◌++◌, length, Option, Some, None, refl}
use Rattle.std.specs.Prelude.{slice_get}
use Rattle.mav_names.specs.declared.names.Stream.{Stream}
use Rattle.plan_items.specs.declared.items.Item.{Item}
use Rattle.plan_items.specs.declared.messages.PlanMsg.{PlanMsg}
use Rattle.plan_items.specs.declared.messages.PlanMsg.TheVariants.{Count, Request, Item as Give, Ack, List as Listing, Clear, Ping}
use Rattle.plan_items.specs.Kinds.{limit_of}
use Rattle.plan_upload.specs.Addresses.{same_stream, same_name}
use Rattle.plan_upload.specs.Drone.{DroneState, Upload, idle_limit, is_own, DroneTick, upload_waits, drone_tick}
use Rattle.plan_upload.specs.Station.{StationState, StationStep, Operation, Phase, Pinging, Cancelling, Sending, Clearing, Listing_items, Getting, last_ping, is_synced, addressee, is_number, is_patient, resynchronises, synchronises, refused, terminated, item_asked, upload_acked, counted, item_got, phase_step, operation_step, station_step, pinged, phase_tick, operation_tick, station_tick, phase_cancel, operation_cancel, station_cancel, begins}
use Rattle.fleet_invariants.proofs.Tests.{by_test}

-- ---- a drone

-- its tick doesn't change its plans
plans_stay : (d : DroneState) (u : Option Upload) → (upload_waits d u).drone.plans ≡ d.plans
plans_stay d None = refl
plans_stay d (Some u) =
    by_test (λ (r : DroneTick). r.drone.plans ≡ d.plans) (nat_lt (u.idle + 1) idle_limit) _ _ (λ _. refl) (λ _.
    by_test (λ (x : DroneState). x.plans ≡ d.plans) (is_own d.upload u.stream) _ d (λ _. refl) (λ _. refl))

pub drone_tick_plans : (d : DroneState) → (drone_tick d).drone.plans ≡ d.plans
drone_tick_plans d = plans_stay _ d.upload

-- ---- a station

module _ (s : StationState) where
  abbrev Mine : StationStep → Type 0
  Mine r = r.station.me ≡ s.me

  attempt : (x : StationState) (o : Operation) → x.me ≡ s.me → Mine (resynchronises x o)
  attempt x o e = by_test Mine (nat_lt x.pings last_ping) _ _ (λ _. e) (λ _. e)

  refusing : (o : Operation) (code : ℕ) → Mine (refused s o code)
  refusing o code = attempt s (record o { code = Some code; terminating = true }) refl

  ending : (o : Operation) → Mine (terminated s o)
  ending o = attempt s (record o { terminating = true }) refl

  answered : (o : Operation) (code : ℕ) → Mine (synchronises s o code)
  answered o code = by_test Mine o.terminating _ _ (λ _. refl) (λ _. refl)

  asked : (o : Operation) (seq : ℕ) (item : Option Item) → Mine (item_asked s o seq item)
  asked o seq None = refl
  asked o seq (Some item) = refl

  uploaded : (o : Operation) (code : ℕ) → Mine (upload_acked s o code)
  uploaded o code =
      by_test Mine o.asked _ _
      (λ _. by_test Mine (code == 0) _ _ (λ _. by_test Mine o.final_sent _ _ (λ _. refl) (λ _. refl)) (λ _. refusing o code))
      (λ _. by_test Mine ((code == 3) || ((code == 4) || ((code == 5) || (code == 14)))) _ _ (λ _. refusing o code) (λ _. refl))

  told : (o : Operation) (count : ℕ) → Mine (counted s o count)
  told o count =
      by_test Mine (count == 0) _ _ (λ _. refl) (λ _. by_test Mine (nat_lt (limit_of o.kind) count) _ _ (λ _. refl) (λ _. refl))

  got : (o : Operation) (items : List Item) → Mine (item_got s o items)
  got o items = by_test Mine (nat_lt (length items) o.total) _ _ (λ _. refl) (λ _. refl)

  either : (t : Bool) (x y : StationStep) → Mine x → Mine y → Mine (if t then x else y)
  either t x y h k = by_test Mine t x y (λ _. h) (λ _. k)

  phases : (o : Operation) (phase : Phase) (m : PlanMsg) → Mine (phase_step s o phase m)
  phases o Pinging (Ping to usec seq) = either ((usec == s.boot) && is_number o.number seq) _ _ refl refl
  phases o Pinging (Count to count kind) = refl
  phases o Pinging (Request to seq kind) = refl
  phases o Pinging (Give to seq kind item) = refl
  phases o Pinging (Ack to code kind) = refl
  phases o Pinging (Listing to kind) = refl
  phases o Pinging (Clear to kind) = refl
  phases o Cancelling (Ack to code kind) = either ((code == 0) || ((code == 1) || (code == 15))) _ _ (answered o code) refl
  phases o Cancelling (Ping to usec seq) = refl
  phases o Cancelling (Count to count kind) = refl
  phases o Cancelling (Request to seq kind) = refl
  phases o Cancelling (Give to seq kind item) = refl
  phases o Cancelling (Listing to kind) = refl
  phases o Cancelling (Clear to kind) = refl
  phases o Sending (Request to seq kind) = either (kind == o.kind) _ _ (asked o seq (slice_get o.plan seq)) refl
  phases o Sending (Ack to code kind) = uploaded o code
  phases o Sending (Ping to usec seq) = refl
  phases o Sending (Count to count kind) = refl
  phases o Sending (Give to seq kind item) = refl
  phases o Sending (Listing to kind) = refl
  phases o Sending (Clear to kind) = refl
  phases o Clearing (Ack to code kind) = either (code == 0) _ _ refl (either ((code == 3) || (code == 14)) _ _ refl refl)
  phases o Clearing (Ping to usec seq) = refl
  phases o Clearing (Count to count kind) = refl
  phases o Clearing (Request to seq kind) = refl
  phases o Clearing (Give to seq kind item) = refl
  phases o Clearing (Listing to kind) = refl
  phases o Clearing (Clear to kind) = refl
  phases o Listing_items (Count to count kind) = either (kind == o.kind) _ _ (told o count) refl
  phases o Listing_items (Ack to code kind) = either ((code == 3) || (code == 14)) _ _ refl refl
  phases o Listing_items (Ping to usec seq) = refl
  phases o Listing_items (Request to seq kind) = refl
  phases o Listing_items (Give to seq kind item) = refl
  phases o Listing_items (Listing to kind) = refl
  phases o Listing_items (Clear to kind) = refl
  phases o Getting (Give to seq kind item) = either ((kind == o.kind) && (seq == length o.got)) _ _ (got o (o.got ++ item ∷ [])) refl
  phases o Getting (Ack to code kind) = either (code == 0) _ _ refl refl
  phases o Getting (Ping to usec seq) = refl
  phases o Getting (Count to count kind) = refl
  phases o Getting (Request to seq kind) = refl
  phases o Getting (Listing to kind) = refl
  phases o Getting (Clear to kind) = refl

  by_operation : (o : Option Operation) (from : Stream) (m : PlanMsg) → Mine (operation_step s o from m)
  by_operation None from m = refl
  by_operation (Some o) from m = either (same_stream from o.drone && same_name (addressee m) s.me) _ _ (phases o o.phase m) refl

  pub station_stays : (from : Stream) (m : PlanMsg) → Mine (station_step s from m)
  station_stays from m = by_operation s.operation from m

  again : (o : Operation) (number : Option ℕ) → Mine (pinged s number)
  again o None = refl
  again o (Some number) = refl

  waits : (o : Operation) (phase : Phase) → Mine (phase_tick s o phase)
  waits o Pinging = again o o.number
  waits o Cancelling = attempt s o refl
  waits o Sending = either (is_patient o) _ _ refl (ending o)
  waits o Clearing = either (is_patient o) _ _ refl (attempt s o refl)
  waits o Listing_items = either (is_patient o) _ _ refl (attempt s o refl)
  waits o Getting = either (is_patient o) _ _ refl (attempt s o refl)

  operation_waits : (o : Option Operation) → Mine (operation_tick s o)
  operation_waits None = refl
  operation_waits (Some o) = waits o o.phase

  pub station_tick_stays : Mine (station_tick s)
  station_tick_stays = operation_waits s.operation

  given_up : (o : Operation) (phase : Phase) → Mine (phase_cancel s o phase)
  given_up o Pinging = refl
  given_up o Cancelling = refl
  given_up o Sending = ending o
  given_up o Clearing = ending o
  given_up o Listing_items = ending o
  given_up o Getting = ending o

  operation_given_up : (o : Option Operation) → Mine (operation_cancel s o)
  operation_given_up None = refl
  operation_given_up (Some o) = either o.terminating _ _ refl (given_up o o.phase)

  pub station_cancel_stays : Mine (station_cancel s)
  station_cancel_stays = operation_given_up s.operation

  pub begin_stays : (o : Operation) → Mine (begins s o)
  begin_stays o = either (is_synced s.synced o.drone) _ _ refl (attempt (record s { outcome = None }) o refl)
