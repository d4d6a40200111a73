-- A station that had no outcome has after a step the one that the step reports.
use Rattle.std.proofs.Common.{◌≡◌, ℕ, ◌==◌, ◌||◌, ◌&&◌, nat_lt, true, List, [], ◌∷◌, ◌++◌, length, slice_get, Option, Some, None, refl}
use Rattle.mav_names.specs.declared.names.Stream.{Stream}
use Rattle.plan_items.specs.declared.items.Item.{Item}
use Rattle.plan_items.specs.declared.messages.PlanMsg.{PlanMsg}
use Rattle.plan_items.specs.declared.messages.PlanMsg.TheVariants.{Count, Request, Item as Give, Ack, List as Listing, Clear, Ping}
use Rattle.plan_items.specs.Kinds.{limit_of}
use Rattle.plan_upload.specs.Addresses.{same_stream, same_name}
use Rattle.plan_upload.specs.Station.{StationState, StationStep, Operation, Phase, Pinging, Cancelling, Sending, Clearing, Listing_items, Getting, addressee, last_ping, is_synced, is_number, synchronises, resynchronises, upload_acked, item_asked, item_got, counted, phase_step, operation_step, station_step, is_patient, pinged, phase_tick, operation_tick, station_tick, phase_cancel, operation_cancel, station_cancel, begins}
use Rattle.plan_safety.proofs.Keys.{by_test}

-- the outcome that is kept is the one that was reported
abbrev pub ReportsOutcome : StationStep → Type 0
ReportsOutcome a = a.station.outcome ≡ a.told

module _ (s : StationState) (none : s.outcome ≡ None) where
  pub attempt : (o : Operation) → ReportsOutcome (resynchronises s o)
  attempt o = by_test ReportsOutcome (nat_lt s.pings last_ping) _ _ (λ _. none) (λ _. none)

  synchronised_reports : (o : Operation) (code : ℕ) → ReportsOutcome (synchronises s o code)
  synchronised_reports o code = by_test ReportsOutcome o.terminating _ _ (λ _. refl) (λ _. none)

  asked_reports : (o : Operation) (seq : ℕ) (item : Option Item) → ReportsOutcome (item_asked s o seq item)
  asked_reports o seq None = none
  asked_reports o seq (Some item) = none

  acked_reports : (o : Operation) (code : ℕ) → ReportsOutcome (upload_acked s o code)
  acked_reports o code =
      by_test ReportsOutcome o.asked _ _
      (λ _. by_test ReportsOutcome (code == 0) _ _ (λ _. by_test ReportsOutcome o.final_sent _ _ (λ _. refl) (λ _. none)) (λ _. attempt (record o { code = Some code; terminating = true })))
      (λ _. by_test ReportsOutcome ((code == 3) || ((code == 4) || ((code == 5) || (code == 14)))) _ _ (λ _. attempt (record o { code = Some code; terminating = true })) (λ _. none))

  counted_reports : (o : Operation) (count : ℕ) → ReportsOutcome (counted s o count)
  counted_reports o count = by_test ReportsOutcome (count == 0) _ _ (λ _. refl) (λ _. by_test ReportsOutcome (nat_lt (limit_of o.kind) count) _ _ (λ _. refl) (λ _. none))

  got_reports : (o : Operation) (items : List Item) → ReportsOutcome (item_got s o items)
  got_reports o items = by_test ReportsOutcome (nat_lt (length items) o.total) _ _ (λ _. none) (λ _. refl)

  phase_reports : (o : Operation) (phase : Phase) (m : PlanMsg) → ReportsOutcome (phase_step s o phase m)
  phase_reports o Pinging (Ping to usec seq) = by_test ReportsOutcome ((usec == s.boot) && is_number o.number seq) _ _ (λ _. none) (λ _. none)
  phase_reports o Pinging (Count to count kind) = none
  phase_reports o Pinging (Request to seq kind) = none
  phase_reports o Pinging (Give to seq kind item) = none
  phase_reports o Pinging (Ack to code kind) = none
  phase_reports o Pinging (Listing to kind) = none
  phase_reports o Pinging (Clear to kind) = none
  phase_reports o Cancelling (Ack to code kind) = by_test ReportsOutcome ((code == 0) || ((code == 1) || (code == 15))) _ _ (λ _. synchronised_reports o code) (λ _. none)
  phase_reports o Cancelling (Ping to usec seq) = none
  phase_reports o Cancelling (Count to count kind) = none
  phase_reports o Cancelling (Request to seq kind) = none
  phase_reports o Cancelling (Give to seq kind item) = none
  phase_reports o Cancelling (Listing to kind) = none
  phase_reports o Cancelling (Clear to kind) = none
  phase_reports o Sending (Request to seq kind) = by_test ReportsOutcome (kind == o.kind) _ _ (λ _. asked_reports o seq (slice_get o.plan seq)) (λ _. none)
  phase_reports o Sending (Ack to code kind) = acked_reports o code
  phase_reports o Sending (Ping to usec seq) = none
  phase_reports o Sending (Count to count kind) = none
  phase_reports o Sending (Give to seq kind item) = none
  phase_reports o Sending (Listing to kind) = none
  phase_reports o Sending (Clear to kind) = none
  phase_reports o Clearing (Ack to code kind) = by_test ReportsOutcome (code == 0) _ _ (λ _. refl) (λ _. by_test ReportsOutcome ((code == 3) || (code == 14)) _ _ (λ _. refl) (λ _. none))
  phase_reports o Clearing (Ping to usec seq) = none
  phase_reports o Clearing (Count to count kind) = none
  phase_reports o Clearing (Request to seq kind) = none
  phase_reports o Clearing (Give to seq kind item) = none
  phase_reports o Clearing (Listing to kind) = none
  phase_reports o Clearing (Clear to kind) = none
  phase_reports o Listing_items (Count to count kind) = by_test ReportsOutcome (kind == o.kind) _ _ (λ _. counted_reports o count) (λ _. none)
  phase_reports o Listing_items (Ack to code kind) = by_test ReportsOutcome ((code == 3) || (code == 14)) _ _ (λ _. refl) (λ _. none)
  phase_reports o Listing_items (Ping to usec seq) = none
  phase_reports o Listing_items (Request to seq kind) = none
  phase_reports o Listing_items (Give to seq kind item) = none
  phase_reports o Listing_items (Listing to kind) = none
  phase_reports o Listing_items (Clear to kind) = none
  phase_reports o Getting (Give to seq kind item) = by_test ReportsOutcome ((kind == o.kind) && (seq == length o.got)) _ _ (λ _. got_reports o (o.got ++ item ∷ [])) (λ _. none)
  phase_reports o Getting (Ack to code kind) = by_test ReportsOutcome (code == 0) _ _ (λ _. none) (λ _. refl)
  phase_reports o Getting (Ping to usec seq) = none
  phase_reports o Getting (Count to count kind) = none
  phase_reports o Getting (Request to seq kind) = none
  phase_reports o Getting (Listing to kind) = none
  phase_reports o Getting (Clear to kind) = none

  operation_reports : (o : Option Operation) (from : Stream) (m : PlanMsg) → ReportsOutcome (operation_step s o from m)
  operation_reports None from m = none
  operation_reports (Some o) from m = by_test ReportsOutcome (same_stream from o.drone && same_name (addressee m) s.me) _ _ (λ _. phase_reports o o.phase m) (λ _. none)

  -- at each message
  pub step_reports : (from : Stream) (m : PlanMsg) → ReportsOutcome (station_step s from m)
  step_reports from m = operation_reports s.operation from m

-- at a tick and at a cancel no outcome is reached
module _ (s : StationState) (none : s.outcome ≡ None) where
  waits_reports : (o : Operation) (phase : Phase) → ReportsOutcome (phase_tick s o phase)
  waits_reports o Pinging = pinged_reports o.number
    where
      pinged_reports : (number : Option ℕ) → ReportsOutcome (pinged s number)
      pinged_reports None = none
      pinged_reports (Some number) = none
  waits_reports o Cancelling = attempt s none o
  waits_reports o Sending = by_test ReportsOutcome (is_patient o) _ _ (λ _. none) (λ _. attempt s none (record o { terminating = true }))
  waits_reports o Clearing = by_test ReportsOutcome (is_patient o) _ _ (λ _. none) (λ _. attempt s none o)
  waits_reports o Listing_items = by_test ReportsOutcome (is_patient o) _ _ (λ _. none) (λ _. attempt s none o)
  waits_reports o Getting = by_test ReportsOutcome (is_patient o) _ _ (λ _. none) (λ _. attempt s none o)

  pub tick_reports : ReportsOutcome (station_tick s)
  tick_reports = of_operation s.operation
    where
      of_operation : (o : Option Operation) → ReportsOutcome (operation_tick s o)
      of_operation None = none
      of_operation (Some o) = waits_reports o o.phase

  gives_up_reports : (o : Operation) (phase : Phase) → ReportsOutcome (phase_cancel s o phase)
  gives_up_reports o Pinging = none
  gives_up_reports o Cancelling = none
  gives_up_reports o Sending = attempt s none (record o { terminating = true })
  gives_up_reports o Clearing = attempt s none (record o { terminating = true })
  gives_up_reports o Listing_items = attempt s none (record o { terminating = true })
  gives_up_reports o Getting = attempt s none (record o { terminating = true })

  pub cancel_reports : ReportsOutcome (station_cancel s)
  cancel_reports = of_operation s.operation
    where
      of_operation : (o : Option Operation) → ReportsOutcome (operation_cancel s o)
      of_operation None = none
      of_operation (Some o) = by_test ReportsOutcome o.terminating _ _ (λ _. none) (λ _. gives_up_reports o o.phase)

-- an operation that begins reports nothing yet
abbrev Begun : StationStep → Type 0
Begun a = (a.station.outcome ≡ None) × (a.told ≡ None)

pub begun_reports : (s : StationState) (o : Operation) → Begun (begins s o)
begun_reports s o =
    let ready : StationState = record s { outcome = None } in
    by_test Begun (is_synced s.synced o.drone) _ _ (λ _. (refl, refl))
    (λ _. by_test Begun (nat_lt s.pings last_ping) _ _ (λ _. (refl, refl)) (λ _. (refl, refl)))

-- a cancel reports nothing
abbrev IsSilent : StationStep → Type 0
IsSilent a = a.told ≡ None

silent_attempt : (s : StationState) (o : Operation) → IsSilent (resynchronises s o)
silent_attempt s o = by_test IsSilent (nat_lt s.pings last_ping) _ _ (λ _. refl) (λ _. refl)

pub cancel_is_silent : (s : StationState) → IsSilent (station_cancel s)
cancel_is_silent s = of_operation s.operation
  where
    of_phase : (o : Operation) (phase : Phase) → IsSilent (phase_cancel s o phase)
    of_phase o Pinging = refl
    of_phase o Cancelling = refl
    of_phase o Sending = silent_attempt s (record o { terminating = true })
    of_phase o Clearing = silent_attempt s (record o { terminating = true })
    of_phase o Listing_items = silent_attempt s (record o { terminating = true })
    of_phase o Getting = silent_attempt s (record o { terminating = true })

    of_operation : (o : Option Operation) → IsSilent (operation_cancel s o)
    of_operation None = refl
    of_operation (Some o) = by_test IsSilent o.terminating _ _ (λ _. refl) (λ _. of_phase o o.phase)
