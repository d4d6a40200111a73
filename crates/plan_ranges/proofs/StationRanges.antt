-- A station's calls stay in range.
use Rattle.std.proofs.Common.{◌≡◌, ℕ, ◌+◌, ◌<◌, ◌≤◌, Bool, true, false, refl, if◌then◌else◌, ◌==◌, ◌&&◌, ◌||◌, nat_lt, List, [], ◌∷◌, ◌++◌, length, Option, Some, None, IfSome, arith}
use Rattle.std.specs.Prelude.{All, slice_get}
use Rattle.std.proofs.lemmas.List.Elements.{All-push}
use Rattle.mav_names.specs.declared.names.Stream.{Stream}
use Rattle.plan_items.specs.declared.items.Item.{Item}
use Rattle.plan_items.specs.declared.messages.PlanMsg.{PlanMsg}
use Rattle.plan_items.specs.declared.messages.PlanMsg.TheVariants.{Count, Request, Item as Give, Ack, List as Listing, Clear, Ping}
use Rattle.plan_items.specs.Kinds.{limit_of}
use Rattle.plan_upload.specs.Addresses.{same_stream, same_name, node_of}
use Rattle.plan_upload.specs.Station.{Work, Uploads, Clears, Gets, Phase, Pinging, Cancelling, Sending, Clearing, Listing_items, Getting, Operation, Told, Told_installed, Told_cleared, Told_got, Told_ended, StationState, last_ping, stays, with_operation, becomes, sends, pinging, resynchronises, first_message, starts, synchronised, ends_with, outcome_at, synchronises, refused, terminated, item_asked, upload_acked, downloaded, counted, item_got, is_number, phase_step, addressee, operation_step, station_step, idle_again, tries_again, is_patient, pinged, phase_tick, operation_tick, station_tick, phase_cancel, operation_cancel, station_cancel, fresh_station, untold, is_synced, begins, operation_of, begin_clear, begin_get, begin_upload}
use Rattle.plan_upload.specs.declared.faults.OpFault.{OpFault}
use Rattle.plan_upload.specs.declared.faults.OpFault.TheVariants.{NotFit}
use Rattle.plan_upload.specs.Refusals.{busy_with, first_of, spent, empty_plan, unfit, upload_refusal}
use Rattle.plan_ranges.proofs.Choices.{by_test, less, not_less, item_at, no_items}
use Rattle.plan_ranges.specs.Ranges.{Is8, Is16, Is32, Is64, StreamInRange, ItemInRange, InRange, PlanInRange, OperationInRange, StationInRange, StationStepInRange}

-- a station that is in range but for its operation
stays_so : (s : StationState) → StationInRange s → StationStepInRange (stays s)
stays_so s h = record { station = h; answer = tt }

goes_on : (s : StationState) (o : Operation) → StationInRange s → OperationInRange o → StationInRange (with_operation s o)
goes_on s o h i = record { me = h.me; boot = h.boot; pings = h.pings; operation = i }

-- it goes on as `o`, and sends a message
sent : (s : StationState) (o : Operation) (m : PlanMsg) → StationInRange s → OperationInRange o → InRange m → StationStepInRange (sends s o m)
sent s o m h i a = record { station = goes_on s o h i; answer = a }

-- a resynchronisation attempt
resynchronised : (s : StationState) (o : Operation) → StationInRange s → OperationInRange o → StationStepInRange (resynchronises s o)
resynchronised s o h i =
    by_test StationStepInRange (nat_lt s.pings last_ping) _ _
    (λ left.
    let below : s.pings < 4294967295 = less s.pings 4294967295 left in
    let number : Is32 (s.pings + 1) = omega arith in
    record {
      station = record {
        me = h.me;
        boot = h.boot;
        pings = number;
        operation = record { drone = i.drone; kind = i.kind; plan = i.plan; number = number; total = omega arith; got = no_items };
      };
      answer = (record { sys = omega arith; comp = omega arith }, h.boot, number);
    })
    (λ _. record {
      station = goes_on s (pinging o None) h (record { drone = i.drone; kind = i.kind; plan = i.plan; number = tt; total = omega arith; got = no_items });
      answer = tt;
    })

-- a synchronised operation starts
first : (work : Work) (drone : Stream) (kind : ℕ) (plan : List Item) → StreamInRange drone → Is8 kind → PlanInRange plan → InRange (first_message work drone kind plan)
first Uploads drone kind plan d k p = (d, p.size, k)
first Clears drone kind plan d k p = (d, k)
first Gets drone kind plan d k p = (d, k)

started : (s : StationState) (o : Operation) → StationInRange s → OperationInRange o → StationStepInRange (starts s o)
started s o h i =
    sent s _ (first_message o.work o.drone o.kind o.plan) h
    (record { drone = i.drone; kind = i.kind; plan = i.plan; number = tt; total = omega arith; got = no_items })
    (first o.work o.drone o.kind o.plan i.drone i.kind i.plan)

-- the end of an operation
ended : (s : StationState) (drone : Stream) (answer : Option PlanMsg) (told : Told) → StationInRange s → IfSome answer InRange → StationStepInRange (ends_with s drone answer told)
ended s drone answer told h a =
    record { station = record { me = h.me; boot = h.boot; pings = h.pings; operation = tt }; answer = a }

-- the answer to the cancel came
synchronised_at : (s : StationState) (o : Operation) (code : ℕ) → StationInRange s → OperationInRange o → StationStepInRange (synchronises s o code)
synchronised_at s o code h i =
    by_test StationStepInRange o.terminating _ _
    (λ _. ended s o.drone None (outcome_at o.work o.final_sent code o.code) h tt)
    (λ _. started (synchronised s o.drone) o (record { me = h.me; boot = h.boot; pings = h.pings; operation = h.operation }) i)

-- an upload is refused, or given up
gives_up : (s : StationState) (o : Operation) → StationInRange s → OperationInRange o → StationStepInRange (terminated s o)
gives_up s o h i =
    resynchronised s (record o { terminating = true }) h (record { drone = i.drone; kind = i.kind; plan = i.plan; number = i.number; total = i.total; got = i.got })

refuses : (s : StationState) (o : Operation) (code : ℕ) → StationInRange s → OperationInRange o → StationStepInRange (refused s o code)
refuses s o code h i =
    resynchronised s (record o { code = Some code; terminating = true }) h (record { drone = i.drone; kind = i.kind; plan = i.plan; number = i.number; total = i.total; got = i.got })

-- phase 3
asked : (s : StationState) (o : Operation) (seq : ℕ) (item : Option Item) → StationInRange s → OperationInRange o → Is16 seq → IfSome item ItemInRange → StationStepInRange (item_asked s o seq item)
asked s o seq None h i n a = stays_so s h
asked s o seq (Some item) h i n a =
    sent s _ (Give (node_of o.drone) seq o.kind item) h
    (record { drone = i.drone; kind = i.kind; plan = i.plan; number = i.number; total = i.total; got = i.got })
    (i.drone, n, i.kind, a)

acked : (s : StationState) (o : Operation) (code : ℕ) → StationInRange s → OperationInRange o → StationStepInRange (upload_acked s o code)
acked s o code h i =
    by_test StationStepInRange o.asked _ _
    (λ _. by_test StationStepInRange (code == 0) _ _
    (λ _. by_test StationStepInRange o.final_sent _ _ (λ _. ended s o.drone None Told_installed h tt) (λ _. stays_so s h))
    (λ _. refuses s o code h i))
    (λ _. by_test StationStepInRange ((code == 3) || ((code == 4) || ((code == 5) || (code == 14)))) _ _
    (λ _. refuses s o code h i)
    (λ _. stays_so s h))

-- the download is whole
whole : (s : StationState) (o : Operation) (items : List Item) → StationInRange s → OperationInRange o → StationStepInRange (downloaded s o items)
whole s o items h i =
    ended s o.drone (Some (Ack (node_of o.drone) 0 o.kind)) (Told_got items) h (i.drone, omega arith, i.kind)

-- phase 5
counts : (s : StationState) (o : Operation) (count : ℕ) → StationInRange s → OperationInRange o → Is16 count → StationStepInRange (counted s o count)
counts s o count h i n =
    by_test StationStepInRange (count == 0) _ _ (λ _. whole s o [] h i) (λ _.
    by_test StationStepInRange (nat_lt (limit_of o.kind) count) _ _ (λ _. ended s o.drone None (Told_ended 4) h tt) (λ _.
    sent s _ (Request (node_of o.drone) 0 o.kind) h
    (record { drone = i.drone; kind = i.kind; plan = i.plan; number = i.number; total = n; got = no_items })
    (i.drone, omega arith, i.kind)))

-- phase 6
got : (s : StationState) (o : Operation) (item : Item) → StationInRange s → OperationInRange o → ItemInRange item → StationStepInRange (item_got s o (o.got ++ item ∷ []))
got s o item h i a =
    by_test StationStepInRange (nat_lt (length (o.got ++ item ∷ [])) o.total) _ _
    (λ more.
    let below : length (o.got ++ item ∷ []) < o.total = less (length (o.got ++ item ∷ [])) o.total more in
    let total : o.total < 65536 = i.total in
    let size : length (o.got ++ item ∷ []) < 65536 = omega arith in
    sent s _ (Request (node_of o.drone) (length (o.got ++ item ∷ [])) o.kind) h
    (record {
      drone = i.drone;
      kind = i.kind;
      plan = i.plan;
      number = i.number;
      total = i.total;
      got = record { size = size; items = All-push ItemInRange o.got item i.got.items a };
    })
    (i.drone, size, i.kind))
    (λ _. whole s o (o.got ++ item ∷ []) h i)

-- what counts in each phase
phases : (s : StationState) (o : Operation) (phase : Phase) (m : PlanMsg) → StationInRange s → OperationInRange o → InRange m → StationStepInRange (phase_step s o phase m)
phases s o Pinging (Ping to usec seq) h i a =
    by_test StationStepInRange ((usec == s.boot) && is_number o.number seq) _ _
    (λ _. sent s _ (Ack (node_of o.drone) 15 o.kind) h
    (record { drone = i.drone; kind = i.kind; plan = i.plan; number = i.number; total = i.total; got = i.got })
    (i.drone, omega arith, i.kind))
    (λ _. stays_so s h)
phases s o Pinging (Count to count kind) h i a = stays_so s h
phases s o Pinging (Request to seq kind) h i a = stays_so s h
phases s o Pinging (Give to seq kind item) h i a = stays_so s h
phases s o Pinging (Ack to code kind) h i a = stays_so s h
phases s o Pinging (Listing to kind) h i a = stays_so s h
phases s o Pinging (Clear to kind) h i a = stays_so s h
phases s o Cancelling (Ack to code kind) h i a =
    by_test StationStepInRange ((code == 0) || ((code == 1) || (code == 15))) _ _ (λ _. synchronised_at s o code h i) (λ _. stays_so s h)
phases s o Cancelling (Count to count kind) h i a = stays_so s h
phases s o Cancelling (Request to seq kind) h i a = stays_so s h
phases s o Cancelling (Give to seq kind item) h i a = stays_so s h
phases s o Cancelling (Listing to kind) h i a = stays_so s h
phases s o Cancelling (Clear to kind) h i a = stays_so s h
phases s o Cancelling (Ping to usec seq) h i a = stays_so s h
phases s o Sending (Request to seq kind) h i a =
    by_test StationStepInRange (kind == o.kind) _ _
    (λ _. asked s o seq (slice_get o.plan seq) h i a.1 (item_at o.plan seq i.plan.items))
    (λ _. stays_so s h)
phases s o Sending (Ack to code kind) h i a = acked s o code h i
phases s o Sending (Count to count kind) h i a = stays_so s h
phases s o Sending (Give to seq kind item) h i a = stays_so s h
phases s o Sending (Listing to kind) h i a = stays_so s h
phases s o Sending (Clear to kind) h i a = stays_so s h
phases s o Sending (Ping to usec seq) h i a = stays_so s h
phases s o Clearing (Ack to code kind) h i a =
    by_test StationStepInRange (code == 0) _ _ (λ _. ended s o.drone None Told_cleared h tt) (λ _.
    by_test StationStepInRange ((code == 3) || (code == 14)) _ _ (λ _. ended s o.drone None (Told_ended code) h tt) (λ _. stays_so s h))
phases s o Clearing (Count to count kind) h i a = stays_so s h
phases s o Clearing (Request to seq kind) h i a = stays_so s h
phases s o Clearing (Give to seq kind item) h i a = stays_so s h
phases s o Clearing (Listing to kind) h i a = stays_so s h
phases s o Clearing (Clear to kind) h i a = stays_so s h
phases s o Clearing (Ping to usec seq) h i a = stays_so s h
phases s o Listing_items (Count to count kind) h i a =
    by_test StationStepInRange (kind == o.kind) _ _ (λ _. counts s o count h i a.1) (λ _. stays_so s h)
phases s o Listing_items (Ack to code kind) h i a =
    by_test StationStepInRange ((code == 3) || (code == 14)) _ _ (λ _. ended s o.drone None (Told_ended code) h tt) (λ _. stays_so s h)
phases s o Listing_items (Request to seq kind) h i a = stays_so s h
phases s o Listing_items (Give to seq kind item) h i a = stays_so s h
phases s o Listing_items (Listing to kind) h i a = stays_so s h
phases s o Listing_items (Clear to kind) h i a = stays_so s h
phases s o Listing_items (Ping to usec seq) h i a = stays_so s h
phases s o Getting (Give to seq kind item) h i a =
    by_test StationStepInRange ((kind == o.kind) && (seq == length o.got)) _ _ (λ _. got s o item h i a.3) (λ _. stays_so s h)
phases s o Getting (Ack to code kind) h i a =
    by_test StationStepInRange (code == 0) _ _ (λ _. stays_so s h) (λ _. ended s o.drone None (Told_ended code) h tt)
phases s o Getting (Count to count kind) h i a = stays_so s h
phases s o Getting (Request to seq kind) h i a = stays_so s h
phases s o Getting (Listing to kind) h i a = stays_so s h
phases s o Getting (Clear to kind) h i a = stays_so s h
phases s o Getting (Ping to usec seq) h i a = stays_so s h

operated : (s : StationState) (o : Option Operation) (from : Stream) (m : PlanMsg) → StationInRange s → IfSome o OperationInRange → InRange m → StationStepInRange (operation_step s o from m)
operated s None from m h i a = stays_so s h
operated s (Some o) from m h i a =
    by_test StationStepInRange (same_stream from o.drone && same_name (addressee m) s.me) _ _
    (λ _. phases s o o.phase m h i a)
    (λ _. stays_so s h)

-- each plan message
pub steps : (s : StationState) (from : Stream) (m : PlanMsg) → StationInRange s → InRange m → StationStepInRange (station_step s from m)
steps s from m h a = operated s s.operation from m h h.operation a

-- ticks
again : (s : StationState) (o : Operation) (answer : Option PlanMsg) → StationInRange s → OperationInRange o → IfSome answer InRange → StationStepInRange (tries_again s o answer)
again s o answer h i a = record {
  station = goes_on s (idle_again o) h (record { drone = i.drone; kind = i.kind; plan = i.plan; number = i.number; total = i.total; got = i.got });
  answer = a;
}

pings_again : (s : StationState) (number : Option ℕ) → StationInRange s → IfSome number Is32 → StationStepInRange (pinged s number)
pings_again s None h n = stays_so s h
pings_again s (Some number) h n =
    record { station = h; answer = (record { sys = omega arith; comp = omega arith }, h.boot, n) }

-- the count again until a request was seen
counts_again : (s : StationState) (o : Operation) → StationInRange s → OperationInRange o → StationStepInRange (tries_again s o (if o.asked then None else Some (Count (node_of o.drone) (length o.plan) o.kind)))
counts_again s o h i =
    again s o _ h i
    (by_test (λ (a : Option PlanMsg). IfSome a InRange) o.asked None _ (λ _. tt) (λ _. (i.drone, i.plan.size, i.kind)))

phase_ticks : (s : StationState) (o : Operation) (phase : Phase) → StationInRange s → OperationInRange o → StationStepInRange (phase_tick s o phase)
phase_ticks s o Pinging h i = pings_again s o.number h i.number
phase_ticks s o Cancelling h i = resynchronised s o h i
phase_ticks s o Sending h i =
    by_test StationStepInRange (is_patient o) _ _ (λ _. counts_again s o h i) (λ _. gives_up s o h i)
phase_ticks s o Clearing h i =
    by_test StationStepInRange (is_patient o) _ _ (λ _. again s o None h i tt) (λ _. resynchronised s o h i)
phase_ticks s o Listing_items h i =
    by_test StationStepInRange (is_patient o) _ _ (λ _. again s o None h i tt) (λ _. resynchronised s o h i)
phase_ticks s o Getting h i =
    by_test StationStepInRange (is_patient o) _ _
    (λ _. again s o (Some (Request (node_of o.drone) (length o.got) o.kind)) h i (i.drone, i.got.size, i.kind))
    (λ _. resynchronised s o h i)

operation_ticks : (s : StationState) (o : Option Operation) → StationInRange s → IfSome o OperationInRange → StationStepInRange (operation_tick s o)
operation_ticks s None h i = stays_so s h
operation_ticks s (Some o) h i = phase_ticks s o o.phase h i

-- each tick
pub ticks : (s : StationState) → StationInRange s → StationStepInRange (station_tick s)
ticks s h = operation_ticks s s.operation h h.operation

-- a cancel of the station's own
ends_later : (s : StationState) (o : Operation) → StationInRange s → OperationInRange o → StationStepInRange (becomes s (record o { terminating = true }))
ends_later s o h i = record {
  station = goes_on s (record o { terminating = true }) h (record { drone = i.drone; kind = i.kind; plan = i.plan; number = i.number; total = i.total; got = i.got });
  answer = tt;
}

phase_cancels : (s : StationState) (o : Operation) (phase : Phase) → StationInRange s → OperationInRange o → StationStepInRange (phase_cancel s o phase)
phase_cancels s o Pinging h i = ends_later s o h i
phase_cancels s o Cancelling h i = ends_later s o h i
phase_cancels s o Sending h i = gives_up s o h i
phase_cancels s o Clearing h i = gives_up s o h i
phase_cancels s o Listing_items h i = gives_up s o h i
phase_cancels s o Getting h i = gives_up s o h i

operation_cancels : (s : StationState) (o : Option Operation) → StationInRange s → IfSome o OperationInRange → StationStepInRange (operation_cancel s o)
operation_cancels s None h i = stays_so s h
operation_cancels s (Some o) h i =
    by_test StationStepInRange o.terminating _ _ (λ _. stays_so s h) (λ _. phase_cancels s o o.phase h i)

-- each cancel
pub cancels : (s : StationState) → StationInRange s → StationStepInRange (station_cancel s)
cancels s h = operation_cancels s s.operation h h.operation

-- at its start, and when its outcome is handed out
pub fresh : (sys comp boot pings : ℕ) → Is8 sys → Is8 comp → Is64 boot → Is32 pings → StationInRange (fresh_station sys comp boot pings)
fresh sys comp boot pings s c b p =
    record { me = record { sys = s; comp = c }; boot = b; pings = p; operation = tt }

pub untells : (s : StationState) → StationInRange s → StationInRange (untold s)
untells s h = record { me = h.me; boot = h.boot; pings = h.pings; operation = h.operation }

-- a new operation
operates : (s : StationState) (o : Operation) → StationInRange s → OperationInRange o → StationStepInRange (begins s o)
operates s o h i =
    by_test StationStepInRange (is_synced s.synced o.drone) _ _
    (λ _. started (untold s) o (untells s h) i)
    (λ _. resynchronised (untold s) o (untells s h) i)

operation_in_range : (work : Work) (drone : Stream) (kind : ℕ) (plan : List Item) → StreamInRange drone → Is8 kind → PlanInRange plan → OperationInRange (operation_of work drone kind plan)
operation_in_range work drone kind plan d k p =
    record { drone = d; kind = k; plan = p; number = tt; total = omega arith; got = no_items }

pub clears : (s : StationState) (drone : Stream) (kind : ℕ) → StationInRange s → StreamInRange drone → Is8 kind → StationStepInRange (begin_clear s drone kind)
clears s drone kind h d k = operates s _ h (operation_in_range Clears drone kind [] d k no_items)

pub gets : (s : StationState) (drone : Stream) (kind : ℕ) → StationInRange s → StreamInRange drone → Is8 kind → StationStepInRange (begin_get s drone kind)
gets s drone kind h d k = operates s _ h (operation_in_range Gets drone kind [] d k no_items)

-- an upload that isn't refused has no more items than its kind has room for
last_reason : (a b : Option OpFault) → first_of a b ≡ None → b ≡ None
last_reason None b h = h
last_reason (Some fault) b h = absurd (cc)

fits : (kind : ℕ) (plan : List Item) → unfit kind plan ≡ None → length plan ≤ limit_of kind
fits kind plan h = not_less (limit_of kind) (length plan) (untrue (nat_lt (limit_of kind) (length plan)) h)
  where
    untrue : (b : Bool) → (if b then Some (NotFit (limit_of kind)) else None) ≡ None → b ≡ false
    untrue true h = absurd (cc)
    untrue false h = refl

limited : (kind : ℕ) → limit_of kind ≤ 1000
limited kind = by_test (λ n. n ≤ 1000) (kind == 0) 1000 _ (λ _. omega arith) (λ _. by_test (λ n. n ≤ 1000) (kind == 1) 200 50 (λ _. omega arith) (λ _. omega arith))

pub uploads : (s : StationState) (drone : Stream) (kind : ℕ) (plan : List Item) → StationInRange s → StreamInRange drone → Is8 kind → All ItemInRange plan → upload_refusal s kind plan ≡ None → StationStepInRange (begin_upload s drone kind plan)
uploads s drone kind plan h d k items r =
    let idle = last_reason (busy_with s.operation) (first_of (empty_plan plan) (first_of (spent s) (unfit kind plan))) r in
    let some = last_reason (empty_plan plan) (first_of (spent s) (unfit kind plan)) idle in
    let room : length plan ≤ limit_of kind = fits kind plan (last_reason (spent s) (unfit kind plan) some) in
    let bound : limit_of kind ≤ 1000 = limited kind in
    operates s _ h (operation_in_range Uploads drone kind plan d k (record { size = omega arith; items = items }))
