-- A drone's steps stay in range.
use Rattle.std.proofs.Common.{◌≡◌, ℕ, ◌+◌, ◌<◌, Bool, true, false, ◌==◌, ◌&&◌, nat_lt, List, [], ◌∷◌, ◌++◌, length, Option, Some, None, IfSome, arith}
use Rattle.std.specs.Prelude.{slice_get, not, is_some}
use Rattle.std.proofs.lemmas.List.Elements.{All-nil, All-push}
use Rattle.mav_names.specs.declared.names.Stream.{Stream}
use Rattle.plan_items.specs.declared.items.Item.{Item}
use Rattle.plan_items.specs.declared.faults.PlanFault.{PlanFault}
use Rattle.plan_items.specs.declared.faults.PlanFault.TheVariants.{UnsupportedFrame, Unsupported, InvalidX, InvalidY, InvalidParam1, Invalid}
use Rattle.plan_items.specs.declared.messages.PlanMsg.{PlanMsg}
use Rattle.plan_items.specs.declared.messages.PlanMsg.TheVariants.{Count, Request, Item as Give, Ack, List as Listing, Clear, Ping}
use Rattle.plan_items.specs.Kinds.{limit_of}
use Rattle.plan_items.specs.Validation.{item_fault, plan_fault, code_of}
use Rattle.plan_upload.specs.Addresses.{same_stream, same_name, node_of, everyone, is_for_drone}
use Rattle.plan_upload.specs.Plans.{Plans, no_plans, plan_at, with_plan, every_kind, without_plan}
use Rattle.plan_upload.specs.Drone.{DroneState, DroneStep, Upload, Download, answers, rests, ack, ask, closed, opened, gathered, is_own, is_other, has_no_room, download_without, undownloaded, is_downloading, copy_of, cancel_code, result_of, count_comes, last_item, item_fits, item_comes, ack_comes, clear_comes, list_comes, give_item, request_comes, heard, drone_step, idle_limit, waited, upload_waits, drone_tick, fresh_drone, restored}
use Rattle.plan_ranges.proofs.Choices.{by_test, less, not_zero, item_at, one_more, no_items}
use Rattle.plan_ranges.specs.Ranges.{Is8, Is16, StreamInRange, ItemInRange, InRange, PlanInRange, PlansInRange, UploadInRange, DownloadInRange, DroneInRange, DroneStepInRange, DroneTickInRange}

-- a plan by its kind
pub plan_of_kind : (p : Plans) (kind : ℕ) → PlansInRange p → PlanInRange (plan_at p kind)
plan_of_kind p kind h =
    by_test PlanInRange (kind == 0) p.mission _ (λ _. h.mission) (λ _.
    by_test PlanInRange (kind == 1) p.fence p.rally (λ _. h.fence) (λ _. h.rally))

pub replaced : (p : Plans) (kind : ℕ) (items : List Item) → PlansInRange p → PlanInRange items → PlansInRange (with_plan p kind items)
replaced p kind items h new =
    by_test PlansInRange (kind == 0) (record p { mission = items }) _ (λ _. record { mission = new; fence = h.fence; rally = h.rally }) (λ _.
    by_test PlansInRange (kind == 1) (record p { fence = items }) (record p { rally = items })
    (λ _. record { mission = h.mission; fence = new; rally = h.rally })
    (λ _. record { mission = h.mission; fence = h.fence; rally = new }))

pub emptied : (p : Plans) (kind : ℕ) → PlansInRange p → PlansInRange (without_plan p kind)
emptied p kind h =
    by_test PlansInRange (kind == every_kind) _ (with_plan p kind []) (λ _. record { mission = no_items; fence = no_items; rally = no_items }) (λ _.
    replaced p kind [] h no_items)

small_code : (fault : PlanFault) → Is8 (code_of fault)
small_code UnsupportedFrame = omega arith
small_code Unsupported = omega arith
small_code InvalidX = omega arith
small_code InvalidY = omega arith
small_code InvalidParam1 = omega arith
small_code Invalid = omega arith

small_cancel : (result : Option Bool) → Is8 (cancel_code result)
small_cancel None = omega arith
small_cancel (Some true) = omega arith
small_cancel (Some false) = omega arith

module _ (keeps : Bool) (s : Stream) (from : StreamInRange s) where
  -- what a step leaves and says
  says : (d : DroneState) (m : PlanMsg) → DroneInRange d → InRange m → DroneStepInRange (answers d m)
  says d m h a = record { drone = h; answer = a }

  quiet : (d : DroneState) → DroneInRange d → DroneStepInRange (rests d)
  quiet d h = record { drone = h; answer = tt }

  shut : (d : DroneState) → DroneInRange d → DroneInRange (closed d s)
  shut d h =
      by_test DroneInRange (is_own d.upload s) _ d
      (λ _. record { sys = h.sys; plans = h.plans; upload = tt; download = h.download })
      (λ _. h)

  -- an acknowledgement with a small code
  acks : (d : DroneState) (code kind : ℕ) → DroneInRange d → Is8 code → Is8 kind → DroneStepInRange (answers d (ack s code kind))
  acks d code kind h c k = says d (ack s code kind) h (from, c, k)

  opens : (d : DroneState) (count kind : ℕ) → DroneInRange d → Is16 count → Is8 kind → 0 < count → DroneStepInRange (answers (opened d s kind count) (ask s kind 0))
  opens d count kind h n k some =
      says (opened d s kind count) (ask s kind 0)
      (record {
        sys = h.sys;
        plans = h.plans;
        upload = record { stream = from; kind = k; total = n; lacks = some; items = All-nil ItemInRange };
        download = h.download;
      })
      (from, omega arith, k)

  -- MISSION_COUNT
  counts : (d : DroneState) (count kind : ℕ) → DroneInRange d → Is16 count → Is8 kind → DroneStepInRange (count_comes d s count kind)
  counts d count kind h n k =
      by_test DroneStepInRange (nat_lt 2 kind) _ _ (λ _. acks _ 3 kind (shut d h) (omega arith) k) (λ _.
      by_test DroneStepInRange (is_other d.upload s) _ _ (λ _. acks d 14 kind h (omega arith) k) (λ _.
      by_test DroneStepInRange (count == 0) _ _ (λ _. acks _ 5 kind (shut d h) (omega arith) k) (λ some.
      by_test DroneStepInRange (nat_lt (limit_of kind) count) _ _ (λ _. acks _ 4 kind (shut d h) (omega arith) k) (λ _.
      by_test DroneStepInRange (has_no_room d s) _ _ (λ _. acks d 14 kind h (omega arith) k) (λ _.
      opens d count kind h n k (not_zero count some))))))

  -- the last item of an upload
  lasts : (d : DroneState) (kind : ℕ) (items : List Item) → DroneInRange d → Is8 kind → PlanInRange items → DroneStepInRange (last_item keeps d s kind items)
  lasts d kind items h k plan =
      by_test DroneStepInRange (is_some (plan_fault kind items)) _ _ (λ _. acks _ 5 kind (shut d h) (omega arith) k) (λ _.
      by_test DroneStepInRange keeps _ _
      (λ _. record {
        drone = record { sys = h.sys; plans = replaced d.plans kind items h.plans plan; upload = tt; download = h.download };
        answer = (from, omega arith, k);
      })
      (λ _. acks _ 1 kind (shut d h) (omega arith) k))

  -- an item that isn't the last
  gathers : (d : DroneState) (u : Upload) (item : Item) → DroneInRange d → UploadInRange u → ItemInRange item → length u.items + 1 < u.total → DroneStepInRange (answers (gathered d u item) (ask s u.kind (length u.items + 1)))
  gathers d u item h o i more =
      let long : length (u.items ++ item ∷ []) ≡ length u.items + 1 = one_more u.items item in
      let total : u.total < 65536 = o.total in
      says (gathered d u item) (ask s u.kind (length u.items + 1))
      (record {
        sys = h.sys;
        plans = h.plans;
        upload = record {
          stream = o.stream;
          kind = o.kind;
          total = o.total;
          lacks = omega arith;
          items = All-push ItemInRange u.items item o.items i;
        };
        download = h.download;
      })
      (from, omega arith, o.kind)

  -- an item of the upload's kind and number
  fits : (d : DroneState) (u : Upload) (item : Item) (fault : Option PlanFault) → DroneInRange d → UploadInRange u → ItemInRange item → DroneStepInRange (item_fits keeps d s u item fault)
  fits d u item (Some fault) h o i = acks _ (code_of fault) u.kind (shut d h) (small_code fault) o.kind
  fits d u item None h o i =
      by_test DroneStepInRange (nat_lt (length u.items + 1) u.total) _ _ (λ more. gathers d u item h o i (less _ _ more)) (λ _.
      let long : length (u.items ++ item ∷ []) ≡ length u.items + 1 = one_more u.items item in
      let total : u.total < 65536 = o.total in
      let lacks : length u.items < u.total = o.lacks in
      lasts d u.kind (u.items ++ item ∷ []) h o.kind (record {
        size = omega arith;
        items = All-push ItemInRange u.items item o.items i;
      }))

  -- MISSION_ITEM_INT
  items : (d : DroneState) (upload : Option Upload) (seq kind : ℕ) (item : Item) → DroneInRange d → IfSome upload UploadInRange → Is16 seq → Is8 kind → ItemInRange item → DroneStepInRange (item_comes keeps d s upload seq kind item)
  items d None seq kind item h o n k i = quiet d h
  items d (Some u) seq kind item h o n k i =
      let total : u.total < 65536 = o.total in
      let lacks : length u.items < u.total = o.lacks in
      by_test DroneStepInRange (not (same_stream u.stream s)) _ _ (λ _. quiet d h) (λ _.
      by_test DroneStepInRange (not ((kind == u.kind) && (seq == length u.items))) _ _
      (λ _. says d (ask s u.kind (length u.items)) h (from, omega arith, o.kind)) (λ _.
      fits d u item (item_fault u.kind item) h o i))

  -- MISSION_ACK
  left : (t : Option Download) → IfSome t DownloadInRange → IfSome (download_without t s) DownloadInRange
  left None h = tt
  left (Some t) h = by_test (λ (x : Option Download). IfSome x DownloadInRange) (same_stream t.stream s) None (Some t) (λ _. tt) (λ _. h)

  undone : (d : DroneState) → DroneInRange d → DroneInRange (undownloaded d s)
  undone d h = record { sys = h.sys; plans = h.plans; upload = h.upload; download = left d.download h.download }

  acked : (d : DroneState) (code kind : ℕ) → DroneInRange d → Is8 kind → DroneStepInRange (ack_comes d s code kind)
  acked d code kind h k =
      by_test DroneStepInRange (code == 15) _ _
      (λ _. acks _ _ kind (shut _ (undone d h)) (small_cancel (result_of (closed (undownloaded d s) s).results s)) k)
      (λ _. quiet _ (undone d h))

  -- MISSION_CLEAR_ALL
  clears : (d : DroneState) (kind : ℕ) → DroneInRange d → Is8 kind → DroneStepInRange (clear_comes keeps d s kind)
  clears d kind h k =
      let after : DroneInRange (closed d s) = shut d h in
      by_test DroneStepInRange (nat_lt 2 kind && not (kind == every_kind)) _ _ (λ _. acks d 3 kind h (omega arith) k) (λ _.
      by_test DroneStepInRange (is_other d.upload s) _ _ (λ _. acks d 14 kind h (omega arith) k) (λ _.
      by_test DroneStepInRange keeps _ _
      (λ _. record {
        drone = record { sys = after.sys; plans = emptied d.plans kind h.plans; upload = after.upload; download = after.download };
        answer = (from, omega arith, k);
      })
      (λ _. acks d 14 kind h (omega arith) k)))

  -- MISSION_REQUEST_LIST
  copied : (kind : ℕ) (plan : List Item) → PlanInRange plan → IfSome (copy_of s kind plan) DownloadInRange
  copied kind [] h = tt
  copied kind (item ∷ plan) h = h.items

  lists : (d : DroneState) (kind : ℕ) → DroneInRange d → Is8 kind → DroneStepInRange (list_comes d s kind)
  lists d kind h k =
      let plan : PlanInRange (plan_at d.plans kind) = plan_of_kind d.plans kind h.plans in
      by_test DroneStepInRange (nat_lt 2 kind) _ _ (λ _. acks d 3 kind h (omega arith) k) (λ _.
      by_test DroneStepInRange (is_downloading d.download s) _ _ (λ _. acks d 14 kind h (omega arith) k) (λ _.
      record {
        drone = record { sys = h.sys; plans = h.plans; upload = h.upload; download = copied kind (plan_at d.plans kind) plan };
        answer = (from, plan.size, k);
      }))

  -- MISSION_REQUEST_INT
  gives : (d : DroneState) (t : Download) (seq kind : ℕ) (item : Option Item) → DroneInRange d → DownloadInRange t → Is16 seq → Is8 kind → IfSome item ItemInRange → DroneStepInRange (give_item d s t seq kind item)
  gives d t seq kind None h o n k i = acks d 13 kind h (omega arith) k
  gives d t seq kind (Some item) h o n k i =
      says _ (Give (node_of s) seq kind item)
      (record { sys = h.sys; plans = h.plans; upload = h.upload; download = o })
      (from, n, k, i)

  requests : (d : DroneState) (t : Option Download) (seq kind : ℕ) → DroneInRange d → IfSome t DownloadInRange → Is16 seq → Is8 kind → DroneStepInRange (request_comes d s t seq kind)
  requests d None seq kind h o n k = acks d 13 kind h (omega arith) k
  requests d (Some t) seq kind h o n k =
      by_test DroneStepInRange (same_stream t.stream s && (t.kind == kind)) _ _
      (λ _. gives d t seq kind (slice_get t.items seq) h o n k (item_at t.items seq o))
      (λ _. acks d 13 kind h (omega arith) k)

  -- a message that may be for another node
  hears : (d : DroneState) (is_for : Bool) (step : DroneStep) → DroneInRange d → DroneStepInRange step → DroneStepInRange (heard d is_for step)
  hears d is_for step h r = by_test DroneStepInRange is_for step (rests d) (λ _. r) (λ _. quiet d h)

  -- each plan message
  pub steps : (d : DroneState) (m : PlanMsg) → DroneInRange d → InRange m → DroneStepInRange (drone_step keeps d s m)
  steps d (Ping to usec seq) h a = hears d (same_name to everyone) _ h (says d (Ping (node_of s) usec seq) h (from, a.1, a.2))
  steps d (Count to count kind) h a = hears d (is_for_drone d.sys to) _ h (counts d count kind h a.1 a.2)
  steps d (Give to seq kind item) h a = hears d (is_for_drone d.sys to) _ h (items d d.upload seq kind item h h.upload a.1 a.2 a.3)
  steps d (Ack to code kind) h a = hears d (is_for_drone d.sys to) _ h (acked d code kind h a.2)
  steps d (Clear to kind) h a = hears d (is_for_drone d.sys to) _ h (clears d kind h a.1)
  steps d (Listing to kind) h a = hears d (is_for_drone d.sys to) _ h (lists d kind h a.1)
  steps d (Request to seq kind) h a = hears d (is_for_drone d.sys to) _ h (requests d d.download seq kind h h.download a.1 a.2)

-- ticks
waits : (t : Option Download) → IfSome t DownloadInRange → IfSome (waited t) DownloadInRange
waits None h = tt
waits (Some t) h =
    by_test (λ (x : Option Download). IfSome x DownloadInRange) (nat_lt (t.idle + 1) idle_limit) (Some (record t { idle = t.idle + 1 })) None (λ _. h) (λ _. tt)

upload_ticks : (d : DroneState) (upload : Option Upload) → DroneInRange d → IfSome upload UploadInRange → DroneTickInRange (upload_waits d upload)
upload_ticks d None h o = record { drone = h; answer = tt }
upload_ticks d (Some u) h o =
    let total : u.total < 65536 = o.total in
    let lacks : length u.items < u.total = o.lacks in
    by_test DroneTickInRange (nat_lt (u.idle + 1) idle_limit) _ _
    (λ _. record {
      drone = record {
        sys = h.sys;
        plans = h.plans;
        upload = record { stream = o.stream; kind = o.kind; total = o.total; lacks = o.lacks; items = o.items };
        download = h.download;
      };
      answer = (o.stream, (o.stream, omega arith, o.kind));
    })
    (λ _. record { drone = shut true u.stream o.stream d h; answer = (o.stream, (o.stream, omega arith, o.kind)) })

-- each tick
pub ticks : (d : DroneState) → DroneInRange d → DroneTickInRange (drone_tick d)
ticks d h =
    upload_ticks (record d { download = waited d.download }) d.upload
    (record { sys = h.sys; plans = h.plans; upload = h.upload; download = waits d.download h.download })
    h.upload

-- at its start, and when it starts again
pub fresh : (sys : ℕ) → Is8 sys → DroneInRange (fresh_drone sys no_plans)
fresh sys h =
    record { sys = h; plans = record { mission = no_items; fence = no_items; rally = no_items }; upload = tt; download = tt }

pub again : (d : DroneState) → DroneInRange d → DroneInRange (restored d)
again d h = record { sys = h.sys; plans = h.plans; upload = tt; download = tt }
