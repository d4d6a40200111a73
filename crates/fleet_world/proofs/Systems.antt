-- No step of a drone changes its system.
use Rattle.std.proofs.Common.{◌≡◌, ℕ, ◌+◌, Bool, true, false, if◌then◌else◌, ◌==◌, ◌&&◌, nat_lt, List, [], ◌∷◌, ◌++◌, length, Option, Some, None, refl}
use Rattle.std.specs.Prelude.{slice_get, not, is_some}
use Rattle.mav_names.specs.declared.names.Stream.{Stream}
use Rattle.plan_items.specs.declared.items.Item.{Item}
use Rattle.plan_items.specs.declared.faults.PlanFault.{PlanFault}
use Rattle.plan_items.specs.declared.messages.PlanMsg.{PlanMsg}
use Rattle.plan_items.specs.declared.messages.PlanMsg.TheVariants.{Count, Request, Item as Give, Ack, List as Listing, Clear, Ping}
use Rattle.plan_items.specs.Kinds.{limit_of}
use Rattle.plan_items.specs.Validation.{item_fault, plan_fault}
use Rattle.plan_upload.specs.Addresses.{same_stream, same_name, everyone, is_for_drone}
use Rattle.plan_upload.specs.Plans.{every_kind}
use Rattle.plan_upload.specs.Drone.{DroneState, DroneStep, Upload, Download, idle_limit, closed, is_own, is_other, has_no_room, undownloaded, is_downloading, count_comes, last_item, item_fits, item_comes, ack_comes, clear_comes, list_comes, give_item, request_comes, heard, rests, drone_step, DroneTick, upload_waits, drone_tick}

by_test : {A : Type 0} (P : A → Type 0) (test : Bool) (a b : A) → (test ≡ true → P a) → (test ≡ false → P b) → P (if test then a else b)
by_test P true a b h k = h refl
by_test P false a b h k = k refl

module _ (keeps : Bool) (s : Stream) (d : DroneState) where
  abbrev Own : DroneStep → Type 0
  Own r = r.drone.sys ≡ d.sys

  shut : (x : DroneState) → x.sys ≡ d.sys → (closed x s).sys ≡ d.sys
  shut x e = by_test (λ (y : DroneState). y.sys ≡ d.sys) (is_own x.upload s) _ x (λ _. e) (λ _. e)

  counts : (count kind : ℕ) → Own (count_comes d s count kind)
  counts count kind =
      by_test Own (nat_lt 2 kind) _ _ (λ _. shut d refl) (λ _.
      by_test Own (is_other d.upload s) _ _ (λ _. refl) (λ _.
      by_test Own (count == 0) _ _ (λ _. shut d refl) (λ _.
      by_test Own (nat_lt (limit_of kind) count) _ _ (λ _. shut d refl) (λ _.
      by_test Own (has_no_room d s) _ _ (λ _. refl) (λ _. refl)))))

  lasts : (kind : ℕ) (items : List Item) → Own (last_item keeps d s kind items)
  lasts kind items =
      by_test Own (is_some (plan_fault kind items)) _ _ (λ _. shut d refl) (λ _.
      by_test Own keeps _ _ (λ _. refl) (λ _. shut d refl))

  fits : (u : Upload) (item : Item) (fault : Option PlanFault) → Own (item_fits keeps d s u item fault)
  fits u item (Some fault) = shut d refl
  fits u item None =
      by_test Own (nat_lt (length u.items + 1) u.total) _ _ (λ _. refl) (λ _. lasts u.kind (u.items ++ item ∷ []))

  items : (upload : Option Upload) (seq kind : ℕ) (item : Item) → Own (item_comes keeps d s upload seq kind item)
  items None seq kind item = refl
  items (Some u) seq kind item =
      by_test Own (not (same_stream u.stream s)) _ _ (λ _. refl) (λ _.
      by_test Own (not ((kind == u.kind) && (seq == length u.items))) _ _ (λ _. refl) (λ _. fits u item (item_fault u.kind item)))

  acked : (code kind : ℕ) → Own (ack_comes d s code kind)
  acked code kind = by_test Own (code == 15) _ _ (λ _. shut (undownloaded d s) refl) (λ _. refl)

  clears : (kind : ℕ) → Own (clear_comes keeps d s kind)
  clears kind =
      by_test Own (nat_lt 2 kind && not (kind == every_kind)) _ _ (λ _. refl) (λ _.
      by_test Own (is_other d.upload s) _ _ (λ _. refl) (λ _.
      by_test Own keeps _ _ (λ _. shut d refl) (λ _. refl)))

  lists : (kind : ℕ) → Own (list_comes d s kind)
  lists kind =
      by_test Own (nat_lt 2 kind) _ _ (λ _. refl) (λ _. by_test Own (is_downloading d.download s) _ _ (λ _. refl) (λ _. refl))

  gives : (t : Download) (seq kind : ℕ) (item : Option Item) → Own (give_item d s t seq kind item)
  gives t seq kind None = refl
  gives t seq kind (Some item) = refl

  requests : (t : Option Download) (seq kind : ℕ) → Own (request_comes d s t seq kind)
  requests None seq kind = refl
  requests (Some t) seq kind =
      by_test Own (same_stream t.stream s && (t.kind == kind)) _ _ (λ _. gives t seq kind (slice_get t.items seq)) (λ _. refl)

  hears : (is_for : Bool) (step : DroneStep) → Own step → Own (heard d is_for step)
  hears is_for step h = by_test Own is_for step (rests d) (λ _. h) (λ _. refl)

  pub drone_stays : (m : PlanMsg) → Own (drone_step keeps d s m)
  drone_stays (Ping to usec seq) = hears (same_name to everyone) _ refl
  drone_stays (Count to count kind) = hears (is_for_drone d.sys to) _ (counts count kind)
  drone_stays (Give to seq kind item) = hears (is_for_drone d.sys to) _ (items d.upload seq kind item)
  drone_stays (Ack to code kind) = hears (is_for_drone d.sys to) _ (acked code kind)
  drone_stays (Clear to kind) = hears (is_for_drone d.sys to) _ (clears kind)
  drone_stays (Listing to kind) = hears (is_for_drone d.sys to) _ (lists kind)
  drone_stays (Request to seq kind) = hears (is_for_drone d.sys to) _ (requests d.download seq kind)

upload_stays : (d : DroneState) (u : Option Upload) → (upload_waits d u).drone.sys ≡ d.sys
upload_stays d None = refl
upload_stays d (Some u) =
    by_test (λ (r : DroneTick). r.drone.sys ≡ d.sys) (nat_lt (u.idle + 1) idle_limit) _ _ (λ _. refl) (λ _. shut true u.stream d d refl)

pub drone_tick_stays : (d : DroneState) → (drone_tick d).drone.sys ≡ d.sys
drone_tick_stays d = upload_stays _ d.upload
