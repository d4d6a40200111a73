-- The drone, at a frame of another stream: what it leaves unchanged for the station.
use Rattle.std.proofs.Common.{◌≡◌, ◌≢◌, ℕ, ◌+◌, Bool, true, false, if◌then◌else◌, ◌==◌, ◌&&◌, nat_lt, List, [], ◌∷◌, ◌++◌, length, Option, Some, None, refl, sym, ap, subst, ◌∙◌}
use Rattle.std.specs.Prelude.{slice_get, not, is_some}
use Rattle.mav_names.specs.declared.names.Stream.{Stream}
use Rattle.plan_items.specs.declared.items.Item.{Item}
use Rattle.plan_items.specs.declared.messages.PlanMsg.{PlanMsg}
use Rattle.plan_items.specs.declared.messages.PlanMsg.TheVariants.{Count, Request, Item as Give, Ack, List as Listing, Clear, Ping}
use Rattle.plan_items.specs.declared.faults.PlanFault.{PlanFault}
use Rattle.plan_items.specs.Kinds.{limit_of}
use Rattle.plan_items.specs.Validation.{item_fault, plan_fault}
use Rattle.plan_upload.specs.Addresses.{same_stream, same_name, everyone, is_for_drone}
use Rattle.plan_upload.specs.Plans.{plan_at, every_kind, without_plan}
use Rattle.plan_upload.specs.Drone.{DroneState, DroneStep, Installs, Upload, Download, answers, ack, closed, opened, installed, is_own, is_other, has_no_room, result_of, download_without, undownloaded, is_downloading, copy_of, count_comes, last_item, item_fits, item_comes, clear_comes, list_comes, give_item, request_comes, drone_step}
use Rattle.plan_safety.specs.Frames.{Frame}
use Rattle.plan_safety.specs.Store.{Transaction}
use Rattle.plan_safety.specs.World.{drone_takes}
use Rattle.plan_safety.proofs.Keys.{by_test, apart, stream_eq, not_is_false}
use Rattle.plan_safety.proofs.Part.{Copies, Gathers}
use Rattle.plan_safety.proofs.DroneCases.{result_apart}

-- what another stream leaves of a drone, for the stream s
pub record Unmoved (s : Stream) (d e : DroneState) : Type 0 where
  pub has_open : is_own e.upload s ≡ is_own d.upload s
  pub result : result_of e.results s ≡ result_of d.results s
  pub gathers : (n : Stream) (sent : List Frame) (o : Transaction) → Gathers n s sent o d.upload → Gathers n s sent o e.upload
  pub copies : (k : ℕ) (x : List Item) → Copies s k x d.download → Copies s k x e.download

-- nothing moved
pub same_unmoved : (s : Stream) (d : DroneState) → Unmoved s d d
same_unmoved s d = record { has_open = refl; result = refl; gathers = λ n sent o h. h; copies = λ k x z. z }

-- an upload of one stream is not another's
not_own : (u : Upload) (s t : Stream) → u.stream ≡ t → t ≢ s → same_stream u.stream s ≡ false
not_own u s t e h = rw e (apart t s h)

-- a closed upload of another stream
pub closed_unmoved : (d : DroneState) (s t : Stream) (u : Option Upload) → t ≢ s → Unmoved s (record d { upload = u }) (closed (record d { upload = u }) t)
closed_unmoved d s t None h = same_unmoved s _
closed_unmoved d s t (Some u) h =
    by_test (λ e. Unmoved s (record d { upload = Some u }) e) (same_stream u.stream t) _ _
    (λ own. record { has_open = sym (not_own u s t (stream_eq _ _ own) h); result = result_apart d.results t s false h; gathers = λ n sent o g. tt; copies = λ k x z. z })
    (λ _. same_unmoved s _)

module _ (keeps : Bool) (d : DroneState) (s t : Stream) (h : t ≢ s) where
  -- an upload that is no other stream's is not this one's
  shut : (u : Option Upload) → is_other u t ≡ false → is_own u s ≡ false
  shut None e = refl
  shut (Some u) e = not_own u s t (stream_eq _ _ (not_is_false _ e)) h

  -- one is opened, closed, or the other stream's download is closed
  opened_unmoved : (kind count : ℕ) → is_other d.upload t ≡ false → Unmoved s d (opened d t kind count)
  opened_unmoved kind count e = record { has_open = apart t s h ∙ sym (shut d.upload e); result = result_apart d.results t s false h; gathers = λ n sent o x. λ own. absurd (h own); copies = λ k x z. z }

  closed_same : Unmoved s d (closed d t)
  closed_same = closed_unmoved d s t d.upload h

  -- the own download of s is not touched
  left_other : (k : ℕ) (x : List Item) (c : Option Download) → Copies s k x c → Copies s k x (download_without c t)
  left_other k x None z = tt
  left_other k x (Some c) z = by_test (Copies s k x) (same_stream c.stream t) None (Some c) (λ _. tt) (λ _. z)

  undownloaded_unmoved : (e : DroneState) → Unmoved s d e → Unmoved s d (undownloaded e t)
  undownloaded_unmoved e u = record { has_open = u.has_open; result = u.result; gathers = u.gathers; copies = λ k x z. left_other k x e.download (u.copies k x z) }

  -- a cancel of another stream
  cancel_unmoved : Unmoved s d (closed (undownloaded d t) t)
  cancel_unmoved = let u = closed_unmoved (undownloaded d t) s t d.upload h in record { has_open = u.has_open; result = u.result; gathers = u.gathers; copies = λ k x z. u.copies k x (left_other k x d.download z) }

  -- a copy for another stream
  copy_other : (k : ℕ) (x : List Item) (j : ℕ) (y : List Item) → Copies s k x (copy_of t j y)
  copy_other k x j [] = tt
  copy_other k x j (y ∷ ys) = λ e. absurd (h e)

  -- each message of another stream
  list_unmoved : (k : ℕ) → Unmoved s d (list_comes d t k).drone
  list_unmoved k =
      let P : DroneStep → Type 0 = λ r. Unmoved s d r.drone in
      by_test P (nat_lt 2 k) _ _ (λ _. same_unmoved s d) (λ _.
      by_test P (is_downloading d.download t) _ _ (λ _. same_unmoved s d) (λ _.
      record { has_open = refl; result = refl; gathers = λ n sent o z. z; copies = λ j x z. copy_other j x k (plan_at d.plans k) }))

  give_unmoved : (c : Download) (seq kind : ℕ) (x : Option Item) → d.download ≡ Some c → Unmoved s d (give_item d t c seq kind x).drone
  give_unmoved c seq kind None e = same_unmoved s d
  give_unmoved c seq kind (Some x) e = record { has_open = refl; result = refl; gathers = λ n sent o z. z; copies = λ k y z. subst (Copies s k y) e z }

  request_unmoved : (c : Option Download) (seq kind : ℕ) → d.download ≡ c → Unmoved s d (request_comes d t c seq kind).drone
  request_unmoved None seq kind e = same_unmoved s d
  request_unmoved (Some c) seq kind e =
      by_test (λ (r : DroneStep). Unmoved s d r.drone) (same_stream c.stream t && (c.kind == kind)) _ _
      (λ _. give_unmoved c seq kind (slice_get c.items seq) e)
      (λ _. same_unmoved s d)

  count_unmoved : (k n : ℕ) → Unmoved s d (count_comes d t n k).drone
  count_unmoved k n =
      let P : DroneStep → Type 0 = λ r. Unmoved s d r.drone in
      by_test P (nat_lt 2 k) _ _ (λ _. closed_same) (λ _.
      by_test P (is_other d.upload t) _ _ (λ _. same_unmoved s d) (λ other.
      by_test P (n == 0) _ _ (λ _. closed_same) (λ _.
      by_test P (nat_lt (limit_of k) n) _ _ (λ _. closed_same) (λ _.
      by_test P (has_no_room d t) _ _ (λ _. same_unmoved s d) (λ _. opened_unmoved k n other)))))

  cleared_unmoved : (k : ℕ) → Unmoved s d (record (closed d t) { plans = without_plan d.plans k })
  cleared_unmoved k = let u = closed_same in record { has_open = u.has_open; result = u.result; gathers = u.gathers; copies = u.copies }

  clear_unmoved : (k : ℕ) → Unmoved s d (clear_comes keeps d t k).drone
  clear_unmoved k =
      let P : DroneStep → Type 0 = λ r. Unmoved s d r.drone in
      by_test P (nat_lt 2 k && not (k == every_kind)) _ _ (λ _. same_unmoved s d) (λ _.
      by_test P (is_other d.upload t) _ _ (λ _. same_unmoved s d) (λ _.
      by_test P keeps _ _ (λ _. cleared_unmoved k) (λ _. same_unmoved s d)))

  last_unmoved : (u : Upload) (k : ℕ) (items : List Item) → d.upload ≡ Some u → u.stream ≡ t → Unmoved s d (last_item keeps d t k items).drone
  last_unmoved u k items e own =
      let P : DroneStep → Type 0 = λ r. Unmoved s d r.drone in
      let kept : DroneStep = record { drone = installed d t k items; answer = Some (ack t 0 k); event = Installs t k items } in
      let unkept : DroneStep = answers (closed d t) (ack t 1 k) in
      by_test P (is_some (plan_fault k items)) (answers (closed d t) (ack t 5 k)) (if keeps then kept else unkept) (λ _. closed_same) (λ _.
      by_test P keeps kept unkept
      (λ _. record { has_open = sym (ap (λ o. is_own o s) e ∙ not_own u s t own h); result = result_apart d.results t s true h; gathers = λ n sent o x. tt; copies = λ k x z. z })
      (λ _. closed_same))

  fit_unmoved : (u : Upload) (item : Item) (fault : Option PlanFault) → d.upload ≡ Some u → u.stream ≡ t → Unmoved s d (item_fits keeps d t u item fault).drone
  fit_unmoved u item (Some fault) e own = closed_same
  fit_unmoved u item None e own =
      by_test (λ (r : DroneStep). Unmoved s d r.drone) (nat_lt (length u.items + 1) u.total) _ _
      (λ _. record { has_open = sym (ap (λ o. is_own o s) e); result = refl; gathers = λ n sent o x. λ two. absurd (h (sym own ∙ two)); copies = λ k x z. z })
      (λ _. last_unmoved u u.kind (u.items ++ item ∷ []) e own)

  item_unmoved : (u : Option Upload) (seq kind : ℕ) (item : Item) → d.upload ≡ u → Unmoved s d (item_comes keeps d t u seq kind item).drone
  item_unmoved None seq kind item e = same_unmoved s d
  item_unmoved (Some u) seq kind item e =
      let P : DroneStep → Type 0 = λ r. Unmoved s d r.drone in
      by_test P (not (same_stream u.stream t)) _ _ (λ _. same_unmoved s d) (λ mine.
      by_test P (not ((kind == u.kind) && (seq == length u.items))) _ _ (λ _. same_unmoved s d)
      (λ _. fit_unmoved u item (item_fault u.kind item) e (stream_eq _ _ (not_is_false _ mine))))

  -- a step at another stream
  pub step_unmoved : (x : PlanMsg) → Unmoved s d (drone_step keeps d t x).drone
  step_unmoved (Ping to usec n) = by_test (λ (r : DroneStep). Unmoved s d r.drone) (same_name to everyone) _ _ (λ _. same_unmoved s d) (λ _. same_unmoved s d)
  step_unmoved (Count to n k) = by_test (λ (r : DroneStep). Unmoved s d r.drone) (is_for_drone d.sys to) _ _ (λ _. count_unmoved k n) (λ _. same_unmoved s d)
  step_unmoved (Give to seq k x) = by_test (λ (r : DroneStep). Unmoved s d r.drone) (is_for_drone d.sys to) _ _ (λ _. item_unmoved d.upload seq k x refl) (λ _. same_unmoved s d)
  step_unmoved (Request to seq k) = by_test (λ (r : DroneStep). Unmoved s d r.drone) (is_for_drone d.sys to) _ _ (λ _. request_unmoved d.download seq k refl) (λ _. same_unmoved s d)
  step_unmoved (Ack to c k) = by_test (λ (r : DroneStep). Unmoved s d r.drone) (is_for_drone d.sys to) _ _ (λ _. by_test (λ (r : DroneStep). Unmoved s d r.drone) (c == 15) _ _ (λ _. cancel_unmoved) (λ _. undownloaded_unmoved d (same_unmoved s d))) (λ _. same_unmoved s d)
  step_unmoved (Clear to k) = by_test (λ (r : DroneStep). Unmoved s d r.drone) (is_for_drone d.sys to) _ _ (λ _. clear_unmoved k) (λ _. same_unmoved s d)
  step_unmoved (Listing to k) = by_test (λ (r : DroneStep). Unmoved s d r.drone) (is_for_drone d.sys to) _ _ (λ _. list_unmoved k) (λ _. same_unmoved s d)

  pub frame_unmoved : (x : Option PlanMsg) → Unmoved s d (drone_takes keeps d t x).drone
  frame_unmoved None = same_unmoved s d
  frame_unmoved (Some x) = step_unmoved x
