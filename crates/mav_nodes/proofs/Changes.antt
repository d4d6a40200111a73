-- A drone's step with a store that keeps what it changes, and with one that doesn't: the system stays, and a step without
-- a reply changes no plan.
use Rattle.std.proofs.Common.{◌≡◌, ◌≢◌, ℕ, Bool, true, false, if◌then◌else◌, not, ◌&&◌, nat_lt, length, List, ◌∷◌, [], ◌++◌, Option, Some, None, refl, sym, ◌∙◌, subst}
use Rattle.std.specs.Prelude.{◌==◌, ◌+◌, is_some, slice_get}
use Rattle.mav_names.specs.declared.names.Stream.{Stream}
use Rattle.plan_items.specs.declared.items.Item.{Item as PlanItem}
use Rattle.plan_items.specs.declared.faults.PlanFault.{PlanFault}
use Rattle.plan_items.specs.declared.messages.PlanMsg.{PlanMsg}
use Rattle.plan_items.specs.declared.messages.PlanMsg.TheVariants.{Count, Request, Item, Ack, List as Listing, Clear, Ping}
use Rattle.plan_items.specs.Kinds.{limit_of}
use Rattle.plan_items.specs.Validation.{item_fault, plan_fault}
use Rattle.plan_image.specs.Image.{IsImageOf}
use Rattle.plan_upload.specs.Addresses.{same_stream, same_name, everyone, is_for_drone}
use Rattle.plan_upload.specs.Drone.{DroneState, DroneStep, Upload, Download, rests, is_own, is_other, has_no_room, closed, undownloaded, count_comes, item_comes, item_fits, clear_comes, is_downloading, list_comes, give_item, request_comes, drone_step, DroneTick, upload_waits, idle_limit, drone_tick}
use Rattle.plan_upload.specs.Plans.{every_kind}
use Rattle.plan_upload.specs.declared.changes.Change.TheVariants.{Same}
use Rattle.plan_upload.specs.Changes.{change_by, change_of}
use Rattle.mav_nodes.specs.Images.{IsStored}

-- a step that is kept, and the same one that isn't
pub record Shapes (d : DroneState) (kept unkept : DroneStep) : Type 0 where
  pub sys : kept.drone.sys ≡ d.sys
  pub unkept_sys : unkept.drone.sys ≡ d.sys
  pub silent : kept.answer ≡ None → change_by kept.event ≡ Same
  pub unkept_silent : unkept.answer ≡ None → change_by kept.event ≡ Same

-- a step that has nothing to keep
plain : (d : DroneState) (x : DroneStep) → x.drone.sys ≡ d.sys → change_by x.event ≡ Same → Shapes d x x
plain d x sys quiet = record { sys = sys; unkept_sys = sys; silent = λ _. quiet; unkept_silent = λ _. quiet }

by_test : (d : DroneState) (b : Bool) (x y u v : DroneStep) → Shapes d x u → Shapes d y v → Shapes d (if b then x else y) (if b then u else v)
by_test d true x y u v f g = f
by_test d false x y u v f g = g

same_sys : (b : Bool) (x d : DroneState) → x.sys ≡ d.sys → (if b then x else d).sys ≡ d.sys
same_sys true x d e = e
same_sys false x d e = refl

closed-sys : (d : DroneState) (s : Stream) → (closed d s).sys ≡ d.sys
closed-sys d s = same_sys (is_own d.upload s) _ d refl

count_shapes : (d : DroneState) (s : Stream) (count kind : ℕ) → Shapes d (count_comes d s count kind) (count_comes d s count kind)
count_shapes d s count kind =
    by_test d (nat_lt 2 kind) _ _ _ _ (plain d _ (closed-sys d s) refl)
    (by_test d (is_other d.upload s) _ _ _ _ (plain d _ refl refl)
    (by_test d (count == 0) _ _ _ _ (plain d _ (closed-sys d s) refl)
    (by_test d (nat_lt (limit_of kind) count) _ _ _ _ (plain d _ (closed-sys d s) refl)
    (by_test d (has_no_room d s) _ _ _ _ (plain d _ refl refl) (plain d _ refl refl)))))

fits_shapes : (d : DroneState) (s : Stream) (u : Upload) (item : PlanItem) (fault : Option PlanFault) → Shapes d (item_fits true d s u item fault) (item_fits false d s u item fault)
fits_shapes d s u item (Some fault) = plain d _ (closed-sys d s) refl
fits_shapes d s u item None =
    by_test d (nat_lt (length u.items + 1) u.total) _ _ _ _ (plain d _ refl refl)
    (by_test d (is_some (plan_fault u.kind (u.items ++ item ∷ []))) _ _ _ _ (plain d _ (closed-sys d s) refl)
    (record { sys = refl; unkept_sys = closed-sys d s; silent = λ none. absurd (cc); unkept_silent = λ none. absurd (cc) }))

item_shapes : (d : DroneState) (s : Stream) (upload : Option Upload) (seq kind : ℕ) (item : PlanItem) → Shapes d (item_comes true d s upload seq kind item) (item_comes false d s upload seq kind item)
item_shapes d s None seq kind item = plain d _ refl refl
item_shapes d s (Some u) seq kind item =
    by_test d (not (same_stream u.stream s)) _ _ _ _ (plain d _ refl refl)
    (by_test d (not ((kind == u.kind) && (seq == length u.items))) _ _ _ _ (plain d _ refl refl) (fits_shapes d s u item (item_fault u.kind item)))

clear_shapes : (d : DroneState) (s : Stream) (kind : ℕ) → Shapes d (clear_comes true d s kind) (clear_comes false d s kind)
clear_shapes d s kind =
    by_test d (nat_lt 2 kind && not (kind == every_kind)) _ _ _ _ (plain d _ refl refl)
    (by_test d (is_other d.upload s) _ _ _ _ (plain d _ refl refl)
    (record { sys = closed-sys d s; unkept_sys = refl; silent = λ none. absurd (cc); unkept_silent = λ none. absurd (cc) }))

list_shapes : (d : DroneState) (s : Stream) (kind : ℕ) → Shapes d (list_comes d s kind) (list_comes d s kind)
list_shapes d s kind =
    by_test d (nat_lt 2 kind) _ _ _ _ (plain d _ refl refl)
    (by_test d (is_downloading d.download s) _ _ _ _ (plain d _ refl refl) (plain d _ refl refl))

given_shapes : (d : DroneState) (s : Stream) (t : Download) (seq kind : ℕ) (item : Option PlanItem) → Shapes d (give_item d s t seq kind item) (give_item d s t seq kind item)
given_shapes d s t seq kind None = plain d _ refl refl
given_shapes d s t seq kind (Some item) = plain d _ refl refl

request_shapes : (d : DroneState) (s : Stream) (download : Option Download) (seq kind : ℕ) → Shapes d (request_comes d s download seq kind) (request_comes d s download seq kind)
request_shapes d s None seq kind = plain d _ refl refl
request_shapes d s (Some t) seq kind =
    by_test d (same_stream t.stream s && (t.kind == kind)) _ _ _ _ (given_shapes d s t seq kind (slice_get t.items seq)) (plain d _ refl refl)

pub shapes : (d : DroneState) (s : Stream) (m : PlanMsg) → Shapes d (drone_step true d s m) (drone_step false d s m)
shapes d s (Ping to usec seq) = by_test d (same_name to everyone) _ (rests d) _ (rests d) (plain d _ refl refl) (plain d _ refl refl)
shapes d s (Count to count kind) = by_test d (is_for_drone d.sys to) _ (rests d) _ (rests d) (count_shapes d s count kind) (plain d _ refl refl)
shapes d s (Item to seq kind item) = by_test d (is_for_drone d.sys to) _ (rests d) _ (rests d) (item_shapes d s d.upload seq kind item) (plain d _ refl refl)
shapes d s (Ack to code kind) =
    by_test d (is_for_drone d.sys to) _ (rests d) _ (rests d) (by_test d (code == 15) _ _ _ _ (plain d _ (closed-sys (undownloaded d s) s) refl) (plain d _ refl refl)) (plain d _ refl refl)
shapes d s (Clear to kind) = by_test d (is_for_drone d.sys to) _ (rests d) _ (rests d) (clear_shapes d s kind) (plain d _ refl refl)
shapes d s (Listing to kind) = by_test d (is_for_drone d.sys to) _ (rests d) _ (rests d) (list_shapes d s kind) (plain d _ refl refl)
shapes d s (Request to seq kind) = by_test d (is_for_drone d.sys to) _ (rests d) _ (rests d) (request_shapes d s d.download seq kind) (plain d _ refl refl)

-- a tick leaves the plans and the system as they are
pub record Still (before after : DroneState) : Type 0 where
  pub sys : after.sys ≡ before.sys
  pub plans : after.plans ≡ before.plans

still_if : (b : Bool) (d x y : DroneState) → Still d x → Still d y → Still d (if b then x else y)
still_if true d x y f g = f
still_if false d x y f g = g

waits_still : (d e : DroneState) (upload : Option Upload) → Still d e → Still d (upload_waits e upload).drone
waits_still d e None h = h
waits_still d e (Some u) h = tick_if (nat_lt (u.idle + 1) idle_limit) _ _ (record { sys = h.sys; plans = h.plans }) (still_if (is_own e.upload u.stream) d _ e (record { sys = h.sys; plans = h.plans }) h)
  where
    tick_if : (b : Bool) (x y : DroneTick) → Still d x.drone → Still d y.drone → Still d (if b then x else y).drone
    tick_if true x y f g = f
    tick_if false x y f g = g

pub ticks_still : (d : DroneState) → Still d (drone_tick d).drone
ticks_still d = waits_still d _ d.upload (record { sys = refl; plans = refl })

-- ---- images

pub same_image : (d e : DroneState) (low : ℕ) (bytes : List ℕ) → e.sys ≡ d.sys → e.plans ≡ d.plans → IsStored d low bytes → IsStored e low bytes
same_image d e low bytes sys plans is =
    subst (λ n. IsImageOf n low e.plans bytes) (sym sys) (subst (λ p. IsImageOf d.sys low p bytes) (sym plans) is)

-- a drone has one image
pub one_image : (d : DroneState) (low : ℕ) (a b : List ℕ) → IsStored d low a → IsStored d low b → a ≡ b
one_image d low a b x y = x.encoded ∙ sym y.encoded

-- a step that changes the plans has a reply, whether or not it is kept
pub changes_answered : (d : DroneState) (s : Stream) (m : PlanMsg) → (change_of d s m ≡ Same → ⊥) → (kept : Bool) → (drone_step kept d s m).answer ≢ None
changes_answered d s m changes true = λ none. changes ((shapes d s m).silent none)
changes_answered d s m changes false = λ none. changes ((shapes d s m).unkept_silent none)
