-- A drone's step at a message sends at most one message, to the message's sender.
use Rattle.std.proofs.Common.{◌≡◌, ◌∙◌, ℕ, ◌+◌, ◌≤◌, Bool, true, false, not, ◌==◌, ◌&&◌, nat_lt, slice_get, is_some, List, [], ◌∷◌, ◌++◌, length, Option, Some, None, IfSome, refl, ap, arith}
use Rattle.mav_names.specs.declared.names.Stream.{Stream}
use Rattle.plan_items.specs.declared.items.Item.{Item}
use Rattle.plan_items.specs.declared.faults.PlanFault.{PlanFault}
use Rattle.plan_items.specs.declared.messages.PlanMsg.{PlanMsg}
use Rattle.plan_items.specs.declared.messages.PlanMsg.TheVariants.{Count, Request, Item as Give, Ack, List as Listing, Clear, Ping}
use Rattle.plan_items.specs.Kinds.{limit_of}
use Rattle.plan_items.specs.Validation.{item_fault, plan_fault}
use Rattle.plan_upload.specs.Addresses.{same_stream, same_name, node_of, everyone, is_for_drone}
use Rattle.plan_upload.specs.Heard.{is_heard}
use Rattle.plan_upload.specs.Plans.{every_kind}
use Rattle.plan_upload.specs.Drone.{DroneState, DroneStep, Upload, Download, is_other, has_no_room, is_downloading, count_comes, last_item, item_fits, item_comes, ack_comes, clear_comes, list_comes, give_item, request_comes, heard, drone_step}
use Rattle.plan_upload.specs.Station.{addressee}
use Rattle.fleet_invariants.proofs.Tests.{by_test}
use Rattle.scenario_maker.proofs.Weights.{cost, single}
use Rattle.scenario_maker.proofs.StationReplies.{one_if}

module _ (keeps : Bool) (s : Stream) where
  -- its reply, if there is one, is for the sender
  abbrev Replies : DroneStep → Type 0
  Replies r = IfSome r.answer (λ a. addressee a ≡ node_of s)

  counts : (d : DroneState) (count kind : ℕ) → Replies (count_comes d s count kind)
  counts d count kind =
      by_test Replies (nat_lt 2 kind) _ _ (λ _. refl) (λ _.
      by_test Replies (is_other d.upload s) _ _ (λ _. refl) (λ _.
      by_test Replies (count == 0) _ _ (λ _. refl) (λ _.
      by_test Replies (nat_lt (limit_of kind) count) _ _ (λ _. refl) (λ _.
      by_test Replies (has_no_room d s) _ _ (λ _. refl) (λ _. refl)))))

  lasts : (d : DroneState) (kind : ℕ) (items : List Item) → Replies (last_item keeps d s kind items)
  lasts d kind items =
      by_test Replies (is_some (plan_fault kind items)) _ _ (λ _. refl) (λ _. by_test Replies keeps _ _ (λ _. refl) (λ _. refl))

  fits : (d : DroneState) (u : Upload) (item : Item) (fault : Option PlanFault) → Replies (item_fits keeps d s u item fault)
  fits d u item (Some fault) = refl
  fits d u item None =
      by_test Replies (nat_lt (length u.items + 1) u.total) _ _ (λ _. refl) (λ _. lasts d u.kind (u.items ++ item ∷ []))

  items : (d : DroneState) (upload : Option Upload) (seq kind : ℕ) (item : Item) → Replies (item_comes keeps d s upload seq kind item)
  items d None seq kind item = tt
  items d (Some u) seq kind item =
      by_test Replies (not (same_stream u.stream s)) _ _ (λ _. tt) (λ _.
      by_test Replies (not ((kind == u.kind) && (seq == length u.items))) _ _ (λ _. refl) (λ _.
      fits d u item (item_fault u.kind item)))

  acked : (d : DroneState) (code kind : ℕ) → Replies (ack_comes d s code kind)
  acked d code kind = by_test Replies (code == 15) _ _ (λ _. refl) (λ _. tt)

  clears : (d : DroneState) (kind : ℕ) → Replies (clear_comes keeps d s kind)
  clears d kind =
      by_test Replies (nat_lt 2 kind && not (kind == every_kind)) _ _ (λ _. refl) (λ _.
      by_test Replies (is_other d.upload s) _ _ (λ _. refl) (λ _.
      by_test Replies keeps _ _ (λ _. refl) (λ _. refl)))

  lists : (d : DroneState) (kind : ℕ) → Replies (list_comes d s kind)
  lists d kind =
      by_test Replies (nat_lt 2 kind) _ _ (λ _. refl) (λ _. by_test Replies (is_downloading d.download s) _ _ (λ _. refl) (λ _. refl))

  gives : (d : DroneState) (t : Download) (seq kind : ℕ) (item : Option Item) → Replies (give_item d s t seq kind item)
  gives d t seq kind None = refl
  gives d t seq kind (Some item) = refl

  requests : (d : DroneState) (t : Option Download) (seq kind : ℕ) → Replies (request_comes d s t seq kind)
  requests d None seq kind = refl
  requests d (Some t) seq kind =
      by_test Replies (same_stream t.stream s && (t.kind == kind)) _ _ (λ _. gives d t seq kind (slice_get t.items seq)) (λ _. refl)

  -- what a step that may be for another node counts for
  abbrev Within : Bool → DroneStep → Type 0
  Within is_for r = cost r.answer ≤ one_if is_for

  of_answer : (answer : Option PlanMsg) → same_name (node_of s) everyone ≡ false → IfSome answer (λ a. addressee a ≡ node_of s) → cost answer ≤ 1
  of_answer None e h = omega arith
  of_answer (Some a) e h = let one = single a (ap (λ n. same_name n everyone) h ∙ e) in omega (arith, one)

  if_heard : (d : DroneState) (is_for : Bool) (step : DroneStep) → same_name (node_of s) everyone ≡ false → Replies step → Within is_for (heard d is_for step)
  if_heard d true step e h = of_answer step.answer e h
  if_heard d false step e h = omega arith

  pub drone_fits : same_name (node_of s) everyone ≡ false → (d : DroneState) (m : PlanMsg) → Within (is_heard d.sys m) (drone_step keeps d s m)
  drone_fits e d (Ping to usec seq) = if_heard d (same_name to everyone) _ e refl
  drone_fits e d (Count to count kind) = if_heard d (is_for_drone d.sys to) _ e (counts d count kind)
  drone_fits e d (Give to seq kind item) = if_heard d (is_for_drone d.sys to) _ e (items d d.upload seq kind item)
  drone_fits e d (Ack to code kind) = if_heard d (is_for_drone d.sys to) _ e (acked d code kind)
  drone_fits e d (Clear to kind) = if_heard d (is_for_drone d.sys to) _ e (clears d kind)
  drone_fits e d (Listing to kind) = if_heard d (is_for_drone d.sys to) _ e (lists d kind)
  drone_fits e d (Request to seq kind) = if_heard d (is_for_drone d.sys to) _ e (requests d d.download seq kind)
