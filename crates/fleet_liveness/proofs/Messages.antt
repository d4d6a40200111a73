-- What the drone and the station do at each message of an uncontended upload.
use Rattle.std.proofs.Common.{◌≡◌, ◌∙◌, ℕ, ◌+◌, ◌<◌, ◌≤◌, Bool, true, false, not, ◌==◌, ◌&&◌, ◌||◌, nat_lt, is_some, List, [], ◌∷◌, ◌++◌, length, length-append, subst, Option, Some, None, refl, sym, ap, arith}
use Rattle.std.specs.Prelude.{slice_get, All}
use Rattle.std.proofs.Math.Seq.{get_or-append_seam}
use Rattle.std.proofs.lemmas.Bool.{cond-true, cond-false, le-ltb, lt-ltb, ne_eqb, and_from}
use Rattle.mav_names.specs.declared.names.Name.{Name}
use Rattle.plan_items.specs.declared.items.Item.{Item}
use Rattle.plan_items.specs.declared.messages.PlanMsg.{PlanMsg}
use Rattle.plan_items.specs.declared.messages.PlanMsg.TheVariants.{Count, Request, Item as Give, Ack, Ping}
use Rattle.plan_items.specs.Kinds.{limit_of}
use Rattle.plan_items.specs.Validation.{item_fault, plan_fault}
use Rattle.mav_names.specs.Addresses.{same_stream, same_name, everyone, is_for_drone, drone_name}
use Rattle.plan_upload.specs.Drone.{DroneState, Installs, Upload, answers, ask, opened, installed, is_other, has_no_room, heard, count_comes, item_comes, item_fits, last_item, cancel_comes, drone_step}
use Rattle.plan_upload.specs.Station.{StationState, Operation, Phase, Pinging, Cancelling, Sending, Uploads, Told_installed, addressee, item_asked, sends, ends, starts, synchronised, phase_step, station_step}
use Rattle.fleet_world.specs.WorldState.{stream_of}
use Rattle.fleet_invariants.proofs.Tests.{number_same, name_same}
use Rattle.fleet_liveness.proofs.Names.{same}

-- what holds of all elements holds of the one after a prefix
pub holds_at : {A : Type 0} (P : A → Type 0) (front : List A) (x : A) (rest : List A) → All P (front ++ x ∷ rest) → P x
holds_at P front x rest h = subst P (get_or-append_seam front x rest x) (h (length front) x (omega (arith, length-append front (x ∷ rest))))

module _ (sys : ℕ) (me : Name) where
  -- the drone with an upload, whatever else is true of it
  abbrev pub drone_with : DroneState → Option Upload → DroneState
  drone_with b upload = record b { sys = sys; upload = upload }

  -- the station with an operation
  abbrev pub station_with : StationState → Operation → StationState
  station_with b o = record b { me = me; operation = Some o }

  for_drone : is_for_drone sys (drone_name sys) ≡ true
  for_drone = rw (number_same sys) refl

  -- the reply to a PING
  pub pinged : (b : DroneState) (u : Option Upload) (boot number : ℕ) → drone_step true (drone_with b u) (stream_of me) (Ping everyone boot number) ≡ answers (drone_with b u) (Ping me boot number)
  pinged b u boot number = refl

  -- the answer to a cancel
  pub cancelled : (b : DroneState) (u : Option Upload) (kind : ℕ) → drone_step true (drone_with b u) (stream_of me) (Ack (drone_name sys) 15 kind) ≡ cancel_comes (drone_with b u) (stream_of me) kind
  cancelled b u kind = ap (λ c. heard (drone_with b u) c (cancel_comes (drone_with b u) (stream_of me) kind)) for_drone

  -- an upload of the drone
  module _ (kind : ℕ) (plan : List Item) where
    abbrev pub gathering : List Item → Upload
    gathering items = record { stream = stream_of me; kind = kind; total = length plan; items = items; idle = 0 }

    -- an operation of the station
    abbrev pub uploading : Phase → ℕ → Bool → Bool → Option ℕ → Operation
    uploading phase idle asked final number = record {
      work = Uploads;
      drone = stream_of (drone_name sys);
      kind = kind;
      plan = plan;
      phase = phase;
      idle = idle;
      terminating = false;
      asked = asked;
      final_sent = final;
      code = None;
      number = number;
      total = 0;
      got = [];
    }

    -- MISSION_COUNT opens the upload, and the first item is asked for
    pub counted : (b : DroneState) (u : Option Upload) → kind ≤ 2 → 0 < length plan → length plan ≤ limit_of kind → is_other u (stream_of me) ≡ false → has_no_room b (stream_of me) ≡ false
        → drone_step true (drone_with b u) (stream_of me) (Count (drone_name sys) (length plan) kind) ≡ answers (opened (drone_with b u) (stream_of me) kind (length plan)) (ask (stream_of me) kind 0)
    counted b u known some fits free room =
        ap (λ c. heard (drone_with b u) c (count_comes (drone_with b u) (stream_of me) (length plan) kind)) for_drone
        ∙ cond-false (nat_lt 2 kind) _ _ (le-ltb 2 kind known)
        ∙ cond-false (is_other u (stream_of me)) _ _ free
        ∙ cond-false (length plan == 0) _ _ (ne_eqb (length plan) 0 (λ none. omega arith))
        ∙ cond-false (nat_lt (limit_of kind) (length plan)) _ _ (le-ltb _ _ fits)
        ∙ cond-false (has_no_room b (stream_of me)) _ _ room

    -- an item of the right number without a fault
    item_taken : (b : DroneState) (items : List Item) (index : ℕ) (x : Item) → index ≡ length items → item_fault kind x ≡ None
        → drone_step true (drone_with b (Some (gathering items))) (stream_of me) (Give (drone_name sys) index kind x) ≡ item_fits true (drone_with b (Some (gathering items))) (stream_of me) (gathering items) x None
    item_taken b items index x here sound =
        let d = drone_with b (Some (gathering items)) in
        ap (λ c. heard d c (item_comes true d (stream_of me) (Some (gathering items)) index kind x)) for_drone
        ∙ cond-false (not (same_stream (stream_of me) (stream_of me))) _ _ (ap not (same (stream_of me)))
        ∙ cond-false (not ((kind == kind) && (index == length items))) _ _ (ap not (and_from _ _ (number_same kind) (ap (λ n. n == length items) here ∙ number_same (length items))))
        ∙ ap (item_fits true d (stream_of me) (gathering items) x) sound

    -- one that isn't the last: the next one is asked for
    pub gave : (b : DroneState) (items : List Item) (index : ℕ) (x : Item) → index ≡ length items → item_fault kind x ≡ None → length items + 1 < length plan
        → drone_step true (drone_with b (Some (gathering items))) (stream_of me) (Give (drone_name sys) index kind x) ≡ answers (drone_with b (Some (gathering (items ++ x ∷ [])))) (ask (stream_of me) kind (length items + 1))
    gave b items index x here sound more = item_taken b items index x here sound ∙ cond-true (nat_lt (length items + 1) (length plan)) _ _ (lt-ltb _ _ more)

    -- the last: the plan is installed
    pub gave_last : (b : DroneState) (items : List Item) (index : ℕ) (x : Item) → index ≡ length items → item_fault kind x ≡ None → plan ≡ items ++ x ∷ [] → length plan ≤ length items + 1 → plan_fault kind plan ≡ None
        → drone_step true (drone_with b (Some (gathering items))) (stream_of me) (Give (drone_name sys) index kind x)
        ≡ record { drone = installed (drone_with b (Some (gathering items))) (stream_of me) kind plan; answer = Some (Ack me 0 kind); event = Installs (stream_of me) kind plan }
    gave_last b items index x here sound whole last fine =
        item_taken b items index x here sound ∙ cond-false (nat_lt (length items + 1) (length plan)) _ _ (le-ltb _ _ last)
        ∙ ap (last_item true (drone_with b (Some (gathering items))) (stream_of me) kind) (sym whole)
        ∙ cond-false (is_some (plan_fault kind plan)) _ _ (ap is_some fine)

    -- the station hears the drone
    heeds : (c : StationState) (o : Operation) (m : PlanMsg) → same_stream (stream_of (drone_name sys)) o.drone ≡ true → same_name (addressee m) me ≡ true
        → station_step (station_with c o) (stream_of (drone_name sys)) m ≡ phase_step (station_with c o) o o.phase m
    heeds c o m drone to = cond-true (same_stream (stream_of (drone_name sys)) o.drone && same_name (addressee m) me) _ _ (and_from _ _ drone to)

    -- at the reply to its PING it sends the cancel
    pub replied : (c : StationState) (idle number : ℕ)
        → station_step (station_with c (uploading Pinging idle false false (Some number))) (stream_of (drone_name sys)) (Ping me c.boot number)
        ≡ sends (station_with c (uploading Pinging idle false false (Some number))) (uploading Cancelling idle false false (Some number)) (Ack (drone_name sys) 15 kind)
    replied c idle number =
        heeds c (uploading Pinging idle false false (Some number)) (Ping me c.boot number) (same (stream_of (drone_name sys))) (name_same me)
        ∙ cond-true ((c.boot == c.boot) && (number == number)) _ _ (and_from _ _ (number_same c.boot) (number_same number))

    -- at the answer to the cancel it sends MISSION_COUNT
    pub settled : (c : StationState) (idle code : ℕ) (number : Option ℕ) → ((code == 0) || ((code == 1) || (code == 15))) ≡ true
        → station_step (station_with c (uploading Cancelling idle false false number)) (stream_of (drone_name sys)) (Ack me code kind)
        ≡ starts (synchronised (station_with c (uploading Cancelling idle false false number)) (stream_of (drone_name sys))) (uploading Cancelling idle false false number)
    settled c idle code number known =
        heeds c (uploading Cancelling idle false false number) (Ack me code kind) (same (stream_of (drone_name sys))) (name_same me)
        ∙ cond-true ((code == 0) || ((code == 1) || (code == 15))) _ _ known

    -- at a request it sends the item
    pub asked : (c : StationState) (idle index : ℕ) (seen final : Bool) (number : Option ℕ) (x : Item) → slice_get plan index ≡ Some x
        → station_step (station_with c (uploading Sending idle seen final number)) (stream_of (drone_name sys)) (Request me index kind)
        ≡ sends (station_with c (uploading Sending idle seen final number)) (uploading Sending 0 true (final || (index + 1 == length plan)) number) (Give (drone_name sys) index kind x)
    asked c idle index seen final number x there =
        heeds c (uploading Sending idle seen final number) (Request me index kind) (same (stream_of (drone_name sys))) (name_same me)
        ∙ cond-true (kind == kind) _ _ (number_same kind)
        ∙ ap (item_asked (station_with c (uploading Sending idle seen final number)) (uploading Sending idle seen final number) index) there

    -- at the acknowledgement of the last item the operation ends installed
    pub told : (c : StationState) (idle : ℕ) (number : Option ℕ)
        → station_step (station_with c (uploading Sending idle true true number)) (stream_of (drone_name sys)) (Ack me 0 kind)
        ≡ ends (station_with c (uploading Sending idle true true number)) (stream_of (drone_name sys)) Told_installed
    told c idle number = heeds c (uploading Sending idle true true number) (Ack me 0 kind) (same (stream_of (drone_name sys))) (name_same me)
