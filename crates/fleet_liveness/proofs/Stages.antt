-- The messages of an uncontended upload, one by one: which the drone and the station are at, and what each makes of them.
use Rattle.std.proofs.Common.{◌≡◌, ◌∙◌, ℕ, ◌+◌, ◌*◌, ◌≤◌, Bool, true, false, not, ◌==◌, ◌&&◌, ◌||◌, nat_lt, is_some, if◌then◌else◌, List, [], ◌∷◌, ◌++◌, length, Option, Some, None, refl, sym, ap, subst, arith, length-append, append_assoc}
use Rattle.std.specs.Prelude.{slice_get, All}
use Rattle.std.proofs.lemmas.Bool.{cond-true}
use Rattle.mav_names.specs.declared.names.Name.{Name}
use Rattle.mav_names.specs.declared.names.Stream.{Stream}
use Rattle.plan_items.specs.declared.items.Item.{Item}
use Rattle.plan_items.specs.declared.kinds.PlanKind.{PlanKind}
use Rattle.plan_items.specs.declared.kinds.PlanKind.TheVariants.{Mission, Fence, Rally}
use Rattle.plan_items.specs.declared.messages.PlanMsg.{PlanMsg}
use Rattle.plan_items.specs.declared.messages.PlanMsg.TheVariants.{Count, Request, Item as Give, Ack, Ping}
use Rattle.plan_items.specs.Kinds.{number_of, kind_of}
use Rattle.plan_items.specs.Validation.{item_fault, IsValid}
use Rattle.plan_items.proofs.KindNumbers.{number_of-bound}
use Rattle.plan_items.proofs.PlanFaults.{plan_fault-IsValid}
use Rattle.mav_names.specs.Addresses.{same_stream, everyone, drone_name}
use Rattle.plan_upload.specs.Changes.{install_of, change_by}
use Rattle.plan_upload.specs.Plans.{Plans, with_plan}
use Rattle.plan_upload.specs.Drone.{DroneState, DroneStep, Upload, Installs as Installing, answers, ask, ack, opened, installed, is_other, has_no_room, with_result, result_of, cancel_code, undownloaded, cancel_comes, most_results, drone_step}
use Rattle.plan_upload.specs.Station.{StationState, StationStep, Operation, Phase, Told_installed, Pinging, Cancelling, Sending, sends, starts, ends, synchronised, station_step, untold, addressee}
use Rattle.plan_ranges.specs.Ranges.{ItemInRange}
use Rattle.mav_messages.specs.Plans.{message_of_plan, plan_of}
use Rattle.plan_upload.proofs.ResultLists.{result_of-with_result}
use Rattle.mav_nodes.specs.News.{NodeEvent, Installs}
use Rattle.mav_nodes.specs.Nodes.{change_events}
use Rattle.fleet_world.specs.WorldState.{stream_of}
use Rattle.fleet_liveness.proofs.Names.{same, not_is_false}
use Rattle.fleet_liveness.proofs.Lists.{four_are}
use Rattle.fleet_liveness.proofs.Messages as messages

-- the message that is on its way
pub data Stage (plan : List Item) : Type 0 where
  Pings : (boot number : ℕ) → Stage plan
  Replies : (boot number : ℕ) → Stage plan
  Cancels : Stage plan
  Settles : (code : ℕ) → ((code == 0) || ((code == 1) || (code == 15))) ≡ true → Stage plan
  Counts : Stage plan
  -- the first items are at the drone, the next one is asked for, and given
  Asks : (items : List Item) (x : Item) (rest : List Item) → plan ≡ items ++ x ∷ rest → Stage plan
  Gives : (items : List Item) (x : Item) (rest : List Item) → plan ≡ items ++ x ∷ rest → Stage plan
  Acks : Stage plan

-- what a cancel is answered by
is_answer : (r : Option Bool) → ((cancel_code r == 0) || ((cancel_code r == 1) || (cancel_code r == 15))) ≡ true
is_answer None = refl
is_answer (Some true) = refl
is_answer (Some false) = refl

-- the change of an installation
install_change : (by : Stream) (kind : PlanKind) (plans : Plans) (items : List Item) → change_events by (with_plan plans (number_of kind) items) (install_of (kind_of (number_of kind))) ≡ Installs kind items by ∷ []
install_change by Mission plans items = refl
install_change by Fence plans items = refl
install_change by Rally plans items = refl

one_longer : (items : List Item) (x : Item) → length items + 1 ≡ length (items ++ x ∷ [])
one_longer items x = let e = length-append items (x ∷ []) in omega arith

behind_front : (front : List Item) (x : Item) (rest : List Item) → slice_get (front ++ x ∷ rest) (length front) ≡ Some x
behind_front [] x rest = refl
behind_front (y ∷ front) x rest = behind_front front x rest

-- the last item's number is the last number
last_number : (plan items : List Item) (x : Item) (rest : List Item) → plan ≡ items ++ x ∷ rest → rest ≡ [] → (final : Bool) → (final || (length items + 1 == length plan)) ≡ true
last_number plan items x rest whole none true = refl
last_number plan items x rest whole none false =
    let size : length plan ≡ length items + length (x ∷ rest) = ap length whole ∙ length-append items (x ∷ rest) in
    let end : length (x ∷ rest) ≡ 1 = ap (λ (l : List Item). length (x ∷ l)) none in
    equal (length items + 1) (length plan) (omega arith)
  where
    equal : (a b : ℕ) → a ≡ b → (a == b) ≡ true
    equal a b e = grind arith

-- a message of the station
abbrev pub is_up : {plan : List Item} → Stage plan → Bool
is_up (Pings boot number) = true
is_up (Replies boot number) = false
is_up Cancels = true
is_up (Settles code known) = false
is_up Counts = true
is_up (Asks items x rest whole) = false
is_up (Gives items x rest whole) = true
is_up Acks = false

abbrev pub is_last : {plan : List Item} → Stage plan → Bool
is_last (Pings boot number) = false
is_last (Replies boot number) = false
is_last Cancels = false
is_last (Settles code known) = false
is_last Counts = false
is_last (Asks items x rest whole) = false
is_last (Gives items x rest whole) = false
is_last Acks = true

-- a message for all drones
abbrev pub is_ping : {plan : List Item} → Stage plan → Bool
is_ping (Pings boot number) = true
is_ping (Replies boot number) = false
is_ping Cancels = false
is_ping (Settles code known) = false
is_ping Counts = false
is_ping (Asks items x rest whole) = false
is_ping (Gives items x rest whole) = false
is_ping Acks = false

module _ (sys : ℕ) (me : Name) (kind : PlanKind) (plan : List Item) (valid : IsValid (number_of kind) plan) where
  abbrev number : ℕ
  number = number_of kind

  abbrev drone : Name
  drone = drone_name sys

  abbrev pub message_of : Stage plan → PlanMsg
  message_of (Pings boot n) = Ping everyone boot n
  message_of (Replies boot n) = Ping me boot n
  message_of Cancels = Ack drone 15 number
  message_of (Settles code known) = Ack me code number
  message_of Counts = Count drone (length plan) number
  message_of (Asks items x rest whole) = Request me (length items) number
  message_of (Gives items x rest whole) = Give drone (length items) number x
  message_of Acks = Ack me 0 number

  -- how many messages come after it
  abbrev pub costs : Stage plan → ℕ
  costs (Pings boot n) = 2 * length plan + 5
  costs (Replies boot n) = 2 * length plan + 4
  costs Cancels = 2 * length plan + 3
  costs (Settles code known) = 2 * length plan + 2
  costs Counts = 2 * length plan + 1
  costs (Asks items x rest whole) = 2 * length rest + 2
  costs (Gives items x rest whole) = 2 * length rest + 1
  costs Acks = 0

  -- the drone and the station, in the upload
  abbrev drone_with : DroneState → Option Upload → DroneState
  drone_with = messages.drone_with sys me

  abbrev gathering : List Item → Upload
  gathering = messages.gathering sys me number plan

  abbrev station_with : StationState → Phase → ℕ → Bool → Bool → Option ℕ → StationState
  station_with c phase idle seen final ping = messages.station_with sys me c (messages.uploading sys me number plan phase idle seen final ping)

  -- no other upload is open, and there is room for a result of the station
  pub record IsFree (d : DroneState) : Type 0 where
    pub base : DroneState
    pub upload : Option Upload
    pub is : d ≡ drone_with base upload
    pub free : is_other upload (stream_of me) ≡ false
    pub room : has_no_room base (stream_of me) ≡ false

  -- these items are gathered
  pub record Gathers (items : List Item) (d : DroneState) : Type 0 where
    pub base : DroneState
    pub is : d ≡ drone_with base (Some (gathering items))

  pub record Works (phase : Phase) (seen final : Bool) (ping : Option ℕ) (t : StationState) : Type 0 where
    pub base : StationState
    pub idle : ℕ
    pub is : t ≡ station_with base phase idle seen final ping

  abbrev pub DroneIs : Stage plan → DroneState → Type 0
  DroneIs (Pings boot n) d = IsFree d
  DroneIs (Replies boot n) d = IsFree d
  DroneIs Cancels d = IsFree d
  DroneIs (Settles code known) d = IsFree d
  DroneIs Counts d = IsFree d
  DroneIs (Asks items x rest whole) d = Gathers items d
  DroneIs (Gives items x rest whole) d = Gathers items d
  DroneIs Acks d = Unit {0}

  abbrev pub StationIs : Stage plan → StationState → Type 0
  StationIs (Pings boot n) t = (t.boot ≡ boot) × Works Pinging false false (Some n) t
  StationIs (Replies boot n) t = (t.boot ≡ boot) × Works Pinging false false (Some n) t
  StationIs Cancels t = (ping : Option ℕ) × Works Cancelling false false ping t
  StationIs (Settles code known) t = (ping : Option ℕ) × Works Cancelling false false ping t
  StationIs Counts t = (ping : Option ℕ) × Works Sending false false ping t
  StationIs (Asks items x rest whole) t = (ping : Option ℕ) × (seen : Bool) × (final : Bool) × Works Sending seen final ping t
  StationIs (Gives items x rest whole) t = (ping : Option ℕ) × (final : Bool) × (rest ≡ [] → final ≡ true) × Works Sending true final ping t
  StationIs Acks t = (ping : Option ℕ) × Works Sending true true ping t

  -- the plan is installed if the acknowledgement is the next message
  abbrev pub changes : Stage plan → List NodeEvent
  changes (Pings boot n) = []
  changes (Replies boot n) = []
  changes Cancels = []
  changes (Settles code known) = []
  changes Counts = []
  changes (Asks items x rest whole) = []
  changes (Gives items x rest whole) = []
  changes Acks = Installs kind plan (stream_of me) ∷ []

  -- the drone takes a message of the station
  pub record DroneGoes (p : Stage plan) (d : DroneState) : Type 0 where
    pub next : Stage plan
    pub step : DroneStep
    pub is : drone_step true d (stream_of me) (message_of p) ≡ step
    pub answer : step.answer ≡ Some (message_of next)
    pub down : is_up next ≡ false
    pub drone_is : DroneIs next step.drone
    pub station_is : (t : StationState) → StationIs p t → StationIs next t
    pub fewer : costs next + 1 ≤ costs p
    pub event : change_events (stream_of me) step.drone.plans (change_by step.event) ≡ changes next

  pub record StationGoes (p : Stage plan) (t : StationState) : Type 0 where
    pub next : Stage plan
    pub step : StationStep
    pub is : station_step t (stream_of drone) (message_of p) ≡ step
    pub answer : step.answer ≡ Some (message_of next)
    pub up : is_up next ≡ true
    pub not_ping : is_ping next ≡ false
    pub drone_is : (d : DroneState) → DroneIs p d → DroneIs next d
    pub station_is : StationIs next step.station
    pub fewer : costs next + 1 ≤ costs p

  -- what a cancel leaves of the drone: no other upload, and room for a result of the station
  record Cancelled (b : DroneState) (u : Option Upload) : Type 0 where
    after : DroneState
    code : ℕ
    is : cancel_comes (drone_with b u) (stream_of me) number ≡ answers (drone_with after None) (Ack me code number)
    known : ((code == 0) || ((code == 1) || (code == 15))) ≡ true
    room : has_no_room after (stream_of me) ≡ false

  cancels : (b : DroneState) (u : Option Upload) → is_other u (stream_of me) ≡ false → has_no_room b (stream_of me) ≡ false → Cancelled b u
  cancels b None free room = record {
    after = undownloaded (drone_with b None) (stream_of me);
    code = cancel_code (result_of b.results (stream_of me));
    is = refl;
    known = is_answer (result_of b.results (stream_of me));
    room = room;
  }
  cancels b (Some v) free room =
      let d = undownloaded (drone_with b (Some v)) (stream_of me) in
      let e : DroneState = record d { upload = None; results = with_result b.results (stream_of me) false } in
      let own : same_stream v.stream (stream_of me) ≡ true = not_is_false (same_stream v.stream (stream_of me)) free in
      let now : result_of (with_result b.results (stream_of me) false) (stream_of me) ≡ Some false = result_of-with_result b.results (stream_of me) false (same (stream_of me)) in
      record {
        after = e;
        code = cancel_code (result_of e.results (stream_of me));
        is = ap (λ z. answers z (ack (stream_of me) (cancel_code (result_of z.results (stream_of me))) number)) (cond-true (same_stream v.stream (stream_of me)) e d own);
        known = is_answer (result_of e.results (stream_of me));
        room = ap (λ z. not (is_some z) && not (nat_lt (length e.results) most_results)) now;
      }

  abbrev step_at : DroneState → Stage plan → DroneStep
  step_at d p = drone_step true d (stream_of me) (message_of p)

  -- the plan has a first item
  record First : Type 0 where
    item : Item
    rest : List Item
    whole : plan ≡ item ∷ rest

  first_of : (xs : List Item) → plan ≡ xs → First
  first_of [] e = let some = valid.not_empty in absurd (let z : length plan ≡ 0 = ap length e in omega arith)
  first_of (x ∷ rest) e = record { item = x; rest = rest; whole = e }

  gives_next : (items : List Item) (x : Item) (rest : List Item) (whole : plan ≡ items ++ x ∷ rest) (d : DroneState) → Gathers items d → item_fault number x ≡ None → DroneGoes (Gives items x rest whole) d
  gives_next items x [] whole d g sound =
      let size : length plan ≡ length items + 1 = ap length whole ∙ length-append items (x ∷ []) in
      let e = drone_with g.base (Some (gathering items)) in
      record {
        next = Acks;
        step = record { drone = installed e (stream_of me) number plan; answer = Some (Ack me 0 number); event = Installing (stream_of me) number plan };
        is = ap (λ z. step_at z (Gives items x [] whole)) g.is ∙ messages.gave_last sys me number plan g.base items (length items) x refl sound whole (omega arith) (plan_fault-IsValid number plan valid);
        answer = refl;
        down = refl;
        drone_is = tt;
        station_is = λ t s. (s.0, subst (λ f. Works Sending true f s.0 t) (s.2 refl) s.3);
        fewer = omega arith;
        event = install_change (stream_of me) kind g.base.plans plan;
      }
  gives_next items x (y ∷ rest) whole d g sound =
      let size : length plan ≡ length items + length (x ∷ (y ∷ rest)) = ap length whole ∙ length-append items (x ∷ (y ∷ rest)) in
      let more : plan ≡ (items ++ x ∷ []) ++ y ∷ rest = whole ∙ sym (append_assoc items (x ∷ []) (y ∷ rest)) in
      let next : Stage plan = Asks (items ++ x ∷ []) y rest more in
      let e = drone_with g.base (Some (gathering (items ++ x ∷ []))) in
      record {
        next = next;
        step = answers e (ask (stream_of me) number (length items + 1));
        is = ap (λ z. step_at z (Gives items x (y ∷ rest) whole)) g.is ∙ messages.gave sys me number plan g.base items (length items) x refl sound (omega arith);
        answer = ap (λ n. Some (ask (stream_of me) number n)) (one_longer items x);
        down = refl;
        drone_is = record { base = g.base; is = refl };
        station_is = λ t s. (s.0, true, s.1, s.3);
        fewer = omega arith;
        event = refl;
      }

  pub drone_goes : (p : Stage plan) (d : DroneState) → is_up p ≡ true → DroneIs p d → DroneGoes p d
  drone_goes (Pings boot n) d up f = record {
    next = Replies boot n;
    step = answers (drone_with f.base f.upload) (Ping me boot n);
    is = ap (λ z. step_at z (Pings boot n)) f.is ∙ messages.pinged sys me f.base f.upload boot n;
    answer = refl;
    down = refl;
    drone_is = record { base = f.base; upload = f.upload; is = refl; free = f.free; room = f.room };
    station_is = λ t s. s;
    fewer = omega arith;
    event = refl;
  }
  drone_goes (Replies boot n) d up f = absurd (cc)
  drone_goes Cancels d up f =
      let x = cancels f.base f.upload f.free f.room in
      record {
        next = Settles x.code x.known;
        step = answers (drone_with x.after None) (Ack me x.code number);
        is = ap (λ z. step_at z Cancels) f.is ∙ messages.cancelled sys me f.base f.upload number ∙ x.is;
        answer = refl;
        down = refl;
        drone_is = record { base = x.after; upload = None; is = refl; free = refl; room = x.room };
        station_is = λ t s. s;
        fewer = omega arith;
        event = refl;
      }
  drone_goes (Settles code known) d up f = absurd (cc)
  drone_goes Counts d up f =
      let x = first_of plan refl in
      let size : length plan ≡ length x.rest + 1 = ap length x.whole ∙ omega arith in
      let e = drone_with f.base f.upload in
      record {
        next = Asks [] x.item x.rest x.whole;
        step = answers (opened e (stream_of me) number (length plan)) (ask (stream_of me) number 0);
        is = ap (λ z. step_at z Counts) f.is ∙ messages.counted sys me number plan f.base f.upload (number_of-bound kind) valid.not_empty valid.within f.free f.room;
        answer = refl;
        down = refl;
        drone_is = record { base = opened e (stream_of me) number (length plan); is = refl };
        station_is = λ t s. (s.0, false, false, s.1);
        fewer = omega arith;
        event = refl;
      }
  drone_goes (Asks items x rest whole) d up f = absurd (cc)
  drone_goes (Gives items x rest whole) d up f =
      gives_next items x rest whole d f (messages.holds_at (λ y. item_fault number y ≡ None) items x rest (subst (All (λ y. item_fault number y ≡ None)) whole valid.items_sound))
  drone_goes Acks d up f = absurd (cc)

  abbrev answer_at : StationState → Stage plan → StationStep
  answer_at t p = station_step t (stream_of drone) (message_of p)

  boot_of : (t : StationState) (boot : ℕ) {phase : Phase} {seen final : Bool} {ping : Option ℕ} → t.boot ≡ boot → (w : Works phase seen final ping t) → w.base.boot ≡ boot
  boot_of t boot e w = sym (ap (λ (x : StationState). x.boot) w.is) ∙ e

  pub station_goes : (p : Stage plan) (t : StationState) → is_up p ≡ false → is_last p ≡ false → StationIs p t → StationGoes p t
  station_goes (Pings boot n) t down goes_on s = absurd (cc)
  station_goes (Replies boot n) t down goes_on s =
      let w = s.1 in
      let c = station_with w.base Pinging w.idle false false (Some n) in
      record {
        next = Cancels;
        step = sends c (messages.uploading sys me number plan Cancelling w.idle false false (Some n)) (Ack drone 15 number);
        is = ap (λ z. answer_at z (Replies boot n)) w.is ∙ ap (λ b. station_step c (stream_of drone) (Ping me b n)) (sym (boot_of t boot s.0 w)) ∙ messages.replied sys me number plan w.base w.idle n;
        answer = refl;
        up = refl;
        not_ping = refl;
        drone_is = λ d f. f;
        station_is = (Some n, record { base = w.base; idle = w.idle; is = refl });
        fewer = omega arith;
      }
  station_goes Cancels t down goes_on s = absurd (cc)
  station_goes (Settles code known) t down goes_on s =
      let w = s.1 in
      let c = station_with w.base Cancelling w.idle false false s.0 in
      let r = starts (synchronised c (stream_of drone)) (messages.uploading sys me number plan Cancelling w.idle false false s.0) in
      record {
        next = Counts;
        step = r;
        is = ap (λ z. answer_at z (Settles code known)) w.is ∙ messages.settled sys me number plan w.base w.idle code s.0 known;
        answer = refl;
        up = refl;
        not_ping = refl;
        drone_is = λ d f. f;
        station_is = (None, record { base = r.station; idle = 0; is = refl });
        fewer = omega arith;
      }
  station_goes Counts t down goes_on s = absurd (cc)
  station_goes (Asks items x rest whole) t down goes_on s =
      let w = s.3 in
      let there : slice_get plan (length items) ≡ Some x = ap (λ l. slice_get l (length items)) whole ∙ behind_front items x rest in
      let c = station_with w.base Sending w.idle s.1 s.2 s.0 in
      record {
        next = Gives items x rest whole;
        step = sends c (messages.uploading sys me number plan Sending 0 true (s.2 || (length items + 1 == length plan)) s.0) (Give drone (length items) number x);
        is = ap (λ z. answer_at z (Asks items x rest whole)) w.is ∙ messages.asked sys me number plan w.base w.idle (length items) s.1 s.2 s.0 x there;
        answer = refl;
        up = refl;
        not_ping = refl;
        drone_is = λ d f. f;
        station_is = (s.0, (s.2 || (length items + 1 == length plan)), (λ none. last_number plan items x rest whole none s.2), record { base = w.base; idle = 0; is = refl });
        fewer = omega arith;
      }
  station_goes (Gives items x rest whole) t down goes_on s = absurd (cc)
  station_goes Acks t down goes_on s = absurd (cc)

  -- the acknowledgement ends the operation
  pub record StationEnds (t : StationState) : Type 0 where
    pub step : StationStep
    pub is : station_step t (stream_of drone) (message_of Acks) ≡ step
    pub silent : step.answer ≡ None
    pub told : step.station.outcome ≡ Some Told_installed

  pub station_ends : (t : StationState) → StationIs Acks t → StationEnds t
  station_ends t s =
      let w = s.1 in
      record {
        step = ends (station_with w.base Sending w.idle true true s.0) (stream_of drone) Told_installed;
        is = ap (λ z. answer_at z Acks) w.is ∙ messages.told sys me number plan w.base w.idle s.0;
        silent = refl;
        told = refl;
      }

  -- an outcome that is handed out changes nothing here
  untold_works : (phase : Phase) (seen final : Bool) (ping : Option ℕ) (t : StationState) → Works phase seen final ping t → Works phase seen final ping (untold t)
  untold_works phase seen final ping t w = record { base = untold w.base; idle = w.idle; is = ap untold w.is }

  pub station_untold : (p : Stage plan) (t : StationState) → StationIs p t → StationIs p (untold t)
  station_untold (Pings boot n) t s = (s.0, untold_works _ _ _ _ t s.1)
  station_untold (Replies boot n) t s = (s.0, untold_works _ _ _ _ t s.1)
  station_untold Cancels t s = (s.0, untold_works _ _ _ _ t s.1)
  station_untold (Settles code known) t s = (s.0, untold_works _ _ _ _ t s.1)
  station_untold Counts t s = (s.0, untold_works _ _ _ _ t s.1)
  station_untold (Asks items x rest whole) t s = (s.0, s.1, s.2, untold_works _ _ _ _ t s.3)
  station_untold (Gives items x rest whole) t s = (s.0, s.1, s.2, untold_works _ _ _ _ t s.3)
  station_untold Acks t s = (s.0, untold_works _ _ _ _ t s.1)

  -- its operation is with the drone
  pub record IsBusy (t : StationState) : Type 0 where
    pub operation : Operation
    pub is : t.operation ≡ Some operation
    pub with_drone : operation.drone ≡ stream_of drone

  busy_works : (phase : Phase) (seen final : Bool) (ping : Option ℕ) (t : StationState) → Works phase seen final ping t → IsBusy t
  busy_works phase seen final ping t w = record {
    operation = messages.uploading sys me number plan phase w.idle seen final ping;
    is = ap (λ (x : StationState). x.operation) w.is;
    with_drone = refl;
  }

  pub is_busy : (p : Stage plan) (t : StationState) → StationIs p t → IsBusy t
  is_busy (Pings boot n) t s = busy_works _ _ _ _ t s.1
  is_busy (Replies boot n) t s = busy_works _ _ _ _ t s.1
  is_busy Cancels t s = busy_works _ _ _ _ t s.1
  is_busy (Settles code known) t s = busy_works _ _ _ _ t s.1
  is_busy Counts t s = busy_works _ _ _ _ t s.1
  is_busy (Asks items x rest whole) t s = busy_works _ _ _ _ t s.3
  is_busy (Gives items x rest whole) t s = busy_works _ _ _ _ t s.3
  is_busy Acks t s = busy_works _ _ _ _ t s.1

  -- who a message is for, if it isn't for all
  pub for_one : (p : Stage plan) → is_ping p ≡ false → addressee (message_of p) ≡ (if is_up p then drone else me)
  for_one (Pings boot n) e = absurd (cc)
  for_one (Replies boot n) e = refl
  for_one Cancels e = refl
  for_one (Settles code known) e = refl
  for_one Counts e = refl
  for_one (Asks items x rest whole) e = refl
  for_one (Gives items x rest whole) e = refl
  for_one Acks e = refl

  -- a message for all, from the station
  pub record IsPing (p : Stage plan) : Type 0 where
    pub boot : ℕ
    pub ping : ℕ
    pub is : message_of p ≡ Ping everyone boot ping
    pub up : is_up p ≡ true

  pub ping_of : (p : Stage plan) → is_ping p ≡ true → IsPing p
  ping_of (Pings boot n) e = record { boot = boot; ping = n; is = refl; up = refl }
  ping_of (Replies boot n) e = absurd (cc)
  ping_of Cancels e = absurd (cc)
  ping_of (Settles code known) e = absurd (cc)
  ping_of Counts e = absurd (cc)
  ping_of (Asks items x rest whole) e = absurd (cc)
  ping_of (Gives items x rest whole) e = absurd (cc)
  ping_of Acks e = absurd (cc)

  -- each message is read as it was written
  fits_item : (items : List Item) (x : Item) (rest : List Item) → plan ≡ items ++ x ∷ rest → All ItemInRange plan → ItemInRange x
  fits_item items x rest whole all = messages.holds_at ItemInRange items x rest (subst (All ItemInRange) whole all)

  pub is_carried : All ItemInRange plan → (p : Stage plan) → plan_of (message_of_plan (message_of p)) ≡ Some (message_of p)
  is_carried all (Pings boot n) = refl
  is_carried all (Replies boot n) = refl
  is_carried all Cancels = refl
  is_carried all (Settles code known) = refl
  is_carried all Counts = refl
  is_carried all (Asks items x rest whole) = refl
  is_carried all (Gives items x rest whole) = ap (λ p. Some (Give drone (length items) number (record x { p = p }))) (four_are x.p (fits_item items x rest whole all).four)
  is_carried all Acks = refl
