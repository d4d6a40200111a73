-- What a station sends: its timestamps rise, and it gives the command that is open again.
use Rattle.std.proofs.Common.{◌≡◌, ℕ, ◌+◌, ◌<◌, ◌≤◌, Bool, true, false, if◌then◌else◌, ◌==◌, List, [], ◌∷◌, ◌++◌, length, Option, Some, None, IfSome, refl, sym, ap, subst, append_assoc, arith, ◌∙◌}
use Rattle.std.specs.Prelude.{slice_index}
use Rattle.std.proofs.lemmas.List.{append-nil}
use Rattle.mav_names.specs.declared.names.Name.{Name}
use Rattle.mav_names.specs.declared.names.Stream.{Stream}
use Rattle.mav_names.specs.Addresses.{same_name, node_of}
use Rattle.plan_items.specs.declared.messages.PlanMsg.{PlanMsg}
use Rattle.plan_items.specs.declared.messages.PlanMsg.TheVariants as plan
use Rattle.mav_frame.specs.Packet.{Packet}
use Rattle.mav_messages.specs.declared.commands.CommandLong.{CommandLong}
use Rattle.mav_messages.specs.declared.messages.Message.{Message}
use Rattle.mav_messages.specs.declared.messages.Message.TheVariants.{ParamRequestRead as Requests, ParamRequestList as Lists, ParamSet as Sets, ParamValue as Tells}
use Rattle.mav_messages.specs.Messages.{definition_of}
use Rattle.mav_messages.specs.Plans.{message_of_plan}
use Rattle.mav_sign.specs.History.{Entry, sent, previous_in, next_in}
use Rattle.command_proto.specs.declared.commands.Command.{Command}
use Rattle.command_proto.specs.declared.commands.Issue.{Issue}
use Rattle.command_proto.specs.Executor as executor
use Rattle.command_proto.specs.Commander.{command_message}
use Rattle.command_proto.specs.Laws.{IssueInRange}
use Rattle.command_proto.proofs.Ranges.{sendable_command}
use Rattle.mav_nodes.specs.Payloads.{service_in}
use Rattle.mav_nodes.specs.Links.{Link}
use Rattle.mav_nodes.proofs.Bounds.{payload_small}
use Rattle.mav_nodes.proofs.Sendings.{service_reads_back}
use Rattle.fleet_invariants.proofs.Tests.{name_same, name_eq}
use Rattle.fleet_invariants.proofs.Histories.{sending_is, next_later}
use Rattle.fleet_invariants.proofs.Params.{IsOfParams}
use Rattle.fleet_command_laws.specs.Lines.{command_in, commanded, Order, order_in, begins_with, orders_begun}
use Rattle.fleet_command_laws.proofs.Lists.{stamp_of, stamp_next, last_stamp, Rising, rising_push, last_push, command_next, last_command, Repeats, Runs, runs_push, command_push}
use Rattle.fleet_command_laws.proofs.Outcomes.{frame_at, link_at, IsSteady}

-- all frames are of one node
abbrev pub AllBy : Name → List Packet → Type 0
AllBy name [] = Unit {0}
AllBy name (p ∷ ps) = (p.from ≡ name) × AllBy name ps

pub all_by_push : (name : Name) (ps : List Packet) (p : Packet) → AllBy name ps → p.from ≡ name → AllBy name (ps ++ p ∷ [])
all_by_push name [] p h is = (is, tt)
all_by_push name (q ∷ qs) p h is = (h.0, all_by_push name qs p h.1 is)

pub begun_push : (name : Name) (ps : List Packet) (p : Packet) → orders_begun name (ps ++ p ∷ []) ≡ orders_begun name ps ++ begins_with (commanded name p)
begun_push name [] p = append-nil (begins_with (commanded name p))
begun_push name (q ∷ qs) p = ap (λ os. begins_with (commanded name q) ++ os) (begun_push name qs p) ∙ sym (append_assoc (begins_with (commanded name q)) (orders_begun name qs) (begins_with (commanded name p)))

pub begun_more : (name : Name) (ps qs : List Packet) → orders_begun name (ps ++ qs) ≡ orders_begun name ps ++ orders_begun name qs
begun_more name [] qs = refl
begun_more name (p ∷ ps) qs = ap (λ os. begins_with (commanded name p) ++ os) (begun_more name ps qs) ∙ sym (append_assoc (begins_with (commanded name p)) (orders_begun name ps) (orders_begun name qs))

-- the order of an issue, and that of the line which its frame begins, if it begins one
abbrev pub order_given : Issue → Order
order_given i = record { target = node_of i.drone; command = i.command }

abbrev pub begun_by : Issue → List Order
begun_by i = if i.confirmation == 0 then order_given i ∷ [] else []

-- what a node of this name has sent, with the history of its link and the command that is open
pub record Voice (frames : List Packet) (name : Name) (history : List Entry) (issue : Option Issue) : Type 0 where
  pub rising : Rising name 0 frames
  pub last : last_stamp name 0 frames ≤ previous_in history
  pub runs : Runs name None frames
  pub given : IfSome issue (λ (i : Issue). last_command name None frames ≡ Some (order_given i))

abbrev Latest : Name → List Packet → Option Issue → Type 0
Latest name frames issue = IfSome issue (λ (i : Issue). last_command name None frames ≡ Some (order_given i))

latest_same : (name : Name) (frames others : List Packet) (issue : Option Issue) → last_command name None others ≡ last_command name None frames → Latest name frames issue → Latest name others issue
latest_same name frames others None same h = tt
latest_same name frames others (Some i) same h = same ∙ h

-- ---- a frame of the node itself

own_next : (name : Name) (low : ℕ) (p : Packet) → same_name p.from name ≡ true → stamp_next name low p ≡ stamp_of p
own_next name low p by = ap (λ (t : Bool). if t then stamp_of p else low) by

pub voice_own : (frames : List Packet) (name : Name) (history : List Entry) (issue new : Option Issue) (p : Packet) (stamp : ℕ) → Voice frames name history issue
    → same_name p.from name ≡ true → stamp_of p ≡ stamp → previous_in history < stamp → Repeats name (last_command name None frames) (commanded name p)
    → IfSome new (λ (i : Issue). command_next name (last_command name None frames) (commanded name p) ≡ Some (order_given i)) → Voice (frames ++ p ∷ []) name (history ++ sent stamp ∷ []) new
voice_own frames name history issue new p stamp v by is later again given = record {
  rising = rising_push name 0 frames p v.rising (λ _. let last = v.last in omega arith);
  last = (let a = last_push name 0 frames p in let b = own_next name (last_stamp name 0 frames) p by in let c = sending_is history stamp in omega arith);
  runs = runs_push name None frames p v.runs again;
  given = each new given;
}
  where
    each : (new : Option Issue) → IfSome new (λ (i : Issue). command_next name (last_command name None frames) (commanded name p) ≡ Some (order_given i)) → Latest name (frames ++ p ∷ []) new
    each None h = tt
    each (Some i) h = command_push name None frames p ∙ h

-- ---- one of another node

other_next : (name : Name) (low : ℕ) (p : Packet) → same_name p.from name ≡ false → stamp_next name low p ≡ low
other_next name low p apart = ap (λ (t : Bool). if t then stamp_of p else low) apart

other_command : (name : Name) (p : Packet) → same_name p.from name ≡ false → commanded name p ≡ None
other_command name p apart = ap (λ (t : Bool). if t then command_in (service_in p.id p.payload) else None) apart

differ : (b : Bool) → b ≡ false → b ≡ true → ⊥
differ true e f = absurd (cc)
differ false e f = absurd (cc)

voice_other : (frames : List Packet) (name : Name) (history : List Entry) (issue : Option Issue) (p : Packet) → same_name p.from name ≡ false → Voice frames name history issue → Voice (frames ++ p ∷ []) name history issue
voice_other frames name history issue p apart v =
    let none = other_command name p apart in
    record {
      rising = rising_push name 0 frames p v.rising (λ by. absurd (differ (same_name p.from name) apart by));
      last = (let a = last_push name 0 frames p in let b = other_next name (last_stamp name 0 frames) p apart in let last = v.last in omega arith);
      runs = runs_push name None frames p v.runs (subst (Repeats name (last_command name None frames)) (sym none) tt);
      given = latest_same name frames (frames ++ p ∷ []) issue (command_push name None frames p ∙ ap (command_next name (last_command name None frames)) none) v.given;
    }

other_name : (a b c : Name) → a ≡ b → (b ≡ c → ⊥) → same_name a c ≡ false
other_name a b c is apart =
    elim (same_name a c) as (λ t. same_name a c ≡ t → t ≡ false) [ true ↦ λ e. absurd (apart (sym is ∙ name_eq a c e)) | false ↦ λ _. refl ] refl

-- no line of another node begins
pub none_begun : (ps : List Packet) (name other : Name) → AllBy other ps → (other ≡ name → ⊥) → orders_begun name ps ≡ []
none_begun [] name other by apart = refl
none_begun (p ∷ ps) name other by apart =
    ap (λ o. begins_with o ++ orders_begun name ps) (other_command name p (other_name p.from other name by.0 apart)) ∙ none_begun ps name other by.1 apart

pub voice_others : (ps frames : List Packet) (name other : Name) (history : List Entry) (issue : Option Issue) → AllBy other ps → (other ≡ name → ⊥) → Voice frames name history issue → Voice (frames ++ ps) name history issue
voice_others [] frames name other history issue by apart v = subst (λ x. Voice x name history issue) (sym (append-nil frames)) v
voice_others (p ∷ ps) frames name other history issue by apart v =
    subst (λ x. Voice x name history issue) (append_assoc frames (p ∷ []) ps)
    (voice_others ps (frames ++ p ∷ []) name other history issue by.1 apart (voice_other frames name history issue p (other_name p.from other name by.0 apart) v))

-- ---- a link

-- of a station's link, after frames that it has sent since a call began, with which lines of these orders began
pub record Speaks (frames : List Packet) (me : Stream) (orders : List Order) (issue : Option Issue) (link : Link) (ps : List Packet) : Type 0 where
  pub me_is : link.me ≡ me
  pub begun : orders_begun (node_of me) ps ≡ orders
  pub voice : Voice (frames ++ ps) (node_of me) link.history issue
  pub own : AllBy (node_of me) ps

-- a message that is no command
abbrev pub IsPlain : Message → Type 0
IsPlain m = (payload : List ℕ) → command_in (service_in (definition_of m).id payload) ≡ None

pub plan_plain : (m : PlanMsg) → IsPlain (message_of_plan m)
plan_plain (plan.Count to count kind) payload = refl
plan_plain (plan.Request to seq kind) payload = refl
plan_plain (plan.Item to seq kind item) payload = refl
plan_plain (plan.Ack to code kind) payload = refl
plan_plain (plan.List to kind) payload = refl
plan_plain (plan.Clear to kind) payload = refl
plan_plain (plan.Ping to usec seq) payload = refl

pub params_plain : (m : Message) → IsOfParams m → IsPlain m
params_plain (Requests m) h payload = refl
params_plain (Lists m) h payload = refl
params_plain (Sets m) h payload = refl
params_plain (Tells m) h payload = refl
params_plain _ h payload = absurd h

module _ (frames : List Packet) (me : Stream) (clock : ℕ) where
  from_is : (m : Message) (link : Link) → link.me ≡ me → (frame_at clock m link).from ≡ node_of me
  from_is m link is = ap node_of is

  by_is : (m : Message) (link : Link) → link.me ≡ me → same_name (frame_at clock m link).from (node_of me) ≡ true
  by_is m link is = ap (λ n. same_name n (node_of me)) (from_is m link is) ∙ name_same (node_of me)

  -- one more frame, with the command that is open then
  speaks_on : (m : Message) (orders total : List Order) (issue new : Option Issue) (link : Link) (ps : List Packet) → Speaks frames me orders issue link ps
      → orders ++ begins_with (commanded (node_of me) (frame_at clock m link)) ≡ total
      → Repeats (node_of me) (last_command (node_of me) None (frames ++ ps)) (commanded (node_of me) (frame_at clock m link))
      → IfSome new (λ (i : Issue). command_next (node_of me) (last_command (node_of me) None (frames ++ ps)) (commanded (node_of me) (frame_at clock m link)) ≡ Some (order_given i))
      → Speaks frames me total new (link_at clock link) (ps ++ frame_at clock m link ∷ [])
  speaks_on m orders total issue new link ps h more again given = record {
    me_is = h.me_is;
    begun = begun_push (node_of me) ps (frame_at clock m link) ∙ ap (λ os. os ++ begins_with (commanded (node_of me) (frame_at clock m link))) h.begun ∙ more;
    voice = subst (λ x. Voice x (node_of me) (link_at clock link).history new) (append_assoc frames ps (frame_at clock m link ∷ []))
        (voice_own (frames ++ ps) (node_of me) link.history issue new (frame_at clock m link) (next_in link.history clock) h.voice (by_is m link h.me_is) refl (let later = next_later link.history clock in omega arith) again given);
    own = all_by_push (node_of me) ps (frame_at clock m link) h.own (from_is m link h.me_is);
  }

  -- no command
  pub speaks_plainly : (orders : List Order) (issue : Option Issue) → IsSteady (Speaks frames me orders issue) IsPlain clock
  speaks_plainly orders issue m link ps plain h =
      let none : commanded (node_of me) (frame_at clock m link) ≡ None =
      ap (λ (t : Bool). if t then command_in (service_in (frame_at clock m link).id (frame_at clock m link).payload) else None) (by_is m link h.me_is) ∙ plain (frame_at clock m link).payload in
      speaks_on m orders orders issue issue link ps h (ap (λ o. orders ++ begins_with o) none ∙ append-nil orders) (subst (Repeats (node_of me) (last_command (node_of me) None (frames ++ ps))) (sym none) tt)
      (still issue none h.voice.given)
    where
      still : (issue : Option Issue) → commanded (node_of me) (frame_at clock m link) ≡ None → Latest (node_of me) (frames ++ ps) issue
          → IfSome issue (λ (i : Issue). command_next (node_of me) (last_command (node_of me) None (frames ++ ps)) (commanded (node_of me) (frame_at clock m link)) ≡ Some (order_given i))
      still None none k = tt
      still (Some i) none k = ap (command_next (node_of me) (last_command (node_of me) None (frames ++ ps))) none ∙ k

  -- ---- a command

  abbrev long_of : Issue → CommandLong
  long_of i = record {
    target_system = i.drone.sys;
    target_component = i.drone.comp;
    command = i.command.number;
    confirmation = i.confirmation;
    param1 = slice_index i.command.params 0;
    param2 = slice_index i.command.params 1;
    param3 = slice_index i.command.params 2;
    param4 = slice_index i.command.params 3;
    param5 = slice_index i.command.params 4;
    param6 = slice_index i.command.params 5;
    param7 = slice_index i.command.params 6;
  }

  seven : (ps : List ℕ) → length ps ≡ 7 → slice_index ps 0 ∷ slice_index ps 1 ∷ slice_index ps 2 ∷ slice_index ps 3 ∷ slice_index ps 4 ∷ slice_index ps 5 ∷ slice_index ps 6 ∷ [] ≡ ps
  seven (a ∷ b ∷ c ∷ d ∷ e ∷ f ∷ g ∷ []) is = refl
  seven [] is = absurd (omega arith)
  seven (a ∷ []) is = absurd (omega arith)
  seven (a ∷ b ∷ []) is = absurd (omega arith)
  seven (a ∷ b ∷ c ∷ []) is = absurd (omega arith)
  seven (a ∷ b ∷ c ∷ d ∷ []) is = absurd (omega arith)
  seven (a ∷ b ∷ c ∷ d ∷ e ∷ []) is = absurd (omega arith)
  seven (a ∷ b ∷ c ∷ d ∷ e ∷ f ∷ []) is = absurd (omega arith)
  seven (a ∷ b ∷ c ∷ d ∷ e ∷ f ∷ g ∷ h ∷ more) is = absurd (omega arith)

  command : ℕ → List ℕ → Command
  command number params = record { number = number; params = params }

  same_command : (i : Issue) → IssueInRange i → executor.command_in (long_of i) ≡ i.command
  same_command i h = λ j. record { number = i.command.number; params = seven i.command.params h.seven j }

  same_order : (i : Issue) → IssueInRange i → order_in (long_of i) ≡ order_given i
  same_order i h = ap (λ (c : Command). record { target = node_of i.drone; command = c }) (same_command i h)

  is_command : (i : Issue) (link : Link) → IssueInRange i → link.me ≡ me → commanded (node_of me) (frame_at clock (command_message i) link) ≡ Some (long_of i)
  is_command i link h is =
      ap (λ (t : Bool). if t then command_in (service_in (frame_at clock (command_message i) link).id (frame_at clock (command_message i) link).payload) else None) (by_is (command_message i) link is)
      ∙ ap command_in (service_reads_back (command_message i) (sendable_command i h).fits tt (payload_small (command_message i)))

  pub speaks_command : (i : Issue) (orders total : List Order) (old : Option Issue) (link : Link) (ps : List Packet) → IssueInRange i → (0 < i.confirmation → last_command (node_of me) None (frames ++ ps) ≡ Some (order_given i)) → orders ++ begun_by i ≡ total → Speaks frames me orders old link ps
      → Speaks frames me total (Some i) (link_at clock link) (ps ++ frame_at clock (command_message i) link ∷ [])
  speaks_command i orders total old link ps range again more h =
      let is : commanded (node_of me) (frame_at clock (command_message i) link) ≡ Some (long_of i) = is_command i link range h.me_is in
      let before : Option Order = last_command (node_of me) None (frames ++ ps) in
      speaks_on (command_message i) orders total old (Some i) link ps h
      (ap (λ o. orders ++ begins_with o) is ∙ ap (λ (o : Order). orders ++ (if i.confirmation == 0 then o ∷ [] else [])) (same_order i range) ∙ more)
      (subst (Repeats (node_of me) before) (sym is) (λ confirmed. again confirmed ∙ ap (λ (o : Order). Some o) (sym (same_order i range))))
      (ap (command_next (node_of me) before) is ∙ ap (λ (o : Order). Some o) (same_order i range))
