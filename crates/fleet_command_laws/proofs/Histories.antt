-- Over the history of a drone's link: the lines of the commands that it does of one station rise.
use Rattle.std.proofs.Common.{◌≡◌, ℕ, zero, suc, ◌<◌, ◌≤◌, ◌⊎◌, inl, inr, max, Bool, true, false, if◌then◌else◌, List, [], ◌∷◌, ◌++◌, slice_get, Option, Some, None, refl, sym, ap, subst, arith, ◌∙◌}
use Rattle.std.specs.Option.{option_map}
use Rattle.mav_names.specs.declared.names.Name.{Name}
use Rattle.mav_names.specs.declared.names.Stream.{Stream}
use Rattle.mav_names.specs.Addresses.{same_name, same_stream, is_for_node}
use Rattle.mav_frame.specs.Packet.{Packet, SignatureBlock}
use Rattle.plan_items.specs.declared.messages.PlanMsg.{PlanMsg}
use Rattle.mav_messages.specs.declared.commands.CommandLong.{CommandLong}
use Rattle.mav_messages.specs.declared.messages.Message.{Message}
use Rattle.mav_messages.specs.declared.messages.Message.TheVariants.{CommandLong as Commands}
use Rattle.mav_sign.specs.declared.admission.Admit.TheVariants.{Admitted, Unsigned, BadSignature, BelowFloor, NotLater, TooOld, TooManyStreams}
use Rattle.mav_sign.specs.History.{Entry, tried, started, Stamped, stamped, admitted_by, admitted_in, greatest, greatest_of, stamps_of, last_of}
use Rattle.mav_sign.specs.History as history
use Rattle.mav_sign.proofs.Histories.{admitted_more, admitted_same, greatest_of_more, stamps_more, stamps_same, greatest_some, same_self}
use Rattle.command_proto.specs.declared.commands.Command.{Command}
use Rattle.command_proto.specs.declared.commands.LastCommand.{LastCommand}
use Rattle.command_proto.specs.declared.executor.Ready.{Ready}
use Rattle.command_proto.specs.Executor.{ExecutorState, ExecutorStep, executor_step, command_comes, ignores, repeats, has_no_room, last_in}
use Rattle.command_proto.specs.Executor as executor
use Rattle.command_proto.proofs.Repetitions.{undone, done_is_last, others_stay, done_once}
use Rattle.mav_nodes.specs.Payloads.{plan_in, service_in}
use Rattle.fleet_world.specs.WorldState.{stream_of}
use Rattle.fleet_invariants.specs.Kept.{IsAmong}
use Rattle.fleet_invariants.proofs.Lists.{some_is, nowhere}
use Rattle.fleet_invariants.proofs.Tests.{by_test, name_eq}
use Rattle.fleet_command_laws.specs.Lines.{command_in, commanded, Order, order_in, line_at}
use Rattle.fleet_command_laws.specs.Done.{Moment, hears_message, hears_frame, hears_tried, step_at, frame_done, commands_done, entries_of}
use Rattle.fleet_command_laws.proofs.Lists.{stamp_in, stamp_of, Rising, Runs, later_sent, sent_once, lines_rise, same_line, IsAgain}

-- ---- the last timestamp of a stream

pub record Last (stream : Stream) (h : List Entry) (least : ℕ) : Type 0 where
  pub last : ℕ
  pub is : last_of stream h ≡ Some last
  pub most : least ≤ last

max_least : (a b least : ℕ) → least ≤ a → least ≤ max a b
max_least a b least h = grind arith

max_right : (a b : ℕ) → b ≤ max a b
max_right a b = grind arith

-- one more entry leaves it, or raises it
with_stamp : (stream : Stream) (h : List Entry) (entry : Entry) (least : ℕ) (o : Option Stamped) → admitted_by entry ≡ o → Last stream h least → Last stream (h ++ entry ∷ []) least
with_stamp stream h entry least None e k =
    record { last = k.last; is = ap (λ (l : List Stamped). greatest_of (stamps_of stream l)) (admitted_same h entry e) ∙ k.is; most = k.most }
with_stamp stream h entry least (Some s) e k =
    let all : last_of stream (h ++ entry ∷ []) ≡ greatest_of (stamps_of stream (admitted_in h ++ s ∷ [])) = ap (λ (l : List Stamped). greatest_of (stamps_of stream l)) (admitted_more h entry s e) in
    elim (history.same_stream stream s.stream) as (λ t. history.same_stream stream s.stream ≡ t → Last stream (h ++ entry ∷ []) least) [
      | true ↦ λ same. record {
        last = max (greatest (stamps_of stream (admitted_in h))) s.stamp;
        is = all ∙ ap greatest_of (stamps_more stream (admitted_in h) s same) ∙ greatest_of_more (stamps_of stream (admitted_in h)) s.stamp;
        most = max_least _ s.stamp least (let is = greatest_some (stamps_of stream (admitted_in h)) k.last k.is in let most = k.most in omega arith);
      }
      | false ↦ λ apart. record { last = k.last; is = all ∙ ap greatest_of (stamps_same stream (admitted_in h) s apart) ∙ k.is; most = k.most }
    ] refl

pub last_stays : (stream : Stream) (h : List Entry) (entry : Entry) (least : ℕ) → Last stream h least → Last stream (h ++ entry ∷ []) least
last_stays stream h entry least k = with_stamp stream h entry least (admitted_by entry) refl k

-- an admitted frame raises that of its own stream
last_new : (stream : Stream) (h : List Entry) (p : Packet) (block : SignatureBlock) → p.block ≡ Some block → history.stream_of p block ≡ stream → Last stream (h ++ tried p Admitted ∷ []) block.stamp
last_new stream h p block signed is =
    let s : Stamped = stamped p block in
    let same : history.same_stream stream s.stream ≡ true = subst (λ x. history.same_stream x s.stream ≡ true) is (same_self s.stream) in
    record {
      last = max (greatest (stamps_of stream (admitted_in h))) block.stamp;
      is = ap (λ (l : List Stamped). greatest_of (stamps_of stream l)) (admitted_more h (tried p Admitted) s (ap (option_map (stamped p)) signed)) ∙ ap greatest_of (stamps_more stream (admitted_in h) s same) ∙ greatest_of_more (stamps_of stream (admitted_in h)) block.stamp;
      most = max_right _ block.stamp;
    }

-- ---- what a history holds

-- an admitted frame was sent, and is later than all that were admitted of its stream
pub record IsLater (frames : List Packet) (before : List Entry) (p : Packet) : Type 0 where
  pub block : SignatureBlock
  pub signed : p.block ≡ Some block
  pub stream : history.stream_of p block ≡ stream_of p.from
  pub among : IsAmong frames p
  pub later : (last : ℕ) → last_of (history.stream_of p block) before ≡ Some last → last < block.stamp

abbrev pub IsFit : List Packet → List Entry → Entry → Type 0
IsFit frames before (tried p Admitted) = IsLater frames before p
IsFit frames before (tried p Unsigned) = Unit {0}
IsFit frames before (tried p BadSignature) = Unit {0}
IsFit frames before (tried p (BelowFloor low)) = Unit {0}
IsFit frames before (tried p (NotLater last)) = Unit {0}
IsFit frames before (tried p (TooOld local)) = Unit {0}
IsFit frames before (tried p TooManyStreams) = Unit {0}
IsFit frames before (history.sent stamp) = Unit {0}
IsFit frames before (started low) = Unit {0}

-- entries after others
abbrev pub AreFit : List Packet → List Entry → List Entry → Type 0
AreFit frames before [] = Unit {0}
AreFit frames before (x ∷ xs) = IsFit frames before x × AreFit frames (before ++ x ∷ []) xs

-- ---- a command that is done is that of the message

done_is : (e : ExecutorState) (from : Stream) (m : CommandLong) (ready : Ready) (c : Command) → (executor_step e from (Commands m) ready).done ≡ Some c → c ≡ executor.command_in m
done_is e from m ready c is =
    by_test (λ (s : ExecutorStep). s.done ≡ Some c → c ≡ executor.command_in m) (is_for_node e.me (record { sys = m.target_system; comp = m.target_component })) (command_comes e from m ready) (ignores e)
    (λ _. by_test (λ (s : ExecutorStep). s.done ≡ Some c → c ≡ executor.command_in m) (repeats m (last_in e.last from)) _ _ (λ _ no. absurd (cc)) (λ _.
    by_test (λ (s : ExecutorStep). s.done ≡ Some c → c ≡ executor.command_in m) (has_no_room (last_in e.last from) e.last) _ _ (λ _ no. absurd (cc)) (λ _ done. sym (some_is done))))
    (λ _ no. absurd (cc)) is

-- streams of different nodes differ
apart_streams : (a b : Name) → same_name a b ≡ false → same_stream (stream_of a) (stream_of b) ≡ false
apart_streams a b e = grind arith

-- ---- one station

module _ (frames : List Packet) (name : Name) (rising : Rising name 0 frames) (runs : Runs name None frames) where
  -- the frames at which commands of the station are done, of lines from `n` on
  abbrev pub Rises : ℕ → List Packet → Type 0
  Rises n [] = Unit {0}
  Rises n (q ∷ qs) =
      ((same_name q.from name ≡ false) × Rises n qs) ⊎ ((b : ℕ) × ((slice_get frames b ≡ Some q) × ((n ≤ line_at name frames b) × Rises (suc (line_at name frames b)) qs)))

  -- the last command of the station that was done, of a line below `n`
  pub record IsLast (n : ℕ) (before : List Entry) (l : LastCommand) : Type 0 where
    pub index : ℕ
    pub packet : Packet
    pub found : slice_get frames index ≡ Some packet
    pub from : same_name packet.from name ≡ true
    pub message : CommandLong
    pub is : commanded name packet ≡ Some message
    pub same : l.command ≡ executor.command_in message
    pub below : n ≤ suc (line_at name frames index)
    pub upto : Last (stream_of name) before (stamp_of packet)

  abbrev pub IsKept : ℕ → List Entry → Option LastCommand → Type 0
  IsKept n before None = n ≡ 0
  IsKept n before (Some l) = IsLast n before l

  kept_on : (n : ℕ) (before : List Entry) (x : Entry) (o : Option LastCommand) → IsKept n before o → IsKept n (before ++ x ∷ []) o
  kept_on n before x None h = h
  kept_on n before x (Some l) h = record {
    index = h.index;
    packet = h.packet;
    found = h.found;
    from = h.from;
    message = h.message;
    is = h.is;
    same = h.same;
    below = h.below;
    upto = last_stays (stream_of name) before x (stamp_of h.packet) h.upto;
  }

  -- a command that is done is of a later line
  later_line : (n : ℕ) (before : List Entry) (e : ExecutorState) (ready : Ready) (o : Option LastCommand) → last_in e.last (stream_of name) ≡ o → IsKept n before o
      → (b : ℕ) (q : Packet) (m : CommandLong) (c : Command) → slice_get frames b ≡ Some q → same_name q.from name ≡ true → commanded name q ≡ Some m
      → ((last : ℕ) → last_of (stream_of name) before ≡ Some last → last < stamp_of q)
      → (executor_step e (stream_of name) (Commands m) ready).done ≡ Some c → n ≤ line_at name frames b
  later_line n before e ready None is h b q m c found from command later done = omega (arith, h)
  later_line n before e ready (Some l) is h b q m c found from command later done =
      let rest : stamp_of h.packet < stamp_of q = (let less = later h.upto.last h.upto.is in let most = h.upto.most in omega arith) in
      let order : h.index < b = later_sent name 0 frames h.index b h.packet q rising h.found found h.from from rest in
      let up : line_at name frames h.index ≤ line_at name frames b = lines_rise name frames h.index b (omega arith) in
      let other : line_at name frames h.index ≡ line_at name frames b → ⊥ = λ same.
      let again : IsAgain name (order_in h.message) m = same_line name None frames h.index b h.packet q h.message m runs h.found found h.is command order same in
      let none : (executor_step e (stream_of name) (Commands m) ready).done ≡ None = done_once e (stream_of name) m ready l is again.confirmed (ap (λ (o : Order). o.command) again.same ∙ sym h.same) in
      let wrong : ◌≡◌ {A = Option Command} None (Some c) = sym none ∙ done in
      cc in
      least n (line_at name frames h.index) (line_at name frames b) h.below up other
    where
      least : (n a b : ℕ) → n ≤ suc a → a ≤ b → (a ≡ b → ⊥) → n ≤ b
      least n a b h up other = elim (either a b) [ inl x ↦ absurd (other x) | inr y ↦ within n a b h up y ]
        where
          either : (a b : ℕ) → (a ≡ b) ⊎ ((a ≡ b) → ⊥)
          either zero zero = inl refl
          either zero (suc b) = inr (λ e. absurd (omega arith))
          either (suc a) zero = inr (λ e. absurd (omega arith))
          either (suc a) (suc b) = elim (either a b) [ inl x ↦ inl (ap suc x) | inr y ↦ inr (λ e. y (omega arith)) ]

          within : (n a b : ℕ) → n ≤ suc a → a ≤ b → ((a ≡ b) → ⊥) → n ≤ b
          within n a b h up y = grind (arith, y)

  -- ---- one entry

  -- what follows an entry
  module _ (before : List Entry) (ready : Ready) (e : ExecutorState) (n : ℕ) (h : IsKept n before (last_in e.last (stream_of name))) (rest : ExecutorState → List Packet) where
    abbrev Follows : Entry → Type 0
    Follows x = (f : ExecutorState) (k : ℕ) → IsKept k (before ++ x ∷ []) (last_in f.last (stream_of name)) → Rises k (rest f)

    abbrev After : Entry → ExecutorStep → Type 0
    After x s = Rises n (frame_done x s.done ++ rest s.executor)

    -- nothing is done
    quiet : (x : Entry) → Follows x → Rises n (rest e)
    quiet x each = each e n (kept_on n before x (last_in e.last (stream_of name)) h)

    module _ (p : Packet) (v : IsLater frames before p) (each : Follows (tried p Admitted)) where
      abbrev heard : Stream → CommandLong → ExecutorStep
      heard from m = executor_step e from (Commands m) ready

      stamp_is : stamp_of p ≡ v.block.stamp
      stamp_is = ap stamp_in v.signed

      -- a command of the station itself
      module _ (m : CommandLong) (c : Command) (service : service_in p.id p.payload ≡ Some (Commands m)) (by : same_name p.from name ≡ true) where
        own_stream : history.stream_of p v.block ≡ stream_of name
        own_stream = v.stream ∙ ap stream_of (name_eq p.from name by)

        command : commanded name p ≡ Some m
        command = ap (λ (t : Bool). if t then command_in (service_in p.id p.payload) else None) by ∙ ap command_in service

        new_kept : (o : Option LastCommand) → option_map (λ (l : LastCommand). l.command) o ≡ Some c → c ≡ executor.command_in m → IsKept (suc (line_at name frames v.among.index)) (before ++ tried p Admitted ∷ []) o
        new_kept None some is = absurd (let wrong : ◌≡◌ {A = Option Command} None (Some c) = some in cc)
        new_kept (Some l) some is = record {
          index = v.among.index;
          packet = p;
          found = v.among.found;
          from = by;
          message = m;
          is = command;
          same = some_is some ∙ is;
          below = omega arith;
          upto = subst (λ least. Last (stream_of name) (before ++ tried p Admitted ∷ []) least) (sym stamp_is) (last_new (stream_of name) before p v.block v.signed own_stream);
        }

        own_done : (heard (stream_of name) m).done ≡ Some c → Rises n (p ∷ rest (heard (stream_of name) m).executor)
        own_done done =
            inr (
              v.among.index,
              (
                v.among.found,
                (
                  later_line n before e ready (last_in e.last (stream_of name)) refl h v.among.index p m c v.among.found by command
                      (λ last is. subst (λ most. last < most) (sym stamp_is) (v.later last (ap (λ x. last_of x before) own_stream ∙ is))) done,
                  each (heard (stream_of name) m).executor (suc (line_at name frames v.among.index))
                      (new_kept (last_in (heard (stream_of name) m).executor.last (stream_of name)) (done_is_last e (stream_of name) (Commands m) ready c done) (done_is e (stream_of name) m ready c done)),
                ),
              ),
            )

        own : (from : Stream) → from ≡ stream_of name → (heard from m).done ≡ Some c → Rises n (p ∷ rest (heard from m).executor)
        own from same = subst (λ x. (heard x m).done ≡ Some c → Rises n (p ∷ rest (heard x m).executor)) (sym same) own_done

      -- one of another node
      other : (m : CommandLong) → same_name p.from name ≡ false → Rises n (p ∷ rest (heard (history.stream_of p v.block) m).executor)
      other m apart =
          let from : Stream = history.stream_of p v.block in
          let differ : same_stream from (stream_of name) ≡ false = ap (λ x. same_stream x (stream_of name)) v.stream ∙ apart_streams p.from name apart in
          let same = others_stay e from (Commands m) ready (stream_of name) differ in
          inl (apart, each (heard from m).executor n (subst (IsKept n (before ++ tried p Admitted ∷ [])) (sym same) (kept_on n before (tried p Admitted) (last_in e.last (stream_of name)) h)))

      at_command : (m : CommandLong) → service_in p.id p.payload ≡ Some (Commands m) → After (tried p Admitted) (heard (history.stream_of p v.block) m)
      at_command m service =
          let from : Stream = history.stream_of p v.block in
          elim (heard from m).done as (λ d. (heard from m).done ≡ d → Rises n (frame_done (tried p Admitted) d ++ rest (heard from m).executor)) [
            | None ↦ λ none. subst (λ f. Rises n (rest f)) (sym (undone e from (Commands m) ready none)) (quiet (tried p Admitted) each)
            | Some c ↦ λ done. elim (same_name p.from name) as (λ t. same_name p.from name ≡ t → Rises n (p ∷ rest (heard from m).executor)) [
              | true ↦ λ by. own m c service by from (own_stream m c service by) done
              | false ↦ λ apart. other m apart
            ] refl
          ] refl

      at_message : (message : Message) → service_in p.id p.payload ≡ Some message → After (tried p Admitted) (executor_step e (history.stream_of p v.block) message ready)
      at_message (Commands m) service = at_command m service
      at_message _ service = quiet (tried p Admitted) each

      at_messages : (plan : Option PlanMsg) (service : Option Message) → service_in p.id p.payload ≡ service → After (tried p Admitted) (hears_message e ready (history.stream_of p v.block) plan service)
      at_messages (Some plan) service is = quiet (tried p Admitted) each
      at_messages None None is = quiet (tried p Admitted) each
      at_messages None (Some message) is = at_message message is

      at_frame : After (tried p Admitted) (hears_tried e ready p Admitted)
      at_frame =
          subst (After (tried p Admitted)) (sym (ap (hears_frame e ready p) v.signed)) (at_messages (plan_in p.id p.payload) (service_in p.id p.payload) refl)

    at_entry : (x : Entry) → IsFit frames before x → Follows x → After x (step_at e ready x)
    at_entry (tried p Admitted) v each = at_frame p v each
    at_entry (tried p Unsigned) v each = quiet (tried p Unsigned) each
    at_entry (tried p BadSignature) v each = quiet (tried p BadSignature) each
    at_entry (tried p (BelowFloor low)) v each = quiet (tried p (BelowFloor low)) each
    at_entry (tried p (NotLater last)) v each = quiet (tried p (NotLater last)) each
    at_entry (tried p (TooOld local)) v each = quiet (tried p (TooOld local)) each
    at_entry (tried p TooManyStreams) v each = quiet (tried p TooManyStreams) each
    at_entry (history.sent stamp) v each = quiet (history.sent stamp) each
    at_entry (started low) v each = quiet (started low) each

  -- ---- a whole history

  pub rises : (ms : List Moment) (before : List Entry) (e : ExecutorState) (n : ℕ) → IsKept n before (last_in e.last (stream_of name)) → AreFit frames before (entries_of ms) → Rises n (commands_done e ms)
  rises [] before e n h fit = tt
  rises (m ∷ ms) before e n h fit =
      at_entry before m.ready e n h (λ f. commands_done f ms) m.entry fit.0 (λ f k kept. rises ms (before ++ m.entry ∷ []) f k kept fit.1)

  -- ---- the lines of the frames

  wrong_name : {A : Type 0} (p q : Packet) → p ≡ q → same_name p.from name ≡ false → same_name q.from name ≡ true → A
  wrong_name p q same apart by = absurd (let e : false ≡ true = sym apart ∙ (ap (λ (x : Packet). same_name x.from name) same ∙ by) in cc)

  place_is : (p q : Packet) (a b : ℕ) → p ≡ q → slice_get frames a ≡ Some p → slice_get frames b ≡ Some q → same_name q.from name ≡ true → line_at name frames a ≡ line_at name frames b
  place_is p q a b same pa qb by = ap (line_at name frames) (sent_once name 0 frames a b q rising (pa ∙ ap (λ x. Some x) same) qb by)

  from_line : (n : ℕ) (done : List Packet) → Rises n done → (j : ℕ) (q : Packet) → slice_get done j ≡ Some q → same_name q.from name ≡ true → (b : ℕ) → slice_get frames b ≡ Some q → n ≤ line_at name frames b
  from_line n [] h j q found by b there = absurd (nowhere j q found)
  from_line n (x ∷ xs) (inl h) zero q found by b there = wrong_name x q (some_is found) h.0 by
  from_line n (x ∷ xs) (inl h) (suc j) q found by b there = from_line n xs h.1 j q found by b there
  from_line n (x ∷ xs) (inr h) zero q found by b there = subst (λ line. n ≤ line) (place_is x q h.0 b (some_is found) h.1.0 there by) h.1.1.0
  from_line n (x ∷ xs) (inr h) (suc j) q found by b there =
      let more = from_line (suc (line_at name frames h.0)) xs h.1.1.1 j q found by b there in
      let first = h.1.1.0 in
      omega arith

  pub ordered : (n : ℕ) (done : List Packet) → Rises n done → (i j : ℕ) (p q : Packet) → slice_get done i ≡ Some p → slice_get done j ≡ Some q → same_name p.from name ≡ true → same_name q.from name ≡ true
      → (a b : ℕ) → slice_get frames a ≡ Some p → slice_get frames b ≡ Some q → i < j → line_at name frames a < line_at name frames b
  ordered n [] h i j p q pi qj ip iq a b pa qb less = absurd (nowhere i p pi)
  ordered n (x ∷ xs) h zero zero p q pi qj ip iq a b pa qb less = absurd (omega arith)
  ordered n (x ∷ xs) h (suc i) zero p q pi qj ip iq a b pa qb less = absurd (omega arith)
  ordered n (x ∷ xs) (inl h) zero (suc j) p q pi qj ip iq a b pa qb less = wrong_name x p (some_is pi) h.0 ip
  ordered n (x ∷ xs) (inr h) zero (suc j) p q pi qj ip iq a b pa qb less =
      let more = from_line (suc (line_at name frames h.0)) xs h.1.1.1 j q qj iq b qb in
      let same = place_is x p h.0 a (some_is pi) h.1.0 pa ip in
      omega arith
  ordered n (x ∷ xs) (inl h) (suc i) (suc j) p q pi qj ip iq a b pa qb less = ordered n xs h.1 i j p q pi qj ip iq a b pa qb (omega arith)
  ordered n (x ∷ xs) (inr h) (suc i) (suc j) p q pi qj ip iq a b pa qb less =
      ordered (suc (line_at name frames h.0)) xs h.1.1.1 i j p q pi qj ip iq a b pa qb (omega arith)

-- ---- all of them were sent

module _ (frames : List Packet) where
  one_among : (p : Packet) (d : Option Command) (rest : List Packet) → IsAmong frames p → ((i : ℕ) (q : Packet) → slice_get rest i ≡ Some q → IsAmong frames q)
      → (i : ℕ) (q : Packet) → slice_get (frame_done (tried p Admitted) d ++ rest) i ≡ Some q → IsAmong frames q
  one_among p None rest own each i q found = each i q found
  one_among p (Some c) rest own each zero q found = subst (IsAmong frames) (some_is found) own
  one_among p (Some c) rest own each (suc i) q found = each i q found

  entry_among : (before : List Entry) (ready : Ready) (e : ExecutorState) (rest : ExecutorState → List Packet) → ((f : ExecutorState) (i : ℕ) (q : Packet) → slice_get (rest f) i ≡ Some q → IsAmong frames q) → (x : Entry) → IsFit frames before x
      → (i : ℕ) (q : Packet) → slice_get (frame_done x (step_at e ready x).done ++ rest (step_at e ready x).executor) i ≡ Some q → IsAmong frames q
  entry_among before ready e rest each (tried p Admitted) v i q found =
      one_among p (step_at e ready (tried p Admitted)).done (rest (step_at e ready (tried p Admitted)).executor) v.among (each (step_at e ready (tried p Admitted)).executor) i q found
  entry_among before ready e rest each (tried p Unsigned) v i q found = each e i q found
  entry_among before ready e rest each (tried p BadSignature) v i q found = each e i q found
  entry_among before ready e rest each (tried p (BelowFloor low)) v i q found = each e i q found
  entry_among before ready e rest each (tried p (NotLater last)) v i q found = each e i q found
  entry_among before ready e rest each (tried p (TooOld local)) v i q found = each e i q found
  entry_among before ready e rest each (tried p TooManyStreams) v i q found = each e i q found
  entry_among before ready e rest each (history.sent stamp) v i q found = each e i q found
  entry_among before ready e rest each (started low) v i q found = each e i q found

  pub all_among : (ms : List Moment) (before : List Entry) (e : ExecutorState) → AreFit frames before (entries_of ms) → (i : ℕ) (q : Packet) → slice_get (commands_done e ms) i ≡ Some q → IsAmong frames q
  all_among [] before e fit i q found = absurd (nowhere i q found)
  all_among (m ∷ ms) before e fit i q found =
      entry_among before m.ready e (λ f. commands_done f ms) (λ f. all_among ms (before ++ m.entry ∷ []) f fit.1) m.entry fit.0 i q found
