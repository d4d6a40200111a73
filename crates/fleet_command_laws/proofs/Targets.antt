-- Each frame at which a drone does a command has that drone as its target.
use Rattle.std.proofs.Common.{◌≡◌, ℕ, zero, suc, true, List, [], ◌∷◌, ◌++◌, slice_get, Option, Some, None, refl, subst, ◌∙◌}
use Rattle.mav_names.specs.declared.names.Name.{Name}
use Rattle.mav_names.specs.declared.names.Stream.{Stream}
use Rattle.mav_names.specs.Addresses.{is_for_node}
use Rattle.mav_frame.specs.Packet.{Packet, SignatureBlock}
use Rattle.plan_items.specs.declared.messages.PlanMsg.{PlanMsg}
use Rattle.mav_messages.specs.declared.commands.CommandLong.{CommandLong}
use Rattle.mav_messages.specs.declared.messages.Message.{Message}
use Rattle.mav_messages.specs.declared.messages.Message.TheVariants.{CommandLong as Commands}
use Rattle.mav_sign.specs.declared.admission.Admit.TheVariants.{Admitted, Unsigned, BadSignature, BelowFloor, NotLater, TooOld, TooManyStreams}
use Rattle.mav_sign.specs.History.{Entry, tried, started}
use Rattle.mav_sign.specs.History as history
use Rattle.command_proto.specs.declared.commands.Command.{Command}
use Rattle.command_proto.specs.declared.executor.Ready.{Ready}
use Rattle.command_proto.specs.Executor.{ExecutorState, ExecutorStep, executor_step, command_comes, ignores, repeats, has_no_room, last_in}
use Rattle.mav_nodes.specs.Payloads.{plan_in, service_in}
use Rattle.fleet_invariants.proofs.Lists.{some_is, nowhere}
use Rattle.fleet_invariants.proofs.Tests.{by_test}
use Rattle.fleet_command_laws.specs.Lines.{order_in}
use Rattle.fleet_command_laws.specs.Done.{Moment, hears_message, hears_frame, step_at, frame_done, commands_done}

-- the frame is a command for this node
abbrev pub IsFor : Name → Packet → Type 0
IsFor me p = (m : CommandLong) × (service_in p.id p.payload ≡ Some (Commands m)) × (is_for_node me (order_in m).target ≡ true)

-- a step leaves the executor's name, and does a command only at such a frame
abbrev Heeds : ExecutorState → Packet → ExecutorStep → Type 0
Heeds e p t = (t.executor.me ≡ e.me) × ((c : Command) → t.done ≡ Some c → IsFor e.me p)

module _ (e : ExecutorState) (ready : Ready) where
  me_stays : (from : Stream) (m : CommandLong) → (executor_step e from (Commands m) ready).executor.me ≡ e.me
  me_stays from m =
      by_test (λ (t : ExecutorStep). t.executor.me ≡ e.me) (is_for_node e.me (order_in m).target) (command_comes e from m ready) (ignores e)
      (λ _. by_test (λ (t : ExecutorStep). t.executor.me ≡ e.me) (repeats m (last_in e.last from)) _ _ (λ _. refl)
      (λ _. by_test (λ (t : ExecutorStep). t.executor.me ≡ e.me) (has_no_room (last_in e.last from) e.last) _ _ (λ _. refl) (λ _. refl))) (λ _. refl)

  is_target : (from : Stream) (m : CommandLong) (c : Command) → (executor_step e from (Commands m) ready).done ≡ Some c → is_for_node e.me (order_in m).target ≡ true
  is_target from m c =
      by_test (λ (t : ExecutorStep). t.done ≡ Some c → is_for_node e.me (order_in m).target ≡ true) (is_for_node e.me (order_in m).target) (command_comes e from m ready) (ignores e)
      (λ is _. is) (λ _ done. absurd (let wrong : ◌≡◌ {A = Option Command} None (Some c) = done in cc))

  quiet : (p : Packet) → Heeds e p (ignores e)
  quiet p = (refl, λ c done. absurd (let wrong : ◌≡◌ {A = Option Command} None (Some c) = done in cc))

  at_messages : (p : Packet) (from : Stream) (plan : Option PlanMsg) (service : Option Message) → service_in p.id p.payload ≡ service → Heeds e p (hears_message e ready from plan service)
  at_messages p from (Some plan) service is = quiet p
  at_messages p from None None is = quiet p
  at_messages p from None (Some (Commands m)) is = (me_stays from m, λ c done. (m, is, is_target from m c done))
  at_messages p from None (Some _) is = quiet p

  at_frame : (p : Packet) (block : Option SignatureBlock) → Heeds e p (hears_frame e ready p block)
  at_frame p None = quiet p
  at_frame p (Some block) = at_messages p (history.stream_of p block) (plan_in p.id p.payload) (service_in p.id p.payload) refl

module _ (me : Name) where
  abbrev AllFor : List Packet → Type 0
  AllFor ps = (i : ℕ) (q : Packet) → slice_get ps i ≡ Some q → IsFor me q

  one_for : (p : Packet) (d : Option Command) (rest : List Packet) → ((c : Command) → d ≡ Some c → IsFor me p) → AllFor rest → AllFor (frame_done (tried p Admitted) d ++ rest)
  one_for p None rest own each i q found = each i q found
  one_for p (Some c) rest own each zero q found = subst (IsFor me) (some_is found) (own c refl)
  one_for p (Some c) rest own each (suc i) q found = each i q found

  entry_for : (e : ExecutorState) (ready : Ready) (rest : ExecutorState → List Packet) → e.me ≡ me → ((f : ExecutorState) → f.me ≡ me → AllFor (rest f)) → (x : Entry) → AllFor (frame_done x (step_at e ready x).done ++ rest (step_at e ready x).executor)
  entry_for e ready rest is each (tried p Admitted) =
      let t : ExecutorStep = step_at e ready (tried p Admitted) in
      let h : Heeds e p t = at_frame e ready p p.block in
      one_for p t.done (rest t.executor) (λ c done. subst (λ (n : Name). IsFor n p) is (h.1 c done)) (each t.executor (h.0 ∙ is))
  entry_for e ready rest is each (tried p Unsigned) = each e is
  entry_for e ready rest is each (tried p BadSignature) = each e is
  entry_for e ready rest is each (tried p (BelowFloor low)) = each e is
  entry_for e ready rest is each (tried p (NotLater last)) = each e is
  entry_for e ready rest is each (tried p (TooOld local)) = each e is
  entry_for e ready rest is each (tried p TooManyStreams) = each e is
  entry_for e ready rest is each (history.sent stamp) = each e is
  entry_for e ready rest is each (started low) = each e is

  pub all_for : (ms : List Moment) (e : ExecutorState) → e.me ≡ me → AllFor (commands_done e ms)
  all_for [] e is = λ i q found. absurd (nowhere i q found)
  all_for (m ∷ ms) e is = entry_for e m.ready (λ f. commands_done f ms) is (λ f own. all_for ms f own) m.entry
