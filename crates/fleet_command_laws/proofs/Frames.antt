-- One frame that a drone hears: its entry, and the step of its executor.
use Rattle.std.proofs.Common.{◌≡◌, ℕ, true, List, [], ◌∷◌, ◌++◌, Option, Some, None, refl, subst}
use Rattle.mav_names.specs.declared.names.Stream.{Stream}
use Rattle.plan_items.specs.declared.messages.PlanMsg.{PlanMsg}
use Rattle.plan_upload.specs.Changes.{change_by}
use Rattle.plan_upload.specs.Drone.{drone_step}
use Rattle.mav_frame.specs.Packet.{Packet, SignatureBlock}
use Rattle.mav_messages.specs.declared.messages.Message.{Message}
use Rattle.mav_sign.specs.declared.admission.Admit.{Admit}
use Rattle.mav_sign.specs.declared.admission.Admit.TheVariants.{Admitted, Unsigned, BadSignature, BelowFloor, NotLater, TooOld, TooManyStreams}
use Rattle.mav_sign.specs.History.{Entry, tried, answer_to}
use Rattle.mav_sign.specs.History as history
use Rattle.command_proto.specs.declared.executor.Ready.{Ready}
use Rattle.command_proto.specs.Executor.{ExecutorState, executor_step}
use Rattle.mav_nodes.specs.News.{Drops}
use Rattle.mav_nodes.specs.Links.{Done, Outcome, sends_all}
use Rattle.mav_nodes.specs.Payloads.{plan_in, service_in}
use Rattle.mav_nodes.specs.Services.{ready_of, drone_serves, drone_notes}
use Rattle.mav_nodes.specs.Steps.{answers, takes, admits, hears}
use Rattle.mav_nodes.specs.Nodes.{DroneSide, drone_rules, drone_core}
use Rattle.fleet_world.specs.Steps.{packets_in}
use Rattle.fleet_command_laws.specs.Done.{hears_message, hears_frame, step_at}
use Rattle.fleet_command_laws.specs.Since.{GoesOn, EveryFrameHeard}
use Rattle.fleet_command_laws.proofs.Outcomes.{Goes, goes_quietly, goes_still, goes_all, goes_answers, goes_core}
use Rattle.fleet_command_laws.proofs.Since.{still, LinkOn, Any, steady, all_any, changes_silent, noted_executor}

-- after an entry that makes this of the executor
record Heard (h : List Entry) (e : ExecutorState) (n : DroneSide) (ps : List Packet) : Type 0 where
  history : GoesOn h n.link.history
  executor : n.services.executor ≡ e

module _ (clock : ℕ) (n : DroneSide) (p : Packet) where
  abbrev ready : Ready
  ready = ready_of n.core n.services

  abbrev after : Admit → DroneSide
  after answer = record n { link = record n.link { history = n.link.history ++ tried p answer ∷ [] } }

  abbrev So : Admit → ExecutorState → DroneSide → List Packet → Type 0
  So answer = Heard (n.link.history ++ tried p answer ∷ [])

  taking : (from : Stream) (plan : Option PlanMsg) (service : Option Message) → Goes (So Admitted (hears_message n.services.executor ready from plan service).executor) [] (takes drone_rules clock (after Admitted) from plan service)
  taking from None None =
      goes_still (So Admitted n.services.executor) [] (after Admitted) [] tt (record { history = still (after Admitted).link.history; executor = refl })
  taking from None (Some m) =
      let h : List Entry = (after Admitted).link.history in
      let e : ExecutorState = (executor_step n.services.executor from m ready).executor in
      let t = drone_serves n.core n.services from m in
      goes_core (So Admitted e) n.core t.services (LinkOn h clock) t.last [] (sends_all clock t.answers (after Admitted).link) (λ l qs k. record { history = k; executor = refl }) tt
      (goes_all (LinkOn h clock) (Any h clock) clock (steady h clock) t.answers (after Admitted).link [] (all_any h clock t.answers) (still h))
  taking from (Some m) service =
      let h : List Entry = (after Admitted).link.history in
      let step = drone_step true n.core from m in
      let core = drone_core n.core from m in
      goes_quietly (So Admitted n.services.executor) [] core.first _ (changes_silent h clock from step.drone.plans (change_by step.event))
      (goes_core (So Admitted n.services.executor) core.core (drone_notes n.services core.first) (LinkOn h clock) core.last [] (answers clock core.answer (after Admitted).link) (λ l qs k. record { history = k; executor = noted_executor n.services core.first }) tt
      (goes_answers (LinkOn h clock) (Any h clock) clock (steady h clock) (λ m. tt) core.answer (after Admitted).link [] (still h)))

  of_block : (block : Option SignatureBlock) → Goes (So Admitted (hears_frame n.services.executor ready p block).executor) [] (admits drone_rules clock (after Admitted) p Admitted block)
  of_block None =
      goes_still (So Admitted n.services.executor) [] (after Admitted) (Drops Admitted ∷ []) tt (record { history = still (after Admitted).link.history; executor = refl })
  of_block (Some block) = taking (history.stream_of p block) (plan_in p.id p.payload) (service_in p.id p.payload)

  dropped : (answer : Admit) → Goes (So answer n.services.executor) [] (Some (record { node = after answer; events = Drops answer ∷ [] }))
  dropped answer =
      goes_still (So answer n.services.executor) [] (after answer) (Drops answer ∷ []) tt (record { history = still (after answer).link.history; executor = refl })

  admitting : (answer : Admit) → Goes (So answer (step_at n.services.executor ready (tried p answer)).executor) [] (admits drone_rules clock (after answer) p answer p.block)
  admitting Admitted = of_block p.block
  admitting Unsigned = dropped Unsigned
  admitting BadSignature = dropped BadSignature
  admitting (BelowFloor low) = dropped (BelowFloor low)
  admitting (NotLater last) = dropped (NotLater last)
  admitting (TooOld local) = dropped (TooOld local)
  admitting TooManyStreams = dropped TooManyStreams

done_so : (P : DroneSide → List Packet → Type 0) (o : Outcome DroneSide) (d : Done DroneSide) → o ≡ Some d → Goes P [] o → P d.node (packets_in d.events)
done_so P o d is h = subst (Goes P []) is h

pub every_frame : EveryFrameHeard
every_frame clock p n d is =
    let answer : Admit = answer_to n.link.key n.link.history p in
    let e : ExecutorState = (step_at n.services.executor (ready_of n.core n.services) (tried p answer)).executor in
    let h = done_so (Heard (n.link.history ++ tried p answer ∷ []) e) (hears drone_rules clock p n) d is (admitting clock n p answer) in
    record { history = h.history; executor = h.executor }
