-- What a drone's executor does at each entry of the history of its link, from the drone's start on. A drone that
-- starts again has a new history and a new executor (`restarted_drone` of mav_nodes): so all this is between two
-- starts.
use Rattle.std.specs.Prelude.{◌≡◌, List, [], ◌∷◌, ◌++◌, map, Option, Some, None}
use Rattle.mav_names.specs.declared.names.Stream.{Stream}
use Rattle.mav_names.specs.Addresses.{node_of}
use Rattle.mav_frame.specs.Packet.{Packet, SignatureBlock}
use Rattle.plan_items.specs.declared.messages.PlanMsg.{PlanMsg}
use Rattle.mav_messages.specs.declared.messages.Message.{Message}
use Rattle.mav_sign.specs.declared.admission.Admit.{Admit}
use Rattle.mav_sign.specs.declared.admission.Admit.TheVariants.{Admitted, Unsigned, BadSignature, BelowFloor, NotLater}
use Rattle.mav_sign.specs.declared.admission.Admit.TheVariants.{TooOld, TooManyStreams}
use Rattle.mav_sign.specs.History.{Entry, tried, sent, started, stream_of}
use Rattle.command_proto.specs.declared.executor.Ready.{Ready}
use Rattle.command_proto.specs.declared.commands.Command.{Command}
use Rattle.command_proto.specs.Executor.{ExecutorState, ExecutorStep, new_executor, executor_step, ignores}
use Rattle.mav_nodes.specs.Payloads.{plan_in, service_in}
use Rattle.mav_nodes.specs.Nodes.{DroneSide}

-- an entry, and how ready the drone was for commands then
pub record Moment : Type 0 where
  pub entry : Entry
  pub ready : Ready

-- the messages of an admitted frame, as `takes` of mav_nodes takes them: a message of the mission protocol is none of
-- the executor
abbrev pub hears_message : ExecutorState → Ready → Stream → Option PlanMsg → Option Message → ExecutorStep
hears_message e ready from (Some plan) other = ignores e
hears_message e ready from None None = ignores e
hears_message e ready from None (Some message) = executor_step e from message ready

abbrev pub hears_frame : ExecutorState → Ready → Packet → Option SignatureBlock → ExecutorStep
hears_frame e ready p None = ignores e
hears_frame e ready p (Some block) = hears_message e ready (stream_of p block) (plan_in p.id p.payload)
    (service_in p.id p.payload)

-- only an admitted frame is heard
abbrev pub hears_tried : ExecutorState → Ready → Packet → Admit → ExecutorStep
hears_tried e ready p Admitted = hears_frame e ready p p.block
hears_tried e ready p Unsigned = ignores e
hears_tried e ready p BadSignature = ignores e
hears_tried e ready p (BelowFloor low) = ignores e
hears_tried e ready p (NotLater last) = ignores e
hears_tried e ready p (TooOld local) = ignores e
hears_tried e ready p TooManyStreams = ignores e

abbrev pub step_at : ExecutorState → Ready → Entry → ExecutorStep
step_at e ready (tried p answer) = hears_tried e ready p answer
step_at e ready (sent stamp) = ignores e
step_at e ready (started low) = ignores e

-- the executor after some moments
abbrev pub executor_after : ExecutorState → List Moment → ExecutorState
executor_after e [] = e
executor_after e (m ∷ ms) = executor_after (step_at e m.ready m.entry).executor ms

-- the frame of an entry, if a command is done there
abbrev pub frame_done : Entry → Option Command → List Packet
frame_done (tried p answer) (Some command) = p ∷ []
frame_done (tried p answer) None = []
frame_done (sent stamp) command = []
frame_done (started low) command = []

-- the frames at which commands are done, the first first
abbrev pub commands_done : ExecutorState → List Moment → List Packet
commands_done e [] = []
commands_done e (m ∷ ms) = frame_done m.entry (step_at e m.ready m.entry).done
    ++ commands_done (step_at e m.ready m.entry).executor ms

abbrev pub entries_of : List Moment → List Entry
entries_of moments = map (λ (m : Moment). m.entry) moments

-- those at which a drone did commands over these moments since its start
abbrev pub done_since : DroneSide → List Moment → List Packet
done_since d moments = commands_done (new_executor (node_of d.link.me)) moments

-- the moments of a drone since its start: they are its history, and lead to its executor
pub record AreMoments (d : DroneSide) (moments : List Moment) : Type 0 where
  pub history : entries_of moments ≡ d.link.history
  pub executor : executor_after (new_executor (node_of d.link.me)) moments ≡ d.services.executor
