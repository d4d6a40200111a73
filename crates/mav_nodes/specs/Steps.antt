-- What a node does at frames, whatever its core and its services are: each is tried, the core takes the plan message
-- of an admitted one, the services any other message that is theirs, and what is replied is sent before the next frame
-- is tried.
use Rattle.std.specs.Prelude.{◌≡◌, false, true, Bool, ℕ, List, [], ◌∷◌, ◌++◌, Option, Some, None}
use Rattle.mav_names.specs.declared.names.Stream.{Stream}
use Rattle.plan_items.specs.declared.messages.PlanMsg.{PlanMsg}
use Rattle.mav_frame.specs.Packet.{Packet, SignatureBlock}
use Rattle.mav_frame.specs.FinalParse.{final_parse}
use Rattle.mav_messages.specs.declared.messages.Message.{Message}
use Rattle.mav_messages.specs.Plans.{message_of_plan}
use Rattle.mav_sign.specs.declared.admission.Admit.{Admit}
use Rattle.mav_sign.specs.declared.admission.Admit.TheVariants.{Admitted}
use Rattle.mav_sign.specs.History.{answer_to, stream_of}
use Rattle.mav_sign.specs.Endpoints.{frames_of}
use Rattle.mav_nodes.specs.News.{NodeEvent, Drops}
use Rattle.mav_nodes.specs.Services.{ServiceStep}
use Rattle.mav_nodes.specs.Payloads.{plan_in, service_in}
use Rattle.mav_nodes.specs.Links.{Link, LinkView, IsLink, Outcome, done, after_events, and_then, tries, sends}
use Rattle.mav_nodes.specs.Links.{sends_all}

-- a node: its end of the links, its core, and its services
pub record Side (Core Services : Type 0) : Type 0 where
  pub link : Link
  pub core : Core
  pub services : Services

-- contracts see this end of the links, this core and these services of it
pub record IsNode {Core Services : Type 0} (node : Side Core Services) (end : LinkView) (core_seen : Core)
    (seen : Services) : Type 0 where
  pub link : IsLink node.link end
  pub core : core_seen ≡ node.core
  pub services : seen ≡ node.services

-- a core's step: the core after it, its events before and after what it sends
pub record CoreStep (Core : Type 0) : Type 0 where
  pub core : Core
  pub first : List NodeEvent
  pub answer : Option PlanMsg
  pub last : List NodeEvent

-- what a core does at a plan message of a stream; what the services make of the events of such a step before its
-- reply; and what they do at a message of theirs
pub record Rules (Core Services : Type 0) : Type 0 where
  pub take : Core → Stream → PlanMsg → CoreStep Core
  pub note : Services → List NodeEvent → Services
  pub serve : Core → Services → Stream → Message → ServiceStep Services

-- what is sent for a reply
abbrev pub answers : ℕ → Option PlanMsg → Link → Outcome Link
answers clock None link = done link []
answers clock (Some message) link = sends clock (message_of_plan message) link

-- the link sends, and the core and the services are these
abbrev pub with_core : {Core Services : Type 0} → Core → Services → List NodeEvent → Outcome Link
    → Outcome (Side Core Services)
with_core core services last None = None
with_core core services last (Some d) = done (record { link = d.node; core = core; services = services })
    (d.events ++ last)

-- a core's step is done
abbrev pub steps : {Core Services : Type 0} → ℕ → Link → Services → CoreStep Core → Outcome (Side Core Services)
steps clock link services step = after_events step.first
    (with_core step.core services step.last (answers clock step.answer link))

-- a step of the services is done
abbrev pub serves : {Core Services : Type 0} → ℕ → Link → Core → ServiceStep Services → Outcome (Side Core Services)
serves clock link core step = with_core core step.services step.last (sends_all clock step.answers link)

-- a core's step at a plan message is done, and the services have noted its events
abbrev pub steps_noted : {Core Services : Type 0} → (Services → List NodeEvent → Services) → ℕ → Link → Services
    → CoreStep Core → Outcome (Side Core Services)
steps_noted note clock link services step = steps clock link (note services step.first) step

-- a node that receives a message of its services, or none
abbrev pub serves_if : {Core Services : Type 0} → Rules Core Services → ℕ → Side Core Services → Stream
    → Option Message → Outcome (Side Core Services)
serves_if rules clock node from None = done node []
serves_if rules clock node from (Some message) =
    serves clock node.link node.core (rules.serve node.core node.services from message)

-- a node that receives a plan message, or another message or none
abbrev pub takes : {Core Services : Type 0} → Rules Core Services → ℕ → Side Core Services → Stream → Option PlanMsg
    → Option Message → Outcome (Side Core Services)
takes rules clock node from None other = serves_if rules clock node from other
takes rules clock node from (Some message) other =
    steps_noted rules.note clock node.link node.services (rules.take node.core from message)

-- the verdict on a frame; one that isn't admitted changes nothing else
abbrev pub admits : {Core Services : Type 0} → Rules Core Services → ℕ → Side Core Services → Packet → Admit
    → Option SignatureBlock → Outcome (Side Core Services)
admits rules clock node packet Admitted (Some block) =
    takes rules clock node (stream_of packet block) (plan_in packet.id packet.payload)
    (service_in packet.id packet.payload)
admits rules clock node packet answer block = done node (Drops answer ∷ [])

-- one frame
abbrev pub hears : {Core Services : Type 0} → Rules Core Services → ℕ → Packet → Side Core Services
    → Outcome (Side Core Services)
hears rules clock packet node =
    admits rules clock (record node { link = tries packet node.link }) packet
    (answer_to node.link.key node.link.history packet) packet.block

-- frames, one after another
abbrev pub hears_all : {Core Services : Type 0} → Rules Core Services → ℕ → List Packet → Side Core Services
    → Outcome (Side Core Services)
hears_all rules clock [] node = done node []
hears_all rules clock (packet ∷ packets) node =
    and_then (hears rules clock packet node) (hears_all rules clock packets)

-- the same with a store that may not keep what a step saves: `keeps` says for each frame whether it does, and it does
-- for those that are left
abbrev pub hears_keeping : {Core Services : Type 0} → (Bool → Rules Core Services) → ℕ → List Bool → List Packet
    → Side Core Services → Outcome (Side Core Services)
hears_keeping rules clock keeps [] node = done node []
hears_keeping rules clock [] (packet ∷ packets) node =
    and_then (hears (rules true) clock packet node) (hears_keeping rules clock [] packets)
hears_keeping rules clock (kept ∷ keeps) (packet ∷ packets) node =
    and_then (hears (rules kept) clock packet node) (hears_keeping rules clock keeps packets)

abbrev pub receives_keeping : {Core Services : Type 0} → (Bool → Rules Core Services) → ℕ → List Bool → List ℕ
    → Side Core Services → Outcome (Side Core Services)
receives_keeping rules clock keeps datagram node =
    hears_keeping rules clock keeps (frames_of (final_parse node.link.extras false datagram)) node

-- a datagram: the frames of its final parse
abbrev pub receives : {Core Services : Type 0} → Rules Core Services → ℕ → List ℕ → Side Core Services
    → Outcome (Side Core Services)
receives rules clock datagram node = hears_all rules clock
    (frames_of (final_parse node.link.extras false datagram)) node
