-- Steps of a node, whatever its core is.
use Rattle.std.proofs.Common.{◌≡◌, ℕ, Bool, true, false, if◌then◌else◌, List, [], ◌∷◌, ◌++◌, Option, Some, None, Result, Ok, Err, refl, sym, ap, ◌∙◌, subst, append_assoc}
use Rattle.std.specs.Prelude.{map, nat_lt, IfOk, IfErr}
use Rattle.std.proofs.lemmas.List.{append-nil, map-append}
use Rattle.mav_names.specs.declared.names.Stream.{Stream}
use Rattle.plan_items.specs.declared.messages.PlanMsg.{PlanMsg}
use Rattle.mav_frame.specs.Packet.{Packet, SignatureBlock}
use Rattle.mav_messages.specs.declared.messages.Message.{Message}
use Rattle.mav_messages.specs.Plans.{message_of_plan}
use Rattle.mav_sign.specs.declared.admission.Admit.{Admit}
use Rattle.mav_sign.specs.declared.admission.Admit.TheVariants.{Admitted, Unsigned, BadSignature, BelowFloor, NotLater, TooOld, TooManyStreams}
use Rattle.mav_sign.specs.History.{answer_to, stream_of, next_in, greatest_stamp}
use Rattle.mav_nodes.specs.declared.news.News.{News}
use Rattle.mav_nodes.specs.declared.link.Tried.TheVariants.{Plan, Service, Other, Dropped}
use Rattle.mav_nodes.specs.declared.faults.NodeFault.{NodeFault}
use Rattle.mav_nodes.specs.declared.faults.NodeFault.TheVariants.{NoMemory}
use Rattle.mav_nodes.specs.News.{NodeEvent, Drops, Shown, shown, events_of}
use Rattle.mav_nodes.specs.Payloads.{plan_in, service_in}
use Rattle.mav_nodes.specs.Links.{LinkView, Link, IsLink, Done, Outcome, done, after_events, and_then, tries, sends, sends_all}
use Rattle.mav_nodes.specs.Services.{ServiceStep}
use Rattle.mav_nodes.specs.Steps.{Side, Rules, CoreStep, answers, with_core, steps, steps_noted, serves, takes, admits, hears, IsNode}
use Rattle.mav_nodes.specs.declared.steps.Step.{Step}
use Rattle.mav_nodes.specs.Cores.{IsStep, ends, says}
use Rattle.mav_nodes.specs.Promises.{NodeDid, Fails, Did, LinkDid, IsAnswer, IsTried}

pub if_ok : {A E : Type 0} {P Q : A → Type 0} (r : Result A E) → ((a : A) → P a → Q a) → IfOk r P → IfOk r Q
if_ok (Ok a) f h = f a h
if_ok (Err e) f h = tt

pub if_err : {A E : Type 0} {P Q : E → Type 0} (r : Result A E) → ((e : E) → P e → Q e) → IfErr r P → IfErr r Q
if_err (Ok a) f h = tt
if_err (Err e) f h = f e h

-- how a call that only adds news fails
pub fails_for_memory : {A B : Type 0} (fault : NodeFault) (Is : A → Type 0) (does : A → Outcome B) (failed : Type 0) → fault ≡ NoMemory → Fails fault Is does failed
fails_for_memory fault Is does failed is = subst (λ (f : NodeFault). Fails f Is does failed) (sym is) tt

-- a link's part was done, and nothing follows it
pub core_did : {Core Services : Type 0} (core : Core) (services : Services) (outcome : Outcome Link) (endpoint : LinkView) (Is : Side Core Services → Type 0) (before after : List News) → LinkDid outcome endpoint before after → ((link : Link) → IsLink link endpoint → Is (record { link = link; core = core; services = services })) → Did (with_core core services [] outcome) Is before after
core_did core services None endpoint Is before after h f = h
core_did core services (Some d) endpoint Is before after h f =
    (f d.node h.0, h.1 ∙ ap (λ (l : List NodeEvent). events_of before ++ map shown l) (sym (append-nil d.events)))

-- news, a reply and news again
pub said_in_turn : (clock : ℕ) (link : Link) (first last : List NodeEvent) (answer : Option PlanMsg) (endpoint : LinkView) (one two three four : List News) → events_of two ≡ events_of one ++ map shown first → LinkDid (answers clock answer link) endpoint two three → events_of four ≡ events_of three ++ map shown last → LinkDid (says clock first answer last link) endpoint one four
said_in_turn clock link first last answer endpoint one two three four e h f =
    joined (answers clock answer link) h
  where
    joined : (outcome : Outcome Link) → LinkDid outcome endpoint two three → LinkDid (after_events first (ends last outcome)) endpoint one four
    joined None h = h
    joined (Some d) h =
        let A = events_of one in
        let F = map shown first in
        let D = map shown d.events in
        let L = map shown last in
        (h.0, f ∙ (ap (λ (l : List Shown). l ++ L) (h.1 ∙ ap (λ (l : List Shown). l ++ D) e) ∙ (append_assoc (A ++ F) D L ∙ (append_assoc A F (D ++ L) ∙ ap (λ (l : List Shown). A ++ l) (ap (λ (l : List Shown). F ++ l) (sym (map-append shown d.events last)) ∙ sym (map-append shown first (d.events ++ last)))))))

-- a core did a step, and the link did what it asks for
pub stepped : {Core Services : Type 0} (clock : ℕ) (link : Link) (services seen : Services) (did : CoreStep Core) (view : Core) (given : Step) (endpoint : LinkView) (before after : List News) → seen ≡ services → IsStep did view given → LinkDid (says clock did.first given.answer did.last link) endpoint before after → NodeDid (steps clock link services did) endpoint view seen before after
stepped {Core} {Services} clock link services seen did view given endpoint before after same is h =
    with_view did.core did.first did.last (answers clock did.answer link) is.core (subst (λ (a : Option PlanMsg). LinkDid (says clock did.first a did.last link) endpoint before after) is.answer h)
  where
    with_view : (core : Core) (first last : List NodeEvent) (outcome : Outcome Link) → view ≡ core → LinkDid (after_events first (ends last outcome)) endpoint before after → Did (after_events first (with_core core services last outcome)) (λ (node : Side Core Services). IsNode node endpoint view seen) before after
    with_view core first last None e h = h
    with_view core first last (Some d) e h = (record { link = h.0; core = e; services = same }, h.1)

-- services did a step, and the link sent what they reply
pub answered_all : {Core Services : Type 0} (clock : ℕ) (link : Link) (core view : Core) (did : ServiceStep Services) (services : Services) (endpoint : LinkView) (one two three : List News) → view ≡ core → services ≡ did.services → LinkDid (sends_all clock did.answers link) endpoint one two → events_of three ≡ events_of two ++ map shown did.last → NodeDid (serves clock link core did) endpoint view services one three
answered_all {Core} {Services} clock link core view did services endpoint one two three same is h e =
    with_last did.services did.last (sends_all clock did.answers link) is e h
  where
    with_last : (v : Services) (last : List NodeEvent) (outcome : Outcome Link) → services ≡ v → events_of three ≡ events_of two ++ map shown last → LinkDid outcome endpoint one two → Did (with_core core v last outcome) (λ (node : Side Core Services). IsNode node endpoint view services) one three
    with_last v last None is e h = h
    with_last v last (Some d) is e h =
        (record { link = h.0; core = same; services = is }, e ∙ (ap (λ (l : List Shown). l ++ map shown last) h.1 ∙ (append_assoc (events_of one) (map shown d.events) (map shown last) ∙ ap (λ (l : List Shown). events_of one ++ l) (sym (map-append shown d.events last)))))

pub serves_none : {Core Services : Type 0} (clock : ℕ) (link : Link) (core : Core) (did : ServiceStep Services) → sends_all clock did.answers link ≡ None → serves clock link core did ≡ None
serves_none {Core} {Services} clock link core did h = ap (with_core core did.services did.last) h

-- what nothing more is done about
pub steps_none : {Core Services : Type 0} (clock : ℕ) (link : Link) (services : Services) (did : CoreStep Core) (view : Core) (given : Step) → IsStep did view given → says clock did.first given.answer did.last link ≡ None → steps clock link services did ≡ None
steps_none {Core} {Services} clock link services did view given is h =
    with_none did.core did.first did.last (answers clock did.answer link) (ap (λ (a : Option PlanMsg). says clock did.first a did.last link) (sym is.answer) ∙ h)
  where
    with_none : (core : Core) (first last : List NodeEvent) (outcome : Outcome Link) → after_events first (ends last outcome) ≡ None → after_events first (with_core core services last outcome) ≡ None
    with_none core first last None h = refl
    with_none core first last (Some d) h = absurd cc

module _ {Core Services : Type 0} (rules : Rules Core Services) (clock : ℕ) where
  answered : (node : Side Core Services) (packet : Packet) (from : Stream) (message : PlanMsg) (answer : Admit) (block : Option SignatureBlock) → IsAnswer answer packet block (Plan from message) → admits rules clock node packet answer block ≡ steps_noted rules.note clock node.link node.services (rules.take node.core from message)
  answered node packet from message Admitted (Some block) h =
      λ i. takes rules clock node (sym h.0 i) (h.1 i) (service_in packet.id packet.payload)
  answered node packet from message Admitted None h = absurd h
  answered node packet from message Unsigned block h = absurd (let t : Plan from message ≡ Dropped Unsigned = h in cc)
  answered node packet from message BadSignature block h = absurd (let t : Plan from message ≡ Dropped BadSignature = h in cc)
  answered node packet from message (BelowFloor floor) block h = absurd (let t : Plan from message ≡ Dropped (BelowFloor floor) = h in cc)
  answered node packet from message (NotLater last) block h = absurd (let t : Plan from message ≡ Dropped (NotLater last) = h in cc)
  answered node packet from message (TooOld local) block h = absurd (let t : Plan from message ≡ Dropped (TooOld local) = h in cc)
  answered node packet from message TooManyStreams block h = absurd (let t : Plan from message ≡ Dropped TooManyStreams = h in cc)

  -- a frame whose plan message was returned
  pub hears_plan : (node : Side Core Services) (packet : Packet) (from : Stream) (message : PlanMsg) → IsTried node.link packet (Plan from message) → hears rules clock packet node ≡ steps_noted rules.note clock (tries packet node.link) node.services (rules.take node.core from message)
  hears_plan node packet from message h =
      answered (record node { link = tries packet node.link }) packet from message (answer_to node.link.key node.link.history packet) packet.block h

  -- the same, and the core took the message
  pub took : (node : Side Core Services) (packet : Packet) (from : Stream) (message : PlanMsg) (core view : Core) (given : Step) → IsTried node.link packet (Plan from message) → core ≡ node.core → IsStep (rules.take core from message) view given → (hears rules clock packet node ≡ steps_noted rules.note clock (tries packet node.link) node.services (rules.take node.core from message)) × IsStep (rules.take node.core from message) view given
  took node packet from message core view given tried same is =
      (hears_plan node packet from message tried, subst (λ (it : Core). IsStep (rules.take it from message) view given) same is)

  nothing_taken : (node : Side Core Services) (packet : Packet) (answer : Admit) (block : Option SignatureBlock) → IsAnswer answer packet block Other → admits rules clock node packet answer block ≡ done node []
  nothing_taken node packet Admitted (Some block) h =
      λ i. takes rules clock node (stream_of packet block) (h.plan_is i) (h.other_is i)
  nothing_taken node packet Admitted None h = absurd h
  nothing_taken node packet Unsigned block h = absurd (let t : Other ≡ Dropped Unsigned = h in cc)
  nothing_taken node packet BadSignature block h = absurd (let t : Other ≡ Dropped BadSignature = h in cc)
  nothing_taken node packet (BelowFloor floor) block h = absurd (let t : Other ≡ Dropped (BelowFloor floor) = h in cc)
  nothing_taken node packet (NotLater last) block h = absurd (let t : Other ≡ Dropped (NotLater last) = h in cc)
  nothing_taken node packet (TooOld local) block h = absurd (let t : Other ≡ Dropped (TooOld local) = h in cc)
  nothing_taken node packet TooManyStreams block h = absurd (let t : Other ≡ Dropped TooManyStreams = h in cc)

  served_so : (node : Side Core Services) (packet : Packet) (from : Stream) (message : Message) (answer : Admit) (block : Option SignatureBlock) → IsAnswer answer packet block (Service from message) → admits rules clock node packet answer block ≡ serves clock node.link node.core (rules.serve node.core node.services from message)
  served_so node packet from message Admitted (Some block) h =
      λ i. takes rules clock node (sym h.0 i) (h.1.plan_is i) (h.1.other_is i)
  served_so node packet from message Admitted None h = absurd h
  served_so node packet from message Unsigned block h = absurd (let t : Service from message ≡ Dropped Unsigned = h in cc)
  served_so node packet from message BadSignature block h = absurd (let t : Service from message ≡ Dropped BadSignature = h in cc)
  served_so node packet from message (BelowFloor floor) block h = absurd (let t : Service from message ≡ Dropped (BelowFloor floor) = h in cc)
  served_so node packet from message (NotLater last) block h = absurd (let t : Service from message ≡ Dropped (NotLater last) = h in cc)
  served_so node packet from message (TooOld local) block h = absurd (let t : Service from message ≡ Dropped (TooOld local) = h in cc)
  served_so node packet from message TooManyStreams block h = absurd (let t : Service from message ≡ Dropped TooManyStreams = h in cc)

  -- a frame whose message is for the services
  pub hears_service : (node : Side Core Services) (packet : Packet) (from : Stream) (message : Message) → IsTried node.link packet (Service from message) → hears rules clock packet node ≡ serves clock (tries packet node.link) node.core (rules.serve node.core node.services from message)
  hears_service node packet from message h =
      served_so (record node { link = tries packet node.link }) packet from message (answer_to node.link.key node.link.history packet) packet.block h

  -- a frame without a message for the node
  pub hears_other : (node : Side Core Services) (packet : Packet) → IsTried node.link packet Other → hears rules clock packet node ≡ done (record node { link = tries packet node.link }) []
  hears_other node packet h =
      nothing_taken (record node { link = tries packet node.link }) packet (answer_to node.link.key node.link.history packet) packet.block h

  dropped : (why answer : Admit) → Dropped why ≡ Dropped answer → answer ≡ why
  dropped why answer h = cc

  refused : (node : Side Core Services) (packet : Packet) (why answer : Admit) (block : Option SignatureBlock) → IsAnswer answer packet block (Dropped why) → admits rules clock node packet answer block ≡ done node (Drops why ∷ [])
  refused node packet why Admitted (Some block) h = absurd h
  refused node packet why Admitted None h = absurd h
  refused node packet why Unsigned block h = ap (λ (a : Admit). done node (Drops a ∷ [])) (dropped why Unsigned h)
  refused node packet why BadSignature block h = ap (λ (a : Admit). done node (Drops a ∷ [])) (dropped why BadSignature h)
  refused node packet why (BelowFloor floor) block h = ap (λ (a : Admit). done node (Drops a ∷ [])) (dropped why (BelowFloor floor) h)
  refused node packet why (NotLater last) block h = ap (λ (a : Admit). done node (Drops a ∷ [])) (dropped why (NotLater last) h)
  refused node packet why (TooOld local) block h = ap (λ (a : Admit). done node (Drops a ∷ [])) (dropped why (TooOld local) h)
  refused node packet why TooManyStreams block h = ap (λ (a : Admit). done node (Drops a ∷ [])) (dropped why TooManyStreams h)

  -- a frame that isn't admitted
  pub hears_dropped : (node : Side Core Services) (packet : Packet) (why : Admit) → IsTried node.link packet (Dropped why) → hears rules clock packet node ≡ done (record node { link = tries packet node.link }) (Drops why ∷ [])
  hears_dropped node packet why h =
      refused (record node { link = tries packet node.link }) packet why (answer_to node.link.key node.link.history packet) packet.block h

  -- the messages that a node knows don't change
  abbrev LinkKeeps : Outcome Link → List (ℕ × ℕ) → Type 0
  LinkKeeps None extras = Unit {0}
  LinkKeeps (Some d) extras = d.node.extras ≡ extras

  abbrev pub Keeps : Outcome (Side Core Services) → List (ℕ × ℕ) → Type 0
  Keeps None extras = Unit {0}
  Keeps (Some d) extras = d.node.link.extras ≡ extras

  unless : (t : Bool) (d : Done Link) (extras : List (ℕ × ℕ)) → d.node.extras ≡ extras → LinkKeeps (if t then None else Some d) extras
  unless true d extras e = tt
  unless false d extras e = e

  sends_keep : (message : Message) (link : Link) → LinkKeeps (sends clock message link) link.extras
  sends_keep message link = unless (nat_lt greatest_stamp (next_in link.history clock)) _ link.extras refl

  answers_keep : (answer : Option PlanMsg) (link : Link) → LinkKeeps (answers clock answer link) link.extras
  answers_keep None link = refl
  answers_keep (Some message) link = sends_keep (message_of_plan message) link

  core_keeps : (core : Core) (services : Services) (last : List NodeEvent) (outcome : Outcome Link) (extras : List (ℕ × ℕ)) → LinkKeeps outcome extras → Keeps (with_core core services last outcome) extras
  core_keeps core services last None extras h = tt
  core_keeps core services last (Some d) extras h = h

  behind_link : (events : List NodeEvent) (outcome : Outcome Link) (extras : List (ℕ × ℕ)) → LinkKeeps outcome extras → LinkKeeps (after_events events outcome) extras
  behind_link events None extras h = tt
  behind_link events (Some d) extras h = h

  then_keep : (next : Link → Outcome Link) (first : Outcome Link) (extras : List (ℕ × ℕ)) → LinkKeeps first extras → ((link : Link) → LinkKeeps (next link) link.extras) → LinkKeeps (and_then first next) extras
  then_keep next None extras h more = tt
  then_keep next (Some d) extras h more = behind_link d.events (next d.node) extras (subst (LinkKeeps (next d.node)) h (more d.node))

  all_keep : (messages : List Message) (link : Link) → LinkKeeps (sends_all clock messages link) link.extras
  all_keep [] link = refl
  all_keep (message ∷ messages) link = then_keep (sends_all clock messages) (sends clock message link) link.extras (sends_keep message link) (all_keep messages)

  behind_keeps : (events : List NodeEvent) (outcome : Outcome (Side Core Services)) (extras : List (ℕ × ℕ)) → Keeps outcome extras → Keeps (after_events events outcome) extras
  behind_keeps events None extras h = tt
  behind_keeps events (Some d) extras h = h

  takes_keep : (node : Side Core Services) (from : Stream) (message : Option PlanMsg) (other : Option Message) → Keeps (takes rules clock node from message other) node.link.extras
  takes_keep node from None None = refl
  takes_keep node from None (Some message) =
      let s = rules.serve node.core node.services from message in
      core_keeps node.core s.services s.last (sends_all clock s.answers node.link) node.link.extras (all_keep s.answers node.link)
  takes_keep node from (Some message) other =
      let s = rules.take node.core from message in
      let noted = rules.note node.services s.first in
      behind_keeps s.first (with_core s.core noted s.last (answers clock s.answer node.link)) node.link.extras (core_keeps s.core noted s.last (answers clock s.answer node.link) node.link.extras (answers_keep s.answer node.link))

  admits_keep : (node : Side Core Services) (packet : Packet) (answer : Admit) (block : Option SignatureBlock) → Keeps (admits rules clock node packet answer block) node.link.extras
  admits_keep node packet Admitted (Some block) = takes_keep node (stream_of packet block) (plan_in packet.id packet.payload) (service_in packet.id packet.payload)
  admits_keep node packet Admitted None = refl
  admits_keep node packet Unsigned block = refl
  admits_keep node packet BadSignature block = refl
  admits_keep node packet (BelowFloor floor) block = refl
  admits_keep node packet (NotLater last) block = refl
  admits_keep node packet (TooOld local) block = refl
  admits_keep node packet TooManyStreams block = refl

  pub hears_keep : (packet : Packet) (node : Side Core Services) → Keeps (hears rules clock packet node) node.link.extras
  hears_keep packet node =
      admits_keep (record node { link = tries packet node.link }) packet (answer_to node.link.key node.link.history packet) packet.block
