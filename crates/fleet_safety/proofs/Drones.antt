-- A drone's steps, in both worlds.
use Rattle.std.proofs.Common.{◌≡◌, ℕ, ◌+◌, ◌<◌, ◌≤◌, true, max, nat_lt, List, [], ◌∷◌, ◌++◌, length, slice_get, slice_set, Option, Some, None, refl, sym, ap, subst, arith, ◌∙◌}
use Rattle.std.specs.Prelude.{option_map, IfSome}
use Rattle.std.proofs.lemmas.List.{append-nil}
use Rattle.mav_names.specs.declared.names.Stream.{Stream}
use Rattle.plan_items.specs.declared.messages.PlanMsg.{PlanMsg}
use Rattle.plan_upload.specs.Addresses.{node_of}
use Rattle.plan_upload.specs.Changes.{change_by}
use Rattle.plan_upload.specs.Plans.{Plans}
use Rattle.plan_upload.specs.declared.changes.Change.{Change}
use Rattle.plan_upload.specs.declared.changes.Change.TheVariants.{Same, Install, Empty}
use Rattle.plan_upload.specs.Drone.{DroneState, DroneStep, DroneTick, drone_step, drone_tick}
use Rattle.plan_safety.specs.Frames.{Frame}
use Rattle.plan_safety.specs.Store.{StoreEvent, at}
use Rattle.plan_safety.specs.History.{steps_of, final}
use Rattle.plan_safety.specs.World as world
use Rattle.plan_safety.specs.World.{Nodes, Distinct, World, DroneNode, Drone_waits, Drone_ticks, To_drone, Speaks, happens, quiet, frame_of, drone_news}
use Rattle.plan_safety.proofs.Keys.{by_test, at_same, at_apart}
use Rattle.plan_safety.proofs.Fleet.{All, Owner, harmless_at}
use Rattle.plan_safety.proofs.DroneShape.{Shape, shape}
use Rattle.plan_safety.proofs.FleetMoves.{plus}
use Rattle.plan_safety.proofs.FleetDrone.{says_frame, says_node, sends_is}
use Rattle.plan_ranges.specs.Ranges.{StreamInRange, InRange, DroneInRange, DroneStepInRange, DroneTickInRange}
use Rattle.plan_ranges.proofs.MessageRanges.{carried}
use Rattle.plan_ranges.proofs.DroneRanges as ranges
use Rattle.mav_frame.specs.Packet.{Packet, SignatureBlock}
use Rattle.mav_frame.specs.Encoding.{encoding}
use Rattle.mav_messages.specs.declared.messages.Message.{Message}
use Rattle.mav_messages.specs.Plans.{message_of_plan, plan_of}
use Rattle.mav_sign.specs.declared.admission.Admit.{Admit}
use Rattle.mav_sign.specs.declared.admission.Admit.TheVariants.{Admitted, Unsigned, BadSignature, BelowFloor, NotLater, TooOld, TooManyStreams}
use Rattle.mav_sign.specs.Signing.{Verifies}
use Rattle.mav_sign.specs.History.{Entry, tried, stamped, next_in, answer_to, block_answer, stamp_answer, greatest_stamp}
use Rattle.mav_sign.specs.History as signed
use Rattle.drone_sim.specs.Sim.{armed}
use Rattle.mav_nodes.specs.News.{NodeEvent, Sends, Drops}
use Rattle.mav_nodes.specs.Links.{Link, Outcome, done, after_events, sends, sends_all}
use Rattle.mav_nodes.specs.Links as links
use Rattle.mav_nodes.specs.Payloads.{plan_in, service_in}
use Rattle.mav_nodes.specs.Services.{ServiceStep, DroneServices, drone_serves, drone_notes, drone_flies}
use Rattle.mav_nodes.specs.Steps.{answers, with_core, steps, serves, takes, admits, hears}
use Rattle.mav_nodes.specs.Nodes.{DroneSide, change_events, drone_core, drone_rules, drone_ticks, drone_heartbeat, drone_beats, tick_answer, drone_sims}
use Rattle.node_reports.specs.Nodes.{Node, Drone}
use Rattle.fleet_world.specs.Steps.{packets_in}
use Rattle.fleet_safety.specs.Reporting.{sent_seen, reported, changes_reported, ends_reported, step_reported, refused_reported}
use Rattle.fleet_safety.specs.Actions.{Order, speaks_all, moves, ticks, comes_to, index_of, if_admitted, if_plan, if_sent, hearing}
use Rattle.fleet_invariants.specs.Kept.{Reads}
use Rattle.fleet_safety.proofs.Times.{KeepsTime, IsDue, Later, due_keeps, waits_due, dropped_keeps, admits_due, admits_keeps, sends_keeps, admitted_later}
use Rattle.fleet_safety.proofs.Lists.{set_there}
use Rattle.fleet_safety.proofs.Frames.{Found, SameFrame, SameNew, IsFirst, found, same_more, same_length}
use Rattle.fleet_safety.proofs.Own.{IsTame, own_of, tame_nothing, tame_drone, orders_among, no_order_of_drone}
use Rattle.fleet_safety.proofs.Reports.{Chain, chain_end, chain_on, silent_step, seen_by, packets_on, changes_are, no_ends}
use Rattle.fleet_safety.proofs.Sendings.{packet_of, sent_frame, read_second, step_is, quiet_seen, sends_seen}
use Rattle.fleet_safety.proofs.Fits.{Stands, Reached, Fits, reached_all, MovesTo, fits_on, Alike, Led, Leads}
use Rattle.fleet_safety.proofs.Services.{IsOther, AllOther, IsAside, aside_nothing, drone_others, flown_others, flown_aside}
use Rattle.fleet_safety.proofs.Spoken.{Spoke, spoke_led, Speaker, says_all, said, answers_unsaid, unsaid_leads, says_leads, then_says}

-- the world after a step of a drone
abbrev pub drone_after : World → Stream → DroneNode → Option Frame → List StoreEvent → World
drone_after u x y f news = record { drone = at u.drone x y; station = u.station; sent = plus f u.sent; news = news }

abbrev pub drone_node : DroneState → (Stream → ℕ) → ℕ → DroneNode
drone_node state last next = record { state = state; last = last; next = next }

less : (a b : ℕ) → a < b → nat_lt a b ≡ true
less a b l = grind arith

-- a frame that a drone admits
drone_hears : (n : Nodes) (u : World) (x : Stream) (z : DroneNode) (index : ℕ) (from : Stream) (stamp : ℕ) (m : PlanMsg) → n.is_drone x ≡ true → u.drone x ≡ z → slice_get u.sent index ≡ Some (frame_of from stamp (Some m)) → z.last from < stamp
    → happens n u (To_drone index x true) ≡ drone_after u x (says_node (drone_node (drone_step true z.state from m).drone (at z.last from stamp) (max z.next stamp)) (drone_step true z.state from m).answer) (says_frame x (max z.next stamp) (drone_step true z.state from m).answer) (drone_news x (drone_step true z.state from m).event)
drone_hears n u x z index from stamp m here own there late =
    rw (here, there, own, less _ _ late)
    (let r : DroneStep = drone_step true z.state from m in
    sends_is (record u { news = drone_news x r.event }) x (drone_node r.drone (at z.last from stamp) (max z.next stamp)) r.answer)

-- a tick, and a message of another service
drone_ticks_on : (n : Nodes) (u : World) (x : Stream) (z : DroneNode) → n.is_drone x ≡ true → u.drone x ≡ z
    → happens n u (Drone_ticks x) ≡ drone_after u x (says_node (drone_node (drone_tick z.state).drone z.last z.next) (world.tick_answer (drone_tick z.state).answer)) (says_frame x z.next (world.tick_answer (drone_tick z.state).answer)) []
drone_ticks_on n u x z here own =
    rw (here, own) (sends_is (quiet u) x (drone_node (drone_tick z.state).drone z.last z.next) (world.tick_answer (drone_tick z.state).answer))

drone_speaks_on : (n : Nodes) (u : World) (x : Stream) (z : DroneNode) → n.is_drone x ≡ true → u.drone x ≡ z → happens n u (Speaks x) ≡ drone_after u x (drone_node z.state z.last (z.next + 1)) (Some (frame_of x z.next None)) []
drone_speaks_on n u x z here own = rw (here, own) refl

answer_is : (o : Option (Stream × PlanMsg)) → world.tick_answer o ≡ tick_answer o
answer_is None = refl
answer_is (Some a) = refl

abbrev pub stream_at : ℕ → ℕ → ℕ → Stream
stream_at sys comp link = record { sys = sys; comp = comp; link = link }

-- the index, counted from the newest
pub one_index : (index other earlier sent frames : ℕ) → index + (earlier + 1) ≡ sent → other + (earlier + 1) ≡ frames → sent ≡ frames → index ≡ other
one_index index other earlier sent frames a b c = omega arith

-- a frame without a signature isn't admitted
pub unsigned : Unsigned ≡ Admitted → ⊥
unsigned e = absurd (cc)

pub frame_is : (f : Frame) (from : Stream) (stamp : ℕ) (m : Option PlanMsg) → f.from ≡ from → f.timestamp ≡ stamp → f.message ≡ m → f ≡ frame_of from stamp m
frame_is f from stamp m a b c = λ i. record { from = a i; timestamp = b i; message = c i }

no_packets : (by : Stream) (plans : Plans) (change : Change) → packets_in (change_events by plans change) ≡ []
no_packets by plans Same = refl
no_packets by plans (Install kind) = refl
no_packets by plans (Empty None) = refl
no_packets by plans (Empty (Some kind)) = refl

pub changes_unspoken : (wait : ℕ → world.Event) (me by : Stream) (plans : Plans) (change : Change) → speaks_all wait me (change_events by plans change) ≡ []
changes_unspoken wait me by plans Same = refl
changes_unspoken wait me by plans (Install kind) = refl
changes_unspoken wait me by plans (Empty None) = refl
changes_unspoken wait me by plans (Empty (Some kind)) = refl

module _ (n : Nodes) (sound : Distinct n) (clock : ℕ) (nodes : List Node) (sent : List Packet) (w : World) (fits : Fits n clock nodes sent w) (k : ℕ) (a : DroneSide) (there : slice_get nodes k ≡ Some (Drone a)) where
  abbrev x : Stream
  x = a.link.me

  here : n.is_drone x ≡ true
  here = fits.covers k (Drone a) there

  stands : Stands clock w (Drone a)
  stands = fits.stands k (Drone a) there

  zero_link : x.link ≡ 0
  zero_link = (fits.named.proper k (Drone a) there).0

  stream : StreamInRange x
  stream = (fits.named.proper k (Drone a) there).2

  many : length sent ≡ length w.sent
  many = same_length sent w.sent fits.frames

  -- the drone waits until it may send
  abbrev now : ℕ
  now = next_in a.link.history clock

  abbrev waited : DroneNode
  waited = drone_node (w.drone x).state (w.drone x).last (max (w.drone x).next now)

  abbrev u : World
  u = record (quiet w) { drone = at w.drone x waited }

  is_u : happens n w (Drone_waits x now) ≡ u
  is_u = rw here refl

  own : u.drone x ≡ waited
  own = at_same w.drone x waited

  core_of_waited : drone_node waited.state waited.last waited.next ≡ drone_node a.core waited.last waited.next
  core_of_waited = ap (λ z. drone_node z waited.last waited.next) stands.0

  due : IsDue clock a.link.history waited.last waited.next
  due = waits_due clock a.link.history (w.drone x).last (w.drone x).next stands.1

  -- a call, and what is said in it
  abbrev Goes : Outcome DroneSide → List world.Event → List Order → Type 0
  Goes o es os = Leads n clock nodes sent w k (Drone a) Drone o (es ++ said (Drone_waits x) x o) os

  -- nothing happens in the world
  still : (b : DroneSide) (es : List NodeEvent) → Alike (Drone a) (Drone b) → a.core ≡ b.core → KeepsTime clock b.link.history (w.drone x).last (w.drone x).next → packets_in es ≡ [] → seen_by (node_of x) (length sent) es ≡ [] → Spoke n clock nodes sent w k (Drone a) (record { node = Drone b; events = es }) []
  still b es alike core time none unseen = record {
    unseen = unseen;
    unreported = refl;
    idle = λ h. refl;
    alike = alike;
    fits = fits_on n clock nodes sent w w k (Drone a) (Drone b) fits there alike.role moves (packets_in es) (same_more sent (packets_in es) w.sent None fits.frames none) fits.reached;
  }
    where
      moves : MovesTo clock w w x (Drone b)
      moves = record {
        own = subst (λ me. ((w.drone me).state ≡ b.core) × KeepsTime clock b.link.history (w.drone me).last (w.drone me).next × DroneInRange b.core) alike.role (stands.0 ∙ core, time, subst DroneInRange core stands.2);
        drones = λ y far. refl;
        stations = λ y far. refl;
      }

  still_led : (b : DroneSide) (es : List NodeEvent) → Alike (Drone a) (Drone b) → a.core ≡ b.core → KeepsTime clock b.link.history (w.drone x).last (w.drone x).next → packets_in es ≡ [] → seen_by (node_of x) (length sent) es ≡ [] → Led n clock nodes sent w k (Drone a) (record { node = Drone b; events = es }) [] []
  still_led b es alike core time none unseen = spoke_led n clock nodes sent w k (Drone a) (record { node = Drone b; events = es }) [] (still b es alike core time none unseen)

  -- the drone waits, and then an event: what the world is then
  module _ (e : world.Event) (y : DroneNode) (f : Option Frame) (news : List StoreEvent) (is : happens n u e ≡ drone_after u x y f news) (none : refused_reported n u e ≡ []) where
    abbrev v : World
    v = drone_after u x y f news

    chain : Chain n w v (Drone_waits x now ∷ e ∷ []) (step_reported w u ++ (step_reported u v ++ [])) (λ h. steps_of v.sent v.news (steps_of u.sent u.news h))
    chain = chain_on n w u v (Drone_waits x now) (e ∷ []) (step_reported u v ++ []) (λ h. steps_of v.sent v.news h) is_u refl (chain_on n u v v e [] [] (λ h. h) is none (chain_end n v))

    reports : reported n w (Drone_waits x now ∷ e ∷ []) ≡ step_reported u v
    reports = chain.reports ∙ ap (λ r. r ++ (step_reported u v ++ [])) (silent_step w u refl refl) ∙ append-nil (step_reported u v)

    fits_after : (b : DroneSide) (es : List NodeEvent) → Alike (Drone a) (Drone b) → y.state ≡ b.core → DroneInRange b.core → KeepsTime clock b.link.history y.last y.next → SameNew (packets_in es) f → Fits n clock (slice_set nodes k (Drone b)) (sent ++ packets_in es) (final n w (Drone_waits x now ∷ e ∷ []))
    fits_after b es alike state range time new =
        subst (Fits n clock (slice_set nodes k (Drone b)) (sent ++ packets_in es)) (sym chain.ends)
        (fits_on n clock nodes sent w v k (Drone a) (Drone b) fits there alike.role moves (packets_in es) (same_more sent (packets_in es) w.sent f fits.frames new) (subst (Reached n) chain.ends (reached_all n sound w (Drone_waits x now ∷ e ∷ []) fits.reached)))
      where
        moves : MovesTo clock w (drone_after u x y f news) x (Drone b)
        moves = record {
          own = subst (λ me. ((at u.drone x y me).state ≡ b.core) × KeepsTime clock b.link.history (at u.drone x y me).last (at u.drone x y me).next × DroneInRange b.core) alike.role
              (subst (λ (z : DroneNode). (z.state ≡ b.core) × KeepsTime clock b.link.history z.last z.next × DroneInRange b.core) (sym (at_same u.drone x y)) (state, time, range));
          drones = λ z far. at_apart u.drone x z y far ∙ at_apart w.drone x z waited far;
          stations = λ z far. refl;
        }

    led : (b : DroneSide) (es : List NodeEvent) → IsTame news → orders_among news ≡ [] → Alike (Drone a) (Drone b) → y.state ≡ b.core → DroneInRange b.core → KeepsTime clock b.link.history y.last y.next → SameNew (packets_in es) f → seen_by (node_of x) (length sent) es ≡ step_reported u v → Led n clock nodes sent w k (Drone a) (record { node = Drone b; events = es }) (moves clock (Drone a) e) []
    led b es tame idle alike state range time new seen = record {
      own = own_of n w (Drone_waits x now ∷ e ∷ []) v.sent news [] (chain.steps []) tame idle;
      report = seen ∙ sym reports;
      alike = alike;
      fits = fits_after b es alike state range time new;
    }

  -- a message of another service
  one_spoken : (m : Message) → IsOther m → Reads (Sends (packet_of a.link clock m) m) → Spoke n clock nodes sent w k (Drone a) (record { node = Drone (record a { link = links.sent_at now a.link }); events = Sends (packet_of a.link clock m) m ∷ [] }) (Drone_waits x now ∷ Speaks x ∷ [])
  one_spoken m other reads =
      let y : DroneNode = drone_node a.core waited.last (waited.next + 1) in
      let f : Frame = frame_of x waited.next None in
      let is : happens n u (Speaks x) ≡ drone_after u x y (Some f) [] = drone_speaks_on n u x (drone_node a.core waited.last waited.next) here (own ∙ core_of_waited) in
      let b : DroneSide = record a { link = links.sent_at now a.link } in
      record {
        unseen = ap (λ (o : Option PlanMsg). sent_seen (length sent + 1) (packet_of a.link clock m).from o ++ []) other;
        unreported = reports (Speaks x) y (Some f) [] is refl ∙ step_is u (drone_after u x y (Some f) []) (Some f) refl;
        idle = λ h. (chain (Speaks x) y (Some f) [] is refl).steps h;
        alike = record { role = refl; key = refl };
        fits = fits_after (Speaks x) y (Some f) [] is refl b (Sends (packet_of a.link clock m) m ∷ []) (record { role = refl; key = refl }) refl stands.2 (sends_keeps clock a.link.history waited.last waited.next due)
            (packet_of a.link clock m, refl, sent_frame a.link clock waited.next m None zero_link stream tt due.next due.some other reads);
      }

  -- a step of the core: nothing is sent, or a message in one frame
  module _ (link : Link) (core : DroneState) (services : DroneServices) (last : Stream → ℕ) (next : ℕ) (news : List StoreEvent) (first : List NodeEvent) (ready : IsDue clock link.history last next) (range : DroneInRange core) (me : x ≡ link.me) (key : a.link.key ≡ link.key) (none : packets_in first ≡ []) (changes : (before : ℕ) → seen_by (node_of x) before first ≡ changes_reported news) (endless : ends_reported news ≡ []) (tame : IsTame news) (idle : orders_among news ≡ []) where
    nothing_behind : (before : ℕ) → seen_by (node_of x) before [] ≡ ends_reported news
    nothing_behind before = sym endless

    says_nothing : (e : world.Event) → happens n u e ≡ drone_after u x (drone_node core last next) None news → refused_reported n u e ≡ [] → Led n clock nodes sent w k (Drone a) (record { node = Drone (record { link = link; core = core; services = services }); events = first ++ [] }) (moves clock (Drone a) e) []
    says_nothing e is silent =
        led e (drone_node core last next) None news is silent (record { link = link; core = core; services = services }) (first ++ []) tame idle (record { role = me; key = key }) refl range (due_keeps clock link.history last next ready)
        (packets_on first [] ∙ append-nil (packets_in first) ∙ none)
        (quiet_seen x (length sent) (length w.sent) first [] news none changes nothing_behind many ∙ sym (step_is u (drone_after u x (drone_node core last next) None news) None refl))

    says : (e : world.Event) (message : Message) (said : Option PlanMsg) → IfSome said InRange → plan_of message ≡ said → happens n u e ≡ drone_after u x (drone_node core last (next + 1)) (Some (frame_of x next said)) news → refused_reported n u e ≡ [] → Leads n clock nodes sent w k (Drone a) Drone (after_events first (with_core core services [] (sends clock message link))) (moves clock (Drone a) e) []
    says e message said within carries is silent =
        by_test (λ o. Leads n clock nodes sent w k (Drone a) Drone (after_events first (with_core core services [] o)) (moves clock (Drone a) e) []) (nat_lt greatest_stamp (next_in link.history clock)) _ _ (λ _. tt)
        (λ _ reads.
        let q : Packet = packet_of link clock message in
        let f : Frame = frame_of x next said in
        let same : SameFrame q f = subst (λ s. SameFrame q (frame_of s next said)) (sym me) (sent_frame link clock next message said (subst (λ (s : Stream). s.link ≡ 0) me zero_link) (subst StreamInRange me stream) within ready.next ready.some carries (read_second first (Sends q message ∷ []) reads).0) in
        led e (drone_node core last (next + 1)) (Some f) news is silent (record { link = links.sent_at (next_in link.history clock) link; core = core; services = services }) (first ++ Sends q message ∷ []) tame idle (record { role = me; key = key }) refl range (sends_keeps clock link.history last next ready)
        (q, packets_on first (Sends q message ∷ []) ∙ ap (λ ps. ps ++ q ∷ []) none, same)
        (sends_seen x (length sent) (length w.sent) first [] news none changes nothing_behind many q message said next (sym (ap node_of me)) carries ∙ sym (step_is u (drone_after u x (drone_node core last (next + 1)) (Some f) news) (Some f) refl)))

    -- by the answer
    answers_lead : (o : Option PlanMsg) → IfSome o InRange → (e : world.Event) → happens n u e ≡ drone_after u x (says_node (drone_node core last next) o) (says_frame x next o) news → refused_reported n u e ≡ [] → Leads n clock nodes sent w k (Drone a) Drone (after_events first (with_core core services [] (answers clock o link))) (moves clock (Drone a) e) []
    answers_lead None within e is silent = λ _. says_nothing e is silent
    answers_lead (Some m) within e is silent = says e (message_of_plan m) (Some m) within (carried m within) is silent

  -- ---- the drone's services send messages

  serves_say : (speaker : Speaker n clock k Drone Drone_waits) (history : List Entry) → KeepsTime clock history (w.drone x).last (w.drone x).next → (step : ServiceStep DroneServices) → AllOther step.answers → IsAside step.last
      → Goes (serves clock (record a.link { history = history }) a.core step) [] []
  serves_say speaker history time step others aside =
      let b : DroneSide = record { link = record a.link { history = history }; core = a.core; services = step.services } in
      let first : Spoke n clock nodes sent w k (Drone a) (record { node = Drone b; events = [] }) [] = still b [] (record { role = refl; key = refl }) refl time refl refl in
      let o : Outcome DroneSide = with_core b.core b.services step.last (sends_all clock step.answers b.link) in
      says_leads n clock nodes sent w k Drone Drone_waits a o
      (then_says n clock nodes sent w k Drone Drone_waits a b refl first o
      (says_all n clock k Drone Drone_waits speaker step.last aside step.answers others (slice_set nodes k (Drone b)) (sent ++ []) w first.fits b (set_there nodes k (Drone a) (Drone b) there)))

  -- ---- a frame comes

  -- with the frame tried, and that answer
  abbrev tried_with : Packet → Admit → DroneSide
  tried_with p answer = record a { link = record a.link { history = a.link.history ++ tried p answer ∷ [] } }

  unchanged : (p : Packet) (answer : Admit) → Alike (Drone a) (Drone (tried_with p answer))
  unchanged p answer = record { role = refl; key = refl }

  -- a frame that isn't admitted
  dropped : (p : Packet) (answer : Admit) → signed.admitted_by (tried p answer) ≡ None → Goes (done (tried_with p answer) (Drops answer ∷ [])) [] []
  dropped p answer none _ =
      still_led (tried_with p answer) (Drops answer ∷ []) (unchanged p answer) refl
      (dropped_keeps clock a.link.history (w.drone x).last (w.drone x).next (tried p answer) none refl stands.1) refl refl

  -- what an admitted frame with a plan message is in the world
  abbrev brought : Packet → List world.Event
  brought p = if_sent (index_of (encoding p) sent) (λ index. moves clock (Drone a) (comes_to (Drone a) index))

  -- one that is admitted was sent
  module _ (speaker : Speaker n clock k Drone Drone_waits) (p : Packet) (block : SignatureBlock) (signs : p.block ≡ Some block) (later : Later a.link.key a.link.history p block) (known : IsFirst sent p) where
    abbrev from : Stream
    from = signed.stream_of p block

    abbrev b : DroneSide
    b = tried_with p Admitted

    entered : signed.admitted_by (tried p Admitted) ≡ Some (stamped p block)
    entered = ap (option_map (stamped p)) signs

    its : Found p known.earlier w.sent
    its = found sent w.sent known.earlier p fits.frames known.found

    brought_is : brought p ≡ moves clock (Drone a) (To_drone its.index x true)
    brought_is =
        ap (λ o. if_sent o (λ index. moves clock (Drone a) (comes_to (Drone a) index))) known.index_is
        ∙ ap (λ index. moves clock (Drone a) (To_drone index x true)) (one_index known.index its.index known.earlier (length sent) (length w.sent) known.counts its.counts many)

    stream_from : its.frame.from ≡ from
    stream_from = its.same.from ∙ sym (ap (λ link. stream_at p.from.sys p.from.comp link) (its.same.block block signs).0)

    stamp_is : its.frame.timestamp ≡ block.stamp
    stamp_is = sym (its.same.block block signs).1

    time : KeepsTime clock b.link.history (w.drone x).last (w.drone x).next
    time = admits_keeps clock a.link.history (tried p Admitted) (stamped p block) entered refl (w.drone x).last (w.drone x).next stands.1

    -- with a message that isn't for it
    other : Goes (done b []) [] []
    other _ = still_led b [] (unchanged p Admitted) refl time refl refl

    -- with a message of its services
    served : (m : Message) → Goes (serves clock b.link b.core (drone_serves b.core b.services from m)) [] []
    served m = serves_say speaker b.link.history time (drone_serves b.core b.services from m) (drone_others b.core b.services from m) aside_nothing

    -- with a message of the protocol
    module _ (m : PlanMsg) (carries : plan_in p.id p.payload ≡ Some m) where
      abbrev r : DroneStep
      r = drone_step true a.core from m

      abbrev last : Stream → ℕ
      last = at waited.last from block.stamp

      abbrev next : ℕ
      next = max waited.next block.stamp

      lies : slice_get w.sent its.index ≡ Some (frame_of from block.stamp (Some m))
      lies = its.there ∙ ap Some (frame_is its.frame from block.stamp (Some m) stream_from stamp_is (its.same.message ∙ carries))

      late : waited.last from < block.stamp
      late = later.above (waited.last from) (stands.1.last from) (subst (λ t. 1 ≤ t) stamp_is its.same.some)

      is : happens n u (To_drone its.index x true) ≡ drone_after u x (says_node (drone_node r.drone last next) r.answer) (says_frame x next r.answer) (drone_news x r.event)
      is = drone_hears n u x (drone_node a.core waited.last waited.next) its.index from block.stamp m here (own ∙ core_of_waited) lies late

      ready : IsDue clock b.link.history last next
      ready = admits_due clock a.link.history (tried p Admitted) (stamped p block) entered refl waited.last waited.next due

      shaped : Shape n a.core from r
      shaped =
          let all : All n w fits.reached.0 = fits.reached.1 in
          let harmless = harmless_at n w.sent its.index (frame_of from block.stamp (Some m)) lies all.frames in
          let owner : Owner n a.core.upload = subst (λ (y : DroneState). Owner n y.upload) stands.0 (all.owners x here) in
          let sys : a.core.sys ≡ x.sys = subst (λ (y : DroneState). y.sys ≡ x.sys) stands.0 (all.systems x here) in
          shape true n sound a.core from owner x m here sys harmless

      ranged : DroneStepInRange r
      ranged = ranges.steps true from (subst StreamInRange stream_from its.same.stream) a.core m stands.2 (subst (λ o. IfSome o InRange) (its.same.message ∙ carries) its.same.range)

      -- what its services make of the step
      abbrev noted : DroneServices
      noted = drone_notes b.services (drone_core b.core from m).first

      plan : Leads n clock nodes sent w k (Drone a) Drone (steps clock b.link noted (drone_core b.core from m)) (brought p) []
      plan =
          subst (λ es. Leads n clock nodes sent w k (Drone a) Drone (steps clock b.link noted (drone_core b.core from m)) es []) (sym brought_is)
          (answers_lead b.link r.drone noted last next (drone_news x r.event) (change_events from r.drone.plans (change_by r.event)) ready ranged.drone refl refl
          (no_packets from r.drone.plans (change_by r.event)) (changes_are n a.core x from r shaped) (no_ends x r.event) (tame_drone x r.event) (no_order_of_drone x r.event) r.answer ranged.answer (To_drone its.index x true) is refl)

      planned : Goes (steps clock b.link noted (drone_core b.core from m)) (brought p) []
      planned =
          unsaid_leads n clock nodes sent w k (Drone a) Drone (Drone_waits x) x (steps clock b.link noted (drone_core b.core from m)) (brought p) [] plan
          (answers_unsaid (Drone_waits x) x clock (change_events from r.drone.plans (change_by r.event)) [] r.drone noted r.answer b.link (changes_unspoken (Drone_waits x) x from r.drone.plans (change_by r.event)) refl)

    takes_lead : (o : Option PlanMsg) (s : Option Message) → plan_in p.id p.payload ≡ o → Goes (takes drone_rules clock b from o s) (if_plan o (brought p)) []
    takes_lead None None e = other
    takes_lead None (Some m) e = served m
    takes_lead (Some m) s e = planned m e

  -- by the answer
  module _ (speaker : Speaker n clock k Drone Drone_waits) (p : Packet) (known : Verifies a.link.key p p.block → IsFirst sent p) where
    by_answer : (answer : Admit) (block : Option SignatureBlock) → answer_to a.link.key a.link.history p ≡ answer → p.block ≡ block → Goes (admits drone_rules clock (tried_with p answer) p answer block) (if_admitted answer (if_plan (plan_in p.id p.payload) (brought p))) []
    by_answer Admitted None e signs = absurd (unsigned (subst (λ o. block_answer a.link.key (λ stream stamp. stamp_answer stream stamp a.link.history) p o ≡ Admitted) signs e))
    by_answer Admitted (Some block) e signs =
        let later : Later a.link.key a.link.history p block =
        admitted_later a.link.key a.link.history p block (subst (λ o. block_answer a.link.key (λ stream stamp. stamp_answer stream stamp a.link.history) p o ≡ Admitted) signs e) in
        takes_lead speaker p block signs later (known (subst (Verifies a.link.key p) (sym signs) later.verifies)) (plan_in p.id p.payload) (service_in p.id p.payload) refl
    by_answer Unsigned block e signs = dropped p Unsigned refl
    by_answer BadSignature block e signs = dropped p BadSignature refl
    by_answer (BelowFloor floor) block e signs = dropped p (BelowFloor floor) refl
    by_answer (NotLater last) block e signs = dropped p (NotLater last) refl
    by_answer (TooOld local) block e signs = dropped p (TooOld local) refl
    by_answer TooManyStreams block e signs = dropped p TooManyStreams refl

    frame_goes : Goes (hears drone_rules clock p a) (hearing clock sent (Drone a) p) []
    frame_goes = by_answer (answer_to a.link.key a.link.history p) p.block refl refl

  -- ---- a tick, and a HEARTBEAT
  pub ticks_lead : Goes (drone_ticks clock a) (moves clock (Drone a) (ticks (Drone a))) []
  ticks_lead =
      unsaid_leads n clock nodes sent w k (Drone a) Drone (Drone_waits x) x (drone_ticks clock a) (moves clock (Drone a) (ticks (Drone a))) []
      (answers_lead a.link t.drone a.services waited.last waited.next [] [] due ranged.drone refl refl refl (λ before. refl) refl tame_nothing refl (tick_answer t.answer) (within t.answer ranged.answer) (Drone_ticks x) is refl)
      (answers_unsaid (Drone_waits x) x clock [] [] t.drone a.services (tick_answer t.answer) a.link refl refl)
    where
      t : DroneTick
      t = drone_tick a.core

      ranged : DroneTickInRange (drone_tick a.core)
      ranged = ranges.ticks a.core stands.2

      within : (o : Option (Stream × PlanMsg)) → IfSome o (λ sent. StreamInRange sent.0 × InRange sent.1) → IfSome (tick_answer o) InRange
      within None h = tt
      within (Some s) h = h.1

      is : happens n u (Drone_ticks x) ≡ drone_after u x (says_node (drone_node (drone_tick a.core).drone waited.last waited.next) (tick_answer (drone_tick a.core).answer)) (says_frame x waited.next (tick_answer (drone_tick a.core).answer)) []
      is =
          drone_ticks_on n u x (drone_node a.core waited.last waited.next) here (own ∙ core_of_waited)
          ∙ ap (λ o. drone_after u x (says_node (drone_node (drone_tick a.core).drone waited.last waited.next) o) (says_frame x waited.next o) []) (answer_is (drone_tick a.core).answer)

  -- one tick of its simulator
  pub sims_lead : Speaker n clock k Drone Drone_waits → Goes (drone_sims clock a) [] []
  sims_lead speaker = serves_say speaker a.link.history stands.1 (drone_flies a.core a.services) (flown_others a.core a.services) (flown_aside a.core a.services)

  pub beats_lead : Goes (drone_beats clock a) [] []
  beats_lead =
      by_test (λ o. Goes (with_core a.core a.services [] o) [] []) (nat_lt greatest_stamp now) _ _ (λ _. tt)
      (λ _ reads.
      let m : Message = drone_heartbeat (armed a.services.sim) in
      spoke_led n clock nodes sent w k (Drone a) (record { node = Drone (record a { link = links.sent_at now a.link }); events = Sends (packet_of a.link clock m) m ∷ [] }) (Drone_waits x now ∷ Speaks x ∷ []) (one_spoken m refl reads.0))

-- how a drone sends a message of another service
speaker : (n : Nodes) → Distinct n → (clock k : ℕ) → Speaker n clock k Drone Drone_waits
speaker n distinct clock k = record {
  one = λ nodes sent w fits a there m other reads. one_spoken n distinct clock nodes sent w fits k a there m other reads;
  alike = λ a. record { role = refl; key = refl };
}

pub frame_leads : (n : Nodes) → Distinct n → (clock : ℕ) (nodes : List Node) (sent : List Packet) (w : World) → Fits n clock nodes sent w → (k : ℕ) (a : DroneSide) → slice_get nodes k ≡ Some (Drone a) → (p : Packet) → (Verifies a.link.key p p.block → IsFirst sent p)
    → Leads n clock nodes sent w k (Drone a) Drone (hears drone_rules clock p a) (hearing clock sent (Drone a) p ++ said (Drone_waits a.link.me) a.link.me (hears drone_rules clock p a)) []
frame_leads n distinct clock nodes sent w fits k a there p known = frame_goes n distinct clock nodes sent w fits k a there (speaker n distinct clock k) p known

pub flight_leads : (n : Nodes) → Distinct n → (clock : ℕ) (nodes : List Node) (sent : List Packet) (w : World) → Fits n clock nodes sent w → (k : ℕ) (a : DroneSide) → slice_get nodes k ≡ Some (Drone a)
    → Leads n clock nodes sent w k (Drone a) Drone (drone_sims clock a) (said (Drone_waits a.link.me) a.link.me (drone_sims clock a)) []
flight_leads n distinct clock nodes sent w fits k a there = sims_lead n distinct clock nodes sent w fits k a there (speaker n distinct clock k)
