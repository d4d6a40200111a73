-- A station's steps, in both worlds.
use Rattle.std.proofs.Common.{◌≡◌, ℕ, ◌+◌, ◌<◌, ◌≤◌, true, false, max, nat_lt, List, [], ◌∷◌, ◌++◌, length, slice_get, slice_set, Option, Some, None, refl, sym, ap, subst, arith, ◌∙◌}
use Rattle.std.specs.Prelude.{option_map, IfSome, All}
use Rattle.std.proofs.lemmas.List.{append-nil}
use Rattle.mav_names.specs.declared.names.Stream.{Stream}
use Rattle.plan_items.specs.declared.items.Item.{Item}
use Rattle.plan_items.specs.declared.kinds.PlanKind.{PlanKind}
use Rattle.plan_items.specs.declared.kinds.PlanKind.TheVariants.{Mission, Fence, Rally}
use Rattle.plan_items.specs.declared.messages.PlanMsg.{PlanMsg}
use Rattle.plan_items.specs.Kinds.{number_of}
use Rattle.plan_upload.specs.Addresses.{node_of}
use Rattle.plan_upload.specs.Kinds.{clear_number}
use Rattle.plan_upload.specs.Refusals.{upload_refusal, refusal}
use Rattle.plan_upload.specs.Station.{StationState, StationStep, Operation, Told, Uploads, Clears as Clears_work, Gets as Gets_work, operation_of, station_step, station_tick, station_cancel, begin_upload, begin_clear, begin_get, untold}
use Rattle.plan_safety.specs.Frames.{Frame}
use Rattle.plan_safety.specs.Store.{StoreEvent, Upload_begun, Clear_begun, Get_begun, at}
use Rattle.plan_safety.specs.History.{steps_of, final}
use Rattle.plan_safety.specs.World as world
use Rattle.plan_safety.specs.World.{Nodes, Distinct, World, StationNode, Station_waits, Station_ticks, To_station, Hands_out, Speaks, Begins, Clears, Gets, Cancels, happens, quiet, frame_of, outcome_news, cancel_news}
use Rattle.plan_safety.proofs.Keys.{by_test, not_true, at_same, at_apart}
use Rattle.plan_safety.proofs.Fleet.{not_both}
use Rattle.plan_safety.proofs.FleetMoves.{plus}
use Rattle.plan_safety.proofs.FleetDrone.{says_frame}
use Rattle.plan_safety.proofs.FleetStation.{says_node, sends_is}
use Rattle.plan_ranges.specs.Ranges.{StreamInRange, InRange, ItemInRange, Is8, StationInRange, StationStepInRange}
use Rattle.plan_ranges.proofs.MessageRanges.{carried}
use Rattle.plan_ranges.proofs.StationRanges as ranges
use Rattle.mav_frame.specs.Packet.{Packet, SignatureBlock}
use Rattle.mav_frame.specs.Encoding.{encoding}
use Rattle.mav_messages.specs.declared.messages.Message.{Message}
use Rattle.mav_messages.specs.Plans.{message_of_plan, plan_of}
use Rattle.mav_sign.specs.declared.admission.Admit.{Admit}
use Rattle.mav_sign.specs.declared.admission.Admit.TheVariants.{Admitted, Unsigned, BadSignature, BelowFloor, NotLater, TooOld, TooManyStreams}
use Rattle.mav_sign.specs.Signing.{Verifies}
use Rattle.mav_sign.specs.History.{Entry, tried, stamped, next_in, answer_to, block_answer, stamp_answer, greatest_stamp}
use Rattle.mav_sign.specs.History as signed
use Rattle.mav_nodes.specs.News.{NodeEvent, Sends, Drops}
use Rattle.mav_nodes.specs.Links.{Link, Done, Outcome, done, after_events, and_then, sends, sends_all}
use Rattle.mav_nodes.specs.Links as links
use Rattle.mav_nodes.specs.Payloads.{plan_in, service_in}
use Rattle.mav_nodes.specs.FileServices.{transfer_heard, transfer_waits}
use Rattle.mav_nodes.specs.Services.{ServiceStep, StationServices, station_serves, station_waits, command_of, asks_command, asks_params}
use Rattle.mav_nodes.specs.Steps.{answers, with_core, steps, serves, takes, admits, hears}
use Rattle.mav_nodes.specs.Nodes.{StationSide, told_events, station_does, station_core, station_rules, services_tick, station_ticks, station_heartbeat, station_beats, station_begins, station_cancels, station_clears, station_gets, station_commands, station_lists_params}
use Rattle.command_proto.specs.Commander.{commands, commander_step, commander_tick}
use Rattle.param_proto.specs.Client.{lists, client_step, client_tick}
use Rattle.node_reports.specs.Nodes.{Node, Station}
use Rattle.fleet_world.specs.Steps.{packets_in}
use Rattle.fleet_invariants.specs.Kept.{Reads}
use Rattle.fleet_safety.specs.Reporting.{sent_seen, changes_reported, ends_reported, step_reported, refused_reported}
use Rattle.fleet_safety.specs.Actions.{speaks_all, Order, Accepts_upload, Accepts_clear, Accepts_get, moves, ticks, comes_to, index_of, if_admitted, if_plan, if_sent, hearing, cancelled}
use Rattle.fleet_safety.proofs.Times.{KeepsTime, IsDue, Later, due_keeps, waits_due, dropped_keeps, admits_due, admits_keeps, sends_keeps, admitted_later}
use Rattle.fleet_safety.proofs.Lists.{set_there}
use Rattle.fleet_safety.proofs.Frames.{Found, SameFrame, SameNew, IsFirst, found, same_more, same_length}
use Rattle.fleet_safety.proofs.Ends.{step_reports, tick_reports, cancel_reports, cancel_is_silent, begun_reports}
use Rattle.fleet_safety.proofs.Own.{IsTame, own_of, tame_reported, tame_begun, tame_cancel, orders_among, no_order_reported, one_order, order_of_cancel}
use Rattle.fleet_safety.proofs.Reports.{Chain, chain_end, chain_on, silent_step, seen_by, ends_are, no_changes}
use Rattle.fleet_safety.proofs.Sendings.{packet_of, sent_frame, step_is, quiet_seen, sends_seen}
use Rattle.fleet_safety.proofs.Fits.{Stands, Reached, Fits, reached_all, MovesTo, fits_on, Alike, Led, Leads}
use Rattle.fleet_safety.proofs.Services.{IsOther, AllOther, IsAside, aside_nothing, ends_aside, station_others, waiting_others, command_others, params_others}
use Rattle.fleet_safety.proofs.Spoken.{Spoke, spoke_led, Speaker, Says, says_all, said, Unsaid, answers_unsaid, unsaid_leads, says_leads, then_says, led_says}
use Rattle.fleet_safety.proofs.Drones.{stream_at, one_index, unsigned, frame_is}

-- the world after a step of a station
abbrev pub station_after : World → Stream → StationNode → Option Frame → List StoreEvent → World
station_after u y z f news = record { drone = u.drone; station = at u.station y z; sent = plus f u.sent; news = news }

abbrev pub station_node : StationState → (Stream → ℕ) → ℕ → StationNode
station_node state last next = record { state = state; last = last; next = next }

-- once it has handed out its outcome
abbrev pub after_hands : World → Stream → StationNode → World
after_hands v y z = station_after v y (station_node (untold z.state) z.last z.next) None []

less : (a b : ℕ) → a < b → nat_lt a b ≡ true
less a b l = grind arith

-- a call's step, with its events at the start of an outcome
abbrev called : World → Stream → StationNode → (Stream → ℕ) → ℕ → StationStep → List StoreEvent → World
called u y z last next a news = station_after u y (says_node (station_node a.station last next) a.answer) (says_frame y next a.answer) (news ++ outcome_news y a.told)

-- the events of the world
module _ (n : Nodes) (u : World) (y : Stream) (z : StationNode) (here : n.is_station y ≡ true) (own : u.station y ≡ z) where
  hears_on : (index : ℕ) (from : Stream) (stamp : ℕ) (m : PlanMsg) → slice_get u.sent index ≡ Some (frame_of from stamp (Some m)) → z.last from < stamp
      → happens n u (To_station index y) ≡ called u y z (at z.last from stamp) (max z.next stamp) (station_step z.state from m) []
  hears_on index from stamp m there late =
      rw (here, there, own, less _ _ late)
      (let a : StationStep = station_step z.state from m in
      sends_is (record u { news = outcome_news y a.told }) y (station_node a.station (at z.last from stamp) (max z.next stamp)) a.answer)

  ticks_on : happens n u (Station_ticks y) ≡ called u y z z.last z.next (station_tick z.state) []
  ticks_on =
      rw (here, own)
      (let a : StationStep = station_tick z.state in
      sends_is (record u { news = outcome_news y a.told }) y (station_node a.station z.last z.next) a.answer)

  cancels_on : happens n u (Cancels y) ≡ called u y z z.last z.next (station_cancel z.state) (cancel_news y z.state.operation)
  cancels_on =
      rw (here, own)
      (let a : StationStep = station_cancel z.state in
      sends_is (record u { news = cancel_news y z.state.operation ++ outcome_news y a.told }) y (station_node a.station z.last z.next) a.answer)

  hands_on : happens n u (Hands_out y) ≡ after_hands u y z
  hands_on = rw (here, own) refl

  speaks_on : n.is_drone y ≡ false → happens n u (Speaks y) ≡ station_after u y (station_node z.state z.last (z.next + 1)) (Some (frame_of y z.next None)) []
  speaks_on station = rw (station, here, own) refl

  module _ (d : Stream) (there : n.is_drone d ≡ true) where
    begins_on : (kind : PlanKind) (plan : List Item) → upload_refusal z.state (number_of kind) plan ≡ None
        → happens n u (Begins y d kind plan) ≡ called u y z z.last z.next (begin_upload z.state d (number_of kind) plan) (Upload_begun y d (number_of kind) plan z.next (u.drone d).next ∷ [])
    begins_on kind plan free =
        rw (here, there, own, free)
        (let a : StationStep = begin_upload z.state d (number_of kind) plan in
        sends_is (record u { news = Upload_begun y d (number_of kind) plan z.next (u.drone d).next ∷ outcome_news y a.told }) y (station_node a.station z.last z.next) a.answer)

    clears_on : (kind : Option PlanKind) → refusal z.state ≡ None
        → happens n u (Clears y d kind) ≡ called u y z z.last z.next (begin_clear z.state d (world.clear_number kind)) (Clear_begun y d (world.clear_number kind) (u.drone d).next ∷ [])
    clears_on kind free =
        rw (here, there, own, free)
        (let a : StationStep = begin_clear z.state d (world.clear_number kind) in
        sends_is (record u { news = Clear_begun y d (world.clear_number kind) (u.drone d).next ∷ outcome_news y a.told }) y (station_node a.station z.last z.next) a.answer)

    gets_on : (kind : PlanKind) → refusal z.state ≡ None
        → happens n u (Gets y d kind) ≡ called u y z z.last z.next (begin_get z.state d (number_of kind)) (Get_begun y d (number_of kind) (u.drone d).next ∷ [])
    gets_on kind free =
        rw (here, there, own, free)
        (let a : StationStep = begin_get z.state d (number_of kind) in
        sends_is (record u { news = Get_begun y d (number_of kind) (u.drone d).next ∷ outcome_news y a.told }) y (station_node a.station z.last z.next) a.answer)

no_packets : (told : Option Told) → packets_in (told_events told) ≡ []
no_packets None = refl
no_packets (Some told) = refl

pub told_unspoken : (wait : ℕ → world.Event) (me : Stream) (told : Option Told) → speaks_all wait me (told_events told) ≡ []
told_unspoken wait me None = refl
told_unspoken wait me (Some told) = refl

module _ (n : Nodes) (sound : Distinct n) (clock : ℕ) (nodes : List Node) (sent : List Packet) (w : World) (fits : Fits n clock nodes sent w) (k : ℕ) (a : StationSide) (there : slice_get nodes k ≡ Some (Station a)) where
  abbrev y : Stream
  y = a.link.me

  pub here : n.is_station y ≡ true
  here = fits.covers k (Station a) there

  stands : Stands clock w (Station a)
  stands = fits.stands k (Station a) there

  zero_link : y.link ≡ 0
  zero_link = (fits.named.proper k (Station a) there).0

  stream : StreamInRange y
  stream = (fits.named.proper k (Station a) there).2

  many : length sent ≡ length w.sent
  many = same_length sent w.sent fits.frames

  -- the station waits until it may send
  abbrev now : ℕ
  now = next_in a.link.history clock

  abbrev waited : StationNode
  waited = station_node a.core (w.station y).last (max (w.station y).next now)

  abbrev u : World
  u = record (quiet w) { station = at w.station y (record (w.station y) { next = max (w.station y).next now }) }

  is_u : happens n w (Station_waits y now) ≡ u
  is_u = rw here refl

  own : u.station y ≡ waited
  own = at_same w.station y (record (w.station y) { next = max (w.station y).next now }) ∙ ap (λ z. station_node z waited.last waited.next) stands.0

  due : IsDue clock a.link.history waited.last waited.next
  due = waits_due clock a.link.history (w.station y).last (w.station y).next stands.1

  -- a call, and what is said in it
  abbrev Goes : Outcome StationSide → List world.Event → List Order → Type 0
  Goes o es os = Leads n clock nodes sent w k (Station a) Station o (es ++ said (Station_waits y) y o) os

  -- nothing happens in the world
  still : (b : StationSide) (es : List NodeEvent) → Alike (Station a) (Station b) → a.core ≡ b.core → KeepsTime clock b.link.history (w.station y).last (w.station y).next → packets_in es ≡ [] → seen_by (node_of y) (length sent) es ≡ [] → Spoke n clock nodes sent w k (Station a) (record { node = Station b; events = es }) []
  still b es alike core time none unseen = record {
    unseen = unseen;
    unreported = refl;
    idle = λ h. refl;
    alike = alike;
    fits = fits_on n clock nodes sent w w k (Station a) (Station b) fits there alike.role moves (packets_in es) (same_more sent (packets_in es) w.sent None fits.frames none) fits.reached;
  }
    where
      moves : MovesTo clock w w y (Station b)
      moves = record {
        own = subst (λ me. ((w.station me).state ≡ b.core) × KeepsTime clock b.link.history (w.station me).last (w.station me).next × (b.core.outcome ≡ None) × StationInRange b.core) alike.role
            (stands.0 ∙ core, time, subst (λ (c : StationState). c.outcome ≡ None) core stands.2, subst StationInRange core stands.3);
        drones = λ z far. refl;
        stations = λ z far. refl;
      }

  still_led : (b : StationSide) (es : List NodeEvent) → Alike (Station a) (Station b) → a.core ≡ b.core → KeepsTime clock b.link.history (w.station y).last (w.station y).next → packets_in es ≡ [] → seen_by (node_of y) (length sent) es ≡ [] → Led n clock nodes sent w k (Station a) (record { node = Station b; events = es }) [] []
  still_led b es alike core time none unseen = spoke_led n clock nodes sent w k (Station a) (record { node = Station b; events = es }) [] (still b es alike core time none unseen)

  -- the station waits, then an event, and then its outcome is handed out
  led : (b : StationSide) (es : List NodeEvent) (e : world.Event) (os : List Order) (z : StationNode) (f : Option Frame) (news : List StoreEvent) → IsTame news → orders_among news ≡ os → happens n u e ≡ station_after u y z f news → refused_reported n u e ≡ [] → Alike (Station a) (Station b) → untold z.state ≡ b.core → StationInRange b.core → KeepsTime clock b.link.history z.last z.next → SameNew (packets_in es) f → seen_by (node_of y) (length sent) es ≡ step_reported u (station_after u y z f news) → Led n clock nodes sent w k (Station a) (record { node = Station b; events = es }) (moves clock (Station a) e) os
  led b es e os z f news tame among is none alike state range time new reports =
      let v : World = station_after u y z f news in
      let last : World = after_hands v y z in
      let hands : happens n v (Hands_out y) ≡ last = hands_on n v y z here (at_same u.station y z) in
      let handed : Chain n v last (Hands_out y ∷ []) (step_reported v last ++ []) (λ h. h) = chain_on n v last last (Hands_out y) [] [] (λ h. h) hands refl (chain_end n last) in
      let chain : Chain n w last (Station_waits y now ∷ e ∷ Hands_out y ∷ []) (step_reported w u ++ (step_reported u v ++ (step_reported v last ++ []))) (λ h. steps_of v.sent v.news (steps_of u.sent u.news h)) =
      chain_on n w u last (Station_waits y now) (e ∷ Hands_out y ∷ []) (step_reported u v ++ (step_reported v last ++ [])) (λ h. steps_of v.sent v.news h) is_u refl (chain_on n u v last e (Hands_out y ∷ []) (step_reported v last ++ []) (λ h. h) is none handed) in
      record {
        own = own_of n w (Station_waits y now ∷ e ∷ Hands_out y ∷ []) v.sent news os (chain.steps []) tame among;
        report =
            reports ∙ sym (append-nil (step_reported u v))
            ∙ ap (λ r. step_reported u v ++ (r ++ [])) (sym (silent_step v last refl refl))
            ∙ ap (λ r. r ++ (step_reported u v ++ (step_reported v last ++ []))) (sym (silent_step w u refl refl))
            ∙ sym chain.reports;
        alike = alike;
        fits = subst (Fits n clock (slice_set nodes k (Station b)) (sent ++ packets_in es)) (sym chain.ends)
            (fits_on n clock nodes sent w last k (Station a) (Station b) fits there alike.role moves (packets_in es) (same_more sent (packets_in es) w.sent f fits.frames new) (subst (Reached n) chain.ends (reached_all n sound w (Station_waits y now ∷ e ∷ Hands_out y ∷ []) fits.reached)));
      }
    where
      moves : MovesTo clock w (after_hands (station_after u y z f news) y z) y (Station b)
      moves = record {
        own = subst (λ me. ((at (at u.station y z) y (station_node (untold z.state) z.last z.next) me).state ≡ b.core) × KeepsTime clock b.link.history (at (at u.station y z) y (station_node (untold z.state) z.last z.next) me).last (at (at u.station y z) y (station_node (untold z.state) z.last z.next) me).next × (b.core.outcome ≡ None) × StationInRange b.core) alike.role
            (subst (λ (x : StationNode). (x.state ≡ b.core) × KeepsTime clock b.link.history x.last x.next × (b.core.outcome ≡ None) × StationInRange b.core) (sym (at_same (at u.station y z) y (station_node (untold z.state) z.last z.next)))
            (state, time, sym (ap (λ (c : StationState). c.outcome) state), range));
        drones = λ x far. refl;
        stations = λ x far. at_apart (at u.station y z) y x _ far ∙ at_apart u.station y x z far ∙ at_apart w.station y x _ far;
      }

  -- a message of another service: no outcome is handed out after it
  one_spoken : (m : Message) → IsOther m → Reads (Sends (packet_of a.link clock m) m) → Spoke n clock nodes sent w k (Station a) (record { node = Station (record a { link = links.sent_at now a.link }); events = Sends (packet_of a.link clock m) m ∷ [] }) (Station_waits y now ∷ Speaks y ∷ [])
  one_spoken m other reads =
      let z : StationNode = station_node a.core waited.last (waited.next + 1) in
      let f : Frame = frame_of y waited.next None in
      let b : StationSide = record a { link = links.sent_at now a.link } in
      let v : World = station_after u y z (Some f) [] in
      let is : happens n u (Speaks y) ≡ v = speaks_on n u y waited here own (not_true (n.is_drone y) (λ d. not_both n sound y y d here refl)) in
      let chain : Chain n w v (Station_waits y now ∷ Speaks y ∷ []) (step_reported w u ++ (step_reported u v ++ [])) (λ h. h) =
      chain_on n w u v (Station_waits y now) (Speaks y ∷ []) (step_reported u v ++ []) (λ h. h) is_u refl (chain_on n u v v (Speaks y) [] [] (λ h. h) is refl (chain_end n v)) in
      record {
        unseen = ap (λ (o : Option PlanMsg). sent_seen (length sent + 1) (packet_of a.link clock m).from o ++ []) other;
        unreported =
            chain.reports
            ∙ ap (λ r. r ++ (step_reported u v ++ [])) (silent_step w u refl refl)
            ∙ ap (λ r. r ++ []) (step_is u v (Some f) refl);
        idle = chain.steps;
        alike = record { role = refl; key = refl };
        fits = subst (Fits n clock (slice_set nodes k (Station b)) (sent ++ packet_of a.link clock m ∷ [])) (sym chain.ends)
            (fits_on n clock nodes sent w v k (Station a) (Station b) fits there refl moves (packet_of a.link clock m ∷ [])
            (same_more sent (packet_of a.link clock m ∷ []) w.sent (Some f) fits.frames (packet_of a.link clock m, refl, sent_frame a.link clock waited.next m None zero_link stream tt due.next due.some other reads))
            (subst (Reached n) chain.ends (reached_all n sound w (Station_waits y now ∷ Speaks y ∷ []) fits.reached)));
      }
    where
      moves : MovesTo clock w (station_after u y (station_node a.core waited.last (waited.next + 1)) (Some (frame_of y waited.next None)) []) y (Station (record a { link = links.sent_at now a.link }))
      moves = record {
        own = subst (λ (x : StationNode). (x.state ≡ a.core) × KeepsTime clock (links.sent_at now a.link).history x.last x.next × (a.core.outcome ≡ None) × StationInRange a.core)
            (sym (at_same u.station y (station_node a.core waited.last (waited.next + 1))))
            (refl, sends_keeps clock a.link.history waited.last waited.next due, stands.2, stands.3);
        drones = λ x far. refl;
        stations = λ x far. at_apart u.station y x _ far ∙ at_apart w.station y x _ far;
      }

  -- a step of the core: nothing is sent, or a message in one frame, and then an outcome may be reported
  module _ (link : Link) (before core : StationState) (services : StationServices) (last : Stream → ℕ) (next : ℕ) (news : List StoreEvent) (ending : List NodeEvent) (handed : untold before ≡ core) (ready : IsDue clock link.history last next) (range : StationInRange core) (me : y ≡ link.me) (key : a.link.key ≡ link.key) (none : packets_in ending ≡ []) (changeless : changes_reported news ≡ []) (ends : (k : ℕ) → seen_by (node_of y) k ending ≡ ends_reported news) (os : List Order) (tame : IsTame news) (among : orders_among news ≡ os) where
    says_nothing : (e : world.Event) → happens n u e ≡ station_after u y (station_node before last next) None news → refused_reported n u e ≡ [] → Led n clock nodes sent w k (Station a) (record { node = Station (record { link = link; core = core; services = services }); events = ending }) (moves clock (Station a) e) os
    says_nothing e is silent =
        led (record { link = link; core = core; services = services }) ending e os (station_node before last next) None news tame among is silent (record { role = me; key = key }) handed range (due_keeps clock link.history last next ready)
        none
        (quiet_seen y (length sent) (length w.sent) [] ending news refl (λ k. sym changeless) ends many ∙ sym (step_is u (station_after u y (station_node before last next) None news) None refl))

    says : (e : world.Event) (message : Message) (said : Option PlanMsg) → IfSome said InRange → plan_of message ≡ said → happens n u e ≡ station_after u y (station_node before last (next + 1)) (Some (frame_of y next said)) news → refused_reported n u e ≡ [] → Leads n clock nodes sent w k (Station a) Station (with_core core services ending (sends clock message link)) (moves clock (Station a) e) os
    says e message said within carries is silent =
        by_test (λ o. Leads n clock nodes sent w k (Station a) Station (with_core core services ending o) (moves clock (Station a) e) os) (nat_lt greatest_stamp (next_in link.history clock)) _ _ (λ _. tt)
        (λ _ reads.
        let q : Packet = packet_of link clock message in
        let f : Frame = frame_of y next said in
        let same : SameFrame q f = subst (λ s. SameFrame q (frame_of s next said)) (sym me) (sent_frame link clock next message said (subst (λ (s : Stream). s.link ≡ 0) me zero_link) (subst StreamInRange me stream) within ready.next ready.some carries reads.0) in
        led (record { link = links.sent_at (next_in link.history clock) link; core = core; services = services }) (Sends q message ∷ ending) e os (station_node before last (next + 1)) (Some f) news tame among is silent (record { role = me; key = key }) handed range (sends_keeps clock link.history last next ready)
        (q, ap (λ ps. q ∷ ps) none, same)
        (sends_seen y (length sent) (length w.sent) [] ending news refl (λ k. sym changeless) ends many q message said next (sym (ap node_of me)) carries ∙ sym (step_is u (station_after u y (station_node before last (next + 1)) (Some f) news) (Some f) refl)))

    in_front : (o : Outcome StationSide) (e : world.Event) → Leads n clock nodes sent w k (Station a) Station o (moves clock (Station a) e) os → Leads n clock nodes sent w k (Station a) Station (after_events [] o) (moves clock (Station a) e) os
    in_front None e h = tt
    in_front (Some d) e h = h

    -- by the answer
    answers_lead : (o : Option PlanMsg) → IfSome o InRange → (e : world.Event) → happens n u e ≡ station_after u y (says_node (station_node before last next) o) (says_frame y next o) news → refused_reported n u e ≡ [] → Leads n clock nodes sent w k (Station a) Station (after_events [] (with_core core services ending (answers clock o link))) (moves clock (Station a) e) os
    answers_lead None within e is silent = λ _. says_nothing e is silent
    answers_lead (Some m) within e is silent = in_front (with_core core services ending (sends clock (message_of_plan m) link)) e (says e (message_of_plan m) (Some m) within (carried m within) is silent)

  -- a step of the core that reports what is then its outcome
  step_leads : (link : Link) (act : StationStep) (last : Stream → ℕ) (next : ℕ) (news : List StoreEvent) (e : world.Event) (os : List Order) → IsTame (news ++ outcome_news y act.told) → orders_among (news ++ outcome_news y act.told) ≡ os → IsDue clock link.history last next → y ≡ link.me → a.link.key ≡ link.key → act.station.outcome ≡ act.told → StationStepInRange act → changes_reported (news ++ outcome_news y act.told) ≡ [] → ends_reported (news ++ outcome_news y act.told) ≡ ends_reported (outcome_news y act.told) → happens n u e ≡ called u y waited last next act news → refused_reported n u e ≡ [] → Leads n clock nodes sent w k (Station a) Station (steps clock link a.services (station_does act)) (moves clock (Station a) e) os
  step_leads link act last next news e os tame among ready me key reports range changeless endings is silent =
      answers_lead link act.station (untold act.station) a.services last next (news ++ outcome_news y act.told) (told_events act.station.outcome) refl ready (ranges.untells act.station range.station) me key (no_packets act.station.outcome) changeless
      (λ k. subst (λ o. seen_by (node_of y) k (told_events o) ≡ ends_reported (news ++ outcome_news y act.told)) (sym reports) (ends_are y act.told k ∙ sym endings)) os tame among
      act.answer range.answer e is silent

  -- and says nothing else
  step_unsaid : (link : Link) (act : StationStep) → Unsaid (Station_waits y) y (steps clock link a.services (station_does act))
  step_unsaid link act =
      answers_unsaid (Station_waits y) y clock [] (told_events act.station.outcome) (untold act.station) a.services act.answer link refl (told_unspoken (Station_waits y) y act.station.outcome)

  -- ---- the station's services send messages

  serves_say : (speaker : Speaker n clock k Station Station_waits) (history : List Entry) → KeepsTime clock history (w.station y).last (w.station y).next → (step : ServiceStep StationServices) → AllOther step.answers → IsAside step.last
      → Says n clock nodes sent w k Station Station_waits a (serves clock (record a.link { history = history }) a.core step)
  serves_say speaker history time step others aside =
      let b : StationSide = record { link = record a.link { history = history }; core = a.core; services = step.services } in
      let first : Spoke n clock nodes sent w k (Station a) (record { node = Station b; events = [] }) [] = still b [] (record { role = refl; key = refl }) refl time refl refl in
      let o : Outcome StationSide = with_core b.core b.services step.last (sends_all clock step.answers b.link) in
      then_says n clock nodes sent w k Station Station_waits a b refl first o
      (says_all n clock k Station Station_waits speaker step.last aside step.answers others (slice_set nodes k (Station b)) (sent ++ []) w first.fits b (set_there nodes k (Station a) (Station b) there))

  serves_lead : (speaker : Speaker n clock k Station Station_waits) (history : List Entry) → KeepsTime clock history (w.station y).last (w.station y).next → (step : ServiceStep StationServices) → AllOther step.answers → IsAside step.last
      → Goes (serves clock (record a.link { history = history }) a.core step) [] []
  serves_lead speaker history time step others aside =
      says_leads n clock nodes sent w k Station Station_waits a (serves clock (record a.link { history = history }) a.core step) (serves_say speaker history time step others aside)

  -- ---- a frame comes

  -- with the frame tried, and that answer
  abbrev tried_with : Packet → Admit → StationSide
  tried_with p answer = record a { link = record a.link { history = a.link.history ++ tried p answer ∷ [] } }

  unchanged : (p : Packet) (answer : Admit) → Alike (Station a) (Station (tried_with p answer))
  unchanged p answer = record { role = refl; key = refl }

  -- a frame that isn't admitted
  dropped : (p : Packet) (answer : Admit) → signed.admitted_by (tried p answer) ≡ None → Goes (done (tried_with p answer) (Drops answer ∷ [])) [] []
  dropped p answer none _ =
      still_led (tried_with p answer) (Drops answer ∷ []) (unchanged p answer) refl
      (dropped_keeps clock a.link.history (w.station y).last (w.station y).next (tried p answer) none refl stands.1) refl refl

  -- what an admitted frame with a plan message is in the world
  abbrev brought : Packet → List world.Event
  brought p = if_sent (index_of (encoding p) sent) (λ index. moves clock (Station a) (comes_to (Station a) index))

  -- one that is admitted was sent
  module _ (speaker : Speaker n clock k Station Station_waits) (p : Packet) (block : SignatureBlock) (signs : p.block ≡ Some block) (later : Later a.link.key a.link.history p block) (known : IsFirst sent p) where
    abbrev from : Stream
    from = signed.stream_of p block

    abbrev b : StationSide
    b = tried_with p Admitted

    entered : signed.admitted_by (tried p Admitted) ≡ Some (stamped p block)
    entered = ap (option_map (stamped p)) signs

    its : Found p known.earlier w.sent
    its = found sent w.sent known.earlier p fits.frames known.found

    brought_is : brought p ≡ moves clock (Station a) (To_station its.index y)
    brought_is =
        ap (λ o. if_sent o (λ index. moves clock (Station a) (comes_to (Station a) index))) known.index_is
        ∙ ap (λ index. moves clock (Station a) (To_station index y)) (one_index known.index its.index known.earlier (length sent) (length w.sent) known.counts its.counts many)

    stream_from : its.frame.from ≡ from
    stream_from = its.same.from ∙ sym (ap (λ link. stream_at p.from.sys p.from.comp link) (its.same.block block signs).0)

    stamp_is : its.frame.timestamp ≡ block.stamp
    stamp_is = sym (its.same.block block signs).1

    time : KeepsTime clock b.link.history (w.station y).last (w.station y).next
    time = admits_keeps clock a.link.history (tried p Admitted) (stamped p block) entered refl (w.station y).last (w.station y).next stands.1

    -- with a message that isn't for it
    other : Goes (done b []) [] []
    other _ = still_led b [] (unchanged p Admitted) refl time refl refl

    -- with a message of its services
    served : (m : Message) → Goes (serves clock b.link b.core (station_serves b.services from m)) [] []
    served m =
        serves_lead speaker b.link.history time (station_serves b.services from m) (station_others b.services from m)
        (ends_aside (commander_step b.services.commander from m) (client_step b.services.client from m) (transfer_heard b.services.files from m))

    -- with a message of the protocol
    module _ (m : PlanMsg) (carries : plan_in p.id p.payload ≡ Some m) where
      abbrev act : StationStep
      act = station_step a.core from m

      abbrev last : Stream → ℕ
      last = at waited.last from block.stamp

      abbrev next : ℕ
      next = max waited.next block.stamp

      lies : slice_get w.sent its.index ≡ Some (frame_of from block.stamp (Some m))
      lies = its.there ∙ ap Some (frame_is its.frame from block.stamp (Some m) stream_from stamp_is (its.same.message ∙ carries))

      late : waited.last from < block.stamp
      late = later.above (waited.last from) (stands.1.last from) (subst (λ t. 1 ≤ t) stamp_is its.same.some)

      ranged : StationStepInRange act
      ranged = ranges.steps a.core from m stands.3 (subst (λ o. IfSome o InRange) (its.same.message ∙ carries) its.same.range)

      plan : Leads n clock nodes sent w k (Station a) Station (steps clock b.link b.services (station_core b.core from m)) (brought p) []
      plan =
          subst (λ es. Leads n clock nodes sent w k (Station a) Station (steps clock b.link b.services (station_core b.core from m)) es []) (sym brought_is)
          (step_leads b.link act last next [] (To_station its.index y) [] (tame_reported y act.told) (no_order_reported y act.told)
          (admits_due clock a.link.history (tried p Admitted) (stamped p block) entered refl waited.last waited.next due) refl refl
          (step_reports a.core stands.2 from m) ranged (no_changes y act.told) refl
          (hears_on n u y waited here own its.index from block.stamp m lies late) refl)

      planned : Goes (steps clock b.link b.services (station_core b.core from m)) (brought p) []
      planned =
          unsaid_leads n clock nodes sent w k (Station a) Station (Station_waits y) y (steps clock b.link b.services (station_core b.core from m)) (brought p) [] plan (step_unsaid b.link act)

    takes_lead : (o : Option PlanMsg) (s : Option Message) → plan_in p.id p.payload ≡ o → Goes (takes station_rules clock b from o s) (if_plan o (brought p)) []
    takes_lead None None e = other
    takes_lead None (Some m) e = served m
    takes_lead (Some m) s e = planned m e

  -- by the answer
  module _ (speaker : Speaker n clock k Station Station_waits) (p : Packet) (known : Verifies a.link.key p p.block → IsFirst sent p) where
    by_answer : (answer : Admit) (block : Option SignatureBlock) → answer_to a.link.key a.link.history p ≡ answer → p.block ≡ block → Goes (admits station_rules clock (tried_with p answer) p answer block) (if_admitted answer (if_plan (plan_in p.id p.payload) (brought p))) []
    by_answer Admitted None e signs = absurd (unsigned (subst (λ o. block_answer a.link.key (λ stream stamp. stamp_answer stream stamp a.link.history) p o ≡ Admitted) signs e))
    by_answer Admitted (Some block) e signs =
        let later : Later a.link.key a.link.history p block =
        admitted_later a.link.key a.link.history p block (subst (λ o. block_answer a.link.key (λ stream stamp. stamp_answer stream stamp a.link.history) p o ≡ Admitted) signs e) in
        takes_lead speaker p block signs later (known (subst (Verifies a.link.key p) (sym signs) later.verifies)) (plan_in p.id p.payload) (service_in p.id p.payload) refl
    by_answer Unsigned block e signs = dropped p Unsigned refl
    by_answer BadSignature block e signs = dropped p BadSignature refl
    by_answer (BelowFloor floor) block e signs = dropped p (BelowFloor floor) refl
    by_answer (NotLater last) block e signs = dropped p (NotLater last) refl
    by_answer (TooOld local) block e signs = dropped p (TooOld local) refl
    by_answer TooManyStreams block e signs = dropped p TooManyStreams refl

    frame_goes : Goes (hears station_rules clock p a) (hearing clock sent (Station a) p) []
    frame_goes = by_answer (answer_to a.link.key a.link.history p) p.block refl refl

  -- ---- a tick, a HEARTBEAT, and orders
  abbrev ticked : Outcome StationSide
  ticked = steps clock a.link a.services (station_does (station_tick a.core))

  abbrev tick_events : List world.Event
  tick_events = moves clock (Station a) (ticks (Station a))

  -- first its core
  core_ticks : Leads n clock nodes sent w k (Station a) Station ticked tick_events []
  core_ticks =
      step_leads a.link (station_tick a.core) waited.last waited.next [] (Station_ticks y) [] (tame_reported y (station_tick a.core).told) (no_order_reported y (station_tick a.core).told) due refl refl (tick_reports a.core stands.2) (ranges.ticks a.core stands.3)
      (no_changes y (station_tick a.core).told) refl (ticks_on n u y waited here own) refl

  -- then its services
  then_ticks : (o : Outcome StationSide) → Leads n clock nodes sent w k (Station a) Station o tick_events [] → Unsaid (Station_waits y) y o
      → ((d : Done StationSide) → Led n clock nodes sent w k (Station a) (record { node = Station d.node; events = d.events }) tick_events [] → Says n clock (slice_set nodes k (Station d.node)) (sent ++ packets_in d.events) (final n w tick_events) k Station Station_waits d.node (services_tick clock d.node))
      → Goes (and_then o (services_tick clock)) tick_events []
  then_ticks None h u s = tt
  then_ticks (Some d) h u s = led_says n clock nodes sent w k Station Station_waits a d tick_events [] u (λ l. l.alike.role) h (services_tick clock d.node) (s d)

  pub beats_lead : Goes (station_beats clock a) [] []
  beats_lead =
      by_test (λ o. Goes (with_core a.core a.services [] o) [] []) (nat_lt greatest_stamp now) _ _ (λ _. tt)
      (λ _ reads.
      spoke_led n clock nodes sent w k (Station a) (record { node = Station (record a { link = links.sent_at now a.link }); events = Sends (packet_of a.link clock station_heartbeat) station_heartbeat ∷ [] }) (Station_waits y now ∷ Speaks y ∷ []) (one_spoken station_heartbeat refl reads.0))

  cancels_quietly : (o : Option Operation) (told : Option Told) → (changes_reported (cancel_news y o ++ outcome_news y told) ≡ []) × (ends_reported (cancel_news y o ++ outcome_news y told) ≡ ends_reported (outcome_news y told))
  cancels_quietly None told = (no_changes y told, refl)
  cancels_quietly (Some o) told = (no_changes y told, refl)

  pub cancels_lead : Leads n clock nodes sent w k (Station a) Station (station_cancels clock a) (moves clock (Station a) (Cancels y)) (cancelled y a.core.operation)
  cancels_lead =
      let act : StationStep = station_cancel a.core in
      let quietly = cancels_quietly a.core.operation act.told in
      step_leads a.link act waited.last waited.next (cancel_news y a.core.operation) (Cancels y) (cancelled y a.core.operation)
      (tame_cancel y a.core.operation act.told (cancel_is_silent a.core)) (order_of_cancel y a.core.operation act.told) due refl refl (cancel_reports a.core stands.2) (ranges.cancels a.core stands.3)
      quietly.0 quietly.1 (cancels_on n u y waited here own) refl

  -- orders that aren't refused
  module _ (d : Stream) (is_drone : n.is_drone d ≡ true) (stream_d : StreamInRange d) where
    small : (kind : PlanKind) → Is8 (number_of kind)
    small Mission = omega arith
    small Fence = omega arith
    small Rally = omega arith

    pub begins_lead : (kind : PlanKind) (plan : List Item) → All ItemInRange plan → upload_refusal a.core (number_of kind) plan ≡ None → Leads n clock nodes sent w k (Station a) Station (station_begins clock d (number_of kind) plan a) (moves clock (Station a) (Begins y d kind plan)) (Accepts_upload y d (number_of kind) plan ∷ [])
    begins_lead kind plan items free =
        let act : StationStep = begin_upload a.core d (number_of kind) plan in
        let reports = begun_reports a.core (operation_of Uploads d (number_of kind) plan) in
        step_leads a.link act waited.last waited.next (Upload_begun y d (number_of kind) plan waited.next (u.drone d).next ∷ []) (Begins y d kind plan) (Accepts_upload y d (number_of kind) plan ∷ [])
        (tame_begun (Upload_begun y d (number_of kind) plan waited.next (u.drone d).next) y act.told reports.1) (one_order (Upload_begun y d (number_of kind) plan waited.next (u.drone d).next) y act.told) due refl refl (reports.0 ∙ sym reports.1)
        (ranges.uploads a.core d (number_of kind) plan stands.3 stream_d (small kind) items free) (no_changes y act.told) refl
        (begins_on n u y waited here own d is_drone kind plan free)
        (rw (here, is_drone, own, free) refl)

    clear_is : (kind : Option PlanKind) → world.clear_number kind ≡ clear_number kind
    clear_is None = refl
    clear_is (Some kind) = refl

    small_clear : (kind : Option PlanKind) → Is8 (world.clear_number kind)
    small_clear None = omega arith
    small_clear (Some kind) = small kind

    pub clears_lead : (kind : Option PlanKind) → refusal a.core ≡ None → Leads n clock nodes sent w k (Station a) Station (station_clears clock d (clear_number kind) a) (moves clock (Station a) (Clears y d kind)) (Accepts_clear y d (world.clear_number kind) ∷ [])
    clears_lead kind free =
        let act : StationStep = begin_clear a.core d (world.clear_number kind) in
        let reports = begun_reports a.core (operation_of Clears_work d (world.clear_number kind) []) in
        subst (λ c. Leads n clock nodes sent w k (Station a) Station (station_clears clock d c a) (moves clock (Station a) (Clears y d kind)) (Accepts_clear y d (world.clear_number kind) ∷ [])) (clear_is kind)
        (step_leads a.link act waited.last waited.next (Clear_begun y d (world.clear_number kind) (u.drone d).next ∷ []) (Clears y d kind) (Accepts_clear y d (world.clear_number kind) ∷ [])
        (tame_begun (Clear_begun y d (world.clear_number kind) (u.drone d).next) y act.told reports.1) (one_order (Clear_begun y d (world.clear_number kind) (u.drone d).next) y act.told) due refl refl (reports.0 ∙ sym reports.1)
        (ranges.clears a.core d (world.clear_number kind) stands.3 stream_d (small_clear kind)) (no_changes y act.told) refl
        (clears_on n u y waited here own d is_drone kind free)
        (rw (here, is_drone, own, free) refl))

    pub gets_lead : (kind : PlanKind) → refusal a.core ≡ None → Leads n clock nodes sent w k (Station a) Station (station_gets clock d (number_of kind) a) (moves clock (Station a) (Gets y d kind)) (Accepts_get y d (number_of kind) ∷ [])
    gets_lead kind free =
        let act : StationStep = begin_get a.core d (number_of kind) in
        let reports = begun_reports a.core (operation_of Gets_work d (number_of kind) []) in
        step_leads a.link act waited.last waited.next (Get_begun y d (number_of kind) (u.drone d).next ∷ []) (Gets y d kind) (Accepts_get y d (number_of kind) ∷ [])
        (tame_begun (Get_begun y d (number_of kind) (u.drone d).next) y act.told reports.1) (one_order (Get_begun y d (number_of kind) (u.drone d).next) y act.told) due refl refl (reports.0 ∙ sym reports.1)
        (ranges.gets a.core d (number_of kind) stands.3 stream_d (small kind)) (no_changes y act.told) refl
        (gets_on n u y waited here own d is_drone kind free)
        (rw (here, is_drone, own, free) refl)

-- how a station sends a message of another service
pub speaker : (n : Nodes) → Distinct n → (clock k : ℕ) → Speaker n clock k Station Station_waits
speaker n distinct clock k = record {
  one = λ nodes sent w fits a there m other reads. one_spoken n distinct clock nodes sent w fits k a there m other reads;
  alike = λ a. record { role = refl; key = refl };
}

module _ (n : Nodes) (distinct : Distinct n) (clock : ℕ) (nodes : List Node) (sent : List Packet) (w : World) (fits : Fits n clock nodes sent w) (k : ℕ) (a : StationSide) (there : slice_get nodes k ≡ Some (Station a)) where
  pub frame_leads : (p : Packet) → (Verifies a.link.key p p.block → IsFirst sent p)
      → Leads n clock nodes sent w k (Station a) Station (hears station_rules clock p a) (hearing clock sent (Station a) p ++ said (Station_waits a.link.me) a.link.me (hears station_rules clock p a)) []
  frame_leads p known = frame_goes n distinct clock nodes sent w fits k a there (speaker n distinct clock k) p known

  pub ticks_lead : Leads n clock nodes sent w k (Station a) Station (station_ticks clock a) (moves clock (Station a) (ticks (Station a)) ++ said (Station_waits a.link.me) a.link.me (station_ticks clock a)) []
  ticks_lead =
      then_ticks n distinct clock nodes sent w fits k a there (ticked n distinct clock nodes sent w fits k a there) (core_ticks n distinct clock nodes sent w fits k a there)
      (step_unsaid n distinct clock nodes sent w fits k a there a.link (station_tick a.core)) more
    where
      more : (d : Done StationSide) → Led n clock nodes sent w k (Station a) (record { node = Station d.node; events = d.events }) (moves clock (Station a) (ticks (Station a))) []
          → Says n clock (slice_set nodes k (Station d.node)) (sent ++ packets_in d.events) (final n w (moves clock (Station a) (ticks (Station a)))) k Station Station_waits d.node (services_tick clock d.node)
      more d l =
          let here : slice_get (slice_set nodes k (Station d.node)) k ≡ Some (Station d.node) = set_there nodes k (Station a) (Station d.node) there in
          let v : World = final n w (moves clock (Station a) (ticks (Station a))) in
          serves_say n distinct clock (slice_set nodes k (Station d.node)) (sent ++ packets_in d.events) v l.fits k d.node here
          (speaker n distinct clock k) d.node.link.history (l.fits.stands k (Station d.node) here).1 (station_waits d.node.services) (waiting_others d.node.services)
          (ends_aside (commander_tick d.node.services.commander) (client_tick d.node.services.client) (transfer_waits d.node.services.files))

  -- orders to its services
  in_time : KeepsTime clock a.link.history (w.station a.link.me).last (w.station a.link.me).next
  in_time = (fits.stands k (Station a) there).1

  pub commands_lead : (d : Stream) (number word : ℕ) → Leads n clock nodes sent w k (Station a) Station (station_commands clock d number word a) (said (Station_waits a.link.me) a.link.me (station_commands clock d number word a)) []
  commands_lead d number word =
      serves_lead n distinct clock nodes sent w fits k a there (speaker n distinct clock k) a.link.history in_time (asks_command a.services (commands a.services.commander d (command_of number word))) (command_others a.services d number word) aside_nothing

  pub params_lead : (d : Stream) → Leads n clock nodes sent w k (Station a) Station (station_lists_params clock d a) (said (Station_waits a.link.me) a.link.me (station_lists_params clock d a)) []
  params_lead d =
      serves_lead n distinct clock nodes sent w fits k a there (speaker n distinct clock k) a.link.history in_time (asks_params a.services (lists a.services.client d)) (params_others a.services d) aside_nothing

  -- a simulator's tick is nothing to it
  pub rests_lead : Leads n clock nodes sent w k (Station a) (λ x. x) (done (Station a) []) [] []
  rests_lead _ = still_led n distinct clock nodes sent w fits k a there a [] (record { role = refl; key = refl }) refl in_time refl refl
