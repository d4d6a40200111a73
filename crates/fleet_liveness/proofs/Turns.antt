-- A message of the upload comes to the one that waits for it, and to others.
use Rattle.std.proofs.Common.{◌≡◌, ◌≢◌, ◌∙◌, ℕ, ◌+◌, ◌<◌, ◌≤◌, inl, inr, Bool, true, false, if◌then◌else◌, List, [], ◌∷◌, ◌++◌, length, slice_get, Some, refl, sym, ap, subst, arith, length-append}
use Rattle.std.specs.Prelude.{IfOk, All}
use Rattle.mav_names.specs.declared.names.Name.{Name}
use Rattle.plan_items.specs.declared.items.Item.{Item}
use Rattle.plan_items.specs.declared.kinds.PlanKind.{PlanKind}
use Rattle.plan_items.specs.declared.messages.PlanMsg.{PlanMsg}
use Rattle.plan_items.specs.declared.messages.PlanMsg.TheVariants.{Ping}
use Rattle.plan_items.specs.Kinds.{number_of}
use Rattle.plan_items.specs.Validation.{IsValid}
use Rattle.plan_upload.specs.Addresses.{everyone}
use Rattle.plan_upload.specs.Changes.{change_by}
use Rattle.plan_upload.specs.Drone.{DroneState}
use Rattle.plan_upload.specs.Station.{StationStep, addressee, station_step, untold}
use Rattle.plan_ranges.specs.Ranges.{ItemInRange}
use Rattle.mav_frame.specs.Packet.{Packet}
use Rattle.mav_frame.specs.Encoding.{encoding}
use Rattle.mav_messages.specs.Plans.{message_of_plan, plan_of}
use Rattle.mav_sign.specs.declared.admission.Admit.TheVariants.{Admitted}
use Rattle.mav_sign.specs.History.{answer_to, last_of, next_in}
use Rattle.mav_nodes.specs.Links.{Link, tries, sent_at}
use Rattle.mav_nodes.specs.Nodes.{DroneSide, StationSide, drone_core, drone_rules, station_core, station_rules, change_events, station_does, told_events}
use Rattle.mav_nodes.specs.Services.{drone_notes}
use Rattle.mav_nodes.specs.Steps.{CoreStep}
use Rattle.fleet_report.specs.Events.{Event}
use Rattle.node_reports.specs.Nodes.{Node, Drone, Station, node_name}
use Rattle.node_reports.specs.Calls.{node_receives}
use Rattle.node_reports.specs.Reporting.{reported_by}
use Rattle.fleet_world.specs.WorldState.{WorldState, stream_of, names_of}
use Rattle.fleet_world.specs.Steps.{Step, packets_in, node_does}
use Rattle.fleet_invariants.specs.Sound.{Holds, Sound}
use Rattle.fleet_invariants.proofs.Histories.{sending_is}
use Rattle.fleet_invariants.proofs.Lists.{set_there, set_elsewhere, at_end, last_there}
use Rattle.fleet_liveness.proofs.Hearing.{Carries}
use Rattle.fleet_liveness.proofs.States.{IsAbove, low_tried, low_sent, station_above, drone_leaves, station_leaves, station_leaves_ping, is_admitted, last_before, next_fresh, next_recent}
use Rattle.fleet_liveness.proofs.Steps.{moved, weaker}
use Rattle.fleet_liveness.proofs.Given.{drones, stations, Said, said, unless_still, ends_so}
use Rattle.fleet_liveness.proofs.Stages.{Stage, Acks, is_up, is_last, is_ping, message_of, costs, DroneGoes, drone_goes, StationGoes, station_goes, station_ends, station_untold, for_one, ping_of, is_carried}
use Rattle.fleet_liveness.proofs.Reporting.{Goal, upload_of, goal_of, goal_behind, reports_at, drone_goal, no_frames, up_not_last}
use Rattle.fleet_liveness.proofs.Waits.{IsAside, Waits, sender, listener}
use Rattle.fleet_liveness.proofs.Others.{Near, near_more, near_other, other_drone, other_station, apart_indices, drone_holds, station_holds, no_packet, only_packet, drone_core_rests, no_frames_reported}

-- a PING for all is answered by each drone
abbrev pub extra_at : Bool → Node → ℕ
extra_at true (Drone n) = 1
extra_at true (Station n) = 0
extra_at false n = 0

module _ (sys : ℕ) (me : Name) (kind : PlanKind) (plan : List Item) (valid : IsValid (number_of kind) plan) (fits : All ItemInRange plan) (dp sp : ℕ) where
  abbrev IsWaiting : WorldState → ℕ → Stage plan → Type 0
  IsWaiting = Waits sys me kind plan valid dp sp

  abbrev Beside : WorldState → ℕ → ℕ → Stage plan → Step → Type 0
  Beside = Near sys me kind plan valid dp sp

  abbrev Aside : List ℕ → Packet → Type 0
  Aside = IsAside sys me kind plan valid dp sp

  abbrev sends_it : Bool → Name
  sends_it = sender sys me kind plan valid dp sp

  abbrev hears_it : Bool → Link → Link → Link
  hears_it = listener sys me kind plan valid dp sp

  abbrev says : Stage plan → PlanMsg
  says = message_of sys me kind plan valid

  carried : (p : Stage plan) → plan_of (message_of_plan (says p)) ≡ Some (says p)
  carried = is_carried sys me kind plan valid fits

  module _ (s : WorldState) (r : ℕ) (p : Stage plan) (w : IsWaiting s r p) where
    abbrev pub target_of : Bool → Name
    target_of up = if up then sends_it false else me

    abbrev target_holds : (up : Bool) → Holds s.nodes (target_of up)
    target_holds true = drone_holds sys me kind plan valid dp sp s r p w
    target_holds false = station_holds sys me kind plan valid dp sp s r p w

    not_there : (up : Bool) (j : ℕ) → j ≢ dp → j ≢ sp → j ≢ (target_holds up).index
    not_there true j nd ns = nd
    not_there false j nd ns = ns

    module _ (i : ℕ) (f : Packet) (found : slice_get s.sent i ≡ Some f) (stamp : ℕ) (m : PlanMsg) (c : Carries s.key f stamp m) (name : Name) where
      abbrev Given : ℕ → Node → ℕ → Type 0
      Given j y extra = IfOk (node_does s j name (node_receives s.clock (encoding f) y)) (Beside s extra r p)

      -- a message for one is left alone by others
      pub left_alone : (up : Bool) → addressee m ≡ target_of up → (j : ℕ) (y : Node) → slice_get s.nodes j ≡ Some y → j ≢ dp → j ≢ sp → Given j y 0
      left_alone up to j (Drone y) there nd ns =
          other_drone sys me kind plan valid dp sp s r p w i f found stamp m c name j y there nd ns
          (drone_leaves s w.sound (target_of up) (target_holds up) j y there (not_there up j nd ns) (stream_of f.from) m to)
      left_alone up to j (Station y) there nd ns =
          other_station sys me kind plan valid dp sp s r p w i f found stamp m c name j y there nd ns
          (station_leaves s w.sound (target_of up) (target_holds up) j y there (not_there up j nd ns) (stream_of f.from) m to)

      module _ (j : ℕ) (y : DroneSide) (there : slice_get s.nodes j ≡ Some (Drone y)) (nd : j ≢ dp) (ns : j ≢ sp) (boot ping : ℕ) where
        abbrev reply : CoreStep DroneState
        reply = record { core = y.core; first = []; answer = Some (Ping me boot ping); last = [] }

        abbrev Replied : Step → Type 0
        Replied t = Said s w.sound i f found stamp m c drone_rules drones j y there name reply (Ping me boot ping) t

        aside : (t : Step) → (h : Replied t) → Aside s.key h.packet
        aside t h = record {
          stamp = next_in (tries f y.link).history s.clock;
          boot = boot;
          number = ping;
          carries = h.carries;
          not_drone = λ e. nd (w.sound.apart j dp (Drone y) (Drone w.drone) there w.drone_there (sym h.from ∙ e ∙ sym w.drone_named));
          not_station = λ e. ns (w.sound.apart j sp (Drone y) (Station w.station) there w.station_there (sym h.from ∙ e ∙ sym w.station_named));
        }

        -- another drone answers a PING
        pub replies : f.from ≡ me → m ≡ Ping everyone boot ping → Given j (Drone y) 1
        replies from is =
            unless_still s w.sound i f found stamp m c drone_rules drones j y there name (Beside s 1 r p)
            (λ admitted. weaker Replied (Beside s 1 r p) (node_does s j name (node_receives s.clock (encoding f) (Drone y)))
            (λ t h. near_other sys me kind plan valid dp sp s r p w j (Drone (record y { link = sent_at (next_in (tries f y.link).history s.clock) (tries f y.link) })) (h.packet ∷ []) t.events t nd ns
            (record { is = h.moves.is; events_are = refl; keeps = h.moves.keeps }) (λ q at. subst (Aside s.key) (only_packet h.packet q at) (aside t h)))
            (said s w.sound i f found stamp m c drone_rules drones j y there name admitted reply
            (ap (drone_core y.core (stream_of f.from)) is ∙ ap (λ n. drone_core y.core (stream_of n) (Ping everyone boot ping)) from) (Ping me boot ping) refl refl refl refl))
            (λ t h. near_more sys me kind plan valid dp sp s 0 1 r p t (omega arith)
            (near_other sys me kind plan valid dp sp s r p w j (Drone (record y { link = tries f y.link; services = h.services })) [] h.events t nd ns h.moves (λ q at. absurd (no_packet q at))))

    -- another node is given a message of the upload
    pub others : (q : Stage plan) (i : ℕ) (f : Packet) (found : slice_get s.sent i ≡ Some f) (stamp : ℕ) (c : Carries s.key f stamp (says q)) (name : Name) → f.from ≡ sends_it (is_up q)
        → (j : ℕ) (y : Node) → slice_get s.nodes j ≡ Some y → j ≢ dp → j ≢ sp → IfOk (node_does s j name (node_receives s.clock (encoding f) y)) (Beside s (extra_at (is_ping q) y) r p)
    others q i f found stamp c name from j y there nd ns = by_ping (is_ping q) refl y there
      where
        by_ping : (b : Bool) → is_ping q ≡ b → (y : Node) → slice_get s.nodes j ≡ Some y → IfOk (node_does s j name (node_receives s.clock (encoding f) y)) (Beside s (extra_at b y) r p)
        by_ping false e y there = left_alone i f found stamp (says q) c name (is_up q) (for_one sys me kind plan valid q e) j y there nd ns
        by_ping true e (Drone y) there =
            let x = ping_of sys me kind plan valid q e in
            replies i f found stamp (says q) c name j y there nd ns x.boot x.ping (from ∙ ap sends_it x.up) x.is
        by_ping true e (Station y) there =
            let x = ping_of sys me kind plan valid q e in
            other_station sys me kind plan valid dp sp s r p w i f found stamp (says q) c name j y there nd ns
            (ap (station_step y.core (stream_of f.from)) x.is ∙ station_leaves_ping s w.sound j y there (stream_of f.from) x.boot x.ping)

    -- the next message is on its way
    pub record Moved (t : Step) : Type 0 where
      pub next : Stage plan
      pub not_ping : is_ping next ≡ false
      pub fewer : costs sys me kind plan valid next + 1 ≤ costs sys me kind plan valid p
      pub waits : IsWaiting t.state (length s.sent) next
      pub given : t.state.given ≡ s.given
      pub names : names_of t.state.nodes ≡ names_of s.nodes
      pub sent : length t.state.sent ≡ length s.sent + 1
      pub there : (i : ℕ) (q : Packet) → slice_get s.sent i ≡ Some q → slice_get t.state.sent i ≡ Some q
      pub key : t.state.key ≡ s.key
      pub goal : (es : List Event) → Goal sys me kind plan valid next es → Goal sys me kind plan valid p (t.events ++ es)

    abbrev f : Packet
    f = w.flies.frame

    abbrev m : PlanMsg
    m = says p

    fresh_at : (b : Bool) → is_up p ≡ b → (l : ℕ) → last_of (stream_of f.from) (hears_it b w.drone.link w.station.link).history ≡ Some l → l < w.flies.stamp
    fresh_at b e l h =
        w.flies.fresh l
        (ap (λ x. last_of (stream_of (sends_it (is_up p))) (hears_it x w.drone.link w.station.link).history) e
        ∙ ap (λ n. last_of (stream_of n) (hears_it b w.drone.link w.station.link).history) (sym w.flies.from) ∙ h)

    above_at : (b : Bool) → is_up p ≡ b → IsAbove (hears_it b w.drone.link w.station.link).history w.flies.stamp
    above_at b e = subst (λ x. IsAbove (hears_it x w.drone.link w.station.link).history w.flies.stamp) e w.flies.above

    old_aside : (given_on : r < s.given) (packet : Packet) (i : ℕ) (q : Packet) → s.given ≤ i → slice_get (s.sent ++ packet ∷ []) i ≡ Some q → i ≢ length s.sent → Aside s.key q
    old_aside given_on packet i q le e ne = elim (at_end s.sent packet q i e) [
      | inl old ↦ w.asides i q le old (λ z. absurd (omega arith))
      | inr new ↦ absurd (ne new.0)
    ]

    -- the drone takes it
    module _ (up : is_up p ≡ true) (given_on : r < s.given) where
      goes : DroneGoes sys me kind plan valid p w.drone.core
      goes = drone_goes sys me kind plan valid p w.drone.core up w.drone_is

      abbrev drone_after : Link
      drone_after = tries f w.drone.link

      abbrev drone_stamp : ℕ
      drone_stamp = next_in drone_after.history s.clock

      abbrev drone_took : CoreStep DroneState
      drone_took = record { core = goes.step.drone; first = change_events (stream_of me) goes.step.drone.plans (change_by goes.step.event); answer = goes.step.answer; last = [] }

      drone_takes_it : drone_core w.drone.core (stream_of f.from) m ≡ drone_took
      drone_takes_it = ap (λ n. drone_core w.drone.core (stream_of n) m) (w.flies.from ∙ ap sends_it up) ∙ drone_core_rests w.drone.core (stream_of me) m goes.step goes.is

      abbrev DroneSaid : Step → Type 0
      DroneSaid t = Said s w.sound r f w.flies.found w.flies.stamp m w.flies.carries drone_rules drones dp w.drone w.drone_there (node_name (Drone w.drone)) drone_took (says goes.next) t

      abbrev drone_new : DroneSide
      drone_new = record { link = sent_at drone_stamp drone_after; core = goes.step.drone; services = drone_notes w.drone.services drone_took.first }

      drone_waits : (t : Step) (h : DroneSaid t) → Sound (moved s dp (Drone drone_new) (h.packet ∷ [])) → IsWaiting (moved s dp (Drone drone_new) (h.packet ∷ [])) (length s.sent) goes.next
      drone_waits t h sound = record {
        sound = sound;
        drone = drone_new;
        drone_there = set_there s.nodes dp (Drone w.drone) (Drone drone_new) w.drone_there;
        drone_named = w.drone_named;
        station = w.station;
        station_there = set_elsewhere s.nodes dp sp (Drone drone_new) (λ e. apart_indices sys me kind plan valid dp sp s r p w (sym e)) ∙ w.station_there;
        station_named = w.station_named;
        drone_is = goes.drone_is;
        station_is = goes.station_is w.station.core w.station_is;
        above = λ low e. w.above low (sym (low_sent drone_after drone_stamp ∙ low_tried w.drone.link f) ∙ e);
        flies = record {
          frame = h.packet;
          found = last_there s.sent h.packet;
          from = h.from ∙ w.drone_named ∙ ap sends_it (sym goes.down);
          stamp = drone_stamp;
          carries = h.carries;
          recent = next_recent drone_after.history s.clock;
          fresh = λ l e.
              let old : last_of (stream_of (sends_it false)) w.station.link.history ≡ Some l = ap (λ b. last_of (stream_of (sends_it b)) (hears_it b drone_new.link w.station.link).history) (sym goes.down) ∙ e in
              let below = last_before s w.sound sp dp (Station w.station) (Drone w.drone) w.station_there w.drone_there (sends_it false) w.drone_named l old in
              let above = next_fresh s.key w.drone.link f s.clock in
              omega arith;
          above = subst (λ b. IsAbove (hears_it b drone_new.link w.station.link).history drone_stamp) (sym goes.down) (station_above s w.sound sp w.station w.station_there drone_stamp);
        };
        asides = old_aside given_on h.packet;
      }

      drone_moved : (t : Step) → DroneSaid t → Moved t
      drone_moved t h = record {
        next = goes.next;
        not_ping = down_not_ping goes.next goes.down;
        fewer = goes.fewer;
        waits = subst (λ x. IsWaiting x (length s.sent) goes.next) (sym h.moves.is) (drone_waits t h (subst Sound h.moves.is h.moves.keeps.sound));
        given = ap (λ (x : WorldState). x.given) h.moves.is;
        names = h.moves.keeps.names;
        sent = ap (λ (x : WorldState). length x.sent) h.moves.is ∙ length-append s.sent (h.packet ∷ []);
        there = h.moves.keeps.kept.sent;
        key = ap (λ (x : WorldState). x.key) h.moves.is;
        goal = λ es g. drone_goal sys me kind plan valid (node_name (Drone w.drone)) (length s.sent) h.packet (message_of_plan (says goes.next)) es w.drone_named p goes.next up drone_took.first goes.event t.events h.moves.events_are g;
      }
        where
          down_not_ping : (q : Stage plan) → is_up q ≡ false → is_ping q ≡ false
          down_not_ping q e = not_ping q (is_ping q) refl e
            where
              not_ping : (q : Stage plan) (b : Bool) → is_ping q ≡ b → is_up q ≡ false → is_ping q ≡ false
              not_ping q false b e = b
              not_ping q true b e = absurd (let x = ping_of sys me kind plan valid q b in let z : true ≡ false = sym x.up ∙ e in cc)

      pub drone_turn : IfOk (node_does s dp (node_name (Drone w.drone)) (node_receives s.clock (encoding f) (Drone w.drone))) Moved
      drone_turn =
          weaker DroneSaid Moved (node_does s dp (node_name (Drone w.drone)) (node_receives s.clock (encoding f) (Drone w.drone))) drone_moved
          (said s w.sound r f w.flies.found w.flies.stamp m w.flies.carries drone_rules drones dp w.drone w.drone_there (node_name (Drone w.drone))
          (is_admitted s w.sound dp (Drone w.drone) w.drone_there f w.flies.stamp m w.flies.carries w.flies.recent (fresh_at true up) (above_at true up))
          drone_took drone_takes_it (says goes.next) goes.answer (ap packets_in goes.event ∙ no_frames sys me kind plan valid goes.next) refl (carried goes.next))

    -- the station takes it
    module _ (down : is_up p ≡ false) where
      from_drone : f.from ≡ sends_it false
      from_drone = w.flies.from ∙ ap sends_it down

      station_admits : answer_to w.station.link.key w.station.link.history f ≡ Admitted
      station_admits = is_admitted s w.sound sp (Station w.station) w.station_there f w.flies.stamp m w.flies.carries w.flies.recent (fresh_at false down) (above_at false down)

      station_takes : (q : StationStep) → station_step w.station.core (stream_of (sends_it false)) m ≡ q → station_core w.station.core (stream_of f.from) m ≡ station_does q
      station_takes q is = ap (λ n. station_core w.station.core (stream_of n) m) from_drone ∙ ap station_does is

      module _ (goes_on : is_last p ≡ false) (given_on : r < s.given) where
        does_it : StationGoes sys me kind plan valid p w.station.core
        does_it = station_goes sys me kind plan valid p w.station.core down goes_on w.station_is

        abbrev station_after : Link
        station_after = tries f w.station.link

        abbrev station_stamp : ℕ
        station_stamp = next_in station_after.history s.clock

        abbrev StationSaid : Step → Type 0
        StationSaid t = Said s w.sound r f w.flies.found w.flies.stamp m w.flies.carries station_rules stations sp w.station w.station_there (node_name (Station w.station)) (station_does does_it.step) (says does_it.next) t

        abbrev station_new : StationSide
        station_new = record w.station { link = sent_at station_stamp station_after; core = untold does_it.step.station }

        stamp_above : IsAbove w.drone.link.history station_stamp
        stamp_above low e =
            let below = w.above low e in
            let above = next_fresh s.key w.station.link f s.clock in
            omega arith

        station_waits : (t : Step) (h : StationSaid t) → Sound (moved s sp (Station station_new) (h.packet ∷ [])) → IsWaiting (moved s sp (Station station_new) (h.packet ∷ [])) (length s.sent) does_it.next
        station_waits t h sound = record {
          sound = sound;
          drone = w.drone;
          drone_there = set_elsewhere s.nodes sp dp (Station station_new) (apart_indices sys me kind plan valid dp sp s r p w) ∙ w.drone_there;
          drone_named = w.drone_named;
          station = station_new;
          station_there = set_there s.nodes sp (Station w.station) (Station station_new) w.station_there;
          station_named = w.station_named;
          drone_is = does_it.drone_is w.drone.core w.drone_is;
          station_is = station_untold sys me kind plan valid does_it.next does_it.step.station does_it.station_is;
          above = subst (IsAbove w.drone.link.history) (sym (sending_is station_after.history station_stamp)) stamp_above;
          flies = record {
            frame = h.packet;
            found = last_there s.sent h.packet;
            from = h.from ∙ w.station_named ∙ ap sends_it (sym does_it.up);
            stamp = station_stamp;
            carries = h.carries;
            recent = next_recent station_after.history s.clock;
            fresh = λ l e.
                let old : last_of (stream_of me) w.drone.link.history ≡ Some l = ap (λ b. last_of (stream_of (sends_it b)) (hears_it b w.drone.link station_new.link).history) (sym does_it.up) ∙ e in
                let below = last_before s w.sound dp sp (Drone w.drone) (Station w.station) w.drone_there w.station_there me w.station_named l old in
                let above = next_fresh s.key w.station.link f s.clock in
                omega arith;
            above = subst (λ b. IsAbove (hears_it b w.drone.link station_new.link).history station_stamp) (sym does_it.up) stamp_above;
          };
          asides = old_aside given_on h.packet;
        }

        station_moved : (t : Step) → StationSaid t → Moved t
        station_moved t h = record {
          next = does_it.next;
          not_ping = does_it.not_ping;
          fewer = does_it.fewer;
          waits = subst (λ x. IsWaiting x (length s.sent) does_it.next) (sym h.moves.is) (station_waits t h (subst Sound h.moves.is h.moves.keeps.sound));
          given = ap (λ (x : WorldState). x.given) h.moves.is;
          names = h.moves.keeps.names;
          sent = ap (λ (x : WorldState). length x.sent) h.moves.is ∙ length-append s.sent (h.packet ∷ []);
          there = h.moves.keeps.kept.sent;
          key = ap (λ (x : WorldState). x.key) h.moves.is;
          goal = λ es g.
              let u = upload_of sys me kind plan valid in
              subst (λ b. goal_of u b (t.events ++ es)) (up_not_last does_it.next does_it.up ∙ sym goes_on) (goal_behind u (is_last does_it.next) t.events es g);
        }

        pub station_turn : IfOk (node_does s sp (node_name (Station w.station)) (node_receives s.clock (encoding f) (Station w.station))) Moved
        station_turn =
            weaker StationSaid Moved (node_does s sp (node_name (Station w.station)) (node_receives s.clock (encoding f) (Station w.station))) station_moved
            (said s w.sound r f w.flies.found w.flies.stamp m w.flies.carries station_rules stations sp w.station w.station_there (node_name (Station w.station)) station_admits
            (station_does does_it.step) (station_takes does_it.step does_it.is) (says does_it.next) does_it.answer refl (no_frames_reported does_it.step.station.outcome) (carried does_it.next))

  -- the acknowledgement ends it
  pub station_end : (s : WorldState) (r : ℕ) (w : IsWaiting s r Acks)
      → IfOk (node_does s sp (node_name (Station w.station)) (node_receives s.clock (encoding w.flies.frame) (Station w.station))) (λ t. (es : List Event) → Goal sys me kind plan valid Acks (t.events ++ es))
  station_end s r w =
      let x = station_ends sys me kind plan valid w.station.core w.station_is in
      let name = node_name (Station w.station) in
      let told = reported_by name (length s.sent) (told_events x.step.station.outcome ++ []) in
      weaker (λ t. t.events ≡ told) (λ t. (es : List Event) → Goal sys me kind plan valid Acks (t.events ++ es)) (node_does s sp name (node_receives s.clock (encoding w.flies.frame) (Station w.station)))
      (λ t h es. reports_at (upload_of sys me kind plan valid) name w.station_named (length s.sent) x.step.station.outcome x.told t.events h es)
      (ends_so s w.sound r w.flies.frame w.flies.found w.flies.stamp (says Acks) w.flies.carries station_rules stations sp w.station w.station_there name (station_admits s r Acks w refl)
      (station_does x.step) (station_takes s r Acks w refl x.step x.is) x.silent refl (no_frames_reported x.step.station.outcome))
