-- What becomes of a state in which a sent frame is given to a node: the node hears it in silence, or sends a frame.
use Rattle.std.proofs.Common.{◌≡◌, ◌∙◌, ℕ, ◌⊎◌, inl, inr, List, [], ◌∷◌, ◌++◌, length, slice_get, Some, None, refl, sym, ap, subst}
use Rattle.std.specs.Prelude.{IfOk}
use Rattle.mav_names.specs.declared.names.Name.{Name}
use Rattle.mav_profile.specs.Messages.{extras_of}
use Rattle.mav_profile.specs.Profile.{profile_definitions}
use Rattle.mav_frame.specs.Packet.{Packet}
use Rattle.mav_frame.specs.Encoding.{encoding}
use Rattle.plan_items.specs.declared.messages.PlanMsg.{PlanMsg}
use Rattle.plan_upload.specs.Addresses.{node_of}
use Rattle.mav_messages.specs.Plans.{message_of_plan, plan_of}
use Rattle.mav_sign.specs.declared.admission.Admit.TheVariants.{Admitted}
use Rattle.mav_sign.specs.History.{answer_to, next_in}
use Rattle.mav_nodes.specs.News.{NodeEvent, Sends}
use Rattle.mav_nodes.specs.Links.{Link, Outcome, done, tries, sent_at}
use Rattle.mav_nodes.specs.Signed.{signed_packet}
use Rattle.mav_nodes.specs.Steps.{Side, Rules, CoreStep, receives}
use Rattle.mav_nodes.specs.Nodes.{drone_rules, station_rules}
use Rattle.fleet_report.specs.Events.{Event}
use Rattle.node_reports.specs.Nodes.{Node, Drone, Station}
use Rattle.node_reports.specs.Calls.{as_drone, as_station, node_receives}
use Rattle.node_reports.specs.Reporting.{reported_by}
use Rattle.fleet_world.specs.WorldState.{WorldState, stream_of}
use Rattle.fleet_world.specs.Steps.{Step, packets_in, node_does}
use Rattle.fleet_invariants.specs.Sound.{link_of, Sound}
use Rattle.fleet_invariants.specs.Kept.{Keeps, OutcomeReads}
use Rattle.fleet_invariants.proofs.Calls.{sound_does}
use Rattle.fleet_invariants.proofs.Heard.{sent_known}
use Rattle.fleet_liveness.proofs.Hearing.{Carries, Quiet, quiet, unless_dropped, Says, Spent, Said as Was_said, says, ended, none_of, packets_append}
use Rattle.fleet_liveness.proofs.Sendings.{reads_at, carries_last}
use Rattle.fleet_liveness.proofs.Steps.{Moves, does_nothing, does_moves, weaker}

-- nodes with such a core
pub record Role {Core Services : Type 0} (rules : Rules Core Services) : Type 0 where
  pub as_node : Side Core Services → Node
  pub as_outcome : Outcome (Side Core Services) → Outcome Node
  pub none : as_outcome None ≡ None
  pub some : (y : Side Core Services) (events : List NodeEvent) → as_outcome (done y events) ≡ done (as_node y) events
  pub receives_is : (clock : ℕ) (bytes : List ℕ) (y : Side Core Services) → node_receives clock bytes (as_node y) ≡ as_outcome (receives rules clock bytes y)
  pub link_is : (y : Side Core Services) → link_of (as_node y) ≡ y.link

abbrev pub drones : Role drone_rules
drones = record { as_node = Drone; as_outcome = as_drone; none = refl; some = λ y events. refl; receives_is = λ clock bytes y. refl; link_is = λ y. refl }

abbrev pub stations : Role station_rules
stations = record { as_node = Station; as_outcome = as_station; none = refl; some = λ y events. refl; receives_is = λ clock bytes y. refl; link_is = λ y. refl }

module _ (s : WorldState) (g : Sound s) (i : ℕ) (f : Packet) (found : slice_get s.sent i ≡ Some f) (stamp : ℕ) (m : PlanMsg) (c : Carries s.key f stamp m)
    {Core Services : Type 0} (rules : Rules Core Services) (role : Role rules) (j : ℕ) (y : Side Core Services) (there : slice_get s.nodes j ≡ Some (role.as_node y)) (name : Name) where
  abbrev call : Outcome Node
  call = node_receives s.clock (encoding f) (role.as_node y)

  abbrev after : Link
  after = tries f y.link

  keeps : Keeps s (node_does s j name call) × OutcomeReads call
  keeps = (sound_does s g).receives (encoding f) (sent_known s g i f found) j (role.as_node y) name there

  key : y.link.key ≡ s.key
  key = ap (λ (l : Link). l.key) (sym (role.link_is y)) ∙ (g.links j (role.as_node y) there).key

  extras : y.link.extras ≡ extras_of profile_definitions
  extras = ap (λ (l : Link). l.extras) (sym (role.link_is y)) ∙ (g.links j (role.as_node y) there).extras

  -- the node as it is then
  abbrev become : Core → Services → Node
  become core services = role.as_node (record { link = after; core = core; services = services })

  pub record Still (core : Core) (t : Step) : Type 0 where
    pub services : Services
    pub events : List Event
    pub moves : Moves s j (become core services) [] events t

  stills : (core : Core) → Quiet s.key f stamp m c rules s.clock y key extras core → IfOk (node_does s j name call) (Still core)
  stills core q =
      let node = become core q.services in
      weaker (Moves s j node [] (reported_by name (length s.sent) q.events)) (Still core) (node_does s j name call)
      (λ t h. record { services = q.services; events = reported_by name (length s.sent) q.events; moves = h })
      (does_moves s j name call (record { node = node; events = q.events }) [] (role.receives_is s.clock (encoding f) y ∙ ap role.as_outcome q.is ∙ role.some _ q.events) q.none keeps.0)

  -- a message that its core doesn't answer
  pub still : (r : CoreStep Core) → rules.take y.core (stream_of f.from) m ≡ r → r.answer ≡ None → packets_in r.first ≡ [] → packets_in r.last ≡ [] → IfOk (node_does s j name call) (λ t. Still y.core t ⊎ Still r.core t)
  still r is no_answer first last = elim (quiet s.key f stamp m c rules s.clock y key extras r is no_answer first last) [
    | inl q ↦ weaker (Still y.core) (λ t. Still y.core t ⊎ Still r.core t) (node_does s j name call) (λ t h. inl h) (stills y.core q)
    | inr q ↦ weaker (Still r.core) (λ t. Still y.core t ⊎ Still r.core t) (node_does s j name call) (λ t h. inr h) (stills r.core q)
  ]

  -- and one that it answers
  pub record Said (r : CoreStep Core) (answer : PlanMsg) (t : Step) : Type 0 where
    pub packet : Packet
    pub from : packet.from ≡ node_of y.link.me
    pub moves : Moves s j (role.as_node (record { link = sent_at (next_in after.history s.clock) after; core = r.core; services = rules.note y.services r.first })) (packet ∷ []) (reported_by name (length s.sent) (r.first ++ Sends packet (message_of_plan answer) ∷ r.last)) t
    pub carries : Carries s.key packet (next_in after.history s.clock) answer

  one_packet : (first last : List NodeEvent) (packet : Packet) (answer : PlanMsg) → packets_in first ≡ [] → packets_in last ≡ [] → packets_in (first ++ Sends packet (message_of_plan answer) ∷ last) ≡ packet ∷ []
  one_packet first last packet answer f l = packets_append first (Sends packet (message_of_plan answer) ∷ last) ∙ ap (λ ps. ps ++ packet ∷ packets_in last) f ∙ ap (λ ps. packet ∷ ps) l

  pub said : answer_to y.link.key y.link.history f ≡ Admitted → (r : CoreStep Core) → rules.take y.core (stream_of f.from) m ≡ r → (answer : PlanMsg) → r.answer ≡ Some answer → packets_in r.first ≡ [] → packets_in r.last ≡ []
      → plan_of (message_of_plan answer) ≡ Some answer → IfOk (node_does s j name call) (Said r answer)
  said admitted r is answer answers first last carried = by_says (says s.key f stamp m c rules s.clock y key extras r is answer answers admitted)
    where
      by_says : Says s.key f stamp m c rules s.clock y key extras r answer → IfOk (node_does s j name call) (Said r answer)
      by_says (Spent e) = does_nothing (Said r answer) s j name call (role.receives_is s.clock (encoding f) y ∙ ap role.as_outcome e ∙ role.none)
      by_says (Was_said packet made e) =
          let t = next_in after.history s.clock in
          let node = role.as_node (record { link = sent_at t after; core = r.core; services = rules.note y.services r.first }) in
          let events = r.first ++ Sends packet (message_of_plan answer) ∷ r.last in
          let whole : call ≡ done node events = role.receives_is s.clock (encoding f) y ∙ ap role.as_outcome e ∙ role.some _ events in
          let reads = reads_at r.first r.last packet (message_of_plan answer) (subst OutcomeReads whole keeps.1) in
          weaker (Moves s j node (packet ∷ []) (reported_by name (length s.sent) events)) (Said r answer) (node_does s j name call)
          (λ t h. record {
            packet = packet;
            from = ap (λ (p : Packet). p.from) made;
            moves = h;
            carries = subst (λ k. Carries k packet (next_in after.history s.clock) answer) (ap (λ (x : WorldState). x.key) h.is)
                (carries_last t.state s.sent y.link.key y.link.me y.link.seq (next_in after.history s.clock) (message_of_plan answer) answer packet h.keeps.sound (ap (λ (x : WorldState). x.sent) h.is)
                (made ∙ ap (λ x. signed_packet y.link.key x y.link.me y.link.seq (next_in after.history s.clock) (message_of_plan answer)) extras) reads carried);
          })
          (does_moves s j name call (record { node = node; events = events }) (packet ∷ []) whole (one_packet r.first r.last packet answer first last) keeps.0)

  -- it is dropped if it isn't admitted
  pub unless_still : (P : Step → Type 0) → (answer_to y.link.key y.link.history f ≡ Admitted → IfOk (node_does s j name call) P) → ((t : Step) → Still y.core t → P t) → IfOk (node_does s j name call) P
  unless_still P admitted dropped = elim (unless_dropped s.key f stamp m c rules s.clock y key extras) [
    | inl e ↦ admitted e
    | inr q ↦ weaker (Still y.core) P (node_does s j name call) dropped (stills y.core q)
  ]

  -- a message that its core takes without an answer, and what is reported of it
  pub ends_so : answer_to y.link.key y.link.history f ≡ Admitted → (r : CoreStep Core) → rules.take y.core (stream_of f.from) m ≡ r → r.answer ≡ None → packets_in r.first ≡ [] → packets_in r.last ≡ []
      → IfOk (node_does s j name call) (λ t. t.events ≡ reported_by name (length s.sent) ((r.first ++ r.last) ++ []))
  ends_so admitted r is no_answer first last =
      let events = (r.first ++ r.last) ++ [] in
      let node = become r.core (rules.note y.services r.first) in
      weaker (Moves s j node [] (reported_by name (length s.sent) events)) (λ t. t.events ≡ reported_by name (length s.sent) events) (node_does s j name call) (λ t h. h.events_are)
      (does_moves s j name call (record { node = node; events = events }) []
      (role.receives_is s.clock (encoding f) y ∙ ap role.as_outcome (ended s.key f stamp m c rules s.clock y key extras r is no_answer admitted) ∙ role.some _ events)
      (none_of s.key f stamp m c rules s.clock y key extras r.first r.last first last) keeps.0)
