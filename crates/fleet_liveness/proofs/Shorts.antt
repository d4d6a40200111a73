-- A flow is not stopped while there is room for 40 frames of each node at each frame that it gives: no node sends more,
-- and each has timestamps left for them.
use Rattle.std.proofs.Common.{◌≡◌, ◌∙◌, ℕ, zero, suc, ◌+◌, ◌*◌, ◌≤◌, false, nat_lt, List, [], ◌∷◌, ◌++◌, length, slice_get, Option, Some, None, Ok, Err, refl, sym, ap, subst, arith, length-append}
use Rattle.std.specs.Prelude.{nat_le}
use Rattle.std.specs.declared.result.Result.{Result}
use Rattle.std.proofs.lemmas.List.{append-nil, length-map}
use Rattle.mav_names.specs.declared.names.Name.{Name}
use Rattle.mav_names.specs.declared.names.Stream.{Stream}
use Rattle.mav_profile.specs.Messages.{extras_of}
use Rattle.mav_profile.specs.Profile.{profile_definitions}
use Rattle.mav_frame.specs.Packet.{Packet, SignatureBlock}
use Rattle.mav_frame.specs.Encoding.{encoding}
use Rattle.mav_frame.specs.FinalParse.{final_parse}
use Rattle.plan_items.specs.declared.messages.PlanMsg.{PlanMsg}
use Rattle.plan_upload.specs.Addresses.{same_name}
use Rattle.plan_upload.specs.Plans.{Plans}
use Rattle.plan_upload.specs.declared.changes.Change.{Change}
use Rattle.plan_upload.specs.declared.changes.Change.TheVariants.{Same, Install, Empty}
use Rattle.mav_messages.specs.declared.messages.Message.{Message}
use Rattle.mav_messages.specs.Plans.{message_of_plan}
use Rattle.mav_sign.specs.declared.admission.Admit.{Admit}
use Rattle.mav_sign.specs.declared.admission.Admit.TheVariants.{Admitted, Unsigned, BadSignature, BelowFloor, NotLater, TooOld, TooManyStreams}
use Rattle.mav_sign.specs.Endpoints.{frames_of}
use Rattle.mav_sign.specs.History.{answer_to, stream_of as stream_in, next_in, greatest_stamp}
use Rattle.mav_nodes.specs.News.{NodeEvent}
use Rattle.mav_nodes.specs.Payloads.{plan_in, service_in}
use Rattle.mav_nodes.specs.Links.{Link, Done, Outcome, after_events, and_then, tries, sends, sends_all}
use Rattle.mav_nodes.specs.FileServices.{transfer_heard}
use Rattle.mav_nodes.specs.Services.{DroneServices, StationServices, station_served}
use Rattle.mav_nodes.specs.Nodes.{DroneSide, StationSide, drone_rules, station_rules, change_events}
use Rattle.mav_nodes.specs.Steps.{Side, Rules, with_core, answers, steps, serves, takes, admits, hears, hears_all, receives}
use Rattle.command_proto.specs.Commander.{commander_step}
use Rattle.param_proto.specs.Client.{client_step}
use Rattle.fleet_report.specs.Events.{Event}
use Rattle.node_reports.specs.Nodes.{Node, Drone, Station, node_name}
use Rattle.node_reports.specs.Calls.{as_drone, as_station, node_receives}
use Rattle.fleet_world.specs.WorldState.{WorldState, named, names_of}
use Rattle.fleet_world.specs.Steps.{Step, StepError, rests, packets_in, node_does, most_frames, given_to, given_from, given_to_all, flow_next, flows}
use Rattle.fleet_world.specs.Steps as world
use Rattle.fleet_invariants.specs.Services.{param_count}
use Rattle.fleet_invariants.specs.Sound.{Sound}
use Rattle.fleet_invariants.specs.Kept.{Keeps}
use Rattle.fleet_invariants.proofs.Calls.{sound_does}
use Rattle.fleet_invariants.proofs.Heard.{heard_is, sent_known}
use Rattle.fleet_invariants.proofs.Lists.{within}
use Rattle.fleet_invariants.proofs.Services.{most_answers}
use Rattle.fleet_invariants.proofs.Nodes.{silent_none}
use Rattle.fleet_invariants.proofs.Hearing.{services_silent}
use Rattle.fleet_invariants.proofs.Timestamps.{SendsFew, IsDone as IsCalled}
use Rattle.fleet_invariants.proofs.Unspent.{drones_send_few, stations_send_few, sent_done}
use Rattle.fleet_invariants.proofs.Restated.{sound_restated}
use Rattle.fleet_invariants.proofs.Tests.{by_test}
use Rattle.fleet_liveness.specs.Room.{IsDone}
use Rattle.fleet_liveness.proofs.Hearing.{packets_append}
use Rattle.fleet_liveness.proofs.Others.{no_frames_reported}
use Rattle.fleet_liveness.proofs.Steps.{step_behind}

-- a call sends at most so many frames
abbrev AtMost : {A : Type 0} → ℕ → Outcome A → Type 0
AtMost n None = Unit {0}
AtMost n (Some d) = length (packets_in d.events) ≤ n

at_most_more : {A : Type 0} (n m : ℕ) (o : Outcome A) → n ≤ m → AtMost n o → AtMost m o
at_most_more n m None le h = tt
at_most_more n m (Some d) le h = omega (arith, le, h)

at_most_behind : {A : Type 0} (n m : ℕ) (events : List NodeEvent) (o : Outcome A) → length (packets_in events) ≤ n → AtMost m o → AtMost (n + m) (after_events events o)
at_most_behind n m events None few h = tt
at_most_behind n m events (Some d) few h =
    let all = ap (λ (ps : List Packet). length ps) (packets_append events d.events) in
    let both = length-append (packets_in events) (packets_in d.events) in
    omega (arith, few, h, all, both)

at_most_then : {A B : Type 0} (n m : ℕ) (o : Outcome A) (next : A → Outcome B) → AtMost n o → ((a : A) → AtMost m (next a)) → AtMost (n + m) (and_then o next)
at_most_then n m None next h each = tt
at_most_then n m (Some d) next h each = at_most_behind n m d.events (next d.node) h (each d.node)

at_most_core : {Core Services : Type 0} (n : ℕ) (core : Core) (services : Services) (last : List NodeEvent) (o : Outcome Link) → packets_in last ≡ [] → AtMost n o → AtMost n (with_core core services last o)
at_most_core n core services last None none h = tt
at_most_core n core services last (Some d) none h =
    let all = ap (λ (ps : List Packet). length ps) (packets_append d.events last ∙ ap (λ ps. packets_in d.events ++ ps) none ∙ append-nil (packets_in d.events)) in
    omega (arith, h, all)

one_sent : (clock : ℕ) (message : Message) (link : Link) → AtMost 1 (sends clock message link)
one_sent clock message link =
    by_test (AtMost 1) (nat_lt greatest_stamp (next_in link.history clock)) None _ (λ _. tt) (λ _. omega arith)

all_sent : (clock : ℕ) (messages : List Message) (link : Link) → AtMost (length messages) (sends_all clock messages link)
all_sent clock [] link = omega arith
all_sent clock (m ∷ ms) link =
    at_most_more (1 + length ms) (length (m ∷ ms)) (sends_all clock (m ∷ ms) link) (omega arith)
    (at_most_then 1 (length ms) (sends clock m link) (sends_all clock ms) (one_sent clock m link) (all_sent clock ms))

one_answer : (clock : ℕ) (answer : Option PlanMsg) (link : Link) → AtMost 1 (answers clock answer link)
one_answer clock None link = omega arith
one_answer clock (Some m) link = one_sent clock (message_of_plan m) link

-- no frame is among what a core and its services report
record Quiet {Core Services : Type 0} (rules : Rules Core Services) : Type 0 where
  first : (core : Core) (from : Stream) (m : PlanMsg) → packets_in (rules.take core from m).first ≡ []
  last : (core : Core) (from : Stream) (m : PlanMsg) → packets_in (rules.take core from m).last ≡ []
  served : (core : Core) (v : Services) (from : Stream) (m : Message) → packets_in (rules.serve core v from m).last ≡ []

no_change_frames : (by : Stream) (plans : Plans) (change : Change) → packets_in (change_events by plans change) ≡ []
no_change_frames by plans Same = refl
no_change_frames by plans (Install kind) = refl
no_change_frames by plans (Empty None) = refl
no_change_frames by plans (Empty (Some kind)) = refl

quiet_drones : Quiet drone_rules
quiet_drones = record { first = λ d from m. no_change_frames from _ _; last = λ d from m. refl; served = λ d v from m. refl }

quiet_stations : Quiet station_rules
quiet_stations = record {
  first = λ t from m. refl;
  last = λ t from m. no_frames_reported _;
  served = λ t v from m.
      let c = commander_step v.commander from m in
      let p = client_step v.client from m in
      let f = transfer_heard v.files from m in
      silent_none (station_served c p f).last (services_silent c p f);
}

module _ {Core Services : Type 0} (rules : Rules Core Services) (quiet : Quiet rules) (Few : Services → Type 0) (sends_few : SendsFew rules Few) (clock : ℕ) where
  short_steps : (link : Link) (services : Services) (core : Core) (from : Stream) (m : PlanMsg) → AtMost 1 (steps clock link services (rules.take core from m))
  short_steps link services core from m =
      let r = rules.take core from m in
      let none = ap (λ (ps : List Packet). length ps) (quiet.first core from m) in
      at_most_more (0 + 1) 1 (steps clock link services r) (omega arith)
      (at_most_behind 0 1 r.first (with_core r.core services r.last (answers clock r.answer link)) (omega (arith, none))
      (at_most_core 1 r.core services r.last (answers clock r.answer link) (quiet.last core from m) (one_answer clock r.answer link)))

  short_serves : (link : Link) (services : Services) (core : Core) (from : Stream) (m : Message) → Few services → AtMost most_answers (serves clock link core (rules.serve core services from m))
  short_serves link services core from m few =
      let r = rules.serve core services from m in
      at_most_more (length r.answers) most_answers (serves clock link core r) (sends_few.few core services from m few)
      (at_most_core (length r.answers) core r.services r.last (sends_all clock r.answers link) (quiet.served core services from m) (all_sent clock r.answers link))

  short_takes : (y : Side Core Services) → Few y.services → (from : Stream) (m : Option PlanMsg) (other : Option Message) → AtMost most_answers (takes rules clock y from m other)
  short_takes y few from None None = omega arith
  short_takes y few from None (Some m) = short_serves y.link y.services y.core from m few
  short_takes y few from (Some m) other =
      let noted = rules.note y.services (rules.take y.core from m).first in
      at_most_more 1 most_answers (steps clock y.link noted (rules.take y.core from m)) (omega arith) (short_steps y.link noted y.core from m)

  short_admits : (y : Side Core Services) → Few y.services → (p : Packet) (a : Admit) (block : Option SignatureBlock) → AtMost most_answers (admits rules clock y p a block)
  short_admits y few p Admitted None = omega arith
  short_admits y few p Admitted (Some block) = short_takes y few (stream_in p block) (plan_in p.id p.payload) (service_in p.id p.payload)
  short_admits y few p Unsigned block = omega arith
  short_admits y few p BadSignature block = omega arith
  short_admits y few p (BelowFloor floor) block = omega arith
  short_admits y few p (NotLater l) block = omega arith
  short_admits y few p (TooOld l) block = omega arith
  short_admits y few p TooManyStreams block = omega arith

  short_receives : (y : Side Core Services) → Few y.services → (p : Packet) → y.link.extras ≡ extras_of profile_definitions → frames_of (final_parse (extras_of profile_definitions) false (encoding p)) ≡ p ∷ [] → AtMost most_answers (receives rules clock (encoding p) y)
  short_receives y few p extras alone =
      subst (AtMost most_answers) (sym (ap (λ x. hears_all rules clock (frames_of (final_parse x false (encoding p))) y) extras ∙ ap (λ ps. hears_all rules clock ps y) alone))
      (at_most_more (most_answers + 0) most_answers (and_then (hears rules clock p y) (hears_all rules clock [])) (omega arith)
      (at_most_then most_answers 0 (hears rules clock p y) (hears_all rules clock []) (short_admits (record y { link = tries p y.link }) few p (answer_to y.link.key y.link.history p) p.block) (λ z. omega arith)))

drone_at_most : (n : ℕ) (o : Outcome DroneSide) → AtMost n o → AtMost n (as_drone o)
drone_at_most n None h = tt
drone_at_most n (Some d) h = h

station_at_most : (n : ℕ) (o : Outcome StationSide) → AtMost n o → AtMost n (as_station o)
station_at_most n None h = tt
station_at_most n (Some d) h = h

-- a call is done, and sends at most so many
record Short {A : Type 0} (n : ℕ) (o : Outcome A) : Type 0 where
  outcome : Done A
  is : o ≡ Some outcome
  few : length (packets_in outcome.events) ≤ n

short_of : {A : Type 0} (n : ℕ) (o : Outcome A) → IsCalled o → AtMost n o → Short n o
short_of n None done h = absurd done
short_of n (Some d) done h = record { outcome = d; is = refl; few = h }

-- there is a step, of which this holds
abbrev pub Goes : (Step → Type 0) → Result Step StepError → Type 0
Goes P (Ok t) = P t
Goes P (Err error) = ⊥

goes_behind : (P : Step → Type 0) (events : List Event) (r : Result Step StepError) → Goes (λ t. P (step_behind events t)) r → Goes P (world.after_events events r)
goes_behind P events (Ok t) h = h
goes_behind P events (Err error) h = h

goes_then : (P : Step → Type 0) (r : Result Step StepError) (next : WorldState → Result Step StepError) → Goes (λ t. Goes (λ u. P (step_behind t.events u)) (next t.state)) r → Goes P (world.and_then r next)
goes_then P (Ok t) next h = goes_behind P t.events (next t.state) h
goes_then P (Err error) next h = h

goes_weaker : (P Q : Step → Type 0) (r : Result Step StepError) → ((t : Step) → P t → Q t) → Goes P r → Goes Q r
goes_weaker P Q (Ok t) f h = f t h
goes_weaker P Q (Err error) f h = h

-- the state is sound, with at most so many frames more
record Longer (s : WorldState) (n : ℕ) (t : Step) : Type 0 where
  sound : Sound t.state
  sent : length t.state.sent ≤ length s.sent + n
  there : (i : ℕ) (q : Packet) → slice_get s.sent i ≡ Some q → slice_get t.state.sent i ≡ Some q
  nodes : length t.state.nodes ≡ length s.nodes
  given : t.state.given ≡ s.given

module _ (s : WorldState) (g : Sound s) (i : ℕ) (p : Packet) (found : slice_get s.sent i ≡ Some p) where
  node_short : (j : ℕ) (y : Node) → slice_get s.nodes j ≡ Some y → Short most_answers (node_receives s.clock (encoding p) y)
  node_short j (Drone y) there =
      let frames = (heard_is s g p (g.sent i p found)).frames in
      short_of most_answers (node_receives s.clock (encoding p) (Drone y)) (sent_done s g i p found j (Drone y) there)
      (drone_at_most most_answers (receives drone_rules s.clock (encoding p) y)
      (short_receives drone_rules quiet_drones (λ (v : DroneServices). length v.server.params ≡ param_count) drones_send_few s.clock y (g.cores j (Drone y) there).services.count p (g.links j (Drone y) there).extras frames))
  node_short j (Station y) there =
      let frames = (heard_is s g p (g.sent i p found)).frames in
      short_of most_answers (node_receives s.clock (encoding p) (Station y)) (sent_done s g i p found j (Station y) there)
      (station_at_most most_answers (receives station_rules s.clock (encoding p) y)
      (short_receives station_rules quiet_stations (λ (v : StationServices). Unit {0}) stations_send_few s.clock y tt p (g.links j (Station y) there).extras frames))

  does_go : (j : ℕ) (y : Node) (name : Name) → slice_get s.nodes j ≡ Some y → length s.sent + most_answers ≤ most_frames → Goes (Longer s most_answers) (node_does s j name (node_receives s.clock (encoding p) y))
  does_go j y name there room =
      let h = node_short j y there in
      let few = h.few in
      let keeps = ((sound_does s g).receives (encoding p) (sent_known s g i p found) j y name there).0 in
      subst (λ o. Keeps s (node_does s j name o) → Goes (Longer s most_answers) (node_does s j name o)) (sym h.is)
      (by_test (λ r. Keeps s r → Goes (Longer s most_answers) r) (nat_le (length s.sent + length (packets_in h.outcome.events)) most_frames) _ _
      (λ _ k. record {
        sound = k.sound;
        sent = (let z = length-append s.sent (packets_in h.outcome.events) in omega arith);
        there = k.kept.sent;
        nodes = same_size _ _ k.names;
        given = refl;
      })
      (λ full k. absurd (none_full (length s.sent + length (packets_in h.outcome.events)) most_frames full (omega arith))))
      keeps
    where
      none_full : (a b : ℕ) → nat_le a b ≡ false → a ≤ b → ⊥
      none_full a b e h = grind arith

      same_size : (ns ms : List Node) → names_of ns ≡ names_of ms → length ns ≡ length ms
      same_size ns ms e = sym (length-map ns named) ∙ ap length e ∙ length-map ms named

  same_state : Longer s most_answers (record { state = s; events = [] })
  same_state = record { sound = g; sent = omega arith; there = λ i q e. e; nodes = refl; given = refl }

  given_goes : (j : ℕ) (o : Option Node) → slice_get s.nodes j ≡ o → length s.sent + most_answers ≤ most_frames → Goes (Longer s most_answers) (given_to s j p o)
  given_goes j None there room = same_state
  given_goes j (Some y) there room = by_test (Goes (Longer s most_answers)) (same_name (node_name y) p.from) _ _ (λ _. same_state) (λ _. does_go j y (node_name y) there room)

all_go : (n j : ℕ) (s : WorldState) → Sound s → (i : ℕ) (p : Packet) → slice_get s.sent i ≡ Some p → length s.sent + 40 * n ≤ most_frames → Goes (Longer s (40 * n)) (given_from s j n p)
all_go zero j s g i p found room = record { sound = g; sent = omega arith; there = λ i q e. e; nodes = refl; given = refl }
all_go (suc n) j s g i p found room =
    let first = given_to s j p (slice_get s.nodes j) in
    goes_then (Longer s (40 * suc n)) first (λ t. given_from t (j + 1) n p)
    (goes_weaker (Longer s most_answers) (λ t. Goes (λ u. Longer s (40 * suc n) (step_behind t.events u)) (given_from t.state (j + 1) n p)) first
    (λ t h.
    let one = h.sent in
    goes_weaker (Longer t.state (40 * n)) (λ u. Longer s (40 * suc n) (step_behind t.events u)) (given_from t.state (j + 1) n p)
    (λ u k. let more = k.sent in record { sound = k.sound; sent = omega arith; there = λ i q e. k.there i q (h.there i q e); nodes = k.nodes ∙ h.nodes; given = k.given ∙ h.given })
    (all_go n (j + 1) t.state h.sound i p (h.there i p found) (omega arith)))
    (given_goes s g i p found j (slice_get s.nodes j) refl (omega arith)))

-- so many times
abbrev pub times : ℕ → ℕ → ℕ
times zero n = 0
times (suc k) n = n + times k n

pub flows_go : (k : ℕ) (s : WorldState) → Sound s → length s.sent + 40 * times k (length s.nodes) ≤ most_frames → Goes (λ t. Unit {0}) (flows k s)
flows_go zero s g room = tt
flows_go (suc k) s g room = next (slice_get s.sent s.given) refl (λ t h less. flows_go k t h less)
  where
    next : (o : Option Packet) → slice_get s.sent s.given ≡ o → ((t : WorldState) → Sound t → length t.sent + 40 * times k (length t.nodes) ≤ most_frames → Goes (λ t. Unit {0}) (flows k t)) → Goes (λ t. Unit {0}) (flow_next s o (flows k))
    next None found on = tt
    next (Some p) found on =
        let inside = within s.sent s.given p found in
        let x : WorldState = record s { given = s.given + 1 } in
        let x_sound = sound_restated s (s.given + 1) s.draft s.clock g (omega arith) g.draft (omega arith) g.clock in
        goes_then (λ t. Unit {0}) (given_to_all x p) (flows k)
        (goes_weaker (Longer x (40 * length s.nodes)) (λ t. Goes (λ u. Unit {0}) (flows k t.state)) (given_to_all x p)
        (λ t h. let sent = h.sent in on t.state h.sound (subst (λ n. length t.state.sent + 40 * times k n ≤ most_frames) (sym h.nodes) (omega arith)))
        (all_go (length s.nodes) 0 x x_sound s.given p found (omega arith)))

times_is : (k n : ℕ) → times k n ≡ k * n
times_is zero n = grind arith
times_is (suc k) n = let e = times_is k n in grind arith

pub flows_done : (s : WorldState) → Sound s → (k : ℕ) → length s.sent + 40 * (k * length s.nodes) ≤ most_frames → IsDone (flows k s)
flows_done s g k room = is_done (flows k s) (flows_go k s g (subst (λ n. length s.sent + 40 * n ≤ most_frames) (sym (times_is k (length s.nodes))) room))
  where
    is_done : (r : Result Step StepError) → Goes (λ t. Unit {0}) r → IsDone r
    is_done (Ok t) h = tt
    is_done (Err error) h = h
