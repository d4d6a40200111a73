-- Whatever a drone does, its history since its start is how its executor came to be what it is.
use Rattle.std.proofs.Common.{◌≡◌, ℕ, suc, ◌<◌, true, false, nat_lt, List, [], ◌∷◌, ◌++◌, Option, Some, None, refl, sym, ap, subst, append_assoc, arith, ◌∙◌}
use Rattle.std.specs.Str.{bytes_eq}
use Rattle.std.proofs.lemmas.List.{append-nil, map-append}
use Rattle.mav_names.specs.declared.names.Name.{Name}
use Rattle.mav_names.specs.declared.names.Stream.{Stream}
use Rattle.mav_names.specs.Addresses.{node_of}
use Rattle.plan_items.specs.declared.messages.PlanMsg.{PlanMsg}
use Rattle.plan_upload.specs.declared.changes.Change.{Change}
use Rattle.plan_upload.specs.declared.changes.Change.TheVariants.{Same, Install, Empty}
use Rattle.plan_upload.specs.Changes.{change_by}
use Rattle.plan_upload.specs.Plans.{Plans}
use Rattle.plan_upload.specs.Drone.{DroneState, drone_step, drone_tick}
use Rattle.mav_frame.specs.Packet.{Packet, SignatureBlock}
use Rattle.mav_frame.specs.FinalParse.{final_parse}
use Rattle.mav_messages.specs.declared.messages.Message.{Message}
use Rattle.mav_sign.specs.declared.admission.Admit.{Admit}
use Rattle.mav_sign.specs.declared.admission.Admit.TheVariants.{Admitted, Unsigned, BadSignature, BelowFloor, NotLater, TooOld, TooManyStreams}
use Rattle.mav_sign.specs.History.{Entry, tried, started, last_of, low_of, next_in, answer_to, stamp_answer, block_answer, answer_after, unless_below, unless_old}
use Rattle.mav_sign.specs.History as history
use Rattle.mav_sign.specs.Signing.{Verifies, signature_of}
use Rattle.mav_sign.specs.Endpoints.{frames_of}
use Rattle.command_proto.specs.declared.executor.Ready.{Ready}
use Rattle.command_proto.specs.Executor.{ExecutorState, new_executor}
use Rattle.drone_sim.specs.Sim.{armed, sim_tick}
use Rattle.mav_nodes.specs.News.{Drops}
use Rattle.mav_nodes.specs.Links.{Link, sends, sends_all}
use Rattle.mav_nodes.specs.Payloads.{plan_in, service_in}
use Rattle.mav_nodes.specs.Services.{ServiceStep, DroneServices, ready_of, drone_serves, drone_notes, sim_step, drone_flies}
use Rattle.mav_nodes.specs.Steps.{CoreStep, answers, steps, serves, takes, admits, hears, hears_all}
use Rattle.mav_nodes.specs.Nodes.{DroneSide, drone_rules, drone_core, drone_receives, drone_waits, drone_ticks, drone_beats, drone_heartbeat, change_events, drone_sims}
use Rattle.mav_nodes.specs.Restarts.{started_again, restarted_drone, drone_restarts}
use Rattle.mav_nodes.specs.LowBounds.{stored_low}
use Rattle.fleet_world.specs.WorldState.{WorldState}
use Rattle.fleet_invariants.specs.Sound.{IsSent}
use Rattle.fleet_invariants.specs.Kept.{IsAmong, Known}
use Rattle.fleet_command_laws.proofs.Since.{noted_executor}
use Rattle.fleet_invariants.proofs.Hearing.{KnownFrames, flown_silent}
use Rattle.fleet_invariants.proofs.Doing.{known_frames}
use Rattle.mav_profile.specs.Messages.{extras_of}
use Rattle.mav_profile.specs.Profile.{profile_definitions}
use Rattle.fleet_invariants.proofs.Lists.{some_is, more_there}
use Rattle.fleet_invariants.proofs.Tests.{by_test, less}
use Rattle.fleet_invariants.proofs.Links.{admitted_verifies, block_is}
use Rattle.fleet_invariants.proofs.Nodes.{Silent}
use Rattle.fleet_command_laws.specs.Done.{Moment, hears_message, hears_frame, step_at, executor_after, entries_of}
use Rattle.fleet_command_laws.proofs.Histories.{IsLater, IsFit, AreFit}
use Rattle.fleet_command_laws.proofs.Outcomes.{Goes, goes_quietly, goes_then, goes_still, goes_sends, goes_all, goes_answers, goes_core, frame_at, IsSteady, AllOf}
use Rattle.fleet_command_laws.proofs.Stations.{AllBy, all_by_push}

-- ---- one entry more

fit_on : (frames : List Packet) (before h : List Entry) (x : Entry) → AreFit frames before h → IsFit frames (before ++ h) x → AreFit frames before (h ++ x ∷ [])
fit_on frames before [] x h fit = (subst (λ b. IsFit frames b x) (append-nil before) fit, tt)
fit_on frames before (y ∷ ys) x h fit = (h.0, fit_on frames (before ++ y ∷ []) ys x h.1 (subst (λ b. IsFit frames b x) (sym (append_assoc before (y ∷ []) ys)) fit))

after_on : (e : ExecutorState) (ms : List Moment) (m : Moment) → executor_after e (ms ++ m ∷ []) ≡ (step_at (executor_after e ms) m.ready m.entry).executor
after_on e [] m = refl
after_on e (k ∷ ks) m = after_on (step_at e k.ready k.entry).executor ks m

-- more that was sent
among_more : (frames more : List Packet) (p : Packet) → IsAmong frames p → IsAmong (frames ++ more) p
among_more frames more p h = record { index = h.index; found = more_there frames more p h.index h.found }

fit_more : (frames more : List Packet) (before : List Entry) (x : Entry) → IsFit frames before x → IsFit (frames ++ more) before x
fit_more frames more before (tried p Admitted) v =
    record { block = v.block; signed = v.signed; stream = v.stream; among = among_more frames more p v.among; later = v.later }
fit_more frames more before (tried p Unsigned) v = tt
fit_more frames more before (tried p BadSignature) v = tt
fit_more frames more before (tried p (BelowFloor low)) v = tt
fit_more frames more before (tried p (NotLater last)) v = tt
fit_more frames more before (tried p (TooOld local)) v = tt
fit_more frames more before (tried p TooManyStreams) v = tt
fit_more frames more before (history.sent stamp) v = tt
fit_more frames more before (started low) v = tt

all_fit_more : (frames more : List Packet) (before h : List Entry) → AreFit frames before h → AreFit (frames ++ more) before h
all_fit_more frames more before [] fit = tt
all_fit_more frames more before (x ∷ xs) fit = (fit_more frames more before x fit.0, all_fit_more frames more (before ++ x ∷ []) xs fit.1)

-- ---- a drone's history

pub record Tells (frames : List Packet) (name : Name) (h : List Entry) (e : ExecutorState) : Type 0 where
  pub moments : List Moment
  pub entries : entries_of moments ≡ h
  pub executor : executor_after (new_executor name) moments ≡ e
  pub fit : AreFit frames [] h

pub tells_more : (frames more : List Packet) (name : Name) (h : List Entry) (e : ExecutorState) → Tells frames name h e → Tells (frames ++ more) name h e
tells_more frames more name h e t = record { moments = t.moments; entries = t.entries; executor = t.executor; fit = all_fit_more frames more [] h t.fit }

tells_on : (frames : List Packet) (name : Name) (h : List Entry) (e : ExecutorState) (x : Entry) (ready : Ready) → IsFit frames h x → Tells frames name h e → Tells frames name (h ++ x ∷ []) (step_at e ready x).executor
tells_on frames name h e x ready fit t =
    let m : Moment = record { entry = x; ready = ready } in
    record {
      moments = t.moments ++ m ∷ [];
      entries = map-append (λ (k : Moment). k.entry) t.moments (m ∷ []) ∙ ap (λ es. es ++ x ∷ []) t.entries;
      executor = after_on (new_executor name) t.moments m ∙ ap (λ f. (step_at f ready x).executor) t.executor;
      fit = fit_on frames [] h x t.fit fit;
    }

pub tells_nothing : (frames : List Packet) (name : Name) → Tells frames name [] (new_executor name)
tells_nothing frames name = record { moments = []; entries = refl; executor = refl; fit = tt }

pub tells_start : (frames : List Packet) (name : Name) (low : ℕ) → Tells frames name (started low ∷ []) (new_executor name)
tells_start frames name low =
    record { moments = record { entry = started low; ready = record { armed = false; planned = false } } ∷ []; entries = refl; executor = refl; fit = (tt, tt) }

-- ---- admission

after_later : (o : Option ℕ) (streams local stamp last : ℕ) → answer_after o streams local stamp ≡ Admitted → o ≡ Some last → last < stamp
after_later None streams local stamp last e is = absurd (cc)
after_later (Some low) streams local stamp last e is =
    by_test (λ (a : Admit). a ≡ Admitted → last < stamp) (nat_lt low stamp) (unless_old local stamp Admitted) (NotLater low)
    (λ t _. let same = some_is is in let below = less low stamp t in omega arith) (λ _ wrong. absurd (cc)) e

not_below : (low : Option ℕ) (stamp : ℕ) (answer : Admit) → unless_below low stamp answer ≡ Admitted → answer ≡ Admitted
not_below None stamp answer e = e
not_below (Some low) stamp answer e =
    by_test (λ (a : Admit). a ≡ Admitted → answer ≡ Admitted) (nat_lt low stamp) answer (BelowFloor low) (λ _ is. is) (λ _ wrong. absurd (cc)) e

-- an admitted frame is signed, and later than those of its stream
record IsAdmitted (h : List Entry) (p : Packet) : Type 0 where
  block : SignatureBlock
  signed : p.block ≡ Some block
  later : (last : ℕ) → last_of (history.stream_of p block) h ≡ Some last → last < block.stamp

admitted_by : (key : List ℕ) (h : List Entry) (p : Packet) (block : Option SignatureBlock) → p.block ≡ block → block_answer key (λ stream stamp. stamp_answer stream stamp h) p block ≡ Admitted → IsAdmitted h p
admitted_by key h p None signed e = absurd (let wrong : ◌≡◌ {A = Admit} Unsigned Admitted = e in cc)
admitted_by key h p (Some b) signed e = record {
  block = b;
  signed = signed;
  later = λ last is.
      let stream : Stream = history.stream_of p b in
      after_later (last_of stream h) _ _ b.stamp last (not_below (low_of h) b.stamp _
      (by_test (λ (a : Admit). a ≡ Admitted → stamp_answer stream b.stamp h ≡ Admitted) (bytes_eq b.sig (signature_of key p b.link b.stamp)) (stamp_answer stream b.stamp h) BadSignature (λ _ x. x) (λ _ wrong. absurd (cc)) e)) is;
}

abbrev streamed : ℕ → ℕ → ℕ → Stream
streamed a b c = record { sys = a; comp = b; link = c }

-- ---- a drone

module _ (s : WorldState) (me : Stream) (sent : (p : Packet) → IsAmong s.sent p → IsSent s p) where
  is_later : (h : List Entry) (p : Packet) → IsAmong s.sent p → IsAdmitted h p → IsLater s.sent h p
  is_later h p among a = record {
    block = a.block;
    signed = a.signed;
    stream = ap (streamed p.from.sys p.from.comp) (block_is s p (sent p among) a.block a.signed).link;
    among = among;
    later = a.later;
  }

  fits : (h : List Entry) (p : Packet) (answer : Admit) → (answer ≡ Admitted → IsLater s.sent h p) → IsFit s.sent h (tried p answer)
  fits h p Admitted each = each refl
  fits h p Unsigned each = tt
  fits h p BadSignature each = tt
  fits h p (BelowFloor low) each = tt
  fits h p (NotLater last) each = tt
  fits h p (TooOld local) each = tt
  fits h p TooManyStreams each = tt

  -- of a drone's link, after frames that it has sent since a call began
  pub record LinkTells (e : ExecutorState) (link : Link) (ps : List Packet) : Type 0 where
    pub me_is : link.me ≡ me
    pub key_is : link.key ≡ s.key
    pub tells : Tells s.sent (node_of me) link.history e
    pub own : AllBy (node_of me) ps

  abbrev pub DroneTells : DroneSide → List Packet → Type 0
  DroneTells n ps = LinkTells n.services.executor n.link ps

  abbrev Any : Message → Type 0
  Any m = Unit {0}

  module _ (clock : ℕ) where
    steady : (e : ExecutorState) → IsSteady (LinkTells e) Any clock
    steady e m link ps any h = record {
      me_is = h.me_is;
      key_is = h.key_is;
      tells = tells_on s.sent (node_of me) link.history e (history.sent (next_in link.history clock)) (record { armed = false; planned = false }) tt h.tells;
      own = all_by_push (node_of me) ps (frame_at clock m link) h.own (ap node_of h.me_is);
    }

    all_any : (ms : List Message) → AllOf Any ms
    all_any [] = tt
    all_any (m ∷ ms) = (tt, all_any ms)

    -- a step of its plan core, and one of its services
    stepping : (link : Link) (services : DroneServices) (ps : List Packet) (step : CoreStep DroneState) → Silent step.first → Silent step.last → LinkTells services.executor link ps → Goes DroneTells ps (steps clock link services step)
    stepping link services ps step first last h =
        goes_quietly DroneTells ps step.first _ first
        (goes_core DroneTells step.core services (LinkTells services.executor) step.last ps (answers clock step.answer link) (λ l qs k. k) last
        (goes_answers (LinkTells services.executor) Any clock (steady services.executor) (λ m. tt) step.answer link ps h))

    serving : (link : Link) (core : DroneState) (ps : List Packet) (t : ServiceStep DroneServices) → Silent t.last → LinkTells t.services.executor link ps → Goes DroneTells ps (serves clock link core t)
    serving link core ps t silent h =
        goes_core DroneTells core t.services (LinkTells t.services.executor) t.last ps (sends_all clock t.answers link) (λ l qs k. k) silent
        (goes_all (LinkTells t.services.executor) Any clock (steady t.services.executor) t.answers link ps (all_any t.answers) h)

    changes_silent : (by : Stream) (plans : Plans) (change : Change) → Silent (change_events by plans change)
    changes_silent by plans Same = tt
    changes_silent by plans (Install kind) = tt
    changes_silent by plans (Empty None) = tt
    changes_silent by plans (Empty (Some kind)) = tt

    -- ---- a frame

    module _ (n : DroneSide) (p : Packet) (ps : List Packet) (h : DroneTells n ps) where
      abbrev after : Admit → DroneSide
      after answer = record n { link = record n.link { history = n.link.history ++ tried p answer ∷ [] } }

      -- the link once the frame was tried, with what its entry makes of the executor
      trying : (answer : Admit) → IsFit s.sent n.link.history (tried p answer) → LinkTells (step_at n.services.executor (ready_of n.core n.services) (tried p answer)).executor (after answer).link ps
      trying answer fit = record {
        me_is = h.me_is;
        key_is = h.key_is;
        tells = tells_on s.sent (node_of me) n.link.history n.services.executor (tried p answer) (ready_of n.core n.services) fit h.tells;
        own = h.own;
      }

      taking : (from : Stream) (plan : Option PlanMsg) (service : Option Message) → LinkTells (hears_message n.services.executor (ready_of n.core n.services) from plan service).executor (after Admitted).link ps → Goes DroneTells ps (takes drone_rules clock (after Admitted) from plan service)
      taking from None None k = goes_still DroneTells ps (after Admitted) [] tt k
      taking from None (Some m) k = serving (after Admitted).link n.core ps (drone_serves n.core n.services from m) tt k
      taking from (Some m) service k =
          let step = drone_step true n.core from m in
          let services = drone_notes n.services (drone_core n.core from m).first in
          stepping (after Admitted).link services ps (drone_core n.core from m) (changes_silent from step.drone.plans (change_by step.event)) tt
          (subst (λ (e : ExecutorState). LinkTells e (after Admitted).link ps) (sym (noted_executor n.services (drone_core n.core from m).first)) k)

      of_block : (block : Option SignatureBlock) → LinkTells (hears_frame n.services.executor (ready_of n.core n.services) p block).executor (after Admitted).link ps → Goes DroneTells ps (admits drone_rules clock (after Admitted) p Admitted block)
      of_block None k = goes_still DroneTells ps (after Admitted) (Drops Admitted ∷ []) tt k
      of_block (Some block) k = taking (history.stream_of p block) (plan_in p.id p.payload) (service_in p.id p.payload) k

      admitting : (answer : Admit) → IsFit s.sent n.link.history (tried p answer) → Goes DroneTells ps (admits drone_rules clock (after answer) p answer p.block)
      admitting Admitted fit = of_block p.block (trying Admitted fit)
      admitting Unsigned fit = goes_still DroneTells ps (after Unsigned) (Drops Unsigned ∷ []) tt (trying Unsigned fit)
      admitting BadSignature fit = goes_still DroneTells ps (after BadSignature) (Drops BadSignature ∷ []) tt (trying BadSignature fit)
      admitting (BelowFloor low) fit = goes_still DroneTells ps (after (BelowFloor low)) (Drops (BelowFloor low) ∷ []) tt (trying (BelowFloor low) fit)
      admitting (NotLater last) fit = goes_still DroneTells ps (after (NotLater last)) (Drops (NotLater last) ∷ []) tt (trying (NotLater last) fit)
      admitting (TooOld local) fit = goes_still DroneTells ps (after (TooOld local)) (Drops (TooOld local) ∷ []) tt (trying (TooOld local) fit)
      admitting TooManyStreams fit = goes_still DroneTells ps (after TooManyStreams) (Drops TooManyStreams ∷ []) tt (trying TooManyStreams fit)

      hearing : (Verifies s.key p p.block → IsAmong s.sent p) → Goes DroneTells ps (hears drone_rules clock p n)
      hearing known =
          let answer : Admit = answer_to n.link.key n.link.history p in
          admitting answer (fits n.link.history p answer (λ is.
          is_later n.link.history p (known (subst (λ key. Verifies key p p.block) h.key_is (admitted_verifies n.link.key n.link.history p is)))
          (admitted_by n.link.key n.link.history p p.block refl is)))

    hearing_all : (packets : List Packet) (n : DroneSide) (ps : List Packet) → KnownFrames s packets → DroneTells n ps → Goes DroneTells ps (hears_all drone_rules clock packets n)
    hearing_all [] n ps known h = goes_still DroneTells ps n [] tt h
    hearing_all (p ∷ packets) n ps known h =
        goes_then DroneTells DroneTells ps (hears drone_rules clock p n) (hears_all drone_rules clock packets) (hearing n p ps h (known 0 p refl)) (λ a qs k. hearing_all packets a qs (λ i q found. known (suc i) q found) k)

    -- ---- calls

    module _ (n : DroneSide) (h : DroneTells n []) where
      pub drone_receiving : (bytes : List ℕ) → n.link.extras ≡ extras_of profile_definitions → Known s bytes → Goes DroneTells [] (drone_receives clock bytes n)
      drone_receiving bytes extras known =
          hearing_all (frames_of (final_parse n.link.extras false bytes)) n [] (known_frames s bytes n.link.extras extras known) h

      pub drone_ticking : Goes DroneTells [] (drone_ticks clock n)
      drone_ticking = stepping n.link n.services [] (drone_waits (drone_tick n.core)) tt tt h

      pub drone_simming : Goes DroneTells [] (drone_sims clock n)
      drone_simming =
          let tick = sim_tick n.services.sim n.core.plans.mission (sim_step n.services.server) in
          serving n.link n.core [] (drone_flies n.core n.services) (flown_silent tick.reached tick.captured tick.sim.captures) h

      pub drone_beating : Goes DroneTells [] (drone_beats clock n)
      drone_beating =
          goes_core DroneTells n.core n.services (LinkTells n.services.executor) [] [] (sends clock (drone_heartbeat (armed n.services.sim)) n.link) (λ l qs k. k) tt
          (goes_sends (LinkTells n.services.executor) clock (drone_heartbeat (armed n.services.sim)) n.link [] (steady n.services.executor (drone_heartbeat (armed n.services.sim)) n.link [] tt h))

-- ---- a drone that starts again

module _ (s : WorldState) (sent : (p : Packet) → IsAmong s.sent p → IsSent s p) (n : DroneSide) where
  abbrev mine : Stream
  mine = record { sys = n.core.sys; comp = 1; link = 0 }

  starts_by : (low : Option ℕ) → DroneTells s mine sent (started_again s.key n.core.sys n.services.sim.home low n.core.plans) []
  starts_by None = record { me_is = refl; key_is = refl; tells = tells_nothing s.sent (node_of mine); own = tt }
  starts_by (Some low) = record { me_is = refl; key_is = refl; tells = tells_start s.sent (node_of mine) low; own = tt }

  pub drone_restarting : (me : Stream) (clock : ℕ) → mine ≡ me → Goes (DroneTells s me sent) [] (drone_restarts s.key clock n)
  drone_restarting me clock is =
      drone_beating s me sent clock (restarted_drone s.key n) (subst (λ x. DroneTells s x sent (restarted_drone s.key n) []) is (starts_by (stored_low n.link.history)))
