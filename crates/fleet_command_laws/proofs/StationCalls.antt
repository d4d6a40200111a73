-- Whatever a station does, its timestamps rise, and a command is given again as it was.
use Rattle.std.proofs.Common.{◌≡◌, ℕ, ◌+◌, ◌<◌, ◌^◌, min, false, ◌==◌, nat_lt, List, [], ◌∷◌, ◌++◌, Option, Some, None, IfSome, refl, sym, ap, subst, arith, ◌∙◌}
use Rattle.std.proofs.lemmas.List.{append-nil}
use Rattle.mav_names.specs.declared.names.Stream.{Stream}
use Rattle.mav_names.specs.Addresses.{node_of}
use Rattle.plan_items.specs.declared.items.Item.{Item}
use Rattle.plan_items.specs.declared.messages.PlanMsg.{PlanMsg}
use Rattle.plan_upload.specs.Station.{StationState, StationStep, Told, station_step, station_tick, station_cancel, begin_upload, begin_clear, begin_get}
use Rattle.mav_frame.specs.Packet.{Packet, SignatureBlock}
use Rattle.mav_messages.specs.declared.commands.CommandAck.{CommandAck}
use Rattle.mav_messages.specs.declared.messages.Message.{Message}
use Rattle.mav_messages.specs.declared.messages.Message.TheVariants.{CommandAck as Acknowledges}
use Rattle.mav_sign.specs.declared.admission.Admit.{Admit}
use Rattle.mav_sign.specs.declared.admission.Admit.TheVariants.{Admitted, Unsigned, BadSignature, BelowFloor, NotLater, TooOld, TooManyStreams}
use Rattle.mav_sign.specs.History.{tried, answer_to}
use Rattle.mav_sign.specs.History as history
use Rattle.mav_sign.specs.Endpoints.{frames_of}
use Rattle.mav_frame.specs.FinalParse.{final_parse}
use Rattle.command_proto.specs.declared.commands.Issue.{Issue}
use Rattle.command_proto.specs.Commander.{CommanderState, CommanderStep, command_message, first_issue, given_again, counts, acknowledged, ack_comes, commander_step, waits_on, issue_ticks, commander_tick, idle_limit}
use Rattle.command_proto.specs.Laws.{IssueInRange}
use Rattle.param_proto.specs.Client.{ClientStep, client_step, client_tick, lists}
use Rattle.mav_nodes.specs.News.{NodeEvent, Drops}
use Rattle.mav_nodes.specs.Links.{Link, tries, sends, sends_all}
use Rattle.mav_nodes.specs.Payloads.{plan_in, service_in}
use Rattle.mav_nodes.specs.FileServices.{TransferStep, file_message, transfer_heard, transfer_waits}
use Rattle.mav_nodes.specs.Services.{ServiceStep, StationServices, sent_of, station_served, command_of, asks_params}
use Rattle.mav_nodes.specs.Steps.{answers, steps, serves, takes, admits, hears, hears_all}
use Rattle.mav_nodes.specs.Nodes.{StationSide, station_rules, station_does, told_events, station_receives, services_tick, station_ticks, station_beats, station_heartbeat, station_begins, station_cancels, station_clears, station_gets, station_commands, station_lists_params}
use Rattle.plan_ranges.specs.Ranges.{StreamInRange}
use Rattle.fleet_invariants.specs.Services.{SoundStationServices}
use Rattle.fleet_invariants.proofs.Tests.{by_test}
use Rattle.fleet_invariants.proofs.Histories.{trying_previous}
use Rattle.fleet_invariants.proofs.Nodes.{Silent}
use Rattle.fleet_invariants.proofs.Hearing.{services_silent}
use Rattle.fleet_invariants.proofs.Files.{SaysOfFiles, Says_nothing, Says_one, station_says, tick_says}
use Rattle.fleet_invariants.proofs.Params.{IsOfParams, client_hears, client_waits}
use Rattle.fleet_invariants.proofs.Services.{station_waiting, command_asked}
use Rattle.fleet_command_laws.specs.Lines.{Order}
use Rattle.fleet_command_laws.proofs.Lists.{last_command}
use Rattle.fleet_command_laws.proofs.Outcomes.{Goes, goes_quietly, goes_then, goes_still, goes_sends, goes_all, goes_answers, goes_core, AllOf, all_of_both}
use Rattle.fleet_command_laws.proofs.Stations.{order_given, begun_by, Speaks, IsPlain, plan_plain, params_plain, speaks_plainly, speaks_command}

-- ---- what a commander's step leaves

-- the last order that was given is that of the issue, if one is open
abbrev IsOf : Option Order → Option Issue → Type 0
IsOf last issue = IfSome issue (λ (i : Issue). last ≡ Some (order_given i))

-- it says nothing
record SaysNothing (last : Option Order) (t : CommanderStep) : Type 0 where
  answer : t.answer ≡ None
  issue : IsOf last t.commander.issue

acked : (last : Option Order) (c : CommanderState) (issue : Option Issue) (from : Stream) (m : CommandAck) → IsOf last c.issue → IsOf last issue → SaysNothing last (ack_comes c issue from m)
acked last c None from m h k = record { answer = refl; issue = h }
acked last c (Some i) from m h k =
    by_test (SaysNothing last) (counts c.me i from m) (acknowledged c i m.result) (waits_on c)
    (λ _. by_test (SaysNothing last) (m.result == 5) _ _ (λ _. record { answer = refl; issue = k }) (λ _. record { answer = refl; issue = tt }))
    (λ _. record { answer = refl; issue = h })

commander_hears : (last : Option Order) (c : CommanderState) (from : Stream) (m : Message) → IsOf last c.issue → SaysNothing last (commander_step c from m)
commander_hears last c from (Acknowledges m) h = acked last c c.issue from m h h
commander_hears last c from _ h = record { answer = refl; issue = h }

-- or it gives a command: one that was given before as it was
record Commands (last : Option Order) (t : CommanderStep) : Type 0 where
  issue : Issue
  answer : t.answer ≡ Some (command_message issue)
  kept : t.commander.issue ≡ Some issue
  again : 0 < issue.confirmation → last ≡ Some (order_given issue)
  later : begun_by issue ≡ []

data Says (last : Option Order) (t : CommanderStep) : Type 0 where
  Nothing : SaysNothing last t → Says last t
  Gives : Commands last t → Says last t

not_first : (i : Issue) → begun_by (given_again i) ≡ []
not_first i = by_test (λ (os : List Order). os ≡ []) (min (i.confirmation + 1) 255 == 0) (order_given i ∷ []) [] (λ e. absurd (grind arith)) (λ _. refl)

says_at_tick : (last : Option Order) (c : CommanderState) (issue : Option Issue) → IsOf last c.issue → IsOf last issue → Says last (issue_ticks c issue)
says_at_tick last c None h k = Nothing (record { answer = refl; issue = h })
says_at_tick last c (Some i) h k =
    by_test (Says last) (nat_lt (i.idle + 1) idle_limit) _ _
    (λ _. Gives (record { issue = given_again i; answer = refl; kept = refl; again = λ _. k; later = not_first i })) (λ _. Nothing (record { answer = refl; issue = tt }))

-- ---- messages of parameters

asks_plain : (o : Option Message) → IfSome o IsOfParams → AllOf IsPlain (sent_of o)
asks_plain None h = tt
asks_plain (Some m) h = (params_plain m h, tt)

none_plain : (o : Option Message) → o ≡ None → AllOf IsPlain (sent_of o)
none_plain None e = tt
none_plain (Some m) e = absurd (cc)

-- ---- those of file transfer

file_plain : (to : Stream) (bytes : List ℕ) → IsPlain (file_message to bytes)
file_plain to bytes payload = refl

files_plain : (ms : List Message) → SaysOfFiles ms → AllOf IsPlain ms
files_plain ms (Says_nothing e) = subst (AllOf IsPlain) (sym e) tt
files_plain ms (Says_one to bytes e) = subst (AllOf IsPlain) (sym e) (file_plain to bytes, tt)

told_silent : (o : Option Told) → Silent (told_events o)
told_silent None = tt
told_silent (Some t) = tt

-- ---- a station

module _ (frames : List Packet) (me : Stream) (clock : ℕ) (orders : List Order) where
  -- of a station, after frames that it has sent since a call began
  abbrev pub StationSays : StationSide → List Packet → Type 0
  StationSays n ps = Speaks frames me orders n.services.commander.issue n.link ps

  abbrev latest : List Packet → Option Order
  latest ps = last_command (node_of me) None (frames ++ ps)

  plainly : (issue : Option Issue) (ms : List Message) (link : Link) (ps : List Packet) → AllOf IsPlain ms → Speaks frames me orders issue link ps → Goes (Speaks frames me orders issue) ps (sends_all clock ms link)
  plainly issue = goes_all (Speaks frames me orders issue) IsPlain clock (speaks_plainly frames me clock orders issue)

  -- its services send no command
  quietly : (t : ServiceStep StationServices) (core : StationState) (link : Link) (ps : List Packet) → AllOf IsPlain t.answers → Silent t.last → Speaks frames me orders t.services.commander.issue link ps → Goes StationSays ps (serves clock link core t)
  quietly t core link ps plain silent h =
      goes_core StationSays core t.services (Speaks frames me orders t.services.commander.issue) t.last ps (sends_all clock t.answers link) (λ l qs k. k) silent (plainly t.services.commander.issue t.answers link ps plain h)

  -- they send one first
  commanding : (before : List Order) (services : StationServices) (last : List NodeEvent) (i : Issue) (old : Option Issue) (more : List Message) (core : StationState) (link : Link) (ps : List Packet) → services.commander.issue ≡ Some i → AllOf IsPlain more → Silent last → IssueInRange i
      → (0 < i.confirmation → latest ps ≡ Some (order_given i)) → before ++ begun_by i ≡ orders → Speaks frames me before old link ps → Goes StationSays ps (serves clock link core (record { services = services; answers = command_message i ∷ more; last = last }))
  commanding before services last i old more core link ps kept plain silent range again total h =
      goes_core StationSays core services (Speaks frames me orders (Some i)) last ps (sends_all clock (command_message i ∷ more) link) (λ l qs k. subst (λ issue. Speaks frames me orders issue l qs) (sym kept) k) silent
      (goes_then (Speaks frames me orders (Some i)) (Speaks frames me orders (Some i)) ps (sends clock (command_message i) link) (sends_all clock more)
      (goes_sends (Speaks frames me orders (Some i)) clock (command_message i) link ps (speaks_command frames me clock i before orders old link ps range again total h)) (λ l qs k. plainly (Some i) more l qs plain k))

  -- its plan core does a step
  stepping : (n : StationSide) (ps : List Packet) (step : StationStep) → StationSays n ps → Goes StationSays ps (steps clock n.link n.services (station_does step))
  stepping n ps step h =
      goes_quietly StationSays ps [] _ tt
      (goes_core StationSays (station_does step).core n.services (Speaks frames me orders n.services.commander.issue) (told_events step.station.outcome) ps (answers clock step.answer n.link) (λ l qs k. k) (told_silent step.station.outcome)
      (goes_answers (Speaks frames me orders n.services.commander.issue) IsPlain clock (speaks_plainly frames me clock orders n.services.commander.issue) plan_plain step.answer n.link ps h))

  -- ---- frames

  trying : (n : StationSide) (p : Packet) (answer : Admit) (ps : List Packet) → StationSays n ps → StationSays (record n { link = record n.link { history = n.link.history ++ tried p answer ∷ [] } }) ps
  trying n p answer ps h = record {
    me_is = h.me_is;
    begun = h.begun;
    voice = record {
      rising = h.voice.rising;
      last = (let e = trying_previous n.link.history p answer in let last = h.voice.last in omega arith);
      runs = h.voice.runs;
      given = h.voice.given;
    };
    own = h.own;
  }

  taking : (n : StationSide) (from : Stream) (plan : Option PlanMsg) (service : Option Message) (ps : List Packet) → StationSays n ps → Goes StationSays ps (takes station_rules clock n from plan service)
  taking n from None None ps h = goes_still StationSays ps n [] tt h
  taking n from None (Some m) ps h =
      let c : CommanderStep = commander_step n.services.commander from m in
      let r : ClientStep = client_step n.services.client from m in
      let f : TransferStep = transfer_heard n.services.files from m in
      let says = commander_hears (latest ps) n.services.commander from m h.voice.given in
      quietly (station_served c r f) n.core n.link ps
      (all_of_both IsPlain (sent_of c.answer ++ sent_of r.answer) f.answers
      (all_of_both IsPlain (sent_of c.answer) (sent_of r.answer) (none_plain c.answer says.answer) (asks_plain r.answer (client_hears n.services.client from m).asks))
      (files_plain f.answers (station_says n.services.files from m)))
      (services_silent c r f)
      (record { me_is = h.me_is; begun = h.begun; voice = record { rising = h.voice.rising; last = h.voice.last; runs = h.voice.runs; given = says.issue }; own = h.own })
  taking n from (Some m) service ps h = stepping n ps (station_step n.core from m) h

  admitting : (n : StationSide) (p : Packet) (answer : Admit) (block : Option SignatureBlock) (ps : List Packet) → StationSays n ps → Goes StationSays ps (admits station_rules clock n p answer block)
  admitting n p Admitted None ps h = goes_still StationSays ps n (Drops Admitted ∷ []) tt h
  admitting n p Admitted (Some block) ps h = taking n (history.stream_of p block) (plan_in p.id p.payload) (service_in p.id p.payload) ps h
  admitting n p Unsigned block ps h = goes_still StationSays ps n (Drops Unsigned ∷ []) tt h
  admitting n p BadSignature block ps h = goes_still StationSays ps n (Drops BadSignature ∷ []) tt h
  admitting n p (BelowFloor low) block ps h = goes_still StationSays ps n (Drops (BelowFloor low) ∷ []) tt h
  admitting n p (NotLater last) block ps h = goes_still StationSays ps n (Drops (NotLater last) ∷ []) tt h
  admitting n p (TooOld local) block ps h = goes_still StationSays ps n (Drops (TooOld local) ∷ []) tt h
  admitting n p TooManyStreams block ps h = goes_still StationSays ps n (Drops TooManyStreams ∷ []) tt h

  hearing_all : (packets : List Packet) (n : StationSide) (ps : List Packet) → StationSays n ps → Goes StationSays ps (hears_all station_rules clock packets n)
  hearing_all [] n ps h = goes_still StationSays ps n [] tt h
  hearing_all (p ∷ packets) n ps h =
      let answer : Admit = answer_to n.link.key n.link.history p in
      goes_then StationSays StationSays ps (hears station_rules clock p n) (hears_all station_rules clock packets)
      (admitting (record n { link = tries p n.link }) p answer p.block ps (trying n p answer ps h)) (λ a qs k. hearing_all packets a qs k)

  -- ---- calls

  module _ (n : StationSide) (h : StationSays n []) where
    pub station_receiving : (bytes : List ℕ) → Goes StationSays [] (station_receives clock bytes n)
    station_receiving bytes = hearing_all (frames_of (final_parse n.link.extras false bytes)) n [] h

    beat_plain : IsPlain station_heartbeat
    beat_plain payload = refl

    pub station_beating : Goes StationSays [] (station_beats clock n)
    station_beating =
        goes_core StationSays n.core n.services (Speaks frames me orders n.services.commander.issue) [] [] (sends clock station_heartbeat n.link) (λ l qs k. k) tt
        (goes_sends (Speaks frames me orders n.services.commander.issue) clock station_heartbeat n.link [] (speaks_plainly frames me clock orders n.services.commander.issue station_heartbeat n.link [] beat_plain h))

    pub station_beginning : (drone : Stream) (kind : ℕ) (plan : List Item) → Goes StationSays [] (station_begins clock drone kind plan n)
    station_beginning drone kind plan = stepping n [] (begin_upload n.core drone kind plan) h

    pub station_cancelling : Goes StationSays [] (station_cancels clock n)
    station_cancelling = stepping n [] (station_cancel n.core) h

    pub station_clearing : (drone : Stream) (kind : ℕ) → Goes StationSays [] (station_clears clock drone kind n)
    station_clearing drone kind = stepping n [] (begin_clear n.core drone kind) h

    pub station_getting : (drone : Stream) (kind : ℕ) → Goes StationSays [] (station_gets clock drone kind n)
    station_getting drone kind = stepping n [] (begin_get n.core drone kind) h

    pub station_listing : (drone : Stream) → Goes StationSays [] (station_lists_params clock drone n)
    station_listing drone = quietly (asks_params n.services (lists n.services.client drone)) n.core n.link [] (asks_plain (lists n.services.client drone).answer tt) tt h

    module _ (own : SoundStationServices (node_of n.link.me) n.services) where
      waiting : (a : StationSide) (qs : List Packet) → a.services ≡ n.services → StationSays a qs → Goes StationSays qs (services_tick clock a)
      waiting a qs same k =
          says (says_at_tick (latest qs) a.services.commander a.services.commander.issue k.voice.given k.voice.given)
        where
          c : CommanderStep
          c = commander_tick a.services.commander

          r : ClientStep
          r = client_tick a.services.client

          f : TransferStep
          f = transfer_waits a.services.files

          plain : AllOf IsPlain (sent_of r.answer)
          plain = asks_plain r.answer (client_waits a.services.client).asks

          of_files : AllOf IsPlain f.answers
          of_files = files_plain f.answers (tick_says a.services.files)

          in_range : IfSome c.commander.issue IssueInRange
          in_range =
              (station_waiting (node_of n.link.me) a.services (subst (SoundStationServices (node_of n.link.me)) (sym same) own)).services.commander

          says : Says (latest qs) c → Goes StationSays qs (services_tick clock a)
          says (Nothing none) =
              quietly (station_served c r f) a.core a.link qs
              (all_of_both IsPlain (sent_of c.answer ++ sent_of r.answer) f.answers (all_of_both IsPlain (sent_of c.answer) (sent_of r.answer) (none_plain c.answer none.answer) plain) of_files) (services_silent c r f)
              (record { me_is = k.me_is; begun = k.begun; voice = record { rising = k.voice.rising; last = k.voice.last; runs = k.voice.runs; given = none.issue }; own = k.own })
          says (Gives g) =
              subst (λ (o : Option Message). Goes StationSays qs (serves clock a.link a.core (record { services = (station_served c r f).services; answers = (sent_of o ++ sent_of r.answer) ++ f.answers; last = (station_served c r f).last }))) (sym g.answer)
              (commanding orders (station_served c r f).services (station_served c r f).last g.issue a.services.commander.issue (sent_of r.answer ++ f.answers) a.core a.link qs g.kept
              (all_of_both IsPlain (sent_of r.answer) f.answers plain of_files) (services_silent c r f)
              (subst (λ (o : Option Issue). IfSome o IssueInRange) g.kept in_range) g.again (ap (λ os. orders ++ os) g.later ∙ append-nil orders) k)

      record Ticks (a : StationSide) (qs : List Packet) : Type 0 where
        says : StationSays a qs
        same : a.services ≡ n.services

      pub station_ticking : Goes StationSays [] (station_ticks clock n)
      station_ticking =
          let step : StationStep = station_tick n.core in
          goes_then Ticks StationSays [] (steps clock n.link n.services (station_does step)) (services_tick clock)
          (goes_quietly Ticks [] [] _ tt
          (goes_core Ticks (station_does step).core n.services (Speaks frames me orders n.services.commander.issue) (told_events step.station.outcome) [] (answers clock step.answer n.link) (λ l qs k. record { says = k; same = refl }) (told_silent step.station.outcome)
          (goes_answers (Speaks frames me orders n.services.commander.issue) IsPlain clock (speaks_plainly frames me clock orders n.services.commander.issue) plan_plain step.answer n.link [] h)))
          (λ a qs k. waiting a qs k.same k.says)

-- a command, which begins a line
module _ (frames : List Packet) (me : Stream) (clock : ℕ) (n : StationSide) (h : StationSays frames me clock [] n []) (own : SoundStationServices (node_of n.link.me) n.services) where
  pub station_commanding : (drone : Stream) (number word : ℕ) → StreamInRange drone → number < 65536 → word < 2 ^ 32 → Goes (StationSays frames me clock (record { target = node_of drone; command = command_of number word } ∷ [])) [] (station_commands clock drone number word n)
  station_commanding drone number word range small short =
      let i : Issue = first_issue drone (command_of number word) in
      let services : StationServices = record n.services { commander = record n.services.commander { issue = Some i } } in
      commanding frames me clock (order_given i ∷ []) [] services [] i n.services.commander.issue [] n.core n.link [] refl tt tt (command_asked (node_of n.link.me) n.services own drone number word range small short).services.commander (λ more. absurd (omega arith)) refl h
