-- From the jobs of all ports to the end of a run.
use Rattle.std.proofs.Common.{All, false, ◌⊎◌, ◌≡◌, ◌∙◌, ◌<◌, ◌≤◌, ℕ, ◌+◌, ◌^◌, arith, List, [], length, map, replicate, sum_by, slice_get, Some, ap, sym, subst}
use Rattle.std.proofs.lemmas.List.{length-map, length-replicate}
use Rattle.std.proofs.lemmas.Option.{get_or_from_slice_get}
use Rattle.std.proofs.lemmas.Simd.{map-map}
use Rattle.std.specs.declared.result.Result.{Result}
use mathlib.Core.List.{IsPrefix}
use Rattle.turnstile.specs.Merging.{Continues}
use Rattle.turnstile.specs.Participants.{Lock, Participant, CanEnter, opened}
use Rattle.mav_links.specs.Links.{LinkState}
use Rattle.mav_router.specs.declared.crew.Crew.{Crew}
use Rattle.mav_router.specs.declared.crew.PortJob.{PortJob}
use Rattle.mav_router.specs.declared.ends.PortEnd.{PortEnd}
use Rattle.mav_router.specs.declared.ends.RouteEnd.{RouteEnd}
use Rattle.mav_router.specs.declared.ends.RouteFault.{RouteFault}
use Rattle.mav_router.specs.declared.entries.Entry.{Entry}
use Rattle.mav_router.specs.declared.entries.SwitchFault.{SwitchFault}
use Rattle.mav_router.specs.declared.entries.SwitchFault.TheVariants.{NoMemory}
use Rattle.mav_router.specs.declared.history.SwitchEvent.{SwitchEvent}
use Rattle.mav_router.specs.declared.joining.Stock.{Stock}
use Rattle.mav_router.specs.declared.lane.Lane.{Lane}
use Rattle.mav_router.specs.declared.parts.Halt.{Halt}
use Rattle.mav_router.specs.declared.parts.Halt.TheVariants.{Done}
use Rattle.mav_router.specs.declared.parts.Part.{Part}
use Rattle.mav_router.specs.declared.parts.Side.{Side}
use Rattle.mav_router.specs.Crews.{HasFault, HasRun}
use Rattle.mav_router.specs.Ends.{PortRun, end_by}
use Rattle.mav_router.specs.History.{history_of, entries_in}
use Rattle.mav_router.specs.Journal.{Rules, SwitchState, IsJournal, frames_from}
use Rattle.mav_router.specs.Parts.{IsReady, PartSoFar, PartEnds}
use Rattle.mav_router.specs.Runs.{HadTurns, IsFresh, AllFresh, AllTurned}
use Rattle.mav_router.specs.Threads.{IsStocked, IsPlaced, HasServed, HasClosed, HasWrittenLeft}
use Rattle.mav_router.specs.Routed.{HasEnded, HasRouted, HasStopped}
use Rattle.mav_router.proofs.Joined.{own_frames, part_ready, part_starts, part_done, parts_halted}
use Rattle.mav_router.proofs.Journals.{element}
use Rattle.mav_router.proofs.Moving.{all_from, mapped_at, mapped_from, image_is, replicated}
use Rattle.mav_router.proofs.PartSteps.{within_longer}
use Rattle.mav_router.proofs.RunSteps.{index_within}
use Rattle.mav_router.proofs.Seats.{begins_with}

-- what jobs start with
seat_at : {A J : Type 0} (lock : Lock SwitchEvent) (rules : Rules) (of : J → Part A) (jobs : List J) (seats : List (Participant SwitchEvent)) (k : ℕ) (job : J) → seats ≡ replicate rules.ports (opened lock.id (history_of rules [])) → map (λ (j : J). (of j).seat) jobs ≡ seats → slice_get jobs k ≡ Some job → (of job).seat ≡ opened lock.id (history_of rules [])
seat_at {A} {J} lock rules of jobs seats k job new are is =
    replicated rules.ports k (opened lock.id (history_of rules [])) (of job).seat
    (mapped_at (λ (j : J). (of j).seat) jobs (replicate rules.ports (opened lock.id (history_of rules []))) k job (are ∙ new) is)

pub job_ready : {A J : Type 0} (lock : Lock SwitchEvent) (rules : Rules) (of : J → Part A) (jobs : List J) (lanes : List Lane) (seats : List (Participant SwitchEvent)) → rules.ports ≤ 8 → seats ≡ replicate rules.ports (opened lock.id (history_of rules [])) → map (λ (j : J). (of j).seat) jobs ≡ seats → map (λ (j : J). (of j).side.lane) jobs ≡ lanes → AllTurned lanes 0 → ((k : ℕ) (job : J) → slice_get jobs k ≡ Some job → IsPlaced k (of job)) → (k : ℕ) (job : J) → slice_get jobs k ≡ Some job → IsReady lock rules (of job) × HadTurns (of job).side.lane 0
job_ready {A} {J} lock rules of jobs lanes seats few new seats_are lanes_are turned placed k job is =
    let p = placed k job is in
    let port = p.port in
    let within : k < rules.ports =
    (let l = index_within (replicate rules.ports (opened lock.id (history_of rules []))) k (of job).seat (mapped_at (λ (j : J). (of j).seat) jobs (replicate rules.ports (opened lock.id (history_of rules []))) k job (seats_are ∙ new) is) in
    let long = length-replicate rules.ports (opened lock.id (history_of rules [])) in
    omega (arith, l, long)) in (
      part_ready lock rules (of job) (seat_at lock rules of jobs seats k job new seats_are is) (omega (arith, port)) (omega (arith, port, within)) few p.taken,
      turned k (of job).side.lane (mapped_at (λ (j : J). (of j).side.lane) jobs lanes k job lanes_are is),
    )

-- what they leave
pub served : {A J : Type 0} (state : A → LinkState) (lock : Lock SwitchEvent) (rules : Rules) (turns : ℕ) (of : J → Part A) (before : List A) (lanes : List Lane) (seats : List (Participant SwitchEvent)) (old new : List J) (sides : List (Side A)) (last : List (Participant SwitchEvent)) → seats ≡ replicate rules.ports (opened lock.id (history_of rules [])) → map (λ (j : J). (of j).side.link) old ≡ before → map (λ (j : J). (of j).side.lane) old ≡ lanes → map (λ (j : J). (of j).seat) old ≡ seats → AllFresh rules lanes → ((k : ℕ) (job : J) → slice_get old k ≡ Some job → IsPlaced k (of job)) → length new ≡ length old → ((k : ℕ) (b c : J) → slice_get old k ≡ Some b → slice_get new k ≡ Some c → HasRun (of c).side.halt state lock rules turns (of b) (of c)) → sides ≡ map (λ (j : J). (of j).side) new → last ≡ map (λ (j : J). (of j).seat) new → HasServed state lock rules turns before sides last
served {A} {J} state lock rules turns of before lanes seats old new sides last seats_new links_are lanes_are seats_are fresh placed long ran sides_are last_are = record {
  parts = map of new;
  count = length-map new of ∙ (long ∙ (sym (length-map old (λ (j : J). (of j).side.link)) ∙ ap length links_are));
  of_sides = map-map (λ (p : Part A). p.side) of new ∙ sym sides_are;
  of_seats = map-map (λ (p : Part A). p.seat) of new ∙ sym last_are;
  ready = λ k p is.
      let c = mapped_from of new k p is in
      let b = element old k (within k c.0 c.1) in
      let r = ran k b.0 c.0 b.1 c.1 in
      (ap (λ (q : Part A). q.port) (sym c.2) ∙ (r.port ∙ (placed k b.0 b.1).port), subst (λ (q : Part A). IsReady lock rules q) c.2 r.ready);
  ends = λ k x p is_x is.
      let c = mapped_from of new k p is in
      let b = element old k (within k c.0 c.1) in
      let r = ran k b.0 c.0 b.1 c.1 in
      let link = image_is (λ (j : J). (of j).side.link) old before k b.0 x (sym links_are) b.1 is_x in
      let lane = fresh k (of b.0).side.lane (mapped_at (λ (j : J). (of j).side.lane) old lanes k b.0 lanes_are b.1) in
      let starts = part_starts state lock rules (of b.0) (seat_at lock rules of old seats k b.0 seats_new seats_are b.1) (subst (λ (n : ℕ). IsFresh rules n (of b.0).side.lane) (sym (placed k b.0 b.1).port) lane) in
      subst (λ (q : Part A). PartEnds q.side.halt state rules turns (state x) q) c.2
      (r.ends (state x) (subst (λ (y : A). PartSoFar state rules (state y) (of b.0)) link starts));
}
  where
    within : (k : ℕ) (c : J) → slice_get new k ≡ Some c → k < length old
    within k c is = let l = index_within new k c is in omega (arith, long, l)

-- the same of jobs, which share all but their parts
abbrev pub AllShare : {A : Type 0} → Crew → List (PortJob A) → Type 0
AllShare {A} crew jobs = (k : ℕ) (job : PortJob A) → slice_get jobs k ≡ Some job → job.crew ≡ crew

abbrev pub AllPlaced : {A : Type 0} → List (PortJob A) → Type 0
AllPlaced {A} jobs = (k : ℕ) (job : PortJob A) → slice_get jobs k ≡ Some job → IsPlaced k job.part

pub jobs_ready : {A : Type 0} (crew : Crew) (jobs : List (PortJob A)) (lanes : List Lane) (seats : List (Participant SwitchEvent)) → crew.rules.now.ports ≤ 8 → seats ≡ replicate crew.rules.now.ports (opened crew.turn.now.id (history_of crew.rules.now [])) → map (λ (j : PortJob A). j.part.seat) jobs ≡ seats → map (λ (j : PortJob A). j.part.side.lane) jobs ≡ lanes → AllTurned lanes 0 → AllPlaced jobs → AllShare crew jobs → All (λ (j : PortJob A). IsReady j.crew.turn.now j.crew.rules.now j.part × HadTurns j.part.side.lane 0) jobs
jobs_ready {A} crew jobs lanes seats few new seats_are lanes_are turned placed shared =
    all_from (λ (j : PortJob A). IsReady j.crew.turn.now j.crew.rules.now j.part × HadTurns j.part.side.lane 0) jobs
    (λ k job is.
    let r = job_ready crew.turn.now crew.rules.now (λ (j : PortJob A). j.part) jobs lanes seats few new seats_are lanes_are turned placed k job is in
    (subst (λ (c : Crew). IsReady c.turn.now c.rules.now job.part) (sym (shared k job is)) r.0, r.1))

pub jobs_served : {A : Type 0} (state : A → LinkState) (crew : Crew) (before : List A) (lanes : List Lane) (seats : List (Participant SwitchEvent)) (old new : List (PortJob A)) (sides : List (Side A)) (last : List (Participant SwitchEvent)) → seats ≡ replicate crew.rules.now.ports (opened crew.turn.now.id (history_of crew.rules.now [])) → map (λ (j : PortJob A). j.part.side.link) old ≡ before → map (λ (j : PortJob A). j.part.side.lane) old ≡ lanes → map (λ (j : PortJob A). j.part.seat) old ≡ seats → AllFresh crew.rules.now lanes → AllPlaced old → AllShare crew old → length new ≡ length old → ((k : ℕ) (b c : PortJob A) → slice_get old k ≡ Some b → slice_get new k ≡ Some c → HasRun c.part.side.halt state b.crew.turn.now b.crew.rules.now b.crew.turns b.part c.part) → sides ≡ map (λ (j : PortJob A). j.part.side) new → last ≡ map (λ (j : PortJob A). j.part.seat) new → HasServed state crew.turn.now crew.rules.now crew.turns before sides last
jobs_served {A} state crew before lanes seats old new sides last seats_new links_are lanes_are seats_are fresh placed shared long ran sides_are last_are =
    served state crew.turn.now crew.rules.now crew.turns (λ (j : PortJob A). j.part) before lanes seats old new sides last seats_new links_are lanes_are seats_are fresh placed long
    (λ k b c is_b is_c. subst (λ (w : Crew). HasRun c.part.side.halt state w.turn.now w.rules.now w.turns b.part c.part) (shared k b is_b) (ran k b c is_b is_c))
    sides_are last_are

-- as many as there were ports, and no seat is between two steps
pub sides_long : {A : Type 0} (state : A → LinkState) (lock : Lock SwitchEvent) (rules : Rules) (turns : ℕ) (before : List A) (sides : List (Side A)) (seats : List (Participant SwitchEvent)) → HasServed state lock rules turns before sides seats → length sides ≡ length before
sides_long {A} state lock rules turns before sides seats s = sym (ap length s.of_sides) ∙ (length-map s.parts (λ (p : Part A). p.side) ∙ s.count)

pub seats_long : {A : Type 0} (state : A → LinkState) (lock : Lock SwitchEvent) (rules : Rules) (turns : ℕ) (before : List A) (sides : List (Side A)) (seats : List (Participant SwitchEvent)) → HasServed state lock rules turns before sides seats → length seats ≡ length before
seats_long {A} state lock rules turns before sides seats s = sym (ap length s.of_seats) ∙ (length-map s.parts (λ (p : Part A). p.seat) ∙ s.count)

pub seats_outside : {A : Type 0} (state : A → LinkState) (lock : Lock SwitchEvent) (rules : Rules) (turns : ℕ) (before : List A) (sides : List (Side A)) (seats : List (Participant SwitchEvent)) → HasServed state lock rules turns before sides seats → All (CanEnter lock) seats
seats_outside {A} state lock rules turns before sides seats s =
    all_from (CanEnter lock) seats
    (λ k seat is.
    let p = mapped_from (λ (p : Part A). p.seat) s.parts k seat (ap (λ (l : List (Participant SwitchEvent)). slice_get l k) s.of_seats ∙ is) in
    subst (CanEnter lock) p.2 (s.ready k p.0 p.1).1.seated.enters)

-- the switch went by the same rules
continues : (history : List SwitchEvent) (seats : List (Participant SwitchEvent)) (k : ℕ) (seat : Participant SwitchEvent) → All (Continues history) seats → slice_get seats k ≡ Some seat → IsPrefix seat.seen history
continues history seats k seat begins there =
    subst (λ (x : Participant SwitchEvent). IsPrefix x.seen history) (get_or_from_slice_get seats k seat seat there) (begins k seat (index_within seats k seat there))

pub rules_kept : {A : Type 0} (state : A → LinkState) (lock : Lock SwitchEvent) (rules : Rules) (turns : ℕ) (before : List A) (sides : List (Side A)) (seats : List (Participant SwitchEvent)) (switch : SwitchState) → 0 < length before → HasServed state lock rules turns before sides seats → All (Continues (history_of switch.rules switch.journal)) seats → switch.rules ≡ rules
rules_kept {A} state lock rules turns before sides seats switch some s begins =
    let count = s.count in
    let p = element s.parts 0 (omega (arith, count, some)) in
    let there = mapped_at (λ (q : Part A). q.seat) s.parts seats 0 p.0 s.of_seats p.1 in
    (begins_with rules p.0.seat.seen switch (s.ready 0 p.0 p.1).1.seated.history (continues (history_of switch.rules switch.journal) seats 0 p.0.seat begins there)).0

pub closed : {A : Type 0} (state : A → LinkState) (lock : Lock SwitchEvent) (rules : Rules) (turns : ℕ) (before : List A) (sides : List (Side A)) (seats : List (Participant SwitchEvent)) (switch : SwitchState) (opening : List SwitchEvent) → 0 < length before → HasServed state lock rules turns before sides seats → All (Continues (history_of switch.rules switch.journal)) seats → opening ≡ history_of rules [] → length (history_of switch.rules switch.journal) ≡ length opening + sum_by (λ (s : Participant SwitchEvent). length s.own) seats → HasClosed state switch.rules turns switch.journal before sides
closed {A} state lock rules turns before sides seats switch opening some s begins opened_as whole = record {
  lock = lock;
  seats = seats;
  served = subst (λ (r : Rules). HasServed state lock r turns before sides seats) (sym (rules_kept state lock rules turns before sides seats switch some s begins)) s;
  begins = begins;
  whole = whole ∙ ap (λ (h : List SwitchEvent). length h + sum_by (λ (s : Participant SwitchEvent). length s.own) seats) opened_as;
}

-- what own_frames needs of a closed run
begins_of : {A : Type 0} (state : A → LinkState) (rules : Rules) (turns : ℕ) (journal : List Entry) (before : List A) (sides : List (Side A)) → (c : HasClosed state rules turns journal before sides) → All (Continues (history_of rules journal)) (map (λ (p : Part A). p.seat) c.served.parts)
begins_of state rules turns journal before sides c = subst (λ (s : List (Participant SwitchEvent)). All (Continues (history_of rules journal)) s) (sym c.served.of_seats) c.begins

whole_of : {A : Type 0} (state : A → LinkState) (rules : Rules) (turns : ℕ) (journal : List Entry) (before : List A) (sides : List (Side A)) → (c : HasClosed state rules turns journal before sides) → length (history_of rules journal) ≡ 1 + sum_by (λ (s : Participant SwitchEvent). length s.own) (map (λ (p : Part A). p.seat) c.served.parts)
whole_of state rules turns journal before sides c = subst (λ (s : List (Participant SwitchEvent)). length (history_of rules journal) ≡ 1 + sum_by (λ (s : Participant SwitchEvent). length s.own) s) (sym c.served.of_seats) c.whole

pub taken_within : {A : Type 0} (state : A → LinkState) (rules : Rules) (turns : ℕ) (journal : List Entry) (before : List A) (sides : List (Side A)) → HasClosed state rules turns journal before sides → (k : ℕ) (side : Side A) → slice_get sides k ≡ Some side → side.taken ≤ length journal
taken_within {A} state rules turns journal before sides c k side is =
    let s = c.served in
    let at = mapped_from (λ (p : Part A). p.side) s.parts k side (subst (λ (l : List (Side A)). slice_get l k ≡ Some side) (sym s.of_sides) is) in
    let own = own_frames c.lock rules s.parts journal s.ready (begins_of state rules turns journal before sides c) (whole_of state rules turns journal before sides c) k at.0 at.1 in
    subst (λ (x : Side A). x.taken ≤ length journal) at.2 (within_longer at.0.side.taken (entries_in at.0.seat.seen) journal (s.ready k at.0 at.1).1.taken own.1)

pub closed_long : {A : Type 0} (state : A → LinkState) (rules : Rules) (turns : ℕ) (journal : List Entry) (before : List A) (sides : List (Side A)) → HasClosed state rules turns journal before sides → length sides ≡ length before
closed_long {A} state rules turns journal before sides c = sides_long state c.lock rules turns before sides c.seats c.served

pub routed : {A : Type 0} (state : A → LinkState) (rules : Rules) (turns : ℕ) (journal : List Entry) (before after : List A) (old new : List (Side A)) (ends : List PortEnd) → turns ≤ 1000000000 → length journal ≤ 1000000 → IsJournal rules [] journal → ((k : ℕ) (side : Side A) → slice_get old k ≡ Some side → side.halt ≡ Done) → length new ≡ length old → ((k : ℕ) (b c : Side A) → slice_get old k ≡ Some b → slice_get new k ≡ Some c → HasWrittenLeft state journal (k + 1) b c) → ends ≡ map (λ (s : Side A). end_by s.lane turns) new → after ≡ map (λ (s : Side A). s.link) new → HasClosed state rules turns journal before old → HasRouted state rules turns before after journal ends
routed {A} state rules turns journal before after old new ends few small legal halts long written ends_are after_are c =
    let s = c.served in
    let sides = sym (length-map s.parts (λ (p : Part A). p.side)) ∙ ap length s.of_sides in
    let count = s.count in
    record {
      legal = legal;
      few = small;
      count = ap length ends_are ∙ (length-map new (λ (x : Side A). end_by x.lane turns) ∙ omega (arith, long, sides, count));
      each = λ k b d e is_b is_d is_e.
          let within = index_within before k b is_b in
          let part = element s.parts k (omega (arith, within, count)) in
          let side = mapped_at (λ (p : Part A). p.side) s.parts old k part.0 s.of_sides part.1 in
          let n = element new k (omega (arith, within, long, sides, count)) in
          let r = s.ready k part.0 part.1 in
          let own = own_frames c.lock rules s.parts journal s.ready (begins_of state rules turns journal before old c) (whole_of state rules turns journal before old c) k part.0 part.1 in
          let same = subst (λ (m : ℕ). frames_from m journal ≡ frames_from m (entries_in part.0.seat.own)) (sym r.0) own.0 in
          let done = subst (λ (h : Halt). PartEnds h state rules turns (state b) part.0) (halts k part.0.side side) (s.ends k b part.0 is_b part.1) in
          let w = subst (λ (m : ℕ). HasWrittenLeft state journal m part.0.side n.0) (sym r.0) (written k part.0.side n.0 side n.1) in
          let run = part_done state rules turns journal (state b) part.0 n.0 few small r.1.taken own.1 same done (w.input rules (entries_in part.0.seat.own) (state b)) (w.output (state b)) (w.turned turns) w.drained in
          subst (λ (m : ℕ). PortRun rules journal turns m (state b) (state d) e) r.0
          (subst (λ (x : A). PortRun rules journal turns part.0.port (state b) (state x) e) (image_is (λ (x : Side A). x.link) new after k n.0 d after_are n.1 is_d)
          (subst (λ (x : PortEnd). PortRun rules journal turns part.0.port (state b) (state n.0.link) x) (image_is (λ (x : Side A). end_by x.lane turns) new ends k n.0 e ends_are n.1 is_e) run));
    }

pub stopped : {A : Type 0} (state : A → LinkState) (rules : Rules) (turns : ℕ) (why : SwitchFault) (journal : List Entry) (before after : List A) (sides : List (Side A)) → turns ≤ 1000000000 → length journal ≤ 1000000 → IsJournal rules [] journal → ((why ≡ NoMemory) ⊎ HasFault sides why) → after ≡ map (λ (s : Side A). s.link) sides → HasClosed state rules turns journal before sides → HasStopped false state rules turns before after why journal
stopped {A} state rules turns why journal before after sides few small legal fault after_are c =
    let s = c.served in
    record {
      legal = legal;
      stopped = parts_halted state c.lock rules turns why journal before after s.parts (omega (arith, few)) small s.count s.ready (begins_of state rules turns journal before sides c) (whole_of state rules turns journal before sides c) s.ends
          (λ k x p is_x is_p. ap state (sym (image_is (λ (y : Side A). y.link) sides after k p.side x after_are (mapped_at (λ (q : Part A). q.side) s.parts sides k p s.of_sides is_p) is_x)))
          (subst (λ (l : List (Side A)). (why ≡ NoMemory) ⊎ HasFault l why) (sym s.of_sides) fault);
    }

-- the end of a run by the rules that its threads went by
pub ended : {A : Type 0} (result : Result RouteEnd RouteFault) (state : A → LinkState) (lock : Lock SwitchEvent) (rules : Rules) (turns : ℕ) (before after : List A) (sides : List (Side A)) (seats : List (Participant SwitchEvent)) (switch : SwitchState) (opening : List SwitchEvent) → 0 < length before → HasServed state lock rules turns before sides seats → All (Continues (history_of switch.rules switch.journal)) seats → opening ≡ history_of rules [] → length (history_of switch.rules switch.journal) ≡ length opening + sum_by (λ (s : Participant SwitchEvent). length s.own) seats → ((b : List A) → HasClosed state switch.rules turns switch.journal b sides → HasEnded result false state switch.rules turns b after) → HasEnded result false state rules turns before after
ended {A} result state lock rules turns before after sides seats switch opening some s begins opened_as whole goes =
    subst (λ (r : Rules). HasEnded result false state r turns before after) (rules_kept state lock rules turns before sides seats switch some s begins)
    (goes before (closed state lock rules turns before sides seats switch opening some s begins opened_as whole))

-- the same by equal rules
pub rules_ports : (r : Rules) (n m : ℕ) → n ≡ m → ◌≡◌ {A = Rules} (record r { ports = n }) (record r { ports = m })
rules_ports r n m e = ap (λ (k : ℕ). record r { ports = k }) e

pub ended_as : {A : Type 0} (result : Result RouteEnd RouteFault) (state : A → LinkState) (rules other : Rules) (turns : ℕ) (before after : List A) → other ≡ rules → HasEnded result false state other turns before after → HasEnded result false state rules turns before after
ended_as result state rules other turns before after e h = subst (λ (r : Rules). HasEnded result false state r turns before after) e h

pub stocked_as : {A : Type 0} (rules other : Rules) (stock : Stock A) → other ≡ rules → IsStocked other stock → IsStocked rules stock
stocked_as rules other stock e s = subst (λ (r : Rules). IsStocked r stock) e s
