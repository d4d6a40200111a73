-- A run goes on with a frame.
use Rattle.std.proofs.Common.{◌≡◌, ◌∙◌, ◌<◌, inl, inr, ℕ, zero, suc, ◌+◌, ◌-◌, ◌==◌, Bool, true, false, if◌then◌else◌, List, [], ◌∷◌, ◌++◌, length, map, filter, get_or, set, slice_get, Some, refl, sym, ap, subst, arith}
use Rattle.std.proofs.lemmas.Bool.{cases_Bool}
use Rattle.std.proofs.lemmas.List.{append-nil}
use Rattle.std.proofs.lemmas.Option.{get_or_from_slice_get, slice_get_within, slice_get-get_or}
use Rattle.mav_frame.specs.Packet.{Packet}
use Rattle.mav_frame.specs.Encoding.{encoding}
use Rattle.mav_sign.specs.declared.admission.Admit.{Admit}
use Rattle.mav_sign.specs.History.{is_admitted}
use Rattle.mav_sign.specs.Kept.{Kept}
use Rattle.mav_stream.specs.Held.{Held}
use Rattle.mav_stream.specs.Spans.{IsNextSpan, first_packet}
use Rattle.mav_stream.specs.declared.spans.NextSpan.TheVariants.{Frame, Skipped}
use Rattle.mav_frame.specs.declared.looks.Why.{Why}
use Rattle.link_table.specs.OpenLinks.{has_link}
use Rattle.mav_router.specs.Journal.{Rules}
use Rattle.relay_rules.specs.Kept.{LinksKept, Represents, head_of}
use Rattle.relay_rules.specs.States.{LinkState, RelayState, link_at, no_link, taught}
use Rattle.relay_rules.specs.Steps.{hears}
use Rattle.relay_core.specs.Flows.{Flow, Goes, Told, each_from, flow_after, nothing_yet, one_told, passes, reaches, told_of, with_if}
use Rattle.relay_core.specs.Moves.{IsTried, Moved}
use Rattle.relay_core.specs.RelayRuns.{HasClosed, Hearing, HoldsSoFar, IsOpenAt, IsRun, RelayRun, Sending, Tape}
use Rattle.relay_core.specs.Scans.{consumed}
use Rattle.relay_core.specs.Waitings.{WaitingState, WaitsAt, waits}
use Rattle.relay_core.proofs.Halves.{hearing_frame, hearing_kept, hearing_skips, sending_kept, sending_push, was_heard_kept, was_sent_kept}
use Rattle.relay_core.proofs.Numbers.{Rising, is_eq, not_eq, one_more, one_place, own_numbered, reaches_closed, reaches_open, run_rises, was_link}
use Rattle.relay_core.proofs.Places.{each_got, each_length, is_same_or, nothing_there, same_some, set_elsewhere, set_there}
use Rattle.relay_core.specs.Said.{Said, Tells}

-- ---- lists of links

pub as_many : (view : LinksKept) (state : RelayState) → Represents view state → length view.links ≡ length state.links
as_many view state r = ap length r.links ∙ mapped state.links
  where
    mapped : (links : List LinkState) → length (map head_of links) ≡ length links
    mapped [] = refl
    mapped (l ∷ links) = ap suc (mapped links)

pub there_is : (links : List LinkState) (index : ℕ) → index < length links → slice_get links index ≡ Some (link_at links index)
there_is links index l = slice_get-get_or links index no_link l

-- a link is still there after one was set
now_link : (links : List LinkState) (at k : ℕ) (new link : LinkState) → new.number ≡ (link_at links at).number → slice_get links k ≡ Some link → (now : LinkState) × (slice_get (set links at new) k ≡ Some now) × (now.number ≡ link.number)
now_link [] at k new link same e = absurd (nothing_there k e)
now_link (o ∷ links) zero zero new link same e = (new, refl, same ∙ ap (λ (l : LinkState). l.number) (same_some e))
now_link (o ∷ links) zero (suc k) new link same e = (link, e, refl)
now_link (o ∷ links) (suc at) zero new link same e = (link, e, refl)
now_link (o ∷ links) (suc at) (suc k) new link same e = now_link links at k new link same e

if_true : {A : Type 0} (b : Bool) (x : A) (xs : List A) → b ≡ true → with_if b x xs ≡ xs ++ x ∷ []
if_true b x xs e = ap (λ (t : Bool). if t then xs ++ x ∷ [] else xs) e

if_false : {A : Type 0} (b : Bool) (x : A) (xs : List A) → b ≡ false → with_if b x xs ≡ xs
if_false b x xs e = ap (λ (t : Bool). if t then xs ++ x ∷ [] else xs) e

-- ---- what a frame leaves of the flow of a link

-- a link that is open now was, with the flow before
record Before (rules : Rules) (packet : Packet) (answer : Admit) (run : RelayRun) (own : LinkState) (k : ℕ) (flow : Flow) (tape : Tape) : Type 0 where
  old : LinkState
  first : Flow
  open_is : IsOpenAt run k old first tape
  flow_is : flow ≡ flow_after rules packet answer run.course.state.links own.number old.number first

-- the run after the frame
abbrev frame_run : Rules → Packet → Admit → RelayRun → ℕ → RelayState → RelayRun
frame_run rules packet answer run number after = record {
  events = run.events ++ hears number packet answer ∷ [];
  course = record {
    state = after;
    flows = each_from (flow_after rules packet answer run.course.state.links number) 1 run.course.flows;
    told = run.course.told ++ told_of rules (hears number packet answer) run.course.state.links;
  };
  tapes = run.tapes;
}

was_open : (rules : Rules) (packet : Packet) (answer : Admit) (run : RelayRun) (own : LinkState) (after : RelayState) (at k : ℕ) (new link : LinkState) (flow : Flow) (tape : Tape) → Rising run.course.state.given run.course.state.links → after.links ≡ set run.course.state.links at new → new.number ≡ (link_at run.course.state.links at).number → IsOpenAt (frame_run rules packet answer run own.number after) k link flow tape → Before rules packet answer run own k flow tape
was_open rules packet answer run own after at k new link flow tape r is same o =
    let links = run.course.state.links in
    let w = was_link links at k new link same (subst (λ (l : List LinkState). slice_get l k ≡ Some link) is o.link_is) in
    let some = r.some k w.0 w.1 in
    let place : link.number - 1 ≡ w.0.number - 1 = ap (λ (n : ℕ). n - 1) (sym w.2) in
    let e = each_got (flow_after rules packet answer links own.number) 1 (w.0.number - 1) run.course.flows flow (subst (λ (p : ℕ). slice_get (each_from (flow_after rules packet answer links own.number) 1 run.course.flows) p ≡ Some flow) place o.flow_is) in
    let number : 1 + (w.0.number - 1) ≡ w.0.number = omega (arith, some) in
    record {
      old = w.0;
      first = e.0;
      open_is = record { link_is = w.1; flow_is = e.1; tape_is = subst (λ (p : ℕ). slice_get run.tapes p ≡ Some tape) place o.tape_is };
      flow_is = e.2 ∙ ap (λ (n : ℕ). flow_after rules packet answer links own.number n e.0) number;
    }

-- ---- its two halves

hears_at : (rules : Rules) (packet : Packet) (answer : Admit) (run : RelayRun) (index k size : ℕ) (own : LinkState) (scanners : List Held) (held h : Held) (flow : Flow) (tape : Tape) → Rising run.course.state.given run.course.state.links → slice_get run.course.state.links index ≡ Some own → slice_get scanners index ≡ Some held → packet ≡ first_packet held → IsNextSpan held (Frame size) → (b : Before rules packet answer run own k flow tape) → ((before : Held) → slice_get scanners k ≡ Some before → Hearing rules b.first tape before) → slice_get (set scanners index (consumed size held)) k ≡ Some h → Hearing rules flow tape h
hears_at rules packet answer run index k size own scanners held h flow tape r here holds is next b hearing now = elim (is_same_or k index) [
  | inl same ↦
      let within = slice_get_within scanners index held holds in
      let there = subst (λ (j : ℕ). slice_get scanners j ≡ Some held) (sym same) holds in
      let h_is : consumed size held ≡ h = same_some (sym (set_there scanners index (consumed size held) within) ∙ subst (λ (j : ℕ). slice_get (set scanners index (consumed size held)) j ≡ Some h) same now) in
      let own_is : b.old ≡ own = same_some (sym b.open_is.link_is ∙ subst (λ (j : ℕ). slice_get run.course.state.links j ≡ Some own) (sym same) here) in
      let heard_is : flow.heard ≡ b.first.heard ++ first_packet held ∷ [] =
      ap (λ (f : Flow). f.heard) b.flow_is
      ∙ (if_true (b.old.number == own.number) packet b.first.heard (is_eq b.old.number own.number (ap (λ (l : LinkState). l.number) own_is))
      ∙ ap (λ (p : Packet). b.first.heard ++ p ∷ []) is) in
      subst (λ (x : Held). Hearing rules flow tape x) h_is (hearing_frame rules b.first flow tape held size next (ap (λ (f : Flow). f.port) b.flow_is) heard_is (hearing held there))
  | inr apart ↦
      let there = sym (set_elsewhere scanners index k (consumed size held) apart) ∙ now in
      let other : b.old.number ≡ own.number → ⊥ = λ e. apart (one_place run.course.state.given run.course.state.links r k index b.old own b.open_is.link_is here e) in
      hearing_kept rules b.first flow tape h (ap (λ (f : Flow). f.port) b.flow_is) (ap (λ (f : Flow). f.heard) b.flow_is ∙ if_false (b.old.number == own.number) packet b.first.heard (not_eq b.old.number own.number other)) (hearing h there)
]

sends_at : (rules : Rules) (packet : Packet) (answer : Admit) (run : RelayRun) (index k : ℕ) (own : LinkState) (goes : ℕ → Bool) (queues waiting : List WaitingState) (w : WaitingState) (flow : Flow) (tape : Tape) → Rising run.course.state.given run.course.state.links → slice_get run.course.state.links index ≡ Some own → ((j : ℕ) → j < length run.course.state.links → goes j ≡ passes rules packet answer own (link_at run.course.state.links j)) → WaitsAt (length queues) goes (encoding packet) queues waiting → (b : Before rules packet answer run own k flow tape) → ((before : WaitingState) → slice_get queues k ≡ Some before → Sending b.first tape before) → slice_get waiting k ≡ Some w → Sending flow tape w
sends_at rules packet answer run index k own goes queues waiting w flow tape r here ways pushes b sending now =
    let links = run.course.state.links in
    let within : k < length queues = (let l = slice_get_within waiting k w now in omega (arith, l, pushes.same)) in
    let before = get_or queues k w in
    let there = slice_get-get_or queues k w within in
    let w_is = same_some (sym now ∙ pushes.each k before within there) in
    let inside = slice_get_within links k b.old b.open_is.link_is in
    let way : goes k ≡ passes rules packet answer own b.old = ways k inside ∙ ap (passes rules packet answer own) (get_or_from_slice_get links k b.old no_link b.open_is.link_is) in
    let reach : reaches rules packet answer links own.number b.old.number ≡ goes k = reaches_open rules packet answer run.course.state.given index k links own b.old r here b.open_is.link_is ∙ sym way in
    let sent_is = ap (λ (f : Flow). f.sent) b.flow_is in
    let old = sending before there in
    subst (λ (x : WaitingState). Sending flow tape x) (sym w_is)
    (elim (cases_Bool (goes k)) [
      | inl yes_it ↦
          subst (λ (t : Bool). Sending flow tape (if t then waits (encoding packet) before else before)) (sym yes_it)
          (sending_push b.first flow tape before packet (sent_is ∙ if_true (reaches rules packet answer links own.number b.old.number) packet b.first.sent (reach ∙ yes_it)) old)
      | inr not_it ↦
          subst (λ (t : Bool). Sending flow tape (if t then waits (encoding packet) before else before)) (sym not_it)
          (sending_kept b.first flow tape before (sent_is ∙ if_false (reaches rules packet answer links own.number b.old.number) packet b.first.sent (reach ∙ not_it)) old)
    ])

-- ---- links that have closed

closed_before : (rules : Rules) (packet : Packet) (answer : Admit) (run : RelayRun) (own : LinkState) (after : RelayState) (at n : ℕ) (new : LinkState) → after.links ≡ set run.course.state.links at new → new.number ≡ (link_at run.course.state.links at).number → HasClosed (frame_run rules packet answer run own.number after) n → HasClosed run n
closed_before rules packet answer run own after at n new is same closed = λ j link there e.
    let now = now_link run.course.state.links at j new link same there in
    closed j now.0 (subst (λ (l : List LinkState). slice_get l j ≡ Some now.0) (sym is) now.1) (now.2 ∙ e)

closed_flow : (rules : Rules) (packet : Packet) (answer : Admit) (run : RelayRun) (index n : ℕ) (own : LinkState) (flow : Flow) → slice_get run.course.state.links index ≡ Some own → HasClosed run n → slice_get (each_from (flow_after rules packet answer run.course.state.links own.number) 1 run.course.flows) n ≡ Some flow → (first : Flow) × (slice_get run.course.flows n ≡ Some first) × (flow.port ≡ first.port) × (flow.heard ≡ first.heard) × (flow.sent ≡ first.sent)
closed_flow rules packet answer run index n own flow here closed there =
    let links = run.course.state.links in
    let e = each_got (flow_after rules packet answer links own.number) 1 n run.course.flows flow there in
    let other : 1 + n ≡ own.number → ⊥ = λ s. closed index own here (omega (arith, s)) in (
      e.0,
      e.1,
      ap (λ (f : Flow). f.port) e.2,
      ap (λ (f : Flow). f.heard) e.2 ∙ if_false (1 + n == own.number) packet e.0.heard (not_eq (1 + n) own.number other),
      ap (λ (f : Flow). f.sent) e.2 ∙ if_false (reaches rules packet answer links own.number (1 + n)) packet e.0.sent (reaches_closed rules packet answer links own.number (1 + n) (λ j o at s. closed j o at (omega (arith, s)))),
    )

-- ---- the run goes on

pub frame_moves : (rules : Rules) (start : Kept) (run : RelayRun) (index size bits : ℕ) (links later : LinksKept) (scanners : List Held) (queues waiting : List WaitingState) {Watcher : Type 0} (told : Watcher → List Said → Type 0) (watcher telling : Watcher) (held : Held) → index < length links.links → slice_get scanners index ≡ Some held → IsNextSpan held (Frame size) → ((state : RelayState) → Represents links state → IsTried rules index bits (first_packet held) state later told watcher telling) → WaitsAt (length queues) (has_link bits) (encoding (first_packet held)) queues waiting → IsRun rules start run → HoldsSoFar rules run (record { links = links; scanners = scanners; queues = queues }) → Moved rules start run (record { links = later; scanners = set scanners index (consumed size held); queues = waiting }) told watcher telling
frame_moves rules start run index size bits links later scanners queues waiting told watcher telling held within holds next does pushes is h =
    let state = run.course.state in
    let packet = first_packet held in
    let g = does state h.links in
    let own = link_at state.links index in
    let count = as_many links state h.links in
    let here = there_is state.links index (omega (arith, within, count)) in
    let rises = run_rises rules start run is in
    let event = hears own.number packet g.answer in
    let new = taught (is_admitted g.answer) packet.from (link_at state.links g.step.index) in
    let links_are : g.after.links ≡ set state.links g.step.index new = ap (λ (s : RelayState). s.links) g.step.state in
    let given_is : g.after.given ≡ state.given = ap (λ (s : RelayState). s.given) g.step.state in
    let now = frame_run rules packet g.answer run own.number g.after in
    let went : Goes rules event run.course now.course = record { step = g.step; flows = refl; told = refl } in
    let ways : LinkState → List ℕ = λ o. map (λ (link : LinkState). link.number) (filter (passes rules packet g.answer o) state.links) in
    let own_is : told_of rules event state.links ≡ one_told own.number packet g.answer (ways own) = ap (λ (o : LinkState). one_told own.number packet g.answer (ways o)) (own_numbered state.given index state.links own rises here) in
    record {
      now = now;
      is_run = one_more rules run.events event (nothing_yet start) run.course now.course is went;
      holds = record {
        links = g.links_are;
        flows = each_length (flow_after rules packet g.answer state.links own.number) 1 run.course.flows ∙ (h.flows ∙ sym given_is);
        tapes = h.tapes ∙ sym given_is;
        hearing = λ k link flow tape x o at.
            let b = was_open rules packet g.answer run own g.after g.step.index k new link flow tape rises links_are refl o in
            hears_at rules packet g.answer run index k size own scanners held x flow tape rises here holds refl next b (λ before there. h.hearing k b.old b.first tape before b.open_is there) at;
        sending = λ k link flow tape w o at.
            let b = was_open rules packet g.answer run own g.after g.step.index k new link flow tape rises links_are refl o in
            sends_at rules packet g.answer run index k own (has_link bits) queues waiting w flow tape rises here g.ways pushes b (λ before there. h.sending k b.old b.first tape before b.open_is there) at;
        heard = λ n flow tape closed flow_is tape_is.
            let was = closed_before rules packet g.answer run own g.after g.step.index n new links_are refl closed in
            let f = closed_flow rules packet g.answer run index n own flow here was flow_is in
            was_heard_kept rules f.0 flow tape f.2 f.3 (h.heard n f.0 tape was f.1 tape_is);
        sent = λ n flow tape closed flow_is tape_is.
            let was = closed_before rules packet g.answer run own g.after g.step.index n new links_are refl closed in
            let f = closed_flow rules packet g.answer run index n own flow here was flow_is in
            let w = h.sent n f.0 tape was f.1 tape_is in
            (w.0, was_sent_kept w.0 f.0 flow tape f.4 w.1);
      };
      tapes = refl;
      since = event ∷ [];
      events = refl;
      frames = tt;
      more = told_of rules event state.links;
      course = refl;
      tells_it = subst (Tells told watcher telling) (sym own_is) g.tells_it;
    }

-- some bytes are skipped
pub skip_moves : (rules : Rules) (start : Kept) (run : RelayRun) (index count : ℕ) (why : Why) (links : LinksKept) (scanners : List Held) (queues : List WaitingState) {Watcher : Type 0} (told : Watcher → List Said → Type 0) (watcher : Watcher) (held : Held) → slice_get scanners index ≡ Some held → IsNextSpan held (Skipped why count) → IsRun rules start run → HoldsSoFar rules run (record { links = links; scanners = scanners; queues = queues }) → Moved rules start run (record { links = links; scanners = set scanners index (consumed count held); queues = queues }) told watcher watcher
skip_moves rules start run index count why links scanners queues told watcher held there next is h = record {
  now = run;
  is_run = is;
  holds = record {
    links = h.links;
    flows = h.flows;
    tapes = h.tapes;
    hearing = λ k link flow tape x o at. elim (is_same_or k index) [
      | inl same ↦
          let within = slice_get_within scanners index held there in
          let x_is : consumed count held ≡ x = same_some (sym (set_there scanners index (consumed count held) within) ∙ subst (λ (j : ℕ). slice_get (set scanners index (consumed count held)) j ≡ Some x) same at) in
          subst (λ (y : Held). Hearing rules flow tape y) x_is (hearing_skips rules flow tape held why count next (h.hearing k link flow tape held o (subst (λ (j : ℕ). slice_get scanners j ≡ Some held) (sym same) there)))
      | inr apart ↦ h.hearing k link flow tape x o (sym (set_elsewhere scanners index k (consumed count held) apart) ∙ at)
    ];
    sending = h.sending;
    heard = h.heard;
    sent = h.sent;
  };
  tapes = refl;
  since = [];
  events = sym (append-nil run.events);
  frames = tt;
  more = [];
  course = sym (no_more run.course.told);
  tells_it = told_none;
}
  where
    no_more : (xs : List Told) → xs ++ [] ≡ xs
    no_more [] = refl
    no_more (x ∷ xs) = ap (λ (l : List Told). x ∷ l) (no_more xs)

    told_none : Tells told watcher watcher []
    told_none = λ all h. subst (told watcher) (sym (append-nil all)) h
