-- A run that stops where there is no memory.
use Rattle.std.proofs.Common.{◌≡◌, ◌∙◌, ◌<◌, ◌≤◌, ◌⊎◌, inl, inr, ℕ, zero, suc, ◌+◌, ◌-◌, Bool, false, if◌then◌else◌, List, [], ◌∷◌, ◌++◌, length, get_or, set, slice_get, Some, refl, sym, ap, subst, arith, append_assoc, length-set}
use Rattle.std.proofs.lemmas.List.{append-nil}
use Rattle.std.proofs.lemmas.Option.{slice_get_within, slice_get-get_or}
use Rattle.mav_frame.specs.Encoding.{encoding}
use Rattle.mav_frame.specs.Parse.{BeginsIncremental, Incremental}
use Rattle.mav_frame.specs.declared.events.Event.{Event as FrameEvent}
use Rattle.mav_profile.specs.Messages.{extras_of}
use Rattle.mav_sign.specs.Kept.{Kept}
use Rattle.mav_stream.specs.Held.{Held, nothing_held}
use Rattle.mav_stream.specs.Spans.{IsNextSpan, first_packet}
use Rattle.mav_stream.specs.declared.spans.NextSpan.TheVariants.{Frame}
use Rattle.link_table.specs.OpenLinks.{has_link}
use Rattle.link_table.specs.Routing.{has_port}
use Rattle.mav_router.specs.Journal.{Rules}
use Rattle.relay_rules.specs.Kept.{LinksKept, Represents}
use Rattle.relay_rules.specs.States.{LinkState, RelayState}
use Rattle.relay_rules.specs.Steps.{Event}
use Rattle.relay_core.specs.Flows.{Flow, Told}
use Rattle.relay_core.specs.Moves.{IsTried, Moved, Moves, Stopped, Stops}
use Rattle.relay_core.specs.RelayRuns.{Hearing, HoldsInPart, HoldsSoFar, IsOpenAt, RelayKept, RelayRun, Tape, WasHeard, WasHeardInPart}
use Rattle.relay_core.specs.Scans.{consumed}
use Rattle.relay_core.specs.Waitings.{WaitingState, WaitsAt, nothing_waits, waits}
use Rattle.relay_core.proofs.FrameSteps.{as_many, frame_moves}
use Rattle.relay_core.proofs.Halves.{was_sent}
use Rattle.relay_core.proofs.Places.{is_same_or, nothing_there, same_some}
use Rattle.relay_core.proofs.Telling.{heard_more, tells_then, tells_none}
use Rattle.relay_core.specs.Said.{Said}

-- ---- each link is open, or has closed

open_or : (links : List LinkState) (number : ℕ) → ((k : ℕ) × (link : LinkState) × (slice_get links k ≡ Some link) × (link.number ≡ number)) ⊎ ((k : ℕ) (link : LinkState) → slice_get links k ≡ Some link → link.number ≡ number → ⊥)
open_or [] number = inr (λ k link there e. nothing_there k there)
open_or (l ∷ links) number = elim (is_same_or l.number number) [
  | inl same ↦ inl (0, l, refl, same)
  | inr apart ↦ elim (open_or links number) [
    | inl found ↦ inl (suc found.0, found.1, found.2, found.3)
    | inr none ↦ inr (not_here apart none)
  ]
]
  where
    not_here : (l.number ≡ number → ⊥) → ((k : ℕ) (link : LinkState) → slice_get links k ≡ Some link → link.number ≡ number → ⊥) → (k : ℕ) (link : LinkState) → slice_get (l ∷ links) k ≡ Some link → link.number ≡ number → ⊥
    not_here apart none zero link there e = apart (ap (λ (o : LinkState). o.number) (same_some there) ∙ e)
    not_here apart none (suc k) link there e = none k link there e

-- ---- what holds of a relay so far holds in part

begins : (extras : List (ℕ × ℕ)) (old : Bool) (found : List FrameEvent) (left bytes : List ℕ) → Incremental extras old found left bytes → BeginsIncremental extras old found left bytes
begins extras old [] left bytes i = sym i.0
begins extras old (event ∷ found) left bytes i = (i.0, (i.1.0, i.1.1, begins extras old found left i.1.0 i.1.2))

heard_open : (rules : Rules) (flow : Flow) (tape : Tape) (held : Held) → Hearing rules flow tape held → WasHeardInPart rules flow tape
heard_open rules flow tape held h = record { found = h.found; left = held.bytes; parsed = h.parsed.incremental h.live; heard = h.heard }

heard_closed : (rules : Rules) (flow : Flow) (tape : Tape) → WasHeard rules flow tape → WasHeardInPart rules flow tape
heard_closed rules flow tape h = record {
  found = h.found;
  left = h.left;
  parsed = begins (extras_of rules.known) (has_port rules.plain flow.port) h.found h.left tape.given h.parsed;
  heard = h.heard;
}

opened_at : (run : RelayRun) (k n : ℕ) (link : LinkState) (flow : Flow) (tape : Tape) → slice_get run.course.state.links k ≡ Some link → link.number ≡ n + 1 → slice_get run.course.flows n ≡ Some flow → slice_get run.tapes n ≡ Some tape → IsOpenAt run k link flow tape
opened_at run k n link flow tape there e flow_is tape_is =
    let place : n ≡ link.number - 1 = omega (arith, e) in
    record {
      link_is = there;
      flow_is = subst (λ (p : ℕ). slice_get run.course.flows p ≡ Some flow) place flow_is;
      tape_is = subst (λ (p : ℕ). slice_get run.tapes p ≡ Some tape) place tape_is;
    }

pub in_part : (rules : Rules) (run : RelayRun) (view : RelayKept) → length view.scanners ≡ length view.links.links → length view.queues ≡ length view.links.links → HoldsSoFar rules run view → HoldsInPart rules run
in_part rules run view as_scanners as_queues h =
    let links = run.course.state.links in
    let count = as_many view.links run.course.state h.links in
    record {
      heard = λ n flow tape flow_is tape_is. elim (open_or links (n + 1)) [
        | inl found ↦
            let within = slice_get_within links found.0 found.1 found.2 in
            let held = get_or view.scanners found.0 (nothing_held [] false) in
            heard_open rules flow tape held (h.hearing found.0 found.1 flow tape held (opened_at run found.0 n found.1 flow tape found.2 found.3 flow_is tape_is) (slice_get-get_or view.scanners found.0 (nothing_held [] false) (omega (arith, within, count, as_scanners))))
        | inr none ↦ heard_closed rules flow tape (h.heard n flow tape none flow_is tape_is)
      ];
      sent = λ n flow tape flow_is tape_is. elim (open_or links (n + 1)) [
        | inl found ↦
            let within = slice_get_within links found.0 found.1 found.2 in
            let waiting = get_or view.queues found.0 nothing_waits in
            let w = was_sent flow tape waiting (h.sending found.0 found.1 flow tape waiting (opened_at run found.0 n found.1 flow tape found.2 found.3 flow_is tape_is) (slice_get-get_or view.queues found.0 nothing_waits (omega (arith, within, count, as_queues)))) in
            (w.0, w.1)
        | inr none ↦ h.sent n flow tape none flow_is tape_is
      ];
    }

-- ---- it stops before a frame

pub stops_before : (rules : Rules) (view : RelayKept) {Watcher : Type 0} (told : Watcher → List Said → Type 0) (watcher telling : Watcher) → length view.scanners ≡ length view.links.links → length view.queues ≡ length view.links.links → ((all : List Said) → told watcher all → told telling all) → Stops rules view told watcher telling
stops_before rules view told watcher telling as_scanners as_queues same start run is h = record {
  now = run;
  is_run = is;
  holds = in_part rules run view as_scanners as_queues h;
  tapes = refl;
  since = [];
  events = sym (append-nil run.events);
  frames = tt;
  more = [];
  course = sym (append-nil run.course.told);
  tells_it = λ all h. tells_none told telling all (same all h);
}

pub stops_after : (rules : Rules) (start : Kept) (run : RelayRun) (view : RelayKept) {Watcher : Type 0} (told : Watcher → List Said → Type 0) (watcher telling : Watcher) → length view.scanners ≡ length view.links.links → length view.queues ≡ length view.links.links → Moved rules start run view told watcher telling → Stopped rules start run told watcher telling
stops_after rules start run view told watcher telling as_scanners as_queues m = record {
  now = m.now;
  is_run = m.is_run;
  holds = in_part rules m.now view as_scanners as_queues m.holds;
  tapes = m.tapes;
  since = m.since;
  events = m.events;
  frames = m.frames;
  more = m.more;
  course = m.course;
  tells_it = m.tells_it;
}

pub stops_on : (rules : Rules) (a b : RelayKept) {Watcher : Type 0} (told : Watcher → List Said → Type 0) (s t u : Watcher) → Moves rules a b told s t → Stops rules b told t u → Stops rules a told s u
stops_on rules a b told s t u first second start run is h =
    let m = first start run is h in
    let n = second start m.now m.is_run m.holds in
    record {
      now = n.now;
      is_run = n.is_run;
      holds = n.holds;
      tapes = n.tapes ∙ m.tapes;
      since = m.since ++ n.since;
      events = n.events ∙ (ap (λ (l : List Event). l ++ n.since) m.events ∙ append_assoc run.events m.since n.since);
      frames = heard_more m.since n.since m.frames n.frames;
      more = m.more ++ n.more;
      course = n.course ∙ (ap (λ (l : List Told). l ++ n.more) m.course ∙ append_assoc run.course.told m.more n.more);
      tells_it = tells_then told s t u m.more n.more m.tells_it n.tells_it;
    }

-- ---- it stops before a frame waits at all the links to which it goes

-- what would wait then
abbrev pushed_at : (ℕ → Bool) → List ℕ → ℕ → List WaitingState → List WaitingState
pushed_at goes bytes k [] = []
pushed_at goes bytes k (w ∷ queues) = (if goes k then waits bytes w else w) ∷ pushed_at goes bytes (k + 1) queues

pushed_length : (goes : ℕ → Bool) (bytes : List ℕ) (k : ℕ) (queues : List WaitingState) → length (pushed_at goes bytes k queues) ≡ length queues
pushed_length goes bytes k [] = refl
pushed_length goes bytes k (w ∷ queues) = ap suc (pushed_length goes bytes (k + 1) queues)

pushed_past : (goes : ℕ → Bool) (bytes : List ℕ) (k j : ℕ) (queues : List WaitingState) → length queues ≤ j → slice_get (pushed_at goes bytes k queues) j ≡ slice_get queues j
pushed_past goes bytes k j [] l = refl
pushed_past goes bytes k zero (w ∷ queues) l = absurd (omega (arith, l))
pushed_past goes bytes k (suc j) (w ∷ queues) l = pushed_past goes bytes (k + 1) j queues (omega (arith, l))

pushed_there : (goes : ℕ → Bool) (bytes : List ℕ) (k j : ℕ) (queues : List WaitingState) (w : WaitingState) → slice_get queues j ≡ Some w → slice_get (pushed_at goes bytes k queues) j ≡ Some (if goes (k + j) then waits bytes w else w)
pushed_there goes bytes k j [] w there = absurd (nothing_there j there)
pushed_there goes bytes k zero (v ∷ queues) w there =
    let same : k ≡ k + 0 = omega arith in
    (λ i. Some (if goes (same i) then waits bytes (same_some there i) else same_some there i))
pushed_there goes bytes k (suc j) (v ∷ queues) w there =
    let same : k + 1 + j ≡ k + suc j = omega arith in
    pushed_there goes bytes (k + 1) j queues w there ∙ ap (λ (n : ℕ). Some (if goes n then waits bytes w else w)) same

pushed_all : (goes : ℕ → Bool) (bytes : List ℕ) (queues : List WaitingState) → WaitsAt (length queues) goes bytes queues (pushed_at goes bytes 0 queues)
pushed_all goes bytes queues = record {
  same = pushed_length goes bytes 0 queues;
  later = λ k past. pushed_past goes bytes 0 k queues past;
  each = λ k w within there. (let same : 0 + k ≡ k = omega arith in pushed_there goes bytes 0 k queues w there ∙ ap (λ (n : ℕ). Some (if goes n then waits bytes w else w)) same);
}

pub stops_waiting : (rules : Rules) (index size bits : ℕ) (links later : LinksKept) (scanners : List Held) (queues : List WaitingState) {Watcher : Type 0} (told : Watcher → List Said → Type 0) (watcher telling : Watcher) (held : Held) → index < length links.links → length scanners ≡ length links.links → length queues ≡ length links.links → later.links ≡ links.links → slice_get scanners index ≡ Some held → IsNextSpan held (Frame size) → ((state : RelayState) → Represents links state → IsTried rules index bits (first_packet held) state later told watcher telling) → Stops rules (record { links = links; scanners = scanners; queues = queues }) told watcher telling
stops_waiting rules index size bits links later scanners queues told watcher telling held within as_scanners as_queues same there next tried start run is h =
    let bytes = encoding (first_packet held) in
    let waiting = pushed_at (has_link bits) bytes 0 queues in
    let now : RelayKept = record { links = later; scanners = set scanners index (consumed size held); queues = waiting } in
    let count = ap length same in
    let long = length-set scanners index (consumed size held) in
    let all = pushed_length (has_link bits) bytes 0 queues in
    stops_after rules start run now told watcher telling (omega (arith, long, count, as_scanners)) (omega (arith, all, count, as_queues))
    (frame_moves rules start run index size bits links later scanners queues waiting told watcher telling held within there next tried (pushed_all (has_link bits) bytes queues) is h)
