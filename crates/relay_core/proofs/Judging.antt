-- A run goes on with frames of a stranger that are refused.
use Rattle.std.proofs.Common.{◌≡◌, ◌∙◌, ◌≤◌, ℕ, ◌-◌, true, false, List, [], ◌∷◌, ◌++◌, length, take, drop, map, Option, Some, None, refl, sym, ap, subst, arith, append_assoc, length-drop}
use Rattle.std.proofs.lemmas.List.{append-nil}
use Rattle.std.proofs.lemmas.List.Elements.{filter_map-append}
use Rattle.mav_frame.specs.Packet.{Packet, SignatureBlock}
use Rattle.mav_frame.specs.declared.events.Event.TheVariants.{Frame as FrameFound}
use Rattle.mav_frame.specs.declared.looks.Why.{Why}
use Rattle.mav_profile.specs.Messages.{extras_of}
use Rattle.mav_sign.specs.declared.admission.Admit.{Admit}
use Rattle.mav_sign.specs.declared.admission.Admit.TheVariants.{Admitted, Unsigned, BadSignature, BelowFloor, NotLater, TooOld, TooManyStreams}
use Rattle.mav_sign.specs.Endpoints.{frames_of, frame_in}
use Rattle.mav_sign.specs.History.{is_admitted, stream_of}
use Rattle.mav_sign.specs.Kept.{HasRoom, Kept, KeptAfter, KeptByBlock}
use Rattle.mav_names.specs.declared.names.Stream.{Stream}
use Rattle.mav_stream.specs.Held.{Held, nothing_held}
use Rattle.mav_stream.specs.Progress.{Feeds}
use Rattle.mav_stream.specs.Spans.{IsNextSpan, first_packet, next_span, skipped_for}
use Rattle.mav_stream.specs.declared.spans.NextSpan.{NextSpan}
use Rattle.mav_stream.specs.declared.spans.NextSpan.TheVariants.{Frame, Need, Skipped}
use Rattle.link_table.specs.OpenLinks.{StandsFor, Words}
use Rattle.link_table.specs.Routing.{has_port}
use Rattle.mav_router.specs.Journal.{Rules}
use Rattle.mav_router.proofs.Buffers.{rest_dropped, rest_then, rest_whole}
use Rattle.relay_rules.specs.Kept.{LinksKept, Represents, names_of}
use Rattle.relay_rules.specs.States.{LinkState, RelayState}
use Rattle.relay_rules.specs.Steps.{Event, closes, forgets, hears, opens, refuses}
use Rattle.relay_core.specs.Calls.{RunIs}
use Rattle.relay_core.specs.Flows.{Flow, Goes, Told, nothing_yet, told_of}
use Rattle.relay_core.specs.RelayRuns.{Holds, IsOpenAt, RelayKept, RelayRun, Tape}
use Rattle.relay_core.specs.Scans.{consumed}
use Rattle.relay_core.specs.Strangers.{Answers, AreRefused, EndsBy, HasJudged, IsTested, Judged, JudgesOn, if_frame, kept_with, refused_in}
use Rattle.relay_core.specs.Waitings.{WaitingState}
use Rattle.relay_core.proofs.Halves.{none_in_row}
use Rattle.relay_core.proofs.Numbers.{one_more}
use Rattle.relay_core.proofs.TapeSteps.{all_fit}
use Rattle.relay_core.proofs.Telling.{tells_then, tells_none}
use Rattle.relay_core.specs.Said.{Said}
use Rattle.relay_core.specs.Said.Said.{Framed}

-- ---- the verifier keeps something else, and no link changes

abbrev pub kept_run : Rules → Event → Kept → RelayRun → RelayRun
kept_run rules event kept run = record {
  events = run.events ++ event ∷ [];
  course = record {
    state = record { given = run.course.state.given; links = run.course.state.links; kept = kept };
    flows = run.course.flows;
    told = run.course.told ++ told_of rules event run.course.state.links;
  };
  tapes = run.tapes;
}

same_links : (old new : LinksKept) (state : RelayState) → new.given ≡ old.given → new.links ≡ old.links → new.words ≡ old.words → Represents old state → Represents new (record { given = state.given; links = state.links; kept = new.kept })
same_links old new state given links words r = record {
  given = given ∙ r.given;
  links = links ∙ r.links;
  words = subst (λ (w : Words). StandsFor w (map names_of state.links)) (sym words) r.words;
  kept = refl;
}

open_before : (rules : Rules) (event : Event) (kept : Kept) (run : RelayRun) (k : ℕ) (link : LinkState) (flow : Flow) (tape : Tape) → IsOpenAt (kept_run rules event kept run) k link flow tape → IsOpenAt run k link flow tape
open_before rules event kept run k link flow tape o = record { link_is = o.link_is; flow_is = o.flow_is; tape_is = o.tape_is }

still_holds : (rules : Rules) (event : Event) (run : RelayRun) (old new : LinksKept) (scanners : List Held) (queues : List WaitingState) → new.given ≡ old.given → new.links ≡ old.links → new.words ≡ old.words → Holds rules run (kept_with old scanners queues) → Holds rules (kept_run rules event new.kept run) (kept_with new scanners queues)
still_holds rules event run old new scanners queues given links words holds =
    let h = holds.so_far in
    record {
      so_far = record {
        links = same_links old new run.course.state given links words h.links;
        flows = h.flows;
        tapes = h.tapes;
        hearing = λ k link flow tape held o at. h.hearing k link flow tape held (open_before rules event new.kept run k link flow tape o) at;
        sending = λ k link flow tape w o at. h.sending k link flow tape w (open_before rules event new.kept run k link flow tape o) at;
        heard = λ n flow tape closed flow_is tape_is. h.heard n flow tape closed flow_is tape_is;
        sent = λ n flow tape closed flow_is tape_is. h.sent n flow tape closed flow_is tape_is;
      };
      resting = λ k held at. holds.resting k held at;
    }

-- ---- one event more

refused_more : (port : ℕ) (a b : List Event) → AreRefused port a → AreRefused port b → AreRefused port (a ++ b)
refused_more port [] b f g = g
refused_more port (refuses at packet answer ∷ a) b f g = (f.0, refused_more port a b f.1 g)
refused_more port (forgets ∷ a) b f g = refused_more port a b f g
refused_more port (opens number at ∷ a) b f g = f
refused_more port (closes number ∷ a) b f g = f
refused_more port (hears number packet answer ∷ a) b f g = f

frames_more : (a b : List Event) → refused_in (a ++ b) ≡ refused_in a ++ refused_in b
frames_more [] b = refl
frames_more (refuses at packet answer ∷ a) b = ap (λ (l : List Packet). packet ∷ l) (frames_more a b)
frames_more (forgets ∷ a) b = frames_more a b
frames_more (opens number at ∷ a) b = frames_more a b
frames_more (closes number ∷ a) b = frames_more a b
frames_more (hears number packet answer ∷ a) b = frames_more a b

-- what a refused frame leaves of the verifier
kept_after : (answer : Admit) (stream : Stream) (stamp : ℕ) (kept : Kept) → is_admitted answer ≡ false → KeptAfter answer stream stamp kept kept
kept_after Admitted stream stamp kept e = absurd (cc)
kept_after Unsigned stream stamp kept e = refl
kept_after BadSignature stream stamp kept e = refl
kept_after (BelowFloor n) stream stamp kept e = refl
kept_after (NotLater n) stream stamp kept e = refl
kept_after (TooOld n) stream stamp kept e = refl
kept_after TooManyStreams stream stamp kept e = refl

kept_by : (block : Option SignatureBlock) (packet : Packet) (answer : Admit) (kept : Kept) → is_admitted answer ≡ false → KeptByBlock block packet answer kept kept
kept_by None packet answer kept e = refl
kept_by (Some block) packet answer kept e = kept_after answer (stream_of packet block) block.stamp kept e

-- ---- what was judged so far goes on

pub judged_skips : (rules : Rules) (start : Kept) (port : ℕ) (bytes : List ℕ) (run : RelayRun) (held : Held) (why : Why) (count : ℕ) (new : RelayKept) {Watcher : Type 0} (told : Watcher → List Said → Type 0) (watcher telling : Watcher) → IsNextSpan held (Skipped why count) → Judged rules start port bytes run held new told watcher telling → Judged rules start port bytes run (consumed count held) new told watcher telling
judged_skips rules start port bytes run held why count new told watcher telling next j =
    let more = map (skipped_for why) (take count held.bytes) in
    let fewer : length (drop count held.bytes) ≤ length held.bytes = omega (arith, length-drop count held.bytes) in
    record {
      found = j.found ++ more;
      parsed = next.progress (extras_of rules.known) (has_port rules.plain port) bytes j.found j.parsed;
      fewer = omega (arith, fewer, j.fewer);
      rest = rest_then bytes held.bytes (drop count held.bytes) j.fewer fewer j.rest (rest_dropped held.bytes count next.within);
      now = j.now;
      goes_on = j.goes_on;
      tapes = j.tapes;
      since = j.since;
      events = j.events;
      refused = j.refused;
      frames = filter_map-append frame_in j.found more ∙ (ap (λ (l : List Packet). frames_of j.found ++ l) (none_in_row why (take count held.bytes)) ∙ (append-nil (frames_of j.found) ∙ j.frames));
      more = j.more;
      course = j.course;
      tells_it = j.tells_it;
    }

pub judged_refuses : (rules : Rules) (start : Kept) (port : ℕ) (bytes : List ℕ) (run : RelayRun) (held : Held) (size : ℕ) (old new : LinksKept) (scanners : List Held) (queues : List WaitingState) {Watcher : Type 0} (told : Watcher → List Said → Type 0) (first watcher telling : Watcher) → 1 ≤ port → port ≤ rules.ports → IsNextSpan held (Frame size) → IsTested rules port (first_packet held) true old new told watcher telling → Judged rules start port bytes run held (kept_with old scanners queues) told first watcher → Judged rules start port bytes run (consumed size held) (kept_with new scanners queues) told first telling
judged_refuses rules start port bytes run held size old new scanners queues told first watcher telling from to next t j =
    let packet = first_packet held in
    let event = refuses port packet t.answer in
    let later = kept_run rules event new.kept j.now in
    let fewer : length (drop size held.bytes) ≤ length held.bytes = omega (arith, length-drop size held.bytes) in
    let went : Goes rules event j.now.course later.course = record {
      step = record {
        at = (from, to);
        made = subst (λ (k : Kept). HasRoom k new.kept) j.goes_on.holds.so_far.links.kept t.made;
        verdict = record { verdict = t.verdict; kept = kept_by packet.block packet t.answer new.kept t.refuses_it };
        refused = t.refuses_it;
        given = refl;
        links = refl;
      };
      flows = refl;
      told = refl;
    } in
    let more = told_of rules event j.now.course.state.links in
    record {
      found = j.found ++ FrameFound packet ∷ [];
      parsed = next.progress (extras_of rules.known) (has_port rules.plain port) bytes j.found j.parsed;
      fewer = omega (arith, fewer, j.fewer);
      rest = rest_then bytes held.bytes (drop size held.bytes) j.fewer fewer j.rest (rest_dropped held.bytes size next.within);
      now = later;
      goes_on = record {
        is_run = one_more rules j.now.events event (nothing_yet start) j.now.course later.course j.goes_on.is_run went;
        holds = still_holds rules event j.now old new scanners queues t.same.0 t.same.1 t.same.2 j.goes_on.holds;
      };
      tapes = j.tapes;
      since = j.since ++ event ∷ [];
      events = ap (λ (l : List Event). l ++ event ∷ []) j.events ∙ append_assoc run.events j.since (event ∷ []);
      refused = refused_more port j.since (event ∷ []) j.refused (refl, tt);
      frames = filter_map-append frame_in j.found (FrameFound packet ∷ []) ∙ (ap (λ (l : List Packet). l ++ packet ∷ []) j.frames ∙ sym (frames_more j.since (event ∷ [])));
      more = j.more ++ more;
      course = ap (λ (l : List Told). l ++ more) j.course ∙ append_assoc run.course.told j.more more;
      tells_it = tells_then told first watcher telling j.more more j.tells_it t.tells_it;
    }

-- the first frame that would be admitted: the verifier has made room
pub judged_forgets : (rules : Rules) (start : Kept) (port : ℕ) (bytes : List ℕ) (run : RelayRun) (held : Held) (packet : Packet) (old new : LinksKept) (scanners : List Held) (queues : List WaitingState) {Watcher : Type 0} (told : Watcher → List Said → Type 0) (first watcher telling : Watcher) → IsTested rules port packet false old new told watcher telling → Judged rules start port bytes run held (kept_with old scanners queues) told first watcher → Judged rules start port bytes run held (kept_with new scanners queues) told first telling
judged_forgets rules start port bytes run held packet old new scanners queues told first watcher telling t j =
    let later = kept_run rules forgets new.kept j.now in
    let went : Goes rules forgets j.now.course later.course = record {
      step = record {
        made = subst (λ (k : Kept). HasRoom k new.kept) j.goes_on.holds.so_far.links.kept t.made;
        given = refl;
        links = refl;
      };
      flows = refl;
      told = refl;
    } in
    record {
      found = j.found;
      parsed = j.parsed;
      fewer = j.fewer;
      rest = j.rest;
      now = later;
      goes_on = record {
        is_run = one_more rules j.now.events forgets (nothing_yet start) j.now.course later.course j.goes_on.is_run went;
        holds = still_holds rules forgets j.now old new scanners queues t.same.0 t.same.1 t.same.2 j.goes_on.holds;
      };
      tapes = j.tapes;
      since = j.since ++ forgets ∷ [];
      events = ap (λ (l : List Event). l ++ forgets ∷ []) j.events ∙ append_assoc run.events j.since (forgets ∷ []);
      refused = refused_more port j.since (forgets ∷ []) j.refused tt;
      frames = j.frames ∙ sym (frames_more j.since (forgets ∷ []) ∙ append-nil (refused_in j.since));
      more = j.more;
      course = append-nil j.now.course.told ∙ j.course;
      tells_it = λ all h. subst (told telling) (append-nil (all ++ map Framed j.more)) (t.tells_it (all ++ map Framed j.more) (j.tells_it all h));
    }

-- ---- where it begins and ends

-- a scanner of that port's that holds all bytes
abbrev pub all_held : Rules → ℕ → List ℕ → Held
all_held rules port bytes = record { extras = extras_of rules.known; reads_old = has_port rules.plain port; bytes = bytes; ended = false }

pub fed_is : (rules : Rules) (port count : ℕ) (bytes : List ℕ) (now : Held) → length bytes ≤ 65536 → Feeds 65824 (nothing_held (extras_of rules.known) (has_port rules.plain port)) bytes count now → all_held rules port bytes ≡ now
fed_is rules port count bytes now short f = ap (all_held rules port) (sym (all_fit bytes count 0 short (omega arith) f.count)) ∙ sym f.held

pub judged_first : (rules : Rules) (start : Kept) (port : ℕ) (bytes : List ℕ) (run : RelayRun) (view : RelayKept) {Watcher : Type 0} (told : Watcher → List Said → Type 0) (watcher : Watcher) → RunIs rules start run view → Judged rules start port bytes run (all_held rules port bytes) view told watcher watcher
judged_first rules start port bytes run view told watcher is = record {
  found = [];
  parsed = record { same = refl; version = refl; incremental = λ live. refl; final = refl };
  fewer = omega arith;
  rest = rest_whole bytes;
  now = run;
  goes_on = is;
  tapes = refl;
  since = [];
  events = sym (append-nil run.events);
  refused = tt;
  frames = refl;
  more = [];
  course = sym (append-nil run.course.told);
  tells_it = tells_none told watcher;
}

answer_of : (rules : Rules) (port : ℕ) (kept : Kept) (bytes : List ℕ) (held : Held) (span : NextSpan) → next_span held ≡ span → held.bytes ≡ drop (length bytes - length held.bytes) bytes → EndsBy rules port kept held span → Answers rules port kept bytes held (if_frame span (length bytes - length held.bytes))
answer_of rules port kept bytes held (Frame size) e rest ends = (rest, (size, e), ends)
answer_of rules port kept bytes held (Skipped why count) e rest ends = absurd ends
answer_of rules port kept bytes held Need e rest ends = ends

pub has_judged : (rules : Rules) (start : Kept) (port : ℕ) (bytes : List ℕ) (run : RelayRun) (held : Held) (new : RelayKept) {Watcher : Type 0} (told : Watcher → List Said → Type 0) (watcher telling : Watcher) → Judged rules start port bytes run held new told watcher telling → EndsBy rules port new.links.kept held (next_span held) → HasJudged rules start port bytes run new told watcher telling (if_frame (next_span held) (length bytes - length held.bytes))
has_judged rules start port bytes run held new told watcher telling j ends = record {
  held = held;
  judged = j;
  answer = answer_of rules port new.links.kept bytes held (next_span held) refl j.rest ends;
}

-- all was judged from the first byte on
pub judged_all : (rules : Rules) (start : Kept) (port count : ℕ) (bytes : List ℕ) (run : RelayRun) (old new : LinksKept) (fed later : Held) (scanners : List Held) (queues : List WaitingState) {Watcher : Type 0} (told : Watcher → List Said → Type 0) (watcher telling : Watcher) → length bytes ≤ 65536 → Feeds 65824 (nothing_held (extras_of rules.known) (has_port rules.plain port)) bytes count fed → JudgesOn rules port old new fed later told watcher telling → RunIs rules start run (kept_with old scanners queues) → Judged rules start port bytes run later (kept_with new scanners queues) told watcher telling
judged_all rules start port count bytes run old new fed later scanners queues told watcher telling short feeds on is =
    on start bytes run scanners queues watcher
    (subst (λ (h : Held). Judged rules start port bytes run h (kept_with old scanners queues) told watcher watcher) (fed_is rules port count bytes fed short feeds) (judged_first rules start port bytes run (kept_with old scanners queues) told watcher is))
