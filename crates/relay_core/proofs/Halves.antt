-- What a step leaves of one link: of what it gave and was heard, and of what goes out and was taken.
use Rattle.std.proofs.Common.{◌≡◌, ◌∙◌, ℕ, ◌+◌, ◌-◌, ◌^◌, min, Bool, false, List, [], ◌∷◌, ◌++◌, length, map, take, refl, sym, ap, subst, arith}
use Rattle.std.proofs.lemmas.List.{append-nil, map-append}
use Rattle.std.proofs.lemmas.List.Elements.{filter_map-append}
use Rattle.mav_frame.specs.Packet.{Packet}
use Rattle.mav_frame.specs.Encoding.{encoding}
use Rattle.mav_frame.specs.Parse.{Incremental, IsIncomplete}
use Rattle.mav_frame.specs.declared.events.Event.TheVariants.{Frame as FrameFound}
use Rattle.mav_frame.proofs.LongerParse.{incremental_ends}
use Rattle.mav_frame.specs.declared.looks.Why.{Why}
use Rattle.mav_profile.specs.Messages.{extras_of}
use Rattle.mav_sign.specs.Endpoints.{frames_of, frame_in}
use Rattle.mav_stream.specs.Held.{Held}
use Rattle.mav_stream.specs.Progress.{Feeds, Progress}
use Rattle.mav_stream.specs.Spans.{IsNextSpan, first_packet, skipped_for}
use Rattle.mav_stream.specs.declared.spans.NextSpan.TheVariants.{Frame, Skipped, Need}
use Rattle.link_table.specs.Routing.{has_port}
use Rattle.mav_router.specs.Journal.{Rules}
use Rattle.relay_queue.specs.Queues.{count_of, next_bytes, pushed}
use Rattle.relay_queue.specs.Deliveries.{Delivers}
use Rattle.relay_queue.proofs.Deliveries.{delivers_closed, delivers_new, delivers_push, delivers_wrote}
use Rattle.relay_core.specs.Flows.{Flow, no_flow}
use Rattle.relay_core.specs.Moves.{gave, no_tape, took}
use Rattle.relay_core.specs.RelayRuns.{Hearing, IsResting, Sending, Tape, WasHeard, WasSent, sent_bytes}
use Rattle.relay_core.specs.Scans.{consumed}
use Rattle.relay_core.specs.Waitings.{WaitingState, counted, lost, nothing_waits, waits, wrote}

-- ---- what is heard

pub none_in_row : (why : Why) (bytes : List ℕ) → frames_of (map (skipped_for why) bytes) ≡ []
none_in_row why [] = refl
none_in_row why (byte ∷ bytes) = none_in_row why bytes

pub hearing_skips : (rules : Rules) (flow : Flow) (tape : Tape) (held : Held) (why : Why) (count : ℕ) → IsNextSpan held (Skipped why count) → Hearing rules flow tape held → Hearing rules flow tape (consumed count held)
hearing_skips rules flow tape held why count next h =
    let more = map (skipped_for why) (take count held.bytes) in
    record {
      found = h.found ++ more;
      parsed = next.progress (extras_of rules.known) (has_port rules.plain flow.port) tape.given h.found h.parsed;
      heard = filter_map-append frame_in h.found more ∙ (ap (λ (l : List Packet). frames_of h.found ++ l) (none_in_row why (take count held.bytes)) ∙ (append-nil (frames_of h.found) ∙ h.heard));
      live = h.live;
    }

pub hearing_frame : (rules : Rules) (flow later : Flow) (tape : Tape) (held : Held) (size : ℕ) → IsNextSpan held (Frame size) → later.port ≡ flow.port → later.heard ≡ flow.heard ++ first_packet held ∷ [] → Hearing rules flow tape held → Hearing rules later tape (consumed size held)
hearing_frame rules flow later tape held size next port more h =
    let found = h.found ++ FrameFound (first_packet held) ∷ [] in
    record {
      found = found;
      parsed = subst (λ (p : ℕ). Progress (extras_of rules.known) (has_port rules.plain p) tape.given found (consumed size held)) (sym port) (next.progress (extras_of rules.known) (has_port rules.plain flow.port) tape.given h.found h.parsed);
      heard = filter_map-append frame_in h.found (FrameFound (first_packet held) ∷ []) ∙ (ap (λ (l : List Packet). l ++ first_packet held ∷ []) h.heard ∙ sym more);
      live = h.live;
    }

pub hearing_kept : (rules : Rules) (flow later : Flow) (tape : Tape) (held : Held) → later.port ≡ flow.port → later.heard ≡ flow.heard → Hearing rules flow tape held → Hearing rules later tape held
hearing_kept rules flow later tape held port same h = record {
  found = h.found;
  parsed = subst (λ (p : ℕ). Progress (extras_of rules.known) (has_port rules.plain p) tape.given h.found held) (sym port) h.parsed;
  heard = h.heard ∙ sym same;
  live = h.live;
}

pub hearing_fed : (rules : Rules) (flow : Flow) (tape : Tape) (held now : Held) (bytes : List ℕ) (count : ℕ) → Feeds 65824 held bytes count now → take count bytes ≡ bytes → Hearing rules flow tape held → Hearing rules flow (gave bytes tape) now
hearing_fed rules flow tape held now bytes count feeds all h = record {
  found = h.found;
  parsed = subst (λ (b : List ℕ). Progress (extras_of rules.known) (has_port rules.plain flow.port) (tape.given ++ b) h.found now) all (feeds.progress (extras_of rules.known) (has_port rules.plain flow.port) tape.given h.found h.live h.parsed);
  heard = h.heard;
  live = ap (λ (s : Held). s.ended) feeds.held ∙ h.live;
}

pub hearing_took : (rules : Rules) (flow : Flow) (tape : Tape) (held : Held) (bytes : List ℕ) → Hearing rules flow tape held → Hearing rules flow (took bytes tape) held
hearing_took rules flow tape held bytes h = record { found = h.found; parsed = h.parsed; heard = h.heard; live = h.live }

pub was_heard : (rules : Rules) (flow : Flow) (tape : Tape) (held : Held) → IsResting held → Hearing rules flow tape held → WasHeard rules flow tape
was_heard rules flow tape held rests h =
    let extras = extras_of rules.known in
    let old = has_port rules.plain flow.port in
    let rest = subst (λ (o : Bool). IsIncomplete extras o held.bytes) h.parsed.version (subst (λ (e : List (ℕ × ℕ)). IsIncomplete e held.reads_old held.bytes) h.parsed.same rests.incomplete) in
    record {
      found = h.found;
      left = held.bytes;
      parsed = incremental_ends extras old h.found held.bytes tape.given (h.parsed.incremental h.live) rest;
      heard = h.heard;
    }

pub was_heard_kept : (rules : Rules) (flow later : Flow) (tape : Tape) → later.port ≡ flow.port → later.heard ≡ flow.heard → WasHeard rules flow tape → WasHeard rules later tape
was_heard_kept rules flow later tape port same h = record {
  found = h.found;
  left = h.left;
  parsed = subst (λ (p : ℕ). Incremental (extras_of rules.known) (has_port rules.plain p) h.found h.left tape.given) (sym port) h.parsed;
  heard = h.heard ∙ sym same;
}

-- at Need nothing but an incomplete frame is held
pub needs_rest : (held : Held) → IsNextSpan held Need → held.ended ≡ false → IsResting held
needs_rest held next live =
    let itself : Progress held.extras held.reads_old held.bytes [] held = record { same = refl; version = refl; incremental = λ e. refl; final = refl } in
    let whole = next.whole held.extras held.reads_old held.bytes [] itself in
    record { incomplete = (whole.incremental live).1; short = next.room }

-- ---- what is sent

counted_more : (n m k : ℕ) → n ≡ min m (2 ^ 64 - 1) → min (n + k) (2 ^ 64 - 1) ≡ min (m + k) (2 ^ 64 - 1)
counted_more n m k e = omega (arith, e)

pub sending_new : (port : ℕ) → Sending (no_flow port) no_tape nothing_waits
sending_new port = record { dropped = 0; delivers = delivers_new; same = refl }

pub sending_push : (flow later : Flow) (tape : Tape) (waiting : WaitingState) (packet : Packet) → later.sent ≡ flow.sent ++ packet ∷ [] → Sending flow tape waiting → Sending later tape (waits (encoding packet) waiting)
sending_push flow later tape waiting packet more s =
    let count = length waiting.queue.waiting + 1 - length (pushed (encoding packet) waiting.queue).waiting in
    let bytes : sent_bytes flow ++ encoding packet ∷ [] ≡ sent_bytes later = sym (map-append encoding flow.sent (packet ∷ [])) ∙ ap (map encoding) (sym more) in
    record {
      dropped = s.dropped + count;
      delivers = subst (λ (all : List (List ℕ)). Delivers all (s.dropped + count) tape.taken (pushed (encoding packet) waiting.queue)) bytes (delivers_push (sent_bytes flow) s.dropped tape.taken (encoding packet) waiting.queue s.delivers);
      same = counted_more waiting.dropped s.dropped count s.same;
    }

pub sending_kept : (flow later : Flow) (tape : Tape) (waiting : WaitingState) → later.sent ≡ flow.sent → Sending flow tape waiting → Sending later tape waiting
sending_kept flow later tape waiting same s = record {
  dropped = s.dropped;
  delivers = subst (λ (all : List Packet). Delivers (map encoding all) s.dropped tape.taken waiting.queue) (sym same) s.delivers;
  same = s.same;
}

pub sending_gave : (flow : Flow) (tape : Tape) (waiting : WaitingState) (bytes : List ℕ) → Sending flow tape waiting → Sending flow (gave bytes tape) waiting
sending_gave flow tape waiting bytes s = record { dropped = s.dropped; delivers = s.delivers; same = s.same }

pub sending_wrote : (flow : Flow) (tape : Tape) (waiting : WaitingState) (count : ℕ) → Sending flow tape waiting → Sending flow (took (take count (next_bytes waiting.queue)) tape) (wrote count waiting)
sending_wrote flow tape waiting count s = record {
  dropped = s.dropped;
  delivers = delivers_wrote (sent_bytes flow) s.dropped tape.taken count waiting.queue s.delivers;
  same = s.same;
}

-- at a close
pub was_sent : (flow : Flow) (tape : Tape) (waiting : WaitingState) → Sending flow tape waiting → (all : ℕ) × WasSent all flow tape × (lost waiting ≡ counted all)
was_sent flow tape waiting s =
    (s.dropped + count_of waiting.queue, delivers_closed (sent_bytes flow) s.dropped tape.taken waiting.queue s.delivers, counted_more waiting.dropped s.dropped (count_of waiting.queue) s.same)

pub was_sent_kept : (dropped : ℕ) (flow later : Flow) (tape : Tape) → later.sent ≡ flow.sent → WasSent dropped flow tape → WasSent dropped later tape
was_sent_kept dropped flow later tape same w = subst (λ (all : List Packet). WasSent dropped (record { port = later.port; heard = later.heard; sent = all }) tape) (sym same) w
