-- What `decode` tells of more events, and of all.
use Rattle.std.proofs.Common.{◌≡◌, ℕ, ◌+◌, Bool, true, false, List, [], ◌∷◌, ◌++◌, length, take, drop, map, sym, ap, ◌∙◌, subst, arith, append-nil, Result, Ok, Err, OnOk, OnErr}
use Rattle.std.proofs.lemmas.List.Sums.{sum_by-append}
use Rattle.mav_profile.specs.Messages.{extras_of}
use Rattle.mav_frame.specs.declared.events.Event.{Event}
use Rattle.mav_frame.specs.declared.events.Event.TheVariants.{Frame as FrameEvent}
use Rattle.mav_frame.specs.declared.looks.Why.{Why}
use Rattle.mav_stream.specs.Held.{Held}
use Rattle.mav_stream.specs.Progress.{Progress, IsWhole}
use Rattle.mav_stream.specs.Spans.{first_packet, skipped_for, IsNextSpan}
use Rattle.mav_stream.specs.declared.spans.NextSpan.{NextSpan}
use Rattle.mav_stream.specs.declared.spans.NextSpan.TheVariants.{Frame, Skipped}
use Rattle.mav_text.specs.FrameText.{skip_lines}
use Rattle.decode_command.specs.declared.context.DecodeContext.{DecodeContext}
use Rattle.decode_command.specs.Parsing.{parse_events}
use Rattle.decode_command.specs.Parses.{final_is, incremental_is}
use Rattle.decode_command.specs.DecodeText.{event_size, frames_of, skips_of, event_line, event_lines, lines_from, bytes_in, frames_in, skips_in, counts_line}
use Rattle.decode_command.specs.Decodes.{GaveEvents, Decoding, HasDecoded, HasDecodedAll, decoding_load}
use Rattle.decode_command.specs.Spec.{decode_telling}
use Rattle.decode_command.specs.Tellings.{TellsSpan}
use Rattle.decode_command.proofs.Lines.{lines_more, run_length, run_lines, run_bytes, run_frames, run_skips}
use Rattle.decode_command.proofs.Loads.{fewer_held, decoded_less}
use Rattle.decode_command.proofs.Telling.{untold}

-- the whole parse
pub frames_whole : (extras : List (ℕ × ℕ)) (ended : Bool) (taken : List ℕ) (given : List Event) (held : Held) → held.ended ≡ ended → IsWhole extras true taken given held → given ≡ parse_events extras ended taken
frames_whole extras true taken given held is whole = sym (final_is extras given taken (whole.final is))
frames_whole extras false taken given held is whole = sym (incremental_is extras given held.bytes taken (whole.incremental is))

-- the lines of events more were told
pub decoded_on : (old new : Decoding) (events : List Event) (ended : Bool) (taken told more : List ℕ) → HasDecoded old ended taken told → GaveEvents events old.reader new.reader → new.known ≡ old.known → new.reader.ended ≡ old.reader.ended
    → new.offset ≡ old.offset + bytes_in events → new.frames ≡ old.frames + frames_in events → new.skipped ≡ old.skipped + skips_in events → more ≡ lines_from old.known old.offset events → HasDecoded new ended taken (told ++ more)
decoded_on old new events ended taken told more h gave known still offset frames skipped is =
    let lines : event_lines old.known (h.given ++ events) ≡ told ++ more =
    lines_more old.known h.given events ∙ (λ i. sym h.lines i ++ (ap (λ (n : ℕ). lines_from old.known n events) (sym h.offset) ∙ sym is) i) in
    record {
      given = h.given ++ events;
      is_ended = still ∙ h.is_ended;
      progress = subst (λ (k : DecodeContext). Progress (extras_of k.dialect) true taken (h.given ++ events) new.reader) (sym known) (gave (extras_of old.known.dialect) true taken h.given h.progress);
      offset = omega (arith, offset, h.offset, sum_by-append event_size h.given events);
      frames = omega (arith, frames, h.frames, sum_by-append frames_of h.given events);
      skipped = omega (arith, skipped, h.skipped, sum_by-append skips_of h.given events);
      lines = sym (ap (λ (k : DecodeContext). event_lines k (h.given ++ events)) known ∙ lines);
    }

-- what `decode` does with a span
abbrev pub TellsDecoded : {E : Type 0} → NextSpan → Decoding → Decoding → List ℕ → List ℕ → Result (Unit {0}) E → Type 0
TellsDecoded span old new text longer r = TellsSpan (λ (d : Decoding). decode_telling d.known) HasDecoded (λ (d : Decoding). length d.reader.bytes) decoding_load span old new text longer r

-- a frame's
pub frame_told : {E : Type 0} (old new : Decoding) (size : ℕ) (text longer : List ℕ) (r : Result (Unit {0}) E) → IsNextSpan old.reader (Frame size) → OnOk r (longer ≡ text ++ event_line old.known old.offset (FrameEvent (first_packet old.reader))) → OnErr r (new ≡ old)
    → OnOk r (new ≡ record old { reader = record old.reader { bytes = drop size old.reader.bytes }; offset = old.offset + size; frames = old.frames + 1 }) → TellsDecoded (Frame size) old new text longer r
frame_told old new size text longer (Ok done) at added same is =
    let line : List ℕ = event_line old.known old.offset (FrameEvent (first_packet old.reader)) in
    let events : List Event = FrameEvent (first_packet old.reader) ∷ [] in
    let gone = ap (λ (d : Decoding). d.reader.bytes) is in
    record {
      same = ap (λ (d : Decoding). decode_telling d.known) is;
      load = decoded_less old new size gone at.within (ap (λ (d : Decoding). d.offset) is) (omega (arith, ap (λ (d : Decoding). d.frames) is, ap (λ (d : Decoding). d.skipped) is, at.some));
      told = λ ended taken told h. (
        line,
        added,
        decoded_on old new events ended taken told line h
            (subst (λ (z : Held). GaveEvents events old.reader z) (sym (ap (λ (d : Decoding). d.reader) is)) at.progress)
            (ap (λ (d : Decoding). d.known) is) (ap (λ (d : Decoding). d.reader.ended) is)
            (omega (arith, ap (λ (d : Decoding). d.offset) is, at.frame.0))
            (omega (arith, ap (λ (d : Decoding). d.frames) is)) (omega (arith, ap (λ (d : Decoding). d.skipped) is)) (sym (append-nil line)),
      );
      fewer = fewer_held old.reader.bytes new.reader.bytes size gone at.some at.within;
    }
frame_told old new size text longer (Err fault) at added same is = untold _ HasDecoded _ decoding_load (Frame size) old new text longer fault same

-- that of bytes that are skipped
pub skips_told : {E : Type 0} (old new : Decoding) (why : Why) (count : ℕ) (text longer : List ℕ) (r : Result (Unit {0}) E) → IsNextSpan old.reader (Skipped why count) → OnOk r (longer ≡ text ++ skip_lines old.offset (take count old.reader.bytes) why) → OnErr r (new ≡ old)
    → OnOk r (new ≡ record old { reader = record old.reader { bytes = drop count old.reader.bytes }; offset = old.offset + count; skipped = old.skipped + count }) → TellsDecoded (Skipped why count) old new text longer r
skips_told old new why count text longer (Ok done) at added same is =
    let run = take count old.reader.bytes in
    let events : List Event = map (skipped_for why) run in
    let long = run_length count old.reader.bytes at.within in
    let gone = ap (λ (d : Decoding). d.reader.bytes) is in
    record {
      same = ap (λ (d : Decoding). decode_telling d.known) is;
      load = decoded_less old new count gone at.within (ap (λ (d : Decoding). d.offset) is) (omega (arith, ap (λ (d : Decoding). d.frames) is, ap (λ (d : Decoding). d.skipped) is));
      told = λ ended taken told h. (
        skip_lines old.offset run why,
        added,
        decoded_on old new events ended taken told (skip_lines old.offset run why) h
            (subst (λ (z : Held). GaveEvents events old.reader z) (sym (ap (λ (d : Decoding). d.reader) is)) at.progress)
            (ap (λ (d : Decoding). d.known) is) (ap (λ (d : Decoding). d.reader.ended) is)
            (omega (arith, ap (λ (d : Decoding). d.offset) is, long, run_bytes why run))
            (omega (arith, ap (λ (d : Decoding). d.frames) is, run_frames why run)) (omega (arith, ap (λ (d : Decoding). d.skipped) is, long, run_skips why run)) (run_lines old.known why old.offset run),
      );
      fewer = fewer_held old.reader.bytes new.reader.bytes count gone at.some at.within;
    }
skips_told old new why count text longer (Err fault) at added same is = untold _ HasDecoded _ decoding_load (Skipped why count) old new text longer fault same

-- all were
pub decoded_whole : (d : Decoding) (ended : Bool) (taken told : List ℕ) (h : HasDecoded d ended taken told) → IsWhole (extras_of d.known.dialect) true taken h.given d.reader → HasDecodedAll d ended taken told
decoded_whole d ended taken told h whole = record { has = h; all = frames_whole (extras_of d.known.dialect) ended taken h.given d.reader h.is_ended whole }

pub counts_of_all : (d : Decoding) (taken told : List ℕ) → HasDecodedAll d true taken told → counts_line d.frames d.skipped ≡ (decode_telling d.known).closing taken
counts_of_all d taken told h = λ i. counts_line ((h.has.frames ∙ ap frames_in h.all) i) ((h.has.skipped ∙ ap skips_in h.all) i)
