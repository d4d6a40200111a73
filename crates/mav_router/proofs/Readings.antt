-- How the reading of a port goes on.
use Rattle.std.proofs.Common.{◌≡◌, ◌∙◌, ◌≤◌, ℕ, ◌+◌, ◌-◌, ◌^◌, ◌==◌, arith, Bool, false, true, min, List, [], ◌∷◌, ◌++◌, length, take, drop, slice_range, Some, None, refl, ap, sym, if◌then◌else◌, map, length-append, take-add}
use Rattle.std.proofs.lemmas.List.{append-nil, take-take}
use Rattle.std.proofs.lemmas.List.Elements.{filter_map-append}
use Rattle.std.proofs.lemmas.Grind.{common_steps}
use Rattle.mav_frame.specs.Packet.{Packet}
use Rattle.mav_frame.specs.declared.events.Event.{Event}
use Rattle.mav_frame.specs.declared.events.Event.TheVariants.{Frame}
use Rattle.mav_frame.specs.declared.looks.Why.{Why}
use Rattle.mav_profile.specs.Messages.{extras_of}
use Rattle.mav_stream.specs.Spans.{skipped_for}
use Rattle.link_table.specs.Routing.{has_port}
use Rattle.mav_stream.specs.Held.{Held}
use Rattle.mav_stream.proofs.Steps.{fed_on}
use Rattle.mav_sign.specs.Endpoints.{frames_of, frame_in}
use Rattle.mav_router.specs.declared.entries.Entry.{Entry}
use Rattle.mav_router.specs.Journal.{Rules, frames_from}
use Rattle.mav_router.specs.Runs.{PortProgress, PortWhole, Reading, AllRead, BeginsParse, capped, skips_of, skip_in}
use Rattle.mav_router.specs.Faults.{StopsReading}
use Rattle.mav_router.proofs.Journals.{filter_map_push}

pub from_own : (port : ℕ) (packet : Packet) → (if port == port then Some packet else None) ≡ Some packet
from_own port packet = let e : (port == port) ≡ true = grind (arith, common_steps) in ap (λ (b : Bool). if b then Some packet else None) e

pub frame_read : (rules : Rules) (port : ℕ) (bytes : List ℕ) (held new : Held) (skips : ℕ) (before after : List Entry) (packet : Packet) → (r : Reading rules port bytes held skips before) → PortProgress rules port bytes (r.events ++ Frame packet ∷ []) new → frames_from port after ≡ frames_from port before ++ packet ∷ [] → Reading rules port bytes new skips after
frame_read rules port bytes held new skips before after packet r progress own = record {
  events = r.events ++ Frame packet ∷ [];
  progress = progress;
  entries = own ∙ (ap (λ (l : List Packet). l ++ packet ∷ []) r.entries ∙ sym (filter_map_push frame_in r.events (Frame packet)));
  skipped = r.skipped ∙ ap (λ (l : List ℕ). capped (length l)) (sym (filter_map_push skip_in r.events (Frame packet) ∙ append-nil (skips_of r.events)));
}

-- skipped bytes in a row, of which none is in a frame
skips_in_row : (why : Why) (bytes : List ℕ) → skips_of (map (skipped_for why) bytes) ≡ bytes
skips_in_row why [] = refl
skips_in_row why (byte ∷ bytes) = ap (λ (l : List ℕ). byte ∷ l) (skips_in_row why bytes)

none_in_row : (why : Why) (bytes : List ℕ) → frames_of (map (skipped_for why) bytes) ≡ []
none_in_row why [] = refl
none_in_row why (byte ∷ bytes) = none_in_row why bytes

pub bytes_skipped : (rules : Rules) (port : ℕ) (bytes run : List ℕ) (held new : Held) (skips more count : ℕ) (journal : List Entry) (why : Why) → (r : Reading rules port bytes held skips journal) → PortProgress rules port bytes (r.events ++ map (skipped_for why) run) new → length run ≡ count → more ≡ min (skips + count) (2 ^ 64 - 1) → Reading rules port bytes new more journal
bytes_skipped rules port bytes run held new skips more count journal why r progress long e =
    let events = r.events ++ map (skipped_for why) run in
    let s : skips_of events ≡ skips_of r.events ++ run = filter_map-append skip_in r.events (map (skipped_for why) run) ∙ ap (λ (l : List ℕ). skips_of r.events ++ l) (skips_in_row why run) in
    let l : length (skips_of events) ≡ length (skips_of r.events) + length run = ap length s ∙ length-append (skips_of r.events) run in
    let old = r.skipped in
    record {
      events = events;
      progress = progress;
      entries = r.entries ∙ sym (filter_map-append frame_in r.events (map (skipped_for why) run) ∙ (ap (λ (f : List Packet). frames_of r.events ++ f) (none_in_row why run) ∙ append-nil (frames_of r.events)));
      skipped = omega (arith, l, long, old, e);
    }

-- the first bytes of a buffer, and some of those after them
pub first_and_after : (first count room : ℕ) (buf : List ℕ) → count ≤ room → take (first + count) buf ≡ take first buf ++ take count (slice_range buf first (first + room))
first_and_after first count room buf within =
    take-add first count buf ∙ ap (λ (l : List ℕ). take first buf ++ l) (sym (take-take count (first + room - first) (drop first buf) (omega (arith, within))))

-- only the bytes of what a reader holds change
pub only_bytes : (first held new : Held) (rest : List ℕ) → held ≡ record first { bytes = held.bytes } → new ≡ record held { bytes = rest } → new ≡ record first { bytes = new.bytes }
only_bytes first held new rest same e =
    e ∙ (ap (λ (h : Held). record h { bytes = rest }) same ∙ ap (λ (b : List ℕ). record first { bytes = b }) (sym (ap (λ (h : Held). h.bytes) e)))

-- what a scan left is held by its reader
pub scan_kept : (reader first last new : Held) (bytes rest : List ℕ) → first ≡ record reader { bytes = bytes } → last ≡ record first { bytes = last.bytes } → rest ≡ last.bytes → new ≡ record reader { bytes = rest } → last ≡ new
scan_kept reader first last new bytes rest begins same left kept =
    same ∙ (ap (λ (h : Held). record h { bytes = last.bytes }) begins ∙ (ap (λ (b : List ℕ). record reader { bytes = b }) (sym left) ∙ sym kept))

-- the bytes of a read are put after those held
pub bytes_fed : (rules : Rules) (port : ℕ) (bytes got : List ℕ) (held : Held) (skips : ℕ) (journal : List Entry) → held.ended ≡ false → Reading rules port bytes held skips journal → Reading rules port (bytes ++ got) (record held { bytes = held.bytes ++ got }) skips journal
bytes_fed rules port bytes got held skips journal live r = record {
  events = r.events;
  progress = fed_on (extras_of rules.known) (has_port rules.plain port) bytes r.events held r.progress got live;
  entries = r.entries;
  skipped = r.skipped;
}

-- the reader needs more bytes
pub all_read : (rules : Rules) (port : ℕ) (bytes : List ℕ) (held : Held) (skips : ℕ) (journal : List Entry) → (r : Reading rules port bytes held skips journal) → PortWhole rules port bytes r.events held → AllRead rules port bytes held skips journal
all_read rules port bytes held skips journal r whole = record { reading = r; whole = whole }

-- the events so far are a prefix of the parse of the bytes
pub begins_by : (ended : Bool) (rules : Rules) (port : ℕ) (bytes : List ℕ) (events : List Event) (held : Held) → held.ended ≡ ended → PortProgress rules port bytes events held → BeginsParse ended rules port bytes events held.bytes
begins_by true rules port bytes events held same p = p.final
begins_by false rules port bytes events held same p = p.incremental same

-- the switch didn't take a frame that was found
pub stopped_at : (ended : Bool) (rules : Rules) (port : ℕ) (bytes : List ℕ) (before held : Held) (skips : ℕ) (journal after : List Entry) (packet : Packet) → held.ended ≡ ended → frames_from port after ≡ frames_from port journal → (r : Reading rules port bytes before skips journal) → PortProgress rules port bytes (r.events ++ Frame packet ∷ []) held → StopsReading ended rules port bytes after
stopped_at ended rules port bytes before held skips journal after packet same kept r progress = record {
  frame = packet;
  begun = record {
    events = r.events ++ Frame packet ∷ [];
    rest = held.bytes;
    begins = begins_by ended rules port bytes (r.events ++ Frame packet ∷ []) held same progress;
    entries = ap (λ (l : List Packet). l ++ packet ∷ []) kept ∙ (ap (λ (l : List Packet). l ++ packet ∷ []) r.entries ∙ sym (filter_map_push frame_in r.events (Frame packet)));
  };
}
