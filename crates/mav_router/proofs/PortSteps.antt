-- How a port goes on.
use Rattle.std.proofs.Common.{◌≡◌, ◌∙◌, ◌<◌, ◌≤◌, ℕ, ◌+◌, ◌-◌, ◌^◌, arith, Bool, false, true, min, List, [], ◌∷◌, ◌++◌, length, take, drop, Option, Some, None, Ok, Err, OnOk, OnErr, refl, ap, sym, subst, append_assoc, length-append, length-take, take-append-drop}
use Rattle.std.proofs.lemmas.List.{append-nil, drop_all, flat_map_more}
use Rattle.std.proofs.lemmas.List.Concat.{flat_map-append}
use Rattle.std.proofs.lemmas.List.Elements.{All-append, All-cons}
use Rattle.std.proofs.lemmas.List.Sums.{fold-append}
use Rattle.std.specs.Io.KnownBytes.{append_known, prepend_known}
use Rattle.mav_ports.specs.Counts.{Rose, next_count}
use Rattle.mav_ports.specs.Gets.{IsSpent}
use Rattle.mav_ports.proofs.Known.{append_known_twice, prepend_known_twice}
use Rattle.mav_links.specs.Links.{LinkState}
use Rattle.std.specs.declared.result.Result.{Result}
use Rattle.mav_stream.specs.Held.{Held}
use Rattle.mav_frame.specs.Packet.{Packet}
use Rattle.mav_frame.specs.Encoding.{encoding}
use Rattle.mav_router.specs.declared.entries.Entry.{Entry}
use Rattle.mav_router.specs.declared.lane.Lane.{Lane}
use Rattle.mav_router.specs.Journal.{Rules, bytes_of}
use Rattle.mav_router.specs.Outgoing.{Joins, Continues}
use Rattle.mav_router.specs.Faults.{StopsReading, StopsInput}
use Rattle.mav_router.specs.Runs.{PortProgress, Reading, AllRead, Input, Output, FaultsBy, ArePieces, joined_turns, idles_after_turn, idles_over}

-- more frames were written, or a prefix of them
pub frames_written : (frames more : List Packet) (first before after : LinkState) (lane new : Lane) (count : ℕ) (bytes : List ℕ) → Joins bytes more → count ≤ length bytes → after.sent ≡ append_known before.sent (take count bytes) → lane.failed ≡ false → (new.failed ≡ false → length bytes ≤ count) → new.written ≡ min (lane.written + count) (2 ^ 64 - 1) → Output frames first before lane → Output (frames ++ more) first after new
frames_written frames more first before after lane new count bytes is within sent fine whole total o =
    let same : o.written ≡ bytes_of frames = sym (append-nil o.written) ∙ (ap (λ (r : List ℕ). o.written ++ r) (sym (o.all fine)) ∙ o.front) in
    let long : length (o.written ++ take count bytes) ≡ length o.written + length (take count bytes) = length-append o.written (take count bytes) in
    let part = length-take count bytes in
    let short = is.short in
    let before_count = o.count in
    let so_far = o.most in
    let longer = length-append frames more in
    record {
      written = o.written ++ take count bytes;
      rest = drop count bytes;
      sent = sent ∙ (ap (λ (k : Option (List ℕ)). append_known k (take count bytes)) o.sent ∙ append_known_twice first.sent o.written (take count bytes));
      front = append_assoc o.written (take count bytes) (drop count bytes)
          ∙ (ap (λ (r : List ℕ). o.written ++ r) (take-append-drop count bytes ∙ is.are)
          ∙ (ap (λ (w : List ℕ). w ++ bytes_of more) same ∙ sym (flat_map-append encoding frames more)));
      all = λ e. drop_all count bytes (whole e);
      most = omega (arith, long, part, within, short, so_far, longer);
      count = omega (arith, long, part, within, total, before_count);
    }

-- no frame more
pub continues_not : (before : List Packet) → Continues before before []
continues_not before = record {
  frames = [];
  goes = sym (append-nil before);
  joined = record { are = refl; short = omega arith };
}

-- one frame more
pub continues_by : (before after new : List Packet) (packet : Packet) (text longer : List ℕ) → new ≡ after ++ packet ∷ [] → longer ≡ text ++ encoding packet → length longer ≤ length text + 280 → Continues before after text → Continues before new longer
continues_by before after new packet text longer goes is short c =
    let one_more = length-append c.frames (packet ∷ []) in
    let so_far = c.joined.short in
    record {
      frames = c.frames ++ packet ∷ [];
      goes = goes ∙ (ap (λ (f : List Packet). f ++ packet ∷ []) c.goes ∙ append_assoc before c.frames (packet ∷ []));
      joined = record {
        are = is ∙ (ap (λ (b : List ℕ). b ++ encoding packet) c.joined.are ∙ flat_map_more encoding [] c.frames packet);
        short = omega (arith, one_more, so_far, short);
      };
    }

prepend_none : (known : Option (List ℕ)) → prepend_known [] known ≡ known
prepend_none None = refl
prepend_none (Some bytes) = refl

idles_at_bytes : (got : List ℕ) (n : ℕ) → 0 < length got → idles_after_turn n got ≡ n
idles_at_bytes [] n some = absurd (omega (arith, some))
idles_at_bytes (byte ∷ bytes) n some = refl

-- a piece more
pieces_more : (turns : List (List ℕ)) (piece : List ℕ) → ArePieces turns → length piece ≤ 4096 → ArePieces (turns ++ piece ∷ [])
pieces_more turns piece all short =
    let P : List ℕ → Type 0 = λ l. length l ≤ 4096 in
    All-append P turns (piece ∷ []) all (All-cons P piece [] short (λ k d less. absurd (omega (arith, less))))

-- some bytes were read
pub input_read : (rules : Rules) (before after : List Entry) (port : ℕ) (first now new : LinkState) (lane next : Lane) (got : List ℕ) → lane.ended ≡ false → (i : Input rules before port first now lane) → 0 < length got → length got ≤ 4096 → next.turns ≡ min (lane.turns + 1) (2 ^ 64 - 1) → new.idles ≡ now.idles → now.left ≡ prepend_known got new.left → new.faults ≡ now.faults → next.failed ≡ lane.failed → next.ended ≡ lane.ended → next.scanner.ended ≡ lane.scanner.ended → next.read ≡ min (lane.read + length got) (2 ^ 64 - 1) → AllRead rules port (i.bytes ++ got) next.scanner next.skipped after → Input rules after port first new next
input_read rules before after port first now new lane next got live i some few turn idle left faults failed ended scanner read parsed =
    let long = length-append i.bytes got in
    let so_far = i.read in
    let turns_so_far = i.turned in
    let one_more = length-append i.turns (got ∷ []) in
    record {
      bytes = i.bytes ++ got;
      turns = i.turns ++ got ∷ [];
      pieces = pieces_more i.turns got i.pieces few;
      joined = ap (λ (b : List ℕ). b ++ got) i.joined ∙ flat_map_more (λ (piece : List ℕ). piece) [] i.turns got;
      idles = idle ∙ (i.idles ∙ (sym (idles_at_bytes got (idles_over i.turns first.idles) some) ∙ sym (fold-append idles_after_turn first.idles i.turns (got ∷ []))));
      turned = omega (arith, turns_so_far, one_more, turn);
      left = i.left ∙ (ap (prepend_known i.bytes) left ∙ prepend_known_twice new.left i.bytes got);
      read = omega (arith, long, so_far, read);
      parsed = parsed;
      ended = scanner ∙ (i.ended ∙ sym ended);
      spent = λ e. absurd (let wrong : ◌≡◌ {A = Bool} true false = sym e ∙ (ended ∙ live) in cc);
      gave_end = λ e. absurd (let wrong : ◌≡◌ {A = Bool} true false = sym e ∙ (ended ∙ live) in cc);
      faults = subst (λ (n : ℕ). FaultsBy next.failed first.faults n) (sym faults) (subst (λ (b : Bool). FaultsBy b first.faults now.faults) (sym failed) i.faults);
    }

-- no bytes were read
pub input_idle : (rules : Rules) (journal : List Entry) (port : ℕ) (first now new : LinkState) (lane : Lane) (turns : ℕ) → lane.ended ≡ false → Input rules journal port first now lane → turns ≡ min (lane.turns + 1) (2 ^ 64 - 1) → new.idles ≡ next_count now.idles → now.left ≡ prepend_known [] new.left → new.faults ≡ now.faults → Input rules journal port first new (record lane { turns = turns })
input_idle rules journal port first now new lane turns live i turn idle left faults = record {
  bytes = i.bytes;
  turns = i.turns ++ [] ∷ [];
  pieces = pieces_more i.turns [] i.pieces (omega arith);
  joined = i.joined ∙ (sym (append-nil (joined_turns i.turns)) ∙ flat_map_more (λ (piece : List ℕ). piece) [] i.turns []);
  idles = idle ∙ (ap next_count i.idles ∙ sym (fold-append idles_after_turn first.idles i.turns ([] ∷ [])));
  turned = (let so_far = i.turned in let one_more = length-append i.turns ([] ∷ []) in omega (arith, so_far, one_more, turn));
  left = i.left ∙ ap (prepend_known i.bytes) (left ∙ prepend_none new.left);
  read = i.read;
  parsed = i.parsed;
  ended = i.ended;
  spent = λ e. absurd (let wrong : ◌≡◌ {A = Bool} true false = sym e ∙ live in cc);
  gave_end = λ e. absurd (let wrong : ◌≡◌ {A = Bool} true false = sym e ∙ live in cc);
  faults = subst (λ (n : ℕ). FaultsBy lane.failed first.faults n) (sym faults) i.faults;
}

-- the read failed
pub input_failed : (rules : Rules) (journal : List Entry) (port : ℕ) (first now new : LinkState) (lane : Lane) → lane.ended ≡ false → lane.failed ≡ false → Input rules journal port first now lane → new.idles ≡ now.idles → now.left ≡ prepend_known [] new.left → Rose now.faults new.faults → Input rules journal port first new (record lane { failed = true })
input_failed rules journal port first now new lane live fine i idle left rose =
    let same : now.faults ≡ first.faults = subst (λ (b : Bool). FaultsBy b first.faults now.faults) fine i.faults in
    record {
      bytes = i.bytes;
      turns = i.turns;
      joined = i.joined;
      pieces = i.pieces;
      idles = idle ∙ i.idles;
      turned = i.turned;
      left = i.left ∙ ap (prepend_known i.bytes) (left ∙ prepend_none new.left);
      read = i.read;
      parsed = i.parsed;
      ended = i.ended;
      spent = λ e. absurd (let wrong : ◌≡◌ {A = Bool} true false = sym e ∙ live in cc);
      gave_end = λ e. absurd (let wrong : ◌≡◌ {A = Bool} true false = sym e ∙ live in cc);
      faults = subst (λ (n : ℕ). Rose n new.faults) same rose;
    }

-- it has ended
pub input_ended : (rules : Rules) (before after : List Entry) (port : ℕ) (first now new : LinkState) (lane next : Lane) → (i : Input rules before port first now lane) → next.turns ≡ lane.turns → new.idles ≡ now.idles → now.left ≡ prepend_known [] new.left → IsSpent new.left → new.ended ≡ true → new.faults ≡ now.faults → next.failed ≡ lane.failed → next.ended ≡ true → next.scanner.ended ≡ true → next.read ≡ lane.read → AllRead rules port i.bytes next.scanner next.skipped after → Input rules after port first new next
input_ended rules before after port first now new lane next i turn idle left spent gave faults failed ended scanner read parsed = record {
  bytes = i.bytes;
  turns = i.turns;
  joined = i.joined;
  pieces = i.pieces;
  idles = idle ∙ i.idles;
  turned = turn ∙ i.turned;
  left = i.left ∙ ap (prepend_known i.bytes) (left ∙ prepend_none new.left);
  read = read ∙ i.read;
  parsed = parsed;
  ended = scanner ∙ sym ended;
  spent = λ e. spent;
  gave_end = λ e. gave;
  faults = subst (λ (n : ℕ). FaultsBy next.failed first.faults n) (sym faults) (subst (λ (b : Bool). FaultsBy b first.faults now.faults) (sym failed) i.faults);
}

-- what follows where a call succeeded
pub on_ok : {A E P Q : Type 0} (r : Result A E) → (P → Q) → OnOk r P → OnOk r Q
on_ok (Ok a) f p = f p
on_ok (Err e) f p = p

-- the reader was told that its input has ended
pub scanner_ended : (rules : Rules) (port : ℕ) (bytes : List ℕ) (held new : Held) (skips : ℕ) (journal : List Entry) → (r : Reading rules port bytes held skips journal) → PortProgress rules port bytes r.events new → Reading rules port bytes new skips journal
scanner_ended rules port bytes held new skips journal r progress = record { events = r.events; progress = progress; entries = r.entries; skipped = r.skipped }

pub on_err : {A E P Q : Type 0} (r : Result A E) → (P → Q) → OnErr r P → OnErr r Q
on_err (Ok a) f p = p
on_err (Err e) f p = f p

-- a frame among the bytes read wasn't taken
pub stopped_read : (rules : Rules) (before after : List Entry) (port turns : ℕ) (first now new : LinkState) (lane : Lane) (got : List ℕ) (ended : Bool) → ended ≡ false → (i : Input rules before port first now lane) → 0 < length got → length got ≤ 4096 → turns ≡ min (lane.turns + 1) (2 ^ 64 - 1) → new.idles ≡ now.idles → now.left ≡ prepend_known got new.left → new.faults ≡ now.faults → StopsReading ended rules port (i.bytes ++ got) after → StopsInput rules after turns lane.failed port first new
stopped_read rules before after port turns first now new lane got ended live i some few turn idle left faults stop = record {
  frame = stop.frame;
  faults = subst (FaultsBy lane.failed first.faults) (sym faults) i.faults;
  input = λ most within small. record {
    bytes = i.bytes ++ got;
    turns = i.turns ++ got ∷ [];
    pieces = pieces_more i.turns got i.pieces few;
    joined = ap (λ (b : List ℕ). b ++ got) i.joined ∙ flat_map_more (λ (piece : List ℕ). piece) [] i.turns got;
    idles = idle ∙ (i.idles ∙ (sym (idles_at_bytes got (idles_over i.turns first.idles) some) ∙ sym (fold-append idles_after_turn first.idles i.turns (got ∷ []))));
    turned = (let so_far = i.turned in let one_more = length-append i.turns (got ∷ []) in omega (arith, so_far, one_more, turn, within, small));
    left = i.left ∙ (ap (prepend_known i.bytes) left ∙ prepend_known_twice new.left i.bytes got);
    ended = ended;
    begun = stop.begun;
    spent = λ e. absurd (let wrong : ◌≡◌ {A = Bool} true false = sym e ∙ live in cc);
  };
}

pub stopped_ended : (rules : Rules) (before after : List Entry) (port : ℕ) (first now new : LinkState) (lane : Lane) (ended : Bool) → (i : Input rules before port first now lane) → new.idles ≡ now.idles → now.left ≡ prepend_known [] new.left → IsSpent new.left → new.faults ≡ now.faults → StopsReading ended rules port i.bytes after → StopsInput rules after lane.turns lane.failed port first new
stopped_ended rules before after port first now new lane ended i idle left spent faults stop = record {
  frame = stop.frame;
  faults = subst (FaultsBy lane.failed first.faults) (sym faults) i.faults;
  input = λ most within small. record {
    bytes = i.bytes;
    turns = i.turns;
    pieces = i.pieces;
    joined = i.joined;
    idles = idle ∙ i.idles;
    turned = (let so_far = i.turned in omega (arith, so_far, within, small));
    left = i.left ∙ ap (prepend_known i.bytes) (left ∙ prepend_none new.left);
    ended = ended;
    begun = stop.begun;
    spent = λ e. spent;
  };
}
