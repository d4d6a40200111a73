-- How frames are found at a port, before the switch takes them.
use Rattle.std.proofs.Common.{◌≡◌, ◌∙◌, ◌<◌, ◌≢◌, ℕ, ◌==◌, arith, zero, suc, ◌+◌, Bool, true, All, get_or, List, [], ◌∷◌, ◌++◌, length, map, take, Option, refl, ap, sym, append_assoc, append-nil, length-append}
use Rattle.std.proofs.lemmas.Grind.{common_steps}
use Rattle.std.proofs.lemmas.List.{map-append, take_all}
use Rattle.std.proofs.lemmas.List.Elements.{All-append, All-cons}
use Rattle.std.specs.declared.result.Result.{Result}
use mathlib.Core.Logic.{dite}
use native.Mathlib.Decide.{ℕ_discrete}
use Rattle.mav_frame.specs.Packet.{Packet}
use Rattle.mav_links.specs.Links.{LinkState}
use Rattle.mav_stream.specs.Held.{Held}
use Rattle.mav_router.specs.declared.entries.Entry.{Entry}
use Rattle.mav_router.specs.declared.lane.Lane.{Lane}
use Rattle.mav_router.specs.Journal.{Rules, SwitchState, Grows, entry_after, frames_from, given_to}
use Rattle.mav_router.specs.Runs.{Reading, Input}
use Rattle.mav_router.specs.Faults.{StopsReading, StopsInput}
use Rattle.mav_router.specs.Finds.{FindsAll}
use Rattle.mav_router.specs.Found.{Admits, IsJudged, Judged, Keeps, Takes, packets_of}
use Rattle.mav_router.specs.Unheard.{Unheard}
use Rattle.mav_router.proofs.Readings.{from_own}
use Rattle.mav_router.proofs.Seats.{kept_other, kept_own, passes_both, with_first}

-- entries of a port with these frames
abbrev entries_with : Rules → ℕ → List Packet → List Entry
entries_with rules port frames = map (entry_after rules [] port) frames

frames_of_entries : (rules : Rules) (port : ℕ) (frames : List Packet) → frames_from port (entries_with rules port frames) ≡ frames
frames_of_entries rules port [] = refl
frames_of_entries rules port (frame ∷ frames) =
    ap (λ (o : Option Packet). with_first o (frames_from port (entries_with rules port frames))) (from_own port frame) ∙ ap (λ (l : List Packet). frame ∷ l) (frames_of_entries rules port frames)

-- what was read is told by the frames of a port's entries alone
read_alike : (rules : Rules) (port : ℕ) (bytes : List ℕ) (held : Held) (skips : ℕ) (journal after : List Entry) → frames_from port after ≡ frames_from port journal → Reading rules port bytes held skips journal → Reading rules port bytes held skips after
read_alike rules port bytes held skips journal after same r = record { events = r.events; progress = r.progress; entries = same ∙ r.entries; skipped = r.skipped }

-- these frames were found at a port after those of its entries: once the switch takes all of them, so far was read; and if
-- it takes only some, reading stops there
pub record Finds (ended : Bool) (rules : Rules) (port : ℕ) (bytes : List ℕ) (held : Held) (skips : ℕ) (journal : List Entry) (frames : List Packet) : Type 0 where
  pub reads : (after : List Entry) → frames_from port after ≡ frames_from port journal ++ frames → Reading rules port bytes held skips after
  pub stops : (count : ℕ) (after : List Entry) → count < length frames → frames_from port after ≡ frames_from port journal ++ take count frames → StopsReading ended rules port bytes after

pub found_none : (ended : Bool) (rules : Rules) (port : ℕ) (bytes : List ℕ) (held : Held) (skips : ℕ) (journal : List Entry) → Reading rules port bytes held skips journal → Finds ended rules port bytes held skips journal []
found_none ended rules port bytes held skips journal r = record {
  reads = λ after e. read_alike rules port bytes held skips journal after (e ∙ append-nil (frames_from port journal)) r;
  stops = λ count after less e. absurd (omega (arith, less));
}

took_fewer : (count : ℕ) (frames : List Packet) (frame : Packet) → count < length frames → take count (frames ++ frame ∷ []) ≡ take count frames
took_fewer count frames frame less = grind (arith, common_steps)

took_these : (count : ℕ) (frames : List Packet) (frame : Packet) → count ≡ length frames → take count (frames ++ frame ∷ []) ≡ frames
took_these count frames frame same = grind (arith, common_steps)

pub found_more : (ended : Bool) (rules : Rules) (port : ℕ) (bytes : List ℕ) (held new : Held) (skips skips_after : ℕ) (journal : List Entry) (frames : List Packet) (frame : Packet) → ((before after : List Entry) → Reading rules port bytes held skips before → frames_from port after ≡ frames_from port before ++ frame ∷ [] → Reading rules port bytes new skips_after after)
    → ((before after : List Entry) → Reading rules port bytes held skips before → frames_from port after ≡ frames_from port before → StopsReading ended rules port bytes after) → Finds ended rules port bytes held skips journal frames → Finds ended rules port bytes new skips_after journal (frames ++ frame ∷ [])
found_more ended rules port bytes held new skips skips_after journal frames frame found untaken so_far = record {
  reads = λ after e.
      let known = frames_from port journal ++ frames in
      let before = entries_with rules port known in
      let is = frames_of_entries rules port known in
      found before after (so_far.reads before is) (e ∙ (sym (append_assoc (frames_from port journal) frames (frame ∷ [])) ∙ ap (λ (l : List Packet). l ++ frame ∷ []) (sym is)));
  stops = λ count after less e.
      dite (ℕ_discrete count (length frames))
      (λ (same : count ≡ length frames). untaken after after (so_far.reads after (e ∙ ap (λ (l : List Packet). frames_from port journal ++ l) (took_these count frames frame same))) refl)
      (λ (apart : count ≢ length frames).
      let few : count < length frames = let n = length-append frames (frame ∷ []) in omega (arith, less, n, apart) in
      so_far.stops count after few (e ∙ ap (λ (l : List Packet). frames_from port journal ++ l) (took_fewer count frames frame few)));
}

pub packets_more : (frames : List Judged) (judged : Judged) → packets_of (frames ++ judged ∷ []) ≡ packets_of frames ++ judged.frame ∷ []
packets_more frames judged = map-append (λ (j : Judged). j.frame) frames (judged ∷ [])

pub judged_more : (rules : Rules) (frames : List Judged) (judged : Judged) → All (IsJudged rules) frames → IsJudged rules judged → All (IsJudged rules) (frames ++ judged ∷ [])
judged_more rules frames judged before one = All-append (IsJudged rules) frames (judged ∷ []) before (All-cons (IsJudged rules) judged [] one (λ k d less. absurd (omega (arith, less))))

pub keeps_more : (port : ℕ) (before middle after : List Entry) (entry : Entry) (frames : List Packet) → entry.port ≡ port → Keeps port before middle frames → after ≡ middle ++ entry ∷ [] → Keeps port before after (frames ++ entry.frame ∷ [])
keeps_more port before middle after entry frames at k goes = record {
  more = k.more ++ entry ∷ [];
  goes = goes ∙ (ap (λ (l : List Entry). l ++ entry ∷ []) k.goes ∙ append_assoc before k.more (entry ∷ []));
  ports = passes_both (λ (e : Entry). e.port == port) k.more (entry ∷ []) k.ports (labelled entry.port port at, tt);
  took = map-append (λ (e : Entry). e.frame) k.more (entry ∷ []) ∙ ap (λ (l : List Packet). l ++ entry.frame ∷ []) k.took;
}
  where
    labelled : (m n : ℕ) → m ≡ n → (m == n) ≡ true
    labelled m n e = grind (arith, common_steps)

next_is : (frames : List Judged) (at : ℕ) (d : Judged) → at < length frames → take (suc at) (packets_of frames) ≡ take at (packets_of frames) ++ (get_or frames at d).frame ∷ []
next_is [] at d less = absurd (omega (arith, less))
next_is (frame ∷ frames) zero d less = refl
next_is (frame ∷ frames) (suc at) d less = ap (λ (l : List Packet). frame.frame ∷ l) (next_is frames at d (omega (arith, less)))

pub next_packet : (frames : List Judged) (at : ℕ) (d : Judged) → at < length frames → take (at + 1) (packets_of frames) ≡ take at (packets_of frames) ++ (get_or frames at d).frame ∷ []
next_packet frames at d less = let e : at + 1 ≡ suc at = omega arith in ap (λ (n : ℕ). take n (packets_of frames)) e ∙ next_is frames at d less

-- a switch's entries of a port grow by those that it kept
pub grows_by : (port : ℕ) (old new : SwitchState) (frames : List Packet) → new.rules ≡ old.rules → Keeps port old.journal new.journal frames → ((other : ℕ) → given_to new other ≡ given_to old other) → Grows port old new
grows_by port old new frames same k given = record {
  rules = same;
  others = λ other apart. kept_other port other old.journal new.journal frames apart k;
  given = given;
}

-- and so do the frames of the port
pub takes_by : {A E : Type 0} (result : Result A E) (port : ℕ) (before after : List Entry) (frames : List Packet) → Admits result port before after frames → Takes result port before after frames
takes_by result port before after frames a = record {
  count = a.count;
  took = kept_own port before after (take a.count frames) a.kept;
  all = a.all;
  some = a.some;
}

-- there is no memory for the next frame
pub unkept : (ended : Bool) (rules : Rules) (port : ℕ) (bytes : List ℕ) (held : Held) (skips : ℕ) (journal : List Entry) (frames : List Packet) → ((before after : List Entry) → Reading rules port bytes held skips before → frames_from port after ≡ frames_from port before → StopsReading ended rules port bytes after) → Finds ended rules port bytes held skips journal frames → StopsReading ended rules port bytes journal
unkept ended rules port bytes held skips journal [] untaken so_far = untaken journal journal (so_far.reads journal (sym (append-nil (frames_from port journal)))) refl
unkept ended rules port bytes held skips journal (frame ∷ frames) untaken so_far = so_far.stops 0 journal (omega arith) (sym (append-nil (frames_from port journal)))

-- the switch took all frames that were found in what was read at a port
pub heard : {A E : Type 0} (result : Result A E) (rules : Rules) (port : ℕ) (journal after : List Entry) (unread : List ℕ) (first now : LinkState) (lane : Lane) (left : Held) (later : ℕ) (frames : List Packet) → Unheard rules journal port unread first now lane → FindsAll (record lane.scanner { bytes = unread }) lane.skipped left later frames → left.ended ≡ lane.scanner.ended → (t : Takes result port journal after frames) → t.count ≡ length frames → Input rules after port first now (record lane { scanner = left; skipped = later })
heard result rules port journal after unread first now lane left later frames u finds ended t all =
    let whole : take t.count frames ≡ frames = take_all t.count frames (omega (arith, all)) in
    u.heard after left later ended (finds.reads rules port u.bytes journal after u.reading (t.took ∙ ap (λ (l : List Packet). frames_from port journal ++ l) whole))

-- or only some of them
pub unheard : {A E : Type 0} (result : Result A E) (rules : Rules) (port : ℕ) (journal after : List Entry) (unread : List ℕ) (first now : LinkState) (lane : Lane) (left : Held) (later : ℕ) (frames : List Packet) → Unheard rules journal port unread first now lane → FindsAll (record lane.scanner { bytes = unread }) lane.skipped left later frames → (t : Takes result port journal after frames) → t.count < length frames → StopsInput rules after lane.turns lane.failed port first now
unheard result rules port journal after unread first now lane left later frames u finds t some =
    u.stops after (finds.stops rules port u.bytes journal after t.count u.reading some t.took)
