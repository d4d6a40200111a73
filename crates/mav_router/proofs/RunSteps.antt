-- How a run goes on at one of its ports.
use Rattle.std.proofs.Common.{◌⊎◌, inl, inr, ◌≡◌, ◌∙◌, ◌<◌, ◌≤◌, ℕ, zero, suc, ◌+◌, ◌-◌, ◌^◌, ◌==◌, arith, Bool, true, false, if◌then◌else◌, List, [], ◌∷◌, ◌++◌, length, set, take, drop, slice_index, append_assoc, take-append-drop, Option, Some, None, refl, ap, sym, subst, slice_get}
use Rattle.std.proofs.lemmas.Option.{slice_get_past}
use Rattle.std.proofs.lemmas.List.{append-nil}
use Rattle.std.proofs.lemmas.List.Elements.{filter_map-append}
use Rattle.std.proofs.lemmas.Grind.{common_steps}
use Rattle.mav_frame.specs.Packet.{Packet}
use Rattle.mav_ports.specs.Counts.{Rose}
use Rattle.mav_links.specs.Links.{LinkState}
use Rattle.mav_router.specs.declared.entries.Entry.{Entry}
use Rattle.mav_router.specs.declared.lane.Lane.{Lane}
use Rattle.mav_router.specs.Journal.{Rules, SwitchState, Grows, frames_from, frame_to, frames_to, given_to, bytes_of}
use Rattle.mav_router.specs.Faults.{AreWhole, PartInput, PartOutput, PartRun, StopsInput, StopsRound, Untaken, beyond_at}
use Rattle.mav_router.proofs.Journals.{element}
use Rattle.mav_router.proofs.Readings.{begins_by}
use Rattle.mav_router.specs.Runs.{FaultsBy, Input, Output, PortSoFar, RunSoFar, IsDrained, HadTurns, AllTurned}

pub get_set_other : {A : Type 0} (xs : List A) (at k : ℕ) (x : A) → (k ≡ at → ⊥) → slice_get (set xs at x) k ≡ slice_get xs k
get_set_other [] at k x apart = refl
get_set_other (y ∷ xs) zero zero x apart = absurd (apart refl)
get_set_other (y ∷ xs) zero (suc k) x apart = refl
get_set_other (y ∷ xs) (suc at) zero x apart = refl
get_set_other (y ∷ xs) (suc at) (suc k) x apart = get_set_other xs at k x (λ e. apart (ap suc e))

some_is : {A : Type 0} (x y : A) → ◌≡◌ {A = Option A} (Some x) (Some y) → x ≡ y
some_is x y e = cc

pub get_set_at : {A : Type 0} (xs : List A) (at : ℕ) (x y : A) → slice_get (set xs at x) at ≡ Some y → x ≡ y
get_set_at [] at x y e = absurd (let wrong : ◌≡◌ {A = Option _} None (Some y) = sym (slice_get_past (set [] at x) at (omega arith)) ∙ e in cc)
get_set_at (z ∷ xs) zero x y e = some_is x y e
get_set_at (z ∷ xs) (suc at) x y e = get_set_at xs at x y e

-- the input of another port
pub input_kept : (rules : Rules) (before after : List Entry) (port : ℕ) (first now : LinkState) (lane : Lane) → frames_from port after ≡ frames_from port before → Input rules before port first now lane → Input rules after port first now lane
input_kept rules before after port first now lane same i =
    let r = i.parsed.reading in
    record {
      bytes = i.bytes;
      turns = i.turns;
      joined = i.joined;
      pieces = i.pieces;
      idles = i.idles;
      turned = i.turned;
      left = i.left;
      read = i.read;
      parsed = record {
        reading = record { events = r.events; progress = r.progress; entries = same ∙ r.entries; skipped = r.skipped };
        whole = i.parsed.whole;
      };
      ended = i.ended;
      spent = i.spent;
      gave_end = i.gave_end;
      faults = i.faults;
    }

pub output_kept : (before after : SwitchState) (port : ℕ) (first now : LinkState) (lane : Lane) → given_to after port ≡ given_to before port → Output (given_to before port) first now lane → Output (given_to after port) first now lane
output_kept before after port first now lane same o = subst (λ (f : List Packet). Output f first now lane) (sym same) o

-- a number is another one, or not
pub same_or : (k at : ℕ) → (k ≡ at) ⊎ (k ≡ at → ⊥)
same_or zero zero = inl refl
same_or zero (suc at) = inr (λ e. omega (arith, e))
same_or (suc k) zero = inr (λ e. omega (arith, e))
same_or (suc k) (suc at) = elim (same_or k at) [ inl e ↦ inl (ap suc e) | inr n ↦ inr (λ e. n (omega (arith, e))) ]

-- a step at one port, that leaves the others as they were
pub run_step : {A : Type 0} (state : A → LinkState) (rules : Rules) (old new : SwitchState) (first : ℕ → LinkState) (links : List A) (lanes : List Lane) (at : ℕ) (link : A) (lane : Lane) → RunSoFar state rules old first links lanes → ((k : ℕ) (l : A) (n : Lane) → (k ≡ at → ⊥) → PortSoFar rules old (k + 1) (first k) (state l) n → PortSoFar rules new (k + 1) (first k) (state l) n) → PortSoFar rules new (at + 1) (first at) (state link) lane → RunSoFar state rules new first (set links at link) (set lanes at lane)
run_step state rules old new first links lanes at link lane run others own k l n is_link is_lane =
    elim (same_or k at) [
      | inl e ↦
          let to_link = get_set_at links at link l (subst (λ (j : ℕ). slice_get (set links at link) j ≡ Some l) e is_link) in
          let to_lane = get_set_at lanes at lane n (subst (λ (j : ℕ). slice_get (set lanes at lane) j ≡ Some n) e is_lane) in
          subst (λ (j : ℕ). PortSoFar rules new (j + 1) (first j) (state l) n) (sym e)
          (subst (λ (x : _). PortSoFar rules new (at + 1) (first at) (state x) n) to_link
          (subst (λ (x : Lane). PortSoFar rules new (at + 1) (first at) (state link) x) to_lane own))
      | inr apart ↦
          others k l n apart (run k l n (sym (get_set_other links at k link apart) ∙ is_link) (sym (get_set_other lanes at k lane apart) ∙ is_lane))
    ]

-- what is given for one port leaves the others as they were
pub drained_step : (old new : SwitchState) (lanes : List Lane) (at : ℕ) (lane : Lane) → new.journal ≡ old.journal → ((other : ℕ) → 1 ≤ other → (other ≡ at + 1 → ⊥) → given_to new other ≡ given_to old other) → (lane.failed ≡ false → given_to new (at + 1) ≡ frames_to (at + 1) new.journal) → ((k : ℕ) → k < at → IsDrained old lanes k) → (k : ℕ) → k < at + 1 → IsDrained new (set lanes at lane) k
drained_step old new lanes at lane journal others own before k within n is fine =
    elim (same_or k at) [
      | inl e ↦
          let to_lane = get_set_at lanes at lane n (subst (λ (j : ℕ). slice_get (set lanes at lane) j ≡ Some n) e is) in
          subst (λ (j : ℕ). given_to new (j + 1) ≡ frames_to (j + 1) new.journal) (sym e)
          (own (subst (λ (x : Lane). x.failed ≡ false) (sym to_lane) fine))
      | inr apart ↦
          others (k + 1) (omega arith) (λ e. apart (omega (arith, e)))
          ∙ (before k (further k at within apart) n (sym (get_set_other lanes at k lane apart) ∙ is) fine ∙ ap (frames_to (k + 1)) (sym journal))
    ]
  where
    further : (k at : ℕ) → k < at + 1 → (k ≡ at → ⊥) → k < at
    further k at w apart = grind (arith)

-- the index of an element is below the length
pub index_within : {A : Type 0} (xs : List A) (k : ℕ) (x : A) → slice_get xs k ≡ Some x → k < length xs
index_within [] k x e = absurd (let wrong : ◌≡◌ {A = Option _} None (Some x) = sym (slice_get_past [] k (omega arith)) ∙ e in cc)
index_within (y ∷ xs) zero x e = omega arith
index_within (y ∷ xs) (suc k) x e = let w = index_within xs k x e in omega (arith, w)

-- a step at one port that changes no count of turns
pub write_turned : (lanes : List Lane) (turns at : ℕ) (new old : Lane) → slice_get lanes at ≡ Some old → AllTurned lanes turns → ((n : ℕ) → HadTurns old n → HadTurns new n) → AllTurned (set lanes at new) turns
write_turned lanes turns at new old is_old before turn k lane is =
    elim (same_or k at) [
      | inl e ↦
          let to_lane = get_set_at lanes at new lane (subst (λ (j : ℕ). slice_get (set lanes at new) j ≡ Some lane) e is) in
          subst (λ (l : Lane). HadTurns l turns) to_lane (turn turns (before at old is_old))
      | inr apart ↦ before k lane (sym (get_set_other lanes at k new apart) ∙ is)
    ]

-- no port had more turns than this
abbrev pub AllWithin : List Lane → ℕ → Type 0
AllWithin lanes most = (k : ℕ) (lane : Lane) → slice_get lanes k ≡ Some lane → lane.turns ≤ most

-- what a port has so far, without what the router keeps of it
pub part_input : (rules : Rules) (journal : List Entry) (most port : ℕ) (first now : LinkState) (lane : Lane) → lane.turns ≤ most → most + 1 < 2 ^ 64 → Input rules journal port first now lane → PartInput rules journal most port [] first now
part_input rules journal most port first now lane within small i = record {
  bytes = i.bytes;
  turns = i.turns;
  pieces = i.pieces;
  joined = i.joined;
  idles = i.idles;
  turned = (let so_far = i.turned in omega (arith, so_far, within, small));
  left = i.left;
  ended = lane.ended;
  begun = record {
    events = i.parsed.reading.events;
    rest = lane.scanner.bytes;
    begins = begins_by lane.ended rules port i.bytes i.parsed.reading.events lane.scanner i.ended i.parsed.reading.progress;
    entries = append-nil (frames_from port journal) ∙ i.parsed.reading.entries;
  };
  spent = i.spent;
}

bytes_joined : (frames more : List Packet) → bytes_of (frames ++ more) ≡ bytes_of frames ++ bytes_of more
bytes_joined frames more = grind (arith, common_steps)

-- what was given for a port, and what is waiting for it
pub given_and_waiting : (switch : SwitchState) (port : ℕ) → bytes_of (frames_to port switch.journal) ≡ bytes_of (given_to switch port) ++ bytes_of (frames_to port (drop (slice_index switch.seen (port - 1)) switch.journal))
given_and_waiting switch port =
    let seen = slice_index switch.seen (port - 1) in
    ap bytes_of (ap (frames_to port) (sym (take-append-drop seen switch.journal)) ∙ filter_map-append (frame_to port) (take seen switch.journal) (drop seen switch.journal))
    ∙ bytes_joined (given_to switch port) (frames_to port (drop seen switch.journal))

-- nothing is left of the frames that were given for a port whose calls didn't fail
whole_unless : (failed : Bool) (first now : LinkState) (frames given more : List Packet) (written rest : List ℕ) → FaultsBy failed first.faults now.faults → (failed ≡ false → rest ≡ []) → written ++ rest ≡ bytes_of given → frames ≡ given ++ more → Rose first.faults now.faults ⊎ AreWhole frames written
whole_unless true first now frames given more written rest faults all front are = inl faults
whole_unless false first now frames given more written rest faults all front are =
    inr (record { done = given; more = more; are = are; same = sym (append-nil written) ∙ (ap (λ (r : List ℕ). written ++ r) (sym (all refl)) ∙ front) })

pub part_output : (switch : SwitchState) (port : ℕ) (first now : LinkState) (lane : Lane) → FaultsBy lane.failed first.faults now.faults → Output (given_to switch port) first now lane → PartOutput (frames_to port switch.journal) first now
part_output switch port first now lane faults o =
    let seen = slice_index switch.seen (port - 1) in
    let more = frames_to port (drop seen switch.journal) in
    let waiting = bytes_of more in
    record {
      whole = whole_unless lane.failed first now (frames_to port switch.journal) (given_to switch port) more o.written o.rest faults o.all o.front
          (ap (frames_to port) (sym (take-append-drop seen switch.journal)) ∙ filter_map-append (frame_to port) (take seen switch.journal) (drop seen switch.journal));
      written = o.written;
      rest = o.rest ++ waiting;
      sent = o.sent;
      front = sym (append_assoc o.written o.rest waiting) ∙ (ap (λ (b : List ℕ). b ++ waiting) o.front ∙ sym (given_and_waiting switch port));
    }

pub part_run : (rules : Rules) (switch : SwitchState) (most port : ℕ) (first now : LinkState) (lane : Lane) → lane.turns ≤ most → most + 1 < 2 ^ 64 → PortSoFar rules switch port first now lane → PartRun rules switch.journal most port [] first now
part_run rules switch most port first now lane within small p = record {
  input = part_input rules switch.journal most port first now lane within small p.input;
  output = part_output switch port first now lane p.input.faults p.output;
}

-- the switch didn't take a frame at one port
pub stopped_round : {A : Type 0} (state : A → LinkState) (rules : Rules) (old new : SwitchState) (first : ℕ → LinkState) (links : List A) (lanes : List Lane) (most at : ℕ) (link : A) (lane : Lane) → length lanes ≡ length links → at < length links → most + 1 < 2 ^ 64 → AllWithin lanes most → lane.turns ≤ most → RunSoFar state rules old first links lanes → Grows (at + 1) old new → Output (given_to new (at + 1)) (first at) (state link) lane → (s : StopsInput rules new.journal lane.turns lane.failed (at + 1) (first at) (state link)) → StopsRound state rules new.journal most first (set links at link)
stopped_round {A} state rules old new first links lanes most at link lane long within small all own_turns run grows out stop =
    let untaken : Untaken = record { port = at + 1; frame = stop.frame } in
    let own : (at + 1 == at + 1) ≡ true = same (at + 1) in
    record {
      untaken = untaken;
      from = omega arith;
      to = omega (arith, within, set_length links at link);
      ports = λ k l is.
          elim (same_or k at) [
            | inl e ↦
                let to_link = get_set_at links at link l (subst (λ (j : ℕ). slice_get (set links at link) j ≡ Some l) e is) in
                subst (λ (j : ℕ). PartRun rules new.journal most (j + 1) (beyond_at (Some untaken) (j + 1)) (first j) (state l)) (sym e)
                (subst (λ (x : A). PartRun rules new.journal most (at + 1) (beyond_at (Some untaken) (at + 1)) (first at) (state x)) to_link
                (subst (λ (b : Bool). PartRun rules new.journal most (at + 1) (if b then stop.frame ∷ [] else []) (first at) (state link)) (sym own)
                (record { input = stop.input most own_turns small; output = part_output new (at + 1) (first at) (state link) lane stop.faults out })))
            | inr apart ↦
                let is_link = sym (get_set_other links at k link apart) ∙ is in
                let other = element lanes k (omega (arith, long, index_within links k l is_link)) in
                let p = run k l other.0 is_link other.1 in
                let not_own : (at + 1 == k + 1) ≡ false = differs (at + 1) (k + 1) (λ e. apart (omega (arith, e))) in
                subst (λ (b : Bool). PartRun rules new.journal most (k + 1) (if b then stop.frame ∷ [] else []) (first k) (state l)) (sym not_own)
                (part_run rules new most (k + 1) (first k) (state l) other.0 (all k other.0 other.1) small (record {
                  input = input_kept rules old.journal new.journal (k + 1) (first k) (state l) other.0 (grows.others (k + 1) (λ e. apart (omega (arith, e)))) p.input;
                  output = output_kept old new (k + 1) (first k) (state l) other.0 (grows.given (k + 1)) p.output;
                }))
          ];
    }
  where
    same : (n : ℕ) → (n == n) ≡ true
    same n = grind (arith, common_steps)

    differs : (m n : ℕ) → (m ≡ n → ⊥) → (m == n) ≡ false
    differs m n apart = grind (arith, common_steps)

    set_length : {A : Type 0} (xs : List A) (i : ℕ) (x : A) → length (set xs i x) ≡ length xs
    set_length xs i x = grind (arith, common_steps)
