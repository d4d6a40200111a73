-- What the threads of all ports did together, once their seats are back.
use Rattle.std.proofs.Common.{All, ◌⊎◌, inl, inr, ◌≡◌, ◌∙◌, ◌<◌, ◌≤◌, ℕ, zero, suc, ◌+◌, ◌^◌, ◌-◌, ◌==◌, arith, Bool, true, false, if◌then◌else◌, List, [], ◌∷◌, ◌++◌, length, map, take, replicate, get_or, filter, sum_by, slice_get, slice_index, option_map, Option, Some, None, IsSome, refl, ap, sym, subst}
use Rattle.std.proofs.lemmas.List.Sums.{sum_by-cons}
use Rattle.std.proofs.lemmas.List.{get_or-replicate, length-map}
use Rattle.std.proofs.lemmas.Option.{get_or_from_slice_get, slice_get_past, slice_get-map}
use Rattle.std.specs.List.{cons_option}
use mathlib.Core.List.{IsPrefix}
use Rattle.turnstile.specs.Journals.{StandAt}
use Rattle.turnstile.specs.Labels.{EachPasses, summed}
use Rattle.turnstile.specs.Merging.{Continues}
use Rattle.turnstile.specs.Participants.{Lock, Participant, opened}
use Rattle.turnstile.proofs.Labels.{each_label}
use Rattle.turnstile.proofs.OwnEntries.{stands_longer}
use Rattle.mav_frame.specs.Packet.{Packet}
use Rattle.mav_links.specs.Links.{LinkState}
use Rattle.mav_sign.specs.Streams.{listed}
use Rattle.mav_router.specs.declared.entries.Entry.{Entry}
use Rattle.mav_router.specs.declared.entries.SwitchFault.{SwitchFault}
use Rattle.mav_router.specs.declared.entries.SwitchFault.TheVariants.{Full, NoMemory}
use Rattle.mav_router.specs.declared.history.SwitchEvent.{SwitchEvent}
use Rattle.mav_router.specs.declared.history.SwitchEvent.TheVariants.{Opened, Admitted}
use Rattle.mav_router.specs.declared.lane.Lane.{Lane}
use Rattle.mav_router.specs.declared.parts.Halt.{Halt}
use Rattle.mav_router.specs.declared.parts.Halt.TheVariants.{Done, Stopped, Fault}
use Rattle.mav_router.specs.declared.parts.Part.{Part}
use Rattle.mav_router.specs.declared.parts.Side.{Side}
use Rattle.mav_router.specs.Crews.{HasFault}
use Rattle.mav_router.specs.Journal.{Rules, SwitchState, frame_from, frames_from, frames_to, given_to}
use Rattle.mav_router.specs.History.{history_of, entries_in, label_of}
use Rattle.mav_router.specs.Runs.{Input, Output, FaultsBy, HadTurns, IsFresh}
use Rattle.mav_router.specs.Ends.{PortRun, end_by}
use Rattle.mav_router.specs.Faults.{IsSwitchFault, PartOutput, PartRun, RouteHalted, HaltedBy}
use Rattle.mav_router.specs.Parts.{IsSeated, IsReady, PartSoFar, PartStopped, PartEnds}
use Rattle.mav_router.proofs.Journals.{element}
use Rattle.mav_router.proofs.PartSteps.{output_longer, within_longer}
use Rattle.mav_router.proofs.PortEnds.{port_at_start, port_at_end}
use Rattle.mav_router.proofs.RunSteps.{input_kept, index_within, part_input, part_output}
use Rattle.mav_router.proofs.Seats.{begins_with, entries_in_history}

none_some : {A B : Type 0} (x : A) → ◌≡◌ {A = Option A} None (Some x) → B
none_some x e = absurd cc

some_is : {A : Type 0} (x y : A) → ◌≡◌ {A = Option A} (Some x) (Some y) → x ≡ y
some_is x y e = cc

-- the seat of a thread added these entries, at these positions
abbrev own_at : List (Participant SwitchEvent) → ℕ → List SwitchEvent
own_at [] k = []
own_at (seat ∷ seats) zero = seat.own
own_at (seat ∷ seats) (suc k) = own_at seats k

abbrev places_at : List (Participant SwitchEvent) → ℕ → List ℕ
places_at [] k = []
places_at (seat ∷ seats) zero = seat.positions
places_at (seat ∷ seats) (suc k) = places_at seats k

-- the same by the labels: 0 for the opening, and then the ports
abbrev owner : Rules → List (Participant SwitchEvent) → ℕ → List SwitchEvent
owner rules seats zero = Opened rules ∷ []
owner rules seats (suc k) = own_at seats k

abbrev places : List (Participant SwitchEvent) → ℕ → List ℕ
places seats zero = 0 ∷ []
places seats (suc k) = places_at seats k

-- seat k's entries pass the test for this label, and stand in the history
its_own : (P : List ℕ → List SwitchEvent → Type 0) (seats : List (Participant SwitchEvent)) (k : ℕ) (s : Participant SwitchEvent) → slice_get seats k ≡ Some s → P s.positions s.own → P (places_at seats k) (own_at seats k)
its_own P [] k s is holds = none_some s (sym (slice_get_past [] k (omega arith)) ∙ is)
its_own P (seat ∷ seats) zero s is holds = subst (λ (x : Participant SwitchEvent). P x.positions x.own) (sym (some_is seat s is)) holds
its_own P (seat ∷ seats) (suc k) s is holds = its_own P seats k s is holds

summed_first : (n : ℕ) (f : ℕ → ℕ) → summed (suc n) f ≡ f 0 + summed n (λ i. f (suc i))
summed_first zero f = omega arith
summed_first (suc n) f = let r = summed_first n f in omega (arith, r)

summed_own : (seats : List (Participant SwitchEvent)) → summed (length seats) (λ i. length (own_at seats i)) ≡ sum_by (λ (s : Participant SwitchEvent). length s.own) seats
summed_own [] = refl
summed_own (seat ∷ seats) =
    let first = summed_first (length seats) (λ i. length (own_at (seat ∷ seats) i)) in
    let rest = summed_own seats in
    let sum = sum_by-cons (λ (s : Participant SwitchEvent). length s.own) seat seats in
    omega (arith, first, rest, sum)

-- the frames of a port are in the entries with its label
frames_labelled : (port : ℕ) (history : List SwitchEvent) → frames_from port (entries_in (filter (λ e. label_of e == port) history)) ≡ frames_from port (entries_in history)
frames_labelled port [] = refl
frames_labelled port (Opened rules ∷ history) = by (0 == port) (frames_labelled port history)
  where
    by : (own : Bool) → frames_from port (entries_in (filter (λ e. label_of e == port) history)) ≡ frames_from port (entries_in history) → frames_from port (entries_in (if own then Opened rules ∷ filter (λ e. label_of e == port) history else filter (λ e. label_of e == port) history)) ≡ frames_from port (entries_in history)
    by true rest = rest
    by false rest = rest
frames_labelled port (Admitted entry ∷ history) = by (entry.port == port) refl (frames_labelled port history)
  where
    by : (own : Bool) → (entry.port == port) ≡ own → frames_from port (entries_in (filter (λ e. label_of e == port) history)) ≡ frames_from port (entries_in history) → frames_from port (entries_in (if own then Admitted entry ∷ filter (λ e. label_of e == port) history else filter (λ e. label_of e == port) history)) ≡ frames_from port (entries_in (Admitted entry ∷ history))
    by true e rest = ap (cons_option (frame_from port entry)) rest
    by false e rest = rest ∙ ap (λ (b : Bool). cons_option (if b then Some entry.frame else None) (frames_from port (entries_in history))) (sym e)

-- the journal's entries of a port are those of its seat, and it begins with all that the seat has seen
pub seat_frames : (lock : Lock SwitchEvent) (rules : Rules) (seats : List (Participant SwitchEvent)) (journal : List Entry) → ((k : ℕ) (s : Participant SwitchEvent) → slice_get seats k ≡ Some s → IsSeated lock rules (k + 1) s) → All (Continues (history_of rules journal)) seats → length (history_of rules journal) ≡ 1 + sum_by (λ (s : Participant SwitchEvent). length s.own) seats → (k : ℕ) (s : Participant SwitchEvent) → slice_get seats k ≡ Some s → (frames_from (k + 1) journal ≡ frames_from (k + 1) (entries_in s.own)) × IsPrefix (entries_in s.seen) journal
seat_frames lock rules seats journal seated begins whole k s is =
    let history = history_of rules journal in
    let switch : SwitchState = record { rules = rules; journal = journal; seen = [] } in
    let within = index_within seats k s is in
    let total = summed_first (length seats) (λ i. length (owner rules seats i)) in
    let rest = summed_own seats in
    let label_own = each_label history label_of (suc (length seats)) (owner rules seats) (places seats) stands (omega (arith, whole, total, rest)) (suc k) (omega (arith, within)) in
    let own = its_own (λ _ (o : List SwitchEvent). o ≡ s.own) seats k s is refl in
    let labelled = ap (frames_from (suc k)) (sym (entries_in_history rules journal)) ∙ (sym (frames_labelled (suc k) history) ∙ ap (λ (es : List SwitchEvent). frames_from (suc k) (entries_in es)) (label_own ∙ own)) in
    let journal_of : frames_from (k + 1) journal ≡ frames_from (k + 1) (entries_in s.own) = subst (λ (n : ℕ). frames_from n journal ≡ frames_from n (entries_in s.own)) (sym (one_more k)) labelled in
    (journal_of, (begins_with rules s.seen switch (seated k s is).history (continues k s is)).1)
  where
    continues : (j : ℕ) (t : Participant SwitchEvent) → slice_get seats j ≡ Some t → IsPrefix t.seen (history_of rules journal)
    continues j t there = subst (λ (x : Participant SwitchEvent). IsPrefix x.seen (history_of rules journal)) (get_or_from_slice_get seats j t t there) (begins j t (index_within seats j t there))

    one_more : (j : ℕ) → j + 1 ≡ suc j
    one_more j = omega arith

    stands : (i : ℕ) → i < suc (length seats) → StandAt (history_of rules journal) 0 (places seats i) (owner rules seats i) × EachPasses (λ e. label_of e == i) (owner rules seats i)
    stands zero l = ((omega arith, refl, tt), (refl, tt))
    stands (suc j) l =
        let there = element seats j (omega (arith, l)) in
        let seat = seated j there.0 there.1 in
        let longer = continues j there.0 there.1 in
        its_own (λ (ks : List ℕ) (es : List SwitchEvent). StandAt (history_of rules journal) 0 ks es × EachPasses (λ e. label_of e == suc j) es) seats j there.0 there.1
        (subst (λ (h : List SwitchEvent). StandAt h 0 there.0.positions there.0.own) longer.1 (stands_longer there.0.seen longer.0 0 there.0.positions there.0.own seat.own), subst (λ (n : ℕ). EachPasses (λ e. label_of e == n) there.0.own) (one_more j) seat.labels)

-- the same of parts
pub own_frames : {A : Type 0} (lock : Lock SwitchEvent) (rules : Rules) (parts : List (Part A)) (journal : List Entry) → ((k : ℕ) (p : Part A) → slice_get parts k ≡ Some p → (p.port ≡ k + 1) × IsReady lock rules p) → All (Continues (history_of rules journal)) (map (λ (p : Part A). p.seat) parts) → length (history_of rules journal) ≡ 1 + sum_by (λ (s : Participant SwitchEvent). length s.own) (map (λ (p : Part A). p.seat) parts) → (k : ℕ) (p : Part A) → slice_get parts k ≡ Some p → (frames_from (k + 1) journal ≡ frames_from (k + 1) (entries_in p.seat.own)) × IsPrefix (entries_in p.seat.seen) journal
own_frames {A} lock rules parts journal ready begins whole k p is =
    seat_frames lock rules (map (λ (p : Part A). p.seat) parts) journal
    (λ j s there.
    let mapped = seat_of parts j s there in
    let r = ready j mapped.0 mapped.1 in
    subst (λ (x : Participant SwitchEvent). IsSeated lock rules (j + 1) x) mapped.2 (subst (λ (n : ℕ). IsSeated lock rules n mapped.0.seat) r.0 r.1.seated))
    begins whole k p.seat (slice_get-map (λ (p : Part A). p.seat) parts k ∙ ap (option_map (λ (p : Part A). p.seat)) is)
  where
    seat_of : (parts : List (Part A)) (k : ℕ) (s : Participant SwitchEvent) → slice_get (map (λ (p : Part A). p.seat) parts) k ≡ Some s → (p : Part A) × (slice_get parts k ≡ Some p) × (p.seat ≡ s)
    seat_of [] k s e = none_some s (sym (slice_get_past [] k (omega arith)) ∙ e)
    seat_of (p ∷ parts) zero s e = (p, refl, some_is p.seat s e)
    seat_of (p ∷ parts) (suc k) s e = seat_of parts k s e

-- a switch of which so many entries were looked through for the port
abbrev taken_as : Rules → List Entry → ℕ → ℕ → SwitchState
taken_as rules journal port taken = record { rules = rules; journal = journal; seen = replicate (port + 1) taken }

given_as : (rules : Rules) (journal : List Entry) (port taken : ℕ) → given_to (taken_as rules journal port taken) port ≡ frames_to port (take taken journal)
given_as rules journal port taken = ap (λ (n : ℕ). frames_to port (take n journal)) (get_or-replicate (port + 1) (port - 1) taken 0 (omega arith))

part_output_of : (rules : Rules) (journal seen : List Entry) (port taken : ℕ) (first now : LinkState) (lane : Lane) → taken ≤ length seen → IsPrefix seen journal → FaultsBy lane.failed first.faults now.faults → Output (frames_to port (take taken seen)) first now lane → PartOutput (frames_to port journal) first now
part_output_of rules journal seen port taken first now lane within begins faults o =
    part_output (taken_as rules journal port taken) port first now lane faults
    (subst (λ (f : List Packet). Output f first now lane) (sym (given_as rules journal port taken)) (output_longer port taken seen journal first now lane within begins o))

none_taken : (port n : ℕ) → frames_to port (take n []) ≡ []
none_taken port zero = refl
none_taken port (suc n) = refl

-- a port whose thread had no fault, at the end of the run
pub port_run : (rules : Rules) (own journal : List Entry) (port taken : ℕ) (first now : LinkState) (lane : Lane) (turns : ℕ) → turns ≤ 1000000000 → length journal ≤ 1000000 → Input rules own port first now lane → frames_from port journal ≡ frames_from port own → Output (frames_to port (take taken journal)) first now lane → (lane.failed ≡ false → frames_to port (take taken journal) ≡ frames_to port journal) → HadTurns lane turns → PortRun rules journal turns port first now (end_by lane turns)
port_run rules own journal port taken first now lane turns few small i same o drained turned =
    let given = given_as rules journal port taken in
    port_at_end rules (taken_as rules journal port taken) journal port first now lane (end_by lane turns) turns few small refl refl
    (record { input = input_kept rules own journal port first now lane same i; output = subst (λ (f : List Packet). Output f first now lane) (sym given) o })
    (λ fine. given ∙ drained fine) turned

-- the same, from the part at the end of its thread, and its side after all that was left was written
pub part_done : {A : Type 0} (state : A → LinkState) (rules : Rules) (turns : ℕ) (journal : List Entry) (first : LinkState) (part : Part A) (side : Side A) → turns ≤ 1000000000 → length journal ≤ 1000000 → part.side.taken ≤ length (entries_in part.seat.seen) → IsPrefix (entries_in part.seat.seen) journal → frames_from part.port journal ≡ frames_from part.port (entries_in part.seat.own) → PartEnds Done state rules turns first part → (Input rules (entries_in part.seat.own) part.port first (state part.side.link) part.side.lane → Input rules (entries_in part.seat.own) part.port first (state side.link) side.lane) → (Output (frames_to part.port (take part.side.taken journal)) first (state part.side.link) part.side.lane → Output (frames_to part.port (take side.taken journal)) first (state side.link) side.lane) → (HadTurns part.side.lane turns → HadTurns side.lane turns) → (side.lane.failed ≡ false → frames_to part.port (take side.taken journal) ≡ frames_to part.port journal) → PortRun rules journal turns part.port first (state side.link) (end_by side.lane turns)
part_done state rules turns journal first part side few small within begins same p input output turned drained =
    port_run rules (entries_in part.seat.own) journal part.port side.taken first (state side.link) side.lane turns few small
    (input p.0.input) same
    (output (output_longer part.port part.side.taken (entries_in part.seat.seen) journal first (state part.side.link) part.side.lane within begins p.0.output))
    drained (turned p.1)

-- a port of a run that stopped, where the thread had no fault
pub part_run_so_far : {A : Type 0} (state : A → LinkState) (rules : Rules) (most : ℕ) (journal : List Entry) (first : LinkState) (part : Part A) → part.side.lane.turns ≤ most → most + 1 < 2 ^ 64 → part.side.taken ≤ length (entries_in part.seat.seen) → IsPrefix (entries_in part.seat.seen) journal → frames_from part.port journal ≡ frames_from part.port (entries_in part.seat.own) → PartSoFar state rules first part → PartRun rules journal most part.port [] first (state part.side.link)
part_run_so_far state rules most journal first part few small within begins same p = record {
  input = part_input rules journal most part.port first (state part.side.link) part.side.lane few small (input_kept rules (entries_in part.seat.own) journal part.port first (state part.side.link) part.side.lane same p.input);
  output = part_output_of rules journal (entries_in part.seat.seen) part.port part.side.taken first (state part.side.link) part.side.lane within begins p.input.faults p.output;
}

-- where the switch didn't take a frame
pub part_run_stopped : {A : Type 0} (state : A → LinkState) (rules : Rules) (most : ℕ) (journal : List Entry) (first : LinkState) (part : Part A) → part.side.lane.turns ≤ most → most + 1 < 2 ^ 64 → part.side.taken ≤ length (entries_in part.seat.seen) → IsPrefix (entries_in part.seat.seen) journal → frames_from part.port journal ≡ frames_from part.port (entries_in part.seat.own) → PartStopped state rules first part → (frame : Option Packet) × IsSome frame × PartRun rules journal most part.port (listed frame) first (state part.side.link)
part_run_stopped state rules most journal first part few small within begins same p =
    let s = p.input in
    let i = s.input most few small in (
      Some s.frame,
      refl,
      record {
        input = record {
          bytes = i.bytes;
          turns = i.turns;
          pieces = i.pieces;
          joined = i.joined;
          idles = i.idles;
          turned = i.turned;
          left = i.left;
          ended = i.ended;
          begun = record { events = i.begun.events; rest = i.begun.rest; begins = i.begun.begins; entries = ap (λ (l : List Packet). l ++ s.frame ∷ []) same ∙ i.begun.entries };
          spent = i.spent;
        };
        output = part_output_of rules journal (entries_in part.seat.seen) part.port part.side.taken first (state part.side.link) part.side.lane within begins s.faults p.output;
      },
    )

-- and however it ended
pub part_run_ended : {A : Type 0} (halt : Halt) (state : A → LinkState) (rules : Rules) (turns : ℕ) (journal : List Entry) (first : LinkState) (part : Part A) → turns + 1 < 2 ^ 64 → part.side.taken ≤ length (entries_in part.seat.seen) → IsPrefix (entries_in part.seat.seen) journal → frames_from part.port journal ≡ frames_from part.port (entries_in part.seat.own) → PartEnds halt state rules turns first part → (frame : Option Packet) × PartRun rules journal turns part.port (listed frame) first (state part.side.link) × ((why : SwitchFault) → halt ≡ Fault why → IsSome frame)
part_run_ended Done state rules turns journal first part small within begins same p = (None, part_run_so_far state rules turns journal first part p.1.most small within begins same p.0, λ why e. absurd cc)
part_run_ended Stopped state rules turns journal first part small within begins same p = (None, part_run_so_far state rules turns journal first part p.1 small within begins same p.0, λ why e. absurd cc)
part_run_ended (Fault fault) state rules turns journal first part small within begins same p =
    let s = part_run_stopped state rules turns journal first part p.1.1 small within begins same p.0 in
    (s.0, s.2, λ why e. s.1)

-- a switch that was full is still full
pub full_is_full : (why : SwitchFault) (seen journal : List Entry) → IsPrefix seen journal → length journal ≤ 1000000 → IsSwitchFault why seen → IsSwitchFault why journal
full_is_full NoMemory seen journal begins small is = tt
full_is_full (Full entries) seen journal begins small is = (is.0, (let long = within_longer 1000000 seen journal (omega (arith, is.1)) begins in omega (arith, long, small)))

-- a part before its thread
pub part_ready : {A : Type 0} (lock : Lock SwitchEvent) (rules : Rules) (part : Part A) → part.seat ≡ opened lock.id (history_of rules []) → 1 ≤ part.port → part.port ≤ rules.ports → rules.ports ≤ 8 → part.side.taken ≡ 0 → IsReady lock rules part
part_ready lock rules part new from to few none = record {
  seated = subst (λ (s : Participant SwitchEvent). IsSeated lock rules part.port s) (sym new) (record {
    enters = record { of = refl; outside = refl };
    own = tt;
    history = refl;
    labels = tt;
  });
  from = from;
  to = to;
  few = few;
  taken = omega (arith, none);
}

pub part_starts : {A : Type 0} (state : A → LinkState) (lock : Lock SwitchEvent) (rules : Rules) (part : Part A) → part.seat ≡ opened lock.id (history_of rules []) → IsFresh rules part.port part.side.lane → PartSoFar state rules (state part.side.link) part
part_starts state lock rules part new fresh =
    let first = state part.side.link in
    let lane = part.side.lane in
    let own : entries_in part.seat.own ≡ [] = ap (λ (s : Participant SwitchEvent). entries_in s.own) new in
    let seen : entries_in part.seat.seen ≡ [] = ap (λ (s : Participant SwitchEvent). entries_in s.seen) new in
    let start = port_at_start rules (record { rules = rules; journal = []; seen = [] }) part.port first lane refl (none_taken part.port (slice_index [] (part.port - 1))) fresh in
    record {
      input = subst (λ (j : List Entry). Input rules j part.port first first lane) (sym own) start.input;
      output = subst (λ (f : List Packet). Output f first first lane) (none_taken part.port (slice_index [] (part.port - 1)) ∙ sym (ap (λ (j : List Entry). frames_to part.port (take part.side.taken j)) seen ∙ none_taken part.port part.side.taken)) start.output;
    }

-- one value for each of the first n, in a list
each_chosen : {X : Type 0} (d : X) (n : ℕ) (P : ℕ → X → Type 0) → ((k : ℕ) → k < n → (x : X) × P k x) → (xs : List X) × ((k : ℕ) → k < n → P k (get_or xs k d))
each_chosen d zero P each = ([], λ k l. absurd (omega (arith, l)))
each_chosen {X} d (suc n) P each =
    let first = each 0 (omega arith) in
    let rest = each_chosen d n (λ k. P (suc k)) (λ k l. each (suc k) (omega (arith, l))) in
    (first.0 ∷ rest.0, at first.0 rest.0 first.1 rest.1)
  where
    at : (x : X) (xs : List X) → P 0 x → ((k : ℕ) → k < n → P (suc k) (get_or xs k d)) → (k : ℕ) → k < suc n → P k (get_or (x ∷ xs) k d)
    at x xs first rest zero l = first
    at x xs first rest (suc k) l = rest k (omega (arith, l))

-- the run of a port with a frame that wasn't taken, or with none, which can't be after a fault
abbrev pub HaltsWith : {A : Type 0} → (A → LinkState) → Rules → ℕ → SwitchFault → List Entry → List A → List A → List (Side A) → ℕ → Option Packet → Type 0
HaltsWith {A} state rules most why journal before after sides k frame =
    ((b c : A) → slice_get before k ≡ Some b → slice_get after k ≡ Some c → PartRun rules journal most (k + 1) (listed frame) (state b) (state c))
    × ((side : Side A) → slice_get sides k ≡ Some side → side.halt ≡ Fault why → IsSome frame)

-- a run stopped at one of the ports, or memory was out
pub halted_together : {A : Type 0} (state : A → LinkState) (rules : Rules) (most : ℕ) (why : SwitchFault) (journal : List Entry) (before after : List A) (sides : List (Side A)) → length sides ≡ length before → ((k : ℕ) → k < length before → (frame : Option Packet) × HaltsWith state rules most why journal before after sides k frame) → ((why ≡ NoMemory) ⊎ (HasFault sides why × IsSwitchFault why journal)) → RouteHalted state rules most why journal before after
halted_together {A} state rules most why journal before after sides long each fault =
    let chosen = each_chosen {X = Option Packet} None (length before) (HaltsWith state rules most why journal before after sides) each in
    record {
      untaken = λ port. get_or chosen.0 (port - 1) None;
      cause = elim fault [
        | inl e ↦ subst (λ (f : SwitchFault). HaltedBy f (λ port. get_or chosen.0 (port - 1) None) (length before) journal) (sym e) tt
        | inr f ↦
            let within : f.0.at < length before = omega (arith, long, index_within sides f.0.at f.0.side f.0.there) in
            caused why (λ port. get_or chosen.0 (port - 1) None) f.0.at within f.1 (subst (λ (k : ℕ). IsSome (get_or chosen.0 k None)) (sym (before_next f.0.at)) ((chosen.1 f.0.at within).1 f.0.side f.0.there f.0.fault))
      ];
      ports = λ k b c is_b is_c.
          subst (λ (j : ℕ). PartRun rules journal most (k + 1) (listed (get_or chosen.0 j None)) (state b) (state c)) (sym (before_next k)) ((chosen.1 k (index_within before k b is_b)).0 b c is_b is_c);
    }
  where
    before_next : (k : ℕ) → k + 1 - 1 ≡ k
    before_next k = omega arith

    caused : (why : SwitchFault) (untaken : ℕ → Option Packet) (at : ℕ) → at < length before → IsSwitchFault why journal → IsSome (untaken (at + 1)) → HaltedBy why untaken (length before) journal
    caused NoMemory untaken at within is some = tt
    caused (Full entries) untaken at within is some = (is.0, is.1, (at + 1, omega arith, omega (arith, within), some))

-- the same from the parts at the end of their threads
pub parts_halted : {A : Type 0} (state : A → LinkState) (lock : Lock SwitchEvent) (rules : Rules) (turns : ℕ) (why : SwitchFault) (journal : List Entry) (before after : List A) (parts : List (Part A)) → turns + 1 < 2 ^ 64 → length journal ≤ 1000000 → length parts ≡ length before → ((k : ℕ) (p : Part A) → slice_get parts k ≡ Some p → (p.port ≡ k + 1) × IsReady lock rules p) → All (Continues (history_of rules journal)) (map (λ (p : Part A). p.seat) parts) → length (history_of rules journal) ≡ 1 + sum_by (λ (s : Participant SwitchEvent). length s.own) (map (λ (p : Part A). p.seat) parts) → ((k : ℕ) (b : A) (p : Part A) → slice_get before k ≡ Some b → slice_get parts k ≡ Some p → PartEnds p.side.halt state rules turns (state b) p) → ((k : ℕ) (c : A) (p : Part A) → slice_get after k ≡ Some c → slice_get parts k ≡ Some p → state c ≡ state p.side.link) → ((why ≡ NoMemory) ⊎ HasFault (map (λ (p : Part A). p.side) parts) why) → RouteHalted state rules turns why journal before after
parts_halted {A} state lock rules turns why journal before after parts turns_small small long ready begins whole ends links fault =
    halted_together state rules turns why journal before after (map (λ (p : Part A). p.side) parts) (length-map parts (λ (p : Part A). p.side) ∙ long) each
    (elim fault [ inl e ↦ inl e | inr f ↦ inr (f, faulted f) ])
  where
    side_at : (parts : List (Part A)) (k : ℕ) (s : Side A) → slice_get (map (λ (p : Part A). p.side) parts) k ≡ Some s → (p : Part A) × (slice_get parts k ≡ Some p) × (p.side ≡ s)
    side_at [] k s e = none_some s (sym (slice_get_past [] k (omega arith)) ∙ e)
    side_at (p ∷ parts) zero s e = (p, refl, some_is p.side s e)
    side_at (p ∷ parts) (suc k) s e = side_at parts k s e

    faulted : HasFault (map (λ (p : Part A). p.side) parts) why → IsSwitchFault why journal
    faulted f =
        let p = side_at parts f.at f.side f.there in
        let b = element before f.at (omega (arith, long, index_within parts f.at p.0 p.1)) in
        let own = own_frames lock rules parts journal ready begins whole f.at p.0 p.1 in
        let halt : p.0.side.halt ≡ Fault why = ap (λ (s : Side A). s.halt) p.2 ∙ f.fault in
        let stopped = subst (λ (h : Halt). PartEnds h state rules turns (state b.0) p.0) halt (ends f.at b.0 p.0 b.1 p.1) in
        full_is_full why (entries_in p.0.seat.seen) journal own.1 small stopped.1.0

    each : (k : ℕ) → k < length before → (frame : Option Packet) × HaltsWith state rules turns why journal before after (map (λ (p : Part A). p.side) parts) k frame
    each k within =
        let b = element before k within in
        let part = element parts k (omega (arith, long, within)) in
        let p = part.0 in
        let r = ready k p part.1 in
        let own = own_frames lock rules parts journal ready begins whole k p part.1 in
        let same = subst (λ (n : ℕ). frames_from n journal ≡ frames_from n (entries_in p.seat.own)) (sym r.0) own.0 in
        let run = part_run_ended p.side.halt state rules turns journal (state b.0) p turns_small r.1.taken own.1 same (ends k b.0 p b.1 part.1) in (
          run.0,
          (
            (λ x c is_x is_c.
                subst (λ (n : ℕ). PartRun rules journal turns n (listed run.0) (state x) (state c)) r.0
                (subst (λ (l : LinkState). PartRun rules journal turns p.port (listed run.0) (state x) l) (sym (links k c p is_c part.1))
                (subst (λ (y : A). PartRun rules journal turns p.port (listed run.0) (state y) (state p.side.link)) (some_is b.0 x (sym b.1 ∙ is_x)) run.1))),
            (λ side is_side halt.
                let at = side_at parts k side is_side in
                let same_part = some_is p at.0 (sym part.1 ∙ at.1) in
                run.2 why (ap (λ (q : Part A). q.side.halt) same_part ∙ (ap (λ (s : Side A). s.halt) at.2 ∙ halt))),
          ),
        )
