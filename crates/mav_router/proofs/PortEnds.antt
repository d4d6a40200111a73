-- What a port's run is at its start and its end.
use Rattle.std.proofs.Common.{◌⊎◌, inl, inr, ◌≡◌, ◌∙◌, ◌<◌, ◌≤◌, ℕ, zero, suc, ◌+◌, ◌^◌, ◌*◌, arith, length-append, length-take, Bool, false, true, List, [], ◌∷◌, ◌++◌, length, take, drop, get_or, Option, Some, None, Err, refl, ap, sym, subst, slice_get, slice_index, ◌-◌, append_assoc}
use Rattle.std.proofs.lemmas.Option.{get_or_from_slice_get, slice_get_cases, slice_get_past}
use Rattle.std.proofs.lemmas.List.{append-nil}
use Rattle.std.specs.Io.KnownBytes.{prepend_known}
use Rattle.mav_ports.proofs.Known.{append_known_nil}
use Rattle.mav_frame.specs.Packet.{Packet}
use Rattle.std.specs.List.{filter_map, flat_map}
use Rattle.mav_frame.specs.Parse.{IsIncomplete, event_bytes}
use Rattle.mav_frame.specs.Encoding.{encoding}
use Rattle.mav_frame.specs.Looks.{is_old_at, header_size}
use Rattle.mav_frame.specs.declared.events.Event.TheVariants.{Frame, Skipped}
use Rattle.mav_frame.proofs.LongerParse.{events_cover_bytes}
use Rattle.mav_profile.specs.Messages.{extras_of}
use Rattle.link_table.specs.Routing.{has_port}
use Rattle.mav_router.specs.declared.entries.SwitchFault.{SwitchFault}
use Rattle.mav_router.specs.declared.entries.SwitchFault.TheVariants.{Full, NoMemory}
use Rattle.mav_router.specs.Faults.{IsSwitchFault, StopsRound, RouteStopped, CausedBy, Untaken, PartRun, beyond_at}
use Rattle.mav_router.proofs.RunSteps.{AllWithin, part_run, given_and_waiting, index_within}
use Rattle.mav_router.proofs.Journals.{element}
use Rattle.mav_frame.specs.declared.events.Event.{Event}
use Rattle.mav_stream.specs.Held.{Held, nothing_held}
use Rattle.mav_links.specs.Links.{LinkState}
use Rattle.mav_router.specs.declared.entries.Entry.{Entry}
use Rattle.mav_router.specs.declared.lane.Lane.{Lane}
use Rattle.mav_router.specs.declared.ends.PortEnd.{PortEnd}
use Rattle.mav_router.specs.declared.ends.RouteFault.{RouteFault}
use Rattle.mav_router.specs.Journal.{Rules, SwitchState, frame_to, frames_to, given_to, bytes_of}
use Rattle.mav_router.specs.Runs.{AllRead, Output, PortSoFar, RunSoFar, Reading, IsNew, IsFresh, AllFresh, HadTurns, AllTurned, IsDrained, FaultsBy, ArePieces, joined_turns, skips_of}
use Rattle.mav_router.specs.Routed.{HasEnded, HasStopped}
use Rattle.mav_router.proofs.Halts.{stops_as}
use Rattle.mav_router.specs.Ends.{PortRun, TurnedBy, GaveEnd, ParsedBy, WrittenBy, FaultsAtEnd, IsOpenParse, IsClosedParse, how_by, end_by}

nothing_incomplete : (extras : List (ℕ × ℕ)) (old : Bool) → IsIncomplete extras old []
nothing_incomplete extras old = record {
  stx = λ some. absurd (omega (arith, some));
  flag = λ _ some. absurd (omega (arith, some));
  known = λ some. absurd (no_header (is_old_at old []) some);
  short = λ some. absurd (no_header (is_old_at old []) some);
}
  where
    no_header : (is_old : Bool) → header_size is_old ≤ 0 → ⊥
    no_header true some = omega (arith, some)
    no_header false some = omega (arith, some)

nothing_parsed : (rules : Rules) (port : ℕ) → AllRead rules port [] (nothing_held (extras_of rules.known) (has_port rules.plain port)) 0 []
nothing_parsed rules port = record {
  reading = record {
    events = [];
    progress = record { same = refl; version = refl; incremental = λ live. refl; final = refl };
    entries = refl;
    skipped = omega arith;
  };
  whole = record {
    incremental = λ live. (refl, nothing_incomplete (extras_of rules.known) (has_port rules.plain port));
    final = λ e. refl;
  };
}

prepend_none : (known : Option (List ℕ)) → known ≡ prepend_known [] known
prepend_none None = refl
prepend_none (Some bytes) = refl

fresh_faults : (failed : Bool) (n : ℕ) → failed ≡ false → FaultsBy failed n n
fresh_faults false n e = refl
fresh_faults true n e = absurd cc

pub port_at_start : (rules : Rules) (switch : SwitchState) (port : ℕ) (first : LinkState) (lane : Lane) → switch.journal ≡ [] → given_to switch port ≡ [] → IsFresh rules port lane → PortSoFar rules switch port first first lane
port_at_start rules switch port first lane empty none fresh = record {
  input = record {
    bytes = [];
    turns = [];
    pieces = λ k d less. absurd (omega (arith, less));
    joined = refl;
    idles = refl;
    turned = fresh.turns ∙ omega arith;
    left = prepend_none first.left;
    read = fresh.read ∙ omega arith;
    parsed = subst (λ (j : List Entry). AllRead rules port [] lane.scanner lane.skipped j) (sym empty)
        (subst (λ (h : Held). AllRead rules port [] h lane.skipped []) (sym fresh.scanner) (subst (λ (n : ℕ). AllRead rules port [] (nothing_held (extras_of rules.known) (has_port rules.plain port)) n []) (sym fresh.skipped) (nothing_parsed rules port)));
    ended = ap (λ (h : Held). h.ended) fresh.scanner ∙ sym fresh.ended;
    spent = λ e. absurd (let wrong : ◌≡◌ {A = Bool} true false = sym e ∙ fresh.ended in cc);
    gave_end = λ e. absurd (let wrong : ◌≡◌ {A = Bool} true false = sym e ∙ fresh.ended in cc);
    faults = fresh_faults lane.failed first.faults fresh.failed;
  };
  output = subst (λ (f : List Packet). Output f first first lane) (sym none) (record {
    written = [];
    rest = [];
    sent = append_known_nil first.sent;
    front = refl;
    all = λ e. refl;
    most = omega arith;
    count = fresh.written ∙ omega arith;
  });
}

pub run_at_start : {A : Type 0} (state : A → LinkState) (rules : Rules) (switch : SwitchState) (links : List A) (lanes : List Lane) (d : A) → switch.journal ≡ [] → ((port : ℕ) → given_to switch port ≡ []) → AllFresh rules lanes → RunSoFar state rules switch (λ k. state (get_or links k d)) links lanes
run_at_start state rules switch links lanes d empty none fresh k link lane is_link is_lane =
    subst (λ (x : _). PortSoFar rules switch (k + 1) (state x) (state link) lane) (sym (get_or_from_slice_get links k link d is_link))
    (port_at_start rules switch (k + 1) (state link) lane empty (none (k + 1)) (fresh k lane is_lane))

pub drained_at_start : (switch : SwitchState) (lanes : List Lane) → switch.journal ≡ [] → ((port : ℕ) → given_to switch port ≡ []) → (k : ℕ) → IsDrained switch lanes k
drained_at_start switch lanes empty none k lane is fine = none (k + 1) ∙ ap (frames_to (k + 1)) (sym empty)

parsed_by : (failed ended : Bool) (turns : ℕ) (rules : Rules) (port : ℕ) (events : List Event) (bytes : List ℕ) (left : Option (List ℕ)) → (ended ≡ false → IsOpenParse rules port events bytes) → (ended ≡ true → IsClosedParse rules port events bytes left) → ParsedBy (how_by failed ended turns) rules port events bytes left
parsed_by true true turns rules port events bytes left live closed = inr (closed refl)
parsed_by true false turns rules port events bytes left live closed = inl (live refl)
parsed_by false true turns rules port events bytes left live closed = closed refl
parsed_by false false turns rules port events bytes left live closed = live refl

written_by : (failed ended : Bool) (turns : ℕ) (written text : List ℕ) → (failed ≡ false → written ≡ text) → ((rest : List ℕ) × (written ++ rest ≡ text)) → WrittenBy (how_by failed ended turns) written text
written_by true ended turns written text all front = front
written_by false true turns written text all front = all refl
written_by false false turns written text all front = all refl

faults_by : (failed ended : Bool) (turns before now : ℕ) → FaultsBy failed before now → FaultsAtEnd (how_by failed ended turns) before now
faults_by true ended turns before now f = f
faults_by false true turns before now f = f
faults_by false false turns before now f = f

turned_by : (failed ended : Bool) (most : ℕ) (turns : List (List ℕ)) → (failed ≡ false → ended ≡ false → most ≡ length turns) → (ended ≡ true → length turns < most) → length turns ≤ most → TurnedBy (how_by failed ended most) most turns
turned_by true ended most turns live fewer within = within
turned_by false true most turns live fewer within = fewer refl
turned_by false false most turns live fewer within = (refl, live refl refl)

gave_end_by : (failed ended : Bool) (turns : ℕ) (last : LinkState) → (ended ≡ true → last.ended ≡ true) → GaveEnd (how_by failed ended turns) last
gave_end_by true ended turns last gave = tt
gave_end_by false true turns last gave = gave refl
gave_end_by false false turns last gave = tt

-- pieces have at most 4,096 bytes each
joined_short : (turns : List (List ℕ)) → ArePieces turns → length (joined_turns turns) ≤ 4096 * length turns
joined_short [] all = omega arith
joined_short (piece ∷ turns) all =
    let first : length piece ≤ 4096 = all 0 [] (omega arith) in
    let rest = joined_short turns (λ k d less. all (suc k) d (omega (arith, less))) in
    let long = length-append piece (joined_turns turns) in
    omega (arith, first, rest, long)

-- no more bytes are skipped than there are
skips_short : (events : List Event) → length (skips_of events) ≤ length (flat_map event_bytes events)
skips_short [] = omega arith
skips_short (Frame packet ∷ events) = let rest = skips_short events in let long = length-append (encoding packet) (flat_map event_bytes events) in omega (arith, rest, long)
skips_short (Skipped byte why ∷ events) = let rest = skips_short events in omega (arith, rest)

skips_within : (rules : Rules) (port : ℕ) (bytes : List ℕ) (held : Held) (skips : ℕ) (journal : List Entry) → (r : Reading rules port bytes held skips journal) → length (skips_of r.events) ≤ length bytes
skips_within rules port bytes held skips journal r =
    let covered = events_cover_bytes (extras_of rules.known) (has_port rules.plain port) r.events held.bytes bytes r.progress.final in
    let long = ap length covered ∙ length-append (flat_map event_bytes r.events) held.bytes in
    omega (arith, long, skips_short r.events)

kept_within : {X Y : Type 0} (f : X → Option Y) (xs : List X) → length (filter_map f xs) ≤ length xs
kept_within f [] = omega arith
kept_within f (x ∷ xs) = one_more f x xs (f x) refl (kept_within f xs)
  where
    one_more : {X Y : Type 0} (f : X → Option Y) (x : X) (xs : List X) (kept : Option Y) → f x ≡ kept → length (filter_map f xs) ≤ length xs → length (filter_map f (x ∷ xs)) ≤ length (x ∷ xs)
    one_more f x xs None e rest = rw e (omega (arith, rest))
    one_more f x xs (Some y) e rest = rw e (omega (arith, rest))

pub port_at_end : (rules : Rules) (switch : SwitchState) (journal : List Entry) (port : ℕ) (first last : LinkState) (lane : Lane) (end : PortEnd) (turns : ℕ) → turns ≤ 1000000000 → length switch.journal ≤ 1000000 → journal ≡ switch.journal → end ≡ end_by lane turns → PortSoFar rules switch port first last lane → (lane.failed ≡ false → given_to switch port ≡ frames_to port switch.journal) → HadTurns lane turns → PortRun rules journal turns port first last end
port_at_end rules switch journal port first last lane end turns few small same is p drained turned =
    let i = p.input in
    let o = p.output in
    let r = i.parsed.reading in
    let waiting = bytes_of (frames_to port (drop (slice_index switch.seen (port - 1)) switch.journal)) in
    let front = sym (append_assoc o.written o.rest waiting) ∙ (ap (λ (b : List ℕ). b ++ waiting) o.front ∙ sym (given_and_waiting switch port)) in
    let whole = λ (fine : lane.failed ≡ false). sym (append-nil o.written) ∙ (ap (λ (b : List ℕ). o.written ++ b) (sym (o.all fine)) ∙ (o.front ∙ ap bytes_of (drained fine))) in
    let most : length i.bytes ≤ 4096 * length i.turns = (let joined = ap length i.joined in let short = joined_short i.turns i.pieces in omega (arith, joined, short)) in
    let reads : length i.turns ≤ 1000000000 = (let had = turned.most in let is_count = i.turned in omega (arith, had, is_count, few)) in
    let read : lane.read ≡ length i.bytes = (let count = i.read in omega (arith, count, most, reads)) in
    let skipped : lane.skipped ≡ length (skips_of r.events) = (let count = r.skipped in let within = skips_within rules port i.bytes lane.scanner lane.skipped switch.journal r in omega (arith, count, within, most, reads)) in
    let entries = length-take (slice_index switch.seen (port - 1)) switch.journal in
    let written : lane.written ≡ length o.written = (let count = o.count in let most = o.most in let given = kept_within (frame_to port) (take (slice_index switch.seen (port - 1)) switch.journal) in omega (arith, count, most, given, entries, small)) in
    subst (λ (e : PortEnd). PortRun rules journal turns port first last e) (sym is) (subst (λ (j : List Entry). PortRun rules j turns port first last (end_by lane turns)) (sym same) (record {
      bytes = i.bytes;
      turns = i.turns;
      pieces = i.pieces;
      joined = i.joined;
      idles = i.idles;
      turned = turned_by lane.failed lane.ended turns i.turns
          (λ fine live. (let exact = turned.live live fine in let count = i.turned in omega (arith, exact, count, reads)))
          (λ ended. (let had = turned.fewer ended in let count = i.turned in omega (arith, had, count, reads)))
          (let had = turned.most in let count = i.turned in omega (arith, had, count, reads));
      gave_end = gave_end_by lane.failed lane.ended turns last i.gave_end;
      events = r.events;
      written = o.written;
      left = i.left;
      sent = o.sent;
      parsed = parsed_by lane.failed lane.ended turns rules port r.events i.bytes last.left
          (λ live. (lane.scanner.bytes, i.parsed.whole.incremental (i.ended ∙ live)))
          (λ e. (i.parsed.whole.final (i.ended ∙ e), i.spent e));
      entries = r.entries;
      output = written_by lane.failed lane.ended turns o.written (bytes_of (frames_to port switch.journal)) whole (o.rest ++ waiting, front);
      faults = faults_by lane.failed lane.ended turns first.faults last.faults i.faults;
      read_count = read;
      skipped_count = skipped;
      written_count = written;
    }))

none_some : {A B : Type 0} (x : A) → ◌≡◌ {A = Option A} None (Some x) → B
none_some x e = absurd cc

-- each port at the end of a run
pub each_at_end : {A : Type 0} (state : A → LinkState) (rules : Rules) (switch : SwitchState) (links last : List A) (lanes : List Lane) (ends : List PortEnd) (turns k : ℕ) (b c d : A) (e : PortEnd) → turns ≤ 1000000000 → length switch.journal ≤ 1000000 → slice_get links k ≡ Some b → slice_get last k ≡ Some c → slice_get ends k ≡ Some e → length ends ≡ length lanes → RunSoFar state rules switch (λ j. state (get_or links j d)) last lanes → ((j : ℕ) → j < length lanes → IsDrained switch lanes j) → ((j : ℕ) (lane : Lane) (end : PortEnd) → slice_get lanes j ≡ Some lane → slice_get ends j ≡ Some end → end ≡ end_by lane turns) → AllTurned lanes turns → PortRun rules switch.journal turns (k + 1) (state b) (state c) e
each_at_end state rules switch links last lanes ends turns k b c d e few small is_b is_c is_e long run drained each turned =
    elim ((slice_get_cases lanes k).1) [
      | inl w ↦
          port_at_end rules switch switch.journal (k + 1) (state b) (state c) w.0 e turns few small refl (each k w.0 e w.2 is_e)
          (subst (λ (x : _). PortSoFar rules switch (k + 1) (state x) (state c) w.0) (get_or_from_slice_get links k b d is_b) (run k c w.0 is_c w.2))
          (drained k w.1 w.0 w.2) (turned k w.0 w.2)
      | inr past ↦ none_some e (sym (slice_get_past ends k (omega (arith, long, past.0))) ∙ is_e)
    ]

some_is : {A : Type 0} (x y : A) → ◌≡◌ {A = Option A} (Some x) (Some y) → x ≡ y
some_is x y e = cc

-- an element of a list that was pushed to
pub pushed : {A : Type 0} (xs : List A) (k : ℕ) (x y : A) → slice_get (xs ++ x ∷ []) k ≡ Some y → (slice_get xs k ≡ Some y) ⊎ ((k ≡ length xs) × (x ≡ y))
pushed [] zero x y e = inr (refl, some_is x y e)
pushed [] (suc k) x y e = none_some y (sym (slice_get_past (x ∷ []) (suc k) (omega arith)) ∙ e)
pushed (z ∷ xs) zero x y e = inl e
pushed (z ∷ xs) (suc k) x y e = elim (pushed xs k x y e) [ inl f ↦ inl f | inr f ↦ inr (ap suc f.0, f.1) ]

pub each_pushed : {A : Type 0} (P : ℕ → A → Type 0) (xs : List A) (x : A) → ((k : ℕ) (y : A) → slice_get xs k ≡ Some y → P k y) → P (length xs) x → (k : ℕ) (y : A) → slice_get (xs ++ x ∷ []) k ≡ Some y → P k y
each_pushed P xs x each new k y e =
    elim (pushed xs k x y e) [
      | inl f ↦ each k y f
      | inr f ↦ subst (λ (n : ℕ). P n y) (sym f.0) (subst (P (length xs)) f.1 new)
    ]

pub ends_pushed : (lanes : List Lane) (ends : List PortEnd) (turns at : ℕ) (end : PortEnd) (d : Lane) → length ends ≡ at → end ≡ end_by (get_or lanes at d) turns → ((k : ℕ) (lane : Lane) (x : PortEnd) → slice_get lanes k ≡ Some lane → slice_get ends k ≡ Some x → x ≡ end_by lane turns) → (k : ℕ) (lane : Lane) (x : PortEnd) → slice_get lanes k ≡ Some lane → slice_get (ends ++ end ∷ []) k ≡ Some x → x ≡ end_by lane turns
ends_pushed lanes ends turns at end d long new each k lane x is_lane is_end =
    elim (pushed ends k end x is_end) [
      | inl f ↦ each k lane x is_lane f
      | inr f ↦
          let there : slice_get lanes at ≡ Some lane = subst (λ (j : ℕ). slice_get lanes j ≡ Some lane) (f.0 ∙ long) is_lane in
          sym f.1 ∙ (new ∙ ap (λ (l : Lane). end_by l turns) (get_or_from_slice_get lanes at lane d there))
    ]

-- a round stopped at a frame that the switch didn't take
caused_by : (why : SwitchFault) (journal : List Entry) (untaken : Untaken) (ports : ℕ) → IsSwitchFault why journal → 1 ≤ untaken.port → untaken.port ≤ ports → CausedBy why (Some untaken) ports journal
caused_by NoMemory journal untaken ports is from to = tt
caused_by (Full entries) journal untaken ports is from to = (is.0, is.1, from, to)

pub route_stopped : {A : Type 0} (state : A → LinkState) (rules : Rules) (most : ℕ) (why : SwitchFault) (journal : List Entry) (links last : List A) (d : A) → IsSwitchFault why journal → length last ≡ length links → (s : StopsRound state rules journal most (λ j. state (get_or links j d)) last) → RouteStopped state rules most why journal links last
route_stopped {A} state rules most why journal links last d is long s = record {
  untaken = Some s.untaken;
  cause = caused_by why journal s.untaken (length links) is s.from (let to = s.to in omega (arith, to, long));
  ports = λ k b c is_b is_c.
      subst (λ (x : A). PartRun rules journal most (k + 1) (beyond_at (Some s.untaken) (k + 1)) (state x) (state c)) (get_or_from_slice_get links k b d is_b) (s.ports k c is_c);
}

-- memory was out after a whole run
pub route_halted : {A : Type 0} (state : A → LinkState) (rules : Rules) (most : ℕ) (switch : SwitchState) (links last : List A) (lanes : List Lane) (d : A) → length lanes ≡ length last → most + 1 < 2 ^ 64 → AllWithin lanes most → RunSoFar state rules switch (λ j. state (get_or links j d)) last lanes → RouteStopped state rules most NoMemory switch.journal links last
route_halted {A} state rules most switch links last lanes d long small all run = record {
  untaken = None;
  cause = tt;
  ports = λ k b c is_b is_c.
      let lane = element lanes k (omega (arith, long, index_within last k c is_c)) in
      subst (λ (x : A). PartRun rules switch.journal most (k + 1) [] (state x) (state c)) (get_or_from_slice_get links k b d is_b)
      (part_run rules switch most (k + 1) (state (get_or links k d)) (state c) lane.0 (all k lane.0 lane.1) small (run k c lane.0 is_c lane.1));
}

-- or before it
pub nothing_routed : {A : Type 0} (state : A → LinkState) (rules : Rules) (most : ℕ) (links : List A) → RouteStopped state rules most NoMemory [] links links
nothing_routed {A} state rules most links = record {
  untaken = None;
  cause = tt;
  ports = λ k b c is_b is_c.
      let same : b ≡ c = some_is b c (sym is_b ∙ is_c) in
      subst (λ (x : A). PartRun rules [] most (k + 1) [] (state b) (state x)) same (nothing_at rules (k + 1) (state b));
}
  where
    nothing_at : (rules : Rules) (port : ℕ) (first : LinkState) → PartRun rules [] most port [] first first
    nothing_at rules port first = record {
      input = record {
        bytes = [];
        turns = [];
        pieces = λ k d less. absurd (omega (arith, less));
        joined = refl;
        idles = refl;
        turned = omega arith;
        left = prepend_none first.left;
        ended = false;
        begun = record { events = []; rest = []; begins = refl; entries = refl };
        spent = λ e. absurd (let wrong : ◌≡◌ {A = Bool} true false = sym e in cc);
      };
      output = record { written = []; rest = []; sent = append_known_nil first.sent; front = refl; whole = inr (record { done = []; more = []; are = refl; same = refl }) };
    }

-- there was no memory before that
pub unrouted : {A : Type 0} (one : Bool) (state : A → LinkState) (rules : Rules) (most : ℕ) (links after : List A) (fault : RouteFault) → fault.why ≡ NoMemory → fault.journal ≡ [] → after ≡ links → HasEnded (Err fault) one state rules most links after
unrouted {A} one state rules most links after fault is none same = record {
  links = ap length same;
  routed = tt;
  stopped =
      subst (λ (f : SwitchFault). HasStopped one state rules most links after f fault.journal) (sym is)
      (subst (λ (j : List Entry). HasStopped one state rules most links after NoMemory j) (sym none)
      (subst (λ (l : List A). HasStopped one state rules most links l NoMemory []) (sym same)
      (record { legal = tt; stopped = stops_as one state rules most NoMemory [] links links (nothing_routed state rules most links) })));
}

-- a lane that is new had no turn
pub new_turned : (extras : List (ℕ × ℕ)) (old : Bool) (lane : Lane) → IsNew extras old lane → HadTurns lane 0
new_turned extras old lane new = record {
  most = omega (arith, new.turns);
  fewer = λ e. absurd (let wrong : ◌≡◌ {A = Bool} true false = sym e ∙ new.ended in cc);
  live = λ live fine. new.turns;
}
