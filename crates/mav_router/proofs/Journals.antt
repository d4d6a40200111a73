-- How a journal goes on.
use Rattle.std.proofs.Common.{◌≡◌, ◌∙◌, ◌<◌, ℕ, zero, suc, slice_get, option_map, ◌+◌, ◌-◌, arith, slice_index, slice_set, Bool, false, true, List, [], ◌∷◌, ◌++◌, length, take, get_or, Option, Some, None, is_some, is_none, refl, ap, sym, subst, append_assoc, if◌then◌else◌}
use Rattle.std.proofs.lemmas.List.{append-nil, take_more}
use Rattle.std.proofs.lemmas.List.Elements.{filter_map-append}
use Rattle.std.specs.List.{filter_map}
use Rattle.std.proofs.lemmas.Grind.{common_steps}
use Rattle.link_table.specs.Routing.{has_port, ways_of}
use Rattle.mav_frame.specs.Packet.{Packet}
use Rattle.mav_sign.specs.declared.admission.Admit.{Admit}
use Rattle.mav_sign.specs.History.{is_admitted}
use Rattle.mav_sign.specs.Streams.{listed}
use Rattle.mav_router.specs.declared.entries.Entry.{Entry}
use Rattle.mav_router.specs.Journal.{Rules, IsPortOf, IsJournal, frames_at, entry_after, admit_after, is_unsigned, ways_by, target_by, learned_in, frame_to, frames_to}

-- what a filter keeps of one element
pub filter_map_one : {X Y : Type 0} (f : X → Option Y) (x : X) → filter_map f (x ∷ []) ≡ listed (f x)
filter_map_one f x = of (f x) refl
  where
    of : (kept : _) → f x ≡ kept → filter_map f (x ∷ []) ≡ listed kept
    of None e = rw e refl
    of (Some y) e = rw e refl

pub filter_map_push : {X Y : Type 0} (f : X → Option Y) (xs : List X) (x : X) → filter_map f (xs ++ x ∷ []) ≡ filter_map f xs ++ listed (f x)
filter_map_push f xs x = filter_map-append f xs (x ∷ []) ∙ ap (λ ys. filter_map f xs ++ ys) (filter_map_one f x)

-- one more entry of the journal
pub journal_more : (rules : Rules) (before entries : List Entry) (entry : Entry) → IsJournal rules before entries → IsPortOf rules entry.port → entry ≡ entry_after rules (before ++ entries) entry.port entry.frame → IsJournal rules before (entries ++ entry ∷ [])
journal_more rules before [] entry j p e = (p, subst (λ b. entry ≡ entry_after rules b entry.port entry.frame) (append-nil before) e, tt)
journal_more rules before (x ∷ xs) entry j p e =
    (j.0, j.1, journal_more rules (before ++ x ∷ []) xs entry j.2 p (subst (λ b. entry ≡ entry_after rules b entry.port entry.frame) (sym (append_assoc before (x ∷ []) xs)) e))

pub entry_is : (rules : Rules) (before : List Entry) (port : ℕ) (packet : Packet) (admit : Admit) (ways : List Bool) → admit ≡ admit_after rules before port packet → ways ≡ ways_by (is_admitted admit) (is_unsigned packet) rules.plain (ways_of rules.ports (learned_in before) port (target_by rules packet)) → ◌≡◌ {A = Entry} (record { port = port; frame = packet; admit = admit; ways = ways }) (entry_after rules before port packet)
entry_is rules before port packet admit ways e f =
    let w = f ∙ ap (λ (a : Admit). ways_by (is_admitted a) (is_unsigned packet) rules.plain (ways_of rules.ports (learned_in before) port (target_by rules packet))) e in
    λ i. record { port = port; frame = packet; admit = e i; ways = w i }

-- an entry that doesn't go out at the port
pub passed_over : (port place : ℕ) (journal : List Entry) (d : Entry) → place < length journal → has_port (get_or journal place d).ways port ≡ false → frames_to port (take (place + 1) journal) ≡ frames_to port (take place journal)
passed_over port place journal d l h =
    ap (frames_to port) (take_more journal place d l) ∙ (filter_map_push (frame_to port) (take place journal) (get_or journal place d)
    ∙ (ap (λ (b : Bool). frames_to port (take place journal) ++ listed (if b then Some (get_or journal place d).frame else None)) h ∙ append-nil (frames_to port (take place journal))))

-- an entry that goes out at the port
pub taken_next : (port place : ℕ) (journal : List Entry) (d : Entry) → place < length journal → has_port (get_or journal place d).ways port ≡ true → frames_to port (take (place + 1) journal) ≡ frames_to port (take place journal) ++ (get_or journal place d).frame ∷ []
taken_next port place journal d l h =
    ap (frames_to port) (take_more journal place d l) ∙ (filter_map_push (frame_to port) (take place journal) (get_or journal place d)
    ∙ ap (λ (b : Bool). frames_to port (take place journal) ++ listed (if b then Some (get_or journal place d).frame else None)) h)

-- the frames given for a port, where the next one goes out there
pub given_next : (seen : List ℕ) (journal : List Entry) (port at place : ℕ) (entry : Entry) → at ≡ port - 1 → at < length seen → place < length journal → entry ≡ get_or journal place entry → has_port entry.ways port ≡ true → frames_to port (take place journal) ≡ frames_to port (take (slice_index seen at) journal) → frames_to port (take (slice_index (slice_set seen at (place + 1)) (port - 1)) journal) ≡ frames_to port (take (slice_index seen (port - 1)) journal) ++ entry.frame ∷ []
given_next seen journal port at place entry e l within is goes none =
    let now : slice_index (slice_set seen at (place + 1)) at ≡ place + 1 = grind (arith, common_steps) in
    let next = taken_next port place journal entry within (subst (λ (x : Entry). has_port x.ways port ≡ true) is goes) in
    let frame = ap (λ (x : Entry). frames_to port (take place journal) ++ x.frame ∷ []) (sym is) in
    let same = ap (λ (fs : List Packet). fs ++ entry.frame ∷ []) none in
    let all = ap (λ (n : ℕ). frames_to port (take n journal)) now ∙ (next ∙ (frame ∙ same)) in
    subst (λ (k : ℕ). frames_to port (take (slice_index (slice_set seen at (place + 1)) k) journal) ≡ frames_to port (take (slice_index seen k) journal) ++ entry.frame ∷ []) e all

-- a frame with a signature block, and one without
pub some_if : {A : Type 0} (block : Option A) → true ≡ is_some block → is_none block ≡ false
some_if None e = absurd cc
some_if (Some b) e = refl

pub none_if_not : {A : Type 0} (block : Option A) → false ≡ is_some block → is_none block ≡ true
none_if_not None e = refl
none_if_not (Some b) e = absurd cc

-- an element at each index below the length
pub element : {A : Type 0} (xs : List A) (k : ℕ) → k < length xs → (x : A) × (slice_get xs k ≡ Some x)
element [] k l = absurd (omega (arith, l))
element (x ∷ xs) zero l = (x, refl)
element (x ∷ xs) (suc k) l = element xs k (omega (arith, l))

-- the frame of the entry at an index
pub frames_are : (journal : List Entry) (index : ℕ) (entry : Entry) → slice_get journal index ≡ Some entry → frames_at journal (Some index) ≡ entry.frame ∷ []
frames_are journal index entry is = ap (λ (e : Option Entry). listed (option_map (λ (x : Entry). x.frame) e)) is
