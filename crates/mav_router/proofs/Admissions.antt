-- What a frame's entry is, and what holds of a switch after it.
use Rattle.std.proofs.Common.{◌≡◌, ◌∙◌, ◌==◌, ◌<◌, ◌≤◌, ◌+◌, arith, length, true, ◌++◌, ◌∷◌, [], ℕ, zero, suc, List, All, Bool, Some, Err, map, take, slice_get, refl, sym, ap, subst, append_assoc}
use Rattle.std.proofs.lemmas.Grind.{common_steps}
use Rattle.std.proofs.lemmas.List.{append-nil, length-map}
use Rattle.std.proofs.lemmas.Option.{get_or_from_slice_get, slice_get_within}
use Rattle.turnstile.specs.Labels.{EachPasses}
use Rattle.mav_names.specs.declared.names.Name.{Name}
use Rattle.mav_frame.specs.Packet.{Packet}
use Rattle.mav_sign.specs.History.{is_admitted}
use Rattle.mav_sign.specs.Kept.{Kept, Represents}
use Rattle.mav_sign.specs.Streams.{listed}
use Rattle.link_table.specs.Routing.{ways_of, has_port}
use Rattle.link_table.specs.Table.{Masks, Represents as StandsFor}
use Rattle.mav_router.specs.declared.entries.Entry.{Entry}
use Rattle.mav_router.specs.declared.entries.Outcome.{Outcome}
use Rattle.mav_router.specs.Journal.{Rules, IsPortOf, IsJournal, entry_after, verdict_on, is_unsigned, ways_by, target_by, learned_at, learned_by, learned_in, tried_by, tried_in}
use Rattle.mav_router.specs.declared.found.FoundFrame.{FoundFrame}
use Rattle.mav_router.specs.Admitting.{AdmitsThese, IsAfter, Judges, entry_by}
use Rattle.mav_router.specs.Found.{Admits, IsJudged, Judged, Keeps, packets_of}
use Rattle.mav_router.specs.Spans.{judged_of, packet_of}
use Rattle.mav_router.proofs.Findings.{keeps_more, next_packet}
use Rattle.mav_router.proofs.Journals.{entry_is, filter_map_push, journal_more}

-- the entry is that of the rules
pub entry_judged : (rules : Rules) (journal : List Entry) (port : ℕ) (packet : Packet) (target : Name) (stamps later : Kept) (table taught : Masks) (outcome : Outcome) → Judges rules port packet target stamps later table taught outcome → Represents stamps (tried_in journal) → StandsFor table (learned_in journal) → table.ports ≡ rules.ports → target ≡ target_by rules packet → entry_by packet outcome ≡ entry_after rules journal outcome.port packet
entry_judged rules journal port packet target stamps later table taught outcome j kept stands ports target_is =
    let learned = learned_in journal in
    let ways = λ (w : List Bool). ways_by (is_admitted outcome.admit) (is_unsigned packet) rules.plain w in
    let at = sym j.port_is in
    entry_is rules journal outcome.port packet outcome.admit outcome.ways
    (j.verdict (tried_in journal) kept ∙ ap (λ (n : ℕ). verdict_on rules.key (has_port rules.plain n) (tried_in journal) packet) at)
    (j.ways learned stands
    ∙ (ap (λ (n : ℕ). ways (ways_of n learned port target)) ports
    ∙ (ap (λ (t : Name). ways (ways_of rules.ports learned port t)) target_is
    ∙ ap (λ (n : ℕ). ways (ways_of rules.ports learned n (target_by rules packet))) at)))

-- the verifier, the table and the journal after it
pub holds_more : (rules : Rules) (journal after : List Entry) (port : ℕ) (packet : Packet) (target : Name) (stamps later : Kept) (table taught : Masks) (outcome : Outcome) → Judges rules port packet target stamps later table taught outcome → after ≡ journal ++ entry_by packet outcome ∷ [] → IsAfter rules stamps table journal → IsPortOf rules port → table.ports ≡ rules.ports → target ≡ target_by rules packet → IsAfter rules later taught after
holds_more rules journal after port packet target stamps later table taught outcome j is h at ports target_is =
    let entry = entry_by packet outcome in
    let e = entry_judged rules journal port packet target stamps later table taught outcome j h.kept h.stands ports target_is in
    let learned = subst (λ (n : ℕ). StandsFor taught (learned_in journal ++ listed (learned_at (is_admitted outcome.admit) n packet.from))) (sym j.port_is) (j.learned (learned_in journal) h.stands) in
    record {
      kept = subst (Represents later) (sym (ap tried_in is ∙ filter_map_push tried_by journal entry)) (j.history (tried_in journal) h.kept);
      stands = subst (StandsFor taught) (sym (ap learned_in is ∙ filter_map_push learned_by journal entry)) learned;
      legal = subst (IsJournal rules []) (sym is) (journal_more rules [] journal entry h.legal (subst (IsPortOf rules) (sym j.port_is) at) e);
    }

-- nothing was admitted yet
pub admits_none : (rules : Rules) (port : ℕ) (stamps : Kept) (table : Masks) → AdmitsThese rules port [] stamps stamps table table []
admits_none rules port stamps table = record {
  keeps = record { more = []; goes = refl; ports = tt; took = refl };
  ports = refl;
  after = λ journal same h. subst (IsAfter rules stamps table) (sym (append-nil journal)) h;
}

-- a frame more
pub admits_more : (rules : Rules) (port : ℕ) (frames : List Packet) (stamps middle later : Kept) (table seen taught : Masks) (entries : List Entry) (packet : Packet) (target : Name) (outcome : Outcome) → 1 ≤ port → port ≤ table.ports → AdmitsThese rules port frames stamps middle table seen entries → Judges rules port packet target middle later seen taught outcome → target ≡ target_by rules packet → AdmitsThese rules port (frames ++ packet ∷ []) stamps later table taught (entries ++ entry_by packet outcome ∷ [])
admits_more rules port frames stamps middle later table seen taught entries packet target outcome from to a j target_is =
    let entry = entry_by packet outcome in
    record {
      keeps = keeps_more port [] entries (entries ++ entry ∷ []) entry frames j.port_is a.keeps refl;
      ports = j.ports ∙ a.ports;
      after = λ journal same h. holds_more rules (journal ++ entries) (journal ++ (entries ++ entry ∷ [])) port packet target middle later seen taught outcome j (sym (append_assoc journal entries (entry ∷ []))) (a.after journal same h) (from, subst (λ (n : ℕ). port ≤ n) same to) (a.ports ∙ same) target_is;
    }

-- an element of some that all have a property, and of what is made of them
pub all_got : {A : Type 0} (P : A → Type 0) (xs : List A) (k : ℕ) (x : A) → All P xs → slice_get xs k ≡ Some x → P x
all_got P xs k x all there = subst P (get_or_from_slice_get xs k x x there) (all k x (slice_get_within xs k x there))

pub got_map : {A B : Type 0} (f : A → B) (xs : List A) (k : ℕ) (x : A) → slice_get xs k ≡ Some x → slice_get (map f xs) k ≡ Some (f x)
got_map f [] k x e = absurd cc
got_map f (y ∷ xs) zero x e = let same : y ≡ x = cc in ap (λ z. Some (f z)) same
got_map f (y ∷ xs) (suc k) x e = got_map f xs k x e

-- the next of the frames that were found
pub judged_at : (rules : Rules) (bytes : List ℕ) (found : List FoundFrame) (at : ℕ) (one : FoundFrame) → All (IsJudged rules) (map (judged_of bytes) found) → slice_get found at ≡ Some one → IsJudged rules (judged_of bytes one)
judged_at rules bytes found at one all there = all_got (IsJudged rules) (map (judged_of bytes) found) at (judged_of bytes one) all (got_map (judged_of bytes) found at one there)

pub next_found : (bytes : List ℕ) (found : List FoundFrame) (at : ℕ) (one : FoundFrame) → slice_get found at ≡ Some one → take (at + 1) (packets_of (map (judged_of bytes) found)) ≡ take at (packets_of (map (judged_of bytes) found)) ++ packet_of bytes one.span ∷ []
next_found bytes found at one there =
    let all = map (judged_of bytes) found in
    let judged = judged_of bytes one in
    let is = got_map (judged_of bytes) found at one there in
    next_packet all at judged (slice_get_within all at judged is) ∙ (λ i. take at (packets_of all) ++ (get_or_from_slice_get all at judged judged is i).frame ∷ [])

-- ---- a single frame

-- the last entry is that of the rules
journal_last : (rules : Rules) (before entries : List Entry) (entry : Entry) → IsJournal rules before (entries ++ entry ∷ []) → entry ≡ entry_after rules (before ++ entries) entry.port entry.frame
journal_last rules before [] entry j = subst (λ (b : List Entry). entry ≡ entry_after rules b entry.port entry.frame) (sym (append-nil before)) j.1
journal_last rules before (x ∷ xs) entry j = subst (λ (b : List Entry). entry ≡ entry_after rules b entry.port entry.frame) (append_assoc before (x ∷ []) xs) (journal_last rules (before ++ x ∷ []) xs entry j.2)

same_port : (m n : ℕ) → (m == n) ≡ true → m ≡ n
same_port m n e = grind (arith, common_steps)

-- entries with one frame of a port are one
one_entry : (port : ℕ) (packet : Packet) (more : List Entry) → EachPasses (λ (entry : Entry). entry.port == port) more → map (λ (entry : Entry). entry.frame) more ≡ packet ∷ [] → (entry : Entry) × (more ≡ entry ∷ []) × (entry.port ≡ port) × (entry.frame ≡ packet)
one_entry port packet [] all e = absurd cc
one_entry port packet (entry ∷ []) all e = (entry, refl, same_port entry.port port all.0, cc)
one_entry port packet (entry ∷ other ∷ more) all e = absurd (let n = ap length e in omega (arith, n))

one_kept : (rules : Rules) (before after more : List Entry) (port : ℕ) (packet : Packet) → after ≡ before ++ more → (o : (entry : Entry) × (more ≡ entry ∷ []) × (entry.port ≡ port) × (entry.frame ≡ packet)) → IsJournal rules [] after → after ≡ before ++ entry_after rules before port packet ∷ []
one_kept rules before after more port packet goes o legal =
    let is = goes ∙ ap (λ (l : List Entry). before ++ l) o.1 in
    let entry = journal_last rules [] before o.0 (subst (IsJournal rules []) is legal) in
    is ∙ (λ i. before ++ (entry ∙ (λ k. entry_after rules before (o.2 k) (o.3 k))) i ∷ [])

pub one_admitted : (rules : Rules) (port : ℕ) (before after : List Entry) (found : List Judged) (judged : Judged) (packet : Packet) (count : ℕ) → found ≡ [] ++ judged ∷ [] → judged.frame ≡ packet → count ≡ length (packets_of found) → Keeps port before after (take count (packets_of found)) → IsJournal rules [] after → after ≡ before ++ entry_after rules before port packet ∷ []
one_admitted rules port before after found judged packet count is frame all k legal =
    let these : packets_of found ≡ packet ∷ [] = ap packets_of is ∙ ap (λ (p : Packet). p ∷ []) frame in
    let n : count ≡ 1 = all ∙ ap length these in
    let took = k.took ∙ (λ i. take (n i) (these i)) in
    one_kept rules before after k.more port packet k.goes (one_entry port packet k.more k.ports took) legal

-- or it wasn't taken
pub none_admitted : (port : ℕ) (before after : List Entry) (found : List Judged) (judged : Judged) (count : ℕ) → found ≡ [] ++ judged ∷ [] → count < length (packets_of found) → Keeps port before after (take count (packets_of found)) → after ≡ before
none_admitted port before after found judged count is less k =
    let one = ap (λ (l : List Judged). length (packets_of l)) is in
    let n : count ≡ 0 = omega (arith, one, less) in
    let took = k.took ∙ ap (λ (m : ℕ). take m (packets_of found)) n in
    k.goes ∙ (ap (λ (l : List Entry). before ++ l) (none k.more took) ∙ append-nil before)
  where
    none : (more : List Entry) → map (λ (entry : Entry). entry.frame) more ≡ [] → more ≡ []
    none [] e = refl
    none (entry ∷ more) e = absurd cc

-- a journal took none of some frames
pub admits_nothing : {A E : Type 0} (fault : E) (port : ℕ) (journal : List Entry) (found : List Judged) → 0 < length found → Admits {A = A} (Err fault) port journal journal (packets_of found)
admits_nothing fault port journal found some = record {
  count = 0;
  kept = record { more = []; goes = sym (append-nil journal); ports = tt; took = refl };
  all = tt;
  some = let same = length-map found (λ (j : Judged). j.frame) in omega (arith, same, some);
}

-- the entries of a page after a journal that has none after its pages
only_pages : (pages last now : List Entry) → pages ++ last ≡ now → length last ≡ 0 → now ≡ pages
only_pages pages [] now view none = sym view ∙ append-nil pages
only_pages pages (x ∷ last) now view none = absurd (omega (arith, none))

pub page_keeps : (rules : Rules) (port : ℕ) (frames : List Packet) (stamps later : Kept) (table taught : Masks) (page pages last now : List Entry) → pages ++ last ≡ now → length last ≡ 0 → AdmitsThese rules port frames stamps later table taught page → Keeps port now (pages ++ page) frames
page_keeps rules port frames stamps later table taught page pages last now view none a = record {
  more = a.keeps.more;
  goes = ap (λ (l : List Entry). l ++ page) (sym (only_pages pages last now view none)) ∙ ap (λ (l : List Entry). now ++ l) a.keeps.goes;
  ports = a.keeps.ports;
  took = a.keeps.took;
}

pub page_after : (rules : Rules) (port : ℕ) (frames : List Packet) (stamps later : Kept) (table taught : Masks) (page pages last now : List Entry) → pages ++ last ≡ now → length last ≡ 0 → AdmitsThese rules port frames stamps later table taught page → table.ports ≡ rules.ports → IsAfter rules stamps table now → IsAfter rules later taught (pages ++ page)
page_after rules port frames stamps later table taught page pages last now view none a same h =
    subst (λ (l : List Entry). IsAfter rules later taught (l ++ page)) (only_pages pages last now view none) (a.after now same h)
