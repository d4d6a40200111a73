-- The links of a hub and of a run, after what a hub does.
use Rattle.std.proofs.Common.{◌≡◌, ◌∙◌, ℕ, zero, suc, ◌+◌, ◌-◌, true, List, [], ◌∷◌, ◌++◌, length, map, set, take, drop, get_or, slice_get, Option, Some, None, refl, sym, ap, arith, length-drop}
use Rattle.std.specs.Prelude.{IfSome}
use Rattle.std.specs.List.{remove}
use Rattle.std.specs.Option.{option_map}
use Rattle.std.proofs.lemmas.List.{length-map, map-append, map-set, take_all}
use Rattle.std.proofs.Math.ListN.{get_or-map}
use Rattle.std.proofs.Math.Seq.{set-append_seam}
use Rattle.mav_sign.specs.Kept.{Kept}
use Rattle.mav_router.specs.Journal.{Rules}
use Rattle.relay_rules.specs.Kept.{LinksKept, Represents, head_of}
use Rattle.relay_rules.specs.States.{LinkState, RelayState, link_at, no_link, opened_link}
use Rattle.relay_rules.specs.declared.links.OpenLink.{OpenLink}
use Rattle.relay_hub.specs.Hubs.{HubState, Tape as HubTape, adopts, asks, blank, closes, gives, opens, place_of, takes, tape_of}
use Rattle.relay_core.specs.Calls.{RunIs}
use Rattle.relay_core.specs.Moves.{closed_run, gave, gave_run, no_tape, opened_run, tape_at, tape_place, took, took_run}
use Rattle.relay_core.specs.RelayRuns.{RelayKept, RelayRun, Tape}
use Rattle.relay_hub.specs.declared.news.Stranger.{Stranger}
use Rattle.relay_run.specs.Rounds.{Agrees, bytes_of}
use Rattle.relay_run.specs.Taking.{joins}

pub if_mapped : {A B : Type 0} (o : Option A) (f : A → B) (P : A → Type 0) (Q : B → Type 0) → ((a : A) → P a → Q (f a)) → IfSome o P → IfSome (option_map f o) Q
if_mapped None f P Q g h = tt
if_mapped (Some a) f P Q g h = g a h

pub if_so : {A : Type 0} (o : Option A) (P Q : A → Type 0) → ((a : A) → P a → Q a) → IfSome o P → IfSome o Q
if_so None P Q g h = tt
if_so (Some a) P Q g h = g a h

abbrev pub numbers : List LinkState → List ℕ
numbers links = map (λ (link : LinkState). link.number) links

heads_numbers : (links : List LinkState) → map (λ (link : OpenLink). link.number) (map head_of links) ≡ numbers links
heads_numbers [] = refl
heads_numbers (link ∷ links) = ap (λ (l : List ℕ). link.number ∷ l) (heads_numbers links)

-- the same links with the same numbers
pub same_numbers : (old new : LinksKept) (before after : RelayState) → Represents old before → Represents new after → new.links ≡ old.links → numbers after.links ≡ numbers before.links
same_numbers old new before after r s same =
    sym (heads_numbers after.links)
    ∙ (ap (map (λ (link : OpenLink). link.number)) (sym s.links ∙ (same ∙ r.links))
    ∙ heads_numbers before.links)

pub number_at : (links : List LinkState) (index : ℕ) (link : OpenLink) → slice_get (map head_of links) index ≡ Some link → (link_at links index).number ≡ link.number
number_at [] index link e = absurd (nothing index e)
  where
    nothing : (k : ℕ) → slice_get [] k ≡ Some link → ⊥
    nothing zero f = cc
    nothing (suc k) f = cc
number_at (l ∷ links) zero link e = ap (λ (o : Option OpenLink). number_or o) e
  where
    number_or : Option OpenLink → ℕ
    number_or None = 0
    number_or (Some one) = one.number
number_at (l ∷ links) (suc k) link e = number_at links k link e

-- ---- a link more, or one less

pub agrees_opened : (rules : Rules) (start : Kept) (run : RelayRun) (view : RelayKept) (port : ℕ) (s : HubState) → RunIs rules start run view → Agrees run s → Agrees (opened_run port run) (opens (blank port) s)
agrees_opened rules start run view port s is a =
    let count : length s.tapes + 1 ≡ run.course.state.given + 1 = ap (λ (n : ℕ). n + 1) (sym (length-map s.tapes bytes_of) ∙ (ap length a.tapes ∙ is.holds.so_far.tapes)) in
    record {
      tapes = map-append bytes_of s.tapes (blank port ∷ []) ∙ ap (λ (l : List Tape). l ++ no_tape ∷ []) a.tapes;
      links =
          ap (λ (l : List ℕ). l ++ (length s.tapes + 1) ∷ []) a.links
          ∙ (ap (λ (n : ℕ). numbers run.course.state.links ++ n ∷ []) count
          ∙ sym (map-append (λ (link : LinkState). link.number) run.course.state.links (opened_link (run.course.state.given + 1) port ∷ [])));
    }

pub remove_map : {A B : Type 0} (f : A → B) (xs : List A) (k : ℕ) → map f (remove xs k) ≡ remove (map f xs) k
remove_map f [] zero = refl
remove_map f [] (suc k) = refl
remove_map f (x ∷ xs) zero = refl
remove_map {A} {B} f (x ∷ xs) (suc k) = ap (λ (l : List B). f x ∷ l) (remove_map f xs k)

pub agrees_closed : (run : RelayRun) (index : ℕ) (s : HubState) → Agrees run s → Agrees (closed_run index run) (closes index s)
agrees_closed run index s a = record {
  tapes = a.tapes;
  links = ap (λ (l : List ℕ). remove l index) a.links ∙ sym (remove_map (λ (link : LinkState). link.number) run.course.state.links index);
}

-- ---- bytes of an open link

same_place : (run : RelayRun) (index : ℕ) (s : HubState) → Agrees run s → place_of index s ≡ tape_place run index
same_place run index s a =
    ap (λ (n : ℕ). n - 1) (ap (λ (l : List ℕ). get_or l index 0) a.links ∙ get_or-map (λ (link : LinkState). link.number) run.course.state.links index no_link)

same_tape : (run : RelayRun) (index : ℕ) (s : HubState) → Agrees run s → bytes_of (tape_of index s) ≡ tape_at run index
same_tape run index s a =
    sym (get_or-map bytes_of s.tapes (place_of index s) (blank 0))
    ∙ (ap (λ (l : List Tape). get_or l (place_of index s) no_tape) a.tapes
    ∙ ap (λ (n : ℕ). get_or run.tapes n no_tape) (same_place run index s a))

pub gave_tapes : (run : RelayRun) (index : ℕ) (bytes : List ℕ) (s : HubState) → Agrees run s → map bytes_of (gives index bytes s).tapes ≡ (gave_run index bytes run).tapes
gave_tapes run index bytes s a =
    map-set bytes_of s.tapes (place_of index s) _
    ∙ (ap (λ (t : Tape). set (map bytes_of s.tapes) (place_of index s) (gave bytes t)) (same_tape run index s a)
    ∙ (ap (λ (l : List Tape). set l (place_of index s) (gave bytes (tape_at run index))) a.tapes
    ∙ ap (λ (n : ℕ). set run.tapes n (gave bytes (tape_at run index))) (same_place run index s a)))

pub agrees_gave : (run now : RelayRun) (index : ℕ) (bytes : List ℕ) (s : HubState) → now.tapes ≡ (gave_run index bytes run).tapes → numbers now.course.state.links ≡ numbers run.course.state.links → Agrees run s → Agrees now (gives index bytes s)
agrees_gave run now index bytes s tapes same a = record { tapes = gave_tapes run index bytes s a ∙ sym tapes; links = a.links ∙ sym same }

pub agrees_took : (run : RelayRun) (index : ℕ) (bytes : List ℕ) (s : HubState) → Agrees run s → Agrees (took_run index bytes run) (takes index bytes s)
agrees_took run index bytes s a = record {
  tapes =
      map-set bytes_of s.tapes (place_of index s) _
      ∙ (ap (λ (t : Tape). set (map bytes_of s.tapes) (place_of index s) (took bytes t)) (same_tape run index s a)
      ∙ (ap (λ (l : List Tape). set l (place_of index s) (took bytes (tape_at run index))) a.tapes
      ∙ ap (λ (n : ℕ). set run.tapes n (took bytes (tape_at run index))) (same_place run index s a)));
  links = a.links;
}

-- nothing was given or taken
same_set : {A : Type 0} (xs : List A) (k : ℕ) (d : A) → set xs k (get_or xs k d) ≡ xs
same_set [] zero d = refl
same_set [] (suc k) d = refl
same_set (x ∷ xs) zero d = refl
same_set {A} (x ∷ xs) (suc k) d = ap (λ (l : List A). x ∷ l) (same_set xs k d)

nil : (xs : List ℕ) → xs ++ [] ≡ xs
nil [] = refl
nil (x ∷ xs) = ap (λ (l : List ℕ). x ∷ l) (nil xs)

pub gives_nothing : (index : ℕ) (s : HubState) → gives index [] s ≡ s
gives_nothing index s =
    ap (λ (l : List HubTape). record s { tapes = l })
    (ap (λ (l : List ℕ). set s.tapes (place_of index s) (record (tape_of index s) { given = l })) (nil (tape_of index s).given)
    ∙ same_set s.tapes (place_of index s) (blank 0))

pub takes_nothing : (index : ℕ) (s : HubState) → takes index [] s ≡ s
takes_nothing index s =
    ap (λ (l : List HubTape). record s { tapes = l })
    (ap (λ (l : List ℕ). set s.tapes (place_of index s) (record (tape_of index s) { taken = l })) (nil (tape_of index s).taken)
    ∙ same_set s.tapes (place_of index s) (blank 0))

-- ---- a link that gave its bytes as it opened

last_of : {A : Type 0} (xs : List A) (y d : A) → get_or (xs ++ y ∷ []) (length xs) d ≡ y
last_of [] y d = refl
last_of (x ∷ xs) y d = last_of xs y d

less : (n : ℕ) → n + 1 - 1 ≡ n
less n = omega arith

joined_place : (port index : ℕ) (s : HubState) → index ≡ length s.links → place_of index (opens (blank port) s) ≡ length s.tapes
joined_place port index s e =
    ap (λ (n : ℕ). n - 1) (ap (λ (n : ℕ). get_or (s.links ++ (length s.tapes + 1) ∷ []) n 0) e ∙ last_of s.links (length s.tapes + 1) 0)
    ∙ less (length s.tapes)

pub joined_tapes : (port index : ℕ) (bytes : List ℕ) (s : HubState) → index ≡ length s.links → (gives index bytes (opens (blank port) s)).tapes ≡ (joins port bytes s).tapes
joined_tapes port index bytes s e =
    let all = s.tapes ++ blank port ∷ [] in
    let longer : HubTape → HubTape = λ tape. record tape { given = tape.given ++ bytes } in
    ap (λ (n : ℕ). set all n (longer (get_or all n (blank 0)))) (joined_place port index s e)
    ∙ (ap (λ (t : HubTape). set all (length s.tapes) (longer t)) (last_of s.tapes (blank port) (blank 0))
    ∙ set-append_seam s.tapes (blank port) [] (longer (blank port)))

pub as_many : (rules : Rules) (start : Kept) (run : RelayRun) (view : RelayKept) (s : HubState) → RunIs rules start run view → Agrees run s → length view.links.links ≡ length s.links
as_many rules start run view s is a =
    ap length is.holds.so_far.links.links
    ∙ (length-map run.course.state.links head_of
    ∙ (sym (length-map run.course.state.links (λ (link : LinkState). link.number))
    ∙ ap length (sym a.links)))

-- the sender of the datagram that was asked for
pub adopted_as : (hub : Option HubState) (came : Stranger) (buf : List ℕ) (from : ℕ)
    → option_map (adopts true from) (option_map (asks (Some came) buf) hub) ≡ option_map (joins came.port (drop from (take came.count buf))) (option_map (asks (Some came) buf) hub)
adopted_as None came buf from = refl
adopted_as (Some s) came buf from = refl

-- a slice up to the end
pub to_end : (from : ℕ) (bytes : List ℕ) → take (length bytes - from) (drop from bytes) ≡ drop from bytes
to_end from bytes = take_all (length bytes - from) (drop from bytes) (omega (arith, length-drop from bytes))
