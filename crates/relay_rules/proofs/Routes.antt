-- What a relay keeps represents its state, step by step.
use Rattle.std.proofs.Common.{◌≡◌, ◌∙◌, ◌<◌, ◌≤◌, inl, inr, ℕ, zero, suc, ◌+◌, ◌==◌, ◌&&◌, ◌||◌, not, Bool, true, false, List, [], ◌∷◌, ◌++◌, length, map, get_or, set, slice_get, take, drop, Some, None, Option, is_some, is_none, refl, sym, ap, subst, arith}
use Rattle.std.specs.List.{remove}
use Rattle.std.proofs.lemmas.Grind.{common_steps}
use Rattle.std.proofs.lemmas.List.{length-map, map-append}
use Rattle.std.proofs.lemmas.Option.{slice_get_within}
use Rattle.mav_names.specs.declared.names.Name.{Name}
use Rattle.mav_frame.specs.Packet.{Packet}
use Rattle.mav_sign.specs.Kept.{Kept}
use Rattle.link_table.specs.OpenLinks.{StandsFor, Words, has_link, is_among, nodes_at}
use Rattle.link_table.specs.Routing.{has_port}
use Rattle.mav_router.specs.Journal.{Rules, is_unsigned, target_by}
use Rattle.relay_rules.specs.Kept.{AreNumbered, LinksKept, Represents, head_of, names_of}
use Rattle.relay_rules.specs.States.{LinkState, RelayState, closed, goes_to, heard, link_at, no_link, opened, opened_link, taught}
use Rattle.relay_rules.specs.Ways.{Chooses, ChoosesOf, is_chosen}
use Rattle.relay_rules.specs.declared.links.OpenLink.{OpenLink}
use Rattle.link_table.proofs.Bits.{same_or}
use Rattle.relay_rules.proofs.Numbering.{same_number}

-- ---- opening and closing

pub opens : (view : LinksKept) (links : List OpenLink) (words : Words) (port : ℕ) (state : RelayState) → links ≡ view.links ++ (record { number = view.given + 1; port = port }) ∷ [] → ((rows : List (List Name)) → StandsFor view.words rows → StandsFor words (rows ++ [] ∷ [])) → Represents view state → Represents (record { given = view.given + 1; links = links; words = words; kept = view.kept }) (opened port state)
opens view links words port state is stands r =
    let one = ap (λ (n : ℕ). n + 1) r.given in
    record {
      given = one;
      links = is ∙ ((λ i. r.links i ++ (record { number = one i; port = port }) ∷ []) ∙ sym (map-append head_of state.links (opened_link (state.given + 1) port ∷ [])));
      words = subst (StandsFor words) (sym (map-append names_of state.links (opened_link (state.given + 1) port ∷ []))) (stands (map names_of state.links) r.words);
      kept = r.kept;
    }

map-take : {A B : Type 0} (f : A → B) (n : ℕ) (xs : List A) → map f (take n xs) ≡ take n (map f xs)
map-take f zero xs = refl
map-take f (suc n) [] = refl
map-take f (suc n) (x ∷ xs) = ap (λ ys. f x ∷ ys) (map-take f n xs)

map-drop : {A B : Type 0} (f : A → B) (n : ℕ) (xs : List A) → map f (drop n xs) ≡ drop n (map f xs)
map-drop f zero xs = refl
map-drop f (suc n) [] = refl
map-drop f (suc n) (x ∷ xs) = map-drop f n xs

map-remove : {A B : Type 0} (f : A → B) (xs : List A) (k : ℕ) → map f (remove xs k) ≡ remove (map f xs) k
map-remove f xs k = map-append f (take k xs) (drop (suc k) xs) ∙ (λ i. map-take f k xs i ++ map-drop f (suc k) xs i)

pub closes : (view : LinksKept) (links : List OpenLink) (words : Words) (k : ℕ) (state : RelayState) → k < length view.links → links ≡ remove view.links k → ((rows : List (List Name)) → k < length rows → StandsFor view.words rows → StandsFor words (remove rows k)) → Represents view state → Represents (record { given = view.given; links = links; words = words; kept = view.kept }) (closed k state)
closes view links words k state within is stands r =
    let few : k < length (map names_of state.links) = let a = ap length r.links in let b = length-map state.links head_of in let c = length-map state.links names_of in omega (arith, within, a, b, c) in
    record {
      given = r.given;
      links = is ∙ (ap (λ (l : List OpenLink). remove l k) r.links ∙ sym (map-remove head_of state.links k));
      words = subst (StandsFor words) (sym (map-remove names_of state.links k)) (stands (map names_of state.links) few r.words);
      kept = r.kept;
    }

-- ---- the link at an index

pub heads : (links : List LinkState) (k : ℕ) → k < length links → slice_get (map head_of links) k ≡ Some (head_of (link_at links k))
heads [] k l = absurd (omega (arith, l))
heads (x ∷ xs) zero l = refl
heads (x ∷ xs) (suc k) l = heads xs k (omega (arith, l))

pub rows : (links : List LinkState) (k : ℕ) → nodes_at (map names_of links) k ≡ (link_at links k).names
rows [] zero = refl
rows [] (suc k) = refl
rows (x ∷ xs) zero = refl
rows (x ∷ xs) (suc k) = rows xs k

-- ---- a frame of a link

map-set : {A B : Type 0} (f : A → B) (xs : List A) (k : ℕ) (x : A) → map f (set xs k x) ≡ set (map f xs) k (f x)
map-set f [] zero x = refl
map-set f [] (suc k) x = refl
map-set f (y ∷ xs) zero x = refl
map-set f (y ∷ xs) (suc k) x = ap (λ ys. f y ∷ ys) (map-set f xs k x)

set_same : {A : Type 0} (xs : List A) (k : ℕ) (d : A) → set xs k (get_or xs k d) ≡ xs
set_same [] zero d = refl
set_same [] (suc k) d = refl
set_same (y ∷ xs) zero d = refl
set_same (y ∷ xs) (suc k) d = ap (λ ys. y ∷ ys) (set_same xs k d)

-- the heads stay
heads_stay : (links : List LinkState) (k : ℕ) (link : LinkState) → head_of link ≡ head_of (link_at links k) → map head_of (set links k link) ≡ map head_of links
heads_stay [] zero link e = refl
heads_stay [] (suc k) link e = refl
heads_stay (x ∷ xs) zero link e = ap (λ (h : OpenLink). h ∷ map head_of xs) e
heads_stay (x ∷ xs) (suc k) link e = ap (λ (hs : List OpenLink). head_of x ∷ hs) (heads_stay xs k link e)

pub hears_refused : (view : LinksKept) (k : ℕ) (from : Name) (state : RelayState) → Represents view state → Represents view (heard k false from view.kept state)
hears_refused view k from state r =
    let same : set state.links k (taught false from (link_at state.links k)) ≡ state.links = set_same state.links k no_link in
    record {
      given = r.given;
      links = r.links ∙ ap (map head_of) (sym same);
      words = subst (λ (l : List LinkState). StandsFor view.words (map names_of l)) (sym same) r.words;
      kept = refl;
    }

pub hears_admitted : (view : LinksKept) (words : Words) (k : ℕ) (from : Name) (state : RelayState) → k < length view.links → ((names : List (List Name)) → k < length names → StandsFor view.words names → StandsFor words (set names k (nodes_at names k ++ from ∷ []))) → Represents view state → Represents (record { given = view.given; links = view.links; words = words; kept = view.kept }) (heard k true from view.kept state)
hears_admitted view words k from state within stands r =
    let few : k < length (map names_of state.links) = let a = ap length r.links in let b = length-map state.links head_of in let c = length-map state.links names_of in omega (arith, within, a, b, c) in
    let link = taught true from (link_at state.links k) in
    let is : set (map names_of state.links) k (nodes_at (map names_of state.links) k ++ from ∷ []) ≡ map names_of (set state.links k link) =
    ap (λ (names : List Name). set (map names_of state.links) k (names ++ from ∷ [])) (rows state.links k) ∙ sym (map-set names_of state.links k link) in
    record {
      given = r.given;
      links = r.links ∙ sym (heads_stay state.links k link refl);
      words = subst (StandsFor words) is (stands (map names_of state.links) few r.words);
      kept = refl;
    }

-- what was chosen of the links is where the frame goes
pub goes : (rules : Rules) (packet : Packet) (view : LinksKept) (own k behind ways : ℕ) (target : Name) (is_signed : Bool) (state : RelayState) → AreNumbered view.given view.links → own < length view.links → k < length state.links → length view.links ≤ 32 → target ≡ target_by rules packet → is_signed ≡ not (is_unsigned packet) → ((names : List (List Name)) (j : ℕ) → j < 32 → StandsFor view.words names → has_link behind j ≡ is_among (nodes_at names j) target) → Chooses view.links behind own is_signed rules.plain ways → Represents view state → has_link ways k ≡ goes_to rules packet (link_at state.links own) (link_at state.links k)
goes rules packet view own k behind ways target is_signed state numbered own_in k_in few target_is signed among chooses r =
    let a = ap length r.links in
    let b = length-map state.links head_of in
    let own_there = ap (λ (l : List OpenLink). slice_get l own) r.links ∙ heads state.links own (omega (arith, a, b, own_in)) in
    let there = ap (λ (l : List OpenLink). slice_get l k) r.links ∙ heads state.links k k_in in
    let other = link_at state.links k in
    let name = same_number view.given own k (head_of (link_at state.links own)) (head_of other) view.links numbered own_there there in
    let behind_is = among (map names_of state.links) k (omega (arith, a, b, k_in, few)) r.words ∙ (λ i. is_among (rows state.links k i) (target_is i)) in
    chooses.each k (head_of other) (slice_get_within view.links k (head_of other) there) there
    ∙ (λ i. not (sym name i) && (behind_is i && (signed i || has_port rules.plain other.port)))

-- ---- the links that a frame goes to, one more

pub got : (xs : List OpenLink) (k : ℕ) (d : OpenLink) → k < length xs → slice_get xs k ≡ Some (get_or xs k d)
got [] k d l = absurd (omega (arith, l))
got (x ∷ xs) zero d l = refl
got (x ∷ xs) (suc k) d l = got xs k d (omega (arith, l))

pub none_chosen : (links : List OpenLink) (behind own : ℕ) (is_signed : Bool) (plain : List Bool) (ways : ℕ) → ((k : ℕ) → has_link ways k ≡ false) → ChoosesOf 0 links behind own is_signed plain ways
none_chosen links behind own is_signed plain ways none = record {
  each = λ k link l there. absurd (omega (arith, l));
  few = λ k l. none k;
}

pub more_chosen : (at : ℕ) (links : List OpenLink) (behind own : ℕ) (is_signed : Bool) (plain : List Bool) (ways more : ℕ) (link : OpenLink) → slice_get links at ≡ Some link → is_chosen link at behind own is_signed plain ≡ true → ((k : ℕ) → has_link more k ≡ ((at == k) || has_link ways k)) → ChoosesOf at links behind own is_signed plain ways → ChoosesOf (at + 1) links behind own is_signed plain more
more_chosen at links behind own is_signed plain ways more link there is adds c = record {
  each = λ k other l here. elim (same_or at k) [
    | inl e ↦
        let same : link ≡ other = both (subst (λ (n : ℕ). slice_get links n ≡ Some link) e.0 there) here in
        adds k ∙ (ap (λ (b : Bool). b || has_link ways k) e.1 ∙ sym ((λ i. is_chosen (sym same i) (sym e.0 i) behind own is_signed plain) ∙ is))
    | inr e ↦ adds k ∙ (ap (λ (b : Bool). b || has_link ways k) e.1 ∙ c.each k other (let apart = e.0 in less k at l (λ f. apart (sym f))) here)
  ];
  few = λ k l. adds k ∙ (ap (λ (b : Bool). b || has_link ways k) (not_same at k l) ∙ c.few k (omega (arith, l)));
}
  where
    both : {a b : OpenLink} {o : _} → o ≡ Some a → o ≡ Some b → a ≡ b
    both {a} {b} e f = cc

    less : (m n : ℕ) → m < n + 1 → (m ≡ n → ⊥) → m < n
    less m n l apart = omega (arith, l, apart)

    not_same : (m n : ℕ) → m + 1 ≤ n → (m == n) ≡ false
    not_same m n l = grind (arith, common_steps)

pub same_chosen : (at : ℕ) (links : List OpenLink) (behind own : ℕ) (is_signed : Bool) (plain : List Bool) (ways : ℕ) (link : OpenLink) → slice_get links at ≡ Some link → is_chosen link at behind own is_signed plain ≡ false → ChoosesOf at links behind own is_signed plain ways → ChoosesOf (at + 1) links behind own is_signed plain ways
same_chosen at links behind own is_signed plain ways link there is c = record {
  each = λ k other l here. elim (same_or at k) [
    | inl e ↦
        let same : link ≡ other = both (subst (λ (n : ℕ). slice_get links n ≡ Some link) e.0 there) here in
        c.few k (omega (arith, e.0)) ∙ sym ((λ i. is_chosen (sym same i) (sym e.0 i) behind own is_signed plain) ∙ is)
    | inr e ↦ c.each k other (let apart = e.0 in less k at l (λ f. apart (sym f))) here
  ];
  few = λ k l. c.few k (omega (arith, l));
}
  where
    both : {a b : OpenLink} {o : _} → o ≡ Some a → o ≡ Some b → a ≡ b
    both {a} {b} e f = cc

    less : (m n : ℕ) → m < n + 1 → (m ≡ n → ⊥) → m < n
    less m n l apart = omega (arith, l, apart)

-- ---- the port of a link

pub port_is : (view : LinksKept) (k : ℕ) (link : OpenLink) (state : RelayState) → k < length view.links → slice_get view.links k ≡ Some link → Represents view state → link.port ≡ (link_at state.links k).port
port_is view k link state within there r =
    let a = ap length r.links in
    let b = length-map state.links head_of in
    let is = ap (λ (l : List OpenLink). slice_get l k) r.links ∙ heads state.links k (omega (arith, a, b, within)) in
    ap (λ (o : OpenLink). o.port) (both (sym there ∙ is))
  where
    both : {x y : OpenLink} → Some x ≡ Some y → x ≡ y
    both {x} {y} e = cc

-- another verifier's state
pub with_kept : (view : LinksKept) (kept : Kept) (state : RelayState) → Represents view state → Represents (record { given = view.given; links = view.links; words = view.words; kept = kept }) (record { given = state.given; links = state.links; kept = kept })
with_kept view kept state r = record { given = r.given; links = r.links; words = r.words; kept = refl }

pub element : (xs : List OpenLink) (k : ℕ) (x : OpenLink) → k < length xs → x ≡ get_or xs k x → slice_get xs k ≡ Some x
element xs k x l e = got xs k x l ∙ ap Some (sym e)

pub some_not_none : {A : Type 0} (o : Option A) → is_some o ≡ not (is_none o)
some_not_none None = refl
some_not_none (Some a) = refl
