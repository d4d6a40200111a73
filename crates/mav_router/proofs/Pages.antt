-- The pages of a journal.
use Rattle.std.proofs.Common.{◌≡◌, ◌∙◌, inl, inr, ℕ, zero, suc, ◌+◌, ◌-◌, ◌<◌, ◌≤◌, List, [], ◌∷◌, ◌++◌, length, take, drop, replicate, get_or, Some, refl, ap, sym, subst, arith, append_assoc, length-append}
use Rattle.std.specs.Prelude.{slice_get}
use Rattle.std.proofs.lemmas.Grind.{flat_map-append}
use Rattle.std.proofs.lemmas.List.{append-nil, length-replicate, take-append-le, take-append-drop}
use Rattle.std.proofs.lemmas.Option.{get_or_from_slice_get, slice_get-get_or, slice_get_within}
use Rattle.std.proofs.lemmas.Bool.{cases_lt}
use Rattle.std.proofs.lemmas.List.Elements.{filter_map-append}
use Rattle.std.proofs.Math.Seq.{take-append-add}
use Rattle.mav_router.specs.Journal.{frame_to, frames_to}
use Rattle.mav_router.specs.declared.entries.Entry.{Entry}
use Rattle.mav_router.specs.PageState.{PageState}
use Rattle.mav_router.specs.Pages.{entries_in_pages, end_of_page, AreConsecutive, IsIn, HasPage, AreIndexed, IsWindow, SharesFrom, StandsIn}

abbrev of_page : PageState → List Entry
of_page page = page.entries

-- ---- an element of two lists

pub got_front : {A : Type 0} (xs ys : List A) (k : ℕ) → k < length xs → slice_get (xs ++ ys) k ≡ slice_get xs k
got_front [] ys k less = absurd (omega (arith, less))
got_front (x ∷ xs) ys zero less = refl
got_front (x ∷ xs) ys (suc k) less = got_front xs ys k (omega (arith, less))

pub got_after : {A : Type 0} (xs ys : List A) (k : ℕ) → length xs ≤ k → slice_get (xs ++ ys) k ≡ slice_get ys (k - length xs)
got_after [] ys k past = let e : k ≡ k - 0 = omega arith in ap (slice_get ys) e
got_after (x ∷ xs) ys zero past = absurd (omega (arith, past))
got_after (x ∷ xs) ys (suc k) past =
    let e : k - length xs ≡ suc k - suc (length xs) = omega arith in
    got_after xs ys k (omega (arith, past)) ∙ ap (slice_get ys) e

pub got_back : {A : Type 0} (xs ys : List A) (k : ℕ) → slice_get (xs ++ ys) (length xs + k) ≡ slice_get ys k
got_back xs ys k = let e : length xs + k - length xs ≡ k = omega arith in got_after xs ys (length xs + k) (omega arith) ∙ ap (slice_get ys) e

got_replicate : {A : Type 0} (n k : ℕ) (x y : A) → slice_get (replicate n x) k ≡ Some y → x ≡ y
got_replicate zero k x y e = absurd cc
got_replicate (suc n) zero x y e = cc
got_replicate (suc n) (suc k) x y e = got_replicate n k x y e

-- ---- where pages start

starts : (start : ℕ) (pages : List PageState) (number : ℕ) (page : PageState) → AreConsecutive start pages → slice_get pages number ≡ Some page → page.start ≡ start + length (entries_in_pages (take number pages))
starts start [] number page c e = absurd cc
starts start (p ∷ pages) zero page c e = let same : p ≡ page = cc in ap (λ (q : PageState). q.start) (sym same) ∙ (c.0 ∙ omega arith)
starts start (p ∷ pages) (suc number) page c e =
    starts (start + length p.entries) pages number page c.1 e ∙ omega (arith, length-append p.entries (entries_in_pages (take number pages)))

-- the entries of a page stand in the journal after those of the pages before it
pub entry_there : (pages : List PageState) (number k : ℕ) (page : PageState) → slice_get pages number ≡ Some page → k < length page.entries → slice_get (entries_in_pages pages) (length (entries_in_pages (take number pages)) + k) ≡ slice_get page.entries k
entry_there [] number k page e less = absurd cc
entry_there (p ∷ pages) zero k page e less =
    let same : p ≡ page = cc in
    let place : 0 + k ≡ k = omega arith in
    ap (slice_get (p.entries ++ entries_in_pages pages)) place
    ∙ (got_front p.entries (entries_in_pages pages) k (subst (λ (q : PageState). k < length q.entries) (sym same) less) ∙ ap (λ (q : PageState). slice_get q.entries k) same)
entry_there (p ∷ pages) (suc number) k page e less =
    let before = entries_in_pages (take number pages) in
    let place : length (p.entries ++ before) + k ≡ length p.entries + (length before + k) = omega (arith, length-append p.entries before) in
    ap (slice_get (p.entries ++ entries_in_pages pages)) place
    ∙ (got_back p.entries (entries_in_pages pages) (length before + k) ∙ entry_there pages number k page e less)

-- the entry of an index, by its page
pub entry_in_page : (pages : List PageState) (number index : ℕ) (page : PageState) → AreConsecutive 0 pages → slice_get pages number ≡ Some page → IsIn page index → slice_get page.entries (index - page.start) ≡ slice_get (entries_in_pages pages) index
entry_in_page pages number index page c there inside =
    let at = starts 0 pages number page c there in
    let before = entries_in_pages (take number pages) in
    let place : length before + (index - page.start) ≡ index = omega (arith, at, inside.from) in
    sym (entry_there pages number (index - page.start) page there (omega (arith, inside.from, inside.to))) ∙ ap (slice_get (entries_in_pages pages)) place

-- ---- one more page

consecutive_more : (start : ℕ) (pages : List PageState) (page : PageState) → AreConsecutive start pages → page.start ≡ start + length (entries_in_pages pages) → AreConsecutive start (pages ++ page ∷ [])
consecutive_more start [] page c e = (e ∙ omega arith, tt)
consecutive_more start (p ∷ pages) page c e =
    (c.0, consecutive_more (start + length p.entries) pages page c.1 (e ∙ omega (arith, length-append p.entries (entries_in_pages pages))))

pub entries_more : (pages : List PageState) (page : PageState) → entries_in_pages (pages ++ page ∷ []) ≡ entries_in_pages pages ++ page.entries
entries_more pages page = flat_map-append of_page pages (page ∷ []) ∙ ap (λ (l : List Entry). entries_in_pages pages ++ l) (append-nil page.entries)

pub indexed_more : (pages : List PageState) (page_of : List ℕ) (page : PageState) (count number : ℕ) → AreIndexed pages page_of → page.start ≡ length page_of → count ≡ length page.entries → number ≡ length pages → AreIndexed (pages ++ page ∷ []) (page_of ++ replicate count number)
indexed_more pages page_of page count number indexed at size last = record {
  consecutive = consecutive_more 0 pages page indexed.consecutive (at ∙ (indexed.count ∙ omega arith));
  count =
      let more = ap length (entries_more pages page) in
      omega (arith, indexed.count, more, length-append page_of (replicate count number), length-replicate count number, length-append (entries_in_pages pages) page.entries, size);
  found = λ index k e. elim (cases_lt index (length page_of)) [
    | inl below ↦
        let h = indexed.found index k (sym (got_front page_of (replicate count number) index below) ∙ e) in
        record { page = h.page; there = got_front pages (page ∷ []) k (slice_get_within pages k h.page h.there) ∙ h.there; inside = h.inside }
    | inr past ↦
        let e2 = sym (got_after page_of (replicate count number) index past) ∙ e in
        let is : number ≡ k = got_replicate count (index - length page_of) number k e2 in
        let small = slice_get_within (replicate count number) (index - length page_of) k e2 in
        record {
          page = page;
          there = (let there : slice_get (pages ++ page ∷ []) (length pages + 0) ≡ Some page = got_back pages (page ∷ []) 0 in let place : k ≡ length pages + 0 = omega (arith, is, last) in ap (slice_get (pages ++ page ∷ [])) place ∙ there);
          inside = record { from = omega (arith, at, past); to = omega (arith, at, past, small, size, length-replicate count number) };
        }
  ];
}

-- ---- pages that are shared

consecutive_front : (start : ℕ) (pages : List PageState) (count : ℕ) → AreConsecutive start pages → AreConsecutive start (take count pages)
consecutive_front start pages zero c = tt
consecutive_front start [] (suc count) c = tt
consecutive_front start (p ∷ pages) (suc count) c = (c.0, consecutive_front (start + length p.entries) pages count c.1)

consecutive_back : (start : ℕ) (pages : List PageState) (number : ℕ) → AreConsecutive start pages → AreConsecutive (start + length (entries_in_pages (take number pages))) (drop number pages)
consecutive_back start pages zero c = let e : start ≡ start + 0 = omega arith in subst (λ (n : ℕ). AreConsecutive n pages) e c
consecutive_back start [] (suc number) c = tt
consecutive_back start (p ∷ pages) (suc number) c =
    let e : (start + length p.entries) + length (entries_in_pages (take number pages)) ≡ start + length (p.entries ++ entries_in_pages (take number pages)) = omega (arith, length-append p.entries (entries_in_pages (take number pages))) in
    subst (λ (n : ℕ). AreConsecutive n (drop number pages)) e (consecutive_back (start + length p.entries) pages number c.1)

parted : (pages : List PageState) (n : ℕ) → entries_in_pages pages ≡ entries_in_pages (take n pages) ++ entries_in_pages (drop n pages)
parted pages n = ap entries_in_pages (sym (take-append-drop n pages)) ∙ flat_map-append of_page (take n pages) (drop n pages)

-- nothing is shared
pub no_window : (journal : List Entry) (from : ℕ) → IsWindow journal from []
no_window journal from = record { before = []; after = journal; goes = refl; consecutive = tt; reaches = omega arith }

-- pages from that of an index on
pub window : (pages : List PageState) (last : List Entry) (from number : ℕ) (shared : List PageState) → AreConsecutive 0 pages → HasPage pages number from → SharesFrom pages number shared → IsWindow (entries_in_pages pages ++ last) from shared
window pages last from number shared c h s =
    let rest = drop number pages in
    let before = entries_in_pages (take number pages) in
    let after = entries_in_pages (drop s.count rest) in
    let at = starts 0 pages number h.page c h.there in
    record {
      before = before;
      after = after ++ last;
      goes =
          ap (λ (l : List Entry). l ++ last) (parted pages number ∙ ap (λ (l : List Entry). before ++ l) (parted rest s.count))
          ∙ (append_assoc before (entries_in_pages (take s.count rest) ++ after) last
          ∙ ap (λ (l : List Entry). before ++ l) (append_assoc (entries_in_pages (take s.count rest)) after last
          ∙ ap (λ (p : List PageState). entries_in_pages p ++ (after ++ last)) (sym s.are)));
      consecutive =
          let from : 0 + length before ≡ length before = omega arith in
          subst (AreConsecutive (length before)) (sym s.are) (consecutive_front (length before) rest s.count (subst (λ (n : ℕ). AreConsecutive n rest) from (consecutive_back 0 pages number c)));
      reaches = omega (arith, at, h.inside.from);
    }

pub shares_none : (sealed : List PageState) (number : ℕ) → SharesFrom sealed number []
shares_none sealed number = record { count = 0; are = refl }

-- one more of them
pub shares_more : (sealed : List PageState) (from number : ℕ) (page : PageState) → from ≤ number → slice_get sealed number ≡ Some page → take (number + 1 - from) (drop from sealed) ≡ take (number - from) (drop from sealed) ++ page ∷ []
shares_more sealed zero number page low there =
    let e : number + 1 - 0 ≡ suc number = omega arith in
    let f : number ≡ number - 0 = omega arith in
    ap (λ (n : ℕ). take n sealed) e ∙ (one_more sealed number page there ∙ ap (λ (n : ℕ). take n sealed ++ page ∷ []) f)
  where
    one_more : {A : Type 0} (xs : List A) (k : ℕ) (x : A) → slice_get xs k ≡ Some x → take (suc k) xs ≡ take k xs ++ x ∷ []
    one_more [] k x e = absurd cc
    one_more (y ∷ xs) zero x e = ap (λ z. z ∷ []) (let s : y ≡ x = cc in s)
    one_more (y ∷ xs) (suc k) x e = ap (λ l. y ∷ l) (one_more xs k x e)
shares_more [] (suc from) number page low there = absurd cc
shares_more (p ∷ sealed) (suc from) zero page low there = absurd (omega (arith, low))
shares_more (p ∷ sealed) (suc from) (suc number) page low there =
    let e : suc number + 1 - suc from ≡ number + 1 - from = omega arith in
    let f : suc number - suc from ≡ number - from = omega arith in
    ap (λ (n : ℕ). take n (drop from sealed)) e ∙ (shares_more sealed from number page (omega (arith, low)) there ∙ ap (λ (n : ℕ). take n (drop from sealed) ++ page ∷ []) (sym f))

-- the page whose number is known for an index
pub page_found : (pages : List PageState) (page_of : List ℕ) (index : ℕ) (page : PageState) → index < length page_of → AreIndexed pages page_of → page ≡ get_or pages (get_or page_of index 0) page → IsIn page index × (slice_get page.entries (index - page.start) ≡ slice_get (entries_in_pages pages) index)
page_found pages page_of index page within indexed is =
    let number = get_or page_of index 0 in
    let h = indexed.found index number (slice_get-get_or page_of index 0 within) in
    let same : h.page ≡ page = sym (is ∙ get_or_from_slice_get pages number h.page page h.there) in (
      subst (λ (p : PageState). IsIn p index) same h.inside,
      subst (λ (p : PageState). slice_get p.entries (index - p.start) ≡ slice_get (entries_in_pages pages) index) same (entry_in_page pages number index h.page indexed.consecutive h.there h.inside),
    )

pub number_within : (pages : List PageState) (page_of : List ℕ) (index : ℕ) → index < length page_of → AreIndexed pages page_of → get_or page_of index 0 < length pages
number_within pages page_of index within indexed =
    let h = indexed.found index (get_or page_of index 0) (slice_get-get_or page_of index 0 within) in
    slice_get_within pages (get_or page_of index 0) h.page h.there

-- ---- the frames for a port

-- those of entries before a page and of the first ones in it
pub frames_within : (port : ℕ) (before entries after : List Entry) (start at : ℕ) → start ≡ length before → at ≤ length entries → frames_to port (take (start + at) (before ++ (entries ++ after))) ≡ frames_to port before ++ frames_to port (take at entries)
frames_within port before entries after start at is low =
    ap (λ (n : ℕ). frames_to port (take (n + at) (before ++ (entries ++ after)))) is
    ∙ (ap (frames_to port) (take-append-add before (entries ++ after) at ∙ ap (λ (l : List Entry). before ++ l) (take-append-le at entries after low))
    ∙ filter_map-append (frame_to port) before (take at entries))

-- the page with this number in a window
pub record StandsAt (journal : List Entry) (page : PageState) (start end : ℕ) : Type 0 where
  pub stands : StandsIn journal page
  pub start_is : page.start ≡ start
  pub end_is : end_of_page page ≡ end

pub page_within : (journal : List Entry) (page : PageState) → StandsIn journal page → end_of_page page ≤ length journal
page_within journal page s =
    let long = ap length s.goes in
    omega (arith, long, length-append s.before (page.entries ++ s.after), length-append page.entries s.after, s.at)

-- where a window's page of a number starts
abbrev pub start_in : {journal : List Entry} {from : ℕ} {pages : List PageState} → IsWindow journal from pages → ℕ → ℕ
start_in {journal} {from} {pages} w number = length w.before + length (entries_in_pages (take number pages))

next_entries : (pages : List PageState) (number : ℕ) (page : PageState) → slice_get pages number ≡ Some page → entries_in_pages pages ≡ entries_in_pages (take number pages) ++ (page.entries ++ entries_in_pages (drop (suc number) pages))
next_entries [] number page e = absurd cc
next_entries (p ∷ pages) zero page e = let same : p ≡ page = cc in ap (λ (q : PageState). q.entries ++ entries_in_pages pages) same
next_entries (p ∷ pages) (suc number) page e =
    ap (λ (l : List Entry). p.entries ++ l) (next_entries pages number page e)
    ∙ sym (append_assoc p.entries (entries_in_pages (take number pages)) (page.entries ++ entries_in_pages (drop (suc number) pages)))

taken_length : (pages : List PageState) (number : ℕ) (page : PageState) → slice_get pages number ≡ Some page → length (entries_in_pages (take (suc number) pages)) ≡ length (entries_in_pages (take number pages)) + length page.entries
taken_length [] number page e = absurd cc
taken_length (p ∷ pages) zero page e =
    let same : p ≡ page = cc in
    let size = ap (λ (q : PageState). length q.entries) same in
    omega (arith, size, length-append p.entries [])
taken_length (p ∷ pages) (suc number) page e =
    let rest = taken_length pages number page e in
    omega (arith, rest, length-append p.entries (entries_in_pages (take (suc number) pages)), length-append p.entries (entries_in_pages (take number pages)))

pub page_stands : (journal : List Entry) (from : ℕ) (pages : List PageState) (w : IsWindow journal from pages) (number : ℕ) (page : PageState) → slice_get pages number ≡ Some page → StandsAt journal page (start_in w number) (start_in w (number + 1))
page_stands journal from pages w number page there =
    let front = entries_in_pages (take number pages) in
    let back = entries_in_pages (drop (suc number) pages) in
    let start = starts (length w.before) pages number page w.consecutive there in
    let one : number + 1 ≡ suc number = omega arith in
    let taken = taken_length pages number page there in
    let more = ap (λ (n : ℕ). length (entries_in_pages (take n pages))) one in
    record {
      stands = record {
        before = w.before ++ front;
        after = back ++ w.after;
        goes =
            w.goes
            ∙ (ap (λ (l : List Entry). w.before ++ (l ++ w.after)) (next_entries pages number page there)
            ∙ (ap (λ (l : List Entry). w.before ++ l) (append_assoc front (page.entries ++ back) w.after)
            ∙ (sym (append_assoc w.before front ((page.entries ++ back) ++ w.after))
            ∙ ap (λ (l : List Entry). (w.before ++ front) ++ l) (append_assoc page.entries back w.after))));
        at = omega (arith, start, length-append w.before front);
      };
      start_is = start;
      end_is = omega (arith, start, taken, more);
    }

-- a page in the journal that begins with all sealed ones
pub sealed_stands : (pages : List PageState) (page_of : List ℕ) (last : List Entry) (index : ℕ) (page : PageState) → index < length page_of → AreIndexed pages page_of → page ≡ get_or pages (get_or page_of index 0) page → StandsIn (entries_in_pages pages ++ last) page
sealed_stands pages page_of last index page within indexed is =
    let journal = entries_in_pages pages ++ last in
    let number = get_or page_of index 0 in
    let all : IsWindow journal 0 pages = record { before = []; after = last; goes = refl; consecutive = indexed.consecutive; reaches = omega arith } in
    let there = slice_get-get_or pages number page (number_within pages page_of index within indexed) ∙ ap Some (sym is) in
    (page_stands journal 0 pages all number page there).stands

-- the page of an index, by the table of numbers
pub page_of_index : (pages : List PageState) (page_of : List ℕ) (index number : ℕ) → AreIndexed pages page_of → index < length page_of → number ≡ get_or page_of index number → HasPage pages number index
page_of_index pages page_of index number indexed within is = indexed.found index number (slice_get-get_or page_of index number within ∙ ap Some (sym is))
