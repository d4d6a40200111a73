-- A journal in pages.
use Rattle.std.specs.Prelude.{ℕ, ◌≡◌, ◌+◌, ◌<◌, ◌≤◌, List, [], ◌∷◌, ◌++◌, length, take, drop, slice_get, Some, ⊤}
use Rattle.std.specs.List.{flat_map}
use Rattle.mav_router.specs.declared.entries.Entry.{Entry}
use Rattle.mav_router.specs.declared.entries.Outcome.{Outcome}
use Rattle.mav_router.specs.PageState.{PageState}

-- what became of the frame of an entry
abbrev pub outcome_of : Entry → Outcome
outcome_of entry = record { port = entry.port; admit = entry.admit; ways = entry.ways }

-- the entries of pages, one after another
abbrev pub entries_in_pages : List PageState → List Entry
entries_in_pages pages = flat_map (λ (page : PageState). page.entries) pages

-- where a page ends: so many entries are in it and before it
abbrev pub end_of_page : PageState → ℕ
end_of_page page = page.start + length page.entries

-- the first page starts after so many entries, and each further one where the one before it ends
abbrev pub AreConsecutive : ℕ → List PageState → Type 0
AreConsecutive start [] = ⊤
AreConsecutive start (page ∷ pages) = (page.start ≡ start) × AreConsecutive (start + length page.entries) pages

-- the entry with this index is in a page
pub record IsIn (page : PageState) (index : ℕ) : Type 0 where
  pub from : page.start ≤ index
  pub to : index < end_of_page page

-- a page with the entry of this index
pub record HasPage (pages : List PageState) (number index : ℕ) : Type 0 where
  pub page : PageState
  pub there : slice_get pages number ≡ Some page
  pub inside : IsIn page index

-- the pages stand one after another, and for each entry the number of its page is known
pub record AreIndexed (pages : List PageState) (page_of : List ℕ) : Type 0 where
  pub consecutive : AreConsecutive 0 pages
  pub count : length page_of ≡ length (entries_in_pages pages)
  pub found : (index number : ℕ) → slice_get page_of index ≡ Some number → HasPage pages number index

-- pages of a journal, one after another, of which the first starts at an index or before it
pub record IsWindow (journal : List Entry) (from : ℕ) (pages : List PageState) : Type 0 where
  pub before : List Entry
  pub after : List Entry
  pub goes : journal ≡ before ++ (entries_in_pages pages ++ after)
  pub consecutive : AreConsecutive (length before) pages
  pub reaches : length before ≤ from

-- where its last page ends
abbrev pub end_of_window : {journal : List Entry} {from : ℕ} {pages : List PageState} → IsWindow journal from pages → ℕ
end_of_window {journal} {from} {pages} window = length window.before + length (entries_in_pages pages)

-- some of the pages from a number on
pub record SharesFrom (sealed : List PageState) (number : ℕ) (shared : List PageState) : Type 0 where
  pub count : ℕ
  pub are : shared ≡ take count (drop number sealed)

-- the entries of a page stand in a journal
pub record StandsIn (journal : List Entry) (page : PageState) : Type 0 where
  pub before : List Entry
  pub after : List Entry
  pub goes : journal ≡ before ++ (page.entries ++ after)
  pub at : length before ≡ page.start
