-- What a sealed page is to a contract.
use Rattle.std.specs.Prelude.{ℕ, List}
use Rattle.mav_router.specs.declared.entries.Entry.{Entry}

-- its entries, and how many are before them in the journal
pub record PageState : Type 0 where
  pub start : ℕ
  pub entries : List Entry
