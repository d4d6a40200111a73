-- A link that closes.
use Rattle.std.specs.Prelude.{ℕ, ◌≡◌, List, slice_get, Some}
use Rattle.relay_hub.specs.declared.news.Why.{Why}
use Rattle.relay_rules.specs.declared.links.OpenLink.{OpenLink}
use Rattle.relay_core.specs.declared.notes.Note.TheVariants.{Closed}
use Rattle.relay_core.specs.Calls.{Closes}
use Rattle.relay_core.specs.RelayRuns.{RelayKept}
use Rattle.relay_core.specs.Said.{Said, Notes}

-- the link with that index closes, and it is told with its number and how many of its frames were dropped in all
pub record HasClosed {Watcher : Type 0} (index : ℕ) (why : Why) (old new : RelayKept)
    (told : Watcher → List Said → Type 0) (watcher telling : Watcher) : Type 0 where
  pub dropped : ℕ
  pub link : OpenLink
  pub there : slice_get old.links.links index ≡ Some link
  pub closes : Closes index dropped old new
  pub notes : Notes told watcher telling (Closed link.number link.port why dropped)
