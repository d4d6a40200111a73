-- What an outcome reports.
use Rattle.plan_items.specs.Plans.{items_of}
use Rattle.plan_upload.specs.Station.{Told, Told_installed, Told_not_installed, Told_unknown, Told_cleared, Told_got}
use Rattle.plan_upload.specs.Station.{Told_ended}
use Rattle.plan_upload.specs.declared.outcomes.Outcome.{Outcome}
use Rattle.plan_upload.specs.declared.outcomes.Outcome.TheVariants.{Installed, NotInstalled, Unknown, Cleared, Got}
use Rattle.plan_upload.specs.declared.outcomes.Outcome.TheVariants.{Ended}

abbrev pub told_of : Outcome → Told
told_of Installed = Told_installed
told_of (NotInstalled code) = Told_not_installed code
told_of Unknown = Told_unknown
told_of Cleared = Told_cleared
told_of (Got plan) = Told_got (items_of plan)
told_of (Ended code) = Told_ended code
