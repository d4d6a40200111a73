use Rattle.plan_safety.proofs.Shown as shown
use Rattle.plan_safety.proofs.examples.small_executions.Goals as goal

pub returns : goal.returns
returns c = record {
  names_are_distinct = shown.distinct;
  installs = shown.installs;
  reports_installed = shown.reports;
  clears = shown.clears;
  reports_cleared = shown.reports_cleared;
  downloads = shown.downloads;
  refuses = shown.refuses;
  loses_an_installed_one = shown.unknown_installed;
  loses_an_open_one = shown.unknown_lost;
  ends = shown.ends;
  first_uploads = shown.alternates.0;
  second_replaces = shown.alternates.1;
  first_uploads_again = shown.alternates.2;
}
