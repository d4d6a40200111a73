use Rattle.plan_safety.proofs.OutcomeLaws as laws
use Rattle.plan_safety.proofs.ClearLaws as clears
use Rattle.plan_safety.proofs.outcomes.every_outcome.Goals as goal

pub returns : goal.returns
returns c = record { not_installed = laws.not_installed_law; unknown = laws.unknown_law; cleared = clears.cleared_law; ended = laws.ended_law }
