use Rattle.turnstile.proofs.Labels.{each_label}
use Rattle.turnstile.proofs.laws.each_label_has_its_own.Goals as goal

pub returns : goal.returns
returns g c = each_label
