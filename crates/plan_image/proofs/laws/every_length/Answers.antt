use Rattle.plan_image.proofs.Readings.{image_short}
use Rattle.plan_image.proofs.laws.every_length.Goals as goal

pub returns : goal.returns
returns c = image_short
