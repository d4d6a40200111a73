use Rattle.plan_image.proofs.Readings.{image_same}
use Rattle.plan_image.proofs.laws.every_reading.Goals as goal

pub returns : goal.returns
returns c = image_same
