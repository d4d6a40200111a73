use Rattle.fleet_liveness.proofs.Every as every
use Rattle.fleet_liveness.proofs.uploads.every_uncontended_upload.Goals as goal

pub returns : goal.returns
returns c = every.uploads
