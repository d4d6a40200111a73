use Rattle.mav_ftp.proofs.CarriedOut.{fetched, stored_and_fetched}
use Rattle.mav_ftp.proofs.client_laws.every_fetched_file.Goals as goal

pub returns : goal.returns
returns c = record { fetched = fetched; stored = stored_and_fetched }
