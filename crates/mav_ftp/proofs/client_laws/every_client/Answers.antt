use Rattle.mav_ftp.proofs.ClientRanges.{order_in_range, step_in_range, tick_in_range, request_in_range}
use Rattle.mav_ftp.proofs.client_laws.every_client.Goals as goal

pub returns : goal.returns
returns c = record { new = tt; order = order_in_range; step = step_in_range; tick = tick_in_range; request = request_in_range }
