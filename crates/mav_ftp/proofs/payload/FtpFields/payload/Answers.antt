use Rattle.mav_ftp.proofs.Payloads.{put_together}
use Rattle.mav_ftp.proofs.payload.FtpFields.payload.Goals as goal

-- src/payload.rt:112:5
pub returns : goal.returns
returns c = put_together c.args.self.now c.args.bytes.now c.header.result c.put.new.payload c.put-2.new.payload c.header.ensures c.put.ensures c.put-2.ensures
