use Rattle.std.proofs.Common.{rules}
use Rattle.mav_frame.proofs.raw.signed_fits.Goals as goal

pub returns : goal.returns
returns c = record {
  compat = search rules;
  seq = search rules;
  sys = search rules;
  comp = search rules;
  id = c.requires.id;
  length = c.requires.payload;
  payload = c.are_bytes.ensures;
  check = search rules;
  block = c.block_fits.ensures;
  old = λ is. cc;
}
