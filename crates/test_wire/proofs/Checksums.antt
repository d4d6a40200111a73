-- Checksums, computed from the definition alone.
use Rattle.std.proofs.Common.{◌≡◌, codes, refl}
use Rattle.x25_check.specs.Check.{after_byte, check}

-- the published check value of CRC-16/MCRF4XX
pub standard_check : check (codes "123456789") ≡ 0x6F91
unfolding after_byte
standard_check = refl
