-- The worked journals, computed.
use Rattle.std.proofs.Common.{refl}
use Rattle.sha2.specs.Sha256.{first_words, schedule, rounds, compress, hash_after, digest_bytes, sha256}
use Rattle.test_routes.specs.Worked.{Worked}

pub worked : Worked
unfolding first_words schedule rounds compress hash_after digest_bytes sha256
worked = record { signed_verdicts = refl; signed_ways = refl; mixed_verdicts = refl; mixed_ways = refl }
