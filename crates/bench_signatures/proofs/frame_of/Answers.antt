use Rattle.std.proofs.Common.{◌≡◌, arith, false, refl, true}
use Rattle.std.proofs.lemmas.List.{drop-replicate}
use Rattle.bench_signatures.proofs.frame_of.Goals as goal

not_old : false ≡ true → ⊥
not_old e = cc

pub invariant_of-result-2 : goal.invariant_of-result-2
invariant_of-result-2 c =
    let fits = c.ranges.len.fits in (omega arith, record { short = omega (arith, fits); whole = refl; zeros = drop-replicate c.args.len 255 0 }, λ bad. absurd (not_old bad))
