use Rattle.std.proofs.Common.{◌≡◌, ℕ, ◌+◌, ◌-◌, Bool, true, List, length, take, drop, slice_range, refl, sym, subst, arith, length-take, length-drop}
use Rattle.mav_frame.specs.declared.looks.Why.{Why}
use Rattle.mav_frame.specs.declared.looks.Why.TheVariants.{UnknownFlag, UnknownId}
use Rattle.mav_stream.specs.Skips.{skipped_length}
use Rattle.mav_stream.proofs.Lengths.{length_by, length_searched}
use Rattle.mav_stream.proofs.skips.skipped_length.Goals as goal

pub returns-in-NotStx : goal.returns-in-NotStx
returns-in-NotStx c =
    let b : List ℕ = c.args.bytes.now in let most : ℕ = c.min-most.result - 1 in
    let some = c.requires in let least = c.min-most.ensures in
    let searched : List ℕ = take most (slice_range b 1 (length b)) in
    let long : length searched ≡ most = omega (arith, length-take most (slice_range b 1 (length b)), length-take (length b - 1) (drop 1 b), length-drop 1 b) in
    let found = c.before_stx.ensures in
    subst (λ (why : Why). 1 + c.before_stx.result ≡ skipped_length why c.args.table.now c.args.reads_old b) (sym c.in-NotStx.is)
    (length_searched c.args.table.now c.args.reads_old b searched c.before_stx.result most (omega arith) refl long found.within found.each found.ends)

pub returns-in-UnknownFlag : goal.returns-in-UnknownFlag
returns-in-UnknownFlag c =
    let b : List ℕ = c.args.bytes.now in let most : ℕ = c.min-most.result - 1 in
    let some = c.requires in let least = c.min-most.ensures in
    let found = c.flagged_length.ensures in
    subst (λ (why : Why). 1 + c.flagged_length.result ≡ skipped_length why c.args.table.now c.args.reads_old b) (sym c.in-UnknownFlag.is)
    (length_by UnknownFlag c.args.table.now c.args.reads_old b c.flagged_length.result most (omega arith) found.within found.each found.ends)

pub returns-in-UnknownId : goal.returns-in-UnknownId
returns-in-UnknownId c =
    let b : List ℕ = c.args.bytes.now in let most : ℕ = c.min-most.result - 1 in
    let some = c.requires in let least = c.min-most.ensures in
    let found = c.unknown_length.ensures in
    let counted = length_by UnknownId c.args.table.now true b c.unknown_length.result most (omega arith) found.within found.each found.ends in
    subst (λ (z : Why × Bool). 1 + c.unknown_length.result ≡ skipped_length z.0 c.args.table.now z.1 b) (λ i. (sym c.in-UnknownId.is i, sym c.if-reads_old.true i)) counted
