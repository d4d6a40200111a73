use Rattle.std.proofs.lemmas.Result.{err_from_is_err_and}
use Rattle.mav_ports.specs.Counts.{Rose}
use Rattle.std.proofs.Common.{ℕ, ◌∙◌, ◌+◌, ◌∷◌, [], length, sym, subst}
use Rattle.slot_store.specs.Disks.{SameOutside, LeavesOnly, Writes}
use Rattle.slot_store.specs.Layout.{start_of, contents, MayClose}
use Rattle.slot_store.specs.Crashes.{HoldsEither}
use Rattle.slot_store.proofs.Moments.{weaker, one_after_another}
use Rattle.slot_store.proofs.Saves.{header_in, closing, staging, opening, saved, new_headers}
use Rattle.slot_store.proofs.writing.write_slot.Goals as goal

pub returns-in_err-close-clause-any_moment : goal.returns-in_err-close-clause-any_moment
returns-in_err-close-clause-any_moment g c = λ observable read.
    let old = c.args.disk.now in
    let s = g.D.Disk.seen old in
    let bytes = c.args.bytes.now in
    let says = header_in c.args.headers.now c.spare-slot.result s c.of.result c.of.ensures read.read in
    weaker g.D.Disk.moment g.D.Disk.left_since old c.close.new.disk
    (MayClose (start_of c.spare-slot.result) c.of.result.is_open s) (HoldsEither (contents s) bytes) (c.close.ensures.any_moment read.alone)
    (λ x left. closing s bytes read.own c.requires.fits c.args.headers.now c.spare-slot.result c.new_generation-generation.result read.read c.spare-slot.ensures c.new_generation-generation.ensures
    c.of.result.is_open x says left)

pub returns-in_err-stage-clause-any_moment : goal.returns-in_err-stage-clause-any_moment
returns-in_err-stage-clause-any_moment g c = λ observable read.
    let old = c.args.disk.now in
    let s = g.D.Disk.seen old in
    let bytes = c.args.bytes.now in
    let says = header_in c.args.headers.now c.spare-slot.result s c.of.result c.of.ensures read.read in
    one_after_another g.D.Disk.moment g.D.Disk.left_since old c.close.new.disk c.stage.new.disk
    (MayClose (start_of c.spare-slot.result) c.of.result.is_open s) (SameOutside (start_of c.spare-slot.result + 1) (9 + length bytes) (g.D.Disk.seen c.close.new.disk)) (HoldsEither (contents s) bytes) (c.close.ensures.any_moment read.alone)
    (c.stage.ensures.any_moment (c.in_ok-close.ensures.durable read.alone))
    (λ x left. closing s bytes read.own c.requires.fits c.args.headers.now c.spare-slot.result c.new_generation-generation.result read.read c.spare-slot.ensures c.new_generation-generation.ensures
    c.of.result.is_open x says left)
    (λ x torn. staging s bytes read.own c.requires.fits c.args.headers.now c.spare-slot.result c.new_generation-generation.result read.read c.spare-slot.ensures c.new_generation-generation.ensures
    (g.D.Disk.seen c.close.new.disk) (c.in_ok-close.ensures.closed observable says) x torn)

pub returns-in_err-put-clause-any_moment : goal.returns-in_err-put-clause-any_moment
returns-in_err-put-clause-any_moment g c = λ observable read.
    let old = c.args.disk.now in
    let s = g.D.Disk.seen old in
    let s1 = g.D.Disk.seen c.close.new.disk in
    let s2 = g.D.Disk.seen c.stage.new.disk in
    let bytes = c.args.bytes.now in
    let h = c.args.headers.now in
    let t = c.spare-slot.result in
    let n = c.new_generation-generation.result in
    let says = header_in h t s c.of.result c.of.ensures read.read in
    let closes = c.in_ok-close.ensures.closed observable says in
    let alone1 = c.in_ok-close.ensures.durable read.alone in
    let writes = c.in_ok-stage.ensures.written observable in
    let staged = one_after_another g.D.Disk.moment g.D.Disk.left_since old c.close.new.disk c.stage.new.disk
    (MayClose (start_of c.spare-slot.result) c.of.result.is_open s) (SameOutside (start_of c.spare-slot.result + 1) (9 + length bytes) (g.D.Disk.seen c.close.new.disk)) (HoldsEither (contents s) bytes) (c.close.ensures.any_moment read.alone) (c.stage.ensures.any_moment alone1)
    (λ x left. closing s bytes read.own c.requires.fits h t n read.read c.spare-slot.ensures c.new_generation-generation.ensures c.of.result.is_open x says left)
    (λ x torn. staging s bytes read.own c.requires.fits h t n read.read c.spare-slot.ensures c.new_generation-generation.ensures s1 closes x torn) in
    let flag = subst (λ at. LeavesOnly g.D.Disk.moment g.D.Disk.left_since c.stage.new.disk c.put.new.disk (SameOutside at 1 s2)) c.start.ensures (c.put.ensures.any_moment c.in_ok-stage.ensures.durable) in
    one_after_another g.D.Disk.moment g.D.Disk.left_since old c.stage.new.disk c.put.new.disk
    (HoldsEither (contents s) bytes) (SameOutside (start_of c.spare-slot.result) 1 s2) (HoldsEither (contents s) bytes) staged flag (λ x h. h)
    (λ x torn. opening s bytes read.own c.requires.fits h t n read.read c.spare-slot.ensures c.new_generation-generation.ensures s1 closes s2 writes x torn)

pub returns-clause-any_moment : goal.returns-clause-any_moment
returns-clause-any_moment g c = λ observable read.
    let old = c.args.disk.now in
    let s = g.D.Disk.seen old in
    let s1 = g.D.Disk.seen c.close.new.disk in
    let s2 = g.D.Disk.seen c.stage.new.disk in
    let bytes = c.args.bytes.now in
    let h = c.args.headers.now in
    let t = c.spare-slot.result in
    let n = c.new_generation-generation.result in
    let says = header_in h t s c.of.result c.of.ensures read.read in
    let closes = c.in_ok-close.ensures.closed observable says in
    let alone1 = c.in_ok-close.ensures.durable read.alone in
    let writes = c.in_ok-stage.ensures.written observable in
    let staged = one_after_another g.D.Disk.moment g.D.Disk.left_since old c.close.new.disk c.stage.new.disk
    (MayClose (start_of c.spare-slot.result) c.of.result.is_open s) (SameOutside (start_of c.spare-slot.result + 1) (9 + length bytes) (g.D.Disk.seen c.close.new.disk)) (HoldsEither (contents s) bytes) (c.close.ensures.any_moment read.alone) (c.stage.ensures.any_moment alone1)
    (λ x left. closing s bytes read.own c.requires.fits h t n read.read c.spare-slot.ensures c.new_generation-generation.ensures c.of.result.is_open x says left)
    (λ x torn. staging s bytes read.own c.requires.fits h t n read.read c.spare-slot.ensures c.new_generation-generation.ensures s1 closes x torn) in
    let flag = subst (λ at. LeavesOnly g.D.Disk.moment g.D.Disk.left_since c.stage.new.disk c.put.new.disk (SameOutside at 1 s2)) c.start.ensures (c.put.ensures.any_moment c.in_ok-stage.ensures.durable) in
    one_after_another g.D.Disk.moment g.D.Disk.left_since old c.stage.new.disk c.put.new.disk
    (HoldsEither (contents s) bytes) (SameOutside (start_of c.spare-slot.result) 1 s2) (HoldsEither (contents s) bytes) staged flag (λ x h. h)
    (λ x torn. opening s bytes read.own c.requires.fits h t n read.read c.spare-slot.ensures c.new_generation-generation.ensures s1 closes s2 writes x torn)

pub returns-clause-saved : goal.returns-clause-saved
returns-clause-saved g c = λ observable read.
    let old = c.args.disk.now in
    let s = g.D.Disk.seen old in
    let s1 = g.D.Disk.seen c.close.new.disk in
    let s2 = g.D.Disk.seen c.stage.new.disk in
    let bytes = c.args.bytes.now in
    let h = c.args.headers.now in
    let t = c.spare-slot.result in
    let n = c.new_generation-generation.result in
    let says = header_in h t s c.of.result c.of.ensures read.read in
    let closes = c.in_ok-close.ensures.closed observable says in
    let alone1 = c.in_ok-close.ensures.durable read.alone in
    let writes = c.in_ok-stage.ensures.written observable in
    let s3 = g.D.Disk.seen c.put.new.disk in
    let opens = subst (λ at. Writes at (165 ∷ []) s2 s3) c.start.ensures (c.in_ok-put.ensures.written observable) in
    let is = saved s bytes read.own c.requires.fits h t n read.read c.spare-slot.ensures c.new_generation-generation.ensures s1 closes s2 writes s3 opens in
    let now = new_headers s bytes read.own c.requires.fits h t n read.read c.spare-slot.ensures c.new_generation-generation.ensures s1 closes s2 writes s3 opens in
    (record { alone = c.in_ok-put.ensures.durable; read = c.with.ensures ∙ sym now; own = is.0 }, is.1)

pub returns-in_err-close-clause-saved : goal.returns-in_err-close-clause-saved
returns-in_err-close-clause-saved g c = λ observable read. rw (err_from_is_err_and c.from_residual.result c.from_residual.ensures.1).1 tt

pub returns-in_err-close-clause-faults : goal.returns-in_err-close-clause-faults
returns-in_err-close-clause-faults g c = rw (err_from_is_err_and c.from_residual.result c.from_residual.ensures.1).1 c.in_err-close.ensures.faults

pub returns-in_err-stage-clause-saved : goal.returns-in_err-stage-clause-saved
returns-in_err-stage-clause-saved g c = λ observable read. rw (err_from_is_err_and c.from_residual-in_err-stage.result c.from_residual-in_err-stage.ensures.1).1 tt

pub returns-in_err-stage-clause-faults : goal.returns-in_err-stage-clause-faults
returns-in_err-stage-clause-faults g c = rw (err_from_is_err_and c.from_residual-in_err-stage.result c.from_residual-in_err-stage.ensures.1).1 (subst (λ (n : ℕ). Rose n (g.D.Disk.faults c.stage.new.disk)) c.in_ok-close.ensures.faults c.in_err-stage.ensures.faults)

pub returns-in_err-put-clause-saved : goal.returns-in_err-put-clause-saved
returns-in_err-put-clause-saved g c = λ observable read. rw (err_from_is_err_and c.from_residual-in_err-put.result c.from_residual-in_err-put.ensures.1).1 tt

pub returns-in_err-put-clause-faults : goal.returns-in_err-put-clause-faults
returns-in_err-put-clause-faults g c = rw (err_from_is_err_and c.from_residual-in_err-put.result c.from_residual-in_err-put.ensures.1).1 (subst (λ (n : ℕ). Rose n (g.D.Disk.faults c.put.new.disk)) (c.in_ok-stage.ensures.faults ∙ c.in_ok-close.ensures.faults) c.in_err-put.ensures.faults)
