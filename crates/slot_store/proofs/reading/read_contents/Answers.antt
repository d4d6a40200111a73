use Rattle.std.proofs.Common.{◌≡◌, ◌∙◌, sym, subst, IfOk}
use Rattle.slot_store.proofs.Saves.{stored_by}
use Rattle.slot_store.proofs.reading.read_contents.Goals as goal

pub returns-in-Some-clause-bytes : goal.returns-in-Some-clause-bytes
returns-in-Some-clause-bytes g c = λ observable read.
    let is = stored_by c.args.headers.now c.in-Some.slot (g.D.Disk.seen c.args.disk.now) c.of.result c.of.ensures read (sym c.current.ensures ∙ c.in-Some.is) in
    subst (λ l. IfOk c.read_stored.result (λ bytes. bytes.items ≡ l)) is (c.read_stored.ensures.bytes observable)
