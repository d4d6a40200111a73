use Rattle.std.proofs.Common.{◌≡◌, rules}
use Rattle.slot_store.proofs.mem_disk.record.Goals as goal

pub returns-clause-ok : goal.returns-clause-ok
returns-clause-ok c =
    let bytes : c.in_ok-to_vec.field-0.items ≡ c.args.bytes.now.items = search rules in
    let ranges : c.in_ok-to_vec-2.field-0.items ≡ c.args.ranges.now.items = search rules in
    (record { bytes = c.in_ok-to_vec.field-0; ranges = c.in_ok-to_vec-2.field-0 }, bytes, ranges, c.in_ok-push.ensures.items)
