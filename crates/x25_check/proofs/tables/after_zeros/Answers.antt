use Rattle.x25_check.proofs.TableEntries.{table_entry}
use Rattle.x25_check.proofs.tables.after_zeros.Goals as goal

pub returns : goal.returns
returns c = rw c.from.ensures (table_entry _ c.args.count c.args.byte c.requires c.ranges.byte.fits)
