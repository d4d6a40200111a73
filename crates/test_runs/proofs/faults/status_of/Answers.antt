use Rattle.std.proofs.Common.{refl, sym, map, string_bytes}
use Rattle.station_cli.proofs.Links.{links_asked, stores_asked}
use Rattle.test_runs.proofs.faults.status_of.Goals as goal

pub run_unlinked-requires : goal.run_unlinked-requires
run_unlinked-requires g c =
    let words = map string_bytes c.deref.result.now in
    let w = c.in-Ok-wanted.wanted in
    let named = c.names_nothing.ensures in
    rw (c.deref-in-Ok-wanted.ensures.value, ← c.deref.ensures.value) (λ asked asks.
    (links_asked words w 0 c.in-Ok-wanted.ensures.wants (sym (named.ports c.if-names_nothing.true)) asked asks, stores_asked words w 0 c.in-Ok-wanted.ensures.wants (rw (named.store c.if-names_nothing.true) refl) asked asks))
