use Rattle.std.proofs.Common.{◌≡◌, arith, length, refl, map, string_bytes}
use Rattle.station_cli.proofs.Links.{links_asked, stores_asked}
use Rattle.test_runs.proofs.live.status_over.Goals as goal

pub run_linked-requires : goal.run_linked-requires
run_linked-requires g c =
    let words = map string_bytes c.deref.result.now in
    let w = c.in-Ok.wanted in
    let named = c.names_ports.ensures.ports c.if-names_ports.true in
    let all : length c.args.ports.now.items ≡ length w.ports.items = omega (arith, named, c.len.ensures, c.args.ports.now.ok.0) in
    rw (c.deref-in-Ok.ensures.value, ← c.deref.ensures.value) (λ asked asks.
    (links_asked words w _ c.in-Ok.ensures.wants all asked asks, stores_asked words w 0 c.in-Ok.ensures.wants (rw (c.names_ports.ensures.store c.if-names_ports.true) refl) asked asks))
