use Rattle.std.proofs.Common.{refl, map, string_bytes}
use Rattle.station_cli.proofs.Links.{links_asked, stores_asked}
use Rattle.bevuntri.proofs.run_stores.Goals as goal

pub run_over-requires : goal.run_over-requires
run_over-requires g c = (
  c.type_bounds.sync-R,
  (λ asked asks.
      (links_asked (map string_bytes c.args.words.now) c.args.wanted.now _ c.requires.wants c.requires.links asked asks, stores_asked (map string_bytes c.args.words.now) c.args.wanted.now _ c.requires.wants (rw (c.in-Some.is, c.in_ok-push-in-Some.ensures.items, c.new-stores.ensures.items) refl) asked asks)),
)

pub run_over-requires-in-None : goal.run_over-requires-in-None
run_over-requires-in-None g c = (
  c.type_bounds.sync-R,
  (λ asked asks.
      (links_asked (map string_bytes c.args.words.now) c.args.wanted.now _ c.requires.wants c.requires.links asked asks, stores_asked (map string_bytes c.args.words.now) c.args.wanted.now _ c.requires.wants (rw (c.in-None.is, c.new-stores.ensures.items) refl) asked asks)),
)
