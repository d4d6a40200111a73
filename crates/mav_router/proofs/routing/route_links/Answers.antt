use Rattle.std.proofs.Common.{◌∙◌, [], List, length, refl, true, subst, sym}
use Rattle.mav_router.specs.declared.entries.Entry.{Entry}
use Rattle.mav_router.specs.Journal.{Rules, IsJournal, rules_of}
use Rattle.mav_router.specs.Routed.{EachRan}
use Rattle.mav_router.proofs.PortEnds.{unrouted}
use Rattle.mav_router.proofs.routing.route_links.Goals as goal

pub returns-in_default : goal.returns-in_default
returns-in_default g c = unrouted true _ _ _ c.args.links.now c.args.links.now c.no_memory.result c.no_memory.ensures.why c.no_memory.ensures.journal refl

pub returns-in_default-new : goal.returns-in_default-new
returns-in_default-new g c =
    let none = c.no_memory-in_default-new in
    unrouted true _ _ _ c.args.links.now c.args.links.now none.result none.ensures.why none.ensures.journal refl

pub returns-in-Ok-route_in : goal.returns-in-Ok-route_in
returns-in-Ok-route_in g c =
    let links = c.args.links.now in
    let rules = rules_of c.args.key.now c.args.known.now c.args.plan.plain (length links) in
    let ended = c.in-Ok-route_in.ensures.ended c.args.key.now (length links) in
    let journal = c.into_journal.ensures in
    record {
      links = c.route_in.auto.links;
      routed = record {
        legal = subst (λ (r : Rules). IsJournal r [] c.into_journal.result) (c.in-Ok-route_in.ensures.rules ∙ c.in-Ok-new.ensures.rules) journal.legal;
        few = journal.within;
        count = ended.count;
        each = subst (λ (entries : List Entry). EachRan g.L.Link.state rules c.args.plan.turns links c.route_in.new.links entries c.in-Ok-route_in.ports.items) (sym journal.journal) ended.each;
      };
      stopped = tt;
    }
