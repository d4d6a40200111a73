use Rattle.std.proofs.Common.{◌∙◌, ◌+◌, sym, subst, get_or}
use Rattle.link_table.specs.declared.link_set.LinkSet.{LinkSet}
use Rattle.relay_rules.specs.Ways.{ChoosesOf}
use Rattle.relay_rules.specs.declared.links.OpenLink.{OpenLink}
use Rattle.relay_rules.proofs.Routes.{got, more_chosen, none_chosen, same_chosen}
use Rattle.relay_rules.proofs.links.chosen.Goals.{then-is_way, else-is_way}
use Rattle.relay_rules.proofs.links.chosen.Goals as goal

pub loop-at-init : goal.loop-at-init
loop-at-init c = none_chosen c.args.links.now c.args.behind.bits c.args.own c.args.is_signed c.args.plain c.none-ways.result.bits c.none-ways.ensures

pub loop-at-preserved : goal.loop-at-preserved
loop-at-preserved c =
    let links = c.args.links.now in
    let at = c.loop-at.at in
    let no_link : OpenLink = record { number = 0; port = 0 } in
    let there = got links at no_link c.loop-at-test.true in
    let behind = c.args.behind.bits in
    let own = c.args.own in
    let is_signed = c.args.is_signed in
    let plain = c.args.plain in
    let old = c.loop-at.ways.bits in
    let link = get_or links at no_link in
    elim c.if-is_way.branch [
      | then-is_way w ↦
          subst (λ (ways : LinkSet). ChoosesOf (at + 1) links behind own is_signed plain ways.bits) (sym w.ways-is)
          (more_chosen at links behind own is_signed plain old w.with-ways.result.bits link there (sym c.is_way.ensures ∙ w.if-is_way.true) w.with-ways.ensures c.loop-at.invariant)
      | else-is_way w ↦
          subst (λ (ways : LinkSet). ChoosesOf (at + 1) links behind own is_signed plain ways.bits) (sym w.ways-is)
          (same_chosen at links behind own is_signed plain old link there (sym c.is_way.ensures ∙ w.if-is_way.false) c.loop-at.invariant)
    ]
