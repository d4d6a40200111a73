use Rattle.std.proofs.Common.{◌≡◌, ◌∙◌, ap, sym, Bool, true, false}
use Rattle.link_table.specs.Routing.{common_ways, ways_of}
use Rattle.mav_router.specs.Journal.{ways_by, is_unsigned}
use Rattle.mav_router.proofs.Journals.{none_if_not, some_if}
use Rattle.mav_router.proofs.admitting.route.Goals as goal

pub returns-then-has_block-clause-ways : goal.returns-then-has_block-clause-ways
returns-then-has_block-clause-ways c = λ learned of.
    let ways = ways_of c.args.table.now.ports learned c.args.port c.args.target in
    let signed : is_unsigned c.args.frame.now ≡ false = some_if c.args.frame.now.block c.if-has_block.ensures in
    c.ways-ways.ensures learned of ∙ ap (λ (u : Bool). ways_by true u c.args.plain ways) (sym signed)

pub returns-else-has_block-clause-ways : goal.returns-else-has_block-clause-ways
returns-else-has_block-clause-ways c = λ learned of.
    let ways = ways_of c.args.table.now.ports learned c.args.port c.args.target in
    let unsigned : is_unsigned c.args.frame.now ≡ true = none_if_not c.args.frame.now.block c.if-has_block.ensures in
    c.common.ensures ∙ (ap (λ (w : _). common_ways w c.args.plain) (c.ways-ways.ensures learned of) ∙ ap (λ (u : Bool). ways_by true u c.args.plain ways) (sym unsigned))
