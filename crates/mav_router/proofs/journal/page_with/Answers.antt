use Rattle.std.proofs.Common.{◌∙◌}
use Rattle.mav_router.proofs.Pages.{number_within, page_found, sealed_stands}
use Rattle.mav_router.proofs.journal.page_with.Goals as goal

pub bounds-sealed-number : goal.bounds-sealed-number
bounds-sealed-number c = number_within c.args.sealed.now c.args.page_of.now c.args.index c.requires.within c.requires.indexed

pub returns-clause-inside : goal.returns-clause-inside
returns-clause-inside c = (page_found c.args.sealed.now c.args.page_of.now c.args.index c.index-sealed-number.result c.requires.within c.requires.indexed c.index-sealed-number.is).0

pub returns-clause-entry : goal.returns-clause-entry
returns-clause-entry c = λ entry is.
    (page_found c.args.sealed.now c.args.page_of.now c.args.index c.index-sealed-number.result c.requires.within c.requires.indexed c.index-sealed-number.is).1 ∙ is

pub returns-clause-stands : goal.returns-clause-stands
returns-clause-stands c = λ last. sealed_stands c.args.sealed.now c.args.page_of.now last c.args.index c.index-sealed-number.result c.requires.within c.requires.indexed c.index-sealed-number.is
