use Rattle.std.proofs.Common.{◌<◌, List, length, sym, ap, subst, arith}
use Rattle.std.proofs.lemmas.Option.{slice_get_within}
use Rattle.mav_router.specs.declared.entries.Entry.{Entry}
use Rattle.mav_router.specs.PageState.{PageState}
use Rattle.mav_router.specs.Pages.{IsWindow, SharesFrom}
use Rattle.mav_router.proofs.Pages.{no_window, page_of_index, window}
use Rattle.mav_router.proofs.journal.Journal.share.Goals as goal

pub returns-then-from-len : goal.returns-then-from-len
returns-then-from-len c = subst (IsWindow c.args.self.now c.args.from) (sym c.clear.ensures) (no_window c.args.self.now c.args.from)

pub take-requires : goal.take-requires
take-requires c =
    let s = c.self.inside in
    let within : c.args.from < length s.page_of.items = omega (arith, c.if-from-len.false, c.len.ensures, s.page_of.ok.0) in
    let h = page_of_index s.sealed.items s.page_of.items c.args.from c.index.result.now c.self.invariant.0 within c.index.ensures in
    let inside = slice_get_within s.sealed.items c.index.result.now h.page h.there in
    let same = ap length c.deref.ensures.value in
    omega (arith, inside, same)

pub returns : goal.returns
returns c =
    let s = c.self.inside in
    let within : c.args.from < length s.page_of.items = omega (arith, c.if-from-len.false, c.len.ensures, s.page_of.ok.0) in
    let number = c.index.result.now in
    let h = page_of_index s.sealed.items s.page_of.items c.args.from number c.self.invariant.0 within c.index.ensures in
    let shares = subst (λ (pages : List PageState). SharesFrom pages number c.take.new.self) c.deref.ensures.value c.take.ensures in
    subst (λ (journal : List Entry). IsWindow journal c.args.from c.take.new.self) c.self.view_is
    (window s.sealed.items s.last c.args.from number c.take.new.self c.self.invariant.0.consecutive h shares)
