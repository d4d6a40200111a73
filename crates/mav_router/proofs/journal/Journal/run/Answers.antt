use Rattle.std.proofs.Common.{◌≡◌, ◌+◌, ◌-◌, ◌≤◌, ◌++◌, [], ℕ, List, length, ap, sym, subst, arith, length-append}
use Rattle.std.proofs.lemmas.List.{append-nil}
use Rattle.mav_router.specs.declared.entries.Entry.{Entry}
use Rattle.mav_router.specs.Outgoing.{IsRun}
use Rattle.mav_router.specs.PageState.{PageState}
use Rattle.mav_router.specs.Pages.{StandsIn, entries_in_pages}
use Rattle.mav_router.proofs.Outgoing.{run_in_page}
use Rattle.mav_router.proofs.journal.Journal.run.Goals as goal

pub returns-clause-run : goal.returns-clause-run
returns-clause-run c =
    let s = c.self.inside in
    let port = c.args.port in
    let sealed = entries_in_pages s.sealed.items in
    let journal = sealed ++ s.last in
    let before = c.len-before.result in
    let at = c.args.from.now - before in
    let run = c.run-run in
    let page : PageState = record { start = before; entries = s.last } in
    let start : length sealed ≡ before = omega (arith, c.self.invariant.0.count, c.len-before.ensures, s.page_of.ok.0) in
    let stands : StandsIn journal page = record { before = sealed; after = []; goes = ap (λ (l : List Entry). sealed ++ l) (sym (append-nil s.last)); at = start } in
    let place : before + at ≡ c.args.from.now = omega (arith, c.if-from-before.false) in
    let whole = ap length c.self.view_is in
    let low : at ≤ length s.last = omega (arith, whole, length-append sealed s.last, start, c.requires.within) in
    subst (λ (j : List Entry). IsRun port j c.args.from.now (before + run.new.at) run.result.bytes.now) c.self.view_is
    (subst (λ (n : ℕ). IsRun port journal n (before + run.new.at) run.result.bytes.now) place
    (run_in_page port journal page at run.new.at run.result.bytes.now stands low run.ensures.within run.ensures.run))
