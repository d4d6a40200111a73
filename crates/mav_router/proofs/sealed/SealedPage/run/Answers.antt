use Rattle.std.proofs.Common.{◌≡◌, ◌+◌, ◌-◌, ◌≤◌, ℕ, List, length, ap, sym, subst, arith}
use Rattle.std.specs.Arc.{arc_value}
use Rattle.mav_router.specs.declared.entries.Entry.{Entry}
use Rattle.mav_router.specs.Outgoing.{IsRun}
use Rattle.mav_router.specs.PageState.{PageState}
use Rattle.mav_router.specs.Pages.{StandsIn}
use Rattle.mav_router.proofs.Outgoing.{run_in_page}
use Rattle.mav_router.proofs.sealed.SealedPage.run.Goals as goal

pub returns-clause-run : goal.returns-clause-run
returns-clause-run c = λ journal stands.
    let s = c.self.inside in
    let run = c.run-run in
    let port = c.args.port in
    let from = c.args.from.now in
    let at = from - s.start in
    let page : PageState = record { start = s.start; entries = arc_value s.page } in
    let start : s.start ≡ c.args.self.now.start = ap (λ (p : PageState). p.start) c.self.view_is in
    let size = ap (λ (p : PageState). length p.entries) c.self.view_is in
    let there = c.requires.inside in
    let place : s.start + at ≡ from = omega (arith, start, there.from) in
    let low : at ≤ length page.entries = omega (arith, start, size, there.to) in
    let high = subst (λ (entries : List Entry). run.new.at ≤ length entries) c.deref.ensures run.ensures.within in
    subst (λ (n : ℕ). IsRun port journal n (s.start + run.new.at) run.result.bytes.now) place
    (run_in_page port journal page at run.new.at run.result.bytes.now (subst (StandsIn journal) (sym c.self.view_is) stands) low high (subst (λ (entries : List Entry). IsRun port entries at run.new.at run.result.bytes.now) c.deref.ensures run.ensures.run))
