use Rattle.std.proofs.Common.{◌≡◌, ◌≤◌, ◌+◌, [], List, Some, length, slice_get, refl, ap, subst, arith}
use Rattle.std.proofs.lemmas.List.{take_all}
use Rattle.std.proofs.lemmas.Option.{slice_get_read}
use Rattle.mav_router.specs.PageState.{PageState}
use Rattle.mav_router.specs.Pages.{entries_in_pages}
use Rattle.mav_router.proofs.Outgoing.{all_written, keeps_then, looks_then}
use Rattle.mav_router.proofs.Pages.{page_stands}
use Rattle.mav_router.proofs.writing.write_pages.Goals as goal

pub loop-number-preserved : goal.loop-number-preserved
loop-number-preserved g c =
    let l = c.loop-number in
    let p = c.pass_page in
    let from = c.args.from.now in
    let pages = c.args.shared.now in
    let page = c.index-pages-number.result in
    let there : slice_get pages l.number ≡ Some page =
    subst (λ (all : List PageState). slice_get all l.number ≡ Some page) c.pages-pages.ensures (slice_get_read c.pages-pages.result.now (length c.pages-pages.result.now) l.number page refl (omega (arith, c.loop-number-test.true)) c.index-pages-number.is) in
    record {
      reaches = λ journal w.
          let s = page_stands journal from pages w l.number page there in
          let low : page.start ≤ l.from = omega (arith, s.start_is, l.invariant.reaches journal w) in
          omega (arith, s.end_is, p.ensures.all low);
      looks = λ journal within w.
          let s = page_stands journal from pages w l.number page there in
          let low : page.start ≤ l.from = omega (arith, s.start_is, l.invariant.reaches journal w) in
          let so_far = l.invariant.looks journal within w in
          looks_then c.args.port journal from l.from p.new.from (g.L.Link.state c.args.link.now) (g.L.Link.state l.link) (g.L.Link.state p.new.link) c.args.lane.now l.lane p.new.lane [] l.batch p.new.batch so_far (p.ensures.looks journal s.stands low so_far.within);
      keeps = keeps_then (g.L.Link.state c.args.link.now) (g.L.Link.state l.link) (g.L.Link.state p.new.link) c.args.lane.now l.lane p.new.lane l.invariant.keeps p.ensures.keeps;
    }

pub returns-clause-writes : goal.returns-clause-writes
returns-clause-writes g c = λ journal within w.
    let l = c.loop-number in
    let f = c.flush in
    all_written c.args.port journal c.args.from.now l.from (g.L.Link.state c.args.link.now) (g.L.Link.state l.link) (g.L.Link.state f.new.link) c.args.lane.now l.lane f.new.lane l.batch f.ensures.output (l.invariant.looks journal within w)

pub returns-clause-all : goal.returns-clause-all
returns-clause-all g c = λ journal w.
    let l = c.loop-number in
    let pages = c.args.shared.now in
    let last : length pages ≤ l.number = omega (arith, c.loop-number-test.false, ap length c.pages-pages.ensures) in
    subst (λ (seen : List PageState). length w.before + length (entries_in_pages seen) ≤ l.from) (take_all l.number pages last) (l.invariant.reaches journal w)

pub returns-clause-keeps : goal.returns-clause-keeps
returns-clause-keeps g c =
    let l = c.loop-number in
    let f = c.flush in
    keeps_then (g.L.Link.state c.args.link.now) (g.L.Link.state l.link) (g.L.Link.state f.new.link) c.args.lane.now l.lane f.new.lane l.invariant.keeps f.ensures.keeps
