use Rattle.std.proofs.Common.{◌∙◌, ◌<◌, ◌+◌, ℕ, length, arith, get_or, sym}
use Rattle.std.proofs.lemmas.Option.{slice_get-get_or}
use Rattle.mav_router.specs.declared.parts.Side.{Side}
use Rattle.mav_router.specs.Threads.{HasWrittenLeft}
use Rattle.mav_router.proofs.Moving.{each_changed, rest_same}
use Rattle.mav_router.proofs.RunSteps.{index_within}
use Rattle.mav_router.proofs.closing.write_each_left.Goals as goal

pub write_left-requires-clause-within : goal.write_left-requires-clause-within
write_left-requires-clause-within g c = λ _ _.
    let l = c.loop-at in
    let within : l.at < length l.sides = omega (arith, c.loop-at-test.true, l.auto.sides) in
    let is = slice_get-get_or l.sides l.at c.index-sides-at.result within in
    c.requires.within l.at (get_or l.sides l.at c.index-sides-at.result) (sym (l.invariant.same l.at (omega arith)) ∙ is)

pub loop-at-preserved : goal.loop-at-preserved
loop-at-preserved g c =
    let l = c.loop-at in
    let i = l.invariant in
    let within : l.at < length l.sides = omega (arith, c.loop-at-test.true, l.auto.sides) in
    let old = get_or l.sides l.at c.index-sides-at.result in
    let is = slice_get-get_or l.sides l.at c.index-sides-at.result within in
    record {
      written = each_changed (λ (k : ℕ) (b d : Side g.row.L.Denot). HasWrittenLeft g.L.Link.state c.args.journal.now (k + 1) b d) c.args.sides.now l.sides l.at old c.write_left.new.side is i.written i.same
          c.write_left.ensures;
      same = rest_same c.args.sides.now l.sides l.at c.write_left.new.side i.same;
    }

pub returns-clause-each : goal.returns-clause-each
returns-clause-each g c = λ k b d is_b is_d.
    let within = index_within c.loop-at.sides k d is_d in
    c.loop-at.invariant.written k b d (omega (arith, within, c.loop-at-test.false, c.loop-at.auto.sides)) is_b is_d
