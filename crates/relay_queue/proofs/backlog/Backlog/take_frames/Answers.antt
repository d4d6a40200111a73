use Rattle.std.proofs.Common.{◌∙◌, ◌-◌, refl, arith, ap}
use Rattle.relay_queue.specs.Queues.{QueueState, written}
use Rattle.relay_queue.proofs.Frames.{all_left, is_empty, none_left, not_begun, part_written, whole_written}
use Rattle.relay_queue.proofs.backlog.Backlog.take_frames.Goals as goal

pub loop-left-init : goal.loop-left-init
loop-left-init c = (is_empty c.args.self.now.begun c.requires, refl)

pub loop-left-preserved : goal.loop-left-preserved
loop-left-preserved c =
    let e = c.drop_first.ensures in
    let inv = c.loop-left.invariant in (
      ap (λ (s : QueueState). s.begun) e ∙ inv.0,
      ap (λ (s : QueueState). written (c.loop-left.left - c.in-Some.size) s.waiting) e
          ∙ (whole_written c.loop-left.left c.in-Some.size c.loop-left.self.waiting c.in-Some.ensures.some c.in-Some.ensures.size c.loop-left-test.true c.if-left-size.false ∙ inv.1),
    )

pub begin-requires-clause-none : goal.begin-requires-clause-none
begin-requires-clause-none c = not_begun c.loop-left.self c.loop-left.invariant.0

pub begin-requires-clause-part : goal.begin-requires-clause-part
begin-requires-clause-part c = λ frame frames is. let e = c.in-Some.ensures.size frame frames is in omega (arith, e, c.if-left-size.true)

pub returns-then-left-size : goal.returns-then-left-size
returns-then-left-size c =
    part_written c.loop-left.left c.in-Some.size c.loop-left.self.waiting c.begin.new.self c.in-Some.ensures.some c.in-Some.ensures.size c.loop-left-test.true c.if-left-size.true c.begin.ensures ∙ c.loop-left.invariant.1

pub returns-in_default : goal.returns-in_default
returns-in_default c =
    none_left c.loop-left.self c.loop-left.left c.loop-left.invariant.0 (c.first_size.ensures.none c.in_default.is) ∙ c.loop-left.invariant.1

pub returns : goal.returns
returns c = all_left c.loop-left.self c.loop-left.left c.loop-left.invariant.0 (omega (arith, c.loop-left-test.false)) ∙ c.loop-left.invariant.1
