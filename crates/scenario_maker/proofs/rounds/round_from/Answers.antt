-- Each draw is from the state after the one before it.
use Rattle.std.proofs.Common.{refl}
use Rattle.scenario_maker.proofs.rounds.round_from.Goals as goal

pub returns-clause-round : goal.returns-clause-round
returns-clause-round c =
    rw (
      c.drawn.ensures,
      c.drawn-2.ensures,
      c.drawn-3.ensures,
      c.course_of.ensures,
      c.drawn-4.ensures,
      c.drawn-5.ensures,
      c.drawn-6.ensures,
      c.next-again.ensures,
      c.next-first.ensures,
      c.next-course.ensures,
      c.next-items.ensures,
      c.next-drone.ensures,
      c.next-station.ensures,
    ) refl
