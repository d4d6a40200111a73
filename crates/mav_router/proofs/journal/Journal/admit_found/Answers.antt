use Rattle.std.proofs.Common.{arith}
use Rattle.std.proofs.lemmas.List.{length-map}
use Rattle.mav_router.specs.Found.{Judged}
use Rattle.mav_router.proofs.Admissions.{admits_nothing, page_keeps, page_after}
use Rattle.mav_router.proofs.journal.Journal.admit_found.Goals as goal

pub returns-then-len-gt0-clause-admits : goal.returns-then-len-gt0-clause-admits
returns-then-len-gt0-clause-admits c = admits_nothing _ c.args.port c.args.self.now c.args.found.now c.requires.some

pub returns-in-Err-clause-admits : goal.returns-in-Err-clause-admits
returns-in-Err-clause-admits c = admits_nothing _ c.args.port c.args.self.now c.args.found.now c.requires.some

pub returns-then-count-all-clause-admits : goal.returns-then-count-all-clause-admits
returns-then-count-all-clause-admits c =
    let long = length-map c.args.found.now (λ (j : Judged). j.frame) in
    record {
      count = c.min-count.result;
      kept = page_keeps c.args.rules.now c.args.port _ c.args.stamps.now c.admit.new.stamps c.args.table.now c.admit.new.table c.in-Ok.page _ c.self.inside.last c.args.self.now c.self.view_is (omega (arith, c.len.ensures, c.if-len-gt0.false)) c.in-Ok.ensures.admits;
      all = tt;
      some = omega (arith, long, c.len-all.ensures, c.if-count-all.true);
    }

pub returns-then-count-all-clause-after : goal.returns-then-count-all-clause-after
returns-then-count-all-clause-after c = page_after c.args.rules.now c.args.port _ c.args.stamps.now c.admit.new.stamps c.args.table.now c.admit.new.table c.in-Ok.page _ c.self.inside.last c.args.self.now c.self.view_is (omega (arith, c.len.ensures, c.if-len-gt0.false)) c.in-Ok.ensures.admits c.requires.ports

pub returns-clause-admits : goal.returns-clause-admits
returns-clause-admits c =
    let long = length-map c.args.found.now (λ (j : Judged). j.frame) in
    record {
      count = c.min-count.result;
      kept = page_keeps c.args.rules.now c.args.port _ c.args.stamps.now c.admit.new.stamps c.args.table.now c.admit.new.table c.in-Ok.page _ c.self.inside.last c.args.self.now c.self.view_is (omega (arith, c.len.ensures, c.if-len-gt0.false)) c.in-Ok.ensures.admits;
      all = omega (arith, long, c.len-all.ensures, c.if-count-all.false, c.min-count.ensures);
      some = tt;
    }

pub returns-clause-after : goal.returns-clause-after
returns-clause-after c = page_after c.args.rules.now c.args.port _ c.args.stamps.now c.admit.new.stamps c.args.table.now c.admit.new.table c.in-Ok.page _ c.self.inside.last c.args.self.now c.self.view_is (omega (arith, c.len.ensures, c.if-len-gt0.false)) c.in-Ok.ensures.admits c.requires.ports
