use Rattle.std.proofs.Common.{ℕ, drop, take, sym, ap, ◌∙◌, take-append-drop, arith}
use Rattle.x25_check.specs.Check.{check_from}
use Rattle.x25_check.specs.Eights.{eight_at}
use Rattle.x25_check.proofs.Eights.{eight_more}
use Rattle.x25_check.proofs.Parts.{check_from-append}
use Rattle.x25_check.proofs.check.after_all.Goals as goal

pub loop-at-preserved : goal.loop-at-preserved
loop-at-preserved c =
    let l = c.loop-at in let bytes = c.args.bytes.now in let register : ℕ = c.args.register in
    record {
      within = omega arith;
      now =
          c.after_eight-now.ensures
          ∙ (ap (λ (r : ℕ). check_from r (eight_at l.at bytes)) l.invariant.now
          ∙ (sym (check_from-append register (take l.at bytes) (eight_at l.at bytes))
          ∙ ap (check_from register) (sym (eight_more bytes l.at (omega arith)))));
    }

pub returns : goal.returns
returns c =
    let l = c.loop-at in let bytes = c.args.bytes.now in let register : ℕ = c.args.register in
    c.after_rest.ensures
    ∙ (ap (λ (r : ℕ). check_from r (drop l.at bytes)) l.invariant.now
    ∙ (sym (check_from-append register (take l.at bytes) (drop l.at bytes))
    ∙ ap (check_from register) (take-append-drop l.at bytes)))
