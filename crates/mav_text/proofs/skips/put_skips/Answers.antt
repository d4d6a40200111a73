use Rattle.std.proofs.Common.{◌≡◌, ℕ, List, take, Result, Ok, Err, ap, ◌∙◌}
use Rattle.std.specs.Prelude.{OnErr}
use Rattle.mav_text.proofs.skips.put_skips.Goals as goal

-- what was appended is cut off again
cut_back : {A E : Type 0} (r : Result A E) (out after cut : List ℕ) (n m : ℕ) → n ≡ m → cut ≡ take n after → OnErr r (take m after ≡ out) → OnErr r (cut ≡ out)
cut_back (Ok a) out after cut n m same is kept = tt
cut_back (Err e) out after cut n m same is kept = is ∙ (ap (λ (k : ℕ). take k after) same ∙ kept)

pub returns-then-is_err-clause-err : goal.returns-then-is_err-clause-err
returns-then-is_err-clause-err c =
    cut_back c.append_lines-put.result c.args.out.now.items c.append_lines-put.new.out.items c.truncate.new.self.items c.len-before.result _ c.len-before.ensures c.truncate.ensures.items c.append_lines-put.ensures.err
