-- How a run goes on after the key that a line may name, or halts at it.
use Rattle.std.proofs.Common.{◌≡◌, inr, inl, ℕ, Bool, true, false, List, [], sym, subst, arith, Option}
use Rattle.mav_ports.proofs.Known.{prepend_known_nil}
use Rattle.run_status.specs.Runs.{CommandSpec}
use Rattle.run_status.specs.Seen.{Input}
use Rattle.command_inputs.specs.KeyInputs.{key_spec, TookAtMost}
use Rattle.command_inputs.specs.NamedKeys.{WithKey, KeyIs}

-- the key was read, or none was named, and then the run went on
pub after_key : (named : Bool) (runs : CommandSpec → Input → Type 0) (halted others : Type 0) (key : Input) (k : Option (List ℕ)) (next : Option (List ℕ) → Type 0) → KeyIs named key k → next k → WithKey named runs halted others key next
after_key false runs halted others key k next is n = subst next is.0 n
after_key true runs halted others key k next (bytes, is, holds) n = inr (bytes, holds, subst next is n)

-- the run halted at the key
pub at_key : (named : Bool) (runs : CommandSpec → Input → Type 0) (halted others : Type 0) (key : Input) (next : Option (List ℕ) → Type 0) → named ≡ true → runs key_spec key → halted → TookAtMost 67 key.left_before key.left_after → others → WithKey named runs halted others key next
at_key named runs halted others key next is r h w o = subst (λ b. WithKey b runs halted others key next) (sym is) (inl (r, h, w, o))

-- nothing was read
pub took_nothing : (left : Option (List ℕ)) → TookAtMost 67 left left
took_nothing left = record { taken = []; took = sym (prepend_known_nil left); fits = omega arith }
