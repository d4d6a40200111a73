-- Why the reading of a key halts.
use Rattle.std.proofs.Common.{◌≡◌, ◌∙◌, ◌<◌, ◌≤◌, ◌+◌, ℕ, true, false, List, ◌++◌, length, take, refl, sym, ap, Option, Some, None, IsTrue}
use Rattle.std.proofs.Math.Seq.{take-append-add}
use Rattle.std.proofs.lemmas.List.{take-append-le, length-take-le}
use Rattle.std.specs.Io.KnownBytes.{prepend_known}
use borrow.Rule.Slice.PartMut.{put_mid, post_of}
use Rattle.mav_ports.proofs.Known.{append_known_nil}
use Rattle.run_status.specs.declared.run_ends.RunEnd.TheVariants.{Stopped, ReadFault, TurnsSpent}
use Rattle.run_status.specs.Runs.{PortOutcome, RunBeforeStatus}
use Rattle.command_inputs.specs.KeyInputs.{most_key_bytes, bad_key, refusal_of, spec_by, TookAtMost}
use Rattle.command_inputs.proofs.KeyStays.{stops_long, goes_on}

-- the bytes at the start of a buffer, with those of one more read after them
pub front_more : (buf piece : List ℕ) (count room more : ℕ) → count ≤ length buf → more ≤ length piece → take (count + more) (put_mid count room buf piece) ≡ take count buf ++ take more piece
front_more buf piece count room more within fits =
    ap (λ (n : ℕ). take (n + more) (put_mid count room buf piece)) (sym (length-take-le count buf within))
    ∙ take-append-add (take count buf) (piece ++ post_of count room buf) more
    ∙ ap (λ (l : List ℕ). take count buf ++ l) (take-append-le more piece (post_of count room buf) fits)

module _ (read : List ℕ → Option (List ℕ)) (o : PortOutcome) (lb la sent : Option (List ℕ)) (taken : List ℕ) (took : lb ≡ prepend_known taken la) where
  not_ended : IsTrue false → o.spent
  not_ended never = absurd (cc never)

  -- a read failed, or the input gave nothing for too long
  pub before_status_failed : length taken ≤ most_key_bytes → o.failed → RunBeforeStatus (spec_by read) o lb la sent sent (Some ReadFault)
  before_status_failed fits failed = record { taken = taken; ended = false; took = took; at_end = not_ended; cause = (failed, refl, goes_on read false taken fits); wrote = append_known_nil sent }

  pub before_status_idled : length taken ≤ most_key_bytes → o.idled → RunBeforeStatus (spec_by read) o lb la sent sent (Some TurnsSpent)
  before_status_idled fits idled = record { taken = taken; ended = false; took = took; at_end = not_ended; cause = (idled, refl, goes_on read false taken fits); wrote = append_known_nil sent }

  -- more bytes were read than a key has
  pub before_status_long : most_key_bytes < length taken → RunBeforeStatus (spec_by read) o lb la sent sent (Some (Stopped bad_key))
  before_status_long long = record { taken = taken; ended = false; took = took; at_end = not_ended; cause = stops_long read false taken long; wrote = append_known_nil sent }

  -- the input ended, and its bytes are no key
  pub before_status_bad : length taken ≤ most_key_bytes → o.spent → read taken ≡ None → RunBeforeStatus (spec_by read) o lb la sent sent (Some (Stopped bad_key))
  before_status_bad fits spent is = record { taken = taken; ended = true; took = took; at_end = λ ended. spent; cause = goes_on read true taken fits ∙ ap refusal_of is; wrote = append_known_nil sent }

-- the bytes taken are not too many
pub at_most : (lb la : Option (List ℕ)) (taken : List ℕ) → lb ≡ prepend_known taken la → (most : ℕ) → length taken ≤ most → TookAtMost most lb la
at_most lb la taken took most fits = record { taken = taken; took = took; fits = fits }
