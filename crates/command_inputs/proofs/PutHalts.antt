-- What was taken of a file, and why the reading of it halts.
use Rattle.std.proofs.Common.{length-take, ◌∷◌, ◌∙◌, ◌≡◌, ◌<◌, ◌≤◌, ◌+◌, ◌-◌, ℕ, false, List, [], ◌++◌, take, drop, min, length, arith, refl, sym, subst, ap, Option, Some, IsTrue}
use Rattle.std.proofs.lemmas.List.{length-append, length-take-le, length-drop}
use Rattle.std.specs.Io.KnownBytes.{prepend_known}
use Rattle.mav_ports.proofs.Known.{append_known_nil, prepend_known_nil, sent_start}
use Rattle.run_status.proofs.RunsBeforeStatus.{took_more, took_none}
use Rattle.run_status.specs.declared.run_ends.RunEnd.TheVariants.{Stopped, ReadFault, NoMemory, TurnsSpent}
use Rattle.run_status.specs.Runs.{PortOutcome, RunBeforeStatus}
use Rattle.command_inputs.specs.KeyInputs.{TookAtMost}
use Rattle.command_inputs.specs.PutFiles.{most_file_bytes, refused, put_spec, HoldsFile, Held}
use Rattle.command_inputs.proofs.PutStays.{stops_long, goes_on}

-- nothing was taken
pub held_none : (left : Option (List ℕ)) (faults idles : ℕ) (bytes : List ℕ) → length bytes ≡ 0 → Held left faults idles left faults idles bytes
held_none left faults idles [] none = record { took = sym (prepend_known_nil left); faults_are = refl; idles_are = omega arith }
held_none left faults idles (b ∷ bs) none = absurd (omega (arith, none))

-- a read gave this piece, or nothing
pub held_more : {first before after : Option (List ℕ)} {faults idles fb fa ib ia : ℕ} (bytes piece more : List ℕ) → Held first faults idles before fb ib bytes → before ≡ prepend_known piece after → fa ≡ fb → ib ≤ ia → more ≡ bytes ++ piece → Held first faults idles after fa ia more
held_more {first} {before} {after} {faults} {idles} {fb} {fa} {ib} {ia} bytes piece more h took same counted longer = record {
  took = subst (λ (l : List ℕ). first ≡ prepend_known l after) (sym longer) (took_more bytes piece first before after h.took took);
  faults_are = same ∙ h.faults_are;
  idles_are = omega (arith, h.idles_are, counted);
}

pub held_still : {first before after : Option (List ℕ)} {faults idles fb fa ib ia : ℕ} (bytes : List ℕ) → Held first faults idles before fb ib bytes → before ≡ prepend_known [] after → fa ≡ fb → ib ≤ ia → Held first faults idles after fa ia bytes
held_still {first} {before} {after} {faults} {idles} {fb} {fa} {ib} {ia} bytes h took same counted = record {
  took = took_none bytes first before after h.took took;
  faults_are = same ∙ h.faults_are;
  idles_are = omega (arith, h.idles_are, counted);
}

-- how long it is with a piece
pub piece_length : (bytes buf more : List ℕ) (count : ℕ) → count ≤ length buf → more ≡ bytes ++ take count buf → length more ≡ length bytes + count
piece_length bytes buf more count within longer = omega (arith, ap length longer, length-append bytes (take count buf), length-take-le count buf within)

-- a read has no more room than makes a file too long
pub room_within : (held buf : List ℕ) (count room : ℕ) → count ≡ length held → room ≡ min (length buf) (1048577 - count) → length held ≤ 1048577 → length held + length (take room buf) ≤ 1048577
room_within held buf count room is e fits = omega (arith, is, e, fits, length-take room buf)

pub more_within : (held now buf : List ℕ) (count room : ℕ) → count ≡ length held → room ≡ min (length buf) (1048577 - count) → length held ≤ 1048577 → length now ≤ length held + length (take room buf) → length now ≤ 1048577
more_within held now buf count room is e fits more = omega (arith, room_within held buf count room is e fits, more)

-- and it changes no length
pub some_room : (part buf : List ℕ) (room : ℕ) → length part ≡ length (take room buf) → 0 < length buf → 0 < length (part ++ drop room buf)
some_room part buf room same some = omega (arith, same, some, length-append part (drop room buf), length-take room buf, length-drop room buf)

-- the input has ended
pub holds_all : {spent : Type 0} {first left : Option (List ℕ)} {faults idles fn jn : ℕ} (held now : List ℕ) → Held first faults idles left fn jn now → spent × (now ≡ held) → length held ≤ most_file_bytes → HoldsFile spent first left now
holds_all {spent} {first} {left} {faults} {idles} {fn} {jn} held now h (at_end, same) fits = record { took = h.took; at_end = at_end; fits = omega (arith, ap length same, fits) }

not_ended : {P : Type 0} → IsTrue false → P
not_ended never = absurd (cc never)

module _ (o : PortOutcome) (lb la sent : Option (List ℕ)) (taken : List ℕ) (took : lb ≡ prepend_known taken la) where
  pub halts_failed : length taken ≤ most_file_bytes → o.failed → RunBeforeStatus put_spec o lb la sent sent (Some ReadFault)
  halts_failed fits failed = record { taken = taken; ended = false; took = took; at_end = not_ended; cause = (failed, refl, goes_on false taken fits); wrote = append_known_nil sent }

  pub halts_idled : length taken ≤ most_file_bytes → o.idled → RunBeforeStatus put_spec o lb la sent sent (Some TurnsSpent)
  halts_idled fits idled = record { taken = taken; ended = false; took = took; at_end = not_ended; cause = (idled, refl, goes_on false taken fits); wrote = append_known_nil sent }

  pub halts_memory : RunBeforeStatus put_spec o lb la sent sent (Some NoMemory)
  halts_memory = record { taken = taken; ended = false; took = took; at_end = not_ended; cause = tt; wrote = ([], sent_start sent []) }

  pub halts_long : most_file_bytes < length taken → RunBeforeStatus put_spec o lb la sent sent (Some (Stopped refused))
  halts_long long = record { taken = taken; ended = false; took = took; at_end = not_ended; cause = stops_long false taken long; wrote = append_known_nil sent }

pub at_most : (lb la : Option (List ℕ)) (taken : List ℕ) → lb ≡ prepend_known taken la → length taken ≤ 1048577 → TookAtMost 1048577 lb la
at_most lb la taken took fits = record { taken = taken; took = took; fits = fits }
