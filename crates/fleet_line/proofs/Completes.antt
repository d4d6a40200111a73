-- Completeness of `fleet`, from the promises of its parts.
use Rattle.std.proofs.Common.{◌≡◌, ◌≢◌, ◌≤◌, ◌⊎◌, ◌∙◌, inl, inr, ℕ, Bool, true, false, ◌||◌, if◌then◌else◌, List, [], ◌∷◌, length, take, drop, refl, sym, ap, subst, arith, length-drop, Option, Some, None, Result, Ok, Err}
use Rattle.std.specs.Str.{bytes_eq}
use Rattle.std.proofs.lemmas.Slice.Eq.{bytes_eq-Decides}
use Rattle.hex.specs.Hex.{decode_sized}
use Rattle.hex.specs.declared.error.FromHexError.{FromHexError}
use Rattle.mav_ports.specs.Gets.{IsSpent}
use Rattle.run_status.proofs.Ends.{whole_taken}
use Rattle.command_inputs.specs.KeyText.{is_line_end, key_with, key_or_default}
use Rattle.command_inputs.specs.KeyInputs.{most_key_bytes, refusal_of, key_spec}
use Rattle.command_inputs.proofs.KeyStays.{goes_on}
use Rattle.fleet_command.specs.Spec.{fleet_spec}
use Rattle.fleet_theorem.proofs.Completeness.{completed}
use Rattle.run_status.specs.Seen.{Input, Output, around, promised_over}
use Rattle.fleet_line.specs.Fleets.{Fleets, FleetsComplete}

-- ---- a key's text is short

either : (a b : Bool) → (a || b) ≡ true → (a ≡ true) ⊎ (b ≡ true)
either true b e = inl refl
either false b e = inr e

-- a text that is one of this length
long_as : (text other : List ℕ) → bytes_eq text other ≡ true → length text ≡ length other
long_as text other e = ap length ((bytes_eq-Decides text other).0 e)

end_short : (end : List ℕ) → is_line_end end ≡ true → length end ≤ 2
end_short end e = elim (either (bytes_eq end []) (bytes_eq end (10 ∷ []) || bytes_eq end (13 ∷ 10 ∷ [])) e) [
  | inl none ↦ omega (arith, long_as end [] none)
  | inr some ↦ elim (either (bytes_eq end (10 ∷ [])) (bytes_eq end (13 ∷ 10 ∷ [])) some) [
    | inl one ↦ omega (arith, long_as end (10 ∷ []) one)
    | inr two ↦ omega (arith, long_as end (13 ∷ 10 ∷ []) two)
  ]
]

ended : (b : Bool) (key k : List ℕ) → (if b then Some key else None) ≡ Some k → b ≡ true
ended true key k e = refl
ended false key k e = absurd (let wrong : ◌≡◌ {A = Option (List ℕ)} None (Some k) = e in cc)

line_ends : (r : Result (List ℕ) FromHexError) (end k : List ℕ) → key_with r end ≡ Some k → is_line_end end ≡ true
line_ends (Ok key) end k e = ended (is_line_end end) key k e
line_ends (Err fault) end k e = absurd (let wrong : ◌≡◌ {A = Option (List ℕ)} None (Some k) = e in cc)

key_short : (bytes k : List ℕ) → key_or_default bytes ≡ Some k → length bytes ≤ most_key_bytes
key_short [] k e = omega arith
key_short (b ∷ bs) k e =
    let end : length (drop 64 (b ∷ bs)) ≤ 2 = end_short (drop 64 (b ∷ bs)) (line_ends (decode_sized (take 64 (b ∷ bs)) 32) (drop 64 (b ∷ bs)) k e) in
    omega (arith, end, length-drop 64 (b ∷ bs))

-- nothing stops the reading of such a text
key_goes : (bytes k : List ℕ) → key_or_default bytes ≡ Some k → key_spec.stop true bytes ≡ None
key_goes bytes k e = goes_on key_or_default true bytes (key_short bytes k e) ∙ ap refusal_of e

-- ---- the run

some_is : (a b : List ℕ) → Some a ≡ Some b → a ≡ b
some_is a b e = cc

pub fleets_complete : (named_key frames : Bool) (out : Output) (code : ℕ) (key main : Input) → (key.spent → IsSpent key.left_after) → Fleets named_key frames (promised_over out code) (code ≢ 0) key main → FleetsComplete named_key frames out code key main
fleets_complete false frames out code key main spent d k is =
    let run : promised_over out code (fleet_spec k frames) main = subst (λ u. promised_over out code (fleet_spec u frames) main) (sym is) d in
    completed k frames (around main out) main.left_before main.left_after out.sent_before out.sent_after code run
fleets_complete true frames out code key main spent (inl (run, halted, within, unread)) k (text, there, read, good) = λ bytes reported can authentic sound.
    elim (run.complete text there (key_goes text k read) good.reads good.gives good.writes) [
      | inl zero ↦ absurd (halted zero)
      | inr memory ↦ inr memory
    ]
fleets_complete true frames out code key main spent (inr (used, holds, d)) k (text, there, read, good) =
    let same : text ≡ holds.taken = whole_taken text holds.taken key.left_before key.left_after there holds.took (spent holds.at_end) in
    let is : used ≡ k = some_is used k (sym holds.read_is ∙ ap key_or_default (sym same) ∙ read) in
    let run : promised_over out code (fleet_spec k frames) main = subst (λ u. promised_over out code (fleet_spec u frames) main) is d in
    completed k frames (around main out) main.left_before main.left_after out.sent_before out.sent_after code run
