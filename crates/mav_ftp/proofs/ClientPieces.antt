-- The next bytes of a store.
use Rattle.std.proofs.Common.{◌≡◌, ◌≤◌, ◌<◌, ℕ, ◌+◌, ◌-◌, List, length, take, drop, min, ap, sym, subst, ◌∙◌, arith}
use Rattle.std.proofs.lemmas.List.{take_min, length-take, length-drop}
use Rattle.mav_ftp.specs.declared.client.stages.Stage.{Stage}
use Rattle.mav_ftp.specs.declared.client.stages.Stage.TheVariants.{Writing as InWriting}
use Rattle.mav_ftp.specs.Client.{Transfer, request_data}
use Rattle.mav_ftp.specs.ClientView.{stage_view, IsStage}

cut : (bytes : List ℕ) (written end : ℕ) → written < length bytes → end ≡ min (length bytes) (written + 239)
    → take (end - written) (drop written bytes) ≡ take 239 (drop written bytes)
cut bytes written end more is =
    let same : end - written ≡ min 239 (length (drop written bytes)) = omega (arith, is, more, length-drop written bytes) in
    ap (λ n. take n (drop written bytes)) same ∙ take_min 239 (drop written bytes)

seen_writing : (t : Transfer) (stage : Stage) (bytes : List ℕ) (idle session written : ℕ)
    → stage_view stage bytes idle ≡ t → stage ≡ InWriting session written
    → t ≡ stage_view (InWriting session written) bytes idle
seen_writing t stage bytes idle session written seen is = sym seen ∙ ap (λ s. stage_view s bytes idle) is

more_bytes : (stage : Stage) (bytes : List ℕ) (session written : ℕ) → stage ≡ InWriting session written → IsStage stage bytes
    → written < length bytes
more_bytes stage bytes session written is ok = (subst (λ s. IsStage s bytes) is ok).0

pub next_bytes : (t : Transfer) (stage : Stage) (bytes : List ℕ) (idle session written end : ℕ)
    → stage_view stage bytes idle ≡ t → stage ≡ InWriting session written → IsStage stage bytes
    → (slice : List ℕ) → slice ≡ bytes → end ≡ min (length bytes) (written + 239)
    → take (end - written) (drop written slice) ≡ request_data t t.phase
next_bytes t stage bytes idle session written end seen is ok slice e cuts =
    ap (λ b. take (end - written) (drop written b)) e
    ∙ cut bytes written end (more_bytes stage bytes session written is ok) cuts
    ∙ sym (ap (λ t. request_data t t.phase) (seen_writing t stage bytes idle session written seen is))

-- at most as many bytes as are left
pub within : (t : Transfer) (stage : Stage) (bytes : List ℕ) (idle session written : ℕ)
    → stage_view stage bytes idle ≡ t → stage ≡ InWriting session written → IsStage stage bytes
    → (given : List ℕ) → given ≡ request_data t t.phase
    → written + length given ≤ length t.bytes
within t stage bytes idle session written seen is ok given e =
    let same = seen_writing t stage bytes idle session written seen is in
    let counted : length given ≡ min 239 (length bytes - written) =
    ap length (e ∙ ap (λ t. request_data t t.phase) same) ∙ length-take 239 (drop written bytes) ∙ ap (λ n. min 239 n) (length-drop written bytes) in
    let all : length t.bytes ≡ length bytes = ap (λ (t : Transfer). length t.bytes) same in
    omega (arith, counted, all, more_bytes stage bytes session written is ok)
