-- A payload that is put together from its header and its data.
use Rattle.std.proofs.Common.{◌≡◌, ap, ◌∙◌, ℕ, ◌+◌, List, ◌++◌, length, take, drop, replicate, sym}
use Rattle.std.proofs.lemmas.List.{drop-drop, drop-replicate}
use Rattle.mav_ftp.specs.declared.payload.FtpFields.{FtpFields}
use Rattle.mav_ftp.specs.Payload.{ftp_header, ftp_payload}

filled : (f : FtpFields) (bytes : List ℕ)
    → take 12 (ftp_header f ++ replicate 239 0) ++ (bytes ++ drop (12 + length bytes) (ftp_header f ++ replicate 239 0)) ≡ ftp_payload f bytes
filled f bytes =
    ap (λ z. ftp_header f ++ (bytes ++ z)) (sym (drop-drop (length bytes) 12 (ftp_header f ++ replicate 239 0)) ∙ drop-replicate (length bytes) 239 0)

pub put_together : (f : FtpFields) (bytes header before after : List ℕ) → header ≡ ftp_header f
    → before ≡ take 0 (replicate 251 0) ++ (header ++ drop (0 + length header) (replicate 251 0))
    → after ≡ take 12 before ++ (bytes ++ drop (12 + length bytes) before)
    → after ≡ ftp_payload f bytes
put_together f bytes header before after is first second =
    let started : before ≡ ftp_header f ++ replicate 239 0 = first ∙ ap (λ h. take 0 (replicate 251 0) ++ (h ++ drop (0 + length h) (replicate 251 0))) is in
    second ∙ (ap (λ b. take 12 b ++ (bytes ++ drop (12 + length bytes) b)) started ∙ filled f bytes)
