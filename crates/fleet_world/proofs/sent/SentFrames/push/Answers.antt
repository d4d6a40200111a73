use Rattle.std.proofs.Common.{◌≡◌, ◌++◌, ◌∷◌, [], List, ℕ, sym, ap, ◌∙◌, subst}
use Rattle.std.proofs.lemmas.Result.{err_from_is_err_and}
use Rattle.mav_names.specs.declared.names.Name.{Name}
use Rattle.mav_frame.specs.Packet.{Packet}
use Rattle.mav_frame.specs.Raw.{packet_in}
use Rattle.mav_sign.specs.Signing.{Verifies, BytesVerify}
use Rattle.fleet_world.specs.WorldView.{Kept, kept_as}
use Rattle.fleet_world.proofs.CutBytes.{kept_within, kept_signed, same_kept, pushed, pushed_within, pushed_signed}
use Rattle.fleet_world.proofs.sent.SentFrames.push.Goals as goal

-- the bytes of a frame that verifies
bytes_verify : (key bytes : List ℕ) (frame packet : Packet) → packet ≡ frame → packet_in bytes ≡ packet → Verifies key frame frame.block → BytesVerify key bytes
bytes_verify key bytes frame packet same again signed = subst (λ (p : Packet). Verifies key p p.block) (sym (again ∙ same)) signed

pub invariant_of-self : goal.invariant_of-self
invariant_of-self c = same_kept _ _ _ _ c.in_err-span.ensures.kept c.self.invariant

pub returns-in_err-span : goal.returns-in_err-span
returns-in_err-span c =
    let p = err_from_is_err_and c.from_residual.result c.from_residual.ensures.1 in
    rw p.1 tt

pub returns-in_err-push : goal.returns-in_err-push
returns-in_err-push c =
    let p = err_from_is_err_and c.from_residual-in_err-push.result c.from_residual-in_err-push.ensures.1 in
    rw p.1 tt

pub invariant_of-self-in_err-push : goal.invariant_of-self-in_err-push
invariant_of-self-in_err-push c =
    (kept_within _ _ _ _ _ c.self.invariant.0 c.in_ok-span.ensures.joined c.in_err-push.ensures.items, kept_signed _ _ _ _ _ _ c.self.invariant.0 c.self.invariant.1 c.in_ok-span.ensures.joined c.in_err-push.ensures.items)

pub invariant_of-self-2 : goal.invariant_of-self-2
invariant_of-self-2 c = (
  pushed_within _ _ _ _ _ _ _ _ c.self.invariant.0 c.in_ok-span.ensures.span c.in_ok-span.ensures.joined c.in_ok-push.ensures.items,
  pushed_signed _ _ _ _ _ _ _ _ _ c.self.invariant.0 c.self.invariant.1 (λ known. bytes_verify _ _ _ _ c.raw-raw.ensures c.bytes.ensures.again (c.is_signed_under-signed.ensures known)) c.in_ok-span.ensures.span c.in_ok-span.ensures.joined c.in_ok-push.ensures.items,
)

kept_is : (kept : List Kept) (from : Name) (bytes : List ℕ) (packet frame : Packet) → packet ≡ frame → from ≡ packet.from → bytes ≡ (kept_as packet).1 → kept ++ (from, bytes) ∷ [] ≡ kept ++ kept_as frame ∷ []
kept_is kept from bytes packet frame same f b =
    ap (λ (n : Name). kept ++ (n, bytes) ∷ []) f ∙ ap (λ (l : List ℕ). kept ++ (packet.from, l) ∷ []) b ∙ ap (λ (p : Packet). kept ++ kept_as p ∷ []) same

pub returns : goal.returns
returns c =
    pushed _ _ _ _ _ _ _ _ _ c.self.invariant.0 c.self.view_is c.in_ok-span.ensures.span c.in_ok-span.ensures.joined c.in_ok-push.ensures.items
    ∙ kept_is _ _ _ _ _ c.raw-raw.ensures c.from.ensures c.bytes.ensures.bytes
