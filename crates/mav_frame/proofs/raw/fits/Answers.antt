use Rattle.std.proofs.Common.{rules, ℕ, ◌<◌, ◌≤◌, List, length, All, sym, ap, ◌∙◌, subst, arith}
use Rattle.mav_frame.specs.Packet.{Packet, FitsFrame}
use Rattle.mav_frame.proofs.raw.fits.Goals as goal

short_bytes : (l : List ℕ) → length l ≤ 255 → length l < 256
short_bytes l h = omega (arith, h)

pub returns : goal.returns
returns c =
    let payload = c.payload_bytes.ensures.bytes ∙ sym (ap (λ (p : Packet). p.payload) c.frame.view_is) in
    subst FitsFrame c.frame.view_is (record {
      compat = search rules;
      seq = search rules;
      sys = search rules;
      comp = search rules;
      id = c.frame.invariant.0;
      length = subst (λ (l : List ℕ). length l < 256) payload (short_bytes c.payload_bytes.result.now c.payload_bytes.ensures.short);
      payload = subst (All (λ byte. byte < 256)) payload c.are_bytes.ensures;
      check = search rules;
      block = c.any_block_fits.ensures;
      old = λ is. let o = c.frame.invariant.2 is in record { id = o.0; compat = o.1; block = o.2 };
    })
