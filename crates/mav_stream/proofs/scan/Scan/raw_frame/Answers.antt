use Rattle.std.proofs.Common.{◌≡◌, List, ℕ, Bool, refl, sym, ap, subst}
use Rattle.mav_frame.specs.Looks.{look_of}
use Rattle.mav_frame.specs.Raw.{StartsFrame}
use Rattle.mav_stream.specs.Held.{Held}
use Rattle.mav_stream.proofs.NextSpans.{frame_found}
use Rattle.mav_stream.proofs.scan.Scan.raw_frame.Goals as goal

starts : (held : Held) (old : Bool) (b : List ℕ) (size : ℕ) → old ≡ held.reads_old → b ≡ held.bytes → StartsFrame held.reads_old held.bytes size → StartsFrame old b size
starts held old b size o e h =
    subst (λ (l : List ℕ). StartsFrame old l size) (sym e) (subst (λ (v : Bool). StartsFrame v held.bytes size) (sym o) h)

pub at-requires : goal.at-requires
at-requires c =
    let held = c.args.self.now in
    starts held c.self.inside.reads_old c.self.inside.bytes.now c.args.size
    (ap (λ (h : Held). h.reads_old) c.self.view_is)
    (ap (λ (h : Held). h.bytes) c.self.view_is)
    (record { extras = held.extras; found = frame_found held c.args.size (look_of held.extras held.reads_old held.bytes) refl c.requires })
