use Rattle.std.proofs.Common.{◌≡◌, ◌<◌, None, length, sym, subst}
use Rattle.mav_sign.specs.Kept.{Kept, stamp_at, stream_number}
use Rattle.mav_sign.proofs.Keeping.{has_room}
use Rattle.mav_sign.proofs.stamps.Stamps.keep_stamp.Goals as goal

pub put-requires : goal.put-requires
put-requires c =
    subst (λ (kept : Kept). stamp_at (stream_number c.args.stream) kept.last ≡ None → length kept.last < 256) (sym c.self.view_is) (has_room c.args.self.now c.args.stream c.args.stamp (c.requires.right c.in-Admitted.is))
