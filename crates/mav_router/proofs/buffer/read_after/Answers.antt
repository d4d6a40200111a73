use Rattle.std.proofs.Common.{◌≡◌, ◌≤◌, ◌+◌, ◌-◌, ℕ, List, length, drop, slice_range, sym, subst, arith, length-take, length-drop}
use Rattle.std.proofs.lemmas.Slice.{between-put_mid}
use Rattle.std.specs.Io.KnownBytes.{prepend_known}
use borrow.Rule.Slice.PartMut.{put_mid, take_put}
use Rattle.mav_ports.specs.Gets.{given, GivesWithin}
use Rattle.mav_router.proofs.buffer.read_after.Goals as goal

-- the part of the buffer that was lent
lent : (held : ℕ) (buf part : List ℕ) → held + 4096 ≤ length buf → length part ≡ length (slice_range buf held (held + 4096)) → slice_range (put_mid held (held + 4096 - held) buf part) held (held + 4096) ≡ part
lent held buf part room long =
    between-put_mid held (held + 4096 - held) buf part (held + 4096) (omega (arith, room)) (omega (arith, room, long, length-take (held + 4096 - held) (drop held buf), length-drop held buf))

pub returns-clause-within : goal.returns-clause-within
returns-clause-within g c =
    subst (λ (l : List ℕ). GivesWithin c.read.result l) (sym (lent c.args.held c.args.buf.now c.read.new.buf c.requires c.read.auto.buf)) c.read.ensures.within

pub returns-clause-first : goal.returns-clause-first
returns-clause-first g c = take_put c.args.held (c.args.held + 4096 - c.args.held) c.args.buf.now c.read.new.buf (omega (arith, c.requires))

pub returns-clause-bytes : goal.returns-clause-bytes
returns-clause-bytes g c =
    subst (λ (l : List ℕ). (g.L.Link.state c.args.link.now).left ≡ prepend_known (given c.read.result l) (g.L.Link.state c.read.new.self).left) (sym (lent c.args.held c.args.buf.now c.read.new.buf c.requires c.read.auto.buf)) c.read.ensures.bytes
