-- Fewer bytes are held once some were seen.
use Rattle.std.proofs.Common.{◌≡◌, ◌∙◌, ◌<◌, ◌≤◌, ℕ, false, List, [], length, set, slice_get, Some, refl, ap, arith}
use Rattle.std.proofs.lemmas.List.{length-drop}
use Rattle.std.proofs.lemmas.Option.{get_or_from_slice_get, slice_get-get_or}
use Rattle.mav_stream.specs.Held.{Held, nothing_held}
use Rattle.relay_core.specs.Moves.{OthersKept, held_at}
use Rattle.relay_core.specs.Scans.{consumed}
use Rattle.relay_core.proofs.Places.{set_elsewhere, set_there}

pub held_there : (scanners : List Held) (index : ℕ) → index < length scanners → slice_get scanners index ≡ Some (held_at scanners index)
held_there scanners index l = slice_get-get_or scanners index (nothing_held [] false) l

pub fewer_held : (old new : List Held) (index count : ℕ) → index < length old → new ≡ set old index (consumed count (held_at old index)) → 0 < count → count ≤ length (held_at old index).bytes → length (held_at new index).bytes < length (held_at old index).bytes
fewer_held old new index count within is some most =
    let held = held_at old index in
    let now = consumed count held in
    let there = ap (λ (l : List Held). slice_get l index) is ∙ set_there old index now within in
    let same = ap (λ (h : Held). length h.bytes) (get_or_from_slice_get new index now (nothing_held [] false) there) in
    let less = length-drop count held.bytes in
    omega (arith, same, less, some, most)

pub others_kept : (old new : List Held) (index count : ℕ) → length new ≡ length old → new ≡ set old index (consumed count (held_at old index)) → OthersKept index old new
others_kept old new index count same is = (same, λ k apart. ap (λ (l : List Held). slice_get l k) is ∙ set_elsewhere old index k (consumed count (held_at old index)) apart)

pub others_none : (index : ℕ) (scanners : List Held) → OthersKept index scanners scanners
others_none index scanners = (refl, λ k apart. refl)

pub others_on : (index : ℕ) (a b c : List Held) → OthersKept index a b → OthersKept index b c → OthersKept index a c
others_on index a b c first second = (second.0 ∙ first.0, λ k apart. second.1 k apart ∙ first.1 k apart)
