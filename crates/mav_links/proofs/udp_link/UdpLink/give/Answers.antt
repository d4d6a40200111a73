use Rattle.std.proofs.Common.{◌≡◌, ◌≤◌, ◌+◌, ◌-◌, ◌∙◌, ◌++◌, ℕ, List, ap, sym, arith, drop, drop-drop, length, length-drop, length-take-le, subst, take, take-add}
use Rattle.std.proofs.Math.Seq.{take-append_seam}
use Rattle.mav_links.specs.Datagrams.{bytes_between}
use Rattle.mav_links.proofs.udp_link.UdpLink.give.Goals as goal

-- so many bytes are copied to the start of a buffer
copied_first : (start end n : ℕ) (bytes copied rest : List ℕ) → start + n ≤ end → end ≤ length bytes
    → copied ≡ take ((start + n) - start) (drop start bytes)
    → bytes_between start end bytes ≡ take n (copied ++ rest) ++ bytes_between (start + n) end bytes
copied_first start end n bytes copied rest within room is =
    let all : end - start ≡ n + (end - (start + n)) = omega (arith, within) in
    let some : (start + n) - start ≡ n = omega arith in
    let same : copied ≡ take n (drop start bytes) = is ∙ ap (λ k. take k (drop start bytes)) some in
    let long : length copied ≡ n =
    ap length same ∙ length-take-le n (drop start bytes) (omega (arith, length-drop start bytes, within, room)) in
    let front : take n (copied ++ rest) ≡ copied =
    subst (λ k. take k (copied ++ rest) ≡ copied) long (take-append_seam copied rest) in
    ap (λ k. take k (drop start bytes)) all
    ∙ take-add n (end - (start + n)) (drop start bytes)
    ∙ ap (λ xs. take n (drop start bytes) ++ take (end - (start + n)) xs) (drop-drop n start bytes)
    ∙ ap (λ xs. xs ++ bytes_between (start + n) end bytes) (sym (front ∙ same))

pub returns-clause-kept : goal.returns-clause-kept
returns-clause-kept g c =
    let self = c.args.self.now in
    let n = c.min-count.result in
    let most = c.min-count.ensures in
    copied_first self.start self.end n self.datagram.items c.copy_from_slice.new.self (drop n c.args.buf.now) (omega (arith, most, self.order)) self.within
    (c.copy_from_slice.ensures.after ∙ ap (λ xs. take ((self.start + n) - self.start) (drop self.start xs)) c.deref.ensures.value)
