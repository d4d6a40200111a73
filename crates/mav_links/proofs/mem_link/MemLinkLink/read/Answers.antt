use Rattle.std.proofs.Common.{◌<◌, ◌+◌, ◌^◌, List, [], ◌∷◌, ◌≡◌, ◌≤◌, ℕ, ◌∙◌, ap, length, arith, length-append, length-take, take}
use Rattle.mav_ports.specs.Calls.{call_after}
use Rattle.mav_ports.specs.MemReads.{MemReads}
use Rattle.mav_links.proofs.Listed.{listed_next, listed_now, idle_is_listed}
use Rattle.mav_links.specs.MemLinks.{listed_before}
use Rattle.mav_links.proofs.mem_link.MemLinkLink.read.Goals as goal

nothing_given : (s new : MemReads) (pauses : List ℕ) (given room : ℕ) → s.left ≡ new.left → new.idles ≡ s.idles → new.call ≡ call_after s.call → (length pauses ≤ listed_before s.idles s.call) × (length s.idles ≤ room) × (given + length s.left < 2 ^ 64) → (length pauses ≤ listed_before new.idles new.call) × (length new.idles ≤ room) × (given + length new.left < 2 ^ 64)
nothing_given s new pauses given room left idles call i =
    let next = listed_next s.idles s.call in
    let listed = ap length idles in
    let calls : listed_before new.idles new.call ≡ listed_before s.idles (call_after s.call) = ap (λ (numbers : List ℕ). listed_before numbers new.call) idles ∙ ap (listed_before s.idles) call in
    let long = ap length left in
    (omega (arith, i.0, next, calls), omega (arith, i.1, listed), omega (arith, i.2, long))

pub invariant_of-self : goal.invariant_of-self
invariant_of-self c =
    let s = c.self.inside.source in
    let i = c.self.invariant in
    let got = take c.in-Bytes.count c.read-got.new.buf in
    let next = listed_next s.idles s.call in
    let whole = ap length c.in-Bytes.ensures.bytes ∙ length-append got c.read-got.new.self.left in
    let part = length-take c.in-Bytes.count c.read-got.new.buf in
    let calls : listed_before c.read-got.new.self.idles c.read-got.new.self.call ≡ _ = ap (λ (r : MemReads). listed_before r.idles r.call) c.in-Bytes.ensures.after in
    let listed : length c.read-got.new.self.idles ≡ length s.idles = ap (λ (r : MemReads). length r.idles) c.in-Bytes.ensures.after in
    (omega (arith, i.0, next, calls), omega (arith, i.1, listed), omega (arith, i.2, whole, part, c.in-Bytes.ensures.within.1))

pub keep-requires : goal.keep-requires
keep-requires c =
    let s = c.self.inside.source in
    let i = c.self.invariant in
    let now = listed_now s.idles s.call (idle_is_listed s _ c.in-Idle.ensures.answer) in
    omega (arith, i.0, i.1, now.1, c.self.inside.pauses.ok.0)

pub invariant_of-self-in-Idle : goal.invariant_of-self-in-Idle
invariant_of-self-in-Idle c =
    let s = c.self.inside.source in
    let i = c.self.invariant in
    let now = listed_now s.idles s.call (idle_is_listed s _ c.in-Idle.ensures.answer) in
    let calls : listed_before c.read-got.new.self.idles c.read-got.new.self.call ≡ _ = ap (λ (r : MemReads). listed_before r.idles r.call) c.in-Idle.ensures.after in
    let listed : length c.read-got.new.self.idles ≡ length s.idles = ap (λ (r : MemReads). length r.idles) c.in-Idle.ensures.after in
    let left = ap length c.in-Idle.ensures.bytes in
    let more = ap length (c.keep.ensures.items) ∙ length-append c.self.inside.pauses.items (c.self.inside.given ∷ []) in
    (omega (arith, i.0, now.0, calls, more), omega (arith, i.1, listed, c.keep.ensures.room), omega (arith, i.2, left))

pub invariant_of-self-in-End : goal.invariant_of-self-in-End
invariant_of-self-in-End c = nothing_given c.self.inside.source c.read-got.new.self c.self.inside.pauses.items c.self.inside.given _ c.in-End.ensures.bytes (ap (λ (r : MemReads). r.idles) c.in-End.ensures.after) (ap (λ (r : MemReads). r.call) c.in-End.ensures.after) c.self.invariant

pub invariant_of-self-in-Failed : goal.invariant_of-self-in-Failed
invariant_of-self-in-Failed c = nothing_given c.self.inside.source c.read-got.new.self c.self.inside.pauses.items c.self.inside.given _ c.in-Failed.ensures.bytes (ap (λ (r : MemReads). r.idles) c.in-Failed.ensures.after) (ap (λ (r : MemReads). r.call) c.in-Failed.ensures.after) c.self.invariant
