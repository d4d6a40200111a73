use Rattle.std.proofs.Common.{◌≡◌, ◌<◌, ℕ, List, ◌++◌, length, take, drop, slice_index, sym, subst, ◌∙◌, ap, arith}
use Rattle.std.proofs.lemmas.List.{take_all, take-append-le, get_or-replicate}
use Rattle.x25_check.specs.Extras.{extra_of}
use Rattle.mav_stream.specs.Entries.{byte_of}
use Rattle.mav_stream.proofs.table.ExtrasTable.new.Goals as goal

-- a prefix is what its length takes
front : (n : ℕ) (xs ys : List ℕ) → length xs ≡ n → take n (xs ++ ys) ≡ xs
front n xs ys e = take-append-le n xs ys (omega arith) ∙ take_all n xs (omega arith)

pub invariant_of-result : goal.invariant_of-result
invariant_of-result c =
    let old = c.in_ok-low.low in let new = c.fill.new.low in
    let filled : old.len ≡ 65536 = c.in_ok-low.ensures.len in
    let size : length new ≡ old.len = omega arith in
    let long : length new ≡ 65536 = size ∙ filled in
    let all = front old.len new (drop (length new) old.items) size in
    subst (λ (low : List ℕ). (length low ≡ 65536) × ((id : ℕ) → id < 65536 → byte_of (slice_index low id) ≡ extra_of id c.args.extras)) (sym all) (long, λ id small. c.fill.ensures.entries id small ∙ ap (extra_of id) c.pairs.ensures.pairs)

-- no id has an entry yet
pub fill-requires-clause-unknown : goal.fill-requires-clause-unknown
fill-requires-clause-unknown c id small =
    let all = c.deref_mut.ensures.value ∙ c.in_ok-low.ensures.items_if_clones_equal (λ y same. same) in
    ap byte_of (ap (λ (low : List ℕ). slice_index low id) all ∙ get_or-replicate 65536 id 256 0 small)
