-- Words read from a payload, whose bytes past its end are 0.
use Rattle.std.specs.Prelude.{ℕ, zero, suc, ◌+◌, ◌*◌, List, map, slice_index}
use Rattle.std.specs.List.{range_with_len}

-- the word of `size` bytes from an offset on, lowest byte first
abbrev pub word_from : List ℕ → ℕ → ℕ → ℕ
word_from payload at zero = 0
word_from payload at (suc size) = slice_index payload at + 256 * word_from payload (at + 1) size

-- `count` words of that size, one after another
abbrev pub words_from : List ℕ → ℕ → ℕ → ℕ → List ℕ
words_from payload at size count = map (λ k. word_from payload (at + size * k) size) (range_with_len 0 count)
