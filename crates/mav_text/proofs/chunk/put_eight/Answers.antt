use Rattle.std.proofs.Common.{ℕ, ◌+◌, ◌<◌, ◌≤◌, Fits, w64, refl, arith}
use Rattle.mav_text.proofs.ChunkSteps.{eight_put}
use Rattle.mav_text.proofs.chunk.put_eight.Goals as goal

starts : (n limit : ℕ) → n + 8 ≤ limit → n < limit
starts n limit room = omega arith

below : (k n limit : ℕ) → k < 8 → n + 8 ≤ limit → n + k < limit
below k n limit inside room = omega arith

below_fits : (k n limit : ℕ) → k ≤ 8 → n + 8 ≤ limit → Fits w64 limit → Fits w64 (n + k)
below_fits k n limit inside room fits = omega arith

is_1 : 1 < 8
is_1 = omega arith

is_2 : 2 < 8
is_2 = omega arith

is_3 : 3 < 8
is_3 = omega arith

is_4 : 4 < 8
is_4 = omega arith

is_5 : 5 < 8
is_5 = omega arith

is_6 : 6 < 8
is_6 = omega arith

is_7 : 7 < 8
is_7 = omega arith

to_1 : 1 ≤ 8
to_1 = omega arith

to_2 : 2 ≤ 8
to_2 = omega arith

to_3 : 3 ≤ 8
to_3 = omega arith

to_4 : 4 ≤ 8
to_4 = omega arith

to_5 : 5 ≤ 8
to_5 = omega arith

to_6 : 6 ≤ 8
to_6 = omega arith

to_7 : 7 ≤ 8
to_7 = omega arith

to_8 : 8 ≤ 8
to_8 = omega arith

pub bounds-part-from : goal.bounds-part-from
bounds-part-from g c = starts c.args.from g.row.M c.requires.part

pub overflow_add-second : goal.overflow_add-second
overflow_add-second g c = below_fits 1 c.args.from g.row.M to_1 c.requires.part g.M.fits

pub bounds-part-from-2 : goal.bounds-part-from-2
bounds-part-from-2 g c = below 1 c.args.from g.row.M is_1 c.requires.part

pub overflow_add-third : goal.overflow_add-third
overflow_add-third g c = below_fits 2 c.args.from g.row.M to_2 c.requires.part g.M.fits

pub bounds-part-from-3 : goal.bounds-part-from-3
bounds-part-from-3 g c = below 2 c.args.from g.row.M is_2 c.requires.part

pub overflow_add-fourth : goal.overflow_add-fourth
overflow_add-fourth g c = below_fits 3 c.args.from g.row.M to_3 c.requires.part g.M.fits

pub bounds-part-from-4 : goal.bounds-part-from-4
bounds-part-from-4 g c = below 3 c.args.from g.row.M is_3 c.requires.part

pub overflow_add-fifth : goal.overflow_add-fifth
overflow_add-fifth g c = below_fits 4 c.args.from g.row.M to_4 c.requires.part g.M.fits

pub bounds-part-from-5 : goal.bounds-part-from-5
bounds-part-from-5 g c = below 4 c.args.from g.row.M is_4 c.requires.part

pub overflow_add-sixth : goal.overflow_add-sixth
overflow_add-sixth g c = below_fits 5 c.args.from g.row.M to_5 c.requires.part g.M.fits

pub bounds-part-from-6 : goal.bounds-part-from-6
bounds-part-from-6 g c = below 5 c.args.from g.row.M is_5 c.requires.part

pub overflow_add-seventh : goal.overflow_add-seventh
overflow_add-seventh g c = below_fits 6 c.args.from g.row.M to_6 c.requires.part g.M.fits

pub bounds-part-from-7 : goal.bounds-part-from-7
bounds-part-from-7 g c = below 6 c.args.from g.row.M is_6 c.requires.part

pub overflow_add-eighth : goal.overflow_add-eighth
overflow_add-eighth g c = below_fits 7 c.args.from g.row.M to_7 c.requires.part g.M.fits

pub bounds-part-from-8 : goal.bounds-part-from-8
bounds-part-from-8 g c = below 7 c.args.from g.row.M is_7 c.requires.part

pub bounds-chunk-at : goal.bounds-chunk-at
bounds-chunk-at g c = starts c.args.at g.row.N c.requires.room

pub overflow_add-chunk : goal.overflow_add-chunk
overflow_add-chunk g c = below_fits 1 c.args.at g.row.N to_1 c.requires.room g.N.fits

pub bounds-chunk-at-2 : goal.bounds-chunk-at-2
bounds-chunk-at-2 g c = below 1 c.args.at g.row.N is_1 c.requires.room

pub overflow_add-chunk-2 : goal.overflow_add-chunk-2
overflow_add-chunk-2 g c = below_fits 2 c.args.at g.row.N to_2 c.requires.room g.N.fits

pub bounds-chunk-at-3 : goal.bounds-chunk-at-3
bounds-chunk-at-3 g c = below 2 c.args.at g.row.N is_2 c.requires.room

pub overflow_add-chunk-3 : goal.overflow_add-chunk-3
overflow_add-chunk-3 g c = below_fits 3 c.args.at g.row.N to_3 c.requires.room g.N.fits

pub bounds-chunk-at-4 : goal.bounds-chunk-at-4
bounds-chunk-at-4 g c = below 3 c.args.at g.row.N is_3 c.requires.room

pub overflow_add-chunk-4 : goal.overflow_add-chunk-4
overflow_add-chunk-4 g c = below_fits 4 c.args.at g.row.N to_4 c.requires.room g.N.fits

pub bounds-chunk-at-5 : goal.bounds-chunk-at-5
bounds-chunk-at-5 g c = below 4 c.args.at g.row.N is_4 c.requires.room

pub overflow_add-chunk-5 : goal.overflow_add-chunk-5
overflow_add-chunk-5 g c = below_fits 5 c.args.at g.row.N to_5 c.requires.room g.N.fits

pub bounds-chunk-at-6 : goal.bounds-chunk-at-6
bounds-chunk-at-6 g c = below 5 c.args.at g.row.N is_5 c.requires.room

pub overflow_add-chunk-6 : goal.overflow_add-chunk-6
overflow_add-chunk-6 g c = below_fits 6 c.args.at g.row.N to_6 c.requires.room g.N.fits

pub bounds-chunk-at-7 : goal.bounds-chunk-at-7
bounds-chunk-at-7 g c = below 6 c.args.at g.row.N is_6 c.requires.room

pub overflow_add-chunk-7 : goal.overflow_add-chunk-7
overflow_add-chunk-7 g c = below_fits 7 c.args.at g.row.N to_7 c.requires.room g.N.fits

pub bounds-chunk-at-8 : goal.bounds-chunk-at-8
bounds-chunk-at-8 g c = below 7 c.args.at g.row.N is_7 c.requires.room

pub overflow_add-result : goal.overflow_add-result
overflow_add-result g c = below_fits 8 c.args.at g.row.N to_8 c.requires.room g.N.fits

pub returns-clause-index : goal.returns-clause-index
returns-clause-index g c = refl

pub returns-clause-text : goal.returns-clause-text
returns-clause-text g c =
    eight_put c.args.at c.args.from c.args.chunk.now c.args.part.now (omega (arith, c.requires.room, c.told-chunk)) (omega (arith, c.requires.part, c.told-part))
