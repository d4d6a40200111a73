use Rattle.std.proofs.Common.{◌≡◌, ◌-◌, ◌≤◌, ◌++◌, length, drop}
use Rattle.mav_ftp.specs.Listing.{entries_within}
use Rattle.mav_ftp.proofs.listing.list_entries.Given as goal

-- the entries that stand, and those of the files that are left
abbrev pub invariant-loop-file : goal.invariant-loop-file
invariant-loop-file l =
    (l.list ++ entries_within (239 - length l.list) (drop l.file-index l.fn.files) ≡ entries_within 239 l.fn.files) × (length l.list ≤ 239)
