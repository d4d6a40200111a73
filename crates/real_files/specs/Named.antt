-- What the name of an input names.
use Rattle.std.specs.Prelude.{true, false, ℕ, Bool, List, Option, None, Some, codes}
use Rattle.std.specs.Str.{bytes_eq}
use Rattle.real_files.specs.declared.inputs.Reader.{Reader}
use Rattle.real_files.specs.declared.inputs.Reader.TheVariants.{File, Stdin}

-- whether a name is that of standard input
abbrev pub is_stdin : List ℕ → Bool
is_stdin name = bytes_eq name (codes "-")

abbrev pub names_stdin : Option (List ℕ) → Bool
names_stdin None = false
names_stdin (Some name) = is_stdin name

-- whether standard input is what is read
abbrev pub reads_stdin : Option Reader → Bool
reads_stdin None = false
reads_stdin (Some (File file)) = false
reads_stdin (Some (Stdin stdin)) = true
