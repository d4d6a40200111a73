-- An operation in two words, by the first of them.
use Rattle.std.proofs.Common.{◌≡◌, ◌&&◌, ℕ, true, false, List, refl, codes, Option, Some, None, option_map}
use Rattle.std.specs.Str.{bytes_eq}
use Rattle.command_line.specs.declared.operations.PlanWord.{PlanWord}
use Rattle.command_line.specs.declared.operations.Operation.TheVariants.{Upload, Get, Clear, ParamList, FileList}
use Rattle.command_line.specs.OperationTexts.{plan_named, cleared_named, two_words}

module _ (name word : List ℕ) where
  pub at_upload : (found : Option PlanWord) → bytes_eq name (codes "upload") ≡ true → found ≡ plan_named word → option_map Upload found ≡ two_words name word
  at_upload found is same = rw (is, same) refl

  pub at_get : (found : Option PlanWord) → bytes_eq name (codes "upload") ≡ false → bytes_eq name (codes "get") ≡ true → found ≡ plan_named word → option_map Get found ≡ two_words name word
  at_get found no_upload is same = rw (no_upload, is, same) refl

  pub at_clear : (found : Option (Option PlanWord)) → bytes_eq name (codes "upload") ≡ false → bytes_eq name (codes "get") ≡ false → bytes_eq name (codes "clear") ≡ true → found ≡ cleared_named word
      → option_map Clear found ≡ two_words name word
  at_clear found no_upload no_get is same = rw (no_upload, no_get, is, same) refl

  module _ (no_upload : bytes_eq name (codes "upload") ≡ false) (no_get : bytes_eq name (codes "get") ≡ false) (no_clear : bytes_eq name (codes "clear") ≡ false) where
    pub at_list : bytes_eq name (codes "param") ≡ true → bytes_eq word (codes "list") ≡ true → Some ParamList ≡ two_words name word
    at_list is lists = rw (no_upload, no_get, no_clear, is, lists) refl

    pub at_files : (bytes_eq name (codes "param") && bytes_eq word (codes "list")) ≡ false → bytes_eq name (codes "file") ≡ true → bytes_eq word (codes "list") ≡ true → Some FileList ≡ two_words name word
    at_files no_list is lists = rw (no_upload, no_get, no_clear, no_list, is, lists) refl

    pub at_none : (bytes_eq name (codes "param") && bytes_eq word (codes "list")) ≡ false → (bytes_eq name (codes "file") && bytes_eq word (codes "list")) ≡ false → None ≡ two_words name word
    at_none no_list no_files = rw (no_upload, no_get, no_clear, no_list, no_files) refl
