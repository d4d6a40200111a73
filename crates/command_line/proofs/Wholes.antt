-- What a reader holds at the end of the words.
use Rattle.std.proofs.Common.{◌≡◌, ◌∙◌, ℕ, true, false, List, [], map, string_bytes, Option, Some, None, refl, sym, append-nil}
use Rattle.std.specs.Prelude.{is_some, String}
use Rattle.std.specs.declared.alloc.Global.{Global}
use Rattle.command_line.specs.declared.lines.Setting.{Setting}
use Rattle.command_line.specs.declared.pieces.Place.{Place}
use Rattle.command_line.specs.declared.pieces.Place.TheVariants.{Anything, Value, Behind}
use Rattle.command_line.specs.Lines.{given_of, parts_of, with_rest}
use Rattle.command_line.specs.Pieces.{Parts, joined, parts_at}

pub joined_nothing : (p : Option Parts) → joined [] [] p ≡ p
joined_nothing None = refl
joined_nothing (Some p) = refl

held : (settings : List Setting) (words : List (String Global)) → joined (map given_of settings) (map string_bytes words) (Some (record { settings = []; plain = [] })) ≡ Some (parts_of settings words)
held settings words = rw (append-nil (map given_of settings), append-nil (map string_bytes words)) refl

module _ (settings : List Setting) (words : List (String Global)) (ws : List (List ℕ)) where
  -- the parts of all words, if no value is missing
  pub whole_parts : (place : Place) → is_some (parts_at place []) ≡ true → with_rest place settings words [] ≡ joined [] [] (parts_at Anything ws) → parts_at Anything ws ≡ Some (parts_of settings words)
  whole_parts Anything h e = sym (joined_nothing (parts_at Anything ws)) ∙ sym e ∙ held settings words
  whole_parts (Value name) h e = absurd (cc h)
  whole_parts Behind h e = sym (joined_nothing (parts_at Anything ws)) ∙ sym e ∙ held settings words

  -- and none if one is
  pub value_missing : (place : Place) → is_some (parts_at place []) ≡ false → with_rest place settings words [] ≡ joined [] [] (parts_at Anything ws) → parts_at Anything ws ≡ None
  value_missing Anything h e = absurd (cc h)
  value_missing (Value name) h e = sym (joined_nothing (parts_at Anything ws)) ∙ sym e
  value_missing Behind h e = absurd (cc h)
