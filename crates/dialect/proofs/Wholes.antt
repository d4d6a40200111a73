-- What a whole text is.
use Rattle.std.proofs.Common.{◌≡◌, ◌≢◌, ◌∙◌, ◌+◌, ◌<◌, ◌≤◌, ℕ, nat_lt, Bool, true, false, if◌then◌else◌, List, [], ◌∷◌, ◌++◌, length, length-append, map, drop, get_or, drop_of_length-le, Some, None, Ok, Err, IfOk, IfErr, ap, sym, arith}
use Rattle.std.proofs.lemmas.Bool.{lt-ltb, le-ltb}
use Rattle.std.proofs.lemmas.List.{length-map}
use Rattle.std.specs.declared.result.Result.{Result}
use Rattle.serde_json.specs.declared.value.Value.{Value}
use Rattle.serde_json.specs.Data.{Data}
use Rattle.serde_json.specs.View.{view}
use Rattle.field_layout.specs.Definition.{Definition}
use Rattle.dialect.specs.declared.faults.DialectFault.{DialectFault}
use Rattle.dialect.specs.declared.faults.DialectFault.TheVariants.{NotJson, Shape, TooMany, NoMemory}
use Rattle.dialect.specs.Shape.{message_in, messages_in}
use Rattle.dialect.specs.Grammar.{max_messages, json_of, of_top, of_messages, and_then, definition_behind, definitions_behind, definitions_of}
use Rattle.dialect.proofs.Elements.{values-from}

-- the message at an index, after those before it
module _ (values : List Value) (i : ℕ) (value : Value) (within : i < length values) (here : value ≡ get_or values i value)
    (known : List Definition) (whole : Result (List Definition) DialectFault) (together : definitions_behind known (map view (drop i values)) ≡ whole) where
  one : (first : Result Definition DialectFault) → definition_behind known (message_in (view value)) ≡ first
      → whole ≡ and_then first (λ def. definitions_behind (known ++ def ∷ []) (map view (drop (i + 1) values)))
  one first is =
      sym together
      ∙ ap (definitions_behind known) (values-from values i value within here)
      ∙ ap (λ first. and_then first (λ def. definitions_behind (known ++ def ∷ []) (map view (drop (i + 1) values)))) is

  pub one_fails : (fault : DialectFault) → definition_behind known (message_in (view value)) ≡ Err fault → whole ≡ Err fault
  one_fails fault is = one (Err fault) is

  pub one_read : (def : Definition) (more : List Definition) → definition_behind known (message_in (view value)) ≡ Ok def
      → more ≡ known ++ def ∷ [] → definitions_behind more (map view (drop (i + 1) values)) ≡ whole
  one_read def more is appended = ap (λ more. definitions_behind more (map view (drop (i + 1) values))) appended ∙ sym (one (Ok def) is)

pub one_longer : (known more : List Definition) (def : Definition) (start i : ℕ) → more ≡ known ++ def ∷ []
    → length known ≡ start + i → length more ≡ start + (i + 1)
one_longer known more def start i appended count = omega (arith, ap length appended ∙ length-append known (def ∷ []), count)

-- no message is left
pub all_done : (values : List Value) (i : ℕ) (known : List Definition) (whole : Result (List Definition) DialectFault) → length values ≤ i
    → definitions_behind known (map view (drop i values)) ≡ whole → whole ≡ Ok known
all_done values i known whole beyond together = sym together ∙ ap (λ rest. definitions_behind known (map view rest)) (drop_of_length-le values beyond)

-- the whole text
module _ (bytes : List ℕ) where
  -- no JSON
  pub no_json : (fault : DialectFault) → (fault ≢ NoMemory → fault ≡ NotJson) → (fault ≢ NoMemory → json_of bytes ≡ None)
      → fault ≢ NoMemory → definitions_of bytes ≡ Err fault
  no_json fault which none other = ap of_top (none other) ∙ ap Err (sym (which other))

  module _ (top : Data) (read : json_of bytes ≡ Some top) where
    -- no array of messages
    pub no_messages : messages_in top ≡ None → definitions_of bytes ≡ Err (Shape None)
    no_messages none = ap of_top read ∙ ap of_messages none

    -- an array of messages
    module _ (values : List Value) (there : messages_in top ≡ Some (map view values)) where
      counted : (many : Bool) → nat_lt max_messages (length values) ≡ many
          → definitions_of bytes ≡ (if many then Err TooMany else definitions_behind [] (map view values))
      counted many count =
          ap of_top read
          ∙ ap of_messages there
          ∙ ap (λ many. if many then Err TooMany else definitions_behind [] (map view values))
          (ap (λ n. nat_lt max_messages n) (length-map values view) ∙ count)

      pub too_many : 512 < length values → definitions_of bytes ≡ Err TooMany
      too_many more = counted true (lt-ltb 512 (length values) more)

      pub all_read : length values ≤ 512 → (r : Result (List Definition) DialectFault)
          → IfOk r (λ defs. definitions_behind [] (map view values) ≡ Ok defs) → IfOk r (λ defs. definitions_of bytes ≡ Ok defs)
      all_read few (Ok defs) are = counted false (le-ltb 512 (length values) few) ∙ are
      all_read few (Err fault) are = tt

      pub none_read : length values ≤ 512 → (r : Result (List Definition) DialectFault)
          → IfErr r (λ fault. fault ≢ NoMemory → definitions_behind [] (map view values) ≡ Err fault)
          → IfErr r (λ fault. fault ≢ NoMemory → definitions_of bytes ≡ Err fault)
      none_read few (Ok defs) are = tt
      none_read few (Err fault) are = λ other. counted false (le-ltb 512 (length values) few) ∙ are other
