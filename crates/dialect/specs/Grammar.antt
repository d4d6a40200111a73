-- Which definitions a text holds, or its first fault.
use Rattle.std.specs.Prelude.{ℕ, ◌==◌, ◌&&◌, not, nat_lt, is_some, Bool, if◌then◌else◌, List, [], ◌∷◌, ◌++◌, length}
use Rattle.std.specs.Prelude.{Option, Some, None, Ok, Err, option_map}
use Rattle.std.specs.declared.result.Result.{Result}
use Rattle.std.specs.List.{list_any, list_all, filter_map}
use Rattle.std.specs.Option.{option_or}
use Rattle.std.specs.Str.{bytes_eq, is_utf8}
use Rattle.serde_json.specs.Data.{Data}
use Rattle.serde_json.specs.Read.{read}
use Rattle.field_layout.specs.declared.fields.Field.{Field}
use Rattle.field_layout.specs.declared.faults.LayoutFault.{LayoutFault}
use Rattle.field_layout.specs.Definition.{Definition}
use Rattle.field_layout.specs.Faults.{first_fault}
use Rattle.dialect.specs.declared.faults.DialectFault.{DialectFault}
use Rattle.dialect.specs.declared.faults.DialectFault.TheVariants.{NotJson, Shape, BadType, BadName, TwiceId}
use Rattle.dialect.specs.declared.faults.DialectFault.TheVariants.{TwiceName, Layout, TooMany}
use Rattle.dialect.specs.Types.{FieldType, field_type_of}
use Rattle.dialect.specs.Names.{is_message_name, is_field_name}
use Rattle.dialect.specs.Shape.{FieldText, MessageText, all_texts, message_in, messages_in}

-- the most messages
abbrev pub max_messages : ℕ
max_messages = 512

-- a field whose type is one of the list
abbrev pub field_of : FieldText → Option Field
field_of text = option_map (λ (ty : FieldType). record { ty = ty.0; len = ty.1; name = text.name })
    (field_type_of text.ty)

-- the definition that a message encodes
abbrev pub definition_of : MessageText → Definition
definition_of text = record {
  id = text.id;
  name = text.name;
  fields = filter_map field_of text.fields;
  extensions = filter_map field_of text.extensions;
}

-- each type is one of the list, and each name of its form
abbrev pub has_types : MessageText → Bool
has_types text = list_all (λ (field : FieldText). is_some (field_type_of field.ty)) (all_texts text)

abbrev pub has_names : MessageText → Bool
has_names text = is_message_name text.name
    && list_all (λ (field : FieldText). is_field_name field.name) (all_texts text)

-- an earlier message has that id, or that name
abbrev pub has_id : List Definition → ℕ → Bool
has_id earlier id = list_any (λ (def : Definition). id == def.id) earlier

abbrev pub has_name : List Definition → List ℕ → Bool
has_name earlier name = list_any (λ (def : Definition). bytes_eq name def.name) earlier

-- the fault of a layout, with the index of its message
abbrev pub layout_fault : ℕ → Option LayoutFault → Option DialectFault
layout_fault at fault = option_map (λ (fault : LayoutFault). Layout at fault) fault

-- the first fault of a message's types, names, id and name, after earlier messages
abbrev pub text_fault : List Definition → MessageText → Option DialectFault
text_fault earlier text =
    if not (has_types text) then Some (BadType (length earlier))
    else if not (has_names text) then Some (BadName (length earlier))
    else if has_id earlier text.id then Some (TwiceId (length earlier))
    else if has_name earlier text.name then Some (TwiceName (length earlier))
    else None

-- or else that of its layout
abbrev pub fault_behind : List Definition → MessageText → Option DialectFault
fault_behind earlier text = option_or (text_fault earlier text)
    (layout_fault (length earlier) (first_fault (definition_of text)))

-- the definition of a message, whose shape is tested before all else
abbrev pub faultless : Option DialectFault → Definition → Result Definition DialectFault
faultless None def = Ok def
faultless (Some fault) def = Err fault

abbrev pub definition_behind : List Definition → Option MessageText → Result Definition DialectFault
definition_behind earlier None = Err (Shape (Some (length earlier)))
definition_behind earlier (Some text) = faultless (fault_behind earlier text) (definition_of text)

-- the messages in order, after those that were read
abbrev pub and_then : Result Definition DialectFault → (Definition → Result (List Definition) DialectFault)
    → Result (List Definition) DialectFault
and_then (Ok def) next = next def
and_then (Err fault) next = Err fault

abbrev pub definitions_behind : List Definition → List Data → Result (List Definition) DialectFault
definitions_behind earlier [] = Ok earlier
definitions_behind earlier (message ∷ rest) =
    and_then (definition_behind earlier (message_in message)) (λ def. definitions_behind (earlier ++ def ∷ []) rest)

abbrev pub of_messages : Option (List Data) → Result (List Definition) DialectFault
of_messages None = Err (Shape None)
of_messages (Some messages) = if nat_lt max_messages (length messages) then Err TooMany
    else definitions_behind [] messages

abbrev pub of_top : Option Data → Result (List Definition) DialectFault
of_top None = Err NotJson
of_top (Some top) = of_messages (messages_in top)

-- the value that a text is, which `serde_json` reads
abbrev pub json_of : List ℕ → Option Data
json_of bytes = if is_utf8 bytes then read bytes else None

-- the definitions of a text
abbrev pub definitions_of : List ℕ → Result (List Definition) DialectFault
definitions_of bytes = of_top (json_of bytes)
