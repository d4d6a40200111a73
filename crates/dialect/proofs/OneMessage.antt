-- What one more message is, after those that were read.
use Rattle.std.proofs.Common.{◌≡◌, ◌≢◌, ℕ, false, List, length, Option, Some, None, Ok, Err, IfOk, IfErr, sym, ap, ◌∙◌}
use Rattle.std.specs.declared.result.Result.{Result}
use Rattle.std.specs.Option.{option_or}
use Rattle.field_layout.specs.Definition.{Definition}
use Rattle.field_layout.specs.Faults.{first_fault}
use Rattle.dialect.specs.declared.faults.DialectFault.{DialectFault}
use Rattle.dialect.specs.declared.faults.DialectFault.TheVariants.{Shape, NoMemory}
use Rattle.dialect.specs.Shape.{MessageText}
use Rattle.dialect.specs.Grammar.{has_id, has_name, text_fault, layout_fault, faultless, definition_of, definition_behind}
use Rattle.dialect.proofs.Faultless.{text_fault-none}

module _ (earlier : List Definition) (text : Option MessageText) where
  -- one that lacks the members
  pub behind-shape : (at : ℕ) → at ≡ length earlier → text ≡ None → definition_behind earlier text ≡ Err (Shape (Some at))
  behind-shape at here none = ap (definition_behind earlier) none ∙ ap (λ at. Err (Shape (Some at))) (sym here)

  module _ (message : MessageText) (there : text ≡ Some message) where
    behind-tests : (first : Option DialectFault) → text_fault earlier message ≡ first → definition_behind earlier text
        ≡ faultless (option_or first (layout_fault (length earlier) (first_fault (definition_of message)))) (definition_of message)
    behind-tests first tested =
        ap (definition_behind earlier) there
        ∙ ap (λ first. faultless (option_or first (layout_fault (length earlier) (first_fault (definition_of message)))) (definition_of message)) tested

    -- one with a fault in its text
    pub behind-text_fault : (fault : DialectFault) → text_fault earlier message ≡ Some fault → definition_behind earlier text ≡ Err fault
    behind-text_fault fault tested = behind-tests (Some fault) tested

    -- one without: it is laid out, or its layout has the fault
    module _ (none : text_fault earlier message ≡ None) (def : Definition) (same : def ≡ definition_of message) where
      pub laid_out-id : (r : Result Definition DialectFault) → IfOk r (λ layout. layout ≡ def) → IfOk r (λ (layout : Definition). has_id earlier layout.id ≡ false)
      laid_out-id (Ok layout) laid = ap (λ (layout : Definition). has_id earlier layout.id) (laid ∙ same) ∙ (text_fault-none earlier message none).0
      laid_out-id (Err fault) laid = tt

      pub laid_out-name : (r : Result Definition DialectFault) → IfOk r (λ layout. layout ≡ def) → IfOk r (λ (layout : Definition). has_name earlier layout.name ≡ false)
      laid_out-name (Ok layout) laid = ap (λ (layout : Definition). has_name earlier layout.name) (laid ∙ same) ∙ (text_fault-none earlier message none).1
      laid_out-name (Err fault) laid = tt

      pub laid_out-read : (r : Result Definition DialectFault) → IfOk r (λ _. first_fault def ≡ None) → IfOk r (λ layout. layout ≡ def)
          → IfOk r (λ layout. definition_behind earlier text ≡ Ok layout)
      laid_out-read (Ok layout) well laid =
          behind-tests None none
          ∙ ap (λ fault. faultless (layout_fault (length earlier) fault) (definition_of message)) (ap first_fault (sym same) ∙ well)
          ∙ ap Ok (sym same ∙ sym laid)
      laid_out-read (Err fault) well laid = tt

      pub laid_out-fault : (r : Result Definition DialectFault) (at : ℕ) → at ≡ length earlier
          → IfErr r (λ fault. fault ≢ NoMemory → layout_fault at (first_fault def) ≡ Some fault)
          → IfErr r (λ fault. fault ≢ NoMemory → definition_behind earlier text ≡ Err fault)
      laid_out-fault (Ok layout) at here told = tt
      laid_out-fault (Err fault) at here told = λ other.
          behind-tests None none
          ∙ ap (λ fault. faultless fault (definition_of message))
          (ap (λ at. layout_fault at (first_fault (definition_of message))) (sym here) ∙ ap (λ def. layout_fault at (first_fault def)) (sym same) ∙ told other)
