use Rattle.std.proofs.Common.{◌≡◌, ℕ, List, Option, Some, None, sym, ap, ◌∙◌}
use Rattle.std.specs.Prelude.{option_map}
use Rattle.field_layout.specs.Payload.{Represents}
use Rattle.mav_messages.specs.declared.messages.Message.{Message}
use Rattle.mav_messages.specs.Messages.{definition_of, values_of, profile_definition}
use Rattle.mav_nodes.specs.Payloads.{plan_in, service_in}
use Rattle.mav_nodes.proofs.PlanPayloads.{none_carried, no_service_carried}
use Rattle.mav_nodes.proofs.link.carried.Goals as goal

-- what was read of an id and a payload is read of the frame that has them
read_in : {A : Type 0} (read : ℕ → List ℕ → Option A) (i id : ℕ) (b payload : List ℕ) (m : Message) (result : Option A) → i ≡ id → b ≡ payload → (profile_definition i ≡ Some (definition_of m) → Represents (definition_of m) b (values_of m) → result ≡ read i b) → Some (definition_of m) ≡ profile_definition i → Represents (definition_of m) b (values_of m) → read id payload ≡ result
read_in read i id b payload m result id_is payload_is given known of =
    ap (λ (n : ℕ). read n payload) (sym id_is) ∙ (ap (read i) (sym payload_is) ∙ sym (given (sym known) of))

pub returns-in-Some-service_of : goal.returns-in-Some-service_of
returns-in-Some-service_of c =
    λ block is. (
      is,
      record {
        plan_is = read_in plan_in _ _ _ _ c.in-Some.message _ c.id-id.ensures c.payload-payload.ensures c.plan_of.ensures c.in-Some.ensures.of_profile c.in-Some.ensures.represents ∙ c.in-None.is;
        other_is = read_in service_in _ _ _ _ c.in-Some.message _ c.id-id.ensures c.payload-payload.ensures c.service_of.ensures c.in-Some.ensures.of_profile c.in-Some.ensures.represents ∙ c.in-Some-service_of.is;
      },
    )

pub returns-in-Some-plan_of : goal.returns-in-Some-plan_of
returns-in-Some-plan_of c =
    λ block is. (
      is,
      read_in plan_in _ _ _ _ c.in-Some.message _ c.id-id.ensures c.payload-payload.ensures c.plan_of.ensures c.in-Some.ensures.of_profile c.in-Some.ensures.represents ∙ c.in-Some-plan_of.is,
    )

pub returns-in-None-service_of : goal.returns-in-None-service_of
returns-in-None-service_of c =
    λ block is.
    record {
      plan_is = read_in plan_in _ _ _ _ c.in-Some.message _ c.id-id.ensures c.payload-payload.ensures c.plan_of.ensures c.in-Some.ensures.of_profile c.in-Some.ensures.represents ∙ c.in-None.is;
      other_is = read_in service_in _ _ _ _ c.in-Some.message _ c.id-id.ensures c.payload-payload.ensures c.service_of.ensures c.in-Some.ensures.of_profile c.in-Some.ensures.represents ∙ c.in-None-service_of.is;
    }

pub returns-in_default : goal.returns-in_default
returns-in_default c =
    λ block is.
    let none : profile_definition c.args.frame.now.id ≡ None = ap profile_definition (sym c.id-id.ensures) ∙ (sym c.read.ensures.of_profile ∙ ap (option_map definition_of) c.in_default.is) in
    record {
      plan_is = none_carried c.args.frame.now.id c.args.frame.now.payload none;
      other_is = no_service_carried c.args.frame.now.id c.args.frame.now.payload none;
    }
