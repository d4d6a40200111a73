-- The gathered items of an upload with one more after them.
use Rattle.std.proofs.Common.{◌≡◌, ◌+◌, ℕ, IsTrue, not, is_some, List, [], ◌∷◌, ◌++◌, length, Option, Some, None, refl, sym, ap, ◌∙◌, subst, arith, length-append}
use Rattle.std.specs.Prelude.{All}
use Rattle.std.proofs.lemmas.List.Elements.{All-push}
use Rattle.plan_items.specs.Kinds.{number_of}
use Rattle.plan_items.specs.Validation.{item_fault, whole_fault, plan_fault, IsValid}
use Rattle.plan_items.specs.declared.faults.PlanFault.{PlanFault}
use Rattle.plan_items.specs.declared.items.Item.{Item}
use Rattle.plan_items.proofs.PlanFaults.{IsValid-plan_fault, plan_fault-whole}
use Rattle.plan_upload.specs.Drone.{Upload}
use Rattle.plan_items.proofs.KindNumbers.{number_of-bound}
use Rattle.plan_upload.specs.Gathering.{is_sound_with}
use Rattle.plan_upload.specs.Keeping.{HasKind, gathered_in, IsValidIn}
use Rattle.plan_upload.specs.OpenUpload.{upload_view, IsFitting, IsGathering}
use Rattle.plan_upload.specs.declared.uploads.OpenUpload.{OpenUpload}

no_fault : (fault : Option PlanFault) → IsTrue (not (is_some fault)) → fault ≡ None
no_fault None sound = refl
no_fault (Some fault) sound = absurd (cc)

-- the whole decides if no item has a fault of its own
pub plan_fault_with : (kind : ℕ) (items : List Item) (item : Item) → All (λ i. item_fault kind i ≡ None) items → item_fault kind item ≡ None → whole_fault kind (items ++ item ∷ []) ≡ plan_fault kind (items ++ item ∷ [])
plan_fault_with kind items item sound last =
    sym (plan_fault-whole kind (items ++ item ∷ []) (All-push (λ i. item_fault kind i ≡ None) items item sound last))

valid : (u : OpenUpload) (items : List Item) (item : Item) → IsFitting u items → IsTrue (is_sound_with (upload_view (Some u) items) item) → IsValid (number_of u.kind) (items ++ item ∷ [])
valid u items item fitting sound =
    let size : length (items ++ item ∷ []) ≡ length items + 1 = omega (arith, length-append items (item ∷ [])) in
    IsValid-plan_fault (number_of u.kind) (items ++ item ∷ []) (omega (arith, size)) (omega (arith, size, fitting.more, fitting.fits))
    (no_fault (plan_fault (number_of u.kind) (items ++ item ∷ [])) sound)

-- the finished plan is valid for its kind if the whole has no fault
pub finished_is_valid : (slot : Option OpenUpload) (u : OpenUpload) (items more : List Item) (item : Item) (seen : Option Upload) → slot ≡ Some u → IsGathering slot items → upload_view slot items ≡ seen → IsTrue (is_sound_with seen item)
    → more ≡ items ++ item ∷ [] → IsValid (number_of u.kind) more
finished_is_valid None u items more item seen is gathering view sound put = absurd (cc)
finished_is_valid (Some other) u items more item seen is gathering view sound put =
    let same : other ≡ u = cc in
    let here : IsTrue (is_sound_with (upload_view (Some other) items) item) = subst (λ (v : Option Upload). IsTrue (is_sound_with v item)) (sym view) sound in
    let whole : IsValid (number_of other.kind) (items ++ item ∷ []) = valid other items item gathering here in
    rw (put, ← same) whole

-- an open upload has a kind
pub has_kind : (slot : Option OpenUpload) (items : List Item) (seen : Option Upload) → upload_view slot items ≡ seen → HasKind seen
has_kind None items seen view = subst HasKind view tt
has_kind (Some u) items seen view = subst HasKind view (number_of-bound u.kind)

-- the gathered items with the last one are a valid plan if the whole has no fault
pub joined_is_valid : (slot : Option OpenUpload) (items more : List Item) (item : Item) (seen : Option Upload) → IsGathering slot items → upload_view slot items ≡ seen
    → IsTrue (is_sound_with seen item) → more ≡ gathered_in seen ++ item ∷ [] → IsValidIn seen more
joined_is_valid None items more item seen gathering view sound put =
    let none : IsTrue (is_sound_with (upload_view None items) item) = subst (λ (v : Option Upload). IsTrue (is_sound_with v item)) (sym view) sound in
    absurd (cc)
joined_is_valid (Some u) items more item seen gathering view sound put =
    let here : IsTrue (is_sound_with (upload_view (Some u) items) item) = subst (λ (v : Option Upload). IsTrue (is_sound_with v item)) (sym view) sound in
    let whole : IsValid (number_of u.kind) (items ++ item ∷ []) = valid u items item gathering here in
    let same : more ≡ items ++ item ∷ [] = put ∙ ap (λ (v : Option Upload). gathered_in v ++ item ∷ []) (sym view) in
    subst (λ (v : Option Upload). IsValidIn v more) view (rw same whole)
