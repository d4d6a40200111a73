use Rattle.std.specs.Prelude.{option_to_list}
use Rattle.std.proofs.Common.{◌≡◌, [], ◌∷◌, ◌++◌, sym, ap, ◌∙◌, subst}
use Rattle.plan_items.specs.Kinds.{number_of}
use Rattle.plan_upload.specs.Kinds.{clear_number}
use Rattle.plan_upload.specs.Plans.{with_plan, without_plan}
use Rattle.plan_upload.specs.Drone.{DroneState}
use Rattle.plan_upload.specs.Keeping.{HasKind, gathered_in}
use Rattle.plan_upload.proofs.Unkept.{same_plans, install_step, empty_step, installing_holdable, image_moved}
use Rattle.plan_upload.proofs.drone.Drone.kept_after.Goals as goal

pub write_with-requires-clause-holdable : goal.write_with-requires-clause-holdable
write_with-requires-clause-holdable c =
    let d = c.args.self.now in
    let i = install_step d c.args.from c.args.msg.now c.in-Install.kind (sym c.change.ensures.change ∙ c.in-Install.is) in
    installing_holdable d c.args.msg.now c.in-Install.kind _ i c.self.inside.upload c.items_with-items.result (ap (λ (d : DroneState). d.upload) c.self.view_is)
    (λ item has sound. c.items_with-items.ensures.valid item (c.item_in.ensures ∙ has) sound)

pub returns-in-Same-clause-image : goal.returns-in-Same-clause-image
returns-in-Same-clause-image c =
    let d = c.args.self.now in
    let known = subst HasKind (ap (λ (d : DroneState). d.upload) c.self.view_is) c.see_kind.ensures in
    let plans = same_plans d c.args.from c.args.msg.now known (sym c.change.ensures.change ∙ c.in-Same.is) in
    image_moved c.write.result (λ v. v.items) c.self.inside.sys d.sys c.args.floor c.self.inside.plans _ (ap (λ (d : DroneState). d.sys) c.self.view_is)
    (ap (λ (d : DroneState). d.plans) c.self.view_is ∙ sym plans) c.write.ensures.image

pub returns-in-Install-clause-image : goal.returns-in-Install-clause-image
returns-in-Install-clause-image c =
    let d = c.args.self.now in
    let kind = c.in-Install.kind in
    let i = install_step d c.args.from c.args.msg.now kind (sym c.change.ensures.change ∙ c.in-Install.is) in
    let items = c.items_with-items.result in
    let same : items ≡ gathered_in d.upload ++ i.item ∷ [] =
    c.items_with-items.ensures.items ∙ ap (λ o. gathered_in c.self.inside.upload ++ option_to_list o) (c.item_in.ensures ∙ i.is_carried)
    ∙ ap (λ (d : DroneState). gathered_in d.upload ++ i.item ∷ []) c.self.view_is in
    image_moved c.write_with.result (λ v. v.items) c.self.inside.sys d.sys c.args.floor _ _ (ap (λ (d : DroneState). d.sys) c.self.view_is)
    (ap (λ (d : DroneState). with_plan d.plans (number_of kind) items) c.self.view_is ∙ ap (λ l. with_plan d.plans (number_of kind) l) same ∙ sym i.after) c.write_with.ensures.image

pub returns-in-Empty-clause-image : goal.returns-in-Empty-clause-image
returns-in-Empty-clause-image c =
    let d = c.args.self.now in
    let plans = empty_step d c.args.from c.args.msg.now c.in-Empty.kind (sym c.change.ensures.change ∙ c.in-Empty.is) in
    image_moved c.write_without.result (λ v. v.items) c.self.inside.sys d.sys c.args.floor _ _ (ap (λ (d : DroneState). d.sys) c.self.view_is)
    (ap (λ (d : DroneState). without_plan d.plans (clear_number c.in-Empty.kind)) c.self.view_is ∙ sym plans) c.write_without.ensures.image
