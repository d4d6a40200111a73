use Rattle.std.proofs.Common.{Bool, true, ap, sym, ◌∙◌}
use Rattle.plan_items.specs.Kinds.{number_of}
use Rattle.plan_items.specs.declared.kinds.PlanKind.{PlanKind}
use Rattle.plan_upload.specs.Operations.{pinging_view, cancelling_view, plain_task}
use Rattle.plan_upload.specs.StationView.{station_view}
use Rattle.plan_upload.specs.Station.{Gets, StationStep, resynchronises}
use Rattle.plan_upload.proofs.StationCalls.{cancelled, given_up, sends_nothing}
use Rattle.plan_upload.proofs.station.Station.cancel.Goals as goal

pub returns-in-Pinging-clause-station : goal.returns-in-Pinging-clause-station
returns-in-Pinging-clause-station c =
    let now = station_view c.self.inside in let drone = c.in-Some.field-0.drone in let at = c.in-Pinging in
    c.stay_pinging.ensures ∙ (given_up now (λ (t : Bool). pinging_view drone at.task t at.number) at.terminating ∙ sym (ap (λ (t : StationStep). t.station) (cancelled c.self.inside c.in-Some.field-0 _ c.args.self.now c.self.view_is (sym c.take.ensures.value ∙ c.in-Some.is) c.in-Pinging.is)))

pub returns-in-Pinging-clause-answer : goal.returns-in-Pinging-clause-answer
returns-in-Pinging-clause-answer c =
    let now = station_view c.self.inside in let drone = c.in-Some.field-0.drone in let at = c.in-Pinging in
    sends_nothing now (λ (t : Bool). pinging_view drone at.task t at.number) at.terminating ∙ sym (ap (λ (t : StationStep). t.answer) (cancelled c.self.inside c.in-Some.field-0 _ c.args.self.now c.self.view_is (sym c.take.ensures.value ∙ c.in-Some.is) c.in-Pinging.is))

pub returns-in-Cancelling-clause-station : goal.returns-in-Cancelling-clause-station
returns-in-Cancelling-clause-station c =
    let now = station_view c.self.inside in let drone = c.in-Some.field-0.drone in let at = c.in-Cancelling in
    c.stay_cancelling.ensures ∙ (given_up now (λ (t : Bool). cancelling_view drone at.task t at.number) at.terminating ∙ sym (ap (λ (t : StationStep). t.station) (cancelled c.self.inside c.in-Some.field-0 _ c.args.self.now c.self.view_is (sym c.take.ensures.value ∙ c.in-Some.is) c.in-Cancelling.is)))

pub returns-in-Cancelling-clause-answer : goal.returns-in-Cancelling-clause-answer
returns-in-Cancelling-clause-answer c =
    let now = station_view c.self.inside in let drone = c.in-Some.field-0.drone in let at = c.in-Cancelling in
    sends_nothing now (λ (t : Bool). cancelling_view drone at.task t at.number) at.terminating ∙ sym (ap (λ (t : StationStep). t.answer) (cancelled c.self.inside c.in-Some.field-0 _ c.args.self.now c.self.view_is (sym c.take.ensures.value ∙ c.in-Some.is) c.in-Cancelling.is))

pub returns-in-Listing-clause-station : goal.returns-in-Listing-clause-station
returns-in-Listing-clause-station c = c.resynchronise-in-Listing.ensures.station ∙ sym (ap (λ (t : StationStep). t.station) (cancelled c.self.inside c.in-Some.field-0 _ c.args.self.now c.self.view_is (sym c.take.ensures.value ∙ c.in-Some.is) c.in-Listing.is))

pub returns-in-Listing-clause-answer : goal.returns-in-Listing-clause-answer
returns-in-Listing-clause-answer c = c.resynchronise-in-Listing.ensures.answer ∙ sym (ap (λ (t : StationStep). t.answer) (cancelled c.self.inside c.in-Some.field-0 _ c.args.self.now c.self.view_is (sym c.take.ensures.value ∙ c.in-Some.is) c.in-Listing.is))

pub returns-in-Getting-clause-station : goal.returns-in-Getting-clause-station
returns-in-Getting-clause-station c =
    let now = station_view c.self.inside in let drone = c.in-Some.field-0.drone in
    c.resynchronise-in-Getting.ensures.station
    ∙ (ap (λ (kind : PlanKind). (resynchronises now (record (plain_task Gets drone (number_of kind)) { terminating = true })).station) c.into_task.ensures
    ∙ sym (ap (λ (t : StationStep). t.station) (cancelled c.self.inside c.in-Some.field-0 _ c.args.self.now c.self.view_is (sym c.take.ensures.value ∙ c.in-Some.is) c.in-Getting.is)))

pub returns-in-Getting-clause-answer : goal.returns-in-Getting-clause-answer
returns-in-Getting-clause-answer c =
    let now = station_view c.self.inside in let drone = c.in-Some.field-0.drone in
    c.resynchronise-in-Getting.ensures.answer
    ∙ (ap (λ (kind : PlanKind). (resynchronises now (record (plain_task Gets drone (number_of kind)) { terminating = true })).answer) c.into_task.ensures
    ∙ sym (ap (λ (t : StationStep). t.answer) (cancelled c.self.inside c.in-Some.field-0 _ c.args.self.now c.self.view_is (sym c.take.ensures.value ∙ c.in-Some.is) c.in-Getting.is)))
