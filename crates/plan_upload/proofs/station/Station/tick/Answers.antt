use Rattle.std.proofs.Common.{ap, sym, ◌∙◌}
use Rattle.plan_upload.specs.Station.{StationStep}
use Rattle.plan_upload.proofs.StationCalls.{ticked}
use Rattle.plan_upload.proofs.station.Station.tick.Goals as goal

pub returns-in-Pinging-clause-station : goal.returns-in-Pinging-clause-station
returns-in-Pinging-clause-station c = c.pinging_tick.ensures.station ∙ sym (ap (λ (t : StationStep). t.station) (ticked c.self.inside c.in-Some.field-0 _ c.args.self.now c.self.view_is (sym c.take.ensures.value ∙ c.in-Some.is) c.in-Pinging.is))

pub returns-in-Pinging-clause-answer : goal.returns-in-Pinging-clause-answer
returns-in-Pinging-clause-answer c = c.pinging_tick.ensures.answer ∙ sym (ap (λ (t : StationStep). t.answer) (ticked c.self.inside c.in-Some.field-0 _ c.args.self.now c.self.view_is (sym c.take.ensures.value ∙ c.in-Some.is) c.in-Pinging.is))

pub returns-in-Cancelling-clause-station : goal.returns-in-Cancelling-clause-station
returns-in-Cancelling-clause-station c = c.resynchronise.ensures.station ∙ sym (ap (λ (t : StationStep). t.station) (ticked c.self.inside c.in-Some.field-0 _ c.args.self.now c.self.view_is (sym c.take.ensures.value ∙ c.in-Some.is) c.in-Cancelling.is))

pub returns-in-Cancelling-clause-answer : goal.returns-in-Cancelling-clause-answer
returns-in-Cancelling-clause-answer c = c.resynchronise.ensures.answer ∙ sym (ap (λ (t : StationStep). t.answer) (ticked c.self.inside c.in-Some.field-0 _ c.args.self.now c.self.view_is (sym c.take.ensures.value ∙ c.in-Some.is) c.in-Cancelling.is))

pub returns-in-Sending-clause-station : goal.returns-in-Sending-clause-station
returns-in-Sending-clause-station c = c.sending_tick.ensures.station ∙ sym (ap (λ (t : StationStep). t.station) (ticked c.self.inside c.in-Some.field-0 _ c.args.self.now c.self.view_is (sym c.take.ensures.value ∙ c.in-Some.is) c.in-Sending.is))

pub returns-in-Sending-clause-answer : goal.returns-in-Sending-clause-answer
returns-in-Sending-clause-answer c = c.sending_tick.ensures.answer ∙ sym (ap (λ (t : StationStep). t.answer) (ticked c.self.inside c.in-Some.field-0 _ c.args.self.now c.self.view_is (sym c.take.ensures.value ∙ c.in-Some.is) c.in-Sending.is))

pub returns-in-Clearing-clause-station : goal.returns-in-Clearing-clause-station
returns-in-Clearing-clause-station c = c.clearing_tick.ensures.station ∙ sym (ap (λ (t : StationStep). t.station) (ticked c.self.inside c.in-Some.field-0 _ c.args.self.now c.self.view_is (sym c.take.ensures.value ∙ c.in-Some.is) c.in-Clearing.is))

pub returns-in-Clearing-clause-answer : goal.returns-in-Clearing-clause-answer
returns-in-Clearing-clause-answer c = c.clearing_tick.ensures.answer ∙ sym (ap (λ (t : StationStep). t.answer) (ticked c.self.inside c.in-Some.field-0 _ c.args.self.now c.self.view_is (sym c.take.ensures.value ∙ c.in-Some.is) c.in-Clearing.is))

pub returns-in-Listing-clause-station : goal.returns-in-Listing-clause-station
returns-in-Listing-clause-station c = c.listing_tick.ensures.station ∙ sym (ap (λ (t : StationStep). t.station) (ticked c.self.inside c.in-Some.field-0 _ c.args.self.now c.self.view_is (sym c.take.ensures.value ∙ c.in-Some.is) c.in-Listing.is))

pub returns-in-Listing-clause-answer : goal.returns-in-Listing-clause-answer
returns-in-Listing-clause-answer c = c.listing_tick.ensures.answer ∙ sym (ap (λ (t : StationStep). t.answer) (ticked c.self.inside c.in-Some.field-0 _ c.args.self.now c.self.view_is (sym c.take.ensures.value ∙ c.in-Some.is) c.in-Listing.is))

pub returns-in-Getting-clause-station : goal.returns-in-Getting-clause-station
returns-in-Getting-clause-station c = c.getting_tick.ensures.station ∙ sym (ap (λ (t : StationStep). t.station) (ticked c.self.inside c.in-Some.field-0 _ c.args.self.now c.self.view_is (sym c.take.ensures.value ∙ c.in-Some.is) c.in-Getting.is))

pub returns-in-Getting-clause-answer : goal.returns-in-Getting-clause-answer
returns-in-Getting-clause-answer c = c.getting_tick.ensures.answer ∙ sym (ap (λ (t : StationStep). t.answer) (ticked c.self.inside c.in-Some.field-0 _ c.args.self.now c.self.view_is (sym c.take.ensures.value ∙ c.in-Some.is) c.in-Getting.is))
