use Rattle.std.proofs.Common.{ap, sym, ◌∙◌}
use Rattle.mav_names.specs.Addresses.{same_name}
use Rattle.mav_names.specs.declared.names.Name.{Name}
use Rattle.plan_upload.specs.Station.{StationStep}
use Rattle.plan_upload.proofs.StationCalls.{stepped}
use Rattle.plan_upload.proofs.station.Station.step.Goals as goal

pub returns-in-Pinging-clause-station : goal.returns-in-Pinging-clause-station
returns-in-Pinging-clause-station c =
    let e = stepped c.self.inside c.in-Some.field-0 _ c.args.self.now c.args.from c.args.msg.now _ _ c.self.view_is (sym c.take.ensures.value ∙ c.in-Some.is) c.in-Pinging.is
    c.is_same_stream.ensures (c.is_same_name.ensures ∙ ap (λ (n : Name). same_name n c.self.inside.me) c.receiver.ensures) c.if-not-is_same_stream.false c.if-not-is_same_name.false in
    c.pinging_step.ensures.station ∙ sym (ap (λ (t : StationStep). t.station) e)

pub returns-in-Pinging-clause-answer : goal.returns-in-Pinging-clause-answer
returns-in-Pinging-clause-answer c =
    let e = stepped c.self.inside c.in-Some.field-0 _ c.args.self.now c.args.from c.args.msg.now _ _ c.self.view_is (sym c.take.ensures.value ∙ c.in-Some.is) c.in-Pinging.is
    c.is_same_stream.ensures (c.is_same_name.ensures ∙ ap (λ (n : Name). same_name n c.self.inside.me) c.receiver.ensures) c.if-not-is_same_stream.false c.if-not-is_same_name.false in
    c.pinging_step.ensures.answer ∙ sym (ap (λ (t : StationStep). t.answer) e)

pub returns-in-Cancelling-clause-station : goal.returns-in-Cancelling-clause-station
returns-in-Cancelling-clause-station c =
    let e = stepped c.self.inside c.in-Some.field-0 _ c.args.self.now c.args.from c.args.msg.now _ _ c.self.view_is (sym c.take.ensures.value ∙ c.in-Some.is) c.in-Cancelling.is
    c.is_same_stream.ensures (c.is_same_name.ensures ∙ ap (λ (n : Name). same_name n c.self.inside.me) c.receiver.ensures) c.if-not-is_same_stream.false c.if-not-is_same_name.false in
    c.cancelling_step.ensures.station ∙ sym (ap (λ (t : StationStep). t.station) e)

pub returns-in-Cancelling-clause-answer : goal.returns-in-Cancelling-clause-answer
returns-in-Cancelling-clause-answer c =
    let e = stepped c.self.inside c.in-Some.field-0 _ c.args.self.now c.args.from c.args.msg.now _ _ c.self.view_is (sym c.take.ensures.value ∙ c.in-Some.is) c.in-Cancelling.is
    c.is_same_stream.ensures (c.is_same_name.ensures ∙ ap (λ (n : Name). same_name n c.self.inside.me) c.receiver.ensures) c.if-not-is_same_stream.false c.if-not-is_same_name.false in
    c.cancelling_step.ensures.answer ∙ sym (ap (λ (t : StationStep). t.answer) e)

pub returns-in-Sending-clause-station : goal.returns-in-Sending-clause-station
returns-in-Sending-clause-station c =
    let e = stepped c.self.inside c.in-Some.field-0 _ c.args.self.now c.args.from c.args.msg.now _ _ c.self.view_is (sym c.take.ensures.value ∙ c.in-Some.is) c.in-Sending.is
    c.is_same_stream.ensures (c.is_same_name.ensures ∙ ap (λ (n : Name). same_name n c.self.inside.me) c.receiver.ensures) c.if-not-is_same_stream.false c.if-not-is_same_name.false in
    c.sending_step.ensures.station ∙ sym (ap (λ (t : StationStep). t.station) e)

pub returns-in-Sending-clause-answer : goal.returns-in-Sending-clause-answer
returns-in-Sending-clause-answer c =
    let e = stepped c.self.inside c.in-Some.field-0 _ c.args.self.now c.args.from c.args.msg.now _ _ c.self.view_is (sym c.take.ensures.value ∙ c.in-Some.is) c.in-Sending.is
    c.is_same_stream.ensures (c.is_same_name.ensures ∙ ap (λ (n : Name). same_name n c.self.inside.me) c.receiver.ensures) c.if-not-is_same_stream.false c.if-not-is_same_name.false in
    c.sending_step.ensures.answer ∙ sym (ap (λ (t : StationStep). t.answer) e)

pub returns-in-Clearing-clause-station : goal.returns-in-Clearing-clause-station
returns-in-Clearing-clause-station c =
    let e = stepped c.self.inside c.in-Some.field-0 _ c.args.self.now c.args.from c.args.msg.now _ _ c.self.view_is (sym c.take.ensures.value ∙ c.in-Some.is) c.in-Clearing.is
    c.is_same_stream.ensures (c.is_same_name.ensures ∙ ap (λ (n : Name). same_name n c.self.inside.me) c.receiver.ensures) c.if-not-is_same_stream.false c.if-not-is_same_name.false in
    c.clearing_step.ensures.station ∙ sym (ap (λ (t : StationStep). t.station) e)

pub returns-in-Clearing-clause-answer : goal.returns-in-Clearing-clause-answer
returns-in-Clearing-clause-answer c =
    let e = stepped c.self.inside c.in-Some.field-0 _ c.args.self.now c.args.from c.args.msg.now _ _ c.self.view_is (sym c.take.ensures.value ∙ c.in-Some.is) c.in-Clearing.is
    c.is_same_stream.ensures (c.is_same_name.ensures ∙ ap (λ (n : Name). same_name n c.self.inside.me) c.receiver.ensures) c.if-not-is_same_stream.false c.if-not-is_same_name.false in
    c.clearing_step.ensures.answer ∙ sym (ap (λ (t : StationStep). t.answer) e)

pub returns-in-Listing-clause-station : goal.returns-in-Listing-clause-station
returns-in-Listing-clause-station c =
    let e = stepped c.self.inside c.in-Some.field-0 _ c.args.self.now c.args.from c.args.msg.now _ _ c.self.view_is (sym c.take.ensures.value ∙ c.in-Some.is) c.in-Listing.is
    c.is_same_stream.ensures (c.is_same_name.ensures ∙ ap (λ (n : Name). same_name n c.self.inside.me) c.receiver.ensures) c.if-not-is_same_stream.false c.if-not-is_same_name.false in
    c.listing_step.ensures.station ∙ sym (ap (λ (t : StationStep). t.station) e)

pub returns-in-Listing-clause-answer : goal.returns-in-Listing-clause-answer
returns-in-Listing-clause-answer c =
    let e = stepped c.self.inside c.in-Some.field-0 _ c.args.self.now c.args.from c.args.msg.now _ _ c.self.view_is (sym c.take.ensures.value ∙ c.in-Some.is) c.in-Listing.is
    c.is_same_stream.ensures (c.is_same_name.ensures ∙ ap (λ (n : Name). same_name n c.self.inside.me) c.receiver.ensures) c.if-not-is_same_stream.false c.if-not-is_same_name.false in
    c.listing_step.ensures.answer ∙ sym (ap (λ (t : StationStep). t.answer) e)

pub returns-in-Getting-clause-station : goal.returns-in-Getting-clause-station
returns-in-Getting-clause-station c =
    let e = stepped c.self.inside c.in-Some.field-0 _ c.args.self.now c.args.from c.args.msg.now _ _ c.self.view_is (sym c.take.ensures.value ∙ c.in-Some.is) c.in-Getting.is
    c.is_same_stream.ensures (c.is_same_name.ensures ∙ ap (λ (n : Name). same_name n c.self.inside.me) c.receiver.ensures) c.if-not-is_same_stream.false c.if-not-is_same_name.false in
    c.getting_step.ensures.station ∙ sym (ap (λ (t : StationStep). t.station) e)

pub returns-in-Getting-clause-answer : goal.returns-in-Getting-clause-answer
returns-in-Getting-clause-answer c =
    let e = stepped c.self.inside c.in-Some.field-0 _ c.args.self.now c.args.from c.args.msg.now _ _ c.self.view_is (sym c.take.ensures.value ∙ c.in-Some.is) c.in-Getting.is
    c.is_same_stream.ensures (c.is_same_name.ensures ∙ ap (λ (n : Name). same_name n c.self.inside.me) c.receiver.ensures) c.if-not-is_same_stream.false c.if-not-is_same_name.false in
    c.getting_step.ensures.answer ∙ sym (ap (λ (t : StationStep). t.answer) e)
