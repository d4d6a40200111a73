use Rattle.std.proofs.Common.{false, drop, slice_index, sym, subst, arith}
use Rattle.mav_frame.specs.Parse.{EventAt}
use Rattle.mav_frame.specs.declared.events.Event.TheVariants.{Frame, Skipped}
use Rattle.mav_frame.specs.declared.looks.Why.TheVariants.{Short}
use Rattle.mav_frame.proofs.EventsFound.{frame_event, skipped_event, short_event}
use Rattle.mav_sign.specs.Endpoints.{EndpointState}
use Rattle.mav_sign.proofs.Hearing.{told_none, least_frame}
use Rattle.mav_sign.proofs.endpoint.Endpoint.hear_front.Goals as goal

pub returns-in-Frame-clause-heard : goal.returns-in-Frame-clause-heard
returns-in-Frame-clause-heard c =
    λ history of.
    let bytes = c.args.bytes.now in
    let packet = c.in-Frame.frame in
    record {
      event = Frame packet;
      stands = subst (λ (s : EndpointState). EventAt s.extras false (Frame packet) bytes (drop c.in-Frame.size bytes)) c.self.view_is (frame_event c.self.inside.extras false bytes packet c.in-Frame.size c.in-Frame.ensures.found);
      told = c.hear_frame.ensures.told history of;
    }

pub returns-in-NotHere-clause-heard : goal.returns-in-NotHere-clause-heard
returns-in-NotHere-clause-heard c =
    λ history of.
    let bytes = c.args.bytes.now in
    let why = c.in-NotHere.field-0 in
    record {
      event = Skipped (slice_index bytes 0) why;
      stands = subst (λ (s : EndpointState). EventAt s.extras false (Skipped (slice_index bytes 0) why) bytes (drop 1 bytes)) c.self.view_is (skipped_event c.self.inside.extras false bytes why c.requires.some (sym c.in-NotHere.ensures.exact));
      told = told_none c.args.self.now.key history c.args.out.now.items c.args.self.now.stamps of;
    }

pub returns-in-More-clause-heard : goal.returns-in-More-clause-heard
returns-in-More-clause-heard c =
    λ history of.
    let bytes = c.args.bytes.now in
    record {
      event = Skipped (slice_index bytes 0) Short;
      stands = subst (λ (s : EndpointState). EventAt s.extras false (Skipped (slice_index bytes 0) Short) bytes (drop 1 bytes)) c.self.view_is (short_event c.self.inside.extras false bytes c.in-More.field-0 c.requires.some (sym c.in-More.ensures.exact));
      told = told_none c.args.self.now.key history c.args.out.now.items c.args.self.now.stamps of;
    }

pub hear_frame-requires : goal.hear_frame-requires
hear_frame-requires c =
    let found = c.in-Frame.ensures.found in
    let least = least_frame c.self.inside.extras c.in-Frame.frame c.args.bytes.now c.in-Frame.size found.0 found.1 in
    c.requires.room (omega (arith, least, found.0))

pub returns-in-Frame-clause-size : goal.returns-in-Frame-clause-size
returns-in-Frame-clause-size c =
    let found = c.in-Frame.ensures.found in
    let least = least_frame c.self.inside.extras c.in-Frame.frame c.args.bytes.now c.in-Frame.size found.0 found.1 in
    (omega (arith, least), found.0)

pub returns-in-Frame-clause-room : goal.returns-in-Frame-clause-room
returns-in-Frame-clause-room c =
    let found = c.in-Frame.ensures.found in
    let least = least_frame c.self.inside.extras c.in-Frame.frame c.args.bytes.now c.in-Frame.size found.0 found.1 in
    let room = c.hear_frame.ensures.room in
    (room.0, omega (arith, least, room.1))
