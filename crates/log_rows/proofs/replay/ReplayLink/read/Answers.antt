use Rattle.std.proofs.Common.{◌≡◌, ◌≤◌, ◌+◌, ◌∙◌, ℕ, List, [], inl, inr, true, false, refl, sym, ap, subst, arith}
use Rattle.mav_links.specs.Links.{LinkState}
use Rattle.mav_ports.proofs.Known.{prepend_known_nil}
use Rattle.mav_ports.specs.Gets.{CountsFault, GivesWithin, given}
use Rattle.std.specs.Io.KnownBytes.{prepend_known}
use Rattle.mav_ports.specs.Counts.{next_count}
use Rattle.mav_ports.specs.declared.sources.Got.{Got}
use Rattle.mav_ports.specs.declared.sources.Got.TheVariants.{Bytes, Idle, End, Failed}
use Rattle.log_rows.specs.Frames.{RowsHeld, is_over}
use Rattle.log_rows.specs.Replays.{Asked, known_frames, is_end, IsNoneLeft}
use Rattle.log_rows.proofs.Turns.{LinkRead, counts_none, idles_stay, over_parts, known_over, nothing_left, spent_none, ends, known_step, begun, turn_known, turn_faults, turn_over, most_on, waits_on, failed_known, failed_faults, failed_over, is_failed, ended_by}
use Rattle.log_rows.proofs.replay.ReplayLink.read.Goals as goal

told_end : (got : Got) → is_end got ≡ true → got ≡ End
told_end (Bytes n) never = absurd (cc never)
told_end Idle never = absurd (cc never)
told_end End e = refl
told_end Failed never = absurd (cc never)

pub returns-in_default : goal.returns-in_default
returns-in_default g c =
    let old = c.args.self.now in let new : RowsHeld = c.at_hand.new.self in let got : Got = c.at_hand.result in
    let hand = c.at_hand.ensures in let gives = hand.gives in
    let link : LinkState = g.L.Link.state old.link in
    let spent : new.ended ≡ true → IsNoneLeft link.left = (λ e. old.spent (sym hand.ended ∙ e)) in
    let over = ends (old.rows.ended ≡ true) [] old.rows new got c.at_hand.new.buf gives in
    record {
      within = gives.within;
      bytes = ap (known_frames old.rows) (sym (prepend_known_nil link.left)) ∙ known_step (old.rows.ended ≡ true) [] old.rows new got c.at_hand.new.buf gives link.left old.spent;
      faults = counts_none got link.faults link.faults hand.works refl;
      idles = idles_stay got old.idles c.in_default.not-Idle;
      end = λ e. known_over new link.left (gives.over e) spent;
      ended = λ e. c.is_end-self.ensures ∙ ap is_end e;
      only_end = λ t. inr (told_end got (sym c.is_end-self.ensures ∙ t));
      stays = λ e. over (nothing_left old.rows (old.told e)) c.in_default.not-Idle hand.works;
      sent = refl;
      most = omega arith;
      idle = λ e. absurd (c.in_default.not-Idle e);
      asked = λ e. old.closed (sym hand.ended ∙ (over_parts new (gives.over e)).0);
      over = λ ended none. over none c.in_default.not-Idle hand.works;
    }

pub loop-read-init : goal.loop-read-init
loop-read-init g c =
    let old = c.args.self.now in
    record { waits = begun old.rows c.at_hand.new.self (g.L.Link.state old.link) c.at_hand.new.buf c.in-Idle.ensures.gives old.spent; idles = refl; over = refl }

pub take-requires-clause-held : goal.take-requires-clause-held
take-requires-clause-held g c = c.loop-read.invariant.waits.held

pub take-requires-clause-reads : goal.take-requires-clause-reads
take-requires-clause-reads g c = c.loop-read.invariant.waits.goes_on

pub returns-in_default-take : goal.returns-in_default-take
returns-in_default-take g c =
    let l = c.loop-read in let old = c.args.self.now in let w = l.invariant.waits in let e = c.read-read.ensures in
    let before : LinkState = g.L.Link.state old.link in
    let link : LinkState = g.L.Link.state l.self.link in
    let after : LinkState = g.L.Link.state c.read-read.new.self in
    let read : Got = c.read-read.result in let piece : List ℕ = c.read-read.new.buf in
    let r : LinkRead read piece link after = record { within = e.within; bytes = e.bytes; faults = e.faults; idles = e.idles; end = e.end; ended = e.ended; stays = e.stays; sent = e.sent } in
    let now : RowsHeld = l.self.rows in let new : RowsHeld = c.take.new.self in
    let got : Got = c.take.result in let buf : List ℕ = c.take.new.buf in
    let idle = c.in_default-take.not-Idle in
    let idles = l.invariant.idles ∙ idles_stay got old.idles idle in
    let last = c.loop-read-test.true in
    let most = most_on l._read old.rows now before link w read piece after r in
    let fewer : after.idles ≤ before.idles + 4096 = omega (arith, most, last) in
    let begins : is_over old.rows ≡ true → ⊥ = (λ over. let bad : true ≡ false = sym (c.at_hand.ensures.ended ∙ (over_parts old.rows over).0) ∙ (c.in-Idle.ensures.gives.waits refl).1 in cc) in
    elim (is_failed read) [
      | inl failed ↦
          let is : got ≡ Failed = c.take.ensures.failed failed in
          let ends : got ≡ End → ⊥ = (λ end. let bad : Failed ≡ End = sym is ∙ end in cc) in
          record {
            within = subst (λ (z : Got). GivesWithin z buf) (sym is) tt;
            bytes = failed_known l._read old.rows now before link w read piece after r new failed (c.take.ensures.same failed) ∙ ap (λ (z : Got). prepend_known (given z buf) (known_frames new after.left)) (sym is);
            faults = subst (λ (z : Got). CountsFault z before.faults after.faults) (sym is) (failed_faults l._read old.rows now before link w read piece after r failed);
            idles = idles;
            end = λ end. absurd (ends end);
            ended = λ end. absurd (ends end);
            only_end = λ t. inr (told_end got (sym c.is_end-self-in_default-take.ensures ∙ t));
            stays = λ told. absurd (begins (old.told told));
            sent = e.sent ∙ w.sent;
            most = fewer;
            idle = λ is. absurd (idle is);
            asked = λ end. absurd (ends end);
            over = λ ended none. absurd (failed_over l._read old.rows now before link w read piece after r failed ended none);
          }
      | inr works ↦
          let gives = c.take.ensures.gives works in
          let closed : new.ended ≡ true → read ≡ End = ended_by read new.ended c.take.ensures.goes_on in
          record {
            within = gives.within;
            bytes = turn_known l._read old.rows now before link w read piece after r new got buf works gives;
            faults = turn_faults l._read old.rows now before link w read piece after r new got buf works gives (c.take.ensures.works works);
            idles = idles;
            end = λ end. known_over new after.left (gives.over end) (λ ended. spent_none after.left (e.end (closed ended)));
            ended = λ end. c.is_end-self-in_default-take.ensures ∙ ap is_end end;
            only_end = λ t. inr (told_end got (sym c.is_end-self-in_default-take.ensures ∙ t));
            stays = λ told. absurd (begins (old.told told));
            sent = e.sent ∙ w.sent;
            most = fewer;
            idle = λ is. absurd (idle is);
            asked = λ end. e.ended (closed (over_parts new (gives.over end)).0);
            over = λ ended none. turn_over l._read old.rows now before link w read piece after r new got buf works gives ended none idle (c.take.ensures.works works);
          }
    ]

pub loop-read-preserved : goal.loop-read-preserved
loop-read-preserved g c =
    let l = c.loop-read in let old = c.args.self.now in let w = l.invariant.waits in let e = c.read-read.ensures in
    let before : LinkState = g.L.Link.state old.link in
    let link : LinkState = g.L.Link.state l.self.link in
    let after : LinkState = g.L.Link.state c.read-read.new.self in
    let read : Got = c.read-read.result in let piece : List ℕ = c.read-read.new.buf in
    let r : LinkRead read piece link after = record { within = e.within; bytes = e.bytes; faults = e.faults; idles = e.idles; end = e.end; ended = e.ended; stays = e.stays; sent = e.sent } in
    let works : read ≡ Failed → ⊥ = (λ failed. let bad : Idle ≡ Failed = c.in-Idle-take.ensures.failed failed in cc) in
    record {
      waits = waits_on l._read old.rows l.self.rows before link w read piece after r c.take.new.self c.take.new.buf works (c.in-Idle-take.ensures.gives works) c.take.ensures.ends;
      idles = l.invariant.idles;
      over = l.invariant.over;
    }

pub returns-clause-bytes : goal.returns-clause-bytes
returns-clause-bytes g c =
    let w = c.loop-read.invariant.waits in w.known ∙ sym (prepend_known_nil (known_frames c.loop-read.self.rows (g.L.Link.state c.loop-read.self.link).left))

pub returns-clause-faults : goal.returns-clause-faults
returns-clause-faults g c = c.loop-read.invariant.waits.asked.faults

pub returns-clause-idles : goal.returns-clause-idles
returns-clause-idles g c = c.one_more-self.ensures ∙ ap next_count c.loop-read.invariant.idles

pub returns-clause-sent : goal.returns-clause-sent
returns-clause-sent g c = c.loop-read.invariant.waits.sent

pub returns-clause-most : goal.returns-clause-most
returns-clause-most g c = let most = c.loop-read.invariant.waits.asked.most in let last = c.loop-read.auto._read-end in omega (arith, most, last)

pub returns-clause-idle : goal.returns-clause-idle
returns-clause-idle g c e =
    let last : c.loop-read._read ≡ 4096 = omega (arith, c.loop-read.auto._read-end, c.loop-read-test.false) in
    subst (λ (n : ℕ). Asked n (g.L.Link.state c.args.self.now.link) (g.L.Link.state c.loop-read.self.link)) last c.loop-read.invariant.waits.asked

pub returns-clause-over : goal.returns-clause-over
returns-clause-over g c ended none =
    let zero = (c.loop-read.invariant.waits.over ended none).0 in absurd (omega (arith, zero, c.loop-read-test.false))
