use Rattle.std.proofs.Common.{◌≡◌, ℕ, ◌<◌, ◌≤◌, List, [], ◌∷◌, ◌==◌, length, take, true, false, refl, sym, ap, ◌∙◌, subst, arith}
use Rattle.std.proofs.lemmas.Bool.Decides.{nat_tests}
use Rattle.mav_frame.specs.Packet.{Packet, FitsFrame}
use Rattle.mav_frame.specs.Encoding.{Encodes}
use Rattle.mav_frame.specs.Looks.{is_old_at, look_of, packet_at}
use Rattle.mav_frame.specs.declared.looks.Look.TheVariants.{Frame as Found, NotHere, More}
use Rattle.mav_frame.specs.declared.events.Event.TheVariants.{Frame}
use Rattle.mav_stream.specs.Held.{Held}
use Rattle.mav_stream.specs.Nexts.{Gives, NextIs}
use Rattle.mav_stream.specs.declared.Next.{Next}
use Rattle.mav_stream.proofs.Answers.{gives_frame, gives_skip, gives_short, needs, some_held}
use Rattle.mav_stream.proofs.reader.Reader.step.Goals as goal
use Rattle.mav_stream.proofs.reader.Reader.step.Goals.{then-not-self-via-then-not-self, then-not-self-via-else-not-self+then-is_empty}

pub returns-in-Whole : goal.returns-in-Whole
returns-in-Whole c =
    let i = c.self.inside in let n = c.in-Whole.size in let p = packet_at (is_old_at i.reads_old i.window) i.window in
    let held : Held = record { extras = i.extras; reads_old = i.reads_old; bytes = i.window; ended = i.ended } in
    let at : (look_of i.extras i.reads_old i.window ≡ Found p n) × ((n ≤ length i.window) × Encodes i.extras i.reads_old p (take n i.window) × FitsFrame p) =
    subst (λ (z : List ℕ). (look_of i.extras i.reads_old z ≡ Found (packet_at (is_old_at i.reads_old z) z) n) × ((n ≤ length z) × Encodes i.extras i.reads_old (packet_at (is_old_at i.reads_old z) z) (take n z) × FitsFrame (packet_at (is_old_at i.reads_old z) z))) c.bytes-bytes.ensures.list (sym c.in-Whole.ensures.exact, c.in-Whole.ensures.found) in
    let gives = subst (λ (z : List ℕ). Gives held (Frame p) (record held { bytes = z })) (sym c.remove.ensures) (gives_frame held p n at.0 at.1) in
    let frame : c.frame_at-frame.result ≡ p = c.frame_at-frame.ensures ∙ ap (λ (z : List ℕ). packet_at (is_old_at i.reads_old z) z) c.bytes-bytes.ensures.list in
    subst (λ (z : Held). Gives z (Frame c.frame_at-frame.result) (record held { bytes = c.remove.new.self })) c.self.view_is (subst (λ (q : Packet). Gives held (Frame q) (record held { bytes = c.remove.new.self })) (sym frame) gives)

pub returns-in-NotHere : goal.returns-in-NotHere
returns-in-NotHere c =
    let i = c.self.inside in let now = c.args.self.now in let why = c.in-NotHere.why in
    let at : look_of i.extras i.reads_old i.window ≡ NotHere why = subst (λ (z : List ℕ). look_of i.extras i.reads_old z ≡ NotHere why) c.bytes-bytes.ensures.list (sym c.in-NotHere.ensures.exact) in
    let there : look_of now.extras now.reads_old now.bytes ≡ NotHere why = subst (λ (z : Held). look_of z.extras z.reads_old z.bytes ≡ NotHere why) c.self.view_is at in
    subst (λ (z : Next × Held). NextIs now z.0 z.1) (λ k. (sym c.skip.ensures.answer k, sym c.skip.ensures.held k)) (gives_skip now why (some_held now.extras now.reads_old now.bytes why there) there)

both : true ≡ false → ⊥
both e = cc

none : (b : List ℕ) → (length b == 0) ≡ true → b ≡ []
none [] e = refl
none (x ∷ xs) e = let long : length (x ∷ xs) ≡ 0 = grind (arith, nat_tests) in absurd (omega arith)

pub returns-then-not-self : goal.returns-then-not-self
returns-then-not-self c =
    let i = c.self.inside in let now = c.args.self.now in let k = c.in-More.field-0 in
    let at : look_of i.extras i.reads_old i.window ≡ More k = subst (λ (z : List ℕ). look_of i.extras i.reads_old z ≡ More k) c.bytes-bytes.ensures.list (sym c.in-More.ensures.exact) in
    let there : look_of now.extras now.reads_old now.bytes ≡ More k = subst (λ (z : Held). look_of z.extras z.reads_old z.bytes ≡ More k) c.self.view_is at in
    let over : i.ended ≡ now.ended = ap (λ (h : Held). h.ended) c.self.view_is in
    let held : i.window ≡ now.bytes = ap (λ (h : Held). h.bytes) c.self.view_is in
    needs now k there (elim c.then-not-self.branch [
      | then-not-self-via-then-not-self w ↦ λ ended. absurd (both (sym ended ∙ (sym over ∙ w.if-not-self.true)))
      | then-not-self-via-else-not-self+then-is_empty w ↦ λ _. sym held ∙ (sym w.bytes.ensures.list ∙ none w.bytes.result.now (sym w.if-is_empty.ensures))
    ])

not_none : (n : ℕ) → (n == 0) ≡ false → 0 < n
not_none n e = grind (arith, nat_tests)

pub returns-else-is_empty : goal.returns-else-is_empty
returns-else-is_empty c =
    let i = c.self.inside in let now = c.args.self.now in let k = c.in-More.field-0 in
    let at : look_of i.extras i.reads_old i.window ≡ More k = subst (λ (z : List ℕ). look_of i.extras i.reads_old z ≡ More k) c.bytes-bytes.ensures.list (sym c.in-More.ensures.exact) in
    let there : look_of now.extras now.reads_old now.bytes ≡ More k = subst (λ (z : Held). look_of z.extras z.reads_old z.bytes ≡ More k) c.self.view_is at in
    let over : now.ended ≡ true = sym (ap (λ (h : Held). h.ended) c.self.view_is) ∙ c.if-not-self.false in
    let held : c.bytes.result.now ≡ now.bytes = c.bytes.ensures.list ∙ ap (λ (h : Held). h.bytes) c.self.view_is in
    let some : 0 < length now.bytes = subst (λ (z : List ℕ). 0 < length z) held (not_none (length c.bytes.result.now) (sym c.if-is_empty.ensures)) in
    subst (λ (z : Next × Held). NextIs now z.0 z.1) (λ j. (sym c.skip-in-More.ensures.answer j, sym c.skip-in-More.ensures.held j)) (gives_short now k some over there)
