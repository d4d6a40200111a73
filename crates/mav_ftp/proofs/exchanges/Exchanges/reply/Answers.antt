use Rattle.std.proofs.Common.{◌≡◌, ℕ, Bool, if◌then◌else◌, List, Option, Some, None, refl, sym, ap, ◌∙◌, length, get_or, subst, ◌<◌}
use Rattle.std.proofs.lemmas.Option.{slice_get_read}
use Rattle.mav_ftp.specs.declared.exchanges.Exchange.{Exchange}
use Rattle.mav_ftp.specs.Exchanges.{exchange_at, reply_at, same_request, kept_reply}
use Rattle.mav_names.specs.declared.names.Stream.{Stream}
use Rattle.std.specs.Str.{bytes_eq}
use Rattle.mav_ftp.proofs.exchanges.Exchanges.reply.Goals as goal

-- the reply by its place, where that is known
placed : (kept now held : List Exchange) (at : Option ℕ) (payload : List ℕ) (found : Option ℕ) (from : Stream) → kept ≡ now → held ≡ kept → at ≡ exchange_at held from → at ≡ found → reply_at kept payload found ≡ kept_reply now from payload
placed kept now held at payload found from view same is known =
    sym (ap (λ (es : List Exchange). kept_reply es from payload) (sym view) ∙ ap (reply_at kept payload) (ap (λ (es : List Exchange). exchange_at es from) (sym same) ∙ (sym is ∙ known)))

-- the exchange that stands there
standing : (kept : List Exchange) (at : ℕ) (e : Exchange) (payload : List ℕ) (same : Bool) → at < length kept → e ≡ get_or kept at e → same ≡ bytes_eq e.request payload → (if same then Some e.reply else None) ≡ reply_at kept payload (Some at)
standing kept at e payload same within is test =
    ap (λ (b : Bool). if b then Some e.reply else None) test ∙ sym (ap (same_request payload) (slice_get_read kept (length kept) at e refl within is))

pub returns-in_err-at : goal.returns-in_err-at
returns-in_err-at c = c.from_residual.ensures ∙ placed c.self.inside.entries.items c.args.self.now c.deref.result.now c.place.result c.args.request.now None c.args.stream c.self.view_is c.deref.ensures.value c.place.ensures.place c.in_err-at.was

pub returns-then-eq : goal.returns-then-eq
returns-then-eq c =
    let kept = c.self.inside.entries.items in let at = c.in_ok-at.at in let e = c.index-exchange.result.now in
    let within : at < length kept = subst (λ (es : List Exchange). at < length es) c.deref.ensures.value c.in_ok-at.ensures.inside in
    ap (λ (b : Bool). if b then Some e.reply else None) (sym c.if-eq.true)
    ∙ (standing kept at e c.args.request.now c.eq.result within c.index-exchange.ensures c.eq.ensures
    ∙ placed kept c.args.self.now c.deref.result.now c.place.result c.args.request.now (Some at) c.args.stream c.self.view_is c.deref.ensures.value c.place.ensures.place c.in_ok-at.was)

pub returns-else-eq : goal.returns-else-eq
returns-else-eq c =
    let kept = c.self.inside.entries.items in let at = c.in_ok-at.at in let e = c.index-exchange.result.now in
    let within : at < length kept = subst (λ (es : List Exchange). at < length es) c.deref.ensures.value c.in_ok-at.ensures.inside in
    ap (λ (b : Bool). if b then Some e.reply else None) (sym c.if-eq.false)
    ∙ (standing kept at e c.args.request.now c.eq.result within c.index-exchange.ensures c.eq.ensures
    ∙ placed kept c.args.self.now c.deref.result.now c.place.result c.args.request.now (Some at) c.args.stream c.self.view_is c.deref.ensures.value c.place.ensures.place c.in_ok-at.was)
