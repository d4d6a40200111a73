use Rattle.std.proofs.Common.{◌≡◌, ◌∙◌, ◌++◌, ◌∷◌, [], ℕ, List, length, replicate, sym, ap, subst, arith, length-append}
use Rattle.std.proofs.lemmas.List.{length-replicate}
use Rattle.mav_router.specs.PageState.{PageState}
use Rattle.mav_router.specs.Pages.{AreIndexed}
use Rattle.mav_router.proofs.Pages.{indexed_more}
use Rattle.mav_router.proofs.journal.Journal.seal.Goals as goal

pub invariant_of-self-in-Ok-new : goal.invariant_of-self-in-Ok-new
invariant_of-self-in-Ok-new c =
    let s = c.self.inside in
    let page = c.in-Ok-new.sealed in
    let count = c.len-count.result in
    let number = c.len-number.result in
    let sealed = c.put_last.ensures.items ∙ ap (λ (l : List PageState). l ++ page ∷ []) c.reserve_page.ensures.sealed in
    let page_of = c.put_numbers.ensures ∙ ap (λ (l : List ℕ). l ++ replicate count number) c.reserve_page.ensures.page_of in
    let page_is = c.in-Ok-new.ensures in
    let before = ap length c.reserve_page.ensures.page_of in
    let after = ap length page_of in
    let start : page.start ≡ length s.page_of.items = ap (λ (p : PageState). p.start) page_is.sealed ∙ (c.len.ensures ∙ omega (arith, before)) in
    let size : count ≡ length page.entries = c.len-count.ensures ∙ (sym (ap length c.replace-page.ensures.value) ∙ sym (ap (λ (p : PageState). length p.entries) page_is.sealed)) in
    let same = ap length c.reserve_page.ensures.sealed in
    let last : number ≡ length s.sealed.items = omega (arith, c.len-number.ensures, c.reserve_page.new.sealed.ok.0, same) in
    let empty = ap length (c.replace-page.ensures.after ∙ c.new.ensures) in (
      subst (λ (l : List PageState). AreIndexed l c.put_numbers.new.page_of.items) (sym sealed)
          (subst (λ (l : List ℕ). AreIndexed (s.sealed.items ++ page ∷ []) l) (sym page_of) (indexed_more s.sealed.items s.page_of.items page count number c.self.invariant.0 start size last)),
      omega (arith, after, length-append s.page_of.items (replicate count number), length-replicate count number, c.len-count.ensures, empty, c.self.invariant.1),
    )
