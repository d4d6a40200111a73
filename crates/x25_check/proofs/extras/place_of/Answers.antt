use Rattle.std.proofs.Common.{rules, ◌≡◌, ℕ, ◌∙◌}
use Rattle.std.proofs.lemmas.List.Sorted.{answers_always}
use Rattle.x25_check.proofs.Halving.{place_found}
use Rattle.x25_check.proofs.extras.place_of.Goals as goal

pub returns : goal.returns
returns c = c.ok.ensures.value ∙ place_found c.args.pairs.now c.args.id c.binary_search_by_key.result c.requires c.binary_search_by_key.ensures.bound (c.binary_search_by_key.ensures.position (λ (p : ℕ × ℕ). p.0) (answers_always _ (λ a r. r ≡ a.0.now.0) _ (λ f a r g k. search rules)))
