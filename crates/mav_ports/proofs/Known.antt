-- Known bytes that shrink or grow more than once.
use Rattle.std.proofs.Common.{◌≡◌, ◌∙◌, ℕ, ◌+◌, List, [], ◌++◌, take, drop, Some, None, refl, ap, sym, subst, append_assoc, drop-drop}
use Rattle.std.proofs.lemmas.List.{take-append-drop, append-nil}
use Rattle.std.specs.declared.option.Option.{Option}
use Rattle.std.specs.Io.KnownBytes.{append_known, prepend_known}
use Rattle.mav_ports.specs.Puts.{Sent}

-- what is prepended twice is prepended joined
pub prepend_known_twice : (known : Option (List ℕ)) (xs ys : List ℕ) → prepend_known xs (prepend_known ys known) ≡ prepend_known (xs ++ ys) known
prepend_known_twice None xs ys = refl
prepend_known_twice (Some zs) xs ys = ap Some (sym (append_assoc xs ys zs))

-- what is appended twice is appended joined
pub append_known_twice : (known : Option (List ℕ)) (xs ys : List ℕ) → append_known (append_known known xs) ys ≡ append_known known (xs ++ ys)
append_known_twice None xs ys = refl
append_known_twice (Some zs) xs ys = ap Some (append_assoc zs xs ys)

-- appending nothing changes nothing
pub append_known_nil : (known : Option (List ℕ)) → known ≡ append_known known []
append_known_nil None = refl
append_known_nil (Some zs) = ap Some (sym (append-nil zs))

-- at the start nothing is sent
pub sent_start : (known : Option (List ℕ)) (text : List ℕ) → Sent known known text text
sent_start known text = record { part = []; whole = refl; appended = append_known_nil known }

-- at the end all is
pub sent_all : (before after : Option (List ℕ)) (text : List ℕ) → Sent before after text [] → after ≡ append_known before text
sent_all before after text s = s.appended ∙ ap (append_known before) (sym (append-nil s.part) ∙ s.whole)

-- a prefix of what is left is sent next
pub sent_in : (before middle after : Option (List ℕ)) (text next rest more : List ℕ) → Sent before middle text (next ++ rest) → Sent middle after next more → Sent before after text (more ++ rest)
sent_in before middle after text next rest more first second = record {
  part = first.part ++ second.part;
  whole = append_assoc first.part second.part (more ++ rest)
      ∙ ap (λ xs. first.part ++ xs) (sym (append_assoc second.part more rest) ∙ ap (λ xs. xs ++ rest) second.whole)
      ∙ first.whole;
  appended = second.appended
      ∙ ap (λ known. append_known known second.part) first.appended
      ∙ append_known_twice before first.part second.part;
}

-- all of one piece is sent
pub sent_piece : (before after : Option (List ℕ)) (piece : List ℕ) → after ≡ append_known before piece → Sent before after piece []
sent_piece before after piece e = record { part = piece; whole = append-nil piece; appended = e }

-- what is appended now is the next piece of what is left
pub sent_step : (before middle after : Option (List ℕ)) (text next rest : List ℕ) → Sent before middle text (next ++ rest) → after ≡ append_known middle next → Sent before after text rest
sent_step before middle after text next rest first e = sent_in before middle after text next rest [] first (sent_piece middle after next e)

-- the prefix of a list, and what is left of it
pub sent_take : (before after : Option (List ℕ)) (n : ℕ) (xs : List ℕ) → after ≡ append_known before (take n xs) → Sent before after xs (drop n xs)
sent_take before after n xs e = record { part = take n xs; whole = take-append-drop n xs; appended = e }

-- the next n bytes of those from an index on are sent
pub sent_more : (before middle after : Option (List ℕ)) (bytes : List ℕ) (done n : ℕ) → Sent before middle bytes (drop done bytes) → after ≡ append_known middle (take n (drop done bytes)) → Sent before after bytes (drop (done + n) bytes)
sent_more before middle after bytes done n first e =
    let parted : take n (drop done bytes) ++ drop (done + n) bytes ≡ drop done bytes = ap (λ xs. take n (drop done bytes) ++ xs) (sym (drop-drop n done bytes)) ∙ take-append-drop n (drop done bytes) in
    sent_step before middle after bytes (take n (drop done bytes)) (drop (done + n) bytes) (subst (λ xs. Sent before middle bytes xs) (sym parted) first) e

-- prepending nothing changes nothing
pub prepend_known_nil : (known : Option (List ℕ)) → prepend_known [] known ≡ known
prepend_known_nil None = refl
prepend_known_nil (Some xs) = refl
