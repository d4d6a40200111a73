-- Frames of both versions in one parse.
use Rattle.std.proofs.Common.{◌≡◌, ◌≢◌, ℕ, zero, suc, ◌==◌, ◌&&◌, Bool, true, false, List, [], ◌∷◌, ◌++◌, length, drop, slice_index, refl, sym, ap, ◌∙◌, arith, append-nil}
use Rattle.std.specs.Prelude.{All}
use Rattle.std.proofs.lemmas.List.Elements.{All-nil, All-cons, All-drop, All-head}
use Rattle.std.proofs.lemmas.Bool.Decides.{nat_tests}
use Rattle.mav_frame.specs.Packet.{Packet}
use Rattle.mav_frame.specs.Encoding.{encoding}
use Rattle.mav_frame.specs.Looks.{look_as, look_of}
use Rattle.mav_frame.specs.Parse.{EventAt}
use Rattle.mav_frame.specs.FinalParse.{events_by, first_events}
use Rattle.mav_frame.specs.ParseLaws.{EncodingsArePrefixFree, IsNew, OldFramesUnread, SameWithoutOldStx}
use Rattle.mav_frame.specs.declared.looks.Look.{Look}
use Rattle.mav_frame.specs.declared.looks.Look.TheVariants.{Frame as Found, NotHere, More}
use Rattle.mav_frame.specs.declared.looks.Why.TheVariants.{Short}
use Rattle.mav_frame.specs.declared.events.Event.{Event}
use Rattle.mav_frame.specs.declared.events.Event.TheVariants.{Frame, Skipped}
use Rattle.mav_frame.proofs.EncodedFound.{found}

same_found : (p q : Packet) (m n : ℕ) → ◌≡◌ {A = Look} (Found p m) (Found q n) → p ≡ q
same_found p q m n e = cc

same_rest : (xs ys zs : List ℕ) → xs ++ ys ≡ xs ++ zs → ys ≡ zs
same_rest [] ys zs e = e
same_rest (x ∷ xs) ys zs e = same_rest xs ys zs (let t : xs ++ ys ≡ xs ++ zs = ap (drop 1) e in t)

pub encodings_are_prefix_free : EncodingsArePrefixFree
encodings_are_prefix_free extras old p q more fits others sealed also e =
    let longer : encoding q ≡ encoding q ++ [] = sym (append-nil (encoding q)) in
    let same : p ≡ q = same_found p q _ _ (sym (found extras old p (encoding q) more fits sealed e) ∙ found extras old q (encoding q) [] others also longer) in
    (same, same_rest (encoding q) more [] (sym (e ∙ ap (λ (z : Packet). encoding z ++ more) same) ∙ longer))

no_truth : true ≡ false → ⊥
no_truth e = cc

is_new : (v : Bool) → (v ≡ true → false ≡ true) → v ≡ false
is_new true h = sym (h refl)
is_new false h = refl

new_event : (extras : List (ℕ × ℕ)) (event : Event) (b rest : List ℕ) → EventAt extras false event b rest → IsNew event
new_event extras (Frame p) b rest h = is_new p.old h.1.version
new_event extras (Skipped byte why) b rest h = tt

pub old_frames_unread : OldFramesUnread
old_frames_unread extras [] b h = All-nil IsNew
old_frames_unread extras (event ∷ events) b h = All-cons IsNew event events (new_event extras event b h.0 h.1) (old_frames_unread extras events h.0 h.2)

differs : (x : ℕ) → x ≢ 0xFE → (true && (x == 0xFE)) ≡ false
differs x h = grind (arith, nat_tests)

abbrev IsOther : ℕ → Type 0
IsOther byte = byte ≢ 0xFE

module _ (extras : List (ℕ × ℕ)) where
  by_look : (r : Look) (b : List ℕ) (most : ℕ) → ((n : ℕ) → first_events extras true most (drop n b) ≡ first_events extras false most (drop n b)) → events_by r b (first_events extras true most) ≡ events_by r b (first_events extras false most)
  by_look (Found p n) b most rest = ap (λ (l : List Event). Frame p ∷ l) (rest n)
  by_look (NotHere why) b most rest = ap (λ (l : List Event). Skipped (slice_index b 0) why ∷ l) (rest 1)
  by_look (More k) b most rest = ap (λ (l : List Event). Skipped (slice_index b 0) Short ∷ l) (rest 1)

  same : (most : ℕ) (b : List ℕ) → All IsOther b → first_events extras true most b ≡ first_events extras false most b
  same zero b h = refl
  same (suc most) [] h = refl
  same (suc most) (x ∷ xs) h =
      let first : look_of extras true (x ∷ xs) ≡ look_of extras false (x ∷ xs) = ap (λ (v : Bool). look_as extras v (x ∷ xs)) (differs x (All-head IsOther x xs h)) in
      ap (λ (r : Look). events_by r (x ∷ xs) (first_events extras true most)) first
      ∙ by_look (look_of extras false (x ∷ xs)) (x ∷ xs) most (λ n. same most (drop n (x ∷ xs)) (All-drop IsOther n (x ∷ xs) h))

pub same_without_old_stx : SameWithoutOldStx
same_without_old_stx extras b h = same extras (length b) b h
