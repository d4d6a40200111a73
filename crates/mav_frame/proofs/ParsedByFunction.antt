-- The function of the final parse gives the final parse.
use Rattle.std.proofs.Common.{◌≡◌, Bool, ℕ, zero, suc, ◌<◌, ◌≤◌, List, [], ◌∷◌, length, drop, refl, arith, length-drop}
use Rattle.std.specs.Prelude.{All}
use Rattle.std.proofs.lemmas.List.Elements.{All-head, All-tail, All-drop}
use Rattle.mav_frame.specs.Looks.{look_of}
use Rattle.mav_frame.specs.Parse.{EventAt, Final}
use Rattle.mav_frame.specs.FinalParse.{events_by, first_events, final_parse}
use Rattle.mav_frame.specs.ParseLaws.{FinalIsFunction}
use Rattle.mav_frame.specs.declared.looks.Look.{Look}
use Rattle.mav_frame.specs.declared.looks.Look.TheVariants.{Frame as Found, NotHere, More}
use Rattle.mav_frame.specs.declared.events.Event.{Event}
use Rattle.mav_frame.proofs.FoundEncoded.{IsBytes, once}
use Rattle.mav_frame.proofs.EventsFound.{some_bytes, frame_event, skipped_event, short_event}
use Rattle.mav_frame.proofs.OneParse.{one_final}

pub bytes_at : (b : List ℕ) → All (λ byte. byte < 256) b → IsBytes b
bytes_at [] h i = omega arith
bytes_at (x ∷ xs) h zero = All-head (λ byte. byte < 256) x xs h
bytes_at (x ∷ xs) h (suc i) = bytes_at xs (All-tail (λ byte. byte < 256) x xs h) i

module _ (extras : List (ℕ × ℕ)) (old : Bool) where
  by_look : (r : Look) (b : List ℕ) (rest : List ℕ → List Event) → 0 < length b → All (λ byte. byte < 256) b → look_of extras old b ≡ r → ((n : ℕ) → 1 ≤ n → Final extras old (rest (drop n b)) (drop n b)) → Final extras old (events_by r b rest) b
  by_look (Found p n) b rest some h e next =
      let o = once extras old b p n (bytes_at b h) e in
      (drop n b, frame_event extras old b p n o, next n (some_bytes n b p o.1.bytes))
  by_look (NotHere why) b rest some h e next = (drop 1 b, skipped_event extras old b why some e, next 1 (omega arith))
  by_look (More k) b rest some h e next = (drop 1 b, short_event extras old b k some e, next 1 (omega arith))

  parsed : (most : ℕ) (b : List ℕ) → length b ≤ most → All (λ byte. byte < 256) b → Final extras old (first_events extras old most b) b
  parsed zero [] within h = refl
  parsed zero (x ∷ xs) within h = absurd (omega arith)
  parsed (suc most) [] within h = refl
  parsed (suc most) (x ∷ xs) within h =
      by_look (look_of extras old (x ∷ xs)) (x ∷ xs) (first_events extras old most) (omega arith) h refl (λ n some. parsed most (drop n (x ∷ xs)) (omega (arith, length-drop n (x ∷ xs))) (All-drop (λ byte. byte < 256) n (x ∷ xs) h))

pub final_is_function : FinalIsFunction
final_is_function extras old b h = parsed extras old (length b) b (omega arith) h

-- the parse by its first event
pub parse_goes_on : (extras : List (ℕ × ℕ)) (old : Bool) (event : Event) (b rest : List ℕ) → All (λ byte. byte < 256) b → All (λ byte. byte < 256) rest → EventAt extras old event b rest → final_parse extras old b ≡ event ∷ final_parse extras old rest
parse_goes_on extras old event b rest h k at =
    one_final extras old b (final_parse extras old b) (event ∷ final_parse extras old rest) (final_is_function extras old b h) (rest, at, final_is_function extras old rest k)
