-- The parse as a function is the parse.
use Rattle.std.proofs.Common.{◌≡◌, ℕ, ◌-◌, Bool, true, false, List, [], ◌∷◌, ◌++◌, length, refl, sym, ap, ◌∙◌, subst}
use Rattle.std.proofs.Common.{inl, inr, ◌⊎◌, arith}
use Rattle.mav_frame.specs.Packet.{Packet}
use Rattle.mav_frame.specs.Encoding.{stx_of, encoding, checked_bytes, block_bytes}
use Rattle.mav_frame.specs.Numbers.{little_endian}
use Rattle.mav_frame.specs.Looks.{look_of}
use Rattle.mav_frame.specs.Parse.{IsIncomplete, EventAt, Final, Incremental, BeginsIncremental, BeginsFinal}
use Rattle.mav_frame.specs.declared.looks.Look.{Look}
use Rattle.mav_frame.specs.declared.looks.Look.TheVariants.{Frame as Found, NotHere}
use Rattle.mav_frame.specs.declared.looks.Why.{Why}
use Rattle.mav_frame.specs.declared.looks.Why.TheVariants.{Short}
use Rattle.mav_frame.specs.declared.events.Event.{Event}
use Rattle.mav_frame.specs.declared.events.Event.TheVariants.{Frame, Skipped}
use Rattle.mav_frame.proofs.EncodedFound.{found}
use Rattle.mav_frame.proofs.Reasons.{lacks, listed}
use Rattle.decode_command.specs.Parsing.{events_at, events_after, parse_events, final_events, incremental_events}

module _ (extras : List (ℕ × ℕ)) where
  -- ---- one event more

  inside : (ended : Bool) (part rest : List ℕ)
      → events_after extras ended (length part) (part ++ rest) ≡ parse_events extras ended rest
  inside ended [] rest = refl
  inside ended (x ∷ xs) rest = inside ended xs rest

  frame_first : (ended : Bool) (p : Packet) (byte : ℕ) (part rest : List ℕ)
      → look_of extras true (byte ∷ part ++ rest) ≡ Found p (length (byte ∷ part))
      → parse_events extras ended (byte ∷ part ++ rest) ≡ Frame p ∷ parse_events extras ended rest
  frame_first ended p byte part rest e =
      let size : length (byte ∷ part) - 1 ≡ length part = omega arith in
      ap (λ (l : Look). events_at l ended byte (λ n. events_after extras ended n (part ++ rest))) e
      ∙ ap (λ (n : ℕ). Frame p ∷ events_after extras ended n (part ++ rest)) size
      ∙ ap (λ (es : List Event). Frame p ∷ es) (inside ended part rest)

  skip_first : (ended : Bool) (c : ℕ) (rest : List ℕ) (w : Why)
      → (ended ≡ false → IsIncomplete extras true (c ∷ rest) → ⊥) → (look_of extras true (c ∷ rest) ≡ NotHere w)
      ⊎ (IsIncomplete extras true (c ∷ rest) × (w ≡ Short))
      → parse_events extras ended (c ∷ rest) ≡ Skipped c w ∷ parse_events extras ended rest
  skip_first ended c rest w never (inl e) = ap
      (λ (l : Look). events_at l ended c (λ n. events_after extras ended n rest)) e
  skip_first true c rest w never (inr (h, is)) =
      ap (λ (l : Look). events_at l true c (λ n. events_after extras true n rest)) (lacks extras true (c ∷ rest) h).1
      ∙ ap (λ (v : Why). Skipped c v ∷ parse_events extras true rest) (sym is)
  skip_first false c rest w never (inr (h, is)) = absurd (never refl h)

  one_more : (ended : Bool) (event : Event) (b rest : List ℕ) → (ended ≡ false → IsIncomplete extras true b → ⊥)
      → EventAt extras true event b rest → parse_events extras ended b ≡ event ∷ parse_events extras ended rest
  one_more ended (Frame p) b rest never h =
      ap (parse_events extras ended) h.2
      ∙ frame_first ended p (stx_of p.old) (checked_bytes p ++ little_endian 2 p.check ++ block_bytes p.block) rest
      (found extras true p (encoding p ++ rest) rest h.0 h.1 refl)
  one_more ended (Skipped c w) b rest never h =
      ap (parse_events extras ended) h.0
      ∙ skip_first ended c rest w (λ still. subst (λ (z : List ℕ). IsIncomplete extras true z → ⊥) h.0 (never still))
      (subst (λ (z : List ℕ). (look_of extras true z ≡ NotHere w) ⊎ (IsIncomplete extras true z × (w ≡ Short))) h.0
      (listed extras true b w h.2))

  -- ---- the final parse

  final_one : (event : Event) (b rest : List ℕ) → EventAt extras true event b rest
      → final_events extras b ≡ event ∷ final_events extras rest
  final_one event b rest h = one_more true event b rest (λ ended. absurd (cc ended)) h

  -- a prefix of it, and the parse of what is left
  pub final_begins : (given : List Event) (left b : List ℕ) → BeginsFinal extras true given left b
      → final_events extras b ≡ given ++ final_events extras left
  final_begins [] left b h = ap (final_events extras) h
  final_begins (e ∷ es) left b h = final_one e b h.0 h.1 ∙ ap
      (λ (more : List Event). e ∷ more) (final_begins es left h.0 h.2)

  pub final_is : (given : List Event) (b : List ℕ) → Final extras true given b → final_events extras b ≡ given
  final_is [] b h = ap (final_events extras) h
  final_is (e ∷ es) b h = final_one e b h.0 h.1 ∙ ap (λ (more : List Event). e ∷ more) (final_is es h.0 h.2)

  -- ---- the incremental parse

  pub incremental_begins : (given : List Event) (left b : List ℕ) → BeginsIncremental extras true given left b
      → incremental_events extras b ≡ given ++ incremental_events extras left
  incremental_begins [] left b h = ap (incremental_events extras) h
  incremental_begins (e ∷ es) left b h = one_more false e b h.1.0 (λ still. h.0) h.1.1 ∙ ap
      (λ (more : List Event). e ∷ more) (incremental_begins es left h.1.0 h.1.2)

  incremental_nothing : (b : List ℕ) → IsIncomplete extras true b → incremental_events extras b ≡ []
  incremental_nothing [] h = refl
  incremental_nothing (x ∷ xs) h = ap (λ (l : Look). events_at l false x (λ n. events_after extras false n xs))
      (lacks extras true (x ∷ xs) h).1

  pub incremental_is : (given : List Event) (left b : List ℕ) → Incremental extras true given left b
      → incremental_events extras b ≡ given
  incremental_is [] left b h = incremental_nothing b h.1
  incremental_is (e ∷ es) left b h = one_more false e b h.1.0 (λ still. h.0) h.1.1 ∙ ap
      (λ (more : List Event). e ∷ more) (incremental_is es left h.1.0 h.1.2)
