-- A row is a time and then a frame.
use Rattle.std.proofs.Common.{◌≡◌, ℕ, ◌≤◌, inl, inr, Bool, true, false, List, [], ◌++◌, length, drop, refl, sym, ap, ◌∙◌, subst, arith, append_assoc}
use Rattle.std.proofs.lemmas.Bool.{cases_lt}
use Rattle.std.proofs.lemmas.List.{drop-append-le}
use Rattle.std.proofs.Math.ListN.{drop_of_length-le}
use Rattle.mav_frame.specs.Packet.{Packet}
use Rattle.mav_frame.specs.Encoding.{encoding}
use Rattle.mav_frame.specs.Looks.{look_of}
use Rattle.mav_frame.specs.Parse.{NoFrame, IsIncomplete}
use Rattle.mav_frame.specs.declared.looks.Look.{Look}
use Rattle.mav_frame.specs.declared.looks.Look.TheVariants.{Frame as Found, NotHere, More}
use Rattle.mav_frame.specs.declared.looks.Why.{Why}
use Rattle.mav_frame.proofs.EncodedFound.{found}
use Rattle.mav_frame.proofs.LongerParse.{no_frame}
use Rattle.mav_frame.proofs.MoreBytes.{stays}
use Rattle.mav_frame.proofs.Reasons.{lacks, incomplete, listed, reason}
use Rattle.log_rows.specs.LogParse.{LogEvent, RowEvent, SkipEvent, NoRow, IsIncompleteRow, LogEventAt, IsRest}
use Rattle.log_rows.specs.Rows.{row_encoding}
use Rattle.log_rows.specs.declared.rows.Row.{Row}

-- what is behind the time of a row
pub behind : (row : Row) (rest : List ℕ) → drop 8 (row_encoding row ++ rest) ≡ encoding row.frame ++ rest
behind row rest = refl

pub no_row : (extras : List (ℕ × ℕ)) (b : List ℕ) → NoFrame extras true (drop 8 b) → NoRow extras b
no_row extras b never row rest fits sealed is =
    never row.frame (encoding row.frame) rest fits.frame (record { sealed = sealed; bytes = refl }) (ap (drop 8) is ∙ behind row rest)

found_more : (p : Packet) (n k : ℕ) → Found p n ≡ More k → ⊥
found_more p n k e = cc

not_more : (w : Why) (k : ℕ) → NotHere w ≡ More k → ⊥
not_more w k e = cc

pub not_found : (w : Why) (p : Packet) (n : ℕ) → NotHere w ≡ Found p n → ⊥
not_found w p n e = cc

pub more_found : (k : ℕ) (p : Packet) (n : ℕ) → More k ≡ Found p n → ⊥
more_found k p n e = cc

-- no byte is an incomplete row
pub none_incomplete : (extras : List (ℕ × ℕ)) → IsIncomplete extras true []
none_incomplete extras = incomplete extras true [] 3 refl

module _ (extras : List (ℕ × ℕ)) where
  -- at a row the parse goes on
  pub row_found : (row : Row) (b rest : List ℕ) → LogEventAt extras (RowEvent row) b rest → look_of extras true (drop 8 b) ≡ Found row.frame (length (encoding row.frame))
  row_found row b rest h = found extras true row.frame (drop 8 b) rest h.0.frame h.1 (ap (drop 8) h.2 ∙ behind row rest)

  pub row_goes_on : (ended : Bool) (row : Row) (b rest : List ℕ) → LogEventAt extras (RowEvent row) b rest → IsRest extras ended b → ⊥
  row_goes_on true row b rest h none = let e : ◌≡◌ {A = List ℕ} [] (row_encoding row ++ rest) = sym none ∙ h.2 in cc
  row_goes_on false row b rest h short = let l = lacks extras true (drop 8 b) short in found_more row.frame _ l.0 (sym (row_found row b rest h) ∙ l.1)

  -- an incomplete row is what lacks bytes
  pub decided : (b : List ℕ) (r : Look) → look_of extras true (drop 8 b) ≡ r → ((k : ℕ) → r ≡ More k → ⊥) → IsIncompleteRow extras b → ⊥
  decided b r e never short = let l = lacks extras true (drop 8 b) short in never l.0 (sym e ∙ l.1)

  -- where it isn't one, a time is there
  pub long : (b : List ℕ) → (IsIncompleteRow extras b → ⊥) → 8 ≤ length b
  long b never = elim (cases_lt (length b) 8) [
    | inl short ↦ absurd (never (subst (IsIncomplete extras true) (sym (drop_of_length-le b {i = 8} (omega arith))) (none_incomplete extras)))
    | inr enough ↦ omega arith
  ]

  module _ (b more : List ℕ) (never : IsIncompleteRow extras b → ⊥) where
    abbrev x : List ℕ
    x = drop 8 b

    behind_longer : drop 8 (b ++ more) ≡ x ++ more
    behind_longer = drop-append-le 8 b more (long b never)

    same_look : (r : Look) → look_of extras true x ≡ r → look_of extras true (drop 8 (b ++ more)) ≡ r
    same_look r e = ap (look_of extras true) behind_longer ∙ stays extras true x more r (λ k is. never (incomplete extras true x k (e ∙ is))) e

    pub never_longer : IsIncompleteRow extras (b ++ more) → ⊥
    never_longer short =
        let l = lacks extras true (drop 8 (b ++ more)) short in
        never (incomplete extras true x l.0 (sym (same_look (look_of extras true x) refl) ∙ l.1))

    pub event_longer : (event : LogEvent) (rest : List ℕ) → LogEventAt extras event b rest → LogEventAt extras event (b ++ more) (rest ++ more)
    event_longer (RowEvent row) rest h = (h.0, h.1, ap (λ (l : List ℕ). l ++ more) h.2 ∙ append_assoc (row_encoding row) rest more)
    event_longer (SkipEvent byte why) rest h = elim (listed extras true x why h.2) [
      | inl e ↦
          let same = same_look (NotHere why) e in
          (ap (λ (l : List ℕ). l ++ more) h.0, no_row extras (b ++ more) (no_frame extras true (drop 8 (b ++ more)) (NotHere why) same (not_found why)), reason extras true (drop 8 (b ++ more)) why same)
      | inr short ↦ absurd (never short.0)
    ]
