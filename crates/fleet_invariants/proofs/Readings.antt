-- A line that has no reason against it may be asked for, and its numbers are in the ranges of their types.
use Rattle.std.proofs.Common.{◌≡◌, ℕ, ◌<◌, ◌≤◌, Bool, true, false, not, if◌then◌else◌, nat_lt, List, [], ◌∷◌, length, codes, Option, Some, None, refl, arith}
use Rattle.std.specs.Str.{bytes_eq}
use Rattle.scenario_lines.specs.declared.faults.Reason.{Reason}
use Rattle.scenario_lines.specs.declared.lines.Line.{Line}
use Rattle.scenario_lines.specs.declared.lines.Line.TheVariants.{Blank}
use Rattle.scenario_lines.specs.Words.{words_of, word_at}
use Rattle.scenario_lines.specs.LineContext.{LineContext}
use Rattle.scenario_lines.specs.Grammar.{Form, form, Argument, Whole, Signed, Wire, A_station, A_drone, form_of, counts, arguments_at, misfit, item_words, first_reason, line_from, is_blank, most_line_bytes, whole_at, signed_at, wire_at}
use Rattle.scenario_lines.specs.Reasons.{words_reason}
use Rattle.scenario_lines.proofs.Permitted.{read_is_permitted}
use Rattle.drone_sim.specs.Laws.{PointInRange}
use Rattle.plan_ranges.specs.Ranges.{Is8, Is16, Is32}
use Rattle.fleet_invariants.specs.Kept.{LineFits}
use Rattle.fleet_invariants.specs.Laws.{EveryReadLineFits}
use Rattle.fleet_invariants.proofs.Words.{bytes_small, signed_small, wire_small, whole_within, item_in_range}

-- ---- no reason of several

no_reason : (bad : Bool) (r : Reason) (m : Option Reason) → (if bad then Some r else m) ≡ None → m ≡ None
no_reason true r m h = absurd (let wrong : ◌≡◌ {A = Option Reason} (Some r) None = h in cc)
no_reason false r m h = h

no_first : (m n : Option Reason) → first_reason m n ≡ None → m ≡ None
no_first None n h = refl
no_first (Some r) n h = absurd (let wrong : ◌≡◌ {A = Option Reason} (Some r) None = h in cc)

fits_first : (b : Bool) (r : Reason) (m : Option Reason) → (if b then m else Some r) ≡ None → (b ≡ true) × (m ≡ None)
fits_first true r m h = (refl, h)
fits_first false r m h = absurd (let wrong : ◌≡◌ {A = Option Reason} (Some r) None = h in cc)

fitted : (s : LineContext) (words : List (List ℕ)) (f : Form) → words_reason s words (Some f) ≡ None → misfit s.nodes (arguments_at f (length words)) words 1 ≡ None
fitted s words f h =
    let counted = no_reason (not (counts f (length words))) _ _ h in
    no_first _ _ counted

-- ---- by the first word

-- a form and a line that one test chooses
choose : {A B : Type 0} (P : A → B → Type 0) (b : Bool) (x y : A) (u v : B) → P x u → P y v → P (if b then x else y) (if b then u else v)
choose P true x y u v f g = f
choose P false x y u v f g = g

abbrev Fits : LineContext → List (List ℕ) → Option Form → Line → Type 0
Fits s words form line = words_reason s words form ≡ None → LineFits line

small : (n : ℕ) → n ≤ 255 → n < 256
small n h = omega arith

narrow : (n : ℕ) → n ≤ 65535 → n < 65536
narrow n h = omega arith

module _ (s : LineContext) (words : List (List ℕ)) where
  of_drone : (further : List (List Argument)) → words_reason s words (Some (record { needed = Whole 1 255 ∷ []; further = further })) ≡ None → Is8 (whole_at words 1) × PointInRange (record { x = signed_at words 2; y = signed_at words 3 })
  of_drone further h =
      let sys = fits_first _ _ _ (fitted s words (record { needed = Whole 1 255 ∷ []; further = further }) h) in
      (small (whole_at words 1) (whole_within 1 255 words 1 sys.0), record { x = signed_small words 2; y = signed_small words 3 })

  of_station : words_reason s words (form (Whole 1 255 ∷ Whole 1 255 ∷ [])) ≡ None → Is8 (whole_at words 1) × Is8 (whole_at words 2)
  of_station h =
      let sys = fits_first _ _ _ (fitted s words (record { needed = Whole 1 255 ∷ Whole 1 255 ∷ []; further = [] }) h) in
      let comp = fits_first _ _ _ sys.1 in
      (small (whole_at words 1) (whole_within 1 255 words 1 sys.0), small (whole_at words 2) (whole_within 1 255 words 2 comp.0))

  of_item : (more : List Argument) (further : List (List Argument)) → words_reason s words (Some (record { needed = Whole 0 255 ∷ Whole 0 65535 ∷ more; further = further })) ≡ None → (whole_at words 1 ≤ 255) × (whole_at words 2 ≤ 65535)
  of_item more further h =
      let frame = fits_first _ _ _ (fitted s words (record { needed = Whole 0 255 ∷ Whole 0 65535 ∷ more; further = further }) h) in
      let command = fits_first _ _ _ frame.1 in
      (whole_within 0 255 words 1 frame.0, whole_within 0 65535 words 2 command.0)

  of_items : (more : List Argument) (further : List (List Argument)) → words_reason s words (Some (record { needed = Whole 1 2000 ∷ Whole 0 255 ∷ Whole 0 65535 ∷ more; further = further })) ≡ None → (whole_at words 2 ≤ 255) × (whole_at words 3 ≤ 65535)
  of_items more further h =
      let count = fits_first _ _ _ (fitted s words (record { needed = Whole 1 2000 ∷ Whole 0 255 ∷ Whole 0 65535 ∷ more; further = further }) h) in
      let frame = fits_first _ _ _ count.1 in
      let command = fits_first _ _ _ frame.1 in
      (whole_within 0 255 words 2 frame.0, whole_within 0 65535 words 3 command.0)

  of_command : words_reason s words (form (A_station ∷ A_drone ∷ Whole 0 65535 ∷ Wire ∷ [])) ≡ None → Is16 (whole_at words 3) × Is32 (wire_at words 4)
  of_command h =
      let station = fits_first _ _ _ (fitted s words (record { needed = A_station ∷ A_drone ∷ Whole 0 65535 ∷ Wire ∷ []; further = [] }) h) in
      let drone = fits_first _ _ _ station.1 in
      let number = fits_first _ _ _ drone.1 in
      (narrow (whole_at words 3) (whole_within 0 65535 words 3 number.0), wire_small words 4)

  words_fit : words_reason s words (form_of (word_at words 0)) ≡ None → LineFits (line_from words)
  words_fit =
      let w = word_at words 0 in
      choose (Fits s words) (bytes_eq w (codes "drone")) _ _ _ _ (of_drone ((Signed ∷ Signed ∷ []) ∷ []))
      (choose (Fits s words) (bytes_eq w (codes "station")) _ _ _ _ of_station
      (choose (Fits s words) (bytes_eq w (codes "item")) _ _ _ _ (λ h. let e = of_item (Signed ∷ Signed ∷ []) item_words h in item_in_range words 1 e.0 e.1)
      (choose (Fits s words) (bytes_eq w (codes "items")) _ _ _ _ (λ h. let e = of_items (Signed ∷ Signed ∷ []) item_words h in item_in_range words 2 e.0 e.1)
      (choose (Fits s words) (bytes_eq w (codes "empty")) _ _ _ _ (λ h. tt)
      (choose (Fits s words) (bytes_eq w (codes "begin")) _ _ _ _ (λ h. tt)
      (choose (Fits s words) (bytes_eq w (codes "cancel")) _ _ _ _ (λ h. tt)
      (choose (Fits s words) (bytes_eq w (codes "clear")) _ _ _ _ (λ h. tt)
      (choose (Fits s words) (bytes_eq w (codes "get")) _ _ _ _ (λ h. tt)
      (choose (Fits s words) (bytes_eq w (codes "command")) _ _ _ _ of_command
      (choose (Fits s words) (bytes_eq w (codes "params")) _ _ _ _ (λ h. tt)
      (choose (Fits s words) (bytes_eq w (codes "heartbeat")) _ _ _ _ (λ h. tt)
      (choose (Fits s words) (bytes_eq w (codes "deliver")) _ _ _ _ (λ h. tt)
      (choose (Fits s words) (bytes_eq w (codes "flow")) _ _ _ _ (λ h. tt)
      (choose (Fits s words) (bytes_eq w (codes "noise")) _ _ _ _ (λ h. bytes_small words 2)
      (choose (Fits s words) (bytes_eq w (codes "tick")) _ _ _ _ (λ h. tt)
      (choose (Fits s words) (bytes_eq w (codes "clock")) _ _ _ _ (λ h. tt)
      (choose (Fits s words) (bytes_eq w (codes "restart")) _ _ _ _ (λ h. tt)
      (choose (Fits s words) (bytes_eq w (codes "sim")) _ _ _ _ (λ h. tt)
      (choose (Fits s words) (bytes_eq w (codes "where")) _ _ _ _ (λ h. tt)
      (λ h. tt))))))))))))))))))))

text_fits : (s : LineContext) (text : List ℕ) (blank : Bool) → (if blank then None else words_reason s (words_of text) (form_of (word_at (words_of text) 0))) ≡ None → LineFits (if blank then Blank else line_from (words_of text))
text_fits s text true h = tt
text_fits s text false h = words_fit s (words_of text) h

pub read_fits : EveryReadLineFits
read_fits s text h =
    (read_is_permitted s text h, text_fits s text (is_blank text) (no_reason (nat_lt most_line_bytes (length text)) _ _ h))
