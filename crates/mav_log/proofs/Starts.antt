-- What a command holds before the first byte.
use Rattle.std.proofs.Common.{◌≡◌, ◌<◌, ◌+◌, ◌*◌, ℕ, true, false, List, [], length, refl, sym, subst, arith, lit≤}
use Rattle.field_layout.specs.Definition.{Definition}
use Rattle.mav_profile.specs.Messages.{extras_of}
use Rattle.mav_stream.specs.Held.{nothing_held}
use Rattle.mav_stream.proofs.Steps.{begun}
use Rattle.log_rows.specs.Progress.{no_bytes_held}
use Rattle.log_rows.proofs.LogSteps.{log_begun}
use Rattle.mav_log.specs.Tellers.{Showing, HasShown, shown_load, Filtering, HasKept, Making, HasMade}

module _ (known : List Definition) where
  -- log show
  abbrev pub show_start : Showing
  show_start = record { known = known; reader = no_bytes_held (extras_of known); offset = 0; rows = 0; skipped = 0 }

  pub show_new : (s : Showing) → s ≡ show_start → HasShown s false [] []
  show_new s is =
      subst (λ (z : Showing). HasShown z false [] []) (sym is)
      (record { given = []; is_ended = refl; progress = log_begun (extras_of known); offset = refl; rows = refl; skipped = refl; lines = refl })

  pub show_room : (s : Showing) → s ≡ show_start → length s.reader.bytes < 288
  show_room s is = subst (λ (z : Showing). length z.reader.bytes < 288) (sym is) (lit≤ tt)

  pub show_load : (s : Showing) → s ≡ show_start → shown_load s ≡ 0
  show_load s is = subst (λ (z : Showing). shown_load z ≡ 0) (sym is) refl

  -- log filter
  module _ (sys : ℕ) where
    abbrev pub filter_start : Filtering
    filter_start = record { known = known; sys = sys; reader = no_bytes_held (extras_of known) }

    pub filter_new : (f : Filtering) → f ≡ filter_start → HasKept f false [] []
    filter_new f is =
        subst (λ (z : Filtering). HasKept z false [] []) (sym is)
        (record { given = []; is_ended = refl; progress = log_begun (extras_of known); kept = refl })

    pub filter_room : (f : Filtering) → f ≡ filter_start → length f.reader.bytes < 288
    filter_room f is = subst (λ (z : Filtering). length z.reader.bytes < 288) (sym is) (lit≤ tt)

  -- log make
  module _ (start : ℕ) where
    abbrev pub make_start : Making
    make_start = record { known = known; start = start; reader = nothing_held (extras_of known) true; rows = 0 }

    pub make_new : (m : Making) → m ≡ make_start → HasMade m false [] []
    make_new m is =
        subst (λ (z : Making). HasMade z false [] []) (sym is)
        (record { given = []; is_ended = refl; progress = begun (extras_of known) true; rows = omega arith; made = refl })

    pub make_room : (m : Making) → m ≡ make_start → length m.reader.bytes < 288
    make_room m is = subst (λ (z : Making). length z.reader.bytes < 288) (sym is) (lit≤ tt)

    pub make_load : (m : Making) → m ≡ make_start → m.rows + 3 * length m.reader.bytes ≡ 0
    make_load m is = subst (λ (z : Making). z.rows + 3 * length z.reader.bytes ≡ 0) (sym is) refl
