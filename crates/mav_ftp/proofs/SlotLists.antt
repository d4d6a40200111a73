-- Sessions by their numbers.
use Rattle.std.proofs.Common.{◌≡◌, ◌≤◌, ◌<◌, ℕ, true, false, List, length, Option, Some, None, Result, Ok, Err, refl, ap, ◌∙◌, get_or}
use Rattle.std.specs.Prelude.{OnOk, IfSome}
use Rattle.std.proofs.Math.ListN.{set}
use Rattle.std.proofs.lemmas.Option.{slice_get-get_or, slice_get_past}
use Rattle.mav_names.specs.declared.names.Stream.{Stream}
use Rattle.mav_names.specs.Addresses.{same_stream}
use Rattle.mav_ftp.specs.Sessions.{Session, session_of, if_of}

pub session_past : (slots : List (Option Session)) (from : Stream) (k : ℕ) → length slots ≤ k → session_of slots from k ≡ None
session_past slots from k past = rw (slice_get_past slots k past) refl

-- what is in a slot decides
pub session_in : (slots : List (Option Session)) (from : Stream) (k : ℕ) (d slot : Option Session) → k < length slots → get_or slots k d ≡ slot
    → session_of slots from k ≡ if_of from slot
session_in slots from k d slot inside is = rw (slice_get-get_or slots k d inside, is) refl

pub session_found : (slots : List (Option Session)) (from : Stream) (k : ℕ) (d : Option Session) (s : Session) → k < length slots → get_or slots k d ≡ Some s
    → same_stream s.stream from ≡ true → session_of slots from k ≡ Some s
session_found slots from k d s inside is same = rw (session_in slots from k d (Some s) inside is, same) refl

pub session_of_other : (slots : List (Option Session)) (from : Stream) (k : ℕ) (d : Option Session) (s : Session) → k < length slots → get_or slots k d ≡ Some s
    → same_stream s.stream from ≡ false → session_of slots from k ≡ None
session_of_other slots from k d s inside is other = rw (session_in slots from k d (Some s) inside is, other) refl

-- bytes are written into the session that was found, and without one nothing is said
pub put_found : {E : Type 0} (result inner : Result (Unit {0}) E) (found : Option Session) (s new : Session) (before after : List (Option Session)) (k : ℕ) (change : Session → Session)
    → result ≡ inner → found ≡ Some s → after ≡ set before k (Some new) → OnOk inner (new ≡ change s)
    → OnOk result (IfSome found (λ s. after ≡ set before k (Some (change s))))
put_found (Ok x) inner found s new before after k change same is stored changed =
    let is-changed : new ≡ change s = rw (← same) at changed in
    rw is (stored ∙ ap (λ n. set before k (Some n)) is-changed)
put_found (Err e) inner found s new before after k change same is stored changed = tt

pub put_nothing : {E : Type 0} (result : Result (Unit {0}) E) (found : Option Session) (P : Session → Type 0) → found ≡ None → OnOk result (IfSome found P)
put_nothing (Ok x) found P none = rw none tt
put_nothing (Err e) found P none = tt
