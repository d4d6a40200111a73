-- The low bound of timestamps that a drone keeps in its store: it is raised before a later timestamp is admitted or
-- sent, so that none at or below it needs to be admitted, or is sent, once the drone has started again.
use Rattle.std.specs.Prelude.{ℕ, ◌+◌, nat_lt, min, max, if◌then◌else◌, List, fold, Option, Some, None, unwrap_or}
use Rattle.mav_frame.specs.Packet.{SignatureBlock}
use Rattle.mav_sign.specs.declared.admission.Admit.{Admit}
use Rattle.mav_sign.specs.declared.admission.Admit.TheVariants.{Admitted}
use Rattle.mav_sign.specs.History.{Entry, tried, sent, started, greatest_stamp}

-- so far above a timestamp it is raised, in units of 10 microseconds
abbrev pub headroom : ℕ
headroom = 5000

-- the bound for a later timestamp
abbrev pub bound_for : ℕ → ℕ
bound_for stamp = min (stamp + headroom) greatest_stamp

-- the bound once a timestamp is admitted or sent; None if none is stored yet, which counts as 0
abbrev pub raised : Option ℕ → ℕ → Option ℕ
raised low stamp = if nat_lt (unwrap_or low 0) stamp then Some (bound_for stamp) else low

abbrev pub raised_for : Option ℕ → Option ℕ → Option ℕ
raised_for low None = low
raised_for low (Some stamp) = raised low stamp

-- by an admitted frame's signature block
abbrev pub raised_by : Option ℕ → Option SignatureBlock → Option ℕ
raised_by low None = low
raised_by low (Some block) = raised low block.stamp

abbrev pub raised_if : Option ℕ → Admit → Option SignatureBlock → Option ℕ
raised_if low Admitted block = raised_by low block
raised_if low _ block = low

abbrev pub raised_at : Option ℕ → Entry → Option ℕ
raised_at low (tried packet answer) = raised_if low answer packet.block
raised_at low (sent stamp) = raised low stamp
raised_at low (started bound) = Some (max (unwrap_or low 0) bound)

-- the bound that is stored after a history
abbrev pub stored_low : List Entry → Option ℕ
stored_low history = fold raised_at None history
