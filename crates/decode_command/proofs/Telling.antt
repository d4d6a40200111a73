-- What was told is sent, or a prefix of it.
use Rattle.std.proofs.Common.{◌≡◌, ℕ, Bool, true, false, List, [], ◌++◌, sym, ap, ◌∙◌, subst, append_assoc, Option, Err}
use Rattle.std.specs.Io.KnownBytes.{append_known}
use Rattle.mav_ports.specs.Puts.{Sent, SentPrefix}
use Rattle.mav_ports.proofs.Known.{sent_all, sent_start}
use Rattle.mav_stream.specs.declared.spans.NextSpan.{NextSpan}
use Rattle.decode_command.specs.Tellings.{Telling, Leads, TellsSpan, Tells, ToldAll}
use Rattle.decode_command.proofs.Loads.{same_load}

-- a prefix of a text is one of a longer text
pub longer_front : (before now : Option (List ℕ)) (text more whole : List ℕ) → whole ≡ text ++ more → SentPrefix before now text → SentPrefix before now whole
longer_front before now text more whole e (rest, s) = (
  rest ++ more,
  record {
    part = s.part;
    whole = sym (append_assoc s.part rest more) ∙ (ap (λ (t : List ℕ). t ++ more) s.whole ∙ sym e);
    appended = s.appended;
  },
)

-- more text is held
pub sent_held : (before now : Option (List ℕ)) (told held more : List ℕ) → Sent before now told held → Sent before now (told ++ more) (held ++ more)
sent_held before now told held more s = record {
  part = s.part;
  whole = sym (append_assoc s.part held more) ∙ ap (λ (text : List ℕ). text ++ more) s.whole;
  appended = s.appended;
}

-- there was no memory for the text of what comes next
pub untold : {S E : Type 0} (telling : S → Telling) (has_told : S → Bool → List ℕ → List ℕ → Type 0) (held load : S → ℕ) (span : NextSpan) (old new : S) (text longer : List ℕ) (fault : E) → new ≡ old → TellsSpan telling has_told held load span old new text longer (Err fault)
untold telling has_told held load span old new text longer fault is = record {
  same = ap telling is;
  load = same_load _ _ (ap load is);
  told = λ ended taken told h. tt;
  fewer = tt;
}

module _ (ended : Bool) (taken : List ℕ) (before : Option (List ℕ)) where
  -- the next event was told
  abbrev pub tells_more : (has also : Bool → List ℕ → List ℕ → Type 0) (text longer : List ℕ) (now : Option (List ℕ)) (h : Tells has ended taken text before now) → (more : List ℕ) × (longer ≡ text ++ more) × also ended taken (h.told ++ more) → Tells also ended taken longer before now
  tells_more has also text longer now h (more, e, there) = record {
    told = h.told ++ more;
    has = there;
    sent = subst (λ (held : List ℕ). Sent before now (h.told ++ more) held) (sym e) (sent_held before now h.told text more h.sent);
  }

  -- what is held was written
  abbrev pub tells_written : (has : Bool → List ℕ → List ℕ → Type 0) (text held : List ℕ) (now after : Option (List ℕ)) → Tells has ended taken text before now → ((first : Option (List ℕ)) (whole : List ℕ) → Sent first now whole text → Sent first after whole held) → Tells has ended taken held before after
  tells_written has text held now after h moved = record { told = h.told; has = h.has; sent = moved before h.told h.sent }

  -- or a prefix of it
  pub tells_cut : (t same : Telling) (has : Bool → List ℕ → List ℕ → Type 0) (text : List ℕ) (now after : Option (List ℕ)) → same ≡ t → ((told : List ℕ) → has ended taken told → Leads same ended taken told) → Tells has ended taken text before now → ((first : Option (List ℕ)) (whole : List ℕ) → Sent first now whole text → SentPrefix first after whole) → SentPrefix before after (t.told ended taken)
  tells_cut t same has text now after is leads h front =
      let lead = leads h.told h.has in
      longer_front before after h.told lead.0 (t.told ended taken) (sym (ap (λ (z : Telling). z.told ended taken) is) ∙ lead.1) (front before h.told h.sent)

  -- nothing more was sent
  pub tells_front : (t same : Telling) (has : Bool → List ℕ → List ℕ → Type 0) (text : List ℕ) (now : Option (List ℕ)) → same ≡ t → ((told : List ℕ) → has ended taken told → Leads same ended taken told) → Tells has ended taken text before now → SentPrefix before now (t.told ended taken)
  tells_front t same has text now is leads h = tells_cut t same has text now now is leads h (λ first whole s. (text, s))

  -- all of it was told
  pub told_all : (t same : Telling) (has : Bool → List ℕ → List ℕ → Type 0) (text : List ℕ) (now : Option (List ℕ)) → same ≡ t → (h : Tells has ended taken text before now) → h.told ≡ same.told ended taken → ToldAll t has ended taken text before now
  told_all t same has text now is h all = record { tells = h; all = all ∙ ap (λ (z : Telling). z.told ended taken) is }

-- all that was told was sent
pub all_sent : (t : Telling) (has : Bool → List ℕ → List ℕ → Type 0) (ended : Bool) (taken text : List ℕ) (before now : Option (List ℕ)) → ToldAll t has ended taken text before now → text ≡ [] → now ≡ append_known before (t.told ended taken)
all_sent t has ended taken text before now all empty =
    sent_all before now all.tells.told (subst (λ (held : List ℕ). Sent before now all.tells.told held) empty all.tells.sent) ∙ ap (append_known before) all.all

-- before the first byte
pub start_sent : (t : Telling) (has : Bool → List ℕ → List ℕ → Type 0) (text : List ℕ) (now : Option (List ℕ)) → has false [] [] → t.told false [] ≡ [] → text ≡ [] → ToldAll t has false [] text now now
start_sent t has text now new nothing empty = record {
  tells = record { told = []; has = new; sent = subst (λ (held : List ℕ). Sent now now [] held) (sym empty) (sent_start now []) };
  all = sym nothing;
}

-- what comes behind it is held too
pub closed : (t : Telling) (taken told text longer closing : List ℕ) (before now : Option (List ℕ)) → Sent before now told text → told ≡ t.told true taken → longer ≡ text ++ closing → closing ≡ t.closing taken → Sent before now (t.told true taken ++ t.closing taken) longer
closed t taken told text longer closing before now s all e last =
    subst (λ (z : List ℕ × List ℕ). Sent before now z.0 z.1) (λ i. (all i ++ last i, sym e i)) (sent_held before now told text closing s)
