-- The frames that were found at a port and judged, until the switch takes them.
use Rattle.std.specs.Prelude.{ℕ, ◌≡◌, ◌<◌, ◌==◌, List, [], ◌∷◌, ◌++◌, length, map, take, OnOk, OnErr}
use Rattle.std.specs.declared.result.Result.{Result}
use Rattle.turnstile.specs.Labels.{EachPasses}
use Rattle.mav_frame.specs.Packet.{Packet}
use Rattle.mav_sign.specs.Signing.{verified}
use Rattle.mav_router.specs.declared.entries.Entry.{Entry}
use Rattle.mav_router.specs.declared.judging.Judgement.{Judgement}
use Rattle.mav_router.specs.Journal.{Rules, target_by, frames_from}

-- a frame with its judgement
pub record Judged : Type 0 where
  pub frame : Packet
  pub judgement : Judgement

-- the judgement of a frame is that of these rules
pub record IsJudged (rules : Rules) (judged : Judged) : Type 0 where
  pub verifies : judged.judgement.verifies ≡ verified rules.key judged.frame judged.frame.block
  pub target : judged.judgement.target ≡ target_by rules judged.frame

-- a frame more was found, and judged by these rules
pub record KeepsFound (rules : Rules) (packet : Packet) (before after : List Judged) : Type 0 where
  pub judged : Judged
  pub frame : judged.frame ≡ packet
  pub right : IsJudged rules judged
  pub kept : after ≡ before ++ judged ∷ []

abbrev pub packets_of : List Judged → List Packet
packets_of frames = map (λ (judged : Judged). judged.frame) frames

-- a journal went on by entries of a port with these frames
pub record Keeps (port : ℕ) (before after : List Entry) (frames : List Packet) : Type 0 where
  pub more : List Entry
  pub goes : after ≡ before ++ more
  pub ports : EachPasses (λ (entry : Entry). entry.port == port) more
  pub took : map (λ (entry : Entry). entry.frame) more ≡ frames

-- a switch kept entries of a port with so many of these frames: with all of them, or at a fault with fewer
pub record Admits {A E : Type 0} (result : Result A E) (port : ℕ) (before after : List Entry)
    (frames : List Packet) : Type 0 where
  pub count : ℕ
  pub kept : Keeps port before after (take count frames)
  pub all : OnOk result (count ≡ length frames)
  pub some : OnErr result (count < length frames)

-- of a port's entries: those after it are those before it and so many of these frames
pub record Takes {A E : Type 0} (result : Result A E) (port : ℕ) (before after : List Entry)
    (frames : List Packet) : Type 0 where
  pub count : ℕ
  pub took : frames_from port after ≡ frames_from port before ++ take count frames
  pub all : OnOk result (count ≡ length frames)
  pub some : OnErr result (count < length frames)
