-- A datagram, frame by frame: what was heard so far, and the frames of the bytes that are left.
use Rattle.std.proofs.Common.{Bool, false, ◌≡◌, ℕ, ◌<◌, List, [], ◌∷◌, ◌++◌, length, Option, refl, sym, ap, ◌∙◌, subst, arith, append_assoc}
use Rattle.std.specs.Prelude.{All}
use Rattle.std.proofs.lemmas.List.{append-nil}
use Rattle.mav_names.specs.declared.names.Stream.{Stream}
use Rattle.plan_items.specs.declared.messages.PlanMsg.{PlanMsg}
use Rattle.mav_frame.specs.Packet.{Packet}
use Rattle.mav_frame.specs.Parse.{EventAt}
use Rattle.mav_frame.specs.FinalParse.{final_parse}
use Rattle.mav_frame.specs.declared.events.Event.{Event}
use Rattle.mav_frame.specs.declared.events.Event.TheVariants.{Frame, Skipped}
use Rattle.mav_frame.specs.declared.looks.Why.{Why}
use Rattle.mav_frame.proofs.ParsedByFunction.{parse_goes_on}
use Rattle.mav_sign.specs.Endpoints.{frames_of}
use Rattle.mav_nodes.specs.declared.news.News.{News}
use Rattle.mav_nodes.specs.Links.{LinkView}
use Rattle.mav_nodes.specs.Stores.{GivenUp, IsKept, AllKept}
use Rattle.mav_nodes.specs.Steps.{Side, Rules, CoreStep, hears, hears_keeping, receives_keeping, IsNode}
use Rattle.mav_nodes.specs.Promises.{NodeDidKeeping, Did, SpentKeeping, AtFrame, GivenUpIn}
use Rattle.mav_nodes.proofs.Parts.{Heard, heard_at_first, heard_on, heard_to_none, heard_given, heard_whole}

nothing : (left : List ℕ) → length left ≡ 0 → left ≡ []
nothing [] e = refl
nothing (x ∷ xs) e = absurd (omega arith)

module _ {Core Services : Type 0} (rules : Bool → Rules Core Services) (clock : ℕ) where
  -- the frames before the bytes that are left were heard
  pub record HeardTo (start : Side Core Services) (bytes left : List ℕ) (Is : Side Core Services → Type 0) (failed : Type 0) (news : List News) : Type 0 where
    pub packets : List Packet
    pub heard : Heard rules clock start packets Is failed news
    pub are : frames_of (final_parse start.link.extras false bytes) ≡ packets ++ frames_of (final_parse start.link.extras false left)

  pub to_first : (start : Side Core Services) (bytes : List ℕ) (Is : Side Core Services → Type 0) (failed : Type 0) (news : List News) → news ≡ [] → Is start → HeardTo start bytes bytes Is failed news
  to_first start bytes Is failed news none is = record {
    packets = [];
    heard = heard_at_first rules clock start Is failed news none is;
    are = refl;
  }

  -- a skipped byte
  pub to_past : (start : Side Core Services) (bytes left rest : List ℕ) (Is : Side Core Services → Type 0) (failed : Type 0) (news : List News) (byte : ℕ) (why : Why) → HeardTo start bytes left Is failed news → All (λ x. x < 256) left → All (λ x. x < 256) rest → EventAt start.link.extras false (Skipped byte why) left rest → HeardTo start bytes rest Is failed news
  to_past start bytes left rest Is failed news byte why l small more at = record {
    packets = l.packets;
    heard = l.heard;
    are = l.are ∙ ap (λ (events : List Event). l.packets ++ frames_of events) (parse_goes_on start.link.extras false (Skipped byte why) left rest small more at);
  }

  -- with a frame that comes next
  with_frame : (start : Side Core Services) (bytes left rest : List ℕ) (Is : Side Core Services → Type 0) (failed : Type 0) (news : List News) (packet : Packet) → (l : HeardTo start bytes left Is failed news) → All (λ x. x < 256) left → All (λ x. x < 256) rest → EventAt start.link.extras false (Frame packet) left rest
      → frames_of (final_parse start.link.extras false bytes) ≡ (l.packets ++ packet ∷ []) ++ frames_of (final_parse start.link.extras false rest)
  with_frame start bytes left rest Is failed news packet l small more at =
      l.are
      ∙ (ap (λ (events : List Event). l.packets ++ frames_of events) (parse_goes_on start.link.extras false (Frame packet) left rest small more at)
      ∙ sym (append_assoc l.packets (packet ∷ []) (frames_of (final_parse start.link.extras false rest))))

  -- it is heard
  pub to_on : (start : Side Core Services) (bytes left rest : List ℕ) (Is Now : Side Core Services → Type 0) (failed now_failed : Type 0) (news after : List News) (packet : Packet) (kept : Bool) → (l : HeardTo start bytes left Is failed news) → All (λ x. x < 256) left → All (λ x. x < 256) rest → EventAt start.link.extras false (Frame packet) left rest
      → (failed → now_failed) → IsKept kept now_failed → Did (hears (rules kept) clock packet l.heard.node) Now news after → HeardTo start bytes rest Now now_failed after
  to_on start bytes left rest Is Now failed now_failed news after packet kept l small more at f is_kept did = record {
    packets = l.packets ++ packet ∷ [];
    heard = heard_on rules clock start l.packets Is Now failed now_failed news after packet kept l.heard f is_kept did;
    are = with_frame start bytes left rest Is failed news packet l small more at;
  }

  -- its reply has no timestamp left
  pub to_none : (start : Side Core Services) (bytes left rest : List ℕ) (Is : Side Core Services → Type 0) (failed here_failed now_failed : Type 0) (news : List News) (packet : Packet) → (l : HeardTo start bytes left Is failed news) → All (λ x. x < 256) left → All (λ x. x < 256) rest → EventAt start.link.extras false (Frame packet) left rest
      → (failed → now_failed) → (here_failed → now_failed) → SpentKeeping (λ kept. IsKept kept here_failed) (λ kept. hears (rules kept) clock packet l.heard.node) → SpentKeeping (AllKept now_failed) (λ keeps. receives_keeping rules clock keeps bytes start)
  to_none start bytes left rest Is failed here_failed now_failed news packet l small more at f g spent =
      subst (λ (packets : List Packet). SpentKeeping (AllKept now_failed) (λ keeps. hears_keeping rules clock keeps packets start)) (sym (with_frame start bytes left rest Is failed news packet l small more at))
      (heard_to_none rules clock start l.packets (frames_of (final_parse start.link.extras false rest)) Is failed here_failed now_failed news packet l.heard f g spent)

  -- the node is given up at it
  pub to_given : (taken : Bool → Core → Stream → PlanMsg → CoreStep Core) (stored : Core → ℕ → List ℕ → Type 0) (contents : Option (List ℕ)) (start : Side Core Services) (bytes left rest : List ℕ) (end : LinkView) (view : Core) (services : Services) (failed now_failed : Type 0) (news : List News) (packet : Packet)
      → (l : HeardTo start bytes left (λ n. IsNode n end view services) failed news) → All (λ x. x < 256) left → All (λ x. x < 256) rest → EventAt start.link.extras false (Frame packet) left rest
      → (failed → now_failed) → GivenUp contents stored end.low (AtFrame taken l.heard.node.link packet view) → GivenUpIn taken stored rules clock (AllKept now_failed) contents (frames_of (final_parse start.link.extras false bytes)) start
  to_given taken stored contents start bytes left rest end view services failed now_failed news packet l small more at f given =
      heard_given rules clock taken stored contents start l.packets (frames_of (final_parse start.link.extras false rest)) (frames_of (final_parse start.link.extras false bytes)) end view services failed now_failed news packet l.heard (with_frame start bytes left rest (λ n. IsNode n end view services) failed news packet l small more at) f given

  -- nothing is left
  pub to_end : (start : Side Core Services) (bytes left : List ℕ) (end : LinkView) (view : Core) (services : Services) (failed : Type 0) (news : List News) → length left ≡ 0 → HeardTo start bytes left (λ n. IsNode n end view services) failed news → NodeDidKeeping (λ (keeps : List Bool). receives_keeping rules clock keeps bytes start) (AllKept failed) end view services news
  to_end start bytes left end view services failed news empty l =
      let all : frames_of (final_parse start.link.extras false bytes) ≡ l.packets = l.are ∙ (ap (λ (b : List ℕ). l.packets ++ frames_of (final_parse start.link.extras false b)) (nothing left empty) ∙ append-nil l.packets) in
      record {
        keeps = l.heard.keeps ++ [];
        is_kept = subst (AllKept failed) (sym (append-nil l.heard.keeps)) l.heard.is_kept;
        did = subst (λ (packets : List Packet). Did (hears_keeping rules clock (l.heard.keeps ++ []) packets start) (λ n. IsNode n end view services) [] news) (sym all)
            (heard_whole rules clock start l.packets (λ n. IsNode n end view services) failed news l.heard);
      }
