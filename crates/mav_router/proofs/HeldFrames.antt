-- Frames in one list of bytes, which grows.
use Rattle.std.proofs.Common.{◌≡◌, ℕ, ◌+◌, ◌-◌, ◌≤◌, List, [], ◌∷◌, ◌++◌, All, length, map, get_or, take, drop, slice_range, slice_get, Some, refl, sym, ap, ◌∙◌, subst, arith, length-append, length-drop}
use Rattle.std.proofs.lemmas.List.{map-append, take-append-le, drop-append-le, take_all}
use Rattle.std.proofs.lemmas.List.Elements.{All-append, All-cons, All-drop, All-head}
use Rattle.mav_frame.specs.Packet.{Packet}
use Rattle.mav_frame.specs.Raw.{IsFrame, packet_in}
use Rattle.mav_router.specs.declared.spans.Span.{Span}
use Rattle.mav_router.specs.Spans.{packet_of, Holds, after_bytes, Appends}

range_stays : (bytes more : List ℕ) (start end : ℕ) → start ≤ end → end ≤ length bytes → slice_range (bytes ++ more) start end ≡ slice_range bytes start end
range_stays bytes more start end order within =
    let low : start ≤ length bytes = omega arith in
    let fits : end - start ≤ length (drop start bytes) = omega (arith, length-drop start bytes) in
    ap (take (end - start)) (drop-append-le start bytes more low) ∙ take-append-le (end - start) (drop start bytes) more fits

drop_whole : (bytes : List ℕ) → drop (length bytes) bytes ≡ []
drop_whole [] = refl
drop_whole (byte ∷ bytes) = drop_whole bytes

last_range : (bytes more : List ℕ) → slice_range (bytes ++ more) (length bytes) (length bytes + length more) ≡ more
last_range bytes more =
    let size : length bytes + length more - length bytes ≡ length more = omega arith in
    let rest : drop (length bytes) (bytes ++ more) ≡ more = drop-append-le (length bytes) bytes more (omega arith) ∙ ap (λ (l : List ℕ). l ++ more) (drop_whole bytes) in
    (λ i. take (size i) (rest i)) ∙ take_all (length more) more (omega arith)

packet_stays : (bytes more : List ℕ) (span : Span) → Holds bytes span → packet_of (bytes ++ more) span ≡ packet_of bytes span
packet_stays bytes more span h = ap packet_in (range_stays bytes more span.start span.end h.order h.within)

holds_more : (bytes more : List ℕ) (span : Span) → Holds bytes span → Holds (bytes ++ more) span
holds_more bytes more span h = record {
  order = h.order;
  within = omega (arith, h.within, length-append bytes more);
  frame = subst IsFrame (sym (range_stays bytes more span.start span.end h.order h.within)) h.frame;
  short = (let same = ap length (range_stays bytes more span.start span.end h.order h.within) in omega (arith, same, h.short));
}

within_all : (before more after : List ℕ) (span : Span) → after ≡ before ++ more → span ≡ after_bytes before more → span.end ≤ length after
within_all before more after span goes at =
    let end : span.end ≡ length before + length more = ap (λ (s : Span). s.end) at in
    let long : length after ≡ length (before ++ more) = ap length goes in
    omega (arith, end, long, length-append before more)

-- the frame that was appended
appended_holds : (before after : List ℕ) (span : Span) (packet : Packet) → Appends before after span packet → Holds after span × (packet_of after span ≡ packet)
appended_holds before after span packet a =
    let last = last_range before a.more in
    let at : slice_range after span.start span.end ≡ a.more = (λ i. slice_range (a.goes i) (a.span_is i).start (a.span_is i).end) ∙ last in (
      record {
        order = subst (λ (s : Span). s.start ≤ s.end) (sym a.span_is) (omega arith);
        within = within_all before a.more after span a.goes a.span_is;
        frame = subst IsFrame (sym at) a.frame;
        short = (let size = ap length at in omega (arith, size, a.short));
      },
      ap packet_in at ∙ a.packet_is,
    )

-- the last of some values
pub get_end : {A : Type 0} (before : List A) (last : A) → slice_get (before ++ last ∷ []) (length before) ≡ Some last
get_end [] last = refl
get_end (b ∷ bs) last = get_end bs last

-- values that each have a frame in the bytes
module _ {H E : Type 0} (span_of : H → Span) (make : H → Packet → E) where
  abbrev frames_in : List ℕ → List H → List E
  frames_in bytes heads = map (λ (h : H). make h (packet_of bytes (span_of h))) heads

  abbrev each_holds : List ℕ → List H → Type 0
  each_holds bytes heads = All (λ (h : H). Holds bytes (span_of h)) heads

  stay : (bytes more : List ℕ) (heads : List H) → each_holds bytes heads → frames_in (bytes ++ more) heads ≡ frames_in bytes heads
  stay bytes more [] all = refl
  stay bytes more (h ∷ hs) all =
      λ i. make h (packet_stays bytes more (span_of h) (All-head (λ (x : H). Holds bytes (span_of x)) h hs all) i) ∷ stay bytes more hs (All-drop (λ (x : H). Holds bytes (span_of x)) 1 (h ∷ hs) all) i

  all_more : (bytes more : List ℕ) (heads : List H) → each_holds bytes heads → each_holds (bytes ++ more) heads
  all_more bytes more heads all k d less = holds_more bytes more (span_of (get_or heads k d)) (all k d less)

  -- a frame more
  pub pushed : (before after : List ℕ) (span : Span) (packet : Packet) (heads : List H) (head : H) → Appends before after span packet → span_of head ≡ span → each_holds before heads → frames_in after (heads ++ head ∷ []) ≡ frames_in before heads ++ make head packet ∷ []
  pushed before after span packet heads head a at all =
      let last = (appended_holds before after span packet a).1 in
      map-append (λ (h : H). make h (packet_of after (span_of h))) heads (head ∷ [])
      ∙ ((λ i. frames_in (a.goes i) heads ++ make head (packet_of after (at i)) ∷ [])
      ∙ (λ i. stay before a.more heads all i ++ make head (last i) ∷ []))

  pub all_pushed : (before after : List ℕ) (span : Span) (packet : Packet) (heads : List H) (head : H) → Appends before after span packet → span_of head ≡ span → each_holds before heads → each_holds after (heads ++ head ∷ [])
  all_pushed before after span packet heads head a at all =
      let first = subst (λ (b : List ℕ). each_holds b heads) (sym a.goes) (all_more before a.more heads all) in
      let last : Holds after (span_of head) = subst (Holds after) (sym at) (appended_holds before after span packet a).0 in
      All-append (λ (h : H). Holds after (span_of h)) heads (head ∷ []) first
      (All-cons (λ (h : H). Holds after (span_of h)) head [] last (λ k d less. absurd (omega (arith, less))))
