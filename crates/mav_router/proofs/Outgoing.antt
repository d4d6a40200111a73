-- What goes out at a port, run by run.
use Rattle.std.proofs.Common.{◌≡◌, ◌∙◌, ◌≤◌, ◌+◌, ◌-◌, ℕ, Bool, true, false, List, [], ◌∷◌, ◌++◌, length, take, drop, slice_range, slice_get, option_map, Some, refl, ap, sym, subst, arith, append_assoc, take-add, length-append}
use Rattle.std.proofs.lemmas.List.Concat.{flat_map-append}
use Rattle.std.proofs.lemmas.List.{append-nil, drop-drop}
use Rattle.std.proofs.lemmas.Option.{get_or_from_slice_get, slice_get-map, slice_get_within}
use Rattle.mav_links.specs.Links.{LinkState}
use Rattle.link_table.specs.Routing.{has_port}
use Rattle.mav_frame.specs.Packet.{Packet}
use Rattle.mav_router.specs.declared.entries.Entry.{Entry}
use Rattle.mav_router.specs.declared.lane.Lane.{Lane}
use Rattle.mav_router.specs.declared.page.Head.{Head}
use Rattle.mav_router.specs.declared.spans.Span.{Span}
use Rattle.mav_frame.specs.Encoding.{encoding}
use Rattle.mav_router.specs.Journal.{bytes_of, frames_to}
use Rattle.mav_router.specs.Outgoing.{Continues, GivenBut, IsRun, Joins, KeepsInput, LooksOn, SpansRun, Writes}
use Rattle.mav_router.specs.PageState.{PageState}
use Rattle.mav_router.specs.Pages.{StandsIn}
use Rattle.mav_router.specs.Runs.{Output}
use Rattle.mav_router.specs.Spans.{AreHeld, Holds, entries_of, entry_of, packet_of}
use Rattle.mav_router.proofs.Journals.{passed_over, taken_next}
use Rattle.mav_router.proofs.Pages.{frames_within}
use Rattle.mav_router.proofs.PortSteps.{continues_by, continues_not}

-- ---- heads and their entries

entry_there : (bytes : List ℕ) (heads : List Head) (k : ℕ) (head : Head) → slice_get heads k ≡ Some head → slice_get (entries_of bytes heads) k ≡ Some (entry_of bytes head)
entry_there bytes heads k head there = slice_get-map (entry_of bytes) heads k ∙ ap (option_map (entry_of bytes)) there

goes_out : (port : ℕ) (bytes : List ℕ) (heads : List Head) (k : ℕ) (head : Head) → slice_get heads k ≡ Some head → has_port head.outcome.ways port ≡ true → frames_to port (take (k + 1) (entries_of bytes heads)) ≡ frames_to port (take k (entries_of bytes heads)) ++ packet_of bytes head.span ∷ []
goes_out port bytes heads k head there goes =
    let entries = entries_of bytes heads in
    let entry = entry_of bytes head in
    let at = entry_there bytes heads k head there in
    let is = get_or_from_slice_get entries k entry entry at in
    taken_next port k entries entry (slice_get_within entries k entry at) (ap (λ (e : Entry). has_port e.ways port) is ∙ goes)
    ∙ ap (λ (e : Entry). frames_to port (take k entries) ++ e.frame ∷ []) is

pub stays_here : (port : ℕ) (bytes : List ℕ) (heads : List Head) (k : ℕ) (head : Head) → slice_get heads k ≡ Some head → has_port head.outcome.ways port ≡ false → frames_to port (take (k + 1) (entries_of bytes heads)) ≡ frames_to port (take k (entries_of bytes heads))
stays_here port bytes heads k head there stays =
    let entries = entries_of bytes heads in
    let entry = entry_of bytes head in
    let at = entry_there bytes heads k head there in
    let is = get_or_from_slice_get entries k entry entry at in
    passed_over port k entries entry (slice_get_within entries k entry at) (ap (λ (e : Entry). has_port e.ways port) is ∙ stays)

held_there : (bytes : List ℕ) (heads : List Head) (k : ℕ) (head : Head) → AreHeld bytes heads → slice_get heads k ≡ Some head → Holds bytes head.span
held_there bytes heads k head held there =
    subst (λ (h : Head). Holds bytes h.span) (get_or_from_slice_get heads k head head there) (held k head (slice_get_within heads k head there))

-- ---- spans

range_joins : (bytes : List ℕ) (start middle end : ℕ) → start ≤ middle → middle ≤ end → slice_range bytes start end ≡ slice_range bytes start middle ++ slice_range bytes middle end
range_joins bytes start middle end low high =
    let size : end - start ≡ (middle - start) + (end - middle) = omega arith in
    let place : start + (middle - start) ≡ middle = omega arith in
    ap (λ (n : ℕ). take n (drop start bytes)) size
    ∙ (take-add (middle - start) (end - middle) (drop start bytes)
    ∙ ap (λ (l : List ℕ). slice_range bytes start middle ++ take (end - middle) l) (drop-drop (middle - start) start bytes ∙ ap (λ (n : ℕ). drop n bytes) place))

-- one frame
pub span_begun : (port : ℕ) (bytes : List ℕ) (heads : List Head) (k : ℕ) (head : Head) → AreHeld bytes heads → slice_get heads k ≡ Some head → has_port head.outcome.ways port ≡ true → SpansRun port bytes heads k (k + 1) head.span
span_begun port bytes heads k head held there goes =
    let h = held_there bytes heads k head held there in
    let before = frames_to port (take k (entries_of bytes heads)) in
    record {
      order = h.order;
      within = h.within;
      run = continues_by before before _ (packet_of bytes head.span) [] _ (goes_out port bytes heads k head there goes) h.frame.bytes (omega (arith, h.short)) (continues_not before);
    }

-- one more, which stands after them
pub span_longer : (port : ℕ) (bytes : List ℕ) (heads : List Head) (from k : ℕ) (span : Span) (head : Head) → AreHeld bytes heads → slice_get heads k ≡ Some head → has_port head.outcome.ways port ≡ true → head.span.start ≡ span.end → SpansRun port bytes heads from k span → SpansRun port bytes heads from (k + 1) (record { start = span.start; end = head.span.end })
span_longer port bytes heads from k span head held there goes meets s =
    let h = held_there bytes heads k head held there in
    let one = slice_range bytes head.span.start head.span.end in
    let far : span.end ≤ head.span.end = omega (arith, h.order, meets) in
    let joined = range_joins bytes span.start span.end head.span.end s.order far ∙ ap (λ (n : ℕ). slice_range bytes span.start span.end ++ slice_range bytes n head.span.end) (sym meets) in
    let long = ap length joined ∙ length-append (slice_range bytes span.start span.end) one in
    record {
      order = omega (arith, s.order, far);
      within = h.within;
      run = continues_by (frames_to port (take from (entries_of bytes heads))) (frames_to port (take k (entries_of bytes heads))) _ (packet_of bytes head.span) (slice_range bytes span.start span.end) _ (goes_out port bytes heads k head there goes)
          (joined ∙ ap (λ (l : List ℕ). slice_range bytes span.start span.end ++ l) h.frame.bytes) (omega (arith, long, h.short)) s.run;
    }

-- ---- runs

-- no frame goes out
pub no_run : (port : ℕ) (journal : List Entry) (from to : ℕ) → frames_to port (take to journal) ≡ frames_to port (take from journal) → IsRun port journal from to []
no_run port journal from to same = subst (λ (l : List Packet). Continues (frames_to port (take from journal)) l []) (sym same) (continues_not (frames_to port (take from journal)))

pub run_after : (port : ℕ) (journal : List Entry) (from first to : ℕ) (text : List ℕ) → frames_to port (take first journal) ≡ frames_to port (take from journal) → IsRun port journal first to text → IsRun port journal from to text
run_after port journal from first to text same run = subst (λ (l : List Packet). Continues l (frames_to port (take to journal)) text) same run

continues_after : (first before after : List Packet) (text : List ℕ) → Continues before after text → Continues (first ++ before) (first ++ after) text
continues_after first before after text c = record {
  frames = c.frames;
  goes = ap (λ (l : List Packet). first ++ l) c.goes ∙ sym (append_assoc first before c.frames);
  joined = c.joined;
}

-- a run in a page is one in the journal
pub run_in_page : (port : ℕ) (journal : List Entry) (page : PageState) (from to : ℕ) (text : List ℕ) → StandsIn journal page → from ≤ length page.entries → to ≤ length page.entries → IsRun port page.entries from to text → IsRun port journal (page.start + from) (page.start + to) text
run_in_page port journal page from to text s low high run =
    let whole = s.before ++ (page.entries ++ s.after) in
    let first = frames_to port s.before in
    let given = frames_within port s.before page.entries s.after page.start from (sym s.at) low in
    let then_ = frames_within port s.before page.entries s.after page.start to (sym s.at) high in
    subst (λ (j : List Entry). IsRun port j (page.start + from) (page.start + to) text) (sym s.goes)
    (subst (λ (l : List Packet). Continues l (frames_to port (take (page.start + to) whole)) text) (sym given)
    (subst (λ (l : List Packet). Continues (first ++ frames_to port (take from page.entries)) l text) (sym then_)
    (continues_after first (frames_to port (take from page.entries)) (frames_to port (take to page.entries)) text run)))

-- ---- what is written, and what waits

-- a port that failed is given more
pub failed_on : (frames more : List Packet) (first now : LinkState) (lane : Lane) → lane.failed ≡ true → Output frames first now lane → Output (frames ++ more) first now lane
failed_on frames more first now lane failed o =
    let long = length-append frames more in
    let so_far = o.most in
    record {
      written = o.written;
      rest = o.rest ++ bytes_of more;
      sent = o.sent;
      front = sym (append_assoc o.written o.rest (bytes_of more)) ∙ (ap (λ (l : List ℕ). l ++ bytes_of more) o.front ∙ sym (flat_map-append encoding frames more));
      all = λ fine. absurd (let wrong : ◌≡◌ {A = Bool} true false = sym failed ∙ fine in cc);
      most = omega (arith, so_far, long);
      count = o.count;
    }

-- nothing waits
pub given_all : (frames : List Packet) (first now : LinkState) (lane : Lane) → Output frames first now lane → GivenBut frames first now lane []
given_all frames first now lane o = record {
  done = frames;
  waiting = [];
  all = sym (append-nil frames);
  joined = record { are = refl; short = omega arith };
  output = o;
}

-- more waits
pub given_more : (frames more : List Packet) (first now : LinkState) (lane : Lane) (text run : List ℕ) → Joins run more → GivenBut frames first now lane text → GivenBut (frames ++ more) first now lane (text ++ run)
given_more frames more first now lane text run is g =
    let long = length-append text run in
    let count = length-append g.waiting more in
    let waits = g.joined.short in
    let short = is.short in
    record {
      done = g.done;
      waiting = g.waiting ++ more;
      all = ap (λ (l : List Packet). l ++ more) g.all ∙ append_assoc g.done g.waiting more;
      joined = record {
        are = (λ i. g.joined.are i ++ is.are i) ∙ sym (flat_map-append encoding g.waiting more);
        short = omega (arith, long, count, waits, short);
      };
      output = g.output;
    }

-- what waited is written
pub given_written : (frames : List Packet) (first now after : LinkState) (lane new : Lane) (text : List ℕ)
    → ((frames more : List Packet) (first : LinkState) → Joins text more → Output frames first now lane → Output (frames ++ more) first after new)
    → GivenBut frames first now lane text → Output frames first after new
given_written frames first now after lane new text step g =
    subst (λ (f : List Packet). Output f first after new) (sym g.all) (step g.done g.waiting first g.joined g.output)

-- ---- entries looked through

pub looks_not : (port : ℕ) (journal : List Entry) (from : ℕ) (now : LinkState) (lane : Lane) (text : List ℕ) → from ≤ length journal → LooksOn port journal from from now now lane lane text text
looks_not port journal from now lane text within = record { within = within; given = λ first g. g }

-- a run more was passed on
pub looks_more : (port : ℕ) (journal : List Entry) (from at to : ℕ) (run : List ℕ) (before now after : LinkState) (lane middle new : Lane) (text waits longer : List ℕ) → to ≤ length journal → IsRun port journal at to run
    → ((frames more : List Packet) (first : LinkState) → Joins run more → GivenBut frames first now middle waits → GivenBut (frames ++ more) first after new longer)
    → LooksOn port journal from at before now lane middle text waits → LooksOn port journal from to before after lane new text longer
looks_more port journal from at to run before now after lane middle new text waits longer within goes step looks = record {
  within = within;
  given = λ first g. subst (λ (f : List Packet). GivenBut f first after new longer) (sym goes.goes)
      (step (frames_to port (take at journal)) goes.frames first goes.joined (looks.given first g));
}

pub looks_then : (port : ℕ) (journal : List Entry) (from at to : ℕ) (before now after : LinkState) (lane middle new : Lane) (text waits longer : List ℕ) → LooksOn port journal from at before now lane middle text waits → LooksOn port journal at to now after middle new waits longer → LooksOn port journal from to before after lane new text longer
looks_then port journal from at to before now after lane middle new text waits longer a b = record { within = b.within; given = λ first g. b.given first (a.given first g) }

-- what waited is written at the end
pub all_written : (port : ℕ) (journal : List Entry) (from to : ℕ) (before now after : LinkState) (lane middle new : Lane) (waits : List ℕ)
    → ((frames : List Packet) (first : LinkState) → GivenBut frames first now middle waits → Output frames first after new)
    → LooksOn port journal from to before now lane middle [] waits → Writes port journal from to before after lane new
all_written port journal from to before now after lane middle new waits step looks = record {
  within = looks.within;
  output = λ first o. step (frames_to port (take to journal)) first (looks.given first (given_all (frames_to port (take from journal)) first before lane o));
}

-- ---- what was read

pub keeps_same : (now : LinkState) (lane : Lane) → KeepsInput now now lane lane
keeps_same now lane = record { input = λ rules journal port first i. i; turned = λ turns had. had }

pub keeps_then : (before now after : LinkState) (lane middle new : Lane) → KeepsInput before now lane middle → KeepsInput now after middle new → KeepsInput before after lane new
keeps_then before now after lane middle new a b = record {
  input = λ rules journal port first i. b.input rules journal port first (a.input rules journal port first i);
  turned = λ turns had. b.turned turns (a.turned turns had);
}
