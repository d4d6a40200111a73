-- How many frames a datagram may have: no more than bytes, and a line's noise has no more bytes than the line.
use Rattle.std.proofs.Common.{◌≡◌, ℕ, zero, suc, ◌+◌, ◌%◌, ◌==◌, ◌≤◌, Bool, true, false, if◌then◌else◌, nat_lt, List, [], ◌∷◌, length, drop, codes, slice_index_or, Option, Some, None, unwrap_or, IfOk, Ok, Err, refl, arith}
use Rattle.std.specs.declared.result.Result.{Result}
use Rattle.std.specs.List.{slice_split, onto_first}
use Rattle.std.specs.Result.{result_ok}
use Rattle.std.specs.Str.{bytes_eq}
use Rattle.hex.specs.Hex.{◌>>=◌, pair_value, decode_pairs, decode_of}
use Rattle.hex.specs.declared.error.FromHexError.{FromHexError}
use Rattle.hex.specs.declared.error.FromHexError.TheVariants.{OddLength}
use Rattle.mav_frame.specs.Looks.{look_of}
use Rattle.mav_frame.specs.FinalParse.{events_by, first_events, final_parse}
use Rattle.mav_frame.specs.declared.looks.Look.{Look}
use Rattle.mav_frame.specs.declared.looks.Look.TheVariants.{Frame as Found, NotHere, More}
use Rattle.mav_frame.specs.declared.events.Event.{Event}
use Rattle.mav_sign.specs.Endpoints.{frames_of}
use Rattle.scenario_lines.specs.declared.faults.Reason.{Reason}
use Rattle.scenario_lines.specs.declared.faults.Reason.TheVariants.{Long}
use Rattle.scenario_lines.specs.declared.lines.Line.{Line}
use Rattle.scenario_lines.specs.declared.lines.Line.TheVariants.{Blank, Noise}
use Rattle.scenario_lines.specs.Words.{is_space, words_of, word_at, bytes_word}
use Rattle.scenario_lines.specs.LineContext.{LineContext}
use Rattle.scenario_lines.specs.Grammar.{bytes_at, line_from, line_of, is_blank, most_line_bytes}
use Rattle.scenario_lines.specs.Reasons.{reason_against}
use Rattle.fleet_invariants.proofs.Tests.{by_test, not_less}
use Rattle.fleet_invariants.proofs.Growth.{at_most_on}

-- ---- frames among bytes

few_by : (look : Look) (b : List ℕ) (rest : List ℕ → List Event) (most : ℕ) → ((c : List ℕ) → length (frames_of (rest c)) ≤ most) → length (frames_of (events_by look b rest)) ≤ suc most
few_by (Found packet size) b rest most h = let few = h (drop size b) in omega arith
few_by (NotHere why) b rest most h = let few = h (drop 1 b) in omega arith
few_by (More lacking) b rest most h = let few = h (drop 1 b) in omega arith

few_events : (extras : List (ℕ × ℕ)) (most : ℕ) (b : List ℕ) → length (frames_of (first_events extras false most b)) ≤ most
few_events extras zero b = omega arith
few_events extras (suc most) [] = omega arith
few_events extras (suc most) (byte ∷ bytes) =
    few_by (look_of extras false (byte ∷ bytes)) (byte ∷ bytes) (first_events extras false most) most (few_events extras most)

pub few_frames : (extras : List (ℕ × ℕ)) (b : List ℕ) → length (frames_of (final_parse extras false b)) ≤ length b
few_frames extras b = few_events extras (length b) b

-- ---- bytes of a word

-- a decoded text has no more bytes than this
abbrev Few : ℕ → Result (List ℕ) FromHexError → Type 0
Few n r = IfOk r (λ bytes. length bytes ≤ n)

few_more : (r : Result ℕ FromHexError) (rest : Result (List ℕ) FromHexError) (n : ℕ) → Few n rest → Few (suc (suc n)) (r >>= (λ byte. rest >>= (λ bytes. Ok (byte ∷ bytes))))
few_more (Err e) rest n h = tt
few_more (Ok byte) (Err e) n h = tt
few_more (Ok byte) (Ok bytes) n h = omega (arith, h)

few_pairs : (i : ℕ) (text : List ℕ) → Few (length text) (decode_pairs i text)
unfolding decode_pairs
few_pairs i [] = omega arith
few_pairs i (digit ∷ []) = tt
few_pairs i (high ∷ low ∷ rest) = few_more (pair_value high low i) (decode_pairs (i + 2) rest) (length rest) (few_pairs (i + 2) rest)

few_ok : (r : Result (List ℕ) FromHexError) (n : ℕ) → Few n r → length (unwrap_or (result_ok r) []) ≤ n
few_ok (Ok bytes) n h = h
few_ok (Err e) n h = omega arith

few_word : (word : List ℕ) → length (unwrap_or (bytes_word word) []) ≤ length word
few_word word =
    by_test (λ (o : Option (List ℕ)). length (unwrap_or o []) ≤ length word) (nat_lt 0 (length word)) (result_ok (decode_of word)) None
    (λ _. few_ok (decode_of word) (length word) (by_test (Few (length word)) (length word % 2 == 1) (Err OddLength) (decode_pairs 0 word) (λ _. tt) (λ _. few_pairs 0 word)))
    (λ _. omega arith)

-- ---- words of a text

abbrev Short : List (List ℕ) → ℕ → Type 0
Short parts n = (k : ℕ) → length (slice_index_or parts k []) ≤ n

short_behind : (parts : List (List ℕ)) (n : ℕ) → Short parts n → Short ([] ∷ parts) (suc n)
short_behind parts n h zero = omega arith
short_behind parts n h (suc k) = let few = h k in omega arith

short_onto : (b : ℕ) (parts : List (List ℕ)) (n : ℕ) → Short parts n → Short (onto_first b parts) (suc n)
short_onto b [] n h zero = omega arith
short_onto b [] n h (suc k) = omega arith
short_onto b (part ∷ parts) n h zero = let few = h zero in omega arith
short_onto b (part ∷ parts) n h (suc k) = let few = h (suc k) in omega arith

short_parts : (p : ℕ → Bool) (text : List ℕ) → Short (slice_split p text) (length text)
short_parts p [] zero = omega arith
short_parts p [] (suc k) = omega arith
short_parts p (b ∷ bs) k =
    by_test (λ (parts : List (List ℕ)). length (slice_index_or parts k []) ≤ suc (length bs)) (p b) ([] ∷ slice_split p bs) (onto_first b (slice_split p bs))
    (λ _. short_behind (slice_split p bs) (length bs) (short_parts p bs) k)
    (λ _. short_onto b (slice_split p bs) (length bs) (short_parts p bs) k)

few_at : (text : List ℕ) (k : ℕ) → length (bytes_at (words_of text) k) ≤ length text
few_at text k = at_most_on _ _ _ (few_word (word_at (words_of text) k)) (short_parts is_space text k)

-- ---- noise

-- noise has at most so many bytes
abbrev pub IsShort : Line → Type 0
IsShort (Noise node bytes) = length bytes ≤ 4096
IsShort _ = Unit {0}

words_short : (words : List (List ℕ)) → length (bytes_at words 2) ≤ 4096 → IsShort (line_from words)
words_short words few =
    let w = word_at words 0 in
    by_test IsShort (bytes_eq w (codes "drone")) _ _ (λ _. tt) (λ _.
    by_test IsShort (bytes_eq w (codes "station")) _ _ (λ _. tt) (λ _.
    by_test IsShort (bytes_eq w (codes "item")) _ _ (λ _. tt) (λ _.
    by_test IsShort (bytes_eq w (codes "items")) _ _ (λ _. tt) (λ _.
    by_test IsShort (bytes_eq w (codes "empty")) _ _ (λ _. tt) (λ _.
    by_test IsShort (bytes_eq w (codes "begin")) _ _ (λ _. tt) (λ _.
    by_test IsShort (bytes_eq w (codes "cancel")) _ _ (λ _. tt) (λ _.
    by_test IsShort (bytes_eq w (codes "clear")) _ _ (λ _. tt) (λ _.
    by_test IsShort (bytes_eq w (codes "get")) _ _ (λ _. tt) (λ _.
    by_test IsShort (bytes_eq w (codes "command")) _ _ (λ _. tt) (λ _.
    by_test IsShort (bytes_eq w (codes "params")) _ _ (λ _. tt) (λ _.
    by_test IsShort (bytes_eq w (codes "heartbeat")) _ _ (λ _. tt) (λ _.
    by_test IsShort (bytes_eq w (codes "deliver")) _ _ (λ _. tt) (λ _.
    by_test IsShort (bytes_eq w (codes "flow")) _ _ (λ _. tt) (λ _.
    by_test IsShort (bytes_eq w (codes "noise")) _ _ (λ _. few) (λ _.
    by_test IsShort (bytes_eq w (codes "tick")) _ _ (λ _. tt) (λ _.
    by_test IsShort (bytes_eq w (codes "clock")) _ _ (λ _. tt) (λ _.
    by_test IsShort (bytes_eq w (codes "restart")) _ _ (λ _. tt) (λ _.
    by_test IsShort (bytes_eq w (codes "sim")) _ _ (λ _. tt) (λ _.
    by_test IsShort (bytes_eq w (codes "where")) _ _ (λ _. tt) (λ _. tt))))))))))))))))))))

not_long : (long : Bool) (r : Reason) (o : Option Reason) → (if long then Some r else o) ≡ None → long ≡ false
not_long true r o e = absurd (let wrong : ◌≡◌ {A = Option Reason} (Some r) None = e in cc)
not_long false r o e = refl

-- a line that has no reason against it
pub line_short : (context : LineContext) (text : List ℕ) → reason_against context text ≡ None → IsShort (line_of text)
line_short context text e =
    let within = not_less most_line_bytes (length text) (not_long (nat_lt most_line_bytes (length text)) Long _ e) in
    by_test IsShort (is_blank text) Blank (line_from (words_of text)) (λ _. tt) (λ _. words_short (words_of text) (at_most_on _ _ _ (few_at text 2) within))
