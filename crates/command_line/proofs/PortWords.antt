-- A word is a PORT exactly if it is one colon by colon.
use Rattle.std.proofs.Common.{◌≡◌, ◌≢◌, ◌∙◌, inl, inr, ◌+◌, ◌&&◌, not, ℕ, Bool, true, false, List, [], ◌∷◌, ◌++◌, refl, sym, ap, subst, arith, length, take, drop, get_or, codes, Option, Some, None, is_some, IfOk, string_bytes, Result}
use Rattle.std.proofs.Math.Seq.{take-append_seam, drop-append-add}
use Rattle.std.proofs.lemmas.List.{length-append}
use Rattle.std.proofs.lemmas.Bool.{cases_Bool, cond-true, cond-false, and_parts, and_from, and_right, or_parts, ltb-true, lt-ltb, eqb-true}
use Rattle.std.proofs.lemmas.List.Sums.{split_at_first, passes_at_first}
use Rattle.std.proofs.lemmas.Slice.Eq.{bytes_eq-Decides}
use Rattle.std.specs.List.{list_any, position_or_len}
use Rattle.std.specs.Fmt.{decimal}
use Rattle.std.specs.Str.{bytes_eq}
use Rattle.command_line.specs.declared.ports.SocketKind.{SocketKind}
use Rattle.command_line.specs.declared.ports.SocketKind.TheVariants.{Tcp, Listen, Udp, UdpListen}
use Rattle.command_line.specs.declared.ports.FilesKind.{FilesKind}
use Rattle.command_line.specs.declared.ports.FilesKind.TheVariants.{File, Replay}
use Rattle.command_line.specs.declared.ports.Target.{Target}
use Rattle.command_line.specs.declared.ports.Target.TheVariants.{Socket as SocketTarget, Files as FilesTarget}
use Rattle.command_line.specs.declared.ports.Port.{Port}
use Rattle.command_line.specs.Ports.{is_colon, IsPart, kind_word, files_word, IsSocket, IsFiles, IsPort, open_word, IsRouterPort}
use Rattle.command_line.specs.PortTexts.{IsRead, has_colon, before_colon, after_colon, is_some_text, is_part, all_kinds, kind_named, all_files_kinds, files_named, is_end, is_rest, is_port, is_marked, is_router_port, target_text, port_text}
use Rattle.command_line.proofs.Numerals.{number_form, form_number}
use Rattle.command_line.proofs.Sorts.{found_passes}

-- texts
pub some_text : (v : List ℕ) → is_some_text v ≡ true → v ≢ []
some_text [] never = absurd (cc never)
some_text (b ∷ bs) e = λ same. cc same

pub text_some : (v : List ℕ) → v ≢ [] → is_some_text v ≡ true
text_some [] some = absurd (some refl)
text_some (b ∷ bs) some = refl

pub no_text : (v : List ℕ) → not (is_some_text v) ≡ true → v ≡ []
no_text [] e = refl
no_text (b ∷ bs) never = absurd (cc never)

not_true : (b : Bool) → not b ≡ true → b ≡ false
not_true true e = absurd (cc e)
not_true false e = refl

part_form : (part : List ℕ) → is_part part ≡ true → IsPart part
part_form part e =
    let (some, none) = and_parts (is_some_text part) (not (list_any is_colon part)) e in
    (some_text part some, not_true (list_any is_colon part) none)

form_part : (part : List ℕ) → IsPart part → is_part part ≡ true
form_part part (some, none) = and_from (is_some_text part) (not (list_any is_colon part)) (text_some part some) (ap not none)

-- a word at its first colon
pub cut_colon : (word : List ℕ) → has_colon word ≡ true → word ≡ before_colon word ++ 58 ∷ after_colon word
cut_colon word has =
    let within = ltb-true (position_or_len is_colon word) (length word) has in
    let byte = eqb-true (get_or word (position_or_len is_colon word) 0) 58 (passes_at_first is_colon word 0 within) in
    split_at_first is_colon word 0 within ∙ ap (λ b. before_colon word ++ (b ∷ after_colon word)) byte

-- and one that was put together at a colon
pub record CutAt (front back : List ℕ) : Type 0 where
  pub has : has_colon (front ++ 58 ∷ back) ≡ true
  pub before : before_colon (front ++ 58 ∷ back) ≡ front
  pub after : after_colon (front ++ 58 ∷ back) ≡ back

first_colon : (front back : List ℕ) → list_any is_colon front ≡ false → position_or_len is_colon (front ++ 58 ∷ back) ≡ length front
first_colon [] back none = refl
first_colon (b ∷ bs) back none =
    let (here, more) = or_parts (is_colon b) (list_any is_colon bs) none in
    let one = cond-true (not (is_colon b)) (1 + position_or_len is_colon (bs ++ 58 ∷ back)) 0 (ap not here) in
    let rest = first_colon bs back more in
    omega (arith, one, rest)

pub put_together : (front back : List ℕ) → list_any is_colon front ≡ false → CutAt front back
put_together front back none =
    let at = first_colon front back none in
    record {
      has = lt-ltb (position_or_len is_colon (front ++ 58 ∷ back)) (length (front ++ 58 ∷ back)) (omega (arith, at, length-append front (58 ∷ back)));
      before = ap (λ n. take n (front ++ 58 ∷ back)) at ∙ take-append_seam front (58 ∷ back);
      after = ap (λ n. drop (n + 1) (front ++ 58 ∷ back)) at ∙ drop-append-add front (58 ∷ back) 1;
    }

-- kinds
pub kind_word_of : (word : List ℕ) (k : SocketKind) → kind_named word ≡ Some k → word ≡ kind_word k
kind_word_of word k e = (bytes_eq-Decides word (kind_word k)).0 (found_passes (λ l. bytes_eq word (kind_word l)) all_kinds k e)

kind_of_word : (k : SocketKind) → kind_named (kind_word k) ≡ Some k
kind_of_word Tcp = refl
kind_of_word Listen = refl
kind_of_word Udp = refl
kind_of_word UdpListen = refl

no_colon : (k : SocketKind) → list_any is_colon (kind_word k) ≡ false
no_colon Tcp = refl
no_colon Listen = refl
no_colon Udp = refl
no_colon UdpListen = refl

-- kinds of files
pub files_word_of : (word : List ℕ) (k : FilesKind) → files_named word ≡ Some k → word ≡ files_word k
files_word_of word k e = (bytes_eq-Decides word (files_word k)).0 (found_passes (λ l. bytes_eq word (files_word l)) all_files_kinds k e)

files_of_word : (k : FilesKind) → files_named (files_word k) ≡ Some k
files_of_word File = refl
files_of_word Replay = refl

no_socket : (k : FilesKind) → kind_named (files_word k) ≡ None
no_socket File = refl
no_socket Replay = refl

no_files_colon : (k : FilesKind) → list_any is_colon (files_word k) ≡ false
no_files_colon File = refl
no_files_colon Replay = refl

files_form : (o : Option FilesKind) (kind begin end : List ℕ) → files_named kind ≡ o → is_some o ≡ true → is_part begin ≡ true → is_part end ≡ true → IsFiles (kind ++ 58 ∷ (begin ++ 58 ∷ end))
files_form None kind begin end named never part is = absurd (cc never)
files_form (Some k) kind begin end named some part is = record {
  kind = k;
  input = begin;
  output = end;
  is_input = part_form begin part;
  is_output = part_form end is;
  word_is = ap (λ w. w ++ 58 ∷ (begin ++ 58 ∷ end)) (files_word_of kind k named);
}

-- the ports of the test are those of the form
end_form : (o : Option SocketKind) (kind begin end : List ℕ) → kind_named kind ≡ o → is_part begin ≡ true → is_end o kind end ≡ true → IsPort (kind ++ 58 ∷ (begin ++ 58 ∷ end))
end_form (Some k) kind begin end named part ends = inl (record {
  kind = k;
  host = begin;
  number = end;
  is_host = part_form begin part;
  is_number = number_form 1 65535 end ends;
  word_is = ap (λ w. w ++ 58 ∷ (begin ++ 58 ∷ end)) (kind_word_of kind k named);
})
end_form None kind begin end named part ends =
    let (files, is) = and_parts (is_some (files_named kind)) (is_part end) ends in
    inr (files_form (files_named kind) kind begin end refl files part is)

rest_form : (kind rest : List ℕ) → is_rest kind rest ≡ true → IsPort (kind ++ 58 ∷ rest)
rest_form kind rest e =
    let (has, parts) = and_parts (has_colon rest) _ e in
    let (part, ends) = and_parts (is_part (before_colon rest)) _ parts in
    subst (λ w. IsPort (kind ++ 58 ∷ w)) (sym (cut_colon rest has)) (end_form (kind_named kind) kind (before_colon rest) (after_colon rest) refl part ends)

pub port_form : (word : List ℕ) → is_port word ≡ true → IsPort word
port_form word e =
    let (has, parts) = and_parts (has_colon word) _ e in
    subst IsPort (sym (cut_colon word has)) (rest_form (before_colon word) (after_colon word) parts)

-- and the other way
put_rest : (kind begin end : List ℕ) → IsPart begin → is_end (kind_named kind) kind end ≡ true → is_rest kind (begin ++ 58 ∷ end) ≡ true
put_rest kind begin end part ends =
    let c = put_together begin end part.1 in
    and_from (has_colon (begin ++ 58 ∷ end)) _ c.has
    (and_from (is_part (before_colon (begin ++ 58 ∷ end))) _ (ap is_part c.before ∙ form_part begin part)
    (ap (is_end (kind_named kind) kind) c.after ∙ ends))

put_port : (kind rest : List ℕ) → list_any is_colon kind ≡ false → is_rest kind rest ≡ true → is_port (kind ++ 58 ∷ rest) ≡ true
put_port kind rest none is =
    let c = put_together kind rest none in
    and_from (has_colon (kind ++ 58 ∷ rest)) _ c.has (ap (λ k. is_rest k (after_colon (kind ++ 58 ∷ rest))) c.before ∙ ap (is_rest kind) c.after ∙ is)

socket_port : (word : List ℕ) → IsSocket word → is_port word ≡ true
socket_port word s =
    ap is_port s.word_is
    ∙ put_port (kind_word s.kind) (s.host ++ 58 ∷ s.number) (no_colon s.kind)
    (put_rest (kind_word s.kind) s.host s.number s.is_host
    (ap (λ o. is_end o (kind_word s.kind) s.number) (kind_of_word s.kind) ∙ form_number 1 65535 s.number (omega arith) s.is_number))

files_port : (word : List ℕ) → IsFiles word → is_port word ≡ true
files_port word f =
    ap is_port f.word_is
    ∙ put_port (files_word f.kind) (f.input ++ 58 ∷ f.output) (no_files_colon f.kind)
    (put_rest (files_word f.kind) f.input f.output f.is_input
    (ap (λ o. is_end o (files_word f.kind) f.output) (no_socket f.kind)
    ∙ and_from (is_some (files_named (files_word f.kind))) (is_part f.output) (ap is_some (files_of_word f.kind)) (form_part f.output f.is_output)))

pub form_port : (word : List ℕ) → IsPort word → is_port word ≡ true
form_port word (inl s) = socket_port word s
form_port word (inr f) = files_port word f

-- a port has no mark
unmarked : (kind rest : List ℕ) → list_any is_colon kind ≡ false → bytes_eq kind (codes "open") ≡ false → is_marked (kind ++ 58 ∷ rest) ≡ false
unmarked kind rest none other =
    let c = put_together kind rest none in
    and_right (has_colon (kind ++ 58 ∷ rest)) _ (ap (λ k. bytes_eq k (codes "open")) c.before ∙ other)

not_open : (k : SocketKind) → bytes_eq (kind_word k) (codes "open") ≡ false
not_open Tcp = refl
not_open Listen = refl
not_open Udp = refl
not_open UdpListen = refl

files_not_open : (k : FilesKind) → bytes_eq (files_word k) (codes "open") ≡ false
files_not_open File = refl
files_not_open Replay = refl

port_unmarked : (word : List ℕ) → IsPort word → is_marked word ≡ false
port_unmarked word (inl s) = ap is_marked s.word_is ∙ unmarked (kind_word s.kind) (s.host ++ 58 ∷ s.number) (no_colon s.kind) (not_open s.kind)
port_unmarked word (inr f) = ap is_marked f.word_is ∙ unmarked (files_word f.kind) (f.input ++ 58 ∷ f.output) (no_files_colon f.kind) (files_not_open f.kind)

-- the mark of a port as the program holds it
text_marked : (is_open : Bool) (t : Target) → is_marked (open_word is_open (target_text t)) ≡ is_open
text_marked true t =
    let c = put_together (codes "open") (target_text t) refl in
    and_from (has_colon (open_word true (target_text t))) _ c.has (ap (λ k. bytes_eq k (codes "open")) c.before)
text_marked false (SocketTarget s) = unmarked (kind_word s.kind) (string_bytes s.host ++ 58 ∷ decimal s.number) (no_colon s.kind) (not_open s.kind)
text_marked false (FilesTarget f) = unmarked (files_word f.kind) (string_bytes f.input ++ 58 ∷ string_bytes f.output) (no_files_colon f.kind) (files_not_open f.kind)

pub mark_of : (p : Port) → is_marked (port_text p) ≡ p.is_open
mark_of p = text_marked p.is_open p.target

-- the word of a mark and what comes after it
pub marked_word : (word : List ℕ) → is_marked word ≡ true → word ≡ open_word true (after_colon word)
marked_word word e =
    let (has, mark) = and_parts (has_colon word) _ e in
    cut_colon word has ∙ ap (λ w. w ++ 58 ∷ after_colon word) ((bytes_eq-Decides (before_colon word) (codes "open")).0 mark)

pub router_form : (word : List ℕ) → is_router_port word ≡ true → IsRouterPort word
router_form word e = elim (cases_Bool (is_marked word)) [
  | inl marked ↦ record { is_open = true; port = after_colon word; word_is = marked_word word marked; is_port = port_form (after_colon word) (sym (cond-true (is_marked word) (is_port (after_colon word)) (is_port word) marked) ∙ e) }
  | inr none ↦ record { is_open = false; port = word; word_is = refl; is_port = port_form word (sym (cond-false (is_marked word) (is_port (after_colon word)) (is_port word) none) ∙ e) }
]

put_router : (is_open : Bool) (port : List ℕ) → IsPort port → is_router_port (open_word is_open port) ≡ true
put_router true port is =
    let c = put_together (codes "open") port refl in
    let word = open_word true port in
    cond-true (is_marked word) (is_port (after_colon word)) (is_port word)
    (and_from (has_colon word) _ c.has (ap (λ k. bytes_eq k (codes "open")) c.before)) ∙ ap is_port c.after ∙ form_port port is
put_router false port is = cond-false (is_marked port) (is_port (after_colon port)) (is_port port) (port_unmarked port is) ∙ form_port port is

pub form_router : (word : List ℕ) → IsRouterPort word → is_router_port word ≡ true
form_router word p = ap is_router_port p.word_is ∙ put_router p.is_open p.port p.is_port

and_holds : (x y : Bool) → x ≡ true → (x && y) ≡ y
and_holds x y e = ap (λ b. b && y) e

-- what was read of a word is what was read of the same word by the same test
pub read_same : {A W E : Type 0} (text : A → W) (p q : Bool) (v w : W) (r : Result (Option A) E) → p ≡ q → v ≡ w → IfOk r (IsRead text p v) → IfOk r (IsRead text q w)
read_same text p q v w r same is read = subst (λ b. IfOk r (IsRead text b w)) same (subst (λ u. IfOk r (IsRead text p u)) is read)

pub rest_read : {A E : Type 0} (text : A → List ℕ) (kind rest begin end : List ℕ) (r : Result (Option A) E) → has_colon rest ≡ true → begin ≡ before_colon rest → end ≡ after_colon rest → is_part begin ≡ true
    → IfOk r (IsRead text (is_end (kind_named kind) kind end) (kind ++ 58 ∷ (begin ++ 58 ∷ end))) → IfOk r (IsRead text (is_rest kind rest) (kind ++ 58 ∷ rest))
rest_read text kind rest begin end r has front back part read =
    read_same text _ _ _ _ r
    (ap (is_end (kind_named kind) kind) back ∙ sym (and_holds (has_colon rest) _ has ∙ and_holds (is_part (before_colon rest)) _ (ap is_part (sym front) ∙ part)))
    (ap (λ w. kind ++ 58 ∷ w) (rw (front, back) (sym (cut_colon rest has)))) read

pub port_read : {A E : Type 0} (text : A → List ℕ) (word kind rest : List ℕ) (r : Result (Option A) E) → has_colon word ≡ true → kind ≡ before_colon word → rest ≡ after_colon word
    → IfOk r (IsRead text (is_rest kind rest) (kind ++ 58 ∷ rest)) → IfOk r (IsRead text (is_port word) word)
port_read text word kind rest r has front back read =
    read_same text _ _ _ _ r (ap (λ k. is_rest k rest) front ∙ ap (is_rest (before_colon word)) back ∙ sym (and_holds (has_colon word) _ has))
    (rw (front, back) (sym (cut_colon word has))) read

pub marked_read : {A : Type 0} (text : A → List ℕ) (word rest : List ℕ) (found : Option A) → is_marked word ≡ true → rest ≡ after_colon word
    → IsRead text (is_port rest) (open_word true rest) found → IsRead text (is_router_port word) word found
marked_read text word rest found marked back read =
    subst (λ w. IsRead text (is_router_port word) w found) (ap (open_word true) back ∙ sym (marked_word word marked))
    (subst (λ b. IsRead text b (open_word true rest) found) (ap is_port back ∙ sym (cond-true (is_marked word) (is_port (after_colon word)) (is_port word) marked)) read)

pub unmarked_read : {A : Type 0} (text : A → List ℕ) (word : List ℕ) (found : Option A) → is_marked word ≡ false
    → IsRead text (is_port word) (open_word false word) found → IsRead text (is_router_port word) word found
unmarked_read text word found none read =
    subst (λ b. IsRead text b word found) (sym (cond-false (is_marked word) (is_port (after_colon word)) (is_port word) none)) read
