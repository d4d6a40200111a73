-- The ports of a set by four bits of its byte.
use Rattle.std.proofs.Common.{◌≡◌, ℕ, zero, suc, ◌+◌, ◌-◌, ◌*◌, ◌/◌, ◌%◌, ◌≤◌, ◌<◌, ◌==◌, Bool, true, false, if◌then◌else◌, List, ◌++◌, codes, take, get_or, refl, sym, ap, ◌∙◌, arith, append_assoc}
use Rattle.std.specs.Fmt.{decimal, digits}
use Rattle.link_table.specs.Bits.{has_bit, flags_of}
use Rattle.link_table.specs.Routing.{has_port}
use Rattle.link_table.proofs.Bits.{port_flag}
use Rattle.route_command.specs.declared.port_texts.TheConstants.{LOW_PORTS, HIGH_PORTS, TEXT_BYTES}
use Rattle.route_command.specs.Texts.{ports_from}

-- ---- the rows

by_bits : (P : ℕ → Type 0) → P 0 → P 1 → P 2 → P 3 → P 4 → P 5 → P 6 → P 7 → P 8 → P 9 → P 10 → P 11 → P 12 → P 13 → P 14 → P 15 → (bits : ℕ) → bits < 16 → P bits
by_bits P a b c d e f g h i j k l m n o p zero few = a
by_bits P a b c d e f g h i j k l m n o p (suc zero) few = b
by_bits P a b c d e f g h i j k l m n o p (suc (suc zero)) few = c
by_bits P a b c d e f g h i j k l m n o p (suc (suc (suc zero))) few = d
by_bits P a b c d e f g h i j k l m n o p (suc (suc (suc (suc zero)))) few = e
by_bits P a b c d e f g h i j k l m n o p (suc (suc (suc (suc (suc zero))))) few = f
by_bits P a b c d e f g h i j k l m n o p (suc (suc (suc (suc (suc (suc zero)))))) few = g
by_bits P a b c d e f g h i j k l m n o p (suc (suc (suc (suc (suc (suc (suc zero))))))) few = h
by_bits P a b c d e f g h i j k l m n o p (suc (suc (suc (suc (suc (suc (suc (suc zero)))))))) few = i
by_bits P a b c d e f g h i j k l m n o p (suc (suc (suc (suc (suc (suc (suc (suc (suc zero))))))))) few = j
by_bits P a b c d e f g h i j k l m n o p (suc (suc (suc (suc (suc (suc (suc (suc (suc (suc zero)))))))))) few = k
by_bits P a b c d e f g h i j k l m n o p (suc (suc (suc (suc (suc (suc (suc (suc (suc (suc (suc zero))))))))))) few = l
by_bits P a b c d e f g h i j k l m n o p (suc (suc (suc (suc (suc (suc (suc (suc (suc (suc (suc (suc zero)))))))))))) few = m
by_bits P a b c d e f g h i j k l m n o p (suc (suc (suc (suc (suc (suc (suc (suc (suc (suc (suc (suc (suc zero))))))))))))) few = n
by_bits P a b c d e f g h i j k l m n o p (suc (suc (suc (suc (suc (suc (suc (suc (suc (suc (suc (suc (suc (suc zero)))))))))))))) few = o
by_bits P a b c d e f g h i j k l m n o p (suc (suc (suc (suc (suc (suc (suc (suc (suc (suc (suc (suc (suc (suc (suc zero))))))))))))))) few = p
by_bits P a b c d e f g h i j k l m n o p (suc (suc (suc (suc (suc (suc (suc (suc (suc (suc (suc (suc (suc (suc (suc (suc bits)))))))))))))))) few = absurd (omega arith)

low_row : (d : List ℕ) (bits : ℕ) → bits < 16 → take (get_or TEXT_BYTES bits 0) (get_or LOW_PORTS bits d) ≡ ports_from false (flags_of bits) 1 4
unfolding digits
low_row d = by_bits (λ bits. take (get_or TEXT_BYTES bits 0) (get_or LOW_PORTS bits d) ≡ ports_from false (flags_of bits) 1 4) refl refl refl refl refl refl refl refl refl refl refl refl refl refl refl refl

pub low_put : (d start : List ℕ) (bits index size : ℕ) → bits < 16 → index ≡ bits → size ≡ get_or TEXT_BYTES bits 0 → start ++ take size (get_or LOW_PORTS index d) ≡ start ++ ports_from false (flags_of bits) 1 4
low_put d start bits index size few at long =
    ap (λ (text : List ℕ). start ++ text) ((λ i. take (long i) (get_or LOW_PORTS (at i) d)) ∙ low_row d bits few)

high_row : (d : List ℕ) (bits : ℕ) → bits < 16 → take (get_or TEXT_BYTES bits 0) (get_or HIGH_PORTS bits d) ≡ ports_from false (flags_of (bits * 16)) 5 4
unfolding digits
high_row d = by_bits (λ bits. take (get_or TEXT_BYTES bits 0) (get_or HIGH_PORTS bits d) ≡ ports_from false (flags_of (bits * 16)) 5 4) refl refl refl refl refl refl refl refl refl refl refl refl refl refl refl refl

pub high_put : (d start : List ℕ) (bits index size : ℕ) → bits < 16 → index ≡ bits → size ≡ get_or TEXT_BYTES bits 0 → start ++ take size (get_or HIGH_PORTS index d) ≡ start ++ ports_from false (flags_of (bits * 16)) 5 4
high_put d start bits index size few at long =
    ap (λ (text : List ℕ). start ++ text) ((λ i. take (long i) (get_or HIGH_PORTS (at i) d)) ∙ high_row d bits few)

-- ---- the ports of a set

same_ports : (ways others : List Bool) (port count : ℕ) → ((p : ℕ) → port ≤ p → p < port + count → has_port ways p ≡ has_port others p) → ports_from false ways port count ≡ ports_from false others port count
same_ports ways others port zero same = refl
same_ports ways others port (suc count) same =
    let later = same_ports ways others (port + 1) count (λ p from to. same p (omega arith) (omega arith)) in
    λ i. if same port (omega arith) (omega arith) i then codes "," ++ decimal port ++ later i else later i

in_parts : (ways : List Bool) (port count more : ℕ) → ports_from false ways port (count + more) ≡ ports_from false ways port count ++ ports_from false ways (port + count) more
in_parts ways port zero more =
    let none : 0 + more ≡ more = omega arith in
    let here : port ≡ port + 0 = omega arith in
    λ i. ports_from false ways (here i) (none i)
in_parts ways port (suc count) more =
    let sum : suc count + more ≡ suc (count + more) = omega arith in
    let later = in_parts ways (port + 1) count more in
    let next : (port + 1) + count ≡ port + suc count = omega arith in
    ap (λ (n : ℕ). ports_from false ways port n) sum
    ∙ here (has_port ways port) (ports_from false ways (port + 1) (count + more)) (ports_from false ways (port + 1) count) (ports_from false ways (port + suc count) more)
    (later ∙ ap (λ (p : ℕ). ports_from false ways (port + 1) count ++ ports_from false ways p more) next)
  where
    here : (is : Bool) (all first rest : List ℕ) → all ≡ first ++ rest → (if is then codes "," ++ decimal port ++ all else all) ≡ (if is then codes "," ++ decimal port ++ first else first) ++ rest
    here true all first rest e = ap (λ (l : List ℕ). codes "," ++ decimal port ++ l) e ∙ sym (append_assoc (codes "," ++ decimal port) first rest)
    here false all first rest e = e

low_bits : (mask port : ℕ) → 1 ≤ port → port < 5 → has_bit (mask % 16) port ≡ has_bit mask port
low_bits mask zero from to = absurd (omega arith)
low_bits mask (suc zero) from to = ap (λ (n : ℕ). n == 1) (omega arith)
low_bits mask (suc (suc zero)) from to = ap (λ (n : ℕ). n == 1) (omega arith)
low_bits mask (suc (suc (suc zero))) from to = ap (λ (n : ℕ). n == 1) (omega arith)
low_bits mask (suc (suc (suc (suc zero)))) from to = ap (λ (n : ℕ). n == 1) (omega arith)
low_bits mask (suc (suc (suc (suc (suc port))))) from to = absurd (omega arith)

high_bits : (mask more : ℕ) → more < 4 → has_bit (mask / 16 * 16) (5 + more) ≡ has_bit mask (5 + more)
high_bits mask zero few = ap (λ (n : ℕ). n == 1) (omega arith)
high_bits mask (suc zero) few = ap (λ (n : ℕ). n == 1) (omega arith)
high_bits mask (suc (suc zero)) few = ap (λ (n : ℕ). n == 1) (omega arith)
high_bits mask (suc (suc (suc zero))) few = ap (λ (n : ℕ). n == 1) (omega arith)
high_bits mask (suc (suc (suc (suc more)))) few = absurd (omega arith)

-- the text of a set is those of the bits of its byte
text_of_bits : (ways : List Bool) (mask : ℕ) → ((port : ℕ) → 1 ≤ port → port ≤ 8 → has_bit mask port ≡ has_port ways port) → ports_from false (flags_of (mask % 16)) 1 4 ++ ports_from false (flags_of (mask / 16 * 16)) 5 4 ≡ ports_from false ways 1 8
text_of_bits ways mask bits =
    let low = same_ports (flags_of (mask % 16)) ways 1 4 (λ p from to. port_flag (mask % 16) p from (omega arith) ∙ (low_bits mask p from to ∙ bits p from (omega arith))) in
    let high = same_ports (flags_of (mask / 16 * 16)) ways 5 4 (λ p from to.
    let more : 5 + (p - 5) ≡ p = omega arith in
    let is : has_bit (mask / 16 * 16) p ≡ has_bit mask p = ap (has_bit (mask / 16 * 16)) (sym more) ∙ (high_bits mask (p - 5) (omega arith) ∙ ap (has_bit mask) more) in
    port_flag (mask / 16 * 16) p (omega arith) (omega arith) ∙ (is ∙ bits p (omega arith) (omega arith))) in
    (λ i. low i ++ high i) ∙ sym (in_parts ways 1 4 4)

pub ports_of_bits : (ways : List Bool) (mask low high : ℕ) (start middle last : List ℕ) → low ≡ mask % 16 → high ≡ mask / 16 → ((port : ℕ) → 1 ≤ port → port ≤ 8 → has_bit mask port ≡ has_port ways port) → middle ≡ start ++ ports_from false (flags_of low) 1 4 → last ≡ middle ++ ports_from false (flags_of (high * 16)) 5 4 → last ≡ start ++ ports_from false ways 1 8
ports_of_bits ways mask low high start middle last l h bits first second =
    second
    ∙ ((λ i. first i ++ ports_from false (flags_of (h i * 16)) 5 4)
    ∙ (ap (λ (n : ℕ). (start ++ ports_from false (flags_of n) 1 4) ++ ports_from false (flags_of (mask / 16 * 16)) 5 4) l
    ∙ (append_assoc start (ports_from false (flags_of (mask % 16)) 1 4) (ports_from false (flags_of (mask / 16 * 16)) 5 4)
    ∙ ap (λ (text : List ℕ). start ++ text) (text_of_bits ways mask bits))))
