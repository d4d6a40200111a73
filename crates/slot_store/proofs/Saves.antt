-- What each of the writes of a save may leave.
use Rattle.std.proofs.Common.{◌≡◌, ◌≤◌, ◌+◌, ◌==◌, inl, inr, ℕ, Bool, true, false, List, [], ◌∷◌, length, min, Some, refl, sym, ◌∙◌, ap, subst, arith}
use Rattle.std.specs.Int.{w64, from_le_bytes}
use Rattle.std.proofs.lemmas.Bool.{cases_Bool, eq-eqb}
use Rattle.slot_store.specs.declared.headers.Slot.{Slot}
use Rattle.slot_store.specs.declared.headers.Slot.TheVariants.{First, Second}
use Rattle.slot_store.specs.declared.headers.Header.{Header}
use Rattle.slot_store.specs.declared.headers.Headers.{Headers}
use Rattle.slot_store.specs.Disks.{bytes_at, SameOutside, Writes}
use Rattle.slot_store.specs.Layout.{start_of, header_at, headers_of, stored_at, stored_in, current, contents, is_foreign, spare, new_generation, header_of, with_header, slot_body, MayClose, Closes}
use Rattle.slot_store.specs.Crashes.{HoldsEither}
use Rattle.slot_store.proofs.Images.{apart, one_of, widen, same_again, headers_kept, keeps_contents, has_new_contents, still_open}
use Rattle.slot_store.proofs.Bodies.{says_generation, says_length, says_bytes}

header_stands : (u : Slot) (s : List ℕ) → header_of (headers_of s) u ≡ header_at (start_of u) s
header_stands First s = refl
header_stands Second s = refl

-- a header by its slot
pub header_in : (h : Headers) (t : Slot) (s : List ℕ) (x : Header) → x ≡ header_of h t → h ≡ headers_of s → x.is_open ≡ (header_at (start_of t) s).is_open
header_in h t s x is read = ap (λ (y : Header). y.is_open) (is ∙ ap (λ k. header_of k t) read ∙ header_stands t s)

-- what the current slot stores, by its header
pub stored_by : (h : Headers) (t : Slot) (s : List ℕ) (x : Header) → x ≡ header_of h t → h ≡ headers_of s → current h ≡ Some t
    → bytes_at (start_of t + 10) (min x.length 65536) s ≡ contents s
stored_by h t s x is read now =
    ap (λ (y : Header). bytes_at (start_of t + 10) (min y.length 65536) s) (is ∙ ap (λ k. header_of k t) read ∙ header_stands t s)
    ∙ sym (ap (λ o. stored_in o s) (ap current (sym read) ∙ now))

-- a save of these bytes over the image s, whose headers are h, into the slot t with the generation g
module _ (s bytes : List ℕ) (own : is_foreign s ≡ false) (fits : length bytes ≤ 65536) (h : Headers) (t : Slot) (g : ℕ)
    (read : h ≡ headers_of s) (is_spare : t ≡ spare h) (is_new : g ≡ new_generation h) where
  which : t ≡ spare (headers_of s)
  which = is_spare ∙ ap spare read

  newer : g ≡ new_generation (headers_of s)
  newer = is_new ∙ ap new_generation read

  as_before : (c : List ℕ) → c ≡ s → HoldsEither (contents s) bytes c
  as_before c is = (ap is_foreign is ∙ own, inl (ap contents is))

  kept : (c : List ℕ) → SameOutside (start_of t) 65546 s c → (header_at (start_of t) c).is_open ≡ false → HoldsEither (contents s) bytes c
  kept c same shut =
      let says = subst (λ u. SameOutside (start_of u) 65546 s c → (header_at (start_of u) c).is_open ≡ false → (is_foreign c ≡ false) × (contents c ≡ contents s))
      (sym which) (keeps_contents s c own) same shut in
      (says.0, inl says.1)

  new_contents_in : (c : List ℕ) → SameOutside (start_of t) 65546 s c → (header_at (start_of t) c).is_open ≡ true → (header_at (start_of t) c).generation ≡ g
      → (header_at (start_of t) c).length ≤ 65536 → (is_foreign c ≡ false) × (contents c ≡ stored_at (start_of t) c)
  new_contents_in c same is_open generation short =
      subst (λ u. SameOutside (start_of u) 65546 s c → (header_at (start_of u) c).is_open ≡ true → (header_at (start_of u) c).generation ≡ new_generation (headers_of s)
      → (header_at (start_of u) c).length ≤ 65536 → (is_foreign c ≡ false) × (contents c ≡ stored_at (start_of u) c))
      (sym which) (has_new_contents s c own) same is_open (generation ∙ newer) short

  -- while the flag is closed
  pub closing : (is_open : Bool) (c : List ℕ) → is_open ≡ (header_at (start_of t) s).is_open → MayClose (start_of t) is_open s c → HoldsEither (contents s) bytes c
  closing is_open c says (inl is) = as_before c is
  closing is_open c says (inr torn) = elim (cases_Bool (header_at (start_of t) c).is_open) [
    | inl still ↦ as_before c (still_open (start_of t) s c torn.1 (sym says ∙ torn.0) still)
    | inr shut ↦ kept c (widen _ 1 _ 65546 s c torn.1 (omega arith) (omega arith)) shut
  ]

  module _ (s1 : List ℕ) (closes : Closes (start_of t) s s1) where
    -- all but the flag is written
    in_slot : (n : ℕ) (c : List ℕ) → n ≤ 65536 → SameOutside (start_of t + 1) (9 + n) s1 c → SameOutside (start_of t) 65546 s c
    in_slot n c small torn =
        same_again _ 65546 s s1 c (widen _ 1 _ 65546 s s1 closes.outside (omega arith) (omega arith)) (widen _ (9 + n) _ 65546 s1 c torn (omega arith) (omega arith))

    flag_kept : (n : ℕ) (c : List ℕ) → SameOutside (start_of t + 1) (9 + n) s1 c → (header_at (start_of t) c).is_open ≡ false
    flag_kept n c torn = ap (λ f. f == 165) (torn.bytes (start_of t) (inl (omega arith))) ∙ closes.closed

    -- while the rest of the slot is written
    pub staging : (c : List ℕ) → SameOutside (start_of t + 1) (9 + length bytes) s1 c → HoldsEither (contents s) bytes c
    staging c torn = kept c (in_slot (length bytes) c fits torn) (flag_kept (length bytes) c torn)

    module _ (s2 : List ℕ) (writes : Writes (start_of t + 1) (slot_body g bytes) s1 s2) where
      staged_in_slot : SameOutside (start_of t) 65546 s s2
      staged_in_slot =
          let n : length (slot_body g bytes) ≡ 9 + length bytes = omega arith in
          in_slot (length bytes) s2 fits (subst (λ m. SameOutside (start_of t + 1) m s1 s2) n writes.outside)

      flag_alone : (c : List ℕ) → SameOutside (start_of t) 1 s2 c → SameOutside (start_of t) 65546 s c
      flag_alone c torn = same_again _ 65546 s s2 c staged_in_slot (widen _ 1 _ 65546 s2 c torn (omega arith) (omega arith))

      generation_is : (c : List ℕ) → SameOutside (start_of t) 1 s2 c → (header_at (start_of t) c).generation ≡ g
      generation_is c torn = torn.bytes (start_of t + 1) (inr (omega arith)) ∙ says_generation (start_of t) g bytes s2 fits writes.inside

      same_length : (c : List ℕ) → SameOutside (start_of t) 1 s2 c → (header_at (start_of t) c).length ≡ (header_at (start_of t) s2).length
      same_length c torn = ap (λ l. from_le_bytes w64 l) (apart _ 1 (start_of t + 2) 8 s2 c torn (inr (omega arith)))

      length_is : (c : List ℕ) → SameOutside (start_of t) 1 s2 c → (header_at (start_of t) c).length ≡ length bytes
      length_is c torn = same_length c torn ∙ says_length (start_of t) g bytes s2 fits writes.inside

      bytes_are : (c : List ℕ) → SameOutside (start_of t) 1 s2 c → stored_at (start_of t) c ≡ bytes
      bytes_are c torn =
          ap (λ n. bytes_at (start_of t + 10) (min n 65536) c) (same_length c torn)
          ∙ apart _ 1 (start_of t + 10) _ s2 c torn (inr (omega arith))
          ∙ says_bytes (start_of t) g bytes s2 fits writes.inside

      new_contents : (c : List ℕ) → SameOutside (start_of t) 1 s2 c → (header_at (start_of t) c).is_open ≡ true → (is_foreign c ≡ false) × (contents c ≡ bytes)
      new_contents c torn is_open =
          let says = new_contents_in c (flag_alone c torn) is_open (generation_is c torn) (omega (arith, length_is c torn, fits)) in
          (says.0, says.1 ∙ bytes_are c torn)

      -- while the flag is opened
      pub opening : (c : List ℕ) → SameOutside (start_of t) 1 s2 c → HoldsEither (contents s) bytes c
      opening c torn = elim (cases_Bool (header_at (start_of t) c).is_open) [
        | inl is_open ↦ let says = new_contents c torn is_open in (says.0, inr says.1)
        | inr shut ↦ kept c (flag_alone c torn) shut
      ]

      module _ (s3 : List ℕ) (opens : Writes (start_of t) (165 ∷ []) s2 s3) where
        is_opened : (header_at (start_of t) s3).is_open ≡ true
        is_opened = eq-eqb _ 165 (one_of (start_of t) 1 0 _ s3 (165 ∷ []) (omega arith) opens.inside (omega arith))

        -- and then it is
        pub saved : (is_foreign s3 ≡ false) × (contents s3 ≡ bytes)
        saved = new_contents s3 opens.outside is_opened

        pub new_headers : headers_of s3 ≡ with_header h t (record { is_open = true; generation = g; length = length bytes })
        new_headers =
            let o = is_opened in
            let e = generation_is s3 opens.outside in
            let n = length_is s3 opens.outside in
            headers_kept t s s3 (flag_alone s3 opens.outside)
            ∙ ap (λ (x : Header). with_header (headers_of s) t x) (λ i. record { is_open = o i; generation = e i; length = n i })
            ∙ ap (λ k. with_header k t (record { is_open = true; generation = g; length = length bytes })) (sym read)
