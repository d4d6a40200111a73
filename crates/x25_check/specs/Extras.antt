-- The CRC_EXTRA byte of each message id, as a list of pairs.
use Rattle.std.specs.Prelude.{ℕ, List, [], ◌∷◌, find, Option, Some, None, option_map, ◌==◌, map}

-- the message ids of the pairs, in order
abbrev pub ids : List (ℕ × ℕ) → List ℕ
ids pairs = map (λ (pair : ℕ × ℕ). pair.0) pairs

-- the CRC_EXTRA byte that is paired with an id, or none if the id isn't there
abbrev pub extra_of : ℕ → List (ℕ × ℕ) → Option ℕ
extra_of id pairs = option_map (λ (pair : ℕ × ℕ). pair.1) (find (λ (pair : ℕ × ℕ). pair.0 == id) pairs)

-- the CRC_EXTRA byte of each message of the profile, as the common message set publishes them
abbrev pub profile_pairs : List (ℕ × ℕ)
profile_pairs =
    (0, 50) ∷
    (4, 237) ∷
    (20, 214) ∷
    (21, 159) ∷
    (22, 220) ∷
    (23, 168) ∷
    (33, 104) ∷
    (42, 28) ∷
    (43, 132) ∷
    (44, 221) ∷
    (45, 232) ∷
    (46, 11) ∷
    (47, 153) ∷
    (51, 196) ∷
    (73, 38) ∷
    (76, 152) ∷
    (77, 143) ∷
    (110, 84) ∷
    (253, 83) ∷ []

-- the pairs of a table with a list of its own, or else those of the profile
abbrev pub pairs_of : Option (List (ℕ × ℕ)) → List (ℕ × ℕ)
pairs_of (Some own) = own
pairs_of None = profile_pairs
