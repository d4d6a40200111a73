-- What a store holds after a crash.
use Rattle.std.specs.Prelude.{◌≡◌, ◌⊎◌, ℕ, List, false}
use Rattle.std.specs.Option.{ForSome}
use Rattle.std.specs.declared.option.Option.{Option}
use Rattle.slot_store.specs.declared.headers.Headers.{Headers}
use Rattle.slot_store.specs.Disks.{LeavesAlone}
use Rattle.slot_store.specs.Layout.{contents, headers_of, is_foreign}

-- a crash may leave an image that holds these bytes
abbrev pub MayHold : (List ℕ → Type 0) → List ℕ → Type 0
MayHold may_leave bytes = (image : List ℕ) × may_leave image × (contents image ≡ bytes)

-- each crash leaves an image that holds these bytes
abbrev pub Holds : (List ℕ → Type 0) → List ℕ → Type 0
Holds may_leave bytes = (image : List ℕ) → may_leave image → contents image ≡ bytes

-- an image that isn't foreign, and holds what it could hold at first
abbrev pub HoldsAsBefore : (List ℕ → Type 0) → List ℕ → Type 0
HoldsAsBefore may_leave image = (is_foreign image ≡ false) × MayHold may_leave (contents image)

-- an image that isn't foreign, and holds what it could hold at first, or these bytes
abbrev pub HoldsAsBeforeOr : List ℕ → (List ℕ → Type 0) → List ℕ → Type 0
HoldsAsBeforeOr bytes may_leave image = (is_foreign image ≡ false)
    × (MayHold may_leave (contents image) ⊎ (contents image ≡ bytes))

-- what a keeper knows of its disk: no image that a crash may leave is foreign, and where it knows the headers they are
-- those of the one image that a crash leaves
pub record IsSound (seen : List ℕ) (may_leave : List ℕ → Type 0) (known : Option Headers) : Type 0 where
  pub never_foreign : (image : List ℕ) → may_leave image → is_foreign image ≡ false
  pub durable : ForSome known (λ headers. LeavesAlone seen may_leave × (headers ≡ headers_of seen))

-- what was read of a disk: the headers of the one image that a crash leaves, which isn't foreign
pub record IsRead (headers : Headers) (seen : List ℕ) (may_leave : List ℕ → Type 0) : Type 0 where
  pub alone : LeavesAlone seen may_leave
  pub read : headers ≡ headers_of seen
  pub own : is_foreign seen ≡ false

-- an image that isn't foreign, and holds one of the two
abbrev pub HoldsEither : List ℕ → List ℕ → List ℕ → Type 0
HoldsEither old bytes image = (is_foreign image ≡ false) × ((contents image ≡ old) ⊎ (contents image ≡ bytes))
