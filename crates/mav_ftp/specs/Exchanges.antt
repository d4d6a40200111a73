-- The last request of each stream and its reply, so that a request that is sent again is served once.
use Rattle.std.specs.Prelude.{ℕ, nat_lt, not, if◌then◌else◌, Bool, false, List, [], ◌∷◌, ◌++◌, length, position}
use Rattle.std.specs.Prelude.{slice_get, slice_set, Option, Some, None}
use Rattle.std.specs.Str.{bytes_eq}
use Rattle.mav_names.specs.declared.names.Stream.{Stream}
use Rattle.mav_names.specs.Addresses.{same_stream}
use Rattle.mav_ftp.specs.declared.exchanges.Exchange.{Exchange}

-- this profile's limit
abbrev pub most_streams : ℕ
most_streams = 256

abbrev pub is_of : Stream → Exchange → Bool
is_of from e = same_stream e.stream from

abbrev pub exchange_at : List Exchange → Stream → Option ℕ
exchange_at kept from = position (is_of from) kept

-- the reply to the stream's last request, if this is the same request in all its bytes
abbrev pub same_request : List ℕ → Option Exchange → Option (List ℕ)
same_request payload None = None
same_request payload (Some e) = if bytes_eq e.request payload then Some e.reply else None

abbrev pub reply_at : List Exchange → List ℕ → Option ℕ → Option (List ℕ)
reply_at kept payload None = None
reply_at kept payload (Some index) = same_request payload (slice_get kept index)

abbrev pub kept_reply : List Exchange → Stream → List ℕ → Option (List ℕ)
kept_reply kept from payload = reply_at kept payload (exchange_at kept from)

-- the stream is new, and no further one can be kept
abbrev pub is_full_at : List Exchange → Option ℕ → Bool
is_full_at kept None = not (nat_lt (length kept) most_streams)
is_full_at kept (Some index) = false

abbrev pub is_full_for : List Exchange → Stream → Bool
is_full_for kept from = is_full_at kept (exchange_at kept from)

-- an exchange takes the place of the stream's last one
abbrev pub exchanged_at : List Exchange → Exchange → Option ℕ → List Exchange
exchanged_at kept e None = kept ++ e ∷ []
exchanged_at kept e (Some index) = slice_set kept index e

abbrev pub with_exchange : List Exchange → Exchange → List Exchange
with_exchange kept e = exchanged_at kept e (exchange_at kept e.stream)
