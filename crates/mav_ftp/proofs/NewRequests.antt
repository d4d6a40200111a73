-- A stream's next request is served, unless it is the same as its last one.
use Rattle.std.proofs.Common.{◌≡◌, ℕ, ◌<◌, ◌^◌, true, false, List, Option, Some, None, if◌then◌else◌, refl, ap, sym, ◌∙◌, arith}
use Rattle.std.specs.Str.{bytes_eq}
use Rattle.std.proofs.lemmas.Slice.Eq.{bytes_eq-Decides}
use Rattle.mav_names.specs.declared.names.Stream.{Stream}
use Rattle.mav_ftp.specs.declared.payload.FtpFields.{FtpFields}
use Rattle.mav_ftp.specs.declared.exchanges.Exchange.{Exchange}
use Rattle.mav_ftp.specs.Payload.{ftp_payload, fields_of}
use Rattle.mav_ftp.specs.Replies.{next_seq}
use Rattle.mav_ftp.specs.Client.{Transfer, request_seq, offset_of, request_data, request_fields, transfer_request}
use Rattle.mav_ftp.specs.Exchanges.{is_of, exchange_at, same_request, kept_reply, is_full_for, exchanged_at, with_exchange}
use Rattle.mav_ftp.proofs.KeptExchanges.{same_self}
use Rattle.mav_ftp.proofs.Found.{found_last, found_set, last_is, set_is, inside_by}
use Rattle.mav_ftp.proofs.ReadBack.{numbers_back}

-- the stream has room, and the request isn't its last one
pub record IsFresh (exchanges : List Exchange) (from : Stream) (request : List ℕ) : Type 0 where
  pub room : is_full_for exchanges from ≡ false
  pub other : kept_reply exchanges from request ≡ None

-- the stream's last exchange
pub record IsKept (exchanges : List Exchange) (e : Exchange) : Type 0 where
  pub room : is_full_for exchanges e.stream ≡ false
  pub reply : (request : List ℕ) → kept_reply exchanges e.stream request ≡ same_request request (Some e)

kept_at : (exchanges : List Exchange) (e : Exchange) (place : Option ℕ) → exchange_at exchanges e.stream ≡ place → IsKept (exchanged_at exchanges e place) e
kept_at exchanges e None none =
    let at = found_last (is_of e.stream) exchanges e none (same_self e.stream) in
    record { room = rw at refl; reply = λ request. rw (at, last_is exchanges e) refl }
kept_at exchanges e (Some index) some =
    let at = found_set (is_of e.stream) exchanges index e some (same_self e.stream) in
    record { room = rw at refl; reply = λ request. rw (at, set_is exchanges index e (inside_by (is_of e.stream) exchanges index e some)) refl }

pub is_kept : (exchanges : List Exchange) (e : Exchange) → IsKept (with_exchange exchanges e) e
is_kept exchanges e = kept_at exchanges e (exchange_at exchanges e.stream) refl

-- the same request gets the same reply
pub kept_again : (exchanges : List Exchange) (e : Exchange) → kept_reply (with_exchange exchanges e) e.stream e.request ≡ Some e.reply
kept_again exchanges e =
    (is_kept exchanges e).reply e.request ∙ ap (λ b. if b then Some e.reply else None) ((bytes_eq-Decides e.request e.request).1 refl)

-- two requests with different sequence numbers differ
two_on : (n : ℕ) → n < 2 ^ 16 → n ≡ next_seq (next_seq n) → ⊥
two_on n h e = omega arith

differ : (f g : FtpFields) (a b : List ℕ) → f.seq < 2 ^ 16 → g.seq < 2 ^ 16 → f.offset < 2 ^ 32 → g.offset < 2 ^ 32
    → g.seq ≡ next_seq (next_seq f.seq) → bytes_eq (ftp_payload f a) (ftp_payload g b) ≡ false
differ f g a b fs gs fo go later =
    elim (bytes_eq (ftp_payload f a) (ftp_payload g b)) as (λ t. bytes_eq (ftp_payload f a) (ftp_payload g b) ≡ t → t ≡ false) [
      | false ↦ λ e. refl
      | true ↦ λ e.
          let same : ftp_payload f a ≡ ftp_payload g b = (bytes_eq-Decides (ftp_payload f a) (ftp_payload g b)).0 e in
          let fields : f ≡ g = sym (numbers_back f a fs fo) ∙ ap fields_of same ∙ numbers_back g b gs go in
          absurd (two_on f.seq fs (ap (λ (h : FtpFields). h.seq) fields ∙ later))
    ] refl

-- the request of a transfer has a small offset
abbrev pub IsSmall : Transfer → Type 0
IsSmall t = offset_of t t.phase < 2 ^ 32

pub seq_small : (last : Option ℕ) → request_seq last < 2 ^ 16
seq_small None = omega arith
seq_small (Some seq) = omega arith

pub next_small : (seq : ℕ) → next_seq seq < 2 ^ 16
next_small seq = omega arith

-- after an exchange the next request is served
pub fresh_next : (exchanges : List Exchange) (from : Stream) (seq : ℕ) (t next : Transfer) (reply : List ℕ)
    → seq < 2 ^ 16 → IsSmall t → IsSmall next
    → IsFresh (with_exchange exchanges (record { stream = from; request = transfer_request seq t; reply = reply })) from (transfer_request (next_seq (next_seq seq)) next)
fresh_next exchanges from seq t next reply small of_t of_next =
    let request = transfer_request seq t in
    let later = transfer_request (next_seq (next_seq seq)) next in
    let last = is_kept exchanges (record { stream = from; request = request; reply = reply }) in
    let other = differ (request_fields seq t) (request_fields (next_seq (next_seq seq)) next) (request_data t t.phase) (request_data next next.phase) small (next_small (next_seq seq)) of_t of_next refl in
    record { room = last.room; other = last.reply later ∙ ap (λ b. if b then Some reply else None) other }
