-- The exchange that was kept last is found.
use Rattle.std.proofs.Common.{◌≡◌, true, false, if◌then◌else◌, ℕ, List, [], ◌∷◌, ◌++◌, length, Some, None, refl, ap, ◌∙◌, arith}
use Rattle.std.specs.Prelude.{slice_get}
use Rattle.std.specs.Str.{bytes_eq}
use Rattle.std.proofs.Math.ListN.{set}
use Rattle.mav_ftp.proofs.Found.{found_last, last_is, found_set, set_is, inside_by}
use Rattle.mav_names.specs.declared.names.Stream.{Stream}
use Rattle.mav_names.specs.Addresses.{same_stream}
use Rattle.mav_ftp.specs.declared.exchanges.Exchange.{Exchange}
use Rattle.mav_ftp.specs.Exchanges.{is_of, exchange_at, exchanged_at, with_exchange, same_request, reply_at, kept_reply, is_full_at, is_full_for}

-- the stream's last request
pub record IsLast (kept : List Exchange) (from : Stream) (last : List ℕ) : Type 0 where
  pub index : ℕ
  pub exchange : Exchange
  pub at : exchange_at kept from ≡ Some index
  pub is : slice_get kept index ≡ Some exchange
  pub request : exchange.request ≡ last

pub same_self : (s : Stream) → same_stream s s ≡ true
same_self s = grind arith

kept_new : (kept : List Exchange) (e : Exchange) → exchange_at kept e.stream ≡ None → IsLast (kept ++ e ∷ []) e.stream e.request
kept_new kept e none = record {
  index = length kept;
  exchange = e;
  at = found_last (is_of e.stream) kept e none (same_self e.stream);
  is = last_is kept e;
  request = refl;
}

kept_over : (kept : List Exchange) (e : Exchange) (i : ℕ) → exchange_at kept e.stream ≡ Some i → IsLast (set kept i e) e.stream e.request
kept_over kept e i some = record {
  index = i;
  exchange = e;
  at = found_set (is_of e.stream) kept i e some (same_self e.stream);
  is = set_is kept i e (inside_by (is_of e.stream) kept i e some);
  request = refl;
}

pub kept_last : (kept : List Exchange) (e : Exchange) → IsLast (with_exchange kept e) e.stream e.request
kept_last kept e =
    elim (exchange_at kept e.stream) as (λ at. exchange_at kept e.stream ≡ at → IsLast (exchanged_at kept e at) e.stream e.request) [
      | None ↦ λ none. kept_new kept e none
      | Some i ↦ λ some. kept_over kept e i some
    ] refl

-- so another request is new, and there is room for it
pub fresh_after : (kept : List Exchange) (from : Stream) (last payload : List ℕ) → IsLast kept from last → bytes_eq last payload ≡ false → kept_reply kept from payload ≡ None
fresh_after kept from last payload h other =
    let apart : bytes_eq h.exchange.request payload ≡ false = ap (λ r. bytes_eq r payload) h.request ∙ other in
    ap (reply_at kept payload) h.at ∙ (ap (same_request payload) h.is ∙ ap (λ t. if t then Some h.exchange.reply else None) apart)

pub known_after : (kept : List Exchange) (from : Stream) (last : List ℕ) → IsLast kept from last → is_full_for kept from ≡ false
known_after kept from last h = ap (is_full_at kept) h.at
