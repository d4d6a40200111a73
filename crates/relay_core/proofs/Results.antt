-- What holds where a call succeeds.
use Rattle.std.proofs.Common.{Result, Ok, Err, OnErr, OnOk}

pub map_ok : {A E : Type 0} (r : Result A E) (P Q : Type 0) → (P → Q) → OnOk r P → OnOk r Q
map_ok {A} {E} (Ok x) P Q f p = f p
map_ok {A} {E} (Err e) P Q f p = tt

pub map_both : {A E : Type 0} (r : Result A E) (P Q R : Type 0) → (P → Q → R) → OnOk r P → OnOk r Q → OnOk r R
map_both {A} {E} (Ok x) P Q R f p q = f p q
map_both {A} {E} (Err e) P Q R f p q = tt

pub map_err : {A E : Type 0} (r : Result A E) (P Q : Type 0) → (P → Q) → OnErr r P → OnErr r Q
map_err {A} {E} (Ok x) P Q f p = tt
map_err {A} {E} (Err e) P Q f p = f p

pub on_err : {A E : Type 0} (r : Result A E) (P : Type 0) → P → OnErr r P
on_err {A} {E} (Ok x) P p = tt
on_err {A} {E} (Err e) P p = p
