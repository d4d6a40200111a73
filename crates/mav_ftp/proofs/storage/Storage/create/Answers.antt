use Rattle.std.proofs.Common.{◌≡◌, ℕ, ◌<◌, Bool, true, false, not, if◌then◌else◌, List, [], Option, Some, None, Fits, w8, refl, sym, ap, ◌∙◌, arith}
use Rattle.std.specs.Prelude.{is_some}
use Rattle.mav_names.specs.declared.names.Stream.{Stream}
use Rattle.mav_ftp.specs.declared.payload.FtpFields.{FtpFields}
use Rattle.mav_ftp.specs.Payload.{fail, file_exists, is_file_name}
use Rattle.mav_ftp.specs.Files.{File, file_at}
use Rattle.mav_ftp.specs.Sessions.{Session, free_session}
use Rattle.mav_ftp.specs.Steps.{Storage, Served, refuses, with_session, creates, creates_in}
use Rattle.mav_ftp.proofs.storage.Storage.create.Goals as goal

unnamed : (b : Bool) (name : List ℕ) (r : Option (List ℕ)) → r ≡ (if b then Some name else None) → r ≡ None → b ≡ false
unnamed true name r is none = cc
unnamed false name r is none = refl

named : (b : Bool) (name x : List ℕ) (r : Option (List ℕ)) → r ≡ (if b then Some name else None) → r ≡ Some x → (b ≡ true) × (x ≡ name)
named true name x r is some = (refl, cc)
named false name x r is some = absurd (cc)

fails : (st : Storage) (from : Stream) (r : FtpFields) (name : List ℕ) → is_file_name name ≡ false → creates st from r name ≡ refuses st r fail
fails st from r name e = λ k. if not (e k) then refuses st r fail else if is_some (file_at st.files name) then refuses st r file_exists else creates_in st from r name (free_session st.sessions)

exists : (st : Storage) (from : Stream) (r : FtpFields) (name : List ℕ) → is_file_name name ≡ true → is_some (file_at st.files name) ≡ true → creates st from r name ≡ refuses st r file_exists
exists st from r name e f = λ k. if not (e k) then refuses st r fail else if f k then refuses st r file_exists else creates_in st from r name (free_session st.sessions)

makes : (st : Storage) (from : Stream) (r : FtpFields) (name : List ℕ) (slot : Option ℕ) → is_file_name name ≡ true → is_some (file_at st.files name) ≡ false → free_session st.sessions ≡ slot → creates st from r name ≡ creates_in st from r name slot
makes st from r name slot e f g = λ k. if not (e k) then refuses st r fail else if f k then refuses st r file_exists else creates_in st from r name (g k)

found : (files : List File) (name x : List ℕ) (b want : Bool) → x ≡ name → b ≡ is_some (file_at files x) → b ≡ want → is_some (file_at files name) ≡ want
found files name x b want n is at = (λ k. is_some (file_at files (sym n k))) ∙ (sym is ∙ at)

free_at : (st v : Storage) (slot want : Option ℕ) → v ≡ st → slot ≡ free_session v.sessions → slot ≡ want → free_session st.sessions ≡ want
free_at st v slot want view is at = (λ k. free_session (sym view k).sessions) ∙ (sym is ∙ at)

-- the storage with a new session
opened : (st v : Storage) (from : Stream) (number : ℕ) (name x : List ℕ) (s : Session) (sessions : List (Option Session)) → v ≡ st → x ≡ name → s ≡ record { stream = from; name = Some x; bytes = [] } → sessions ≡ (with_session v number (Some s)).sessions
    → (let t : Storage = record { files = v.files; sessions = sessions } in t) ≡ with_session st number (Some (record { stream = from; name = Some name; bytes = [] }))
opened st v from number name x s sessions view n is set =
    (λ k. record { files = v.files; sessions = set k })
    ∙ ((λ k. with_session v number (Some (is k)))
    ∙ (λ k. with_session (view k) number (Some (record { stream = from; name = Some (n k); bytes = [] }))))

small : (n : ℕ) → n < 4 → Fits w8 n
small n few = omega arith

pub returns-in_default-clause-storage : goal.returns-in_default-clause-storage
returns-in_default-clause-storage c =
    let name = c.args.name.now in
    sym (ap (λ (t : Served). t.storage) (fails c.args.self.now c.args.from c.args.request.now name (unnamed _ name _ c.of.ensures c.in_default.is)))

pub returns-in_default-clause-reply : goal.returns-in_default-clause-reply
returns-in_default-clause-reply c =
    let name = c.args.name.now in
    c.nak.ensures ∙ sym (ap (λ (t : Served). t.reply) (fails c.args.self.now c.args.from c.args.request.now name (unnamed _ name _ c.of.ensures c.in_default.is)))

pub returns-then-has_file-clause-storage : goal.returns-then-has_file-clause-storage
returns-then-has_file-clause-storage c =
    let name = c.args.name.now in let n = named (is_file_name name) name c.in-Some.name c.of.result c.of.ensures c.in-Some.is in
    let f = found c.args.self.now.files name c.in-Some.name c.has_file.result true n.1 c.has_file.ensures c.if-has_file.true in
    sym (ap (λ (t : Served). t.storage) (exists c.args.self.now c.args.from c.args.request.now name n.0 f))

pub returns-then-has_file-clause-reply : goal.returns-then-has_file-clause-reply
returns-then-has_file-clause-reply c =
    let name = c.args.name.now in let n = named (is_file_name name) name c.in-Some.name c.of.result c.of.ensures c.in-Some.is in
    let f = found c.args.self.now.files name c.in-Some.name c.has_file.result true n.1 c.has_file.ensures c.if-has_file.true in
    c.nak-then-has_file.ensures ∙ sym (ap (λ (t : Served). t.reply) (exists c.args.self.now c.args.from c.args.request.now name n.0 f))

pub returns-in_default-free-clause-storage : goal.returns-in_default-free-clause-storage
returns-in_default-free-clause-storage c =
    let name = c.args.name.now in let n = named (is_file_name name) name c.in-Some.name c.of.result c.of.ensures c.in-Some.is in
    let f = found c.args.self.now.files name c.in-Some.name c.has_file.result false n.1 c.has_file.ensures c.if-has_file.false in
    let g = free_at c.args.self.now _ c.free.result None c.self.view_is c.free.ensures.free c.in_default-free.is in
    sym (ap (λ (t : Served). t.storage) (makes c.args.self.now c.args.from c.args.request.now name None n.0 f g))

pub returns-in_default-free-clause-reply : goal.returns-in_default-free-clause-reply
returns-in_default-free-clause-reply c =
    let name = c.args.name.now in let n = named (is_file_name name) name c.in-Some.name c.of.result c.of.ensures c.in-Some.is in
    let f = found c.args.self.now.files name c.in-Some.name c.has_file.result false n.1 c.has_file.ensures c.if-has_file.false in
    let g = free_at c.args.self.now _ c.free.result None c.self.view_is c.free.ensures.free c.in_default-free.is in
    c.nak-in_default-free.ensures ∙ sym (ap (λ (t : Served). t.reply) (makes c.args.self.now c.args.from c.args.request.now name None n.0 f g))

pub open-requires : goal.open-requires
open-requires c = c.in-Some-free.ensures.inside

pub overflow_cast-number : goal.overflow_cast-number
overflow_cast-number c = small c.in-Some-free.number c.in-Some-free.ensures.inside

pub returns-clause-storage : goal.returns-clause-storage
returns-clause-storage c =
    let name = c.args.name.now in let n = named (is_file_name name) name c.in-Some.name c.of.result c.of.ensures c.in-Some.is in
    let number = c.in-Some-free.number in
    let f = found c.args.self.now.files name c.in-Some.name c.has_file.result false n.1 c.has_file.ensures c.if-has_file.false in
    let g = free_at c.args.self.now _ c.free.result (Some number) c.self.view_is c.free.ensures.free c.in-Some-free.is in
    opened c.args.self.now _ c.args.from number name c.in-Some.name c.write.result c.open.new.self c.self.view_is n.1 c.write.ensures c.open.ensures
    ∙ sym (ap (λ (t : Served). t.storage) (makes c.args.self.now c.args.from c.args.request.now name (Some number) n.0 f g))

pub returns-clause-reply : goal.returns-clause-reply
returns-clause-reply c =
    let name = c.args.name.now in let n = named (is_file_name name) name c.in-Some.name c.of.result c.of.ensures c.in-Some.is in
    let number = c.in-Some-free.number in
    let f = found c.args.self.now.files name c.in-Some.name c.has_file.result false n.1 c.has_file.ensures c.if-has_file.false in
    let g = free_at c.args.self.now _ c.free.result (Some number) c.self.view_is c.free.ensures.free c.in-Some-free.is in
    c.ack.ensures ∙ sym (ap (λ (t : Served). t.reply) (makes c.args.self.now c.args.from c.args.request.now name (Some number) n.0 f g))
