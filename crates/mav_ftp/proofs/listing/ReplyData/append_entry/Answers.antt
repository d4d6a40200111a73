use Rattle.std.proofs.Common.{◌≡◌, ℕ, List, [], ◌∷◌, ◌++◌, length, ap, ◌∙◌, append_assoc}
use Rattle.std.specs.Fmt.{decimal}
use Rattle.mav_ftp.proofs.listing.ReplyData.append_entry.Goals as goal

-- five pieces were appended
pieces : (o o1 o2 o3 o4 o5 name digits : List ℕ) → o1 ≡ o ++ 70 ∷ [] → o2 ≡ o1 ++ name → o3 ≡ o2 ++ 9 ∷ [] → o4 ≡ o3 ++ digits → o5 ≡ o4 ++ 0 ∷ [] → o5 ≡ o ++ (70 ∷ (name ++ (9 ∷ (digits ++ 0 ∷ []))))
pieces o o1 o2 o3 o4 o5 name digits e1 e2 e3 e4 e5 = simp (e5, e4, e3, e2, e1, append_assoc)

pub returns-clause-bytes : goal.returns-clause-bytes
returns-clause-bytes c =
    let old = c.args.self.now in
    let name = c.name-name.ensures.name in
    let digits = c.as_bytes-size.ensures.value ∙ (c.format.ensures.text ∙ ap (λ (bytes : List ℕ). decimal (length bytes)) c.bytes.ensures.bytes) in
    pieces old c.append.new.self c.append-2.new.self c.append-3.new.self c.append-4.new.self c.append-5.new.self c.name-name.result.now c.as_bytes-size.result.now c.append.ensures c.append-2.ensures c.append-3.ensures c.append-4.ensures c.append-5.ensures
    ∙ (λ i. old ++ (70 ∷ (name i ++ (9 ∷ (digits i ++ 0 ∷ [])))))
