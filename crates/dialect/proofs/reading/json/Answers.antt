use Rattle.std.proofs.Common.{◌≡◌, rules, None, ◌∙◌}
use Rattle.std.specs.Str.{IsUtf8}
use Rattle.serde_json.specs.Read.{read}
use Rattle.dialect.proofs.Faultless.{json_of-utf8, json_of-refused}
use Rattle.dialect.proofs.reading.json.Goals as goal

pub returns-in-Ok-clause-read : goal.returns-in-Ok-clause-read
returns-in-Ok-clause-read c = json_of-utf8 c.args.bytes.now c.in-Ok.ensures.ok.0 ∙ c.in-Ok.ensures.ok.1

pub returns-else-eq-clause-refused : goal.returns-else-eq-clause-refused
returns-else-eq-clause-refused c =
    let refused : IsUtf8 c.args.bytes.now → read c.args.bytes.now ≡ None = λ utf8. search rules in
    λ _. json_of-refused c.args.bytes.now refused
