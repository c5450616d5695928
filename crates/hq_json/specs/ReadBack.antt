-- What is read back from the text of an answer.
use Rattle.std.specs.Prelude.{ℕ, ⊤, ◌≡◌, List, Some, IsUtf8}
use Rattle.serde_json.specs.Read.{read}
use Rattle.hq_rules.specs.declared.answer.Answer.{Answer}
use Rattle.hq_rules.specs.declared.answer.Answer.TheVariants.{Refused}
use Rattle.hq_json.specs.Replies.{refusal_data}

-- a refusal reads back as it was
abbrev pub ReadsBack : Answer → List ℕ → Type 0
ReadsBack (Refused r) bytes = IsUtf8 bytes × (read bytes ≡ Some (refusal_data r))
ReadsBack _ bytes = ⊤
