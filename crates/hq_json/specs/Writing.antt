-- What is written at the end of a body.
-- Inner: it serves proofs alone, and no promise rests on it.
use Rattle.std.specs.Prelude.{◌++◌, ◌<◌, ◌^◌, ⊤, ℕ, IsUtf8, List, Result, Ok, Err, map}
use Rattle.serde_json.specs.Data.{Data, null, boolean, string, array}
use Rattle.serde_json.specs.View.{items_of}
use Rattle.serde_json.specs.Written.{compact_text}
use Rattle.hq_values.specs.Refusals.{refusal_number, refusal_name}
use Rattle.hq_values.specs.declared.failure.Refusal.{Refusal}
use Rattle.hq_values.specs.declared.failure.Refusal.TheVariants.{AttemptAhead, BadCsv}
use Rattle.hq_values.specs.declared.failure.Refusal.TheVariants.{DoubledPattern}
use Rattle.hq_values.specs.declared.failure.Refusal.TheVariants.{BadDirectory, DoubledName}
use Rattle.hq_values.specs.declared.failure.Refusal.TheVariants.{DoubledKey}
use Rattle.hq_rules.specs.declared.answer.Answer.{Answer}
use Rattle.hq_rules.specs.declared.answer.Answer.TheVariants.{Refused}
use Rattle.hq_json.specs.AttemptReplies.{due_entry}
use Rattle.hq_json.specs.HistoryReplies.{end_entry}
use Rattle.hq_json.specs.NoticeReplies.{notice_entry}
use Rattle.hq_json.specs.Objects.{count, id, texts, addresses}
use Rattle.hq_json.specs.Replies.{entry, pending_list}
use Rattle.hq_json.specs.TableReplies.{refused_list, line_entry}
use Rattle.hq_json.specs.declared.values.Plain.{Plain}
use Rattle.hq_json.specs.declared.values.Plain.TheVariants.{Count, Text, Flag, Null, Id, Addresses}
use Rattle.hq_json.specs.declared.values.Plain.TheVariants.{Keys, Receivers}
use Rattle.hq_json.specs.declared.values.Part.{Part}
use Rattle.hq_json.specs.declared.values.Part.TheVariants as part

-- the body after a call: this value's text stands behind what was there; where memory was refused
-- it is whatever it is
unfoldable pub after : {E : Type 0} → Result ⊤ E → List ℕ → List ℕ → Data → List ℕ
after (Ok x) old new value = old ++ compact_text value
after (Err e) old new value = new

abbrev pub plain_data : Plain → Data
plain_data (Count n) = count n
plain_data (Text text) = string text.now
plain_data (Flag flag) = boolean flag
plain_data Null = null
plain_data (Id serial) = id serial
plain_data (Addresses ps) = addresses ps.now
plain_data (Keys keys) = texts keys.now
plain_data (Receivers receivers) = texts receivers.now

abbrev pub part_data : Part → Data
part_data (part.One value) = plain_data value
part_data (part.Messages ms) = array (items_of (map entry ms.now))
part_data (part.Due ms) = array (items_of (map due_entry ms.now))
part_data (part.Pending ps) = pending_list ps.now
part_data (part.Refused rs) = refused_list rs.now
part_data (part.Lines ls) = array (items_of (map line_entry ls.now))
part_data (part.Notices ns) = array (items_of (map notice_entry ns.now))
part_data (part.Ends es) = array (items_of (map end_entry es.now))

-- its number and its name can be read back
abbrev pub Tellable : Refusal → Type 0
Tellable r = (refusal_number r < 2 ^ 64) × IsUtf8 (refusal_name r)

-- and so can its row or its attempts
abbrev pub DetailFits : Refusal → Type 0
DetailFits (AttemptAhead attempts) = attempts < 2 ^ 64
DetailFits (BadCsv row) = row < 2 ^ 64
DetailFits (DoubledPattern row) = row < 2 ^ 64
DetailFits (BadDirectory row) = row < 2 ^ 64
DetailFits (DoubledName row) = row < 2 ^ 64
DetailFits (DoubledKey row) = row < 2 ^ 64
DetailFits _ = ⊤

-- all that a refusal has can be read back
abbrev pub AnswerReads : Answer → Type 0
AnswerReads (Refused r) = Tellable r × DetailFits r
AnswerReads _ = ⊤
