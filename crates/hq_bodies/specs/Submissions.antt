-- The body of a submission, {"spool", "sender", "recipients", "size"}, and that of its envelope
-- alone, {"sender", "recipients", "size"}.
use Rattle.std.specs.Prelude.{ℕ, List, [], ◌∷◌, IsTrue, Result, Ok, codes, length, map}
use Rattle.serde_json.specs.Data.{Data}
use Rattle.serde_json.specs.Find.{as_object}
use Rattle.hq_values.specs.Readers.{◌>>=◌, guard, or_refuse, passes}
use Rattle.hq_values.specs.declared.failure.Refusal.{Refusal}
use Rattle.hq_values.specs.declared.failure.Refusal.TheVariants.{BadJson, BadField}
use Rattle.hq_values.specs.Addresses.{address_in}
use Rattle.hq_values.specs.Senders.{sender_in}
use Rattle.hq_values.specs.Words.{spool_in}
use Rattle.hq_rules.specs.Limits.{is_recipient_count, is_size}
use Rattle.hq_rules.specs.declared.call.Envelope.{Envelope}
use Rattle.hq_rules.specs.declared.call.Submission.{Submission}
use Rattle.hq_bodies.specs.Reading.{json_of, has_only_members, text_at, number_at, texts_at}
use Rattle.hq_bodies.specs.declared.members.EnvelopeTexts.{EnvelopeTexts}
use Rattle.hq_bodies.specs.declared.members.MessageSize.{MessageSize}
use Rattle.hq_bodies.specs.declared.members.RecipientTexts.{RecipientTexts}
use Rattle.hq_bodies.specs.declared.members.SubmissionTexts.{SubmissionTexts}

-- 1 to 100 texts
pub record Recipients : Type 0 where
  pub texts : List (List ℕ)
  pub number : IsTrue (is_recipient_count (length texts))

-- a number of bytes within its limit
pub record Size : Type 0 where
  pub bytes : ℕ
  pub limit : IsTrue (is_size bytes)

-- the members of an envelope as they stand
pub record EnvelopeFields : Type 0 where
  pub sender : List ℕ
  pub recipients : Recipients
  pub size : Size

-- the members of a submission as they stand
pub record Fields : Type 0 where
  pub spool : List ℕ
  pub envelope : EnvelopeFields

abbrev pub envelope_names : List (List ℕ)
envelope_names = codes "sender" ∷ codes "recipients" ∷ codes "size" ∷ []

abbrev pub names : List (List ℕ)
names = codes "spool" ∷ envelope_names

unfoldable pub recipients_in : Data → Result Recipients Refusal
recipients_in d = do
  texts ← or_refuse BadField (texts_at (codes "recipients") d)
  number ← passes (is_recipient_count (length texts)) BadField
  Ok (record { texts = texts; number = number })

-- a member that is a number of 64 bits
abbrev pub bytes_at : Data → Result ℕ Refusal
bytes_at d = or_refuse BadField (number_at (codes "size") 0 18446744073709551615 d)

-- within its limit
unfoldable pub size_of : Data → Result Size Refusal
size_of d = do
  bytes ← bytes_at d
  limit ← passes (is_size bytes) BadField
  Ok (record { bytes = bytes; limit = limit })

-- each member of an envelope, of its kind and in its range
unfoldable pub envelope_fields_of : Data → Result EnvelopeFields Refusal
envelope_fields_of d = do
  sender ← or_refuse BadField (text_at (codes "sender") d)
  recipients ← recipients_in d
  size ← size_of d
  Ok (record { sender = sender; recipients = recipients; size = size })

-- each member of a submission, and no other
unfoldable pub fields_of : Data → Result Fields Refusal
fields_of d = do
  known ← guard (has_only_members names (as_object d)) BadField
  spool ← or_refuse BadField (text_at (codes "spool") d)
  envelope ← envelope_fields_of d
  Ok (record { spool = spool; envelope = envelope })

-- each text is an address
abbrev pub addresses_in : List (List ℕ) → Result (List (List ℕ)) Refusal
addresses_in [] = Ok []
addresses_in (text ∷ texts) = do
  address ← address_in text
  rest ← addresses_in texts
  Ok (address ∷ rest)

-- the values of an envelope, in the order of the members; an address is its text
unfoldable pub envelope_in : EnvelopeFields → Result Envelope Refusal
envelope_in fields = do
  sender ← sender_in fields.sender
  recipients ← addresses_in fields.recipients.texts
  Ok (record {
    sender = sender;
    recipients = fields.recipients.texts;
    size = fields.size.bytes;
    number = fields.recipients.number;
    limit = fields.size.limit;
  })

-- those of a submission: the spool name first
unfoldable pub submission_of : Fields → Result Submission Refusal
submission_of fields = do
  spool ← spool_in fields.spool
  envelope ← envelope_in fields.envelope
  Ok (record {
    spool = spool;
    sender = envelope.sender;
    recipients = envelope.recipients;
    size = envelope.size;
    number = envelope.number;
    limit = envelope.limit;
  })

-- JSON, then the members, then their values
unfoldable pub read_submission : List ℕ → Result Submission Refusal
read_submission bytes = do
  d ← or_refuse BadJson (json_of bytes)
  fields ← fields_of d
  submission_of fields

-- JSON, then the members of an envelope and no other, then their values
unfoldable pub read_envelope : List ℕ → Result Envelope Refusal
read_envelope bytes = do
  d ← or_refuse BadJson (json_of bytes)
  known ← guard (has_only_members envelope_names (as_object d)) BadField
  fields ← envelope_fields_of d
  envelope_in fields

-- the members as the code holds them
abbrev pub shown_recipients : RecipientTexts → Recipients
shown_recipients r = record { texts = map (λ text. text.now) r.texts.items; number = r.number }

abbrev pub shown_size : MessageSize → Size
shown_size s = record { bytes = s.bytes; limit = s.limit }

abbrev pub envelope_shown : EnvelopeTexts → EnvelopeFields
envelope_shown t = record {
  sender = t.sender.now;
  recipients = shown_recipients t.recipients;
  size = shown_size t.size;
}

abbrev pub texts_shown : SubmissionTexts → Fields
texts_shown t = record { spool = t.spool.now; envelope = envelope_shown t.envelope }
