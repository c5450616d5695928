-- What the members of a body read as, where none is too many.
use Rattle.std.specs.Prelude.{Result}
use Rattle.serde_json.specs.Data.{Data}
use Rattle.hq_values.specs.Readers.{◌>>=◌}
use Rattle.hq_values.specs.declared.failure.Refusal.{Refusal}
use Rattle.hq_bodies.specs.Submissions.{envelope_fields_of, envelope_in, fields_of, submission_of}
use Rattle.hq_rules.specs.declared.call.Envelope.{Envelope}
use Rattle.hq_rules.specs.declared.call.Submission.{Submission}

abbrev pub as_submission : Data → Result Submission Refusal
as_submission d = fields_of d >>= submission_of

abbrev pub as_envelope : Data → Result Envelope Refusal
as_envelope d = envelope_fields_of d >>= envelope_in
