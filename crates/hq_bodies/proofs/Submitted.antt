-- The values of the members of an envelope and of a submission.
use Rattle.std.proofs.Common.{◌≡◌, ℕ, Bool, true, false, List, [], ◌∷◌, length, IsTrue, codes}
use Rattle.std.proofs.Common.{Result, Ok, Err, refl, sym, ap, ◌∙◌, subst}
use Rattle.serde_json.specs.Data.{Data}
use Rattle.hq_values.proofs.Truths.{one_proof}
use Rattle.hq_values.specs.Readers.{◌>>=◌, checked, or_refuse, passes}
use Rattle.hq_values.specs.declared.failure.Refusal.{Refusal}
use Rattle.hq_values.specs.declared.failure.Refusal.TheVariants.{BadAddress, BadField}
use Rattle.hq_values.specs.Addresses.{is_address}
use Rattle.hq_values.specs.Senders.{sender_in}
use Rattle.hq_values.specs.Words.{spool_in}
use Rattle.hq_values.specs.declared.address.Sender.{Sender}
use Rattle.hq_rules.specs.Limits.{is_recipient_count, is_size}
use Rattle.hq_rules.specs.declared.call.Envelope.{Envelope}
use Rattle.hq_rules.specs.declared.call.Submission.{Submission}
use Rattle.hq_bodies.specs.Reading.{texts_at}
use Rattle.hq_bodies.specs.Submissions.{EnvelopeFields, Fields, addresses_in, bytes_at}
use Rattle.hq_bodies.specs.Submissions.{envelope_in, recipients_in, size_of, submission_of}

err_ok : {A : Type 0} (r : Refusal) (a : A) → ◌≡◌ {A = Result A Refusal} (Err r) (Ok a) → ⊥
err_ok r a e = cc

same_ok : {A : Type 0} (a b : A) → ◌≡◌ {A = Result A Refusal} (Ok a) (Ok b) → a ≡ b
same_ok a b e = cc

-- an address is its text
pub texts_read : (texts found : List (List ℕ)) → addresses_in texts ≡ Ok found → found ≡ texts
texts_read [] found e = sym (same_ok [] found e)
texts_read (text ∷ texts) found e =
    by (texts_read texts) (is_address text) (addresses_in texts) refl e where
      by : ((rest : List (List ℕ)) → addresses_in texts ≡ Ok rest → rest ≡ texts) →
          (b : Bool) (o : Result (List (List ℕ)) Refusal) → addresses_in texts ≡ o →
          (checked text b BadAddress >>= (λ address. o >>= (λ rest. Ok (address ∷ rest)))) ≡
          Ok found →
          found ≡ text ∷ texts
      by further true (Ok rest) f g = sym (same_ok (text ∷ rest) found g)
          ∙ ap (λ ts. text ∷ ts) (further rest f)
      by further true (Err r) f g = absurd (err_ok r found g)
      by further false o f g = absurd (err_ok BadAddress found g)

-- a test that holds passes, whichever proof is carried
pub passed : (b : Bool) (r : Refusal) (h : IsTrue b) → passes b r ≡ Ok h
passed true r h = ap Ok (one_proof true (λ _. true) h)
passed false r h = absurd (not_true h) where
  not_true : false ≡ true → ⊥
  not_true e = cc

failed : (b : Bool) (r : Refusal) → b ≡ false → passes b r ≡ Err r
failed true r h = absurd (no h) where
  no : true ≡ false → ⊥
  no e = cc
failed false r h = refl

-- 1 to 100 texts are taken
pub recipients_taken : (d : Data) (texts : List (List ℕ))
    (h : IsTrue (is_recipient_count (length texts))) →
    or_refuse BadField (texts_at (codes "recipients") d) ≡ Ok texts →
    recipients_in d ≡ Ok (record { texts = texts; number = h })
unfolding recipients_in
recipients_taken d texts h read =
    ap (λ r. r >>= (λ found. passes (is_recipient_count (length found)) BadField >>=
    (λ number. Ok (record { texts = found; number = number })))) read
    ∙ ap (λ r. r >>= (λ number. Ok (record { texts = texts; number = number })))
    (passed (is_recipient_count (length texts)) BadField h)

-- any other number is refused
pub recipients_refused : (d : Data) (texts : List (List ℕ)) →
    is_recipient_count (length texts) ≡ false →
    or_refuse BadField (texts_at (codes "recipients") d) ≡ Ok texts → recipients_in d ≡ Err BadField
unfolding recipients_in
recipients_refused d texts h read =
    ap (λ r. r >>= (λ found. passes (is_recipient_count (length found)) BadField >>=
    (λ number. Ok (record { texts = found; number = number })))) read
    ∙ ap (λ r. r >>= (λ number. Ok (record { texts = texts; number = number })))
    (failed (is_recipient_count (length texts)) BadField h)

-- a number within the limit is taken
pub size_taken : (d : Data) (n : ℕ) (h : IsTrue (is_size n)) → bytes_at d ≡ Ok n →
    size_of d ≡ Ok (record { bytes = n; limit = h })
unfolding size_of
size_taken d n h read =
    ap (λ r. r >>= (λ bytes. passes (is_size bytes) BadField >>=
    (λ limit. Ok (record { bytes = bytes; limit = limit })))) read
    ∙ ap (λ r. r >>= (λ limit. Ok (record { bytes = n; limit = limit })))
    (passed (is_size n) BadField h)

-- any other number is refused
pub size_refused : (d : Data) (n : ℕ) → is_size n ≡ false → bytes_at d ≡ Ok n →
    size_of d ≡ Err BadField
unfolding size_of
size_refused d n h read =
    ap (λ r. r >>= (λ bytes. passes (is_size bytes) BadField >>=
    (λ limit. Ok (record { bytes = bytes; limit = limit })))) read
    ∙ ap (λ r. r >>= (λ limit. Ok (record { bytes = n; limit = limit })))
    (failed (is_size n) BadField h)

-- envelopes are the same where their recipients are
pub same_envelope : (sender : Sender) (size : ℕ) (xs ys : List (List ℕ))
    (h : IsTrue (is_recipient_count (length xs))) (k : IsTrue (is_recipient_count (length ys)))
    (limit : IsTrue (is_size size)) → xs ≡ ys
    → ◌≡◌ {A = Envelope} (record {
      sender = sender;
      recipients = xs;
      size = size;
      number = h;
      limit = limit;
    }) (record {
      sender = sender;
      recipients = ys;
      size = size;
      number = k;
      limit = limit;
    })
same_envelope sender size xs ys h k limit same =
    subst (λ zs. (l : IsTrue (is_recipient_count (length zs))) →
    ◌≡◌ {A = Envelope} (record {
      sender = sender;
      recipients = xs;
      size = size;
      number = h;
      limit = limit;
    }) (record {
      sender = sender;
      recipients = zs;
      size = size;
      number = l;
      limit = limit;
    }))
    same (λ l. ap (λ (n : IsTrue (is_recipient_count (length xs))). record {
      sender = sender;
      recipients = xs;
      size = size;
      number = n;
      limit = limit;
    })
    (one_proof (is_recipient_count (length xs)) h l)) k

-- an envelope is made of members whose values are read
pub envelope_taken : (f : EnvelopeFields) (sender : Sender) (found xs : List (List ℕ))
    (k : IsTrue (is_recipient_count (length xs))) (l : IsTrue (is_size f.size.bytes)) →
    sender_in f.sender ≡ Ok sender → addresses_in f.recipients.texts ≡ Ok found → xs ≡ found
    → envelope_in f ≡ Ok (record {
      sender = sender;
      recipients = xs;
      size = f.size.bytes;
      number = k;
      limit = l;
    })
unfolding envelope_in
envelope_taken f sender found xs k l one two same =
    let made : Sender → Result Envelope Refusal =
    λ a. Ok (record {
      sender = a;
      recipients = f.recipients.texts;
      size = f.size.bytes;
      number = f.recipients.number;
      limit = f.size.limit;
    }) in
    ap (λ r. r >>= (λ a. addresses_in f.recipients.texts >>= (λ _. made a))) one
    ∙ ap (λ r. r >>= (λ (_ : List (List ℕ)). made sender)) two
    ∙ ap Ok (same_envelope sender f.size.bytes f.recipients.texts xs f.recipients.number k
    f.size.limit (sym (same ∙ texts_read f.recipients.texts found two)))
    ∙ ap (λ (m : IsTrue (is_size f.size.bytes)). Ok
    (record {
      sender = sender;
      recipients = xs;
      size = f.size.bytes;
      number = k;
      limit = m;
    })) (one_proof (is_size f.size.bytes) f.size.limit l)

-- a submission is made of its spool name and its envelope
pub submission_taken : (f : Fields) (spool : List ℕ) (e : Envelope)
    (k : IsTrue (is_recipient_count (length e.recipients))) (l : IsTrue (is_size e.size)) →
    spool_in f.spool ≡ Ok spool → envelope_in f.envelope ≡ Ok e
    → submission_of f ≡ Ok (record {
      spool = spool;
      sender = e.sender;
      recipients = e.recipients;
      size = e.size;
      number = k;
      limit = l;
    })
unfolding submission_of
submission_taken f spool e k l one two =
    let made : List ℕ → Envelope → Result Submission Refusal =
    λ a b. Ok (record {
      spool = a;
      sender = b.sender;
      recipients = b.recipients;
      size = b.size;
      number = b.number;
      limit = b.limit;
    }) in
    ap (λ r. r >>= (λ a. envelope_in f.envelope >>= (λ b. made a b))) one
    ∙ ap (λ r. r >>= (λ b. made spool b)) two
    ∙ ap (λ (n : IsTrue (is_recipient_count (length e.recipients))). Ok (record {
      spool = spool;
      sender = e.sender;
      recipients = e.recipients;
      size = e.size;
      number = n;
      limit = e.limit;
    })) (one_proof (is_recipient_count (length e.recipients)) e.number k)
    ∙ ap (λ (m : IsTrue (is_size e.size)). Ok (record {
      spool = spool;
      sender = e.sender;
      recipients = e.recipients;
      size = e.size;
      number = k;
      limit = m;
    })) (one_proof (is_size e.size) e.limit l)
