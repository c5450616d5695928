-- Which replies leave the tables as they were.
use Rattle.std.proofs.Common.{◌≡◌, ◌≢◌, ⊎_elim, ℕ, true, List, [], ◌∷◌, map}
use Rattle.std.proofs.Common.{Result, Ok, Err, refl, ap, ◌∙◌}
use Rattle.std.specs.Prelude.{string_bytes}
use Rattle.hq_values.specs.declared.failure.Fault.{Fault}
use Rattle.hq_values.specs.declared.failure.Refusal.{Refusal}
use Rattle.hq_tables.specs.Readings.{read_tables}
use Rattle.hq_tables.specs.Tables.{Tables, write_all}
use Rattle.hq_tables.specs.declared.change.Change.{Change}
use Rattle.hq_rules.specs.Answers.{answer_number}
use Rattle.hq_rules.specs.Machine.{shared}
use Rattle.hq_rules.specs.Unchanged.{only_reads, tells_no_change}
use Rattle.hq_rules.specs.declared.answer.Answer.{Answer}
use Rattle.hq_rules.specs.declared.answer.Answer.TheVariants.{Refused}
use Rattle.hq_rules.specs.declared.call.Call.{Call}
use Rattle.hq_rules.proofs.Unchanged.{no_changes, reading_has_none}
use Rattle.hq_import.specs.declared.keys.Right.TheVariants.{Reading}
use Rattle.hq_requests.specs.Calls.{Asked, CallOf, CallOfAll, call_in, call_of}
use Rattle.hq_requests.specs.Directories.{Held, entry_of, held_on}
use Rattle.hq_requests.specs.Named.{key_shown}
use Rattle.hq_requests.specs.Routes.{last_segment}
use Rattle.hq_requests.specs.declared.exchanges.Exchange.{Exchange}
use Rattle.hq_requests.specs.declared.table.Role.TheVariants as role
use Rattle.hq_laws.proofs.Reader.{reader_reads}
use Rattle.hq_wire.specs.Exchanges.{IsWant, MayReply, ask_of}
use Rattle.hq_wire.specs.Exchanges.{AllDone, CallsAll, IsStruck, MayReplyTo, of_part}
use Rattle.hq_wire.specs.Replies.{Part, SeenReply, reply_of, status_of}
use Rattle.hq_requests.specs.declared.directory.Directory.{Directory}

-- an answer with another status than 200 is a refusal
refusal_tells : (answer : Answer) → status_of (answer_number answer) ≢ 200 →
    tells_no_change answer ≡ true
unfolding status_of
refusal_tells (Refused refusal) other = refl
refusal_tells _ other = absurd (other refl)

module _ (may : Fault → Type 0) (host : List ℕ) (d : Directory) (t t' : Tables) (at : ℕ) where
  abbrev done_by : List ℕ → Call → Answer × Tables
  done_by name call = shared host (entry_of d name) t at call

  called : (name : List ℕ) (call : Call) → status_of (answer_number (done_by name call).0) ≢ 200 →
      (done_by name call).1 ≡ t
  called name call other =
      let entry = entry_of d name in
      ap (λ (cs : List Change). write_all entry.name cs t)
      (no_changes host entry (read_tables entry.name t) at call
      (refusal_tells (done_by name call).0 other))

  pub left_by_others : (asked : Result Asked Refusal) (r : SeenReply) →
      MayReplyTo may host d t at asked r t' → r.status ≢ 200 → t' ≡ t
  left_by_others (Err refusal) r h other = h.1
  left_by_others (Ok (CallOf name call)) r h other = ⊎_elim
      (λ (did : (r ≡ reply_of (done_by name call).0) × (t' ≡ (done_by name call).1)). did.1
      ∙ called name call (λ same. other (ap (λ (x : SeenReply). x.status) did.0 ∙ same)))
      (λ (struck : (fault : Fault) × may fault × IsStruck fault t r t').
      struck.2.1) h
  left_by_others (Ok (CallOfAll whom call)) r h other = ⊎_elim
      (λ (did : CallsAll may host d t at whom call r t'). absurd
      (other (ap (λ (x : SeenReply). x.status) did.reply)))
      (λ (struck : IsWant may r × (t' ≡ t)). struck.1) h

  read : (name : List ℕ) (call : Call) (s : Tables) → only_reads call ≡ true →
      (shared host (entry_of d name) s at call).1 ≡ s
  read name call s reads =
      let entry = entry_of d name in
      ap (λ (cs : List Change). write_all entry.name cs s)
      (reading_has_none host entry (read_tables entry.name s) at call reads)

  all_read : (call : Call) (s : Tables) (ps : List Part) → only_reads call ≡ true →
      AllDone host d s (map (of_part at call) ps) t' → t' ≡ s
  all_read call s [] reads done = done
  all_read call s (p ∷ ps) reads done =
      all_read call (shared host (entry_of d p.customer) s at call).1 ps reads done.1
      ∙ read p.customer call s reads

  pub left_by_reading : (asked : Asked) (r : SeenReply) → MayReplyTo may host d t at (Ok asked) r t'
      → only_reads (call_in asked) ≡ true → t' ≡ t
  left_by_reading (CallOf name call) r h reads = ⊎_elim
      (λ (did : (r ≡ reply_of (done_by name call).0) × (t' ≡ (done_by name call).1)). did.1
      ∙ read name call t reads)
      (λ (struck : (fault : Fault) × may fault × IsStruck fault t r t').
      struck.2.1) h
  left_by_reading (CallOfAll whom call) r h reads = ⊎_elim
      (λ (did : CallsAll may host d t at whom call r t'). all_read call t r.parts reads did.done)
      (λ (struck : IsWant may r × (t' ≡ t)). struck.1) h

-- what is asked by a key that may only read
pub left_by_reader : (may : Fault → Type 0) (host : List ℕ) (d : Directory) (t t' : Tables)
    (x : Exchange) (held : Held) (r : SeenReply) →
    held_on d role.Customer (key_shown x) (last_segment (string_bytes x.path)) ≡ Ok held →
    held.right ≡ Reading → MayReply may host d t (ask_of d x) r t' → t' ≡ t
left_by_reader may host d t t' x held r holds reader replied =
    by (call_of d x) refl replied where
      by : (called : Result Asked Refusal) → call_of d x ≡ called →
          MayReplyTo may host d t x.at called r t' → t' ≡ t
      by (Err refusal) is h = h.1
      by (Ok asked) is h = left_by_reading may host d t t' x.at asked r h
          (reader_reads d x held asked holds reader is)
