-- Lines that are written one after another, and what they ask for.
use Rattle.std.proofs.Common.{◌≡◌, inl, ◌<◌, ◌+◌, ℕ, List, [], ◌∷◌, ◌++◌, map, min}
use Rattle.std.proofs.Common.{Option, Some, refl, sym, ap, ◌∙◌, subst, append-nil, arith, length}
use Rattle.std.proofs.Common.{drop, take, slice_index_or}
use Rattle.std.specs.Prelude.{string_bytes}
use Rattle.std.specs.List.{AllZip, concat, zip}
use Rattle.std.specs.Io.KnownBytes.{Appends}
use Rattle.std.proofs.KnownBytes.{Appends-trans}
use Rattle.std.proofs.lemmas.List.{map-append, take_all, take_more}
use Rattle.std.proofs.lemmas.Slice.Zip.{get_or-zip, length-zip}
use Rattle.std.proofs.lemmas.List.Folds.{concat-append}
use Rattle.hq_values.specs.Refusals.{no_memory}
use Rattle.hq_log.specs.Lines.{LogEntry}
use Rattle.hq_requests.specs.Named.{whose_exchange, whose_told}
use Rattle.hq_requests.specs.declared.directory.Directory.{Directory}
use Rattle.hq_requests.specs.declared.exchanges.Exchange.{Exchange}
use Rattle.hq_requests.specs.declared.reply.Reply.{Reply}
use Rattle.hq_wire.specs.Exchanges.{ask_of}
use Rattle.hq_wire.specs.Replies.{IsSent, SeenReply, plain, reply_of_fault, seen}
use Rattle.hq_together.proofs.Wanted.{wants}
use Rattle.hq_lines.specs.Fields.{LineRequest}
use Rattle.hq_lines.specs.Written.{AppendsPart}
use Rattle.hq_lines.proofs.Written.{part_behind, part_first}
use Rattle.hq_batch.specs.Batches.{AreEntriesOf, ask_in, reply_line}
use Rattle.hq_batch.specs.Steps.{IsOfLine, replied_entries, replied_entry, wanted_entry}
use Rattle.hq_batch.specs.Waiting.{line_asked, lines_waiting}

module _ {X : Type 0} (f : X → List ℕ) (first : List X) (x : X) where
  -- the texts of some, and of one more
  text_more : concat (map f (first ++ x ∷ [])) ≡ concat (map f first) ++ f x
  text_more = ap concat (map-append f first (x ∷ []))
      ∙ concat-append (map f first) (f x ∷ [])
      ∙ ap (λ l. concat (map f first) ++ l) (append-nil (f x))

  pub written_more : (a b c : Option (List ℕ)) → Appends a b (concat (map f first)) →
      Appends b c (f x) → Appends a c (concat (map f (first ++ x ∷ [])))
  written_more a b c p q = subst (Appends a c) (sym text_more) (Appends-trans a b c _ _ p q)

  -- behind the first, one is broken off
  pub broken_at : (a b c : Option (List ℕ)) (others : List X) → Appends a b (concat (map f first)) →
      AppendsPart b c (f x) → AppendsPart a c (concat (map f ((first ++ x ∷ []) ++ others)))
  broken_at a b c others p q = subst (AppendsPart a c)
      (ap (λ l. l ++ concat (map f others)) (sym text_more)
      ∙ sym (concat-append (map f (first ++ x ∷ [])) (map f others))
      ∙ ap concat (sym (map-append f (first ++ x ∷ []) others)))
      (part_first a c (concat (map f first) ++ f x) (concat (map f others))
      (part_behind a b c (concat (map f first)) (f x) p q))

-- what an exchange asks for is what its line does
pub line_is : (x : Exchange) (q : LineRequest) → IsOfLine x q → line_asked x ≡ q
line_is x q is = λ i. record {
  at = is.0 i;
  method = is.1 i;
  path = is.2 i;
  key = is.3 i;
  body = is.4 i;
}

-- ---- replies as they are sent

pub sent_lines : (replies : List Reply) (told : List SeenReply) → AllZip IsSent replies told →
    map (λ (r : Reply). reply_line (seen r)) replies ≡ map reply_line told
sent_lines [] [] sent = refl
sent_lines [] (r ∷ told) sent = absurd sent
sent_lines (reply ∷ replies) [] sent = absurd sent
sent_lines (reply ∷ replies) (r ∷ told) sent = λ i.
    reply_line (plain (sym sent.0.0 i) (sym sent.0.1 i)) ∷ sent_lines replies told sent.1 i

pub lines_asked : (d : Directory) (asked : List Exchange) →
    map (ask_in d) (lines_waiting asked) ≡ map (ask_of d) asked
lines_asked d [] = refl
lines_asked d (x ∷ asked) = ap (λ l. ask_of d x ∷ l) (lines_asked d asked)

pub want_replies : (d : Directory) (asked : List Exchange) →
    map (λ (x : Exchange). reply_of_fault no_memory) asked ≡ wants (map (ask_of d) asked)
want_replies d [] = refl
want_replies d (x ∷ asked) = ap (λ l. reply_of_fault no_memory ∷ l) (want_replies d asked)

pub want_lines : (asked : List Exchange) →
    map (λ (x : Exchange). reply_line (reply_of_fault no_memory)) asked
    ≡ map reply_line (map (λ (x : Exchange). reply_of_fault no_memory) asked)
want_lines [] = refl
want_lines (x ∷ asked) = ap (λ l. reply_line (reply_of_fault no_memory) ∷ l) (want_lines asked)

-- ---- what the log is told of exchanges

abbrev pub pair_entry : Exchange × Reply → LogEntry
pair_entry p = replied_entry p.0 p.1

pub entries_of_replies : (d : Directory) (asked : List Exchange) (replies : List Reply)
    (told : List SeenReply) → AllZip IsSent replies told →
    map whose_told replies ≡ map (whose_exchange d) asked →
    AreEntriesOf d (lines_waiting asked) told (replied_entries asked replies)
entries_of_replies d [] [] [] sent whose = tt
entries_of_replies d [] [] (r ∷ told) sent whose = absurd sent
entries_of_replies d [] (reply ∷ replies) told sent whose = absurd (omega (arith, ap length whose))
entries_of_replies d (x ∷ asked) [] told sent whose = absurd (omega (arith, ap length whose))
entries_of_replies d (x ∷ asked) (reply ∷ replies) [] sent whose = absurd sent
entries_of_replies d (x ∷ asked) (reply ∷ replies) (r ∷ told) sent whose = (
  inl (λ i. record {
    at = Some x.at;
    whose = ap (λ ws. slice_index_or ws 0 (whose_exchange d x)) whose i;
    method = Some (string_bytes x.method);
    path = Some (string_bytes x.path);
    status = sym sent.0.0 i;
    body = sym sent.0.1 i;
  }),
  entries_of_replies d asked replies told sent.1 (ap (drop 1) whose),
)

pub entries_of_wants : (d : Directory) (asked : List Exchange) →
    AreEntriesOf d (lines_waiting asked) (map (λ (x : Exchange). reply_of_fault no_memory) asked)
    (map (wanted_entry d) asked)
entries_of_wants d [] = tt
entries_of_wants d (x ∷ asked) = (inl refl, entries_of_wants d asked)

-- the entry of an exchange for which memory was wanted
pub want_told : (d : Directory) (x : Exchange) (want : Reply) →
    seen want ≡ reply_of_fault no_memory → whose_told want ≡ whose_exchange d x →
    replied_entry x want ≡ wanted_entry d x
want_told d x want told whose = λ i. record {
  at = Some x.at;
  whose = whose i;
  method = Some (string_bytes x.method);
  path = Some (string_bytes x.path);
  status = (told i).status;
  body = (told i).body;
}

-- entries, and then further ones
pub entries_on : (d : Directory) (asked more : List (Option LineRequest))
    (replies others : List SeenReply) (told further : List LogEntry) →
    AreEntriesOf d asked replies told → AreEntriesOf d more others further →
    AreEntriesOf d (asked ++ more) (replies ++ others) (told ++ further)
entries_on d [] more [] others [] further p q = q
entries_on d [] more [] others (e ∷ told) further p q = absurd p
entries_on d [] more (r ∷ replies) others told further p q = absurd p
entries_on d (request ∷ asked) more [] others told further p q = absurd p
entries_on d (request ∷ asked) more (r ∷ replies) others [] further p q = absurd p
entries_on d (request ∷ asked) more (r ∷ replies) others (e ∷ told) further p q =
    (p.0, entries_on d asked more replies others told further p.1 q)

-- of one exchange more, with its reply
pub one_replied : (asked : List Exchange) (replies : List Reply) (n : ℕ) (x : Exchange)
    (reply : Reply) → n < length asked → n < length replies → x ≡ slice_index_or asked n x →
    reply ≡ slice_index_or replies n reply →
    map pair_entry (take (n + 1) (zip asked replies))
    ≡ map pair_entry (take n (zip asked replies)) ++ replied_entry x reply ∷ []
one_replied asked replies n x reply less fewer is_x is_reply =
    ap (map pair_entry) (take_more (zip asked replies) n (x, reply)
    (omega (arith, less, fewer, length-zip asked replies)))
    ∙ map-append pair_entry (take n (zip asked replies))
    (slice_index_or (zip asked replies) n (x, reply) ∷ [])
    ∙ ap (λ (p : Exchange × Reply). map pair_entry (take n (zip asked replies))
    ++ pair_entry p ∷ [])
    (get_or-zip asked replies n (x, reply) less fewer ∙ (λ i. (sym is_x i, sym is_reply i)))

-- of all, once either of them has no more
pub all_replied : (asked : List Exchange) (replies : List Reply) (n : ℕ) →
    n ≡ min (length asked) (length replies) →
    map pair_entry (take n (zip asked replies)) ≡ replied_entries asked replies
all_replied asked replies n is = ap (map pair_entry) (take_all n (zip asked replies)
    (omega (arith, is, length-zip asked replies)))
