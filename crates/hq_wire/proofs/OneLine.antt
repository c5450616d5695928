-- Every reply is one line, where the names of the customers are names.
use Rattle.std.proofs.Common.{◌≡◌, ⊎_elim, ℕ, true, List, [], ◌∷◌, ◌++◌, map}
use Rattle.std.proofs.Common.{Option, Some, None, Result, Ok, Err, refl, sym, ap, ◌∙◌}
use Rattle.std.specs.Prelude.{◌&&◌, codes}
use Rattle.std.specs.List.{flat_map, list_all}
use Rattle.std.proofs.lemmas.Bool.{and_parts}
use Rattle.std.proofs.lemmas.List.Folds.{list_all-append}
use Rattle.hq_values.specs.Refusals.{no_memory}
use Rattle.hq_values.specs.declared.failure.Fault.{Fault}
use Rattle.hq_values.specs.declared.failure.Fault.TheVariants.{WantOfMemory, Disk, BadSchema}
use Rattle.hq_values.specs.declared.failure.Fault.TheVariants.{Closed}
use Rattle.hq_values.specs.declared.failure.Refusal.{Refusal}
use Rattle.hq_values.specs.Words.{is_name}
use Rattle.hq_tables.specs.Tables.{Tables}
use Rattle.hq_rules.specs.Machine.{shared}
use Rattle.hq_rules.specs.declared.answer.Answer.TheVariants.{Refused}
use Rattle.hq_rules.specs.declared.call.Call.{Call}
use Rattle.hq_json.specs.OneLine.{is_one_line}
use Rattle.hq_json.specs.Parts.{part_text}
use Rattle.hq_json.specs.Replies.{answer_text}
use Rattle.hq_json.proofs.OneLine.{answer_one_line, both_one_line, customer_one}
use Rattle.hq_requests.specs.Calls.{Asked, CallOf, CallOfAll}
use Rattle.hq_requests.specs.Directories.{entry_of, names_of}
use Rattle.hq_wire.specs.Exchanges.{IsWant}
use Rattle.std.proofs.Common.{zero, suc, cond, Bool, false, take, drop}
use Rattle.std.specs.Prelude.{⊤}
use Rattle.std.specs.Cmp.Derive.{both_true}
use Rattle.hq_kept.specs.declared.account.Customer.{Customer}
use Rattle.hq_requests.specs.Customers.{has_name}
use Rattle.hq_requests.specs.Directories.{name_of}
use Rattle.hq_requests.specs.Spans.{Whom, Everyone, From, from_name, from_start, most_asked}
use Rattle.hq_requests.specs.Spans.{names_in, unasked_in}
use Rattle.hq_wire.specs.Exchanges.{first_named, next_shown, next_left}
use Rattle.hq_wire.specs.Replies.{next_text}
use Rattle.hq_json.proofs.OneLine.{name_one}
use Rattle.hq_wire.specs.Exchanges.{AllDone, CallsAll, EndsAt, InPart, IsStruck, MayReplyTo}
use Rattle.hq_wire.specs.Exchanges.{of_part}
use Rattle.hq_wire.specs.Replies.{Part, SeenReply, Stop, closing, comma_joined, fault_text}
use Rattle.hq_wire.specs.Replies.{reply_of, reply_of_fault, stopped_text}
use Rattle.hq_requests.specs.declared.directory.Directory.{Directory}
use Rattle.hq_wire.proofs.Called.{behind_comma, customer_of_part as whose}

-- ---- one customer

fault_one : (fault : Fault) → is_one_line (fault_text fault) ≡ true
fault_one WantOfMemory = refl
fault_one Disk = refl
fault_one BadSchema = refl
fault_one Closed = refl

struck_one : (fault : Fault) → is_one_line (reply_of_fault fault).body ≡ true
unfolding reply_of_fault
struck_one fault = fault_one fault

same_part : (a b : List ℕ) → InPart a ≡ InPart b → a ≡ b
same_part a b h = cc

-- ---- all parts

module _ (host : List ℕ) (d : Directory) (at : ℕ) where
  part_one : (call : Call) (t : Tables) (p : Part) → is_name p.customer ≡ true →
      InPart p.text ≡ InPart (part_text p.customer
      (shared host (entry_of d p.customer) t at call).0)
      → is_one_line p.text ≡ true
  part_one call t p known told =
      let answer = (shared host (entry_of d p.customer) t at call).0 in
      ap is_one_line (same_part p.text (part_text p.customer answer) told)
      ∙ customer_one p.customer (answer_text answer) known (answer_one_line answer)

  behind_one : (call : Call) (t t' : Tables) (ps : List Part) →
      list_all is_name (map whose ps) ≡ true → AllDone host d t (map (of_part at call) ps) t' →
      is_one_line (flat_map behind_comma ps) ≡ true
  behind_one call t t' [] known done = refl
  behind_one call t t' (p ∷ ps) known done =
      let each = and_parts (is_name p.customer) (list_all is_name (map whose ps)) known in
      both_one_line (44 ∷ p.text) (flat_map behind_comma ps) (part_one call t p each.0 done.0)
      (behind_one call (shared host (entry_of d p.customer) t at call).1 t' ps each.1 done.1)

  joined_one : (call : Call) (t t' : Tables) (ps : List Part) →
      list_all is_name (map whose ps) ≡ true → AllDone host d t (map (of_part at call) ps) t' →
      is_one_line (comma_joined ps) ≡ true
  joined_one call t t' [] known done = refl
  joined_one call t t' (p ∷ ps) known done =
      let each = and_parts (is_name p.customer) (list_all is_name (map whose ps)) known in
      both_one_line p.text (flat_map behind_comma ps) (part_one call t p each.0 done.0)
      (behind_one call (shared host (entry_of d p.customer) t at call).1 t' ps each.1 done.1)

  stopped_one : (may : Fault → Type 0) (left : List (List ℕ)) (stopped : Option Stop) →
      list_all is_name left ≡ true → EndsAt may left stopped →
      is_one_line (stopped_text stopped) ≡ true
  stopped_one may left None known ends = refl
  stopped_one may left (Some stop) known ends =
      let more = ends.1.0 in
      customer_one stop.customer (fault_text stop.fault)
      (and_parts (is_name stop.customer) (list_all is_name more)
      (ap (list_all is_name) (sym ends.1.1) ∙ known)).0 (fault_one stop.fault)

  -- a name that may be told
  abbrev IsKnown : Option (List ℕ) → Type 0
  IsKnown None = ⊤
  IsKnown (Some name) = is_name name ≡ true

  first_known : (xs ys : List (List ℕ)) → list_all is_name xs ≡ true → list_all is_name ys ≡ true →
      IsKnown (first_named (xs ++ ys))
  first_known [] [] h k = tt
  first_known [] (y ∷ ys) h k = (and_parts (is_name y) (list_all is_name ys) k).0
  first_known (x ∷ xs) ys h k = (and_parts (is_name x) (list_all is_name xs) h).0

  next_one_line : (whom : Whom) (next : Option (List ℕ)) → IsKnown next →
      is_one_line (next_text (next_shown whom next)) ≡ true
  next_one_line Everyone next known = refl
  next_one_line (From start) None known = refl
  next_one_line (From start) (Some name) known = both_one_line (codes ",\"next\":")
      (codes "\"" ++ name ++ codes "\"") refl
      (both_one_line (codes "\"" ++ name) (codes "\"")
      (both_one_line (codes "\"") name refl (name_one name known)) refl)

  module _ (may : Fault → Type 0) (t t' : Tables) (names : list_all is_name (names_of d) ≡ true)
    where
      from_name_known : (name : List ℕ) (cs : List Customer) →
          list_all is_name (map name_of cs) ≡ true →
          list_all is_name (map name_of (from_name name cs)) ≡ true
      from_name_known name [] known = refl
      from_name_known name (c ∷ cs) known = by (from_name_known name cs) (has_name name c) where
        by : (list_all is_name (map name_of cs) ≡ true →
            list_all is_name (map name_of (from_name name cs)) ≡ true) → (b : Bool) →
            list_all is_name (map name_of (cond b (c ∷ cs) (from_name name cs))) ≡ true
        by further true = known
        by further false = further (and_parts (is_name (name_of c))
            (list_all is_name (map name_of cs)) known).1

      start_known : (start : Option (List ℕ)) →
          list_all is_name (map name_of (from_start start d.customers)) ≡ true
      start_known None = names
      start_known (Some name) = from_name_known name d.customers names

      split_known : (n : ℕ) (cs : List Customer) → list_all is_name (map name_of cs) ≡ true →
          (list_all is_name (map name_of (take n cs)) ≡ true)
          × (list_all is_name (map name_of (drop n cs)) ≡ true)
      split_known zero cs known = (refl, known)
      split_known (suc n) [] known = (refl, refl)
      split_known (suc n) (c ∷ cs) known =
          let parts = and_parts (is_name (name_of c)) (list_all is_name (map name_of cs)) known in
          let rest = split_known n cs parts.1 in
          (both_true parts.0 rest.0, rest.1)

      asked_known : (whom : Whom) → list_all is_name (names_in d whom) ≡ true
      asked_known Everyone = names
      asked_known (From start) = (split_known most_asked (from_start start d.customers)
          (start_known start)).0

      unasked_known : (whom : Whom) → list_all is_name (map name_of (unasked_in d whom)) ≡ true
      unasked_known Everyone = refl
      unasked_known (From start) = (split_known most_asked (from_start start d.customers)
          (start_known start)).1

      called_one : (whom : Whom) (call : Call) (r : SeenReply) →
          CallsAll may host d t at whom call r t' → is_one_line r.body ≡ true
      called_one whom call r did =
          let known : (list_all is_name (map whose r.parts) && list_all is_name did.left) ≡ true =
          sym (list_all-append is_name (map whose r.parts) did.left)
          ∙ ap (list_all is_name) (sym did.order) ∙ asked_known whom in
          let both = and_parts (list_all is_name (map whose r.parts)) (list_all is_name did.left)
          known in
          let parts = joined_one call t t' r.parts both.0 did.done in
          let stop = stopped_one may did.left r.stopped both.1 did.ends in
          let next = next_left d whom did.left in
          let next_one : is_one_line (next_text next) ≡ true =
          next_one_line whom (first_named (did.left ++ map name_of (unasked_in d whom)))
          (first_known did.left (map name_of (unasked_in d whom)) both.1 (unasked_known whom)) in
          let end : is_one_line (closing next r.stopped) ≡ true =
          both_one_line (codes "]" ++ next_text next ++ codes ",\"stopped\":"
          ++ stopped_text r.stopped) (codes "}") (both_one_line (codes "]" ++ next_text next
          ++ codes ",\"stopped\":") (stopped_text r.stopped)
          (both_one_line (codes "]" ++ next_text next) (codes ",\"stopped\":")
          (both_one_line (codes "]") (next_text next) refl next_one) refl) stop) refl in
          ap (λ (x : SeenReply). is_one_line x.body) did.reply
          ∙ both_one_line (codes "{\"done\":[" ++ comma_joined r.parts) (closing next r.stopped)
          (both_one_line (codes "{\"done\":[") (comma_joined r.parts) refl parts) end

      pub reply_one_line_of : (asked : Result Asked Refusal) (r : SeenReply) →
          MayReplyTo may host d t at asked r t' → is_one_line r.body ≡ true
      reply_one_line_of (Err refusal) r h = ⊎_elim
          (λ (told : r ≡ reply_of (Refused refusal)). ap
          (λ (x : SeenReply). is_one_line x.body) told
          ∙ answer_one_line (Refused refusal))
          (λ (struck : IsWant may r). ap (λ (x : SeenReply). is_one_line x.body) struck.1
          ∙ struck_one no_memory) h.0
      reply_one_line_of (Ok (CallOf name call)) r h = ⊎_elim
          (λ (did : (r ≡ reply_of (shared host (entry_of d name) t at call).0)
          × (t' ≡ (shared host (entry_of d name) t at call).1)). ap
          (λ (x : SeenReply). is_one_line x.body) did.0
          ∙ answer_one_line (shared host (entry_of d name) t at call).0)
          (λ (struck : (fault : Fault) × may fault × IsStruck fault t r t').
          ap (λ (x : SeenReply). is_one_line x.body) struck.2.0 ∙ struck_one struck.0) h
      reply_one_line_of (Ok (CallOfAll whom call)) r h = ⊎_elim
          (λ (did : CallsAll may host d t at whom call r t'). called_one whom call r did)
          (λ (struck : IsWant may r × (t' ≡ t)). ap (λ (x : SeenReply). is_one_line x.body)
          struck.0.1 ∙ struck_one no_memory) h

pub reply_one_line : (may : Fault → Type 0) (host : List ℕ) (d : Directory) (t t' : Tables) (at : ℕ)
    → list_all is_name (names_of d) ≡ true → (asked : Result Asked Refusal) (r : SeenReply) →
    MayReplyTo may host d t at asked r t' → is_one_line r.body ≡ true
reply_one_line may host d t t' at names = reply_one_line_of host d at may t t' names
