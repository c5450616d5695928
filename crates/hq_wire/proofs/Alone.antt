-- What one customer sees of a run is that customer's machine alone.
use Rattle.std.proofs.Common.{◌≡◌, ◌≢◌, ⊎_elim, ℕ, Bool, true, false, cond, not, ◌&&◌, ◌||◌}
use Rattle.std.proofs.Common.{eqb, List, [], ◌∷◌, ◌++◌, map, Result, Ok, Err, sym, refl, ap, ◌∙◌}
use Rattle.std.proofs.Common.{subst}
use Rattle.std.specs.Prelude.{bytes_eq}
use Rattle.std.specs.Ordering.{eq_by_cmp}
use Rattle.std.specs.Cmp.Lexicographic.{nat_list_cmp_total}
use Rattle.std.proofs.lemmas.Map.Lookups.{exact_bytes}
use Rattle.std.proofs.lemmas.Map.Views.{tells_apart}
use Rattle.std.proofs.lemmas.Bool.{eq-eqb, both_ways}
use Rattle.hq_values.specs.Refusals.{no_memory}
use Rattle.hq_values.specs.declared.failure.Fault.{Fault}
use Rattle.hq_values.specs.declared.failure.Fault.TheVariants.{WantOfMemory}
use Rattle.hq_values.specs.declared.failure.Refusal.{Refusal}
use Rattle.hq_kept.specs.declared.account.Entry.{Entry}
use Rattle.hq_tables.specs.Tables.{Tables, State, text_cmp, own}
use Rattle.hq_owned.proofs.Parts.{tied_true}
use Rattle.hq_rules.specs.Answers.{answer_number}
use Rattle.hq_rules.specs.Machine.{step, shared, answers, state_after}
use Rattle.hq_rules.specs.declared.answer.Answer.{Answer}
use Rattle.hq_isolation.proofs.Isolation.{caller, others}
use Rattle.hq_requests.specs.Calls.{Asked, CallOf, CallOfAll}
use Rattle.hq_requests.specs.Directories.{entry_of}
use Rattle.hq_wire.specs.Exchanges.{IsWant}
use Rattle.hq_wire.specs.Exchanges.{AllDone, Ask, CallsAll, Deed, IsStruck, MayReplyTo, Whole}
use Rattle.hq_wire.specs.Exchanges.{deeds_of, of_part, told_as}
use Rattle.hq_wire.specs.Replies.{SeenReply, plain, reply_of, status_of, reply_of_fault, fault_text}
use Rattle.hq_wire.specs.Replies.{is_missing, is_conflict, tells_store}
use Rattle.hq_wire.specs.Runs.{AllReplied, deeds, deeds_for, in_share, told_of, calls_in, told_in}
use Rattle.hq_wire.specs.Runs.{Alone}
use Rattle.hq_requests.specs.declared.directory.Directory.{Directory}
use Rattle.hq_requests.proofs.Entries.{named}

by_test : (b : Bool) (x y : ℕ) → eqb x 503 ≡ false → eqb y 503 ≡ false →
    eqb (cond b x y) 503 ≡ false
by_test true x y h k = h
by_test false x y h k = k

-- no answer has the status of faults
pub answer_not_struck : (n : ℕ) → eqb (status_of n) 503 ≡ false
unfolding status_of
answer_not_struck n =
    by_test (eqb n 0) _ _ refl (by_test (eqb n 2) _ _ refl
    (by_test (eqb n 3) _ _ refl (by_test (is_missing n) _ _ refl
    (by_test (eqb n 5) _ _ refl (by_test (eqb n 6) _ _ refl
    (by_test (is_conflict n) _ _ refl refl))))))

-- a reply with the status of an answer tells no fault
pub tells_answer : (status n : ℕ) (body : List ℕ) → status ≡ status_of n →
    tells_store (plain status body) ≡ false
tells_answer status n body h = ap (λ b. (b && not (bytes_eq body (fault_text WantOfMemory)))
    || false) (ap (λ s. eqb s 503) h ∙ answer_not_struck n)

pub fault_status : (fault : Fault) → (reply_of_fault fault).status ≡ 503
unfolding reply_of_fault
fault_status fault = refl

-- a fault has no parts
pub no_parts : (fault : Fault) → (reply_of_fault fault).parts ≡ []
unfolding reply_of_fault
no_parts fault = refl

-- ---- what one customer sees of calls that were done

pub record Seen (host : List ℕ) (e : Entry) (c : List ℕ) (before after : State) (done : List Deed)
    : Type 0 where
  pub told : map told_of done ≡ told_in c (map in_share done)
      (answers host e before (calls_in (map in_share done)))
  pub state : after ≡ state_after host e before (calls_in (map in_share done))

module _ (host : List ℕ) (d : Directory) (c : List ℕ) where
  abbrev Sees : Tables → Tables → List Deed → Type 0
  Sees t t' done = Seen host (entry_of d c) c (own c t) (own c t') done

  abbrev next : Tables → Deed → Answer × Tables
  next t deed = shared host (entry_of d deed.customer) t deed.at deed.call

  own_deed : (t t' : Tables) (deed : Deed) (done : List Deed) → c ≡ deed.customer →
      deed.told ≡ told_as deed.in_part deed.customer (next t deed).0 → Sees (next t deed).1 t' done
      → Sees t t' (deed ∷ done)
  own_deed t t' deed done same told rest =
      let e = entry_of d c in
      let at = deed.at in
      let call = deed.call in
      let calls = calls_in (map in_share done) in
      let met : ((shared host e t at call).0, own c (shared host e t at call).1) ≡ step host e
      (own c t) at call = subst (λ n. (
        (shared host e t at call).0,
        own n (shared host e t at call).1,
      ) ≡ step host e (own n t) at call) (named d.customers c)
      (caller host e t at call) in
      let answer : (next t deed).0 ≡ (step host e (own c t) at call).0 =
      ap (λ n. (shared host (entry_of d n) t at call).0) (sym same) ∙ ap (λ p. p.0) met in
      let left : own c (next t deed).1 ≡ (step host e (own c t) at call).1 =
      ap (λ n. own c (shared host (entry_of d n) t at call).1) (sym same) ∙ ap (λ p. p.1) met in
      let first : deed.told ≡ told_as deed.in_part c (step host e (own c t) at call).0 = told
      ∙ ap (λ n. told_as deed.in_part n (next t deed).0) (sym same)
      ∙ ap (told_as deed.in_part c) answer in
      let later : map told_of done ≡ told_in c (map in_share done)
      (answers host e (step host e (own c t) at call).1 calls) = rest.told
      ∙ ap (λ s. told_in c (map in_share done) (answers host e s calls)) left in
      record {
        told = λ i. first i ∷ later i;
        state = rest.state ∙ ap (λ s. state_after host e s calls) left;
      }

  other_deed : (t t' : Tables) (deed : Deed) (done : List Deed) → c ≢ deed.customer →
      Sees (next t deed).1 t' done → Sees t t' done
  other_deed t t' deed done apart rest =
      let kept : own c (next t deed).1 ≡ own c t =
      others host (entry_of d deed.customer) t deed.at deed.call c
      (λ same. apart (same ∙ named d.customers deed.customer)) in
      subst (λ s. Seen host (entry_of d c) c s (own c t') done) kept rest

  -- the calls of others are passed over, and its own are those of its machine
  pub seen : (t t' : Tables) (done : List Deed) → AllDone host d t done t' →
      Sees t t' (deeds_for c done)
  seen t t' [] h = record { told = refl; state = ap (own c) h }
  seen t t' (deed ∷ done) h =
      let rest = seen (next t deed).1 t' done h.1 in
      elim (eq_by_cmp text_cmp c deed.customer) as (λ b. eq_by_cmp text_cmp c deed.customer ≡ b →
      Sees t t' (cond b (deed ∷ deeds_for c done) (deeds_for c done))) [
        | true ↦ λ e. own_deed t t' deed (deeds_for c done)
            (tells_apart exact_bytes c deed.customer e) h.0 rest
        | false ↦ λ e. other_deed t t' deed (deeds_for c done)
            (λ s. both_ways _ e (ap (eq_by_cmp text_cmp c) (sym s)
            ∙ tied_true nat_list_cmp_total c)) rest
      ] refl

-- ---- what was done by exchanges

-- calls, and then further ones
pub all_done_on : (host : List ℕ) (d : Directory) (t mid t' : Tables) (first more : List Deed) →
    AllDone host d t first mid → AllDone host d mid more t' → AllDone host d t (first ++ more) t'
all_done_on host d t mid t' [] more p q = subst (λ s. AllDone host d s more t') p q
all_done_on host d t mid t' (deed ∷ first) more p q = (
  p.0,
  all_done_on host d (shared host (entry_of d deed.customer) t deed.at deed.call).1 mid t'
      first more p.1 q,
)

module _ (may : Fault → Type 0) (host : List ℕ) (d : Directory) where
  -- what one exchange did
  pub done_once : (t t' : Tables) (at : ℕ) (called : Result Asked Refusal) (r : SeenReply) →
      MayReplyTo may host d t at called r t' → AllDone host d t (deeds_of at called r) t'
  done_once t t' at (Err e) r h = h.1
  done_once t t' at (Ok (CallOf name call)) r h =
      let deed : Deed = record {
        customer = name;
        at = at;
        call = call;
        in_part = false;
        told = Whole r;
      } in
      let Out : Bool → Type 0 = λ b. AllDone host d t (cond b [] (deed ∷ [])) t' in
      ⊎_elim
      (λ (did : (r ≡ reply_of (shared host (entry_of d name) t at call).0)
      × (t' ≡ (shared host (entry_of d name) t at call).1)). subst Out
      (sym (ap (λ (x : SeenReply). eqb x.status 503) did.0
      ∙ answer_not_struck (answer_number (shared host (entry_of d name) t at call).0)))
      (ap Whole did.0, did.1))
      (λ (no : (fault : Fault) × may fault × IsStruck fault t r t'). subst
      Out (sym (eq-eqb r.status 503 (ap (λ (x : SeenReply). x.status) no.2.0
      ∙ fault_status no.0))) no.2.1) h
  done_once t t' at (Ok (CallOfAll whom call)) r h = ⊎_elim
      (λ (did : CallsAll may host d t at whom call r t'). did.done)
      (λ (no : IsWant may r × (t' ≡ t)). subst
      (λ parts. AllDone host d t (map (of_part at call) parts) t')
      (sym (ap (λ (x : SeenReply). x.parts) no.0.1 ∙ no_parts no_memory)) no.1) h

  all_done : (t t' : Tables) (asks : List Ask) (rs : List SeenReply) →
      AllReplied may host d t asks rs t' → AllDone host d t (deeds asks rs) t'
  all_done t t' [] [] h = h
  all_done t t' (a ∷ asks) (r ∷ rs) h =
      all_done_on host d t h.0 t' _ _ (done_once t h.0 a.at a.called r h.1)
      (all_done h.0 t' asks rs h.2)
  all_done t t' [] (r ∷ rs) h = absurd h
  all_done t t' (a ∷ asks) [] h = absurd h

-- the headline, of whatever was asked and replied in order
pub alone : (may : Fault → Type 0) (host : List ℕ) (d : Directory) (t t' : Tables) (asks : List Ask)
    (rs : List SeenReply) → AllReplied may host d t asks rs t' → Alone host d asks rs t t'
alone may host d t t' asks rs h =
    let done = all_done may host d t t' asks rs h in
    record {
      replies = λ c. (seen host d c t t' (deeds asks rs) done).told;
      state = λ c. (seen host d c t t' (deeds asks rs) done).state;
    }
