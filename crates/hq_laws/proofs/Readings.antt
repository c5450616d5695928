-- The bytes of the reply to a call of all are read in one way.
use Rattle.std.proofs.Common.{◌≡◌, ℕ, Bool, true, false, ◌==◌, if◌then◌else◌, List, [], ◌∷◌}
use Rattle.std.proofs.Common.{◌++◌, map, get_or, take, drop, codes, Option, Some, None, Result, Ok}
use Rattle.std.proofs.Common.{Err, inl, inr, refl, sym, ap, ◌∙◌, append_assoc, subst}
use Rattle.std.specs.List.{flat_map}
use Rattle.std.proofs.lemmas.Bool.{false≢true}
use Rattle.std.proofs.lemmas.List.{append_cancel_left}
use Rattle.hq_values.specs.Refusals.{no_memory}
use Rattle.hq_values.specs.declared.failure.Fault.{Fault}
use Rattle.hq_values.specs.declared.failure.Fault.TheVariants.{WantOfMemory, Disk, BadSchema}
use Rattle.hq_values.specs.declared.failure.Fault.TheVariants.{Closed}
use Rattle.hq_values.specs.declared.failure.Refusal.{Refusal}
use Rattle.hq_tables.specs.Tables.{Tables}
use Rattle.hq_rules.specs.declared.call.Call.{Call}
use Rattle.hq_requests.specs.Calls.{Asked, CallOf, CallOfAll}
use Rattle.hq_requests.specs.Spans.{Whom}
use Rattle.hq_wire.specs.Exchanges.{CallsAll, EndsAt, IsRefused, MayReplyTo, next_left}
use Rattle.hq_json.specs.Parts.{Place, Outside, closes, for_customer, is_last, is_none_open}
use Rattle.hq_json.specs.Parts.{open_behind, stands_behind}
use Rattle.hq_wire.specs.Replies.{AreObjects, Part, SeenReply, Stop, closing, fault_text}
use Rattle.hq_wire.specs.Replies.{comma_joined, next_text, parts_opening, plain}
use Rattle.hq_wire.specs.Replies.{reply_of_fault}
use Rattle.hq_wire.specs.Replies.{stopped_text, parted_reply}
use Rattle.hq_requests.specs.declared.directory.Directory.{Directory}
use Rattle.hq_wire.proofs.Called.{behind_comma, customer_of_part}

cons : {X : Type 0} (a b : X) (xs ys : List X) → ◌≡◌ {A = List X} (a ∷ xs) (b ∷ ys) → (a ≡ b)
    × (xs ≡ ys)
cons a b xs ys e = (cc, cc)

no_end : (place : Place) (n : ℕ) → closes place n [] ≡ true → ⊥
no_end place n h = false≢true h

last_is : (text : List ℕ) → is_last text ≡ true → text ≡ []
last_is [] h = refl
last_is (b ∷ text) h = absurd (false≢true h)

-- what is told of the text behind a byte, where that byte leaves no brace open or some
abbrev behind : Place → ℕ → ℕ → Bool → List ℕ → Bool
behind place n a none text = if none then is_last text else
    closes (stands_behind place a) (open_behind place n a) text

-- what ends where its braces are closed ends there, whatever stands behind it
object_apart : (place : Place) (n : ℕ) (x y more others : List ℕ) → closes place n x ≡ true →
    closes place n y ≡ true → x ++ more ≡ y ++ others → (x ≡ y) × (more ≡ others)
object_apart place n [] y more others h k e = absurd (no_end place n h)
object_apart place n (a ∷ x) [] more others h k e = absurd (no_end place n k)
object_apart place n (a ∷ x) (b ∷ y) more others h k e =
    let same = cons _ _ _ _ e in
    let too : closes place n (a ∷ y) ≡ true =
    subst (λ c. closes place n (c ∷ y) ≡ true) (sym same.0) k in
    let rest = object_apart (stands_behind place a) (open_behind place n a) x y more others in
    by rest (is_none_open (open_behind place n a)) h too same
  where
    by : (behind place n a false x ≡ true → behind place n a false y ≡ true →
        x ++ more ≡ y ++ others → (x ≡ y) × (more ≡ others)) → (none : Bool) →
        behind place n a none x ≡ true → behind place n a none y ≡ true →
        (a ≡ b) × (x ++ more ≡ y ++ others) → (a ∷ x ≡ b ∷ y) × (more ≡ others)
    by rest true h k same =
        let first = last_is x h in
        let second = last_is y k in (
          ap (λ c. c ∷ x) same.0 ∙ ap (λ zs. b ∷ zs) (first ∙ sym second),
          sym (ap (λ zs. zs ++ more) first) ∙ same.1 ∙ ap (λ zs. zs ++ others) second,
        )
    by rest false h k same =
        let on = rest h k same.1 in
        (ap (λ c. c ∷ x) same.0 ∙ ap (λ zs. b ∷ zs) on.0, on.1)

abbrev text_of_part : Part → List ℕ
text_of_part p = p.text

-- parts that stand behind others, up to the bracket
others_apart : (ps qs : List Part) (more others : List ℕ) → AreObjects ps → AreObjects qs →
    flat_map behind_comma ps ++ 93 ∷ more ≡ flat_map behind_comma qs ++ 93 ∷ others →
    (map text_of_part ps ≡ map text_of_part qs) × (more ≡ others)
others_apart [] [] more others h k e = (refl, (cons _ _ _ _ e).1)
others_apart [] (q ∷ qs) more others h k e = absurd (bracket e)
  where
    bracket : 93 ∷ more ≡ (behind_comma q ++ flat_map behind_comma qs) ++ 93 ∷ others → ⊥
    bracket e = cc
others_apart (p ∷ ps) [] more others h k e = absurd (bracket e)
  where
    bracket : (behind_comma p ++ flat_map behind_comma ps) ++ 93 ∷ more ≡ 93 ∷ others → ⊥
    bracket e = cc
others_apart (p ∷ ps) (q ∷ qs) more others h k e =
    let here : (p.text ++ flat_map behind_comma ps) ++ 93
    ∷ more ≡ (q.text ++ flat_map behind_comma qs) ++ 93 ∷ others = (cons _ _ _ _ e).1 in
    let same = object_apart Outside 0 p.text q.text _ _ h.0.1 k.0.1
    (sym (append_assoc p.text (flat_map behind_comma ps) (93 ∷ more)) ∙ here
    ∙ append_assoc q.text (flat_map behind_comma qs) (93 ∷ others)) in
    let rest = others_apart ps qs more others h.1 k.1 same.1 in
    (ap (λ z. z ∷ map text_of_part ps) same.0 ∙ ap (λ zs. q.text ∷ zs) rest.0, rest.1)

begins_apart : (q more others : List ℕ) → take 1 q ≡ 123 ∷ [] → 93 ∷ more ≡ q ++ others → ⊥
begins_apart [] more others begins e = two begins
  where
    two : ◌≡◌ {A = List ℕ} [] (123 ∷ []) → ⊥
    two e = cc
begins_apart (x ∷ q) more others begins e = false≢true (ap (λ n. n == 123) ((cons _ _ _ _ e).0
    ∙ (cons _ _ _ _ begins).0))

-- all parts, up to the bracket
parts_apart : (ps qs : List Part) (more others : List ℕ) → AreObjects ps → AreObjects qs
    → comma_joined ps
    ++ 93 ∷ more ≡ comma_joined qs ++ 93 ∷ others → (map text_of_part ps ≡ map text_of_part qs)
    × (more ≡ others)
parts_apart [] [] more others h k e = (refl, (cons _ _ _ _ e).1)
parts_apart [] (q ∷ qs) more others h k e =
    absurd (begins_apart q.text more _ k.0.0 (e
    ∙ append_assoc q.text (flat_map behind_comma qs) (93 ∷ others)))
parts_apart (p ∷ ps) [] more others h k e =
    absurd (begins_apart p.text others _ h.0.0 (sym e
    ∙ append_assoc p.text (flat_map behind_comma ps) (93 ∷ more)))
parts_apart (p ∷ ps) (q ∷ qs) more others h k e =
    let same = object_apart Outside 0 p.text q.text _ _ h.0.1 k.0.1
    (sym (append_assoc p.text (flat_map behind_comma ps) (93 ∷ more)) ∙ e
    ∙ append_assoc q.text (flat_map behind_comma qs) (93 ∷ others)) in
    let rest = others_apart ps qs more others h.1 k.1 same.1 in
    (ap (λ z. z ∷ map text_of_part ps) same.0 ∙ ap (λ zs. q.text ∷ zs) rest.0, rest.1)

-- ---- whose parts they are

-- the first names of one list, as many on both sides
named : (ps qs : List Part) (ls ms : List (List ℕ)) → map text_of_part ps ≡ map text_of_part qs →
    map customer_of_part ps ++ ls ≡ map customer_of_part qs ++ ms → (ps ≡ qs) × (ls ≡ ms)
named [] [] ls ms same e = (refl, e)
named [] (q ∷ qs) ls ms same e = absurd (none_more same)
  where
    none_more : [] ≡ q.text ∷ map text_of_part qs → ⊥
    none_more e = cc
named (p ∷ ps) [] ls ms same e = absurd (none_more same)
  where
    none_more : p.text ∷ map text_of_part ps ≡ [] → ⊥
    none_more e = cc
named (p ∷ ps) (q ∷ qs) ls ms same e =
    let texts = cons _ _ _ _ same in
    let names = cons _ _ _ _ e in
    let rest = named ps qs ls ms texts.1 names.1 in
    ((λ i. record { customer = names.0 i; text = texts.0 i } ∷ rest.0 i), rest.1)

-- ---- where it stopped

-- the fault of a number's last digit
abbrev fault_at : ℕ → Fault
fault_at digit = if digit == 48 then WantOfMemory else
    (if digit == 49 then Disk else (if digit == 50 then BadSchema else Closed))

told_by : (f : Fault) (more : List ℕ) → fault_at (get_or (drop 1 (fault_text f) ++ more) 9 0) ≡ f
told_by WantOfMemory more = refl
told_by Disk more = refl
told_by BadSchema more = refl
told_by Closed more = refl

faults_apart : (f g : Fault) (more : List ℕ) → drop 1 (fault_text f) ++ more ≡ drop 1 (fault_text g)
    ++ more → f ≡ g
faults_apart f g more e = sym (told_by f more) ∙ ap (λ xs. fault_at (get_or xs 9 0)) e
    ∙ told_by g more

stops_apart : (may : Fault → Type 0) (mights : Fault → Type 0) (ls ms : List (List ℕ))
    (s t : Option Stop) → ls ≡ ms → EndsAt may ls s → EndsAt mights ms t → stopped_text s
    ++ codes "}" ≡ stopped_text t ++ codes "}" → s ≡ t
stops_apart may mights ls ms None None same h k e = refl
stops_apart may mights ls ms None (Some t) same h k e =
    absurd (false≢true (ap (λ xs. get_or xs 0 0 == 123) e))
stops_apart may mights ls ms (Some s) None same h k e =
    absurd (false≢true (ap (λ xs. get_or xs 0 0 == 123) (sym e)))
stops_apart may mights ls ms (Some s) (Some t) same h k e =
    let customer : s.customer ≡ t.customer = (cons _ _ _ _ (sym h.1.1 ∙ same ∙ k.1.1)).0 in
    let before : List ℕ = codes "{\"customer\":\"" ++ t.customer ++ codes "\"," in
    let told : for_customer t.customer (fault_text s.fault) ++ codes "}" ≡ for_customer t.customer
    (fault_text t.fault) ++ codes "}" = ap (λ c. for_customer c (fault_text s.fault)
    ++ codes "}") (sym customer) ∙ e in
    let rest = append_cancel_left before _ _
    (sym (append_assoc before (drop 1 (fault_text s.fault)) (codes "}")) ∙ told
    ∙ append_assoc before (drop 1 (fault_text t.fault)) (codes "}")) in
    (λ i. Some (record {
      customer = customer i;
      fault = faults_apart s.fault t.fault (codes "}")
          rest i;
    }))

-- ---- the law

-- what stands behind what is told of the next customer
behind_next : (next : Option (Option (List ℕ))) (s t : Option Stop) →
    drop 1 (closing next s) ≡ drop 1 (closing next t) →
    stopped_text s ++ codes "}" ≡ stopped_text t ++ codes "}"
behind_next next s t e =
    let before : List ℕ = next_text next ++ codes ",\"stopped\":" in
    append_cancel_left before _ _
    (sym (append_assoc before (stopped_text s) (codes "}")) ∙ e
    ∙ append_assoc before (stopped_text t) (codes "}"))

-- of two calls of all under one directory
calls_apart : (whom : Whom) (call : Call) (may mights : Fault → Type 0) (host name : List ℕ)
    (d : Directory) (at moment : ℕ) (t t' u u' : Tables) (r q : SeenReply) →
    CallsAll may host d t at whom call r t' →
    CallsAll mights name d u moment whom call q u' → r.body ≡ q.body → r ≡ q
calls_apart whom call may mights host name d at moment t t' u u' r q one other e =
    let next = next_left d whom one.left in
    let later = next_left d whom other.left in
    let same : (parts_opening ++ comma_joined r.parts) ++ closing next r.stopped
    ≡ (parts_opening ++ comma_joined q.parts)
    ++ closing later q.stopped = sym (ap (λ (x : SeenReply). x.body) one.reply) ∙ e
    ∙ ap (λ (x : SeenReply). x.body) other.reply in
    let behind = append_cancel_left parts_opening _ _
    (sym (append_assoc parts_opening (comma_joined r.parts) (closing next r.stopped)) ∙ same
    ∙ append_assoc parts_opening (comma_joined q.parts) (closing later q.stopped)) in
    let texts = parts_apart r.parts q.parts (drop 1 (closing next r.stopped))
    (drop 1 (closing later q.stopped)) one.objects other.objects behind in
    let names = named r.parts q.parts one.left other.left texts.0 (sym one.order ∙ other.order) in
    let nexts : next ≡ later = ap (next_left d whom) names.1 in
    let stops = stops_apart may mights one.left other.left r.stopped q.stopped names.1 one.ends
    other.ends (behind_next later r.stopped q.stopped
    (ap (λ n. drop 1 (closing n r.stopped)) (sym nexts) ∙ texts.1)) in
    one.reply ∙ (λ i. parted_reply (names.0 i) (nexts i) (stops i)) ∙ sym other.reply

-- a reply to no call of all has no parts
refusal_plain : (may : Fault → Type 0) (refusal : Refusal) (r : SeenReply) →
    IsRefused may refusal r → r ≡ plain r.status r.body
unfolding reply_of_fault
refusal_plain may refusal r (inl is) = is ∙ sym (ap (λ (x : SeenReply). plain x.status x.body) is)
refusal_plain may refusal r (inr is) = is.1
    ∙ sym (ap (λ (x : SeenReply). plain x.status x.body) is.1)

fault_plain : (fault : Fault) (r : SeenReply) → r ≡ reply_of_fault fault → r ≡ plain r.status r.body
unfolding reply_of_fault
fault_plain fault r is = is ∙ sym (ap (λ (x : SeenReply). plain x.status x.body) is)

no_fault : (fault : Fault) (next : Option (Option (List ℕ))) (r q : SeenReply) →
    r ≡ parted_reply r.parts next r.stopped →
    q ≡ reply_of_fault fault → r.status ≡ q.status → ⊥
unfolding reply_of_fault
no_fault fault next r q one other e = false≢true (ap (λ n. n == 503)
    (sym (ap (λ (x : SeenReply). x.status) one) ∙ e ∙ ap (λ (x : SeenReply). x.status) other))

module _ (may mights : Fault → Type 0) (host name : List ℕ) (d : Directory) (t t' u u' : Tables)
    (at moment : ℕ) where
  call_plain : (might : Fault → Type 0) (h : List ℕ) (v v' : Tables) (when : ℕ) (c : List ℕ)
      (call : Call) (r : SeenReply) → MayReplyTo might h d v when (Ok (CallOf c call)) r v' →
      r ≡ plain r.status r.body
  call_plain might h v v' when c call r (inl done) = done.0
      ∙ sym (ap (λ (x : SeenReply). plain x.status x.body) done.0)
  call_plain might h v v' when c call r (inr struck) = fault_plain struck.0 r struck.2.0

  pub one_reading : (asked : Result Asked Refusal) (r q : SeenReply) →
      MayReplyTo may host d t at asked r t' → MayReplyTo mights name d u moment asked q u' →
      r.status ≡ q.status → r.body ≡ q.body → r ≡ q
  one_reading (Err refusal) r q one other status body = refusal_plain may refusal r one.0
      ∙ (λ i. plain (status i) (body i)) ∙ sym (refusal_plain mights refusal q other.0)
  one_reading (Ok (CallOf c call)) r q one other status body =
      call_plain may host t t' at c call r one ∙ (λ i. plain (status i) (body i))
      ∙ sym (call_plain mights name u u' moment c call q other)
  one_reading (Ok (CallOfAll whom call)) r q (inl one) (inl other) status body =
      calls_apart whom call may mights host name d at moment t t' u u' r q one other body
  one_reading (Ok (CallOfAll whom call)) r q (inl one) (inr other) status body =
      absurd (no_fault no_memory _ r q one.reply other.0.1 status)
  one_reading (Ok (CallOfAll whom call)) r q (inr one) (inl other) status body =
      absurd (no_fault no_memory _ q r other.reply one.0.1 (sym status))
  one_reading (Ok (CallOfAll whom call)) r q (inr one) (inr other) status body =
      one.0.1 ∙ sym other.0.1
