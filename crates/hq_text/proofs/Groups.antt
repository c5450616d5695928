-- The lines of a status text tell the notice that it is of.
use Rattle.std.proofs.Common.{◌≡◌, ℕ, ◌==◌, ◌<◌, Bool, true, false, ◌&&◌, List, [], ◌∷◌, ◌++◌}
use Rattle.std.proofs.Common.{length, Option, Some, None, refl, sym, ap, ◌∙◌, arith, codes}
use Rattle.std.specs.Prelude.{if◌then◌else◌}
use Rattle.std.specs.List.{list_all, flat_map}
use Rattle.std.proofs.lemmas.Bool.Decides.{nat_tests}
use Rattle.std.proofs.lemmas.List.{append_cancel_left}
use Rattle.std.proofs.lemmas.List.Folds.{list_all-append}
use Rattle.hq_values.specs.Serials.{serial_text, serial_in}
use Rattle.hq_values.proofs.QueueIds.{read_of_text}
use Rattle.hq_values.specs.Addresses.{is_address}
use Rattle.hq_values.specs.Words.{is_text}
use Rattle.hq_kept.specs.Statuses.{is_status}
use Rattle.hq_kept.specs.declared.message.Message.{Message}
use Rattle.hq_kept.specs.declared.outcome.Told.{Told}
use Rattle.hq_rules.specs.Dates.{date_text}
use Rattle.hq_text.specs.Determined.{is_told, AreValues, AreAlike}
use Rattle.hq_rules.specs.NoticeTexts.{action, diagnostic_lines, retry_lines, retry_date}
use Rattle.hq_rules.specs.NoticeTexts.{retry_until}
use Rattle.hq_rules.specs.NoticeTexts.{recipient_fields, message_fields, status_lines, status_text}
use Rattle.hq_kept.specs.declared.kind.Kind.{Kind}
use Rattle.hq_kept.specs.declared.kind.Kind.TheVariants.{Failure, Delay}
use Rattle.hq_text.proofs.DateTexts.{date_printed, date_determines}
use Rattle.hq_text.proofs.Parted.{heads_same, parted}
use Rattle.hq_text.proofs.Printed.{both, is_printed, printed-append, host_printed, address_printed}
use Rattle.hq_text.proofs.Printed.{status_printed, text_printed, serial_printed}

-- ---- all lines are printable

abbrev are_printed : List (List ℕ) → Bool
are_printed lines = list_all is_printed lines

then_printed : (line : List ℕ) (lines : List (List ℕ)) → is_printed line ≡ true →
    are_printed lines ≡ true → are_printed (line ∷ lines) ≡ true
then_printed line lines h k = ap (λ first. first && are_printed lines) h ∙ k

both_printed : (xs ys : List (List ℕ)) → are_printed xs ≡ true → are_printed ys ≡ true →
    are_printed (xs ++ ys) ≡ true
both_printed xs ys h k = list_all-append is_printed xs ys ∙ ap (λ first. first && are_printed ys) h
    ∙ k

action_printed : (kind : Kind) → is_printed (action kind) ≡ true
unfolding action
action_printed Failure = refl
action_printed Delay = refl

diagnostic_printed : (text : List ℕ) → is_printed text ≡ true →
    are_printed (diagnostic_lines text) ≡ true
unfolding diagnostic_lines
diagnostic_printed text h = by (length text == 0) where
  by : (none : Bool) → are_printed (if none then [] else (codes "Diagnostic-Code: x-desk; " ++ text)
      ∷ []) ≡ true
  by true = refl
  by false = then_printed (codes "Diagnostic-Code: x-desk; " ++ text) []
      (printed-append (codes "Diagnostic-Code: x-desk; ") text refl h) refl

retry_printed : (kind : Kind) (arrival : ℕ) →
    are_printed (retry_lines (retry_date kind arrival)) ≡ true
unfolding retry_lines
retry_printed Failure arrival = refl
retry_printed Delay arrival =
    then_printed (codes "Will-Retry-Until: " ++ date_text (retry_until arrival)) []
    (printed-append (codes "Will-Retry-Until: ") (date_text (retry_until arrival)) refl
    (date_printed (retry_until arrival) (omega arith))) refl

-- what holds of a recipient that is told of
record IsTold (t : Told) : Type 0 where
  address : is_address t.address ≡ true
  status : is_status t.status ≡ true
  text : is_text t.text ≡ true

told_is : (t : Told) → is_told t ≡ true → IsTold t
told_is t h =
    let last = both (is_address t.address && is_status t.status) (is_text t.text) h in
    let two = both (is_address t.address) (is_status t.status) last.0 in
    record { address = two.0; status = two.1; text = last.1 }

recipient_printed : (kind : Kind) (arrival : ℕ) (t : Told) → is_told t ≡ true →
    are_printed (recipient_fields kind (retry_date kind arrival) t) ≡ true
unfolding recipient_fields
recipient_printed kind arrival t h =
    let is = told_is t h in
    let rest : List (List ℕ) = diagnostic_lines t.text ++ retry_lines (retry_date kind arrival) in
    let from_status : List (List ℕ) = (codes "Status: " ++ t.status) ∷ rest in
    let from_action : List (List ℕ) = (codes "Action: " ++ action kind) ∷ from_status in
    let from_address : List (List ℕ) = (codes "Final-Recipient: rfc822; " ++ t.address)
    ∷ from_action in
    then_printed [] from_address refl
    (then_printed (codes "Final-Recipient: rfc822; " ++ t.address) from_action
    (printed-append (codes "Final-Recipient: rfc822; ") t.address refl
    (address_printed t.address is.address))
    (then_printed (codes "Action: " ++ action kind) from_status
    (printed-append (codes "Action: ") (action kind) refl (action_printed kind))
    (then_printed (codes "Status: " ++ t.status) rest
    (printed-append (codes "Status: ") t.status refl (status_printed t.status is.status))
    (both_printed (diagnostic_lines t.text) (retry_lines (retry_date kind arrival))
    (diagnostic_printed t.text (text_printed t.text is.text)) (retry_printed kind arrival)))))

told_printed : (kind : Kind) (arrival : ℕ) (told : List Told) → list_all is_told told ≡ true →
    are_printed (flat_map (recipient_fields kind (retry_date kind arrival)) told) ≡ true
told_printed kind arrival [] h = refl
told_printed kind arrival (t ∷ told) h =
    let parts = both (is_told t) (list_all is_told told) h in
    both_printed (recipient_fields kind (retry_date kind arrival) t)
    (flat_map (recipient_fields kind (retry_date kind arrival)) told)
    (recipient_printed kind arrival t parts.0) (told_printed kind arrival told parts.1)

message_printed : (host : List ℕ) (m : Message) (told : List Told) → AreValues host m told →
    are_printed (message_fields host m) ≡ true
unfolding message_fields
message_printed host m told v =
    let from_id : List (List ℕ) = (codes "X-Desk-Queue-Id: " ++ serial_text m.serial) ∷ [] in
    let from_date : List (List ℕ) = (codes "Arrival-Date: " ++ date_text m.arrival) ∷ from_id in
    then_printed (codes "Reporting-MTA: dns; " ++ host) from_date
    (printed-append (codes "Reporting-MTA: dns; ") host refl (host_printed host v.host_is))
    (then_printed (codes "Arrival-Date: " ++ date_text m.arrival) from_id
    (printed-append (codes "Arrival-Date: ") (date_text m.arrival) refl
    (date_printed m.arrival v.arrival_is))
    (then_printed (codes "X-Desk-Queue-Id: " ++ serial_text m.serial) []
    (printed-append (codes "X-Desk-Queue-Id: ") (serial_text m.serial) refl
    (serial_printed m.serial)) refl))

lines_printed : (host : List ℕ) (m : Message) (kind : Kind) (told : List Told) →
    AreValues host m told → are_printed (status_lines host m kind told) ≡ true
unfolding status_lines
lines_printed host m kind told v =
    both_printed (message_fields host m) _ (message_printed host m told v)
    (told_printed kind m.arrival told v.told_are)

-- ---- groups of lines

-- the lines of further recipients: none, or an empty line first
abbrev AreGroups : List (List ℕ) → Type 0
AreGroups [] = Unit {0}
AreGroups ([] ∷ lines) = Unit {0}
AreGroups ((b ∷ line) ∷ lines) = ⊥

groups : (kind : Kind) (until : Option (List ℕ)) (told : List Told) →
    AreGroups (flat_map (recipient_fields kind until) told)
unfolding recipient_fields
groups kind until [] = tt
groups kind until (t ∷ told) = tt

no_group : (b : ℕ) (line : List ℕ) (lines rest : List (List ℕ)) → AreGroups rest → rest ≡ (b ∷ line)
    ∷ lines → ⊥
no_group b line lines [] g e = absurd (cc)
no_group b line lines ([] ∷ rest) g e = absurd (cc)
no_group b line lines ((c ∷ first) ∷ rest) g e = g

apart : (x y : ℕ) (xs ys : List ℕ) → x ≡ 87 → y ≡ 68 → ◌≡◌ {A = List ℕ} (x ∷ xs) (y ∷ ys) → ⊥
apart x y xs ys p q e = let first : x ≡ y = (heads_same x y xs ys e).0 in omega arith

other_field : (date text : List ℕ) → codes "Will-Retry-Until: "
    ++ date ≡ codes "Diagnostic-Code: x-desk; " ++ text → ⊥
other_field date text e = apart 87 68 _ _ refl refl e

-- what follows the status of one of whom the remote server said nothing is no diagnostic
no_diagnostic : (until : Option (List ℕ)) (text : List ℕ) (lines rest : List (List ℕ)) →
    AreGroups rest → retry_lines until ++ rest ≡ (codes "Diagnostic-Code: x-desk; " ++ text) ∷ lines
    → ⊥
unfolding retry_lines
no_diagnostic None text lines rest g e = no_group _ _ lines rest g e
no_diagnostic (Some date) text lines rest g e = other_field date text (heads_same _ _ _ _ e).0

silent : (text : List ℕ) → (length text == 0) ≡ true → text ≡ []
silent [] h = refl
silent (b ∷ text) h = let none : length (b ∷ text) ≡ 0 = grind (arith, nat_tests) in
    absurd (omega arith)

diagnostic_same : (until : Option (List ℕ)) (text other : List ℕ) (rest others : List (List ℕ)) →
    AreGroups rest → AreGroups others
    → diagnostic_lines text ++ retry_lines until ++ rest ≡ diagnostic_lines other
    ++ retry_lines until ++ others → (text ≡ other) × (rest ≡ others)
unfolding diagnostic_lines
diagnostic_same until text other rest others g h e =
    by (length text == 0) refl (length other == 0) refl e where
      by : (none : Bool) → (length text == 0) ≡ none → (nothing : Bool) →
          (length other == 0) ≡ nothing
          → (if none then [] else (codes "Diagnostic-Code: x-desk; " ++ text) ∷ [])
          ++ retry_lines until
          ++ rest ≡ (if nothing then [] else (codes "Diagnostic-Code: x-desk; " ++ other) ∷ [])
          ++ retry_lines until ++ others
          → (text ≡ other) × (rest ≡ others)
      by true p true q e = (
        silent text p ∙ sym (silent other q),
        append_cancel_left (retry_lines until) rest others e,
      )
      by true p false q e = absurd (no_diagnostic until other _ rest g e)
      by false p true q e = absurd (no_diagnostic until text _ others h (sym e))
      by false p false q e =
          let same = heads_same _ _ _ _ e in (
            append_cancel_left (codes "Diagnostic-Code: x-desk; ") text other same.0,
            append_cancel_left (retry_lines until) rest others same.1,
          )

kind_same : (kind other : Kind) → codes "Action: " ++ action kind ≡ codes "Action: " ++ action other
    → kind ≡ other
unfolding action
kind_same Failure Failure e = refl
kind_same Delay Delay e = refl
kind_same Failure Delay e = absurd (cc)
kind_same Delay Failure e = absurd (cc)

same_told : (t u : Told) → t.address ≡ u.address → t.status ≡ u.status → t.text ≡ u.text → t ≡ u
same_told t u address status text =
    ap (λ x. record { address = x; status = t.status; text = t.text }) address
    ∙ ap (λ x. record { address = u.address; status = x; text = t.text }) status
    ∙ ap (λ x. record { address = u.address; status = u.status; text = x }) text

-- the lines of a recipient tell the kind, who is told of, and what follows
group_same : (kind other : Kind) (until other_until : Option (List ℕ)) (t u : Told)
    (rest others : List (List ℕ)) → AreGroups rest → AreGroups others →
    (kind ≡ other → until ≡ other_until)
    → recipient_fields kind until t ++ rest ≡ recipient_fields other other_until u ++ others →
    (kind ≡ other) × (t ≡ u) × (rest ≡ others)
unfolding recipient_fields
group_same kind other until other_until t u rest others g h dates e =
    let address = heads_same _ _ _ _ (heads_same _ _ _ _ e).1 in
    let acted = heads_same _ _ _ _ address.1 in
    let status = heads_same _ _ _ _ acted.1 in
    let kinds = kind_same kind other acted.0 in
    let ends = status.1 ∙ ap (λ date. diagnostic_lines u.text ++ retry_lines date ++ others)
    (sym (dates kinds)) in
    let last = diagnostic_same until t.text u.text rest others g h ends in (
      kinds,
      same_told t u (append_cancel_left (codes "Final-Recipient: rfc822; ") t.address u.address
          address.0) (append_cancel_left (codes "Status: ") t.status u.status status.0) last.0,
      last.1,
    )

-- the lines of all recipients tell who is told of, and the kind
told_same : (kind other : Kind) (until other_until : Option (List ℕ)) →
    (kind ≡ other → until ≡ other_until) → (told others : List Told)
    → flat_map (recipient_fields kind until) told ≡ flat_map (recipient_fields other other_until)
    others → (told ≡ others) × (0 < length told → kind ≡ other)
unfolding recipient_fields
told_same kind other until other_until dates [] [] e = (refl, λ some. absurd (omega (arith, some)))
told_same kind other until other_until dates [] (u ∷ others) e = absurd (cc)
told_same kind other until other_until dates (t ∷ told) [] e = absurd (cc)
told_same kind other until other_until dates (t ∷ told) (u ∷ others) e =
    let same = group_same kind other until other_until t u _ _ (groups kind until told)
    (groups other other_until others) dates e in
    let rest = told_same kind other until other_until dates told others same.2 in
    (ap (λ x. x ∷ told) same.1 ∙ ap (λ xs. u ∷ xs) rest.0, λ some. same.0)

same_some : (m n : ℕ) → ◌≡◌ {A = Option ℕ} (Some m) (Some n) → m ≡ n
same_some m n e = cc

pub determined : (host other : List ℕ) (m n : Message) (kind other_kind : Kind)
    (told others : List Told) → AreValues host m told → AreValues other n others
    → status_text host m kind told ≡ status_text other n other_kind others →
    AreAlike host other m n kind other_kind told others
unfolding status_text status_lines message_fields
determined host other m n kind other_kind told others v w e =
    let lines = parted (status_lines host m kind told) (status_lines other n other_kind others)
    (lines_printed host m kind told v) (lines_printed other n other_kind others w) e in
    let hosts = heads_same _ _ _ _ lines in
    let dates = heads_same _ _ _ _ hosts.1 in
    let ids = heads_same _ _ _ _ dates.1 in
    let arrival = date_determines m.arrival n.arrival v.arrival_is w.arrival_is
    (append_cancel_left (codes "Arrival-Date: ") (date_text m.arrival) (date_text n.arrival)
    dates.0) in
    let id = append_cancel_left (codes "X-Desk-Queue-Id: ") (serial_text m.serial)
    (serial_text n.serial) ids.0 in
    let serial = same_some m.serial n.serial
    (sym (read_of_text m.serial v.serial_positive v.serial_below) ∙ ap serial_in id
    ∙ read_of_text n.serial w.serial_positive w.serial_below) in
    let tell = told_same kind other_kind (retry_date kind m.arrival)
    (retry_date other_kind n.arrival) (λ k. ap (λ x. retry_date x m.arrival) k
    ∙ ap (retry_date other_kind) arrival) told others ids.1 in
    record {
      same_host = append_cancel_left (codes "Reporting-MTA: dns; ") host other hosts.0;
      same_serial = serial;
      same_arrival = arrival;
      same_told = tell.0;
      same_kind = tell.1;
    }
