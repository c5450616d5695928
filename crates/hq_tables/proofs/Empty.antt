-- Empty tables are sound, and have the opening state of everybody.
use Rattle.std.proofs.Common.{◌≡◌, ℕ, ◌+◌, ◌^◌, ◌<◌, ◌≤◌, List, [], map, sym, ap, ◌∙◌, subst, Some}
use Rattle.std.proofs.Common.{arith}
use Rattle.std.specs.Prelude.{option_map, unwrap_or}
use Rattle.std.specs.Ordering.{nat_cmp}
use Rattle.std.specs.Cmp.{nat_cmp_total}
use Rattle.std.specs.Cmp.Lexicographic.{nat_list_cmp_total}
use Rattle.std.specs.FinMap.{empty, entries, get, len, values, get-empty, len-empty, same_map}
use Rattle.std.proofs.lemmas.Map.Lookups.{exact_unsigned, exact_bytes}
use Rattle.hq_kept.specs.declared.action.Action.{Action}
use Rattle.hq_tables.specs.declared.account.Account.{Account}
use Rattle.hq_kept.specs.declared.message.Message.{Message}
use Rattle.hq_kept.specs.declared.message.Pending.{Pending}
use Rattle.hq_owned.specs.Owned.{by_both, part_of, rows_of, map_values}
use Rattle.hq_owned.proofs.Parts.{get_part, get-map_values, both_total, both_exact}
use Rattle.hq_owned.proofs.Pages.{no_entries}
use Rattle.hq_tables.specs.Tables.{Row, text_cmp, line_cmp, lines_cmp, newest_cmp, account, opening}
use Rattle.hq_tables.specs.Tables.{opening_account, no_tables, own, joined, pending_of, message_cmp}
use Rattle.hq_tables.specs.Readings.{kept_of, kept_in}
use Rattle.hq_tables.proofs.Customers.{none_own}
use Rattle.hq_tables.proofs.Orders.{line_total, line_exact, newest_total, newest_exact}
use Rattle.hq_tables.specs.Sound.{IsNext, SoundState, Sound, AreCounted, numbered, pending_count}
use Rattle.hq_owned.proofs.Cases.{none_some}

part_empty : (serial : ℕ) → part_of nat_cmp serial
    (empty {X = Pending} {R = by_both nat_cmp nat_cmp}) ≡ empty
part_empty serial = same_map nat_cmp_total exact_unsigned _ _
    (λ k. get_part nat_cmp nat_cmp_total serial empty k
    ∙ get-empty (by_both nat_cmp nat_cmp) (serial, k) ∙ sym (get-empty nat_cmp k))

no_message : (customer : List ℕ) →
    map_values (joined customer no_tables.recipients no_tables.holds)
    (part_of text_cmp customer no_tables.messages) ≡ empty
no_message customer = same_map nat_cmp_total exact_unsigned _ _ (λ k.
    get-map_values nat_cmp (joined customer no_tables.recipients no_tables.holds) exact_unsigned
    (part_of text_cmp customer no_tables.messages) k
    ∙ ap (λ m. option_map (joined customer no_tables.recipients no_tables.holds k) (get m k))
    (none_own nat_cmp_total exact_unsigned customer)
    ∙ ap (option_map (joined customer no_tables.recipients no_tables.holds k)) (get-empty nat_cmp k)
    ∙ sym (get-empty nat_cmp k))

no_account : (customer : List ℕ) → account no_tables.heads customer ≡ opening_account
no_account customer = ap (λ o. unwrap_or o opening_account) (get-empty text_cmp customer)

pub own_opening : (customer : List ℕ) → own customer no_tables ≡ opening
own_opening customer = λ i. record {
  head = (no_account customer i).head;
  messages = no_message customer i;
  lines = none_own line_total line_exact customer i;
  marks = none_own nat_list_cmp_total exact_bytes customer i;
  notices = none_own nat_cmp_total exact_unsigned customer i;
  ends = none_own newest_total newest_exact customer i;
}

-- stated for any number, since the limits are large
next_one : (n : ℕ) → 1 ≤ n → (0 < 1) × (1 ≤ n)
next_one n h = (omega arith, h)

first_next : IsNext 1
first_next = next_one (2 ^ 40) (omega arith)

nothing : (k : ℕ) (m : Message) → get opening.messages k ≡ Some m → ⊥
nothing k m h = none_some m (sym (get-empty nat_cmp k) ∙ h)

no_values : values opening.messages ≡ []
no_values = ap (map (λ e. e.1)) (no_entries nat_cmp)

opening_sound : SoundState opening
opening_sound = record {
  shaped = record {
    next_serial = first_next;
    next_notice = first_next;
    messages = λ k m h. absurd (nothing k m h);
    spools = λ k l m n h g e. absurd (nothing k m h);
    few_messages = let none : len opening.messages ≡ 0 = len-empty nat_cmp Message in omega arith;
    notices = λ k n h. absurd (none_some n (sym (get-empty nat_cmp k) ∙ h));
    ends = λ k e h. absurd (none_some e (sym (get-empty newest_cmp k) ∙ h));
    few_lines = let none : len opening.lines ≡ 0 = len-empty line_cmp Action in omega arith;
  };
  conserved = ap (λ ms. pending_count ms + 0 + 0 + 0 + 0) (sym no_values);
  bounded = omega arith;
}

no_recipients : (customer : List ℕ) (serial : ℕ) →
    entries (part_of nat_cmp serial (part_of text_cmp customer no_tables.recipients)) ≡ []
no_recipients customer serial =
    ap (λ m. entries (part_of nat_cmp serial m))
    (none_own (both_total nat_cmp_total nat_cmp_total)
    (both_exact exact_unsigned exact_unsigned) customer)
    ∙ ap entries (part_empty serial) ∙ no_entries nat_cmp

pub no_pending : (customer : List ℕ) (serial : ℕ) →
    pending_of customer serial no_tables.recipients ≡ []
unfolding pending_of
no_pending customer serial = ap (map (λ e. e.1)) (no_recipients customer serial)

nothing_kept : (customer : List ℕ) → kept_in customer no_tables ≡ record {
  messages = 0;
  bytes = 0;
  lines = 0;
}
nothing_kept customer = λ i. kept_of (λ (e : ℕ × Row). e.1.size)
    (rows_of text_cmp customer (no_entries {X = Row} message_cmp i))
    (rows_of text_cmp customer (no_entries {X = Action} lines_cmp i))

pub none_counted : AreCounted no_tables
none_counted customer = ap (λ (a : Account). a.counts) (no_account customer)
    ∙ sym (nothing_kept customer)

pub empty_sound : Sound no_tables
empty_sound = record {
  states = λ customer. subst SoundState (sym (own_opening customer)) opening_sound;
  recipients = record {
    placed = λ customer serial. no_recipients customer serial
        ∙ ap (numbered 1) (sym (no_pending customer serial));
    no_orphans = λ customer serial h. no_pending customer serial;
  };
  holds = record {
    some_reason = λ customer serial reason h. absurd
        (none_some reason (sym (get-empty message_cmp (customer, serial)) ∙ h));
    no_orphans = λ customer serial h. get-empty message_cmp (customer, serial);
  };
  counts = none_counted;
}
