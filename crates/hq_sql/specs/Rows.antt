-- Typed rows, and the columns that keep them: a row stands behind its rowid, its columns in the
-- order of its table.
use Rattle.std.specs.Prelude.{ℕ, zero, suc, ℤ, pos, Option, Some, None, Bool, false, not, List, []}
use Rattle.std.specs.Prelude.{◌∷◌, codes, if◌then◌else◌}
use Rattle.std.specs.List.{after_first, before_first}
use Rattle.std.specs.Ordering.{int_eq}
use Rattle.std.specs.Str.{bytes_eq}
use Rattle.sqlite.specs.declared.types.Value.{Value}
use Rattle.sqlite.specs.declared.types.Value.TheVariants.{Null, Int, Text, Blob}
use Rattle.sqlite.specs.Order.{Row, column}
use Rattle.hq_values.specs.Senders.{sender_text}
use Rattle.hq_values.specs.declared.address.Sender.{Sender}
use Rattle.hq_values.specs.declared.address.Sender.TheVariants as sender
use Rattle.hq_kept.specs.Actions.{is_space, action_text}
use Rattle.hq_kept.specs.Patterns.{class_name}
use Rattle.hq_kept.specs.declared.action.Action.{Action}
use Rattle.hq_kept.specs.declared.action.Action.TheVariants as action
use Rattle.hq_kept.specs.declared.pattern.Class.{Class}
use Rattle.hq_kept.specs.declared.pattern.Class.TheVariants.{SenderSide, RecipientSide}
use Rattle.hq_kept.specs.declared.message.QueueState.{QueueState}
use Rattle.hq_kept.specs.declared.message.QueueState.TheVariants.{Incoming, Deferred, Hold}
use Rattle.hq_kept.specs.declared.outcome.Fate.{Fate}
use Rattle.hq_kept.specs.declared.outcome.Fate.TheVariants.{Delivered, Failed, Deleted, Expired}
use Rattle.hq_rows.specs.declared.rows.EndRow.{EndRow}
use Rattle.hq_rows.specs.declared.rows.HeadRow.{HeadRow}
use Rattle.hq_rows.specs.declared.rows.HoldRow.{HoldRow}
use Rattle.hq_rows.specs.declared.rows.LineRow.{LineRow}
use Rattle.hq_rows.specs.declared.rows.MarkRow.{MarkRow}
use Rattle.hq_rows.specs.declared.rows.MessageRow.{MessageRow}
use Rattle.hq_rows.specs.declared.rows.NoticeRow.{NoticeRow}
use Rattle.hq_rows.specs.declared.rows.RecipientRow.{RecipientRow}
use Rattle.hq_kept.specs.declared.kind.Kind.{Kind}
use Rattle.hq_kept.specs.declared.kind.Kind.TheVariants.{Failure, Delay}
use Rattle.hq_keyed.specs.Values.{number}

-- ---- values

abbrev pub value_text : Value → List ℕ
value_text (Text t) = t
value_text _ = []

abbrev pub blob_in : Value → List ℕ
blob_in (Blob b) = b
blob_in _ = []

abbrev pub value_number : Value → ℕ
value_number (Int (pos n)) = n
value_number _ = 0

abbrev pub truth_in : Value → Bool
truth_in (Int n) = not (int_eq n (pos 0))
truth_in _ = false

abbrev pub truth : Bool → Value
truth b = Int (if b then pos 1 else pos 0)

-- the empty text stands for the null sender
abbrev pub sender_of : List ℕ → Sender
sender_of [] = sender.Null
sender_of (b ∷ bs) = sender.From (b ∷ bs)

-- 0 incoming, 1 deferred, 2 hold
abbrev pub state_code : QueueState → ℕ
state_code Incoming = 0
state_code Deferred = 1
state_code Hold = 2

abbrev pub state_of : ℕ → QueueState
state_of zero = Incoming
state_of (suc zero) = Deferred
state_of (suc (suc n)) = Hold

-- 0 failure, 1 delay
abbrev pub kind_code : Kind → ℕ
kind_code Failure = 0
kind_code Delay = 1

abbrev pub kind_of : ℕ → Kind
kind_of zero = Failure
kind_of (suc n) = Delay

-- 0 delivered, 1 failed, 2 deleted, 3 expired
abbrev pub fate_code : Fate → ℕ
fate_code Delivered = 0
fate_code Failed = 1
fate_code Deleted = 2
fate_code Expired = 3

abbrev pub fate_of : ℕ → Fate
fate_of zero = Delivered
fate_of (suc zero) = Failed
fate_of (suc (suc zero)) = Deleted
fate_of (suc (suc (suc n))) = Expired

-- the empty text stands for no status
abbrev pub status_column : Option (List ℕ) → List ℕ
status_column None = []
status_column (Some s) = s

abbrev pub status_read : List ℕ → Option (List ℕ)
status_read [] = None
status_read (b ∷ bs) = Some (b ∷ bs)

abbrev pub class_of : List ℕ → Class
class_of name = if bytes_eq name (codes "recipient") then RecipientSide else SenderSide

-- the action of a verb and an argument, as they stand
abbrev pub action_of_verb : List ℕ → List ℕ → Action
action_of_verb verb argument =
    if bytes_eq verb (codes "OK") then action.Okay argument
    else if bytes_eq verb (codes "REJECT") then action.Reject argument
    else if bytes_eq verb (codes "DEFER") then action.Defer argument
    else if bytes_eq verb (codes "DUNNO") then action.Dunno argument
    else if bytes_eq verb (codes "DISCARD") then action.Discard argument
    else if bytes_eq verb (codes "HOLD") then action.Hold argument
    else action.Redirect argument

-- the action of a written form: the verb ends at the first space, and the rest is the argument
abbrev pub action_of : List ℕ → Action
action_of text = action_of_verb (before_first is_space text) (after_first is_space text)

-- ---- rows

abbrev pub tail : Row → Row
tail [] = []
tail (v ∷ vs) = vs

abbrev pub head_columns : HeadRow → Row
head_columns r =
    Text r.customer ∷ number r.account.head.next_serial ∷ number r.account.head.next_notice
    ∷ number r.account.head.tally.accepted ∷ number r.account.head.tally.delivered
    ∷ number r.account.head.tally.failed ∷ number r.account.head.tally.deleted
    ∷ number r.account.head.tally.expired
    ∷ number r.account.counts.messages ∷ number r.account.counts.bytes
    ∷ number r.account.counts.lines ∷ []

abbrev pub head_stored : ℤ × HeadRow → Row
head_stored k = Int k.0 ∷ head_columns k.1

abbrev pub head_read : Row → HeadRow
head_read r = record {
  customer = value_text (column r 1);
  account = record {
    head = record {
      next_serial = value_number (column r 2);
      next_notice = value_number (column r 3);
      tally = record {
        accepted = value_number (column r 4);
        delivered = value_number (column r 5);
        failed = value_number (column r 6);
        deleted = value_number (column r 7);
        expired = value_number (column r 8);
      };
    };
    counts = record {
      messages = value_number (column r 9);
      bytes = value_number (column r 10);
      lines = value_number (column r 11);
    };
  };
}

abbrev pub message_columns : MessageRow → Row
message_columns r =
    Text r.customer ∷ number r.serial ∷ Text (sender_text r.sender) ∷ Text r.spool ∷ number r.size
    ∷ number r.arrival
    ∷ number (state_code r.state) ∷ number r.next_try ∷ number r.attempts ∷ truth r.warned ∷ []

abbrev pub message_stored : ℤ × MessageRow → Row
message_stored k = Int k.0 ∷ message_columns k.1

abbrev pub message_read : Row → MessageRow
message_read r = record {
  customer = value_text (column r 1);
  serial = value_number (column r 2);
  sender = sender_of (value_text (column r 3));
  spool = value_text (column r 4);
  size = value_number (column r 5);
  arrival = value_number (column r 6);
  state = state_of (value_number (column r 7));
  next_try = value_number (column r 8);
  attempts = value_number (column r 9);
  warned = truth_in (column r 10);
}

abbrev pub recipient_columns : RecipientRow → Row
recipient_columns r = Text r.customer ∷ number r.serial ∷ number r.place ∷ Text r.pending.address
    ∷ Text (status_column r.pending.status) ∷ Text r.pending.text ∷ []

abbrev pub recipient_stored : ℤ × RecipientRow → Row
recipient_stored k = Int k.0 ∷ recipient_columns k.1

abbrev pub recipient_read : Row → RecipientRow
recipient_read r = record {
  customer = value_text (column r 1);
  serial = value_number (column r 2);
  place = value_number (column r 3);
  pending = record {
    address = value_text (column r 4);
    status = status_read (value_text (column r 5));
    text = value_text (column r 6);
  };
}

abbrev pub hold_columns : HoldRow → Row
hold_columns r = Text r.customer ∷ number r.serial ∷ Text r.reason ∷ []

abbrev pub hold_stored : ℤ × HoldRow → Row
hold_stored k = Int k.0 ∷ hold_columns k.1

abbrev pub hold_read : Row → HoldRow
hold_read r = record {
  customer = value_text (column r 1);
  serial = value_number (column r 2);
  reason = value_text (column r 3);
}

abbrev pub line_columns : LineRow → Row
line_columns r = Text r.customer ∷ Text (class_name r.line.pattern.0) ∷ Text r.line.pattern.1
    ∷ Text (action_text r.line.action) ∷ []

abbrev pub line_stored : ℤ × LineRow → Row
line_stored k = Int k.0 ∷ line_columns k.1

abbrev pub line_read : Row → LineRow
line_read r = record {
  customer = value_text (column r 1);
  line = record {
    pattern = (class_of (value_text (column r 2)), value_text (column r 3));
    action = action_of (value_text (column r 4));
  };
}

abbrev pub mark_columns : MarkRow → Row
mark_columns r = Text r.customer ∷ Text r.mark.label ∷ Blob r.mark.digest ∷ number r.mark.added
    ∷ number r.mark.changed ∷ number r.mark.same ∷ []

abbrev pub mark_stored : ℤ × MarkRow → Row
mark_stored k = Int k.0 ∷ mark_columns k.1

abbrev pub mark_read : Row → MarkRow
mark_read r = record {
  customer = value_text (column r 1);
  mark = record {
    label = value_text (column r 2);
    digest = blob_in (column r 3);
    added = value_number (column r 4);
    changed = value_number (column r 5);
    same = value_number (column r 6);
  };
}

abbrev pub notice_columns : NoticeRow → Row
notice_columns r =
    Text r.customer ∷ number r.notice.number ∷ number (kind_code r.notice.kind)
    ∷ number r.notice.serial ∷ number r.notice.at
    ∷ Text r.notice.to ∷ Text r.notice.human ∷ Text r.notice.status ∷ []

abbrev pub notice_stored : ℤ × NoticeRow → Row
notice_stored k = Int k.0 ∷ notice_columns k.1

abbrev pub notice_read : Row → NoticeRow
notice_read r = record {
  customer = value_text (column r 1);
  notice = record {
    number = value_number (column r 2);
    kind = kind_of (value_number (column r 3));
    serial = value_number (column r 4);
    at = value_number (column r 5);
    to = value_text (column r 6);
    human = value_text (column r 7);
    status = value_text (column r 8);
  };
}

abbrev pub end_columns : EndRow → Row
end_columns r =
    Text r.customer ∷ number r.end.number ∷ number r.end.at ∷ number r.end.ended.serial
    ∷ Text (sender_text r.end.ended.sender) ∷ Text r.end.ended.recipient
    ∷ number (fate_code r.end.ended.fate) ∷ Text (status_column r.end.ended.status)
    ∷ Text r.end.ended.text ∷ []

abbrev pub end_stored : ℤ × EndRow → Row
end_stored k = Int k.0 ∷ end_columns k.1

abbrev pub end_read : Row → EndRow
end_read r = record {
  customer = value_text (column r 1);
  end = record {
    number = value_number (column r 2);
    at = value_number (column r 3);
    ended = record {
      serial = value_number (column r 4);
      sender = sender_of (value_text (column r 5));
      recipient = value_text (column r 6);
      fate = fate_of (value_number (column r 7));
      status = status_read (value_text (column r 8));
      text = value_text (column r 9);
    };
  };
}

-- ---- rows of answers, which have no rowid

abbrev pub head_shown : Row → HeadRow
head_shown r = head_read (Null ∷ r)

abbrev pub message_shown : Row → MessageRow
message_shown r = message_read (Null ∷ r)

abbrev pub recipient_shown : Row → RecipientRow
recipient_shown r = recipient_read (Null ∷ r)

abbrev pub line_shown : Row → LineRow
line_shown r = line_read (Null ∷ r)

abbrev pub mark_shown : Row → MarkRow
mark_shown r = mark_read (Null ∷ r)

abbrev pub notice_shown : Row → NoticeRow
notice_shown r = notice_read (Null ∷ r)

abbrev pub hold_shown : Row → HoldRow
hold_shown r = hold_read (Null ∷ r)

abbrev pub end_shown : Row → EndRow
end_shown r = end_read (Null ∷ r)
