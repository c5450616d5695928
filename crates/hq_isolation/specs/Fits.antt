-- When a change fits the customer's state that it meets: then shaped tables stay shaped.
use Rattle.std.specs.Prelude.{◌≡◌, ℕ, ◌<◌, ◌≤◌, ⊤, List, [], ◌∷◌, Some, None}
use Rattle.std.specs.FinMap.{get, len}
use Rattle.hq_kept.specs.Tallies.{all_gone}
use Rattle.hq_kept.specs.declared.account.Head.{Head}
use Rattle.hq_kept.specs.declared.message.Message.{Message}
use Rattle.hq_tables.specs.declared.change.Change.{Change}
use Rattle.hq_tables.specs.declared.change.Change.TheVariants.{PutHead, PutMessage, DropMessage}
use Rattle.hq_tables.specs.declared.change.Change.TheVariants.{PutLine, DropLine, PutMark}
use Rattle.hq_tables.specs.declared.change.Change.TheVariants.{AddNotice}
use Rattle.hq_tables.specs.declared.change.Change.TheVariants.{DropNoticesBelow, PutEnds}
use Rattle.hq_tables.specs.declared.change.Change.TheVariants.{DropEndsTo}
use Rattle.hq_tables.specs.Tables.{State, Noted, Past, change}
use Rattle.hq_tables.specs.Sound.{IsNext, IsQueued}
use Rattle.hq_kept.specs.Limits.{most_messages, most_lines}

-- next numbers in range, above every serial and every number of a notice that is there, and no
-- fewer recipients gone than the number of any end
pub record HeadFits (s : State) (head : Head) : Type 0 where
  pub next_serial : IsNext head.next_serial
  pub next_notice : IsNext head.next_notice
  pub above : (serial : ℕ) (m : Message) → get s.messages serial ≡ Some m →
      serial < head.next_serial
  pub above_notices : (number : ℕ) (n : Noted) → get s.notices number ≡ Some n →
      number < head.next_notice
  pub above_ends : (number : ℕ) (p : Past) → get s.ends number ≡ Some p →
      number ≤ all_gone head.tally

-- a message for the queue, with a spool name that no other message has, and room where its serial
-- is new
pub record MessageFits (s : State) (m : Message) : Type 0 where
  pub queued : IsQueued s.head.next_serial m.serial m
  pub spool : (serial : ℕ) (n : Message) → get s.messages serial ≡ Some n → n.spool ≡ m.spool →
      serial ≡ m.serial
  pub room : get s.messages m.serial ≡ None → len s.messages < most_messages

-- drops always fit; a line fits with room where its pattern is new, an import under a new label,
-- a notice with a new number below the next, and ends up to the number of one who is gone
abbrev pub Fits : State → Change → Type 0
Fits s (PutHead head) = HeadFits s head
Fits s (PutMessage m) = MessageFits s m
Fits s (DropMessage serial) = ⊤
Fits s (PutLine line) = get s.lines line.pattern ≡ None → len s.lines < most_lines
Fits s (DropLine pattern) = ⊤
Fits s (PutMark mark) = get s.marks mark.label ≡ None
Fits s (AddNotice notice) = (0 < notice.number)
    × ((notice.number < s.head.next_notice) × (get s.notices notice.number ≡ None))
Fits s (DropNoticesBelow number) = ⊤
Fits s (PutEnds ends) = ends.last ≤ all_gone s.head.tally
Fits s (DropEndsTo number) = ⊤

-- each change fits the state that those before it leave
abbrev pub AllFit : State → List Change → Type 0
AllFit s [] = ⊤
AllFit s (c ∷ cs) = Fits s c × AllFit (change c s) cs
