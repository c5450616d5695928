-- Which messages of a customer a call is for: those that a pattern of an access table is for
-- (access(5), EMAIL ADDRESS PATTERNS), or all. That calls go by such patterns is this product's
-- own.
use Rattle.std.specs.Prelude.{ℕ, Bool, true, List, Option, None, Some}
use Rattle.std.specs.List.{list_any}
use Rattle.hq_kept.specs.Keys.{is_key_of}
use Rattle.hq_kept.specs.declared.pattern.Class.{Class}
use Rattle.hq_kept.specs.declared.pattern.Class.TheVariants.{SenderSide, RecipientSide}
use Rattle.hq_values.specs.declared.address.Sender.TheVariants.{From}
use Rattle.hq_kept.specs.declared.message.Message.{Message}
use Rattle.hq_kept.specs.declared.message.Pending.{Pending}

-- a pattern is for a message by the keys of its sender, or by those of a pending recipient
abbrev pub matches : Class × List ℕ → Message → Bool
matches (SenderSide, key) m = is_key_of key m.sender
matches (RecipientSide, key) m = list_any (λ (p : Pending). is_key_of key (From p.address))
    m.pending

-- where no pattern is given, every message is selected
abbrev pub is_selected : Option (Class × List ℕ) → Message → Bool
is_selected None m = true
is_selected (Some pattern) m = matches pattern m
