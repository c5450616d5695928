-- What the words of an administrator ask for, each check before those behind it.
use Rattle.std.specs.Prelude.{ℕ, ◌≡◌, List, codes, Option, None, Some, Result, Ok}
use Rattle.hq_values.specs.Words.{host_in, label_in}
use Rattle.hq_kept.specs.declared.account.Entry.{Entry}
use Rattle.hq_rules.specs.declared.call.Call.{Call}
use Rattle.hq_kept.specs.Patterns.{pattern_in}
use Rattle.hq_kept.specs.declared.pattern.Class.{Class}
use Rattle.hq_kept.specs.declared.pattern.Class.TheVariants.{SenderSide, RecipientSide}
use Rattle.hq_values.specs.declared.failure.Refusal.{Refusal}
use Rattle.hq_rules.specs.declared.call.Call.TheVariants.{Report, Import as OfImport}
use Rattle.hq_rules.specs.declared.call.Call.TheVariants.{Sweep as OfSweep, HoldAll, ReleaseAll}
use Rattle.hq_rules.specs.declared.call.Call.TheVariants.{DeleteAll, History, FindHistory}
use Rattle.hq_admin.specs.Customers.{entry_named}
use Rattle.hq_admin.specs.declared.performing.AdminCall.{AdminCall}
use Rattle.hq_settings.specs.declared.trouble.Trouble.{Trouble}
use Rattle.hq_settings.specs.Steps.{Then, IsFile, IsRead, Reading}
use Rattle.hq_sql_admin.specs.declared.requests.Done.{Done}
use Rattle.hq_sql_admin.specs.declared.requests.Done.TheVariants.{Held, Released, Deleted}
use Rattle.hq_words.specs.declared.selecting.Matching.{Matching}
use Rattle.hq_words.specs.declared.selecting.Matching.TheVariants as matching
use Rattle.hq_words.specs.declared.selecting.Moving.{Moving}
use Rattle.hq_words.specs.declared.selecting.Telling.{Telling}
use Rattle.hq_words.specs.declared.options.Import.{Import}
use Rattle.hq_words.specs.declared.options.Sweep.{Sweep}

-- the customer of this name in the directory of a path
abbrev pub HasCustomer : Reading → List ℕ → List ℕ → Result Entry Trouble → Type 0
HasCustomer reads directory name = Then (IsFile reads directory) (λ file.
    IsRead (entry_named file name))

-- this call of a customer
abbrev pub AsksFor : List ℕ → ℕ → Entry → Call → Result AdminCall Trouble → Type 0
AsksFor host at entry call result = result ≡ Ok (record {
  host = host;
  at = at;
  entry = entry;
  call = call;
})

-- the pattern that is written
abbrev pub pattern_read : Matching → Result (Class × List ℕ) Refusal
pattern_read (matching.Sender text) = pattern_in SenderSide text.now
pattern_read (matching.Recipient text) = pattern_in RecipientSide text.now

-- the pattern, where one is given
abbrev pub HasPattern : Option Matching → Result (Option (Class × List ℕ)) Trouble → Type 0
HasPattern None result = result ≡ Ok None
HasPattern (Some given) result = Then (IsRead (pattern_read given)) (λ pattern found.
    found ≡ Ok (Some pattern)) result

-- the call that does this to the messages that a pattern is for
abbrev pub move_call : Done → Class × List ℕ → Call
move_call Held pattern = HoldAll (Some pattern)
move_call Released pattern = ReleaseAll (Some pattern)
move_call Deleted pattern = DeleteAll (Some pattern)

-- the newest of a history, or what of it a pattern is for
abbrev pub history_call : Option (Class × List ℕ) → Call
history_call None = History None
history_call (Some pattern) = FindHistory pattern None

-- what is told of a customer, of all or of what a pattern is for; its relay's name and moment show
-- nowhere
abbrev pub TellingAsks : Reading → (Option (Class × List ℕ) → Call) → Telling →
    Result AdminCall Trouble → Type 0
TellingAsks reads call given = Then (IsRead (host_in (codes "localhost"))) (λ host.
    Then (HasCustomer reads given.directory.now given.customer.now) (λ entry.
    Then (HasPattern given.pattern) (λ pattern.
    AsksFor host 0 entry (call pattern))))

-- the report
abbrev pub QueueAsks : Reading → Telling → Result AdminCall Trouble → Type 0
QueueAsks reads = TellingAsks reads Report

-- the history
abbrev pub HistoryAsks : Reading → Telling → Result AdminCall Trouble → Type 0
HistoryAsks reads = TellingAsks reads history_call

-- what is done to the messages that a pattern is for, at a moment; the relay's name shows nowhere
abbrev pub MoveAsks : Reading → Moving → Done → Result AdminCall Trouble → Type 0
MoveAsks reads given done = Then (IsRead (host_in (codes "localhost"))) (λ host.
    Then (HasCustomer reads given.directory.now given.customer.now) (λ entry.
    Then (IsRead (pattern_read given.pattern)) (λ pattern.
    AsksFor host given.at entry (move_call done pattern))))

-- the import of the file of a path under a label; its relay's name and moment show nowhere
abbrev pub ImportAsks : Reading → Import → Result AdminCall Trouble → Type 0
ImportAsks reads given = Then (IsRead (host_in (codes "localhost"))) (λ host.
    Then (HasCustomer reads given.directory.now given.customer.now) (λ entry.
    Then (IsRead (label_in given.label.now)) (λ label.
    Then (IsFile reads given.file.now) (λ lines.
    AsksFor host 0 entry (OfImport label lines)))))

-- the sweep of the customer of this name, at a moment
abbrev pub SweepAsks : Reading → Sweep → List ℕ → Result AdminCall Trouble → Type 0
SweepAsks reads given name = Then (IsRead (host_in given.host.now)) (λ host.
    Then (HasCustomer reads given.directory.now name) (λ entry.
    AsksFor host given.at entry OfSweep))
