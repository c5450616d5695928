-- What words ask for.
use Rattle.std.specs.Prelude.{◌≡◌, ◌≢◌, ◌≤◌, ◌⊎◌, ⊤, ℕ, List, []}
use Rattle.std.specs.Prelude.{Option, Some, None, option_map, option_and_then}
use Rattle.std.specs.Str.Parse.{IsNumeral, digits_value, without_leading_plus}
use Rattle.clap.specs.Faults.{fault_of}
use Rattle.clap.specs.Kinds.{IsAmong}
use Rattle.clap.specs.Simple.{subcommand_of}
use Rattle.clap.specs.Walk.{Text}
use Rattle.clap.specs.declared.error.kind.ErrorKind.{ErrorKind}
use Rattle.clap.specs.declared.error.kind.ErrorKind.TheVariants.{DisplayHelp, DisplayVersion}
use Rattle.hq_words.specs.Given.{BatchGiven, CheckGiven, Given, ImportGiven, KeyGiven, MigrateGiven}
use Rattle.hq_words.specs.Given.{MovingGiven, PatternGiven, ServeGiven, SweepGiven, TellingGiven}
use Rattle.hq_words.specs.Given.{UsageGiven, OfSender, OfRecipient, OfHistory, OfHold, OfRelease}
use Rattle.hq_words.specs.Given.{OfDelete}
use Rattle.hq_words.specs.Given.{AsText, InFile, OfServe, OfBatch, OfCheck, OfQueue, OfUsage}
use Rattle.hq_words.specs.Given.{OfImport, OfSweep, OfMigrate, given_in}
use Rattle.hq_words.specs.Program.{program}
use Rattle.hq_words.specs.declared.options.RelayKey.{RelayKey}
use Rattle.hq_words.specs.declared.options.RelayKey.TheVariants as key
use Rattle.hq_words.specs.declared.options.Serve.{Serve}
use Rattle.hq_words.specs.declared.options.Batch.{Batch}
use Rattle.hq_words.specs.declared.options.Check.{Check}
use Rattle.hq_words.specs.declared.selecting.Matching.{Matching}
use Rattle.hq_words.specs.declared.selecting.Matching.TheVariants as matching
use Rattle.hq_words.specs.declared.selecting.Moving.{Moving}
use Rattle.hq_words.specs.declared.selecting.Telling.{Telling}
use Rattle.hq_words.specs.declared.options.UsageWord.{UsageWord}
use Rattle.hq_words.specs.declared.options.Import.{Import}
use Rattle.hq_words.specs.declared.options.Sweep.{Sweep}
use Rattle.hq_words.specs.declared.options.Migrate.{Migrate}
use Rattle.hq_words.specs.declared.words.Word.{Word}
use Rattle.hq_words.specs.declared.words.Word.TheVariants as asked
use Rattle.hq_words.specs.declared.words.Words.{Words}
use Rattle.hq_words.specs.declared.words.Words.TheVariants.{Builtin, Word as OfWord, Shown, Refused}
use Rattle.hq_values.specs.Moments.{last_moment}

-- what words give
abbrev pub given_by : List Text → Option Given
given_by words = option_and_then (λ found. given_in found.0 found.1) (subcommand_of program words)

-- ---- what they ask for

-- the number that a text writes in decimal digits, behind a plus sign or not
abbrev pub numeral_value : Text → ℕ
numeral_value text = digits_value 10 (without_leading_plus text)

-- a text of a moment, in seconds since 1970, up to the last one of the year 2099
abbrev pub NamesAMoment : Text → Type 0
NamesAMoment text = IsNumeral 10 (without_leading_plus text) × (numeral_value text ≤ last_moment)

-- the moment that a text names, or none where it names none
abbrev pub IsMoment : Text → Option ℕ → Type 0
IsMoment text (Some seconds) = NamesAMoment text × (seconds ≡ numeral_value text)
IsMoment text None = NamesAMoment text → ⊥

-- a text of a number below 2^32
abbrev pub NamesANumber : Text → Type 0
NamesANumber text = IsNumeral 10 (without_leading_plus text) × (numeral_value text ≤ 4294967295)

-- the number that a text names, or none where it names none
abbrev pub IsNumber : Text → Option ℕ → Type 0
IsNumber text (Some number) = NamesANumber text × (number ≡ numeral_value text)
IsNumber text None = NamesANumber text → ⊥

-- a key as it was written
abbrev pub key_given : RelayKey → KeyGiven
key_given (key.Given text) = AsText text.now
key_given (key.InFile path) = InFile path.now

abbrev pub given_of : Batch → BatchGiven
given_of b = record {
  directory = b.directory.now;
  keys = option_map (λ k. k.now) b.keys;
  host = b.host.now;
  relay_key = key_given b.relay_key;
  store = option_map (λ s. s.now) b.store;
  log = option_map (λ l. l.now) b.log;
}

abbrev pub check_of : Check → CheckGiven
check_of c = record {
  directory = c.directory.now;
  keys = option_map (λ k. k.now) c.keys;
  host = c.host.now;
  relay_key = option_map key_given c.relay_key;
}

-- a pattern as it was written
abbrev pub pattern_given : Matching → PatternGiven
pattern_given (matching.Sender text) = OfSender text.now
pattern_given (matching.Recipient text) = OfRecipient text.now

abbrev pub telling_of : Telling → TellingGiven
telling_of t = record {
  directory = t.directory.now;
  store = t.store.now;
  customer = t.customer.now;
  pattern = option_map pattern_given t.pattern;
}

-- a move as it was written, but for its moment
abbrev pub moving_at : Text → Moving → MovingGiven
moving_at at m = record {
  directory = m.directory.now;
  store = m.store.now;
  customer = m.customer.now;
  pattern = pattern_given m.pattern;
  at = at;
}

-- A move is what it is given, at the moment that is named; there is none where an option is missing
-- or names no moment.
abbrev pub MovingIs : Option MovingGiven → Option Moving → Type 0
MovingIs (Some given) (Some moving) = (given ≡ moving_at given.at moving)
    × IsMoment given.at (Some moving.at)
MovingIs (Some given) None = IsMoment given.at None
MovingIs None (Some moving) = ⊥
MovingIs None None = ⊤

abbrev pub usage_of : UsageWord → UsageGiven
usage_of u = record { directory = u.directory.now; store = u.store.now }

abbrev pub import_of : Import → ImportGiven
import_of i = record {
  directory = i.directory.now;
  store = i.store.now;
  customer = i.customer.now;
  label = i.label.now;
  file = i.file.now;
}

abbrev pub migrate_of : Migrate → MigrateGiven
migrate_of m = record { store = m.store.now }

-- a sweep as it was written, but for its moment
abbrev pub sweep_at : Text → Sweep → SweepGiven
sweep_at at s = record {
  directory = s.directory.now;
  host = s.host.now;
  store = s.store.now;
  customer = option_map (λ c. c.now) s.customer;
  at = at;
}

-- A sweep is what it is given, at the moment that is named; there is none where an option is
-- missing or names no moment.
abbrev pub SweepIs : Option SweepGiven → Option Sweep → Type 0
SweepIs (Some given) (Some sweep) = (given ≡ sweep_at given.at sweep)
    × IsMoment given.at (Some sweep.at)
SweepIs (Some given) None = IsMoment given.at None
SweepIs None (Some sweep) = ⊥
SweepIs None None = ⊤

-- a server as it was written, with its numbers
abbrev pub serve_with : Text → Text → Text → Serve → ServeGiven
serve_with count idle_timeout request_timeout s = record {
  directory = s.directory.now;
  keys = option_map (λ k. k.now) s.keys;
  host = s.host.now;
  relay_key = key_given s.relay_key;
  store = option_map (λ s. s.now) s.store;
  listen = s.listen.now;
  count = count;
  idle_timeout = idle_timeout;
  request_timeout = request_timeout;
  log = option_map (λ l. l.now) s.log;
}

-- the numbers of a server are those that are named
abbrev pub HasNumbers : ServeGiven → Serve → Type 0
HasNumbers given s =
    IsNumber given.count (Some s.count) × IsNumber given.idle_timeout (Some s.idle_timeout)
    × IsNumber given.request_timeout (Some s.request_timeout)

-- three numbers are named
abbrev pub NamesNumbers : ServeGiven → Type 0
NamesNumbers given = NamesANumber given.count × NamesANumber given.idle_timeout
    × NamesANumber given.request_timeout

-- A server is what it is given, with the numbers that are named; there is none where an option is
-- missing or names none.
abbrev pub ServeIs : Option ServeGiven → Option Serve → Type 0
ServeIs (Some given) (Some serve) =
    (given ≡ serve_with given.count given.idle_timeout given.request_timeout serve)
    × HasNumbers given serve
ServeIs (Some given) None = NamesNumbers given → ⊥
ServeIs None (Some serve) = ⊥
ServeIs None None = ⊤

-- what is asked for by what is given
abbrev pub Asks : Option Given → Option Word → Type 0
Asks (Some (OfServe given)) (Some (asked.Serve s)) = ServeIs (Some given) (Some s)
Asks (Some (OfServe given)) None = ServeIs (Some given) None
Asks (Some (OfBatch given)) (Some (asked.Batch b)) = given ≡ given_of b
Asks (Some (OfCheck given)) (Some (asked.Check c)) = given ≡ check_of c
Asks (Some (OfQueue given)) (Some (asked.Queue t)) = given ≡ telling_of t
Asks (Some (OfHistory given)) (Some (asked.History t)) = given ≡ telling_of t
Asks (Some (OfHold given)) (Some (asked.Hold m)) = MovingIs (Some given) (Some m)
Asks (Some (OfHold given)) None = MovingIs (Some given) None
Asks (Some (OfRelease given)) (Some (asked.Release m)) = MovingIs (Some given) (Some m)
Asks (Some (OfRelease given)) None = MovingIs (Some given) None
Asks (Some (OfDelete given)) (Some (asked.Delete m)) = MovingIs (Some given) (Some m)
Asks (Some (OfDelete given)) None = MovingIs (Some given) None
Asks (Some (OfUsage given)) (Some (asked.Usage u)) = given ≡ usage_of u
Asks (Some (OfImport given)) (Some (asked.Import i)) = given ≡ import_of i
Asks (Some (OfSweep given)) (Some (asked.Sweep s)) = SweepIs (Some given) (Some s)
Asks (Some (OfSweep given)) None = SweepIs (Some given) None
Asks (Some (OfMigrate given)) (Some (asked.Migrate m)) = given ≡ migrate_of m
Asks None None = ⊤
Asks _ _ = ⊥

-- ---- what words say

-- `clap` has a fault of such a kind with the words; to ask for help is one of them
abbrev pub Faults : ErrorKind → List Text → Type 0
Faults kind words = IsAmong kind (fault_of program words)

-- help is asked for, or the version
abbrev pub IsToShow : ErrorKind → Type 0
IsToShow kind = (kind ≡ DisplayHelp) ⊎ (kind ≡ DisplayVersion)

abbrev pub AsksToShow : List Text → Type 0
AsksToShow words = (kind : ErrorKind) × IsToShow kind × Faults kind words

-- a fault, and not that something is to be shown
abbrev pub HasAFault : List Text → Type 0
HasAFault words = (kind : ErrorKind) × (IsToShow kind → ⊥) × Faults kind words

-- `clap` has no fault with the words
abbrev pub IsTaken : List Text → Type 0
IsTaken words = fault_of program words ≡ []

-- Words ask for this: none for the built-in customers; others that `clap` takes for what they give;
-- and else there is a fault, which is told.
abbrev pub Says : List Text → Words → Type 0
Says words Builtin = words ≡ []
Says words (OfWord it) = (words ≢ []) × IsTaken words × Asks (given_by words) (Some it)
Says words (Shown text) = (words ≢ []) × AsksToShow words
Says words (Refused told) = (words ≢ []) × (HasAFault words
    ⊎ (IsTaken words × Asks (given_by words) None))
