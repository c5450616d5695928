-- What words are given, as `clap` has their options: texts.
use Rattle.std.specs.Prelude.{List, codes, bytes_eq, if◌then◌else◌, Option, Some, None, option_map}
use Rattle.std.specs.Prelude.{option_and_then}
use Rattle.clap.specs.Walk.{Row, Text, first_of}
use Rattle.hq_values.specs.Options.{◌>>=◌}

-- the key of the relay's workers: the text itself, or the path of its file
pub data KeyGiven : Type 0 where
  AsText : Text → KeyGiven
  InFile : Text → KeyGiven

pub record ServeGiven : Type 0 where
  pub directory : Text
  pub keys : Option Text
  pub host : Text
  pub relay_key : KeyGiven
  pub store : Option Text
  pub listen : Text
  pub count : Text
  pub idle_timeout : Text
  pub request_timeout : Text
  pub log : Option Text

pub record BatchGiven : Type 0 where
  pub directory : Text
  pub keys : Option Text
  pub host : Text
  pub relay_key : KeyGiven
  pub store : Option Text
  pub log : Option Text

pub record CheckGiven : Type 0 where
  pub directory : Text
  pub keys : Option Text
  pub host : Text
  pub relay_key : Option KeyGiven

-- a pattern of access tables: of the sender, or of a recipient
pub data PatternGiven : Type 0 where
  OfSender : Text → PatternGiven
  OfRecipient : Text → PatternGiven

pub record TellingGiven : Type 0 where
  pub directory : Text
  pub store : Text
  pub customer : Text
  pub pattern : Option PatternGiven

pub record MovingGiven : Type 0 where
  pub directory : Text
  pub store : Text
  pub customer : Text
  pub pattern : PatternGiven
  pub at : Text

pub record UsageGiven : Type 0 where
  pub directory : Text
  pub store : Text

pub record ImportGiven : Type 0 where
  pub directory : Text
  pub store : Text
  pub customer : Text
  pub label : Text
  pub file : Text

pub record SweepGiven : Type 0 where
  pub directory : Text
  pub host : Text
  pub store : Text
  pub customer : Option Text
  pub at : Text

pub record MigrateGiven : Type 0 where
  pub store : Text

pub data Given : Type 0 where
  OfServe : ServeGiven → Given
  OfBatch : BatchGiven → Given
  OfCheck : CheckGiven → Given
  OfQueue : TellingGiven → Given
  OfHistory : TellingGiven → Given
  OfHold : MovingGiven → Given
  OfRelease : MovingGiven → Given
  OfDelete : MovingGiven → Given
  OfUsage : UsageGiven → Given
  OfImport : ImportGiven → Given
  OfSweep : SweepGiven → Given
  OfMigrate : MigrateGiven → Given

-- the key that the values of two options give: none or one of them is there, and not both
abbrev pub key_of_two : Option Text → Option Text → Option (Option KeyGiven)
key_of_two None None = Some None
key_of_two (Some text) None = Some (Some (AsText text))
key_of_two None (Some path) = Some (Some (InFile path))
key_of_two (Some text) (Some path) = None

abbrev pub any_key_in : List Row → Option (Option KeyGiven)
any_key_in rows = key_of_two (first_of (codes "relay-key") rows)
    (first_of (codes "relay-key-file") rows)

-- the key where one has to be there
abbrev pub one_key_in : List Row → Option KeyGiven
one_key_in rows = option_and_then (λ found. found) (any_key_in rows)

-- the pattern that the values of two options give: none or one of them is there, and not both
abbrev pub pattern_of_two : Option Text → Option Text → Option (Option PatternGiven)
pattern_of_two None None = Some None
pattern_of_two (Some sender) None = Some (Some (OfSender sender))
pattern_of_two None (Some recipient) = Some (Some (OfRecipient recipient))
pattern_of_two (Some sender) (Some recipient) = None

abbrev pub any_pattern_in : List Row → Option (Option PatternGiven)
any_pattern_in rows = pattern_of_two (first_of (codes "sender") rows)
    (first_of (codes "recipient") rows)

-- the pattern where one has to be there
abbrev pub one_pattern_in : List Row → Option PatternGiven
one_pattern_in rows = option_and_then (λ found. found) (any_pattern_in rows)

-- the values of the options of each word, the first of each, in the written order; all are there
-- but those that may be left out: the store and the log of a server or of a batch, the key of a
-- check, the pattern of a queue or of a history, and the customer of a sweep
abbrev pub serve_in : List Row → Option ServeGiven
serve_in rows = do
  directory ← first_of (codes "directory") rows
  host ← first_of (codes "host") rows
  relay_key ← one_key_in rows
  listen ← first_of (codes "listen") rows
  count ← first_of (codes "count") rows
  idle_timeout ← first_of (codes "idle-timeout") rows
  request_timeout ← first_of (codes "request-timeout") rows
  Some (record {
    directory = directory;
    keys = first_of (codes "keys") rows;
    host = host;
    relay_key = relay_key;
    store = first_of (codes "store") rows;
    listen = listen;
    count = count;
    idle_timeout = idle_timeout;
    request_timeout = request_timeout;
    log = first_of (codes "log") rows;
  })

abbrev pub batch_in : List Row → Option BatchGiven
batch_in rows = do
  directory ← first_of (codes "directory") rows
  host ← first_of (codes "host") rows
  relay_key ← one_key_in rows
  Some (record {
    directory = directory;
    keys = first_of (codes "keys") rows;
    host = host;
    relay_key = relay_key;
    store = first_of (codes "store") rows;
    log = first_of (codes "log") rows;
  })

abbrev pub check_in : List Row → Option CheckGiven
check_in rows = do
  directory ← first_of (codes "directory") rows
  host ← first_of (codes "host") rows
  relay_key ← any_key_in rows
  Some (record {
    directory = directory;
    keys = first_of (codes "keys") rows;
    host = host;
    relay_key = relay_key;
  })

abbrev pub telling_in : List Row → Option TellingGiven
telling_in rows = do
  directory ← first_of (codes "directory") rows
  store ← first_of (codes "store") rows
  customer ← first_of (codes "customer") rows
  pattern ← any_pattern_in rows
  Some (record { directory = directory; store = store; customer = customer; pattern = pattern })

abbrev pub moving_in : List Row → Option MovingGiven
moving_in rows = do
  directory ← first_of (codes "directory") rows
  store ← first_of (codes "store") rows
  customer ← first_of (codes "customer") rows
  pattern ← one_pattern_in rows
  at ← first_of (codes "at") rows
  Some (record {
    directory = directory;
    store = store;
    customer = customer;
    pattern = pattern;
    at = at;
  })

abbrev pub usage_in : List Row → Option UsageGiven
usage_in rows = do
  directory ← first_of (codes "directory") rows
  store ← first_of (codes "store") rows
  Some (record { directory = directory; store = store })

abbrev pub import_in : List Row → Option ImportGiven
import_in rows = do
  directory ← first_of (codes "directory") rows
  store ← first_of (codes "store") rows
  customer ← first_of (codes "customer") rows
  label ← first_of (codes "label") rows
  file ← first_of (codes "file") rows
  Some (record {
    directory = directory;
    store = store;
    customer = customer;
    label = label;
    file = file;
  })

abbrev pub sweep_in : List Row → Option SweepGiven
sweep_in rows = do
  directory ← first_of (codes "directory") rows
  host ← first_of (codes "host") rows
  store ← first_of (codes "store") rows
  at ← first_of (codes "at") rows
  Some (record {
    directory = directory;
    host = host;
    store = store;
    customer = first_of (codes "customer") rows;
    at = at;
  })

abbrev pub migrate_in : List Row → Option MigrateGiven
migrate_in rows = do
  store ← first_of (codes "store") rows
  Some (record { store = store })

-- what a word is given
abbrev pub given_in : Text → List Row → Option Given
given_in word rows =
    if bytes_eq word (codes "serve") then option_map OfServe (serve_in rows)
    else if bytes_eq word (codes "batch") then option_map OfBatch (batch_in rows)
    else if bytes_eq word (codes "check") then option_map OfCheck (check_in rows)
    else if bytes_eq word (codes "queue") then option_map OfQueue (telling_in rows)
    else if bytes_eq word (codes "history") then option_map OfHistory (telling_in rows)
    else if bytes_eq word (codes "hold") then option_map OfHold (moving_in rows)
    else if bytes_eq word (codes "release") then option_map OfRelease (moving_in rows)
    else if bytes_eq word (codes "delete") then option_map OfDelete (moving_in rows)
    else if bytes_eq word (codes "usage") then option_map OfUsage (usage_in rows)
    else if bytes_eq word (codes "import") then option_map OfImport (import_in rows)
    else if bytes_eq word (codes "sweep") then option_map OfSweep (sweep_in rows)
    else if bytes_eq word (codes "migrate") then option_map OfMigrate (migrate_in rows)
    else None
