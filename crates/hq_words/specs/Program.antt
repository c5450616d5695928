-- The words that the program takes, as `clap` has commands: twelve words, with options that take
-- one value each. What `clap` makes of words is said by its own definitions.
use Rattle.std.specs.Prelude.{Bool, true, false, ℕ, List, [], ◌∷◌, codes, fold, Some}
use Rattle.clap.specs.Simple.{App, Shape, new_app, new_rule, new_shape, with_subcommand}
use Rattle.clap.specs.Walk.{Rule, Text}
use Rattle.clap.specs.declared.builder.value_parser.ValueParser.TheVariants.{Unsigned}
use Rattle.hq_values.specs.Moments.{last_moment}
use Rattle.hq_words.specs.declared.table.Takes.{Takes}
use Rattle.hq_words.specs.declared.table.Takes.TheVariants.{Needed, Optional, TextOr, Count}
use Rattle.hq_words.specs.declared.table.Takes.TheVariants.{Seconds, Moment}

-- an option `--NAME` with one value
abbrev pub option_rule : Text → Bool → Rule
option_rule name is_required = record (new_rule name) {
  long = Some name;
  value_names = 1;
  required = is_required;
}

-- an option that is asked for
abbrev pub needed : Text → Rule
needed name = option_rule name true

-- an option, and the value that it has where it is left out
abbrev pub default_rule : Text → Text → Rule
default_rule name value = record (option_rule name false) { defaults = value ∷ [] }

-- an option of a number from 1 up to a most, and the number that it has where it is left out
abbrev pub number_rule : Text → Text → ℕ → Rule
number_rule name value most = record (default_rule name value) { parser = Some (Unsigned 1 most) }

-- an option of a moment, asked for: a number, up to the last second of the year 2099
abbrev pub moment_rule : Text → Rule
moment_rule name = record (needed name) { parser = Some (Unsigned 0 last_moment) }

-- an option that may be left out
abbrev pub optional : Text → Rule
optional name = option_rule name false

-- what an option of this name takes
abbrev pub rule_for : Text → Takes → Rule
rule_for name Needed = needed name
rule_for name Optional = optional name
rule_for name (TextOr text) = default_rule name text.now
rule_for name Count = number_rule name (codes "1000000") 1000000
rule_for name Seconds = number_rule name (codes "30") 3600
rule_for name Moment = moment_rule name

-- a word with options
abbrev pub word_shape : Text → List Rule → Shape
word_shape name rules = record (new_shape name) { rules = rules }

abbrev pub serve_shape : Shape
serve_shape = word_shape (codes "serve")
    (needed (codes "directory") ∷ optional (codes "keys") ∷ needed (codes "host")
    ∷ optional (codes "relay-key")
    ∷ optional (codes "relay-key-file")
    ∷ optional (codes "store")
    ∷ default_rule (codes "listen") (codes "127.0.0.1:8025")
    ∷ number_rule (codes "count") (codes "1000000") 1000000
    ∷ number_rule (codes "idle-timeout") (codes "30") 3600
    ∷ number_rule (codes "request-timeout") (codes "30") 3600
    ∷ optional (codes "log") ∷ [])

abbrev pub batch_shape : Shape
batch_shape = word_shape (codes "batch")
    (needed (codes "directory") ∷ optional (codes "keys") ∷ needed (codes "host")
    ∷ optional (codes "relay-key")
    ∷ optional (codes "relay-key-file")
    ∷ optional (codes "store") ∷ optional (codes "log") ∷ [])

abbrev pub check_shape : Shape
check_shape = word_shape (codes "check")
    (needed (codes "directory") ∷ optional (codes "keys") ∷ needed (codes "host")
    ∷ optional (codes "relay-key")
    ∷ optional (codes "relay-key-file") ∷ [])

-- a word that tells of what a customer has: of all of it, or of what a pattern is for
abbrev pub telling_shape : Text → Shape
telling_shape name = word_shape name
    (needed (codes "directory") ∷ needed (codes "store") ∷ needed (codes "customer")
    ∷ optional (codes "sender")
    ∷ optional (codes "recipient") ∷ [])

-- a word that changes the messages that a pattern is for, at a moment
abbrev pub moving_shape : Text → Shape
moving_shape name = word_shape name
    (needed (codes "directory") ∷ needed (codes "store") ∷ needed (codes "customer")
    ∷ optional (codes "sender")
    ∷ optional (codes "recipient")
    ∷ moment_rule (codes "at") ∷ [])

abbrev pub queue_shape : Shape
queue_shape = telling_shape (codes "queue")

abbrev pub history_shape : Shape
history_shape = telling_shape (codes "history")

abbrev pub hold_shape : Shape
hold_shape = moving_shape (codes "hold")

abbrev pub release_shape : Shape
release_shape = moving_shape (codes "release")

abbrev pub delete_shape : Shape
delete_shape = moving_shape (codes "delete")

abbrev pub usage_shape : Shape
usage_shape = word_shape (codes "usage") (needed (codes "directory") ∷ needed (codes "store") ∷ [])

abbrev pub import_shape : Shape
import_shape = word_shape (codes "import")
    (needed (codes "directory") ∷ needed (codes "store") ∷ needed (codes "customer")
    ∷ needed (codes "label")
    ∷ needed (codes "file") ∷ [])

abbrev pub sweep_shape : Shape
sweep_shape = word_shape (codes "sweep")
    (needed (codes "directory") ∷ needed (codes "host") ∷ needed (codes "store")
    ∷ optional (codes "customer")
    ∷ moment_rule (codes "at") ∷ [])

abbrev pub migrate_shape : Shape
migrate_shape = word_shape (codes "migrate") (needed (codes "store") ∷ [])

-- the words, in the order in which they are told
abbrev pub serving_words : List Shape
serving_words = serve_shape ∷ batch_shape ∷ check_shape ∷ []

abbrev pub message_words : List Shape
message_words = queue_shape ∷ history_shape ∷ hold_shape ∷ release_shape ∷ delete_shape ∷ []

abbrev pub upkeep_words : List Shape
upkeep_words = usage_shape ∷ import_shape ∷ sweep_shape ∷ migrate_shape ∷ []

-- The program, whose version is told: its words stand behind its name, and one of them is there, or
-- help or the version is asked for.
abbrev pub bare_program : App
bare_program = record (new_app (codes "hq")) {
  top = record (new_shape (codes "hq")) {
    no_binary_name = true;
    disable_help_subcommand = true;
    subcommand_required = true;
    has_version = true;
  };
}

abbrev pub program : App
program = fold with_subcommand
    (fold with_subcommand (fold with_subcommand bare_program serving_words) message_words)
    upkeep_words
