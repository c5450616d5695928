-- The settings that words name, each check before those behind it.
use Rattle.std.specs.Prelude.{ℕ, List, if◌then◌else◌, Option, Result}
use Rattle.std.specs.Io.BufRead.{ends_with_byte, strip_last}
use Rattle.hq_values.specs.Readers.{seen_by}
use Rattle.hq_values.specs.Words.{host_in}
use Rattle.hq_settings.specs.Seen.{settings_seen}
use Rattle.hq_settings.specs.Settings.{Named, relay_in, settings_with}
use Rattle.hq_settings.specs.declared.settings.Settings.{Settings}
use Rattle.hq_words.specs.Given.{KeyGiven, AsText, InFile}
use Rattle.hq_settings.specs.declared.trouble.Trouble.{Trouble}
use Rattle.hq_settings.specs.Steps.{Then, HasCustomers, HasKeys, IsFile, IsRead, Reading}

-- the key on the one line of a file: what stands before the LF (10) at its end, or before the CR
-- (13) and the LF there
abbrev pub key_line : List ℕ → List ℕ
key_line file = if ends_with_byte 10 file then strip_last 13 (strip_last 10 file) else file

-- The relay of a name and a key that is given; or of a name and the key in the file of a path,
-- which is read if the name is good.
abbrev pub NamesRelay : Reading → List ℕ → KeyGiven → Result Named Trouble → Type 0
NamesRelay reads host (AsText key) = IsRead (relay_in host key)
NamesRelay reads host (InFile path) = Then (IsRead (host_in host)) (λ name.
    Then (IsFile reads path) (λ file. IsRead (relay_in name (key_line file))))

-- the relay, with the customers of a directory, which is read if the relay is good, and with the
-- keys that are beside them, whose file is read if the customers are good
abbrev pub SetsUp : Reading → List ℕ → KeyGiven → List ℕ → Option (List ℕ) →
    Result Settings Trouble → Type 0
SetsUp reads host key directory keys result = Then (NamesRelay reads host key) (λ relay.
    Then (HasCustomers reads directory) (λ customers.
    Then (HasKeys reads customers keys) (λ named.
    IsRead (settings_with relay customers named)))) (seen_by settings_seen result)
