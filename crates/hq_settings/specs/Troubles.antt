-- Why a program did not do what its words asked for, and how that is told.
use Rattle.std.specs.Prelude.{ℕ, ◌++◌, List, codes, decimal}
use Rattle.hq_values.specs.Refusals.{fail_shown, no_memory_fail}
use Rattle.hq_values.specs.declared.engine.EngineFault.{EngineFault}
use Rattle.hq_values.specs.declared.engine.EngineFault.TheVariants.{Read, Write, TooManyReads}
use Rattle.hq_values.specs.declared.engine.EngineFault.TheVariants.{WantOfMemory}
use Rattle.hq_import.specs.Refused.{wrong_shown}
use Rattle.hq_settings.specs.declared.trouble.Trouble.{Trouble}
use Rattle.hq_settings.specs.declared.trouble.Trouble.TheVariants.{File, Input, Output, Network}
use Rattle.hq_settings.specs.declared.trouble.Trouble.TheVariants.{Clock, Desk as OfDesk}
use Rattle.hq_settings.specs.declared.trouble.Trouble.TheVariants.{Keys}

-- what a fault of a batch is told as
abbrev pub trouble_of : EngineFault → Trouble
trouble_of Read = Input
trouble_of TooManyReads = Input
trouble_of Write = Output
trouble_of WantOfMemory = OfDesk no_memory_fail

-- as it is told: what failed, where a file of keys is wrong, or the refusal or fault of the desk
abbrev pub trouble_shown : Trouble → List ℕ
trouble_shown File = codes "file"
trouble_shown Input = codes "input"
trouble_shown Output = codes "output"
trouble_shown Network = codes "network"
trouble_shown Clock = codes "clock"
trouble_shown (Keys refusal) = codes "keys row " ++ decimal refusal.row
    ++ wrong_shown refusal.wrong
trouble_shown (OfDesk fail) = fail_shown fail
