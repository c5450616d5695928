use Rattle.std.proofs.Common.{◌≡◌, false, take}
use Rattle.std.specs.List.{list_any}
use Rattle.std.specs.Str.{bytes_eq}
use Rattle.hq_kept.proofs.pattern.Pattern.is_among.Given as goal

-- it is none of the keys so far
abbrev pub invariant-loop-key : goal.invariant-loop-key
invariant-loop-key l = list_any (bytes_eq l.self.1) (take l.key-index l.keys) ≡ false
