use Rattle.std.proofs.Common.{◌≡◌, ◌++◌, take}
use Rattle.std.specs.Prelude.{string_bytes}
use Rattle.std.specs.List.{flat_map}
use Rattle.hq_admin.specs.Lines.{end_line}
use Rattle.hq_admin.proofs.history.put_history.Given as goal

-- the lines of the ends so far
abbrev pub invariant-loop-end : goal.invariant-loop-end
invariant-loop-end g l = string_bytes l.text ≡ string_bytes l.initial.text
    ++ flat_map end_line (take l.end-index l.ends)
