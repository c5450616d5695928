use Rattle.std.proofs.Common.{◌≡◌, ◌≤◌, ◌-◌, ◌++◌, take, drop}
use Rattle.json.specs.Print.{escape}
use Rattle.hq_json.proofs.writing.put_escaped.Given as goal

-- what is written, the run that is not yet, and the escapes of what is left
abbrev pub invariant-loop-i : goal.invariant-loop-i
invariant-loop-i g l = record {
  within : l.from ≤ l.i;
  so_far : l.body.items ++ (take (l.i - l.from) (drop l.from l.text) ++ escape (drop l.i l.text))
      ≡ l.fn.body.items ++ escape l.text;
}
