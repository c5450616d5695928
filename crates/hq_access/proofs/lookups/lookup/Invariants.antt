use Rattle.std.proofs.Common.{◌≡◌, ◌++◌}
use Rattle.hq_kept.specs.Keys.{keys_of}
use Rattle.hq_access.proofs.Asking.{Passes}
use Rattle.hq_access.proofs.lookups.lookup.Given as goal

-- the keys so far were asked for, and none had a line; the others are left
abbrev pub invariant-loop-key : goal.invariant-loop-key
invariant-loop-key g l = record {
  passed : Passes g.L.Lines.gets l.class l.yielded l.fn.lines l.lines;
  left : l.yielded ++ l.key-iterator.rest.items ≡ keys_of l.who;
}
