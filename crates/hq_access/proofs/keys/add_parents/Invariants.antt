use Rattle.std.proofs.Common.{◌≡◌, ◌++◌, length}
use denote.Text.{Utf8}
use denote.Shadow.{shadow}
use Rattle.hq_kept.specs.Keys.{parents}
use Rattle.hq_access.proofs.Domains.{labels_of}
use Rattle.hq_access.proofs.keys.add_parents.Given as goal

-- the keys of the dots so far, and then those of the dots that are left
abbrev pub invariant-loop-above : goal.invariant-loop-above
invariant-loop-above g l = record {
  text : shadow (Utf8 l.rest);
  so_far : l.keys.items
      ++ parents (labels_of l.rest) ≡ l.fn.keys.items ++ parents (labels_of l.domain);
}

abbrev pub decreases-loop-above : goal.decreases-loop-above
decreases-loop-above g l = length l.rest
