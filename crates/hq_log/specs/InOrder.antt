-- What a log is told one after another.
-- Inner: it serves proofs alone, and no promise rests on it.
use Rattle.std.proofs.Common.{List, [], ◌∷◌, ◌++◌, Option, None, Some, refl, subst, sym}
use Rattle.std.proofs.lemmas.Option.{none-some}
use Rattle.hq_log.specs.Entries.{Telling, tells_some}
use Rattle.hq_log.specs.Files.{Appending, LineState, AppendsLines}
use Rattle.hq_log.specs.Lines.{LogEntry}

-- in lines
pub lines_on : {F : Type 0} (does : Appending F) (old mid new : LineState F)
    (told more : List LogEntry) → AppendsLines does old told mid → AppendsLines does mid more new →
    AppendsLines does old (told ++ more) new
lines_on does old mid new [] more first second =
    subst (λ state. AppendsLines does state more new) first second
lines_on does old mid new (e ∷ told) more first second =
    (first.0, first.1, lines_on does first.0 mid new told more first.2 second)

-- and by a log that may be there
module _ {L : Type 0} (tells : Telling L) where
  pub some_none : ((log : L) → tells log [] log) → (log : Option L) → tells_some tells log [] log
  some_none none None = refl
  some_none none (Some log) = none log

  pub some_on : ((old mid new : L) (told more : List LogEntry) → tells old told mid →
      tells mid more new → tells old (told ++ more) new) →
      (old mid new : Option L) (told more : List LogEntry) → tells_some tells old told mid →
      tells_some tells mid more new → tells_some tells old (told ++ more) new
  some_on on None None None told more first second = refl
  some_on on None None (Some new) told more first second = second
  some_on on None (Some mid) new told more first second = absurd (none-some mid (sym first))
  some_on on (Some old) None new told more first second = absurd first
  some_on on (Some old) (Some mid) None told more first second = absurd second
  some_on on (Some old) (Some mid) (Some new) told more first second =
      on old mid new told more first second
