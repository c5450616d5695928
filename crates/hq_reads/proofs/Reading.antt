-- Calls that read, one after another; and keys that are looked up on a shelf.
use Rattle.std.proofs.Common.{◌≡◌, inl, inr, ⊎_elim, ℕ, Bool, true, false, List, [], ◌∷◌}
use Rattle.std.proofs.Common.{Option, Some, None}
use Rattle.std.proofs.Common.{Result, Ok, Err, IfOk, refl, sym, ap, ◌∙◌, subst}
use Rattle.std.specs.Prelude.{IfErr, ⊤}
use Rattle.hq_values.specs.Refusals.{no_memory}
use Rattle.hq_values.specs.declared.failure.Fault.{Fault}
use Rattle.hq_values.specs.declared.failure.Fault.TheVariants as fault
use Rattle.hq_rules.specs.Lookups.{Found, Gets, AsksOn, LooksUp, Looks, first_match, or_next}
use Rattle.hq_kept.specs.declared.action.Action.{Action}
use Rattle.hq_kept.specs.declared.pattern.Class.{Class}
use Rattle.hq_tables.specs.Readings.{read_tables}
use Rattle.hq_tables.specs.Shelves.{Sight, Finds, Keeps, KeepsOnErr, IsTallied, one_more}
use Rattle.hq_tables.specs.Shelves.{StopLeavesTables, StopLeavesNoMore}
use Rattle.hq_reads.proofs.Then.{finds_on}
use Rattle.hq_reads.specs.Memory.{with_memory}

-- what was seen over two calls, of which the first answered
tallied_on : {X Y : Type 0} (was mid is : Bool) (l m n : ℕ) (x : X) (result : Result Y Fault) →
    IsTallied was mid l m (Ok x) → IsTallied mid is m n result → IsTallied was is l n result
tallied_on was mid is l m n x (Ok y) first next = (first.0, next.1, next.2 ∙ first.2)
tallied_on was mid is l m n x (Err fault.WantOfMemory) first next =
    (first.0, next.1, next.2 ∙ first.2)
tallied_on was mid is l m n x (Err fault.Disk) first next =
    (first.0, next.1, next.2 ∙ ap one_more first.2)
tallied_on was mid is l m n x (Err fault.BadSchema) first next = next
tallied_on was mid is l m n x (Err fault.Closed) first next = (next.0, next.1 ∙ ap one_more first.2)

-- ---- what stops leave

apart : {A : Type 0} (b : Bool) → b ≡ false → b ≡ true → A
apart b is closed = absurd (let no : false ≡ true = sym is ∙ closed in cc)

no_more : {S : Type 0} (sight : Sight S) (old : S) → StopLeavesNoMore sight old old
no_more sight old = (λ desk. desk, λ t may. may)

-- over two calls
no_more_on : {S : Type 0} (sight : Sight S) (old mid new : S) → StopLeavesNoMore sight old mid →
    StopLeavesNoMore sight mid new → StopLeavesNoMore sight old new
no_more_on sight old mid new first next = (
  λ desk. next.0 (first.0 desk),
  λ t may. first.1 t (next.1 t may),
)

-- the same tables stand, and no more is left
pub rests_on : {S : Type 0} (sight : Sight S) (old new : S) → StopLeavesNoMore sight old new →
    sight.tables new ≡ sight.tables old → StopLeavesTables sight old → StopLeavesTables sight new
rests_on sight old new left same rests = (
  left.0 rests.0,
  λ t may. rests.1 t (left.1 t may) ∙ sym same,
)

-- ---- what calls keep

-- two calls keep what each of them keeps
pub keeps_on : {S X Y : Type 0} (sight : Sight S) (old mid new : S) (x : X)
    (result : Result Y Fault) → Keeps sight old mid (Ok x) → Keeps sight mid new result →
    Keeps sight old new result
keeps_on sight old mid new x result first next = record {
  same = λ clean ours opened. let before = next.quiet clean in
      next.same clean (first.ours before ours first.tally.1) opened
      ∙ first.same before ours first.tally.1;
  ours = λ clean ours opened. let before = next.quiet clean in
      next.ours clean (first.ours before ours first.tally.1) opened;
  round = λ clean either. let before = next.quiet clean in
      ⊎_elim (λ (ours : sight.is_ours old). λ t back.
      next.round clean (inl (first.ours before ours first.tally.1)) t
      (first.round before (inl ours) t back))
      (λ (closed : sight.is_closed old ≡ true). apart (sight.is_closed old) first.tally.0 closed)
      either;
  quiet = λ clean. first.quiet (next.quiet clean);
  tally = tallied_on (sight.is_closed old) (sight.is_closed mid) (sight.is_closed new)
      (sight.fault_count old) (sight.fault_count mid) (sight.fault_count new) x result first.tally
      next.tally;
  cause = next.cause;
  stops = λ clean either. let before = next.quiet clean in
      ⊎_elim (λ (ours : sight.is_ours old). no_more_on sight old mid new
      (first.stops before (inl ours))
      (next.stops clean (inl (first.ours before ours first.tally.1))))
      (λ (closed : sight.is_closed old ≡ true). apart (sight.is_closed old) first.tally.0 closed)
      either;
}

-- a call keeps no less where memory may be wanted too
pub keeps_more : {S X : Type 0} (refused : Type 0) (sight : Sight S) (old new : S)
    (result : Result X Fault) →
    Keeps sight old new result → Keeps (with_memory refused sight) old new result
keeps_more refused sight old new result kept = record {
  same = kept.same;
  ours = kept.ours;
  round = kept.round;
  quiet = kept.quiet;
  tally = kept.tally;
  cause = cause result kept.cause;
  stops = kept.stops;
} where
  cause : {X : Type 0} (result : Result X Fault) → IfErr result sight.may_answer →
      IfErr result (with_memory refused sight).may_answer
  cause (Ok x) may = tt
  cause (Err fault) may = inr may

-- where nothing was asked of an open shelf
pub keeps_all : {S X : Type 0} (sight : Sight S) (old : S) (x : X) → sight.is_closed old ≡ false →
    Keeps sight old old (Ok x)
keeps_all sight old x opened = record {
  same = λ clean ours opened. refl;
  ours = λ clean ours opened. ours;
  round = λ clean either t back. back;
  quiet = λ clean. clean;
  tally = (opened, opened, refl);
  cause = tt;
  stops = λ clean either. no_more sight old;
}

-- where memory was refused before anything was asked
pub keeps_want : {S X : Type 0} (refused : Type 0) (sight : Sight S) (old : S) → refused →
    sight.is_closed old ≡ false →
    Keeps {X = X} (with_memory refused sight) old old (Err no_memory)
keeps_want refused sight old why opened = record {
  same = λ clean ours opened. refl;
  ours = λ clean ours opened. ours;
  round = λ clean either t back. back;
  quiet = λ clean. clean;
  tally = (opened, opened, refl);
  cause = inl (refl, why);
  stops = λ clean either. no_more sight old;
}

-- a fault is seen the same, whatever was to be answered
fault_tallied : (X Y : Type 0) (was is : Bool) (m n : ℕ) (f : Fault) →
    IsTallied {X = X} was is m n (Err f) → IsTallied {X = Y} was is m n (Err f)
fault_tallied X Y was is m n fault.WantOfMemory seen = seen
fault_tallied X Y was is m n fault.Disk seen = seen
fault_tallied X Y was is m n fault.BadSchema seen = seen
fault_tallied X Y was is m n fault.Closed seen = seen

keeps_err : {S X Y : Type 0} (sight : Sight S) (old new : S) (f : Fault) →
    Keeps {X = X} sight old new (Err f) → Keeps {X = Y} sight old new (Err f)
keeps_err {X} {Y} sight old new f kept =
    record {
      same = kept.same;
      ours = kept.ours;
      round = kept.round;
      quiet = kept.quiet;
      tally =
          fault_tallied X Y (sight.is_closed old) (sight.is_closed new) (sight.fault_count old)
          (sight.fault_count new) f kept.tally;
      cause = kept.cause;
      stops = kept.stops;
    }

pub keeps_ok : {S X Y : Type 0} (sight : Sight S) (old new : S) (x : X) (y : Y) →
    Keeps sight old new (Ok x) → Keeps sight old new (Ok y)
keeps_ok sight old new x y kept = record {
  same = kept.same;
  ours = kept.ours;
  round = kept.round;
  quiet = kept.quiet;
  tally = kept.tally;
  cause = tt;
  stops = kept.stops;
}

-- ---- lookups

-- Lines `L` stand over a shelf, `IsOf` says whose they are, and asking for a key says what that
-- reading call of the shelf says.
module _ {S L : Type 0} (refused : Type 0) (sight : Sight S) (shelf : L → S) (customer : List ℕ)
    (class : Class)
    (IsOf : L → Type 0) (gets : Gets L)
    (tells : (old new : L) (key : List ℕ) (answer : Result (Option Action) Fault) → IsOf old →
    gets old class key answer new
    → IsOf new × Keeps sight (shelf old) (shelf new) answer
    × Finds sight (shelf old) (shelf new) answer customer (λ rows. rows.line class key)) where
  abbrev pub Looked : List (List ℕ) → L → Result Found Fault → L → Type 0
  Looked keys old result new = IsOf new × Keeps (with_memory refused sight) (shelf old) (shelf new)
      result
      × Finds (with_memory refused sight) (shelf old) (shelf new) result customer
      (λ rows. first_match (rows.line class) keys)

  looked_same : (keys : List (List ℕ)) (old : L) (result told : Result Found Fault) (mid new : L) →
      result ≡ told → new ≡ mid → Looked keys old told mid → Looked keys old result new
  looked_same keys old result told mid new e f looked =
      subst (λ r. Looked keys old r new) (sym e)
      (subst (λ n. Looked keys old told n) (sym f) looked)

  asked : (keys : List (List ℕ)) (old : L) (result : Result Found Fault) (new : L) →
      LooksUp gets class keys old result new → IsOf old → sight.is_closed (shelf old) ≡ false →
      Looked keys old result new
  asked [] old result new asks of opened =
      looked_same [] old result (Ok None) old new asks.0 asks.1 (
        of,
        keeps_all (with_memory refused sight) (shelf old) None opened,
        λ clean ours. refl,
      )
  asked (key ∷ keys) old result new asks of opened =
      by asks.0 asks.1 asks.2 asks.3 (λ mid rest of opened. asked keys mid result new rest of
      opened) where
        by : (answer : Result (Option Action) Fault) (mid : L) → gets old class key answer mid →
            AsksOn (LooksUp gets class keys) key answer mid result new
            → ((mid : L) → LooksUp gets class keys mid result new → IsOf mid →
            sight.is_closed (shelf mid) ≡ false → Looked keys mid result new) →
            Looked (key ∷ keys) old result new
        by (Err f) mid got goes further =
            let told = tells old mid key (Err f) of got in
            looked_same (key ∷ keys) old result (Err f) mid new goes.0 goes.1 (
              told.0,
              keeps_err (with_memory refused sight) (shelf old) (shelf mid) f
                  (keeps_more refused sight (shelf old) (shelf mid) (Err f) told.1),
              λ clean ours. tt,
            )
        by (Ok (Some action)) mid got goes further =
            let told = tells old mid key (Ok (Some action)) of got in
            let line = λ (t : S). (read_tables customer (sight.tables t)).line class in
            looked_same (key ∷ keys) old result (Ok (Some (key, action))) mid new goes.0 goes.1 (
              told.0,
              keeps_ok (with_memory refused sight) (shelf old) (shelf mid) (Some action)
                  (Some (key, action)) (keeps_more refused sight (shelf old) (shelf mid) (Ok (Some
                  action))
                  told.1),
              λ clean ours. ap (λ found. or_next key found
                  (first_match (line (shelf old)) keys)) (told.2 clean ours),
            )
        by (Ok None) mid got goes further =
            let told = tells old mid key (Ok None) of got in
            let kept = keeps_more refused sight (shelf old) (shelf mid) (Ok None) told.1 in
            let rest = further mid goes told.0 kept.tally.1 in
            let line = λ (t : S). (read_tables customer (sight.tables t)).line class in
            let next = finds_on (with_memory refused sight) (shelf old) (shelf mid) (shelf new)
            None result
            customer (λ rows. first_match (rows.line class) keys) kept rest.1 rest.2 in (
              rest.0,
              keeps_on (with_memory refused sight) (shelf old) (shelf mid) (shelf new) None result
                  kept rest.1,
              λ clean ours. subst (λ (f : Found). IfOk result (λ found. found ≡ f))
                  (ap (λ found. or_next key found (first_match (line (shelf old)) keys))
                  (told.2 (rest.1.quiet clean) ours)) (next clean ours),
            )

  -- a whole lookup keeps and finds
  pub looked : (keys : List (List ℕ)) (old : L) (result : Result Found Fault) (new : L) →
      Looks refused gets class keys old result new → IsOf old → sight.is_closed (shelf old) ≡ false
      →
      Looked keys old result new
  looked keys old result new (inl want) of opened =
      looked_same keys old result (Err no_memory) old new want.0 want.2 (
        of,
        keeps_want refused sight (shelf old) want.1 opened,
        λ clean ours. tt,
      )
  looked keys old result new (inr asks) of opened = asked keys old result new asks of opened

-- ---- then a change

-- what reading calls and a change that ended in a fault keep together; want of memory may have a
-- wider reason then
pub changes_on : {S X Y Z : Type 0} (refused wide : Type 0) (sight : Sight S) (old mid new : S)
    (x : X) (f : Fault) (result : Result Z Fault) → result ≡ Err f →
    Keeps (with_memory refused sight) old mid (Ok x) → KeepsOnErr {X = Y} sight mid new (Err f) →
    KeepsOnErr (with_memory wide sight) old new result
changes_on {S} {X} {Y} {Z} refused wide sight old mid new x f result is first next =
    subst (λ (r : Result Z Fault). KeepsOnErr (with_memory wide sight) old new r) (sym is) (record {
      none = λ clean ours opened. let before = next.quiet clean in
          next.none clean (first.ours before ours first.tally.1) opened
          ∙ first.same before ours first.tally.1;
      ours = λ clean ours opened. let before = next.quiet clean in
          next.ours clean (first.ours before ours first.tally.1) opened;
      round = λ clean either. let before = next.quiet clean in
          ⊎_elim (λ (ours : sight.is_ours old). λ t back.
          next.round clean (inl (first.ours before ours first.tally.1)) t
          (first.round before (inl ours) t back))
          (λ (closed : sight.is_closed old ≡ true).
          apart (sight.is_closed old) first.tally.0 closed) either;
      quiet = λ clean. first.quiet (next.quiet clean);
      tally = tallied_on {Y = Z} (sight.is_closed old) (sight.is_closed mid) (sight.is_closed new)
          (sight.fault_count old) (sight.fault_count mid) (sight.fault_count new) x (Err f)
          first.tally
          (fault_tallied Y Z (sight.is_closed mid) (sight.is_closed new) (sight.fault_count mid)
          (sight.fault_count new) f next.tally);
      cause = inr next.cause;
      rests = λ clean ours opened rests. let before = next.quiet clean in
          next.rests clean (first.ours before ours first.tally.1) opened
          (rests_on sight old mid (first.stops before (inl ours))
          (first.same before ours first.tally.1) rests);
      shut = λ clean closed. apart (sight.is_closed old) first.tally.0 closed;
    })

-- ---- then a refusal of memory

-- what reading calls keep before memory is refused
pub no_memory_on : {S X Z : Type 0} (refused wide : Type 0) (sight : Sight S) (old new : S) (x : X)
    (result : Result Z Fault) → wide → result ≡ Err no_memory →
    Keeps (with_memory refused sight) old new (Ok x) →
    KeepsOnErr (with_memory wide sight) old new result
no_memory_on {S} {X} {Z} refused wide sight old new x result why is first =
    subst (λ (r : Result Z Fault). KeepsOnErr (with_memory wide sight) old new r) (sym is) (record {
      none = first.same;
      ours = first.ours;
      round = first.round;
      quiet = first.quiet;
      tally = first.tally;
      cause = inl (refl, why);
      rests = λ clean ours opened. rests_on sight old new (first.stops clean (inl ours))
          (first.same clean ours opened);
      shut = λ clean closed. first.stops clean (inr closed);
    })

-- ---- then a change that is made

-- what reading calls and a change that answered keep together
pub made_on : {S X Y Z : Type 0} (refused wide : Type 0) (sight : Sight S) (old mid new : S)
    (x : X) (y : Y) (z : Z) → Keeps (with_memory refused sight) old mid (Ok x) →
    KeepsOnErr sight mid new (Ok y) → KeepsOnErr (with_memory wide sight) old new (Ok z)
made_on refused wide sight old mid new x y z first next = record {
  none = λ clean ours opened. tt;
  ours = λ clean ours opened. let before = next.quiet clean in
      next.ours clean (first.ours before ours first.tally.1) opened;
  round = λ clean either. let before = next.quiet clean in
      ⊎_elim (λ (ours : sight.is_ours old). λ t back.
      next.round clean (inl (first.ours before ours first.tally.1)) t
      (first.round before (inl ours) t back))
      (λ (closed : sight.is_closed old ≡ true). apart (sight.is_closed old) first.tally.0 closed)
      either;
  quiet = λ clean. first.quiet (next.quiet clean);
  tally = (first.tally.0, next.tally.1, next.tally.2 ∙ first.tally.2);
  cause = tt;
  rests = λ clean ours opened rests. let before = next.quiet clean in
      next.rests clean (first.ours before ours first.tally.1) opened
      (rests_on sight old mid (first.stops before (inl ours))
      (first.same before ours first.tally.1) rests);
  shut = λ clean closed. apart (sight.is_closed old) first.tally.0 closed;
}
