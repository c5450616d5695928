-- What one session over a store passes on.
use Rattle.std.specs.Global.{Global}
use Rattle.std.proofs.Common.{◌≡◌, ℕ, true, false, List, [], ◌∷◌, inl, inr, map, sym, ap}
use Rattle.std.proofs.Common.{◌∙◌, ◌++◌, ◌≤◌, ◌-◌, length, get_or, take, drop, ap₂, subst, refl}
use Rattle.std.proofs.Common.{arith}
use Rattle.std.specs.Prelude.{⊤}
use Rattle.std.proofs.Common.{append_assoc}
use Rattle.std.proofs.lemmas.List.{map-append, take_all}
use Rattle.std.specs.Bool.{⊤}
use Rattle.std.specs.List.{AllZip}
use Rattle.sqlite.specs.Held.{state}
use Rattle.sqlite.specs.State.{State, HasCleanDisk}
use Rattle.sqlite.specs.Tree.{Trees}
use Rattle.sqlite_trees.specs.declared.store.Store.{Ghosts}
use Rattle.hq_values.specs.declared.failure.Fault.{Fault}
use Rattle.hq_tables.specs.Shelves.{StopLeaves, StopLeavesTables}
use Rattle.hq_tables.specs.Sound.{Sound}
use Rattle.hq_tables.specs.Tables.{Tables}
use Rattle.hq_desk.specs.Desks.{host_of, on, shelf_of}
use Rattle.hq_desk.specs.declared.desk.Desk.{Desk}
use Rattle.hq_requests.specs.declared.directory.Directory.{Directory}
use Rattle.hq_requests.specs.declared.exchanges.Exchange.{Exchange}
use Rattle.hq_wire.specs.Exchanges.{ask_of}
use Rattle.hq_wire.specs.Replies.{IsSent}
use Rattle.hq_wire.specs.Exchanges.{with_refusals}
use Rattle.hq_wire.specs.Runs.{RunsSo}
use Rattle.hq_requests.specs.declared.reply.Reply.{Reply}
use Rattle.hq_wire.proofs.Alone.{alone}
use Rattle.hq_wire.proofs.Serving.{tells_each}
use Rattle.hq_sql_across.proofs.Telling.{tells_any}
use Rattle.hq_across.specs.Histories.{Passed, Session, uncut}
use Rattle.hq_across.specs.Sessions.{IsJustOpened, IsSession}
use Rattle.hq_across.proofs.Across.{across, across_sound}
use Rattle.hq_across.proofs.Running.{is_session}
use Rattle.hq_sql.specs.Tables.{tables_in}
use Rattle.hq_keyed.specs.Left.{IsQuiet}
use Rattle.hq_keyed.proofs.Left.{clean_before}
use Rattle.hq_sql_open.specs.Found.{tables_with}
use Rattle.hq_sql_open.specs.Transactions.{IsSettled}
use Rattle.hq_sql_shelf.specs.declared.shelf.SqlShelf.{SqlShelf}
use Rattle.hq_sql_open.specs.declared.transaction.Standing.{Standing}
use Rattle.hq_sql_open.specs.declared.transaction.Standing.TheVariants.{Open, Gone, InDoubt}
use Rattle.hq_sql_open.specs.declared.transaction.Standing.TheVariants.{Unasked, Lost}
use Rattle.hq_sql_shelf.specs.Shelf.{Adopts, IsOurs, Stands, is_doubtful, sight_over}
use Rattle.hq_sql_across.specs.Stopped.{IsServed, KeepsDesk, MayKeep, Reopens}
use Rattle.hq_sql_across.specs.Stopped.{PassesSession, PassesSessions, PassesHistory, Visit}
use Rattle.hq_sql_across.proofs.Found.{found_again, keep_whole, sound_found}

abbrev any : Fault → Type 0
any fault = ⊤

-- where nothing was replied, the tables stay
pub nothing_passed : (host : List ℕ) (d : Directory) (exchanges : List Exchange)
    (replies : List Reply) (before after : Trees → Type 0) → (KeepsDesk before → KeepsDesk after
    × ((t : Tables) → MayKeep after t → MayKeep before t)) →
    replies ≡ [] → PassesSession host d exchanges replies before after
nothing_passed host d exchanges replies before after stops none keeps =
    let left = stops keeps in (
      left.0,
      λ t' may. (
        t',
        left.1 t' may,
        uncut d [] [],
        record {
          by = refl;
          told = subst (λ (rs : List Reply). AllZip IsSent rs []) (sym none) tt;
          asked = inr (refl, none);
          tells = tt;
          stopped_at = refl;
        },
        record {
          last = t';
          alone = alone any host d t' t' [] [] refl;
          sound = λ sound. sound;
          found = (0, refl);
        },
      ),
    )

module _ {S : Type 0} (g : Ghosts S) (d : Directory) (before : Trees → Type 0)
    (keeps : KeepsDesk before) (old : Desk (SqlShelf S Global))
    (found : IsOurs (state g (shelf_of old).conn)
    × MayKeep before (tables_in (state g (shelf_of old).conn).committed))
    (rests : StopLeavesTables (sight_over ⊤ ⊤ (state g)) (shelf_of old)) where
  abbrev tables : Tables
  tables = tables_in (state g (shelf_of old).conn).committed

  sound : Sound tables
  sound = sound_found before tables keeps found.1

  -- an open desk of which nothing was asked
  pub unasked : KeepsDesk (state g (shelf_of old).conn).may_leave
      × ((t : Tables) → MayKeep (state g (shelf_of old).conn).may_leave t → MayKeep before t)
  unasked = (
    λ trees left. inl (
      rests.0 trees left,
      subst Sound (sym (rests.1 (tables_with trees) (trees, left, refl))) sound,
    ),
    λ t kept.
        let held = keep_whole kept.0 t (rests.0 kept.0 kept.1) kept.2 in
        subst (MayKeep before) (sym (rests.1 t (kept.0, kept.1, held))) found.1,
  )

  pub asked : (new : Desk (SqlShelf S Global)) (exchanges : List Exchange) (replies : List Reply)
      → RunsSo (with_refusals ⊤ (on (sight_over ⊤ ⊤ (state g)))) d old (map (ask_of d) exchanges)
      replies new
      → (on (sight_over ⊤ ⊤ (state g))).store.is_clean new
      → KeepsDesk (state g (shelf_of new).conn).may_leave
      × ((t' : Tables) → MayKeep (state g (shelf_of new).conn).may_leave t' → (t : Tables)
      × MayKeep before t
      × (s : Session) × IsServed d exchanges replies s × Passed (host_of old) s t t')
  asked new exchanges replies ran clean = (keeps_on, passed_on) where
    after : Trees → Type 0
    after = (state g (shelf_of new).conn).may_leave

    opened : IsJustOpened (with_refusals ⊤ (on (sight_over ⊤ ⊤ (state g)))) old
    opened = record { ours = found.0; sound = sound; rests = rests }

    all : StopLeaves (on (sight_over ⊤ ⊤ (state g))).store new
        (IsSession (host_of old) d (map (ask_of d) exchanges) ran.told tables)
    all = is_session (with_refusals ⊤ (on (sight_over ⊤ ⊤ (state g)))) d old new (map (ask_of d)
        exchanges) ran.told
        ran.served.each opened clean

    session_to : (trees : Trees) (t : Tables) → after trees → tables_with trees ≡ t →
        IsSession (host_of old) d (map (ask_of d) exchanges) ran.told tables t
    session_to trees t left is = all.1 t (trees, left, is)

    keeps_on : KeepsDesk after
    keeps_on trees left =
        let one = session_to trees (tables_with trees) left refl in inl (
          all.0 trees left,
          across_sound (host_of old) (record {
            directory = d;
            asked = map (ask_of d) exchanges;
            replies = ran.told;
            under_way = one.under_way;
          } ∷ []) tables (tables_with trees) (tables_with trees, one.passed, refl) sound,
        )

    passed_on : (t' : Tables) → MayKeep after t' → (t : Tables) × MayKeep before t × (s : Session)
        × IsServed d exchanges replies s × Passed (host_of old) s t t'
    passed_on t' (trees, left, kept) =
        let one = session_to trees t' left
        (keep_whole trees t' (all.0 trees left) kept) in (
          tables,
          found.1,
          record {
            directory = d;
            asked = map (ask_of d) exchanges;
            replies = ran.told;
            under_way = one.under_way;
          },
          record {
            by = refl;
            told = ran.sent;
            tells = tells_any _ d (map (ask_of d) exchanges) ran.told
                (tells_each (with_refusals ⊤ (on (sight_over ⊤ ⊤ (state g)))) d old
                (map (ask_of d) exchanges) ran.told new ran.served.each);
            asked = inl refl;
            stopped_at = one.stopped_at;
          },
          one.passed,
        )

-- ---- as the code has it

-- a shelf that is not in doubt stands
pub stands_sure : (standing : Standing) (s : State) → is_doubtful standing ≡ false →
    Stands standing s
stands_sure Open s sure = tt
stands_sure Gone s sure = tt
stands_sure InDoubt s sure = absurd (let no : true ≡ false = sure in cc)
stands_sure Unasked s sure = absurd (let no : true ≡ false = sure in cc)
stands_sure Lost s sure = absurd (let no : true ≡ false = sure in cc)

-- a shelf over a store that was opened again, once it is known to be clean
pub record Taken {S : Type 0} (g : Ghosts S) (before : Trees → Type 0)
    (shelf : SqlShelf S Global) : Type 0 where
  pub found : HasCleanDisk (state g shelf.conn) → IsOurs (state g shelf.conn)
      × MayKeep before (tables_in (state g shelf.conn).committed)
  pub rests : HasCleanDisk (state g shelf.conn) →
      StopLeavesTables (sight_over ⊤ ⊤ (state g)) shelf

pub taken : {S : Type 0} (g : Ghosts S) (old conn : State) (shelf : SqlShelf S Global)
    → IsQuiet conn (state g shelf.conn)
    → (HasCleanDisk conn → Reopens old conn)
    → (HasCleanDisk (state g shelf.conn) → IsSettled conn → Adopts conn (state g shelf.conn))
    → (HasCleanDisk (state g shelf.conn) → IsOurs (state g shelf.conn) →
    StopLeavesTables (sight_over ⊤ ⊤ (state g)) shelf)
    → KeepsDesk old.may_leave → Taken g old.may_leave shelf
taken g old conn shelf quiet reopens adopts rests keeps = record {
  found = found;
  rests = λ clean. rests clean (found clean).0;
} where
  found : HasCleanDisk (state g shelf.conn) → IsOurs (state g shelf.conn)
      × MayKeep old.may_leave (tables_in (state g shelf.conn).committed)
  found clean = found_again old conn (state g shelf.conn)
      (reopens (clean_before conn (state g shelf.conn) quiet clean)) (adopts clean) keeps

module _ {S : Type 0} (g : Ghosts S) (d : Directory) (before : Trees → Type 0)
    (keeps : KeepsDesk before) (old new : Desk (SqlShelf S Global))
    (taken : Taken g before (shelf_of old))
    (exchanges : List Exchange) (replies : List Reply) where
  -- where exchanges were replied to
  pub asked_passed : RunsSo (with_refusals ⊤ (on (sight_over ⊤ ⊤ (state g)))) d old (map (ask_of d)
      exchanges) replies
      new
      → HasCleanDisk (state g (shelf_of new).conn)
      → is_doubtful (shelf_of new).standing ≡ false
      → KeepsDesk (state g (shelf_of new).conn).may_leave
      × ((t' : Tables) → MayKeep (state g (shelf_of new).conn).may_leave t' → (t : Tables)
      × MayKeep before t
      × (s : Session) × IsServed d exchanges replies s × Passed (host_of old) s t t')
  asked_passed ran clean sure =
      let seen : (on (sight_over ⊤ ⊤ (state g))).store.is_clean new =
      (clean, stands_sure (shelf_of new).standing (state g (shelf_of new).conn) sure) in
      let was = (ran.served.stays.quiet seen).0 in
      asked g d before keeps old (taken.found was) (taken.rests was) new exchanges replies ran seen

  -- where there was no room for the replies
  pub unasked_passed : new ≡ old
      → HasCleanDisk (state g (shelf_of new).conn)
      → replies ≡ []
      → KeepsDesk (state g (shelf_of new).conn).may_leave
      × ((t' : Tables) → MayKeep (state g (shelf_of new).conn).may_leave t' → (t : Tables)
      × MayKeep before t
      × (s : Session) × IsServed d exchanges replies s × Passed (host_of old) s t t')
  unasked_passed same clean none =
      let was = subst
      (λ (n : Desk (SqlShelf S Global)). HasCleanDisk (state g (shelf_of n).conn)) same clean in
      nothing_passed (host_of old) d exchanges replies before
      (state g (shelf_of new).conn).may_leave (λ _. subst
      (λ (n : Desk (SqlShelf S Global)). KeepsDesk
      (state g (shelf_of n).conn).may_leave × ((t : Tables) →
      MayKeep (state g (shelf_of n).conn).may_leave t → MayKeep before t)) (sym same)
      (unasked g d before keeps old (taken.found was) (taken.rests was))) none keeps

-- ---- a history

module _ (host : List ℕ) where
  pub no_sessions : (before : Trees → Type 0) → PassesSessions host [] [] before before
  no_sessions before keeps = (keeps, λ t' may. (t', may, [], tt, refl))

  -- a session, and then others
  pub session_then : (visit : Visit) (replies : List Reply) (later : List Visit)
      (told : List (List Reply)) (before mid after : Trees → Type 0)
      → PassesSession host visit.directory visit.exchanges replies before mid
      → PassesSessions host later told mid after
      → PassesSessions host (visit ∷ later) (replies ∷ told) before after
  session_then visit replies later told before mid after first next keeps =
      let one = first keeps in
      let rest = next one.0 in (
        rest.0,
        λ t' may.
            let last = rest.1 t' may in
            let this = one.1 last.0 last.1 in (
              this.0,
              this.1,
              this.2 ∷ last.2,
              (this.3, last.3),
              (last.0, this.4, last.4),
            ),
      )

  -- the history is to every customer its own machine alone
  pub alone_in_history : (visits : List Visit) (replies : List (List Reply))
      (before after : Trees → Type 0) → PassesSessions host visits replies before after →
      PassesHistory host visits replies before after
  alone_in_history visits replies before after passed keeps =
      let all = passed keeps in (
        all.0,
        λ t' may. let one = all.1 t' may in
            (one.0, one.1, one.2, one.3, across host one.2 one.0 t' one.4),
      )

-- ---- lists of sessions, as the code goes through them

pub first_and_rest : {A : Type 0} (xs : List A) (x : A) → 1 ≤ length xs → x ≡ get_or xs 0 x →
    xs ≡ x ∷ take (length xs - 1) (drop 1 xs)
first_and_rest [] x some first = absurd (omega arith)
first_and_rest (y ∷ ys) x some first =
    ap₂ ◌∷◌ (sym first) (sym (take_all _ ys (omega arith)))

pub told_more : {A B : Type 0} (f : A → B) (old pushed new : List A) (one : A) (later : List B) →
    pushed ≡ old ++ one ∷ [] → map f new ≡ map f pushed ++ later →
    map f new ≡ map f old ++ f one ∷ later
told_more f old pushed new one later more all =
    all ∙ ap (λ xs. map f xs ++ later) more ∙ ap (λ ys. ys ++ later) (map-append f old (one ∷ []))
    ∙ append_assoc (map f old) (f one ∷ []) later
