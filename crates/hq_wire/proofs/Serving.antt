-- Exchanges one after the other are served together.
use Rattle.std.proofs.Common.{◌≡◌, ◌+◌, List, [], ◌∷◌, cond, sym, ap, subst, arith}
use Rattle.std.proofs.lemmas.List.Sums.{sum_by-append}
use Rattle.std.specs.List.{AllZip}
use Rattle.hq_values.specs.Turns.{InTurn}
use Rattle.hq_values.proofs.Turns.{one_turn}
use Rattle.hq_tables.specs.Shelves.{OnOpenSound}
use Rattle.hq_tables.specs.Sound.{Sound}
use Rattle.hq_tables.specs.Tables.{Tables}
use Rattle.hq_rules.specs.Desks.{DeskSight, Stays}
use Rattle.hq_wire.specs.Exchanges.{Ask, Exchanged, Tells}
use Rattle.hq_wire.specs.Replies.{SeenReply, IsSent, store_faults, tells_store}
use Rattle.hq_wire.specs.Runs.{AllReplied, Served, RepliesSo}
use Rattle.hq_requests.specs.declared.reply.Reply.{Reply}
use Rattle.hq_requests.specs.declared.directory.Directory.{Directory}
use Rattle.hq_wire.proofs.Alone.{alone}
use Rattle.hq_wire.proofs.Exchanging.{stay_put, stay_on}

module _ {D : Type 0} (sight : DeskSight D) (d : Directory) where
  abbrev tables : D → Tables
  tables = sight.store.tables

  -- what is told of the tables, and the rest as of many exchanges
  record Replies (old new : D) (asks : List Ask) (rs : List SeenReply) : Type 0 where
    pub all : OnOpenSound sight.store old new
        (AllReplied sight.store.may_answer (sight.host old) d (tables old) asks rs (tables new))
    pub rest : Served sight d old asks rs new

  together : (old new : D) (asks : List Ask) (rs : List SeenReply) →
      InTurn (Exchanged sight d) old asks rs new → Replies old new asks rs
  together old new [] [] p =
      let done : AllReplied sight.store.may_answer (sight.host old) d (tables old) [] []
      (tables new) = ap tables p in
      record {
        all = λ clean ours open_ sound. done;
        rest = record {
          each = p;
          alone = λ clean ours open_ sound. alone sight.store.may_answer (sight.host old) d
              (tables old) (tables new) [] [] done;
          sound = λ clean ours open_ sound. subst Sound (sym (ap tables p)) sound;
          stays = subst (λ n. Stays sight old n) (sym p) (stay_put sight old);
          counted = λ small. let same = ap sight.store.fault_count p in omega (arith, same);
        };
      }
  together old new [] (r ∷ rs) p = absurd p
  together old new (a ∷ asks) [] p = absurd p
  together old new (a ∷ asks) (r ∷ rs) p = further old p.0 new a asks r rs p p.1
      (together p.0 new asks rs p.2) where
        further : (old mid new : D) (a : Ask) (asks : List Ask) (r : SeenReply)
            (rs : List SeenReply) → InTurn (Exchanged sight d) old (a ∷ asks) (r ∷ rs) new →
            Exchanged sight d old a r mid → Replies mid new asks rs →
            Replies old new (a ∷ asks) (r ∷ rs)
        further old mid new a asks r rs each one later =
            let all : OnOpenSound sight.store old new
            (AllReplied sight.store.may_answer (sight.host old) d (tables old) (a ∷ asks) (r ∷ rs)
            (tables new)) = λ clean ours open_ sound.
            let before = later.rest.stays.quiet clean in
            let opened = later.rest.stays.stays_open open_ in
            let after = later.all clean (one.stays.ours before ours opened) open_
            (one.sound before ours opened sound) in (
              tables mid,
              one.replied before ours opened sound,
              subst (λ h. AllReplied sight.store.may_answer h d (tables mid) asks rs (tables new))
                  one.stays.host after,
            ) in
            record {
              all = all;
              rest = record {
                each = each;
                alone = λ clean ours open_ sound. alone sight.store.may_answer (sight.host old) d
                    (tables old)
                    (tables new) (a ∷ asks) (r ∷ rs) (all clean ours open_ sound);
                sound = λ clean ours open_ sound.
                    let before = later.rest.stays.quiet clean in
                    let opened = later.rest.stays.stays_open open_ in
                    later.rest.sound clean (one.stays.ours before ours opened) open_
                    (one.sound before ours opened sound);
                stays = stay_on sight old mid new one.stays later.rest.stays;
                counted = λ small.
                    let last = later.rest.counted small in
                    let first = one.counted (omega arith) in
                    let sum : store_faults (r ∷ rs) ≡ (0 + cond (tells_store r) 1 0) +
                    store_faults rs =
                    sum_by-append (λ (x : SeenReply). cond (tells_store x) 1 0) (r ∷ []) rs in
                    omega arith;
              };
            }

  -- many exchanges, one after the other
  pub served : (old new : D) (asks : List Ask) (rs : List SeenReply) →
      InTurn (Exchanged sight d) old asks rs new → Served sight d old asks rs new
  served old new asks rs p = (together old new asks rs p).rest

  -- and what is told of the tables
  pub all_replied : (old new : D) (asks : List Ask) (rs : List SeenReply) →
      InTurn (Exchanged sight d) old asks rs new →
      OnOpenSound sight.store old new (AllReplied sight.store.may_answer (sight.host old) d
      (tables old) asks rs (tables new))
  all_replied old new asks rs p = (together old new asks rs p).all

  -- one exchange
  pub served_once : (old new : D) (a : Ask) (r : SeenReply) → Exchanged sight d old a r new →
      Served sight d old (a ∷ []) (r ∷ []) new
  served_once old new a r p = served old new (a ∷ []) (r ∷ [])
      (one_turn (Exchanged sight d) old new a r p)

  -- as it is sent
  pub told_once : (old new : D) (a : Ask) (reply : Reply) (r : SeenReply) → IsSent reply r →
      Exchanged sight d old a r new → RepliesSo sight d old a reply new
  told_once old new a reply r sent p = record {
    told = r;
    sent = sent;
    done = p;
    alone = (served_once old new a r p).alone;
  }

-- what each reply tells
pub tells_each : {D : Type 0} (sight : DeskSight D) (d : Directory) (old : D) (asks : List Ask)
    (rs : List SeenReply) (new : D) → InTurn (Exchanged sight d) old asks rs new →
    AllZip (Tells sight.store.may_answer d) asks rs
tells_each sight d old [] [] new h = tt
tells_each sight d old [] (r ∷ rs) new h = absurd h
tells_each sight d old (a ∷ asks) [] new h = absurd h
tells_each sight d old (a ∷ asks) (r ∷ rs) new h =
    (h.1.tells, tells_each sight d h.0 asks rs new h.2)
