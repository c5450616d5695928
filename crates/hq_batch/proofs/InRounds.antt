-- Rounds of lines, one after another.
use Rattle.std.proofs.Common.{◌≡◌, ◌≤◌, ◌<◌, ℕ, List, [], ◌∷◌, ◌++◌, length, map, Option, Some}
use Rattle.std.proofs.Common.{None, Result, Ok, Err, lit≤, lit<, refl, sym, ap, ◌∙◌, subst}
use Rattle.std.proofs.Common.{append-nil}
use Rattle.std.specs.Bool.{⊤}
use Rattle.std.specs.Prelude.{IfOk, OnErr}
use Rattle.std.specs.List.{concat}
use Rattle.std.proofs.KnownBytes.{Appends-nil}
use Rattle.std.proofs.lemmas.List.{length-map, map-append}
use Rattle.hq_values.specs.Refusals.{no_memory}
use Rattle.hq_values.specs.Turns.{InTurn}
use Rattle.hq_values.proofs.Turns.{turns_on}
use Rattle.hq_desk.specs.declared.desk.Desk.{Desk}
use Rattle.hq_rules.specs.Desks.{DeskSight}
use Rattle.hq_log.specs.Entries.{Telling}
use Rattle.hq_log.specs.Lines.{LogEntry}
use Rattle.hq_requests.specs.Named.{whose_exchange, whose_told}
use Rattle.hq_requests.specs.declared.directory.Directory.{Directory}
use Rattle.hq_requests.specs.declared.exchanges.Exchange.{Exchange}
use Rattle.hq_requests.specs.declared.reply.Reply.{Reply}
use Rattle.hq_wire.specs.Exchanges.{Ask, ask_of}
use Rattle.hq_wire.specs.Replies.{SeenReply, reply_of_fault, seen}
use Rattle.hq_wire.proofs.Serving.{served}
use Rattle.hq_together.specs.Sessions.{all_in}
use Rattle.hq_together.specs.Together.{GoesBack, RoundSo, ServedInRound}
use Rattle.hq_together.proofs.InRounds.{alone_as_one, replied_as_one}
use Rattle.hq_together.proofs.Served.{each_by_itself, stayed, wanted}
use Rattle.hq_together.proofs.Wanted.{wants}
use Rattle.hq_lines.specs.Fields.{LineRequest}
use Rattle.hq_lines.specs.Rounds.{DoesFirst}
use Rattle.hq_lines.specs.Written.{GoesOut}
use Rattle.hq_lines.proofs.First.{only_waits, passed_over}
use Rattle.hq_lines.proofs.Steps.{does_on as steps_on}
use Rattle.hq_batch.specs.Batches.{TellsLinesOf, ask_in, reply_line}
use Rattle.hq_batch.specs.InRounds.{RepliedInRounds, RoundReplied, most_lines_together}
use Rattle.hq_batch.specs.Steps.{AnswersInRounds, DeskAndLog, LineAnswered, RoundTold}
use Rattle.hq_batch.specs.Steps.{front_with, replied_entries, wanted_entry}
use Rattle.hq_batch.specs.Waiting.{line_asked, lines_waiting}
use Rattle.hq_batch.specs.declared.rounds.RoundFront.{RoundFront}
use Rattle.hq_batch.proofs.Lined.{entries_of_replies, entries_of_wants, entries_on}
use Rattle.hq_batch.proofs.Lined.{lines_asked, sent_lines, want_lines, want_replies}

-- ---- all of it as one run

module _ {D L : Type 0} (sight : DeskSight D) (d : Directory) (tells : Telling L)
    (none : (log : L) → tells log [] log) (on : (old mid new : L) (told more : List LogEntry) →
    tells old told mid → tells mid more new → tells old (told ++ more) new) where
  -- what the rounds replied, and what was told
  record AllOf (log_old log_new : L) (old : D) (asked : List (List (Option LineRequest)))
      (lines : List (List (List ℕ))) (new : D) : Type 0 where
    pub rounds : InTurn (RoundReplied sight d) old asked lines new
    pub replied : List (List SeenReply)
    pub lines_are : lines ≡ map (map reply_line) replied
    pub served : InTurn (ServedInRound sight d) old (map (map (ask_in d)) asked) replied new
    pub told : TellsLinesOf d tells log_old log_new (all_in asked) (all_in replied)

  all_of : (old new : DeskAndLog D L) (asked : List (List (Option LineRequest)))
      (lines : List (List (List ℕ))) → InTurn (RoundTold sight d tells) old asked lines new →
      AllOf old.log new.log old.desk asked lines new.desk
  all_of old new [] [] p = record {
    rounds = ap (λ s. s.desk) p;
    replied = [];
    lines_are = refl;
    served = ap (λ s. s.desk) p;
    told = (
      [],
      tt,
      subst (λ (s : DeskAndLog D L). tells old.log [] s.log) (sym p) (none old.log),
    );
  }
  all_of old new [] (ls ∷ lines) p = absurd p
  all_of old new (qs ∷ asked) [] p = absurd p
  all_of old new (qs ∷ asked) (ls ∷ lines) p =
      let one = p.1.done in
      let rest = all_of p.0 new asked lines p.2 in
      record {
        rounds = (p.0.desk, one, rest.rounds);
        replied = one.replies ∷ rest.replied;
        lines_are = λ i. one.lines_are i ∷ rest.lines_are i;
        served = (p.0.desk, one.served, rest.served);
        told = (
          p.1.told.0 ++ rest.told.0,
          entries_on d qs (all_in asked) one.replies (all_in rest.replied) p.1.told.0 rest.told.0
              p.1.told.1 rest.told.1,
          on old.log p.0.log new.log p.1.told.0 rest.told.0 p.1.told.2 rest.told.2,
        );
      }

  pub in_rounds : (old new : DeskAndLog D L) (asked : List (List (Option LineRequest)))
      (lines : List (List (List ℕ))) → InTurn (RoundTold sight d tells) old asked lines new →
      RepliedInRounds sight d tells old.log new.log old.desk asked lines new.desk
  in_rounds old new asked lines p =
      let all = all_of old new asked lines p in
      let asks = map (map (ask_in d)) asked in
      record {
        rounds = all.rounds;
        replied = all.replied;
        lines_are = all.lines_are;
        served = all.served;
        as_one = replied_as_one sight d old.desk new.desk asks all.replied all.served;
        alone = alone_as_one sight d old.desk new.desk asks all.replied all.served;
        told = all.told;
      }

-- ---- one round

module _ {D : Type 0} (sight : DeskSight D) (d : Directory) (old new : D)
    (asked : List Exchange) (some : 0 < length asked)
    (few : length asked ≤ most_lines_together) where
  as_many : length (lines_waiting asked) ≡ length asked
  as_many = length-map asked (λ (x : Exchange). Some (line_asked x))

  abbrev Asks : List Ask
  Asks = map (ask_in d) (lines_waiting asked)

  -- it was replied to
  answered : (replies : List Reply) → RoundSo sight d old (map (ask_of d) asked) replies new →
      RoundReplied sight d old (lines_waiting asked)
      (map (λ (r : Reply). reply_line (seen r)) replies) new
  answered replies so = record {
    replies = so.told;
    lines_are = sent_lines replies so.told so.sent;
    some = subst (λ n. 0 < n) (sym as_many) some;
    few = subst (λ n. n ≤ 64) (sym as_many) few;
    served = subst (λ (a : List Ask). ServedInRound sight d old a so.told new)
        (sym (lines_asked d asked)) so.served;
  }

  -- it went back, and each is told that memory was wanted
  wanted_all : sight.store.may_answer no_memory →
      GoesBack sight d old (map (ask_of d) asked) new → RoundReplied sight d old
      (lines_waiting asked)
      (map (λ (x : Exchange). reply_line (reply_of_fault no_memory)) asked) new
  wanted_all may back = record {
    replies = map (λ (x : Exchange). reply_of_fault no_memory) asked;
    lines_are = want_lines asked;
    some = subst (λ n. 0 < n) (sym as_many) some;
    few = subst (λ n. n ≤ 64) (sym as_many) few;
    served = subst (λ (rs : List SeenReply). ServedInRound sight d old Asks rs new)
        (sym (want_replies d asked))
        (subst (λ (a : List Ask). ServedInRound sight d old a (wants (map (ask_of d) asked)) new)
        (sym (lines_asked d asked)) (wanted sight d old new (map (ask_of d) asked) may back));
  }

  -- whatever was told of it
  pub round_told : {L V A E : Type 0} (tells : Telling L) (on : (old mid new : L)
      (told more : List LogEntry) → tells old told mid → tells mid more new →
      tells old (told ++ more) new) (log_old begun log_new : L) (wo wn : Option (List ℕ))
      (result : Result ⊤ E) (refused : Type 0) (may : refused → sight.store.may_answer no_memory)
      (items : V → List Reply) (replies : Result V A) → tells log_old [] begun →
      IfOk replies (λ rs. RoundSo sight d old (map (ask_of d) asked) (items rs) new) →
      IfOk replies (λ rs. map whose_told (items rs) ≡ map (whose_exchange d) asked) →
      OnErr replies (refused × GoesBack sight d old (map (ask_of d) asked) new) →
      IfOk replies (λ rs. GoesOut wo wn (concat (map (λ (r : Reply). reply_line (seen r))
      (items rs))) result) →
      OnErr replies (GoesOut wo wn (concat (map (λ (x : Exchange).
      reply_line (reply_of_fault no_memory)) asked)) result) →
      IfOk replies (λ rs. tells begun (replied_entries asked (items rs)) log_new) →
      OnErr replies (tells begun (map (wanted_entry d) asked) log_new) →
      (lines : List (List ℕ)) × RoundTold sight d tells (record { desk = old; log = log_old })
      (lines_waiting asked) lines (record { desk = new; log = log_new })
      × GoesOut wo wn (concat lines) result
  unfolding answered wanted_all
  round_told tells on log_old begun log_new wo wn result refused may items (Ok rs) begins so whose
      none out no_out told untold = (
        _,
        record {
          done = answered (items rs) so;
          told = (
            replied_entries asked (items rs),
            entries_of_replies d asked (items rs) so.told so.sent whose,
            on log_old begun log_new [] (replied_entries asked (items rs)) begins told,
          );
        },
        out,
      )
  round_told tells on log_old begun log_new wo wn result refused may items (Err e) begins so whose
      none no_out out told untold = (
        _,
        record {
          done = wanted_all (may none.0) none.1;
          told = (
            map (wanted_entry d) asked,
            entries_of_wants d asked,
            on log_old begun log_new [] (map (wanted_entry d) asked) begins untold,
          );
        },
        out,
      )

pub of_same : {D L : Type 0} (sight : DeskSight D) (d : Directory) (tells : Telling L)
    (old new : DeskAndLog D L) (xs ys : List Exchange) (lines : List (List ℕ)) → xs ≡ ys →
    RoundTold sight d tells old (lines_waiting xs) lines new →
    RoundTold sight d tells old (lines_waiting ys) lines new
of_same sight d tells old new xs ys lines same p = subst
    (λ zs. RoundTold sight d tells old (lines_waiting zs) lines new) same p

-- one line is a round by itself
pub alone_in_round : {D L : Type 0} (sight : DeskSight D) (d : Directory) (tells : Telling L)
    (log_old log_new : L) (old new : D) (request : Option LineRequest) (line : List ℕ) →
    LineAnswered sight d tells log_old log_new old request line new →
    RoundTold sight d tells (record { desk = old; log = log_old }) (request ∷ []) (line ∷ [])
    (record { desk = new; log = log_new })
alone_in_round sight d tells log_old log_new old new request line p =
    let asks = ask_in d request ∷ [] in
    record {
      done = record {
        replies = p.reply ∷ [];
        lines_are = ap (λ l. l ∷ []) p.line_is;
        some = lit< tt;
        few = lit≤ tt;
        served = each_by_itself sight d old old new asks (p.reply ∷ []) (stayed sight d old asks)
            (served sight d old new asks (p.reply ∷ []) (new, p.done, refl));
      };
      told = (p.entry ∷ [], (p.entry_is, tt), p.told);
    }

-- ---- where the desk is away, which never is

none_some : {A : Type 0} (x : A) → None ≡ Some x → ⊥
none_some {A} x h = subst (λ (o : Option A). elim o as (λ _. Type 0) [
  | None ↦ ⊤
  | Some y ↦ ⊥
]) h tt

same_some : {A : Type 0} {x y : A} → Some x ≡ Some y → x ≡ y
same_some {A} {x} {y} h = ap (λ (o : Option A). elim o as (λ _. A) [
  | None ↦ x
  | Some z ↦ z
]) h

pub away : {S L M E : Type 0} (sight : DeskSight (Desk S)) (tells : Telling L)
    (waiting : RoundFront S L M → List (Option LineRequest)) (came : List (Option LineRequest))
    (old new : RoundFront S L M) (w : Option (List ℕ)) (e : E) → old.desk.now ≡ None →
    new.directory ≡ old.directory → new.desk.ghost_name ≡ old.desk.ghost_name →
    new.log.ghost_name ≡ old.log.ghost_name →
    DoesFirst (AnswersInRounds sight tells) waiting came old new w w (Err e)
away sight tells waiting came old new w e none same same_desk same_log = record {
  asked = [] ∷ [];
  replies = [] ∷ [];
  run = record {
    directory = same;
    same_desk = same_desk;
    same_log = same_log;
    run = λ before is. absurd (none_some before (sym none ∙ is));
  };
  rest = waiting old ++ came;
  all = refl;
  rest_waits = tt;
  written = record {
    whole = [];
    last = [];
    size = 0;
    all = refl;
    written = Appends-nil w;
  };
}

-- where it is there, one round is done
pub one_round : {S L M : Type 0} (sight : DeskSight (Desk S)) (tells : Telling L)
    (old new : RoundFront S L M) (before after : Desk S) (asked : List (Option LineRequest))
    (lines : List (List ℕ)) → old.desk.now ≡ Some before → new.desk.now ≡ Some after →
    new.directory ≡ old.directory → new.desk.ghost_name ≡ old.desk.ghost_name →
    new.log.ghost_name ≡ old.log.ghost_name →
    RoundTold sight old.directory.now tells (front_with before old) asked lines
    (front_with after new) → AnswersInRounds sight tells old (asked ∷ []) (lines ∷ []) new
one_round sight tells old new before after asked lines there back same same_desk same_log p =
    record {
      directory = same;
      same_desk = same_desk;
      same_log = same_log;
      run = λ desk is. (
        after,
        back,
        (
          front_with after new,
          subst (λ s. RoundTold sight old.directory.now tells (front_with s old) asked lines
              (front_with after new)) (same_some (sym there ∙ is)) p,
          refl,
        ),
      );
    }

-- nothing is done
pub as_it_was : {S L M : Type 0} (sight : DeskSight (Desk S)) (tells : Telling L)
    (old new : RoundFront S L M) → new.directory ≡ old.directory → new.log ≡ old.log →
    new.desk ≡ old.desk → AnswersInRounds sight tells old [] [] new
as_it_was sight tells old new directory log desk = record {
  directory = directory;
  same_desk = ap (λ d. d.ghost_name) desk;
  same_log = ap (λ l. l.ghost_name) log;
  run = λ before is. (
    before,
    ap (λ d. d.now) desk ∙ is,
    ap (λ l. record { desk = before; log = l.now }) log,
  );
}

-- ---- one after another

module _ {S L M : Type 0} (sight : DeskSight (Desk S)) (tells : Telling L) where
  abbrev Does : RoundFront S L M → List (List (Option LineRequest)) → List (List (List ℕ)) →
      RoundFront S L M → Type 0
  Does = AnswersInRounds sight tells

  abbrev wait : RoundFront S L M → List (Option LineRequest)
  wait front = lines_waiting front.waiting.now.exchanges.items

  abbrev First : {E : Type 0} → List (Option LineRequest) → RoundFront S L M →
      RoundFront S L M → Option (List ℕ) → Option (List ℕ) → Result ⊤ E → Type 0
  First {E} came old new wo wn result = DoesFirst {E = E} Does wait came old new wo wn result

  does_none : (front : RoundFront S L M) → Does front [] [] front
  does_none front = as_it_was sight tells front front refl refl refl

  does_more : (old mid new : RoundFront S L M) (asked more : List (List (Option LineRequest)))
      (replies others : List (List (List ℕ))) → Does old asked replies mid →
      Does mid more others new → Does old (asked ++ more) (replies ++ others) new
  does_more old mid new asked more replies others p q = record {
    directory = q.directory ∙ p.directory;
    same_desk = q.same_desk ∙ p.same_desk;
    same_log = q.same_log ∙ p.same_log;
    run = λ before is.
        let first = p.run before is in
        let second = q.run first.0 first.1 in (
          second.0,
          second.1,
          turns_on (RoundTold sight old.directory.now tells) (front_with before old)
              (front_with first.0 mid) (front_with second.0 new) asked more replies others first.2
              (subst (λ d. InTurn (RoundTold sight d.now tells) (front_with first.0 mid) more
              others (front_with second.0 new)) p.directory second.2),
        );
  }

  -- behind what was left as it was, nothing waits any more
  pub left_first : {E : Type 0} (a b c : RoundFront S L M) (wo wn : Option (List ℕ))
      (result : Result ⊤ E) → Does a [] [] b →
      b.waiting.now.exchanges.items ≡ a.waiting.now.exchanges.items →
      First {E = E} [] b c wo wn result →
      First {E = E} [] a c wo wn result
  left_first {E} a b c wo wn result same left p = steps_on Does does_none does_more wait [] [] a b c
      wo wo wn result (only_waits Does wait {E = E} [] a b wo same
      (ap lines_waiting left ∙ sym (append-nil (wait a)))) p

  -- and then one comes
  pub then_one : {E : Type 0} (request : Option LineRequest) (a b c : RoundFront S L M)
      (wo w wn : Option (List ℕ)) (result : Result ⊤ E) → First {E = E} [] a b wo w (Ok tt) →
      First {E = E} (request ∷ []) b c w wn result →
      First {E = E} (request ∷ []) a c wo wn result
  then_one request a b c wo w wn result p q =
      steps_on Does does_none does_more wait [] (request ∷ []) a b c wo w wn result p q

  -- which waits
  pub one_waits : {E : Type 0} (request : Option LineRequest) (x : Exchange)
      (a b : RoundFront S L M) (w : Option (List ℕ)) → Does a [] [] b → request ≡ Some (line_asked
      x) →
      b.waiting.now.exchanges.items ≡ a.waiting.now.exchanges.items ++ x ∷ [] →
      First {E = E} (request ∷ []) a b w w (Ok tt)
  one_waits request x a b w same is more = only_waits Does wait (request ∷ []) a b w same
      (ap lines_waiting more
      ∙ map-append (λ (x : Exchange). Some (line_asked x)) a.waiting.now.exchanges.items (x ∷ [])
      ∙ ap (λ q. wait a ++ q ∷ []) (sym is))

  -- which is answered by itself, where it was left
  pub one_alone : {E : Type 0} (request : Option LineRequest) (a b c : RoundFront S L M)
      (wo wn : Option (List ℕ)) (result : Result ⊤ E) → Does a [] [] b →
      b.waiting.now.exchanges.items ≡ a.waiting.now.exchanges.items →
      First {E = E} (request ∷ []) b c wo wn result →
      First {E = E} (request ∷ []) a c wo wn result
  one_alone {E} request a b c wo wn result same left p = steps_on Does does_none does_more wait []
      (request ∷ []) a b c wo wo wn result (only_waits Does wait {E = E} [] a b wo same
      (ap lines_waiting left ∙ sym (append-nil (wait a)))) p

  -- and what is passed over behind replies that could not be written
  pub one_passed : {E : Type 0} (request : Option LineRequest) (a b : RoundFront S L M)
      (wo wn : Option (List ℕ)) (e : E) → First [] a b wo wn (Err e) →
      First (request ∷ []) a b wo wn (Err e)
  one_passed request a b wo wn e p = passed_over Does wait e e [] (request ∷ []) a b wo wn p
