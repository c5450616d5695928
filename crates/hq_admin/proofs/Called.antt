-- The calls of customers, one after the other.
use Rattle.std.specs.Prelude.{⊤}
use Rattle.std.proofs.Common.{◌≡◌, ℕ, zero, suc, ◌<◌, false, true, List, [], ◌∷◌, ◌++◌, map, take}
use Rattle.std.proofs.Common.{drop, length, get_or, Ok, refl, sym, ap, ◌∙◌}
use Rattle.std.proofs.Common.{inl, inr, ⊎_elim, subst, arith, length-append}
use Rattle.hq_values.specs.Turns.{InTurn}
use Rattle.hq_values.proofs.Turns.{turns_on, one_turn}
use Rattle.hq_kept.specs.declared.account.Entry.{Entry}
use Rattle.hq_tables.specs.Shelves.{KeepsOnErr, OnSound, OnOpenSound}
use Rattle.hq_tables.specs.Sound.{Sound}
use Rattle.hq_tables.specs.Tables.{Tables}
use Rattle.hq_rules.specs.declared.call.Call.{Call}
use Rattle.hq_rules.specs.Desks.{DeskSight, IsRendered, Stays, or_memory, stepped}
use Rattle.hq_rules.specs.declared.render.Rendered.{Rendered}
use Rattle.hq_admin.specs.Rounds.{IsCalled, printed_of}

differ : {A : Type 0} → false ≡ true → A
differ e = absurd (not_so e) where
  not_so : false ≡ true → ⊥
  not_so e = cc

module _ {D : Type 0} (sight : DeskSight D) (at : ℕ) (asked : Call) where
  abbrev tables : D → Tables
  tables = sight.store.tables

  -- the calls of these are done, and so it was told
  pub record SoFar (old : D) (called : List Entry) (told : List Rendered) (new : D) : Type
      0 where
    pub counted : length told ≡ length called
    pub each : OnOpenSound sight.store old new
        (InTurn (IsCalled (sight.host old) at asked) (tables old) called told (tables new))
    pub sound : OnOpenSound sight.store old new (Sound (tables new))
    pub stays : Stays sight old new
    pub standing : sight.store.is_closed new ≡ sight.store.is_closed old
    pub untold : sight.store.fault_count new ≡ sight.store.fault_count old

  pub none_yet : (old : D) → SoFar old [] [] old
  none_yet old = record {
    counted = refl;
    each = λ clean ours open_ sound. refl;
    sound = λ clean ours open_ sound. sound;
    stays = record {
      ours = λ clean ours open_. ours;
      round = λ clean either t back. back;
      quiet = λ clean. clean;
      stays_open = λ open_. open_;
      host = refl;
      rests = λ clean ours open_ rest. rest;
      shut = λ clean closed. (λ desk. desk, λ t leaves. leaves);
    };
    standing = refl;
    untold = refl;
  }

  -- what is closed stays so
  still_closed : (old mid : D) → Stays sight old mid → sight.store.is_closed old ≡ true →
      sight.store.is_closed mid ≡ true
  still_closed old mid first closed = elim (sight.store.is_closed mid) as (λ b.
      sight.store.is_closed mid ≡ b → sight.store.is_closed mid ≡ true) [
        | true ↦ λ is. is
        | false ↦ λ is. differ (sym (first.stays_open is) ∙ closed)
      ] refl

  keeps_on : (old mid new : D) → Stays sight old mid → Stays sight mid new →
      Stays sight old new
  keeps_on old mid new first next = record {
    ours = λ clean ours open_. next.ours clean
        (first.ours (next.quiet clean) ours (next.stays_open open_)) open_;
    round = λ clean either t back.
        let before = next.quiet clean in
        let after = first.round before either t back in
        elim (sight.store.is_closed mid) as
        (λ b. sight.store.is_closed mid ≡ b → sight.store.goes_back new t) [
          | true ↦ λ closed. next.round clean (inr closed) t after
          | false ↦ λ opened. next.round clean (⊎_elim
              (λ (ours : sight.store.is_ours old). inl (first.ours before ours opened))
              (λ (closed : sight.store.is_closed old ≡ true).
              differ (sym (first.stays_open opened) ∙ closed)) either) t after
        ] refl;
    quiet = λ clean. first.quiet (next.quiet clean);
    stays_open = λ open_. first.stays_open (next.stays_open open_);
    host = next.host ∙ first.host;
    rests = λ clean ours open_ rest.
        let then = next.quiet clean in
        let was = next.stays_open open_ in
        next.rests clean (first.ours then ours was) open_ (first.rests then ours was rest);
    shut = λ clean closed.
        let after = next.shut clean (still_closed old mid first closed) in
        let before = first.shut (next.quiet clean) closed in
        (λ desk. after.0 (before.0 desk), λ t leaves. before.1 t (after.1 t leaves));
  }

  pub one_more : (old mid new : D) (called : List Entry) (told : List Rendered) (entry : Entry)
      (rendered : Rendered)
      → SoFar old called told mid
      → OnSound sight.store mid new (IsRendered (printed_of entry.name)
      (stepped sight mid entry at asked).0 rendered)
      → OnSound sight.store mid new (tables new ≡ (stepped sight mid entry at asked).1)
      → OnOpenSound sight.store mid new (Sound (tables new))
      → KeepsOnErr (or_memory ⊤ sight.store) mid new (Ok rendered)
      → sight.host new ≡ sight.host mid
      → SoFar old (called ++ entry ∷ []) (told ++ rendered ∷ []) new
  one_more old mid new called told entry rendered before answer made sound kept host =
      let was = kept.tally.0 in
      let step : List ℕ → Type 0 =
      λ h. IsCalled h at asked (tables mid) entry rendered (tables new) in
      record {
        counted = omega (
          arith,
          length-append told (rendered ∷ []),
          length-append called (entry ∷ []),
          before.counted,
        );
        each = λ clean ours open_ fit.
            let then = kept.quiet clean in
            let rows = before.stays.ours then ours was in
            let good = before.sound then ours was fit in
            turns_on (IsCalled (sight.host old) at asked) (tables old) (tables mid) (tables new)
            called (entry ∷ []) told (rendered ∷ []) (before.each then ours was fit)
            (one_turn (IsCalled (sight.host old) at asked) (tables mid) (tables new) entry rendered
            (subst step before.stays.host (answer clean rows good, made clean rows good)));
        sound = λ clean ours open_ fit.
            let then = kept.quiet clean in
            sound clean (before.stays.ours then ours was) open_ (before.sound then ours was fit);
        stays = keeps_on old mid new before.stays
            (record {
              ours = kept.ours;
              round = kept.round;
              quiet = kept.quiet;
              stays_open = λ open_. was;
              host = host;
              rests = kept.rests;
              shut = kept.shut;
            });
        standing = kept.tally.1 ∙ sym was ∙ before.standing;
        untold = kept.tally.2 ∙ before.untold;
      }

-- a list at a place of it
pub split_at : {A B : Type 0} (f : A → B) (xs : List A) (i : ℕ) (x : A) → i < length xs →
    x ≡ get_or xs i x → map f xs ≡ map f (take i xs) ++ f x ∷ map f (drop (suc i) xs)
split_at f [] i x below is = absurd (omega arith)
split_at f (y ∷ ys) zero x below is = ap (λ z. f z ∷ map f ys) (sym is)
split_at f (y ∷ ys) (suc i) x below is = ap (λ zs. f y ∷ zs) (split_at f ys i x (omega arith) is)

pub on_end : {A : Type 0} (xs : List A) → xs ++ [] ≡ xs
on_end [] = refl
on_end (x ∷ xs) = ap (λ ys. x ∷ ys) (on_end xs)
