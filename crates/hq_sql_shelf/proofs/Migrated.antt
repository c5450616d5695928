-- What a migration makes of a desk's store.
use Rattle.std.proofs.Common.{◌≡◌, inl, inr, ℕ, Some, sym, ◌∙◌, subst}
use Rattle.sqlite.specs.State.{State}
use Rattle.hq_values.specs.Words.{earlier_hold}
use Rattle.hq_tables.specs.Sound.{Sound}
use Rattle.hq_sql_open.specs.Migration.{MigratesBy}
use Rattle.hq_sql_open.specs.Stores.{IsFirst, IsSecond, HoldsThird, lifted_in, second_tables_in}
use Rattle.hq_sql_open.proofs.Customers.{third_is_desk, customers_lifted, sound_lifted}
use Rattle.hq_sql_open.proofs.Versions.{two_schemas, first_two, last_two}
use Rattle.hq_sql_shelf.specs.Migration.{IsMigrated, IsUpgraded}

pub migrated : (count : ℕ) (old new : State) → IsFirst old.now →
    MigratesBy earlier_hold (Some count) old new → IsMigrated count old new
migrated count old new first (inl it) =
    let m = it.1 first in
    let lifted : HoldsThird (lifted_in earlier_hold old.now) new.committed =
    subst (HoldsThird (lifted_in earlier_hold old.now)) m.0.settled.now m.0.holds in
    let desk = third_is_desk new.committed lifted.third in
    record {
      settled = m.0.settled;
      desk = desk;
      lifted = customers_lifted old.now new.committed lifted;
      sound = λ sound. let all = sound_lifted old.now new.committed lifted sound in (
        record { settled = m.0.settled; holds = record { desk = desk; counted = all.counts } },
        all,
      );
      count_is = m.1;
    }
migrated count old new first (inr (inl it)) = absurd (first_two (sym first.schema_is ∙ it.0.0))
migrated count old new first (inr (inr it)) = absurd (two_schemas (sym first.schema_is ∙ it.0.0))

pub upgraded : (count : ℕ) (old new : State) → IsSecond old.now →
    MigratesBy earlier_hold (Some count) old new → (count ≡ 0) × IsUpgraded old new
upgraded count old new second (inl it) = absurd (first_two (sym it.0.0 ∙ second.schema_is))
upgraded count old new second (inr (inl it)) =
    let m = it.2 second in
    let raised : HoldsThird (second_tables_in old.now) new.committed =
    subst (HoldsThird (second_tables_in old.now)) m.settled.now m.holds in
    let desk = third_is_desk new.committed raised.third in (
      it.1,
      record {
        settled = m.settled;
        desk = desk;
        tables = raised.tables;
        sound = λ sound. let all = subst Sound (sym raised.tables) sound in
            record { settled = m.settled; holds = record { desk = desk; counted = all.counts } };
      },
    )
upgraded count old new second (inr (inr it)) = absurd (last_two (sym second.schema_is ∙ it.0.0))
