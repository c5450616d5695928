-- Whether a store of an earlier schema is of its version.
use Rattle.std.proofs.Common.{◌≡◌, inl, inr, ℕ, Bool, false, List, [], ◌∷◌, map, codes, length}
use Rattle.std.proofs.Common.{Result, IsTrue}
use Rattle.std.proofs.Common.{OnErr, refl, sym, ap, ◌∙◌, subst, arith, IsPermutation}
use Rattle.std.proofs.lemmas.List.Sorted.{IsPermutation-sym}
use Rattle.sqlite.specs.declared.error.Error.{Error}
use Rattle.sqlite.specs.declared.types.Value.{Value}
use Rattle.sqlite.specs.Order.{Row, column}
use Rattle.sqlite.specs.Command.TheVariants.{Select}
use Rattle.sqlite.specs.Listing.{understood, reads_listing}
use Rattle.sqlite.specs.Effect.{Database}
use Rattle.sqlite.specs.Schema.{Schema}
use Rattle.sqlite.specs.State.{State, HasCleanDisk, Survives, CommitsShowing, Shown, IsUnchanged}
use Rattle.sqlite.specs.State.{KeepsCommit}
use Rattle.sqlite_tied.specs.Compute.{everything}
use Rattle.sqlite.proofs.Callers.{command_of, reads_as, one_permutation, IsPlain}
use Rattle.hq_keyed.specs.Values.{number}
use Rattle.hq_keyed.proofs.Left.{shown_unchanged}
use Rattle.hq_keyed.proofs.Stops.{query_leaves_no_more}
use Rattle.hq_schema.specs.Schema.{first_schema, second_schema, desk_schema}
use Rattle.hq_sql_open.specs.Opening.{versions_in, ShowVersions, TellsWhether}
use Rattle.hq_sql_open.proofs.OpeningTexts.{read_text, read_query}
use Rattle.hq_sql_open.proofs.Current.{versions_shown}
use Rattle.hq_sql_open.specs.Migration.{IsVersion, ShowsVersion, KeepsVersion}
use Rattle.hq_sql_open.specs.Stores.{IsEarlier}

first_is : command_of (understood first_schema read_text) ≡ Select
    (record { lets = []; body = read_query }) (codes "version" ∷ [])
unfolding understood everything
first_is = refl

first_plain : IsPlain (understood first_schema read_text)
unfolding understood everything
first_plain = (refl, refl)

first_listed : reads_listing first_schema read_text ≡ false
unfolding understood everything
first_listed = refl

second_is : command_of (understood second_schema read_text) ≡ Select
    (record { lets = []; body = read_query }) (codes "version" ∷ [])
unfolding understood everything
second_is = refl

second_plain : IsPlain (understood second_schema read_text)
unfolding understood everything
second_plain = (refl, refl)

second_listed : reads_listing second_schema read_text ≡ false
unfolding understood everything
second_listed = refl

plain_here : (old : State) → IsEarlier old.now.schema →
    IsPlain (understood old.now.schema read_text)
plain_here old (inl has) = subst (λ s. IsPlain (understood s read_text)) (sym has) first_plain
plain_here old (inr has) = subst (λ s. IsPlain (understood s read_text)) (sym has) second_plain

pub version_shows : (old new : State) (rows : List Row) → IsEarlier old.now.schema →
    Shown read_text [] old new rows → ShowVersions old.now rows × IsUnchanged old new
version_shows old new rows (inl has) h = (
  versions_shown old.now rows (reads_as read_text [] old new first_schema has _ first_is first_plain
      first_listed rows h),
  shown_unchanged old new read_text _ rows (plain_here old (inl has)) h,
)
version_shows old new rows (inr has) h = (
  versions_shown old.now rows (reads_as read_text [] old new second_schema has _ second_is
      second_plain second_listed rows h),
  shown_unchanged old new read_text _ rows (plain_here old (inr has)) h,
)

pub version_keeps : {X : Type 0} (old new : State) (result : Result X Error) →
    Survives old new (CommitsShowing read_text [] old) →
    (HasCleanDisk new → IsEarlier old.now.schema → OnErr result (KeepsCommit old new)) →
    KeepsVersion old new result
version_keeps old new result survives h = record {
  kept = h;
  quiet = survives.clean;
  stops = λ has. query_leaves_no_more old new read_text [] (plain_here old has) survives;
}

module _ (n : ℕ) where
  alone : (vs : List Value) (row : Row) → map (λ v. v ∷ []) vs ≡ row ∷ [] →
      column row 0 ≡ number n → vs ≡ number n ∷ []
  alone [] row e is = absurd (let k = e in cc)
  alone (v ∷ []) row e is =
      let same : v ∷ [] ≡ row = let k = e in cc in
      let value : v ≡ number n = ap (λ r. column r 0) same ∙ is in
      ap (λ x. x ∷ []) value
  alone (v ∷ w ∷ more) row e is = absurd (let k = e in cc)

  one_shown : (db : Database) (rows : List Row) → ShowVersions db rows → ShowsVersion n rows →
      IsVersion n db
  one_shown db rows same one =
      let back : IsPermutation (one.0 ∷ []) (map (λ v. v ∷ []) (versions_in db)) =
      subst (λ l. IsPermutation l (map (λ v. v ∷ []) (versions_in db))) one.1
      (IsPermutation-sym _ _ same) in
      alone (versions_in db) one.0 (one_permutation one.0 _ back) one.2

  one_is_shown : (db : Database) (rows : List Row) → ShowVersions db rows → IsVersion n db →
      ShowsVersion n rows
  one_is_shown db rows same is = (
    number n ∷ [],
    one_permutation _ _ (subst (λ vs. IsPermutation (map (λ v. v ∷ []) vs) rows) is same),
    refl,
  )

  pub tells : (old new : State) (rows : List Row) (told : Bool) → ShowVersions old.now rows
      × IsUnchanged old new → (IsTrue told → ShowsVersion n rows) →
      (ShowsVersion n rows → IsTrue told) → TellsWhether told (IsVersion n old.now) old new
  tells old new rows told shown only all = record {
    only = λ is. one_shown old.now rows shown.0 (only is);
    all = λ is. all (one_is_shown old.now rows shown.0 is);
    same = shown.1;
  }

-- a store has one schema
pub two_schemas : (first_schema ≡ desk_schema) → ⊥
two_schemas e = absurd (let k = ap (λ (s : Schema). length s.tables) e in omega (arith, k))

pub first_two : (first_schema ≡ second_schema) → ⊥
first_two e = absurd (let k = ap (λ (s : Schema). length s.tables) e in omega (arith, k))

pub last_two : (second_schema ≡ desk_schema) → ⊥
last_two e = absurd (let k = ap (λ (s : Schema). length s.tables) e in omega (arith, k))
