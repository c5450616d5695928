-- A table is of a shape where all its parts are.
use Rattle.std.proofs.Common.{◌≡◌, [], map, false, None, ap, ◌∙◌}
use Rattle.sqlite_value.specs.Keys.{plain}
use Rattle.sqlite_schema.specs.declared.schema.Table.{Table}
use Rattle.hq_schema.specs.Schema.{column}
use Rattle.hq_schema.specs.Shapes.{table_of}
use Rattle.hq_schema.specs.declared.shape.TableShape.{TableShape}

pub table_is : (t : Table) (s : TableShape)
    → (t.key ≡ None) × (t.checks ≡ []) × (t.references ≡ []) × (t.computed ≡ [])
    × (t.stamps ≡ record { places = []; terms = []; formats = [] }) × (t.is_counted ≡ false)
    → (t.name ≡ s.name.now) × (t.tree ≡ s.tree)
    × (t.columns ≡ map (λ c. column c.0.now c.1) s.columns.now)
    → (t.primary ≡ s.primary.now) × (t.uniques ≡ map (λ p. p.now) s.uniques.now)
    × (t.orders ≡ map (λ _. plain) t.uniques)
    → t ≡ table_of s
table_is t s bare has keyed = λ i. record {
  name = has.0 i;
  tree = has.1 i;
  columns = has.2 i;
  key = bare.0 i;
  primary = keyed.0 i;
  uniques = keyed.1 i;
  orders = (keyed.2 ∙ ap (map (λ _. plain)) keyed.1) i;
  checks = bare.1 i;
  references = bare.2 i;
  computed = bare.3 i;
  stamps = bare.4 i;
  is_counted = bare.5 i;
}
