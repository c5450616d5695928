use Rattle.std.proofs.Common.{Bor, List, ℕ, ◌∙◌, refl, ap, inl, inr, Some, [], ◌∷◌, length, lit<}
use Rattle.std.proofs.Common.{arith}
use Rattle.std.proofs.lemmas.List.{length-append}
use Rattle.csv.specs.Reading.{Reached, default_config, strip_bom}
use Rattle.csv.specs.Records.{fields_of}
use Rattle.csv.proofs.ReadFacts.{rows-more, rows-end}
use Rattle.hq_rules.specs.Records.{records_from, records_in}
use Rattle.hq_rules.proofs.Reading.{go_on, enough_read, all_read}
use Rattle.hq_rules.proofs.csv_memory.first_records.Goals as goal

pub loop-row-init : goal.loop-row-init
loop-row-init c =
    let made = c.from_reader-reader.ensures in
    rw (
      c.into_iter-row-iterator.ensures.into_iter_gives ∙ refl,
      c.into_byte_records-row-items.ensures.rdr,
      c.new-records.ensures.items,
    ) (
      strip_bom c.args.file.now,
      made.source,
      ap (λ s. records_from s [] [] (strip_bom c.args.file.now)) made.state,
      rw (c.flexible.ensures, c.has_headers.ensures) at made.trim ∙ c.new.ensures.trim,
      inr (inr (rw (c.flexible.ensures, c.has_headers.ensures) at made.has_headers, made.headers)),
      c.into_byte_records-row-items.ensures.left,
      rw (c.flexible.ensures, c.has_headers.ensures) at made.config ∙ c.new.ensures.config,
      lit< tt,
    )

pub returns-then-len-eq-MOST_RECORDS : goal.returns-then-len-eq-MOST_RECORDS
unfolding Reached
returns-then-len-eq-MOST_RECORDS c =
    let before = c.loop-row.invariant in
    let old = c.loop-row.row-iterator.rdr in
    let new = c.next.new.self.rdr in
    let read = rw (c.in-Some.is, c.in-Ok.is) at
    ((c.next.ensures.steps before.5 before.3).0 before.4) in
    let more = rows-more (λ (s : Bor (List ℕ)). Some s.now) old new (fields_of c.in-Ok.row)
    default_config old.state before.0 before.0 [] before.6 before.1 (refl, refl) read.0 in
    enough_read c.push.new.self.items (records_from new.state [] [] more.0)
    (records_in c.args.file.now)
    (go_on old.state new.state before.0 more.0 c.loop-row.records.items c.push.new.self.items
    c.in-Ok.row (records_in c.args.file.now) more.2 c.in_ok-push.ensures.items before.2)
    (grind (arith, c.len.ensures, c.if-len-eq-MOST_RECORDS.true))

pub loop-row-preserved : goal.loop-row-preserved
unfolding Reached
loop-row-preserved c =
    let before = c.loop-row.invariant in
    let old = c.loop-row.row-iterator.rdr in
    let new = c.next.new.self.rdr in
    let read = rw (c.in-Some.is, c.in-Ok.is) at
    ((c.next.ensures.steps before.5 before.3).0 before.4) in
    let more = rows-more (λ (s : Bor (List ℕ)). Some s.now) old new (fields_of c.in-Ok.row)
    default_config old.state before.0 before.0 [] before.6 before.1 (refl, refl) read.0 in
    let grown = ap length c.in_ok-push.ensures.items
    ∙ length-append c.loop-row.records.items (c.in-Ok.row ∷ []) in (
      more.0,
      more.1,
      go_on old.state new.state before.0 more.0 c.loop-row.records.items c.push.new.self.items
          c.in-Ok.row (records_in c.args.file.now) more.2 c.in_ok-push.ensures.items before.2,
      read.0.3 ∙ before.3,
      inl read.1,
      read.2,
      read.0.2 ∙ before.6,
      grind (arith, before.7, grown, c.len.ensures, c.if-len-eq-MOST_RECORDS.false),
    )

pub returns : goal.returns
returns c =
    let before = c.loop-row.invariant in
    let old = c.loop-row.row-iterator.rdr in
    let read = rw c.in-None.is at ((c.next.ensures.steps before.5 before.3).0 before.4) in
    all_read old.state before.0 c.loop-row.records.items (records_in c.args.file.now)
    (rows-end (λ (s : Bor (List ℕ)). Some s.now) old c.next.new.self.rdr [] default_config
    before.0 before.6 before.1 read) before.2 before.7
