-- The records of a file, taken one after another by the reader of `csv`.
use Rattle.std.proofs.Common.{◌≡◌, ℕ, List, [], ◌∷◌, ◌++◌, Bool, true, false, cond, Option, Some}
use Rattle.std.proofs.Common.{None, length, map, take, ◌<◌, refl, sym, ap, ◌∙◌, arith}
use Rattle.std.proofs.lemmas.List.{append_assoc, append-nil, length-map, map-append, take_all}
use Rattle.std.proofs.Math.Seq.{take-append_seam}
use Rattle.csv.specs.Machine.{Read, step, is_end, ends_at_end, fields_after, field_after}
use Rattle.csv.specs.Machine.{next_record}
use Rattle.csv.specs.Reading.{default_config, Reached}
use Rattle.csv.specs.Records.{Row, fields_of}
use Rattle.csv.specs.declared.parser.State.{State}
use Rattle.csv.specs.declared.parser.State.TheVariants.{StartRecord}
use Rattle.hq_rules.specs.Records.{records_from}

-- a record that was read, and those behind it
and_then : Option Read → List (List (List ℕ))
and_then None = []
and_then (Some r) = r.0 ∷ records_from r.1 [] [] r.2

-- the next record, and those behind it, are the records
next_and_then : (s : State) (fields : List (List ℕ)) (field bytes : List ℕ) →
    records_from s fields field bytes ≡ and_then (next_record default_config s fields field bytes)
unfolding and_then next_record records_from
next_and_then s fields field [] = at_end (ends_at_end s)
  where
    at_end : (b : Bool) → cond b ((fields ++ (field ∷ [])) ∷ []) [] ≡ and_then
        (cond b (Some (fields ++ (field ∷ []), StartRecord, [])) None)
    at_end true = refl
    at_end false = refl
next_and_then s fields field (b ∷ bytes) =
    at_byte (is_end (step default_config s b).1)
    (next_and_then (step default_config s b).0
    (fields_after (step default_config s b).1 fields field)
    (field_after (step default_config s b).1 b field) bytes)
  where
    so_far : List (List ℕ)
    so_far = fields_after (step default_config s b).1 fields field

    further : List (List (List ℕ))
    further = records_from (step default_config s b).0 so_far
        (field_after (step default_config s b).1 b field) bytes

    later : Option Read
    later = next_record default_config (step default_config s b).0 so_far
        (field_after (step default_config s b).1 b field) bytes

    at_byte : (e : Bool) → further ≡ and_then later →
        cond e (so_far ∷ records_from (step default_config s b).0 [] [] bytes) further ≡ and_then
        (cond e (Some (so_far, (step default_config s b).0, bytes)) later)
    at_byte true h = refl
    at_byte false h = h

-- a record was read: it comes before those of the bytes behind it
one_read : (s t : State) (fields : List (List ℕ)) (bytes rest : List ℕ) →
    Reached default_config s bytes (fields ∷ []) t rest → records_from s [] [] bytes ≡ fields
    ∷ records_from t [] [] rest
unfolding Reached and_then
one_read s t fields bytes rest h =
    let read = h.0 in
    next_and_then s [] [] bytes ∙ ap and_then h.1 ∙ ap (λ f. f ∷ records_from read.1 [] [] read.2)
    (sym h.2) ∙ rw (h.3.0, h.3.1) refl

-- no record was read: there is none
none_read : (s : State) (bytes : List ℕ) → next_record default_config s [] [] bytes ≡ None →
    records_from s [] [] bytes ≡ []
unfolding and_then
none_read s bytes h = next_and_then s [] [] bytes ∙ ap and_then h

-- one record more
pub go_on : (s t : State) (rest more : List ℕ) (records items : List Row) (row : Row)
    (whole : List (List (List ℕ))) → Reached default_config s rest (fields_of row ∷ []) t more →
    items ≡ records ++ row ∷ [] → map fields_of records ++ records_from s [] [] rest ≡ whole →
    map fields_of items ++ records_from t [] [] more ≡ whole
go_on s t rest more records items row whole reached pushed so_far =
    ap (λ (rows : List Row). map fields_of rows ++ records_from t [] [] more) pushed
    ∙ ap (λ rows. rows ++ records_from t [] [] more) (map-append fields_of records (row ∷ []))
    ∙ append_assoc (map fields_of records) (fields_of row ∷ []) (records_from t [] [] more)
    ∙ ap (λ rows. map fields_of records ++ rows)
    (sym (one_read s t (fields_of row) rest more reached))
    ∙ so_far

-- 1,002 records were read, whatever comes behind them
pub enough_read : (items : List Row) (behind whole : List (List (List ℕ))) → map fields_of items
    ++ behind ≡ whole → length items ≡ 1002 → map fields_of items ≡ take 1002 whole
enough_read items behind whole all count =
    sym (take-append_seam (map fields_of items) behind)
    ∙ ap (λ n. take n (map fields_of items ++ behind)) (length-map items fields_of ∙ count)
    ∙ ap (λ rows. take 1002 rows) all

-- fewer were read, and none comes behind them
pub all_read : (s : State) (rest : List ℕ) (items : List Row) (whole : List (List (List ℕ))) →
    next_record default_config s [] [] rest ≡ None → map fields_of items
    ++ records_from s [] [] rest ≡ whole → length items < 1002 →
    map fields_of items ≡ take 1002 whole
all_read s rest items whole none all few =
    let same : map fields_of items ≡ whole = sym (append-nil (map fields_of items))
    ∙ ap (λ rows. map fields_of items ++ rows) (sym (none_read s rest none)) ∙ all in
    let count : length whole ≡ length items = ap length (sym same) ∙ length-map items fields_of in
    same ∙ sym (take_all 1002 whole (omega arith))
