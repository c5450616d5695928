-- What went out of bytes that are written one piece after the other.
use Rattle.std.proofs.Common.{ℕ, ◌+◌, ◌<◌, ◌≤◌, arith, List, ◌++◌, length, take, drop}
use Rattle.std.proofs.Common.{Option, Result, Ok, Err, IsErrAnd, sym, ◌∙◌, subst, ⊎_elim}
use Rattle.std.specs.Bool.{⊤}
use Rattle.std.specs.Io.KnownBytes.{Appends, Keeps}
use Rattle.std.proofs.KnownBytes.{Appends-kept, Appends-trans}
use Rattle.std.proofs.lemmas.Bool.{cases_lt}
use Rattle.std.proofs.lemmas.List.{take_all, take-append-le}
use Rattle.std.proofs.Math.Seq.{take-add, take-append-add}
use Rattle.hq_lines.specs.Written.{AppendsPart, GoesOut}

-- one more write took some of what was left
pub part_more : (a b c : Option (List ℕ)) (done n : ℕ) (bytes : List ℕ) →
    Appends a b (take done bytes) → Appends b c (take n (drop done bytes)) →
    Appends a c (take (done + n) bytes)
part_more a b c done n bytes p q = subst (Appends a c) (sym (take-add done n bytes))
    (Appends-trans a b c _ _ p q)

-- what went out of the first bytes is a beginning of all
pub part_first : (a b : Option (List ℕ)) (xs ys : List ℕ) → AppendsPart a b xs →
    AppendsPart a b (xs ++ ys)
part_first a b xs ys p = ⊎_elim
    (λ (h : length xs < p.0). (
      length xs,
      subst (Appends a b) (take_all p.0 xs (omega arith)
          ∙ sym (take_all (length xs) xs (omega arith))
          ∙ sym (take-append-le (length xs) xs ys (omega arith))) p.1,
    ))
    (λ (h : p.0 ≤ length xs). (
      p.0,
      subst (Appends a b) (sym (take-append-le p.0 xs ys h)) p.1,
    ))
    (cases_lt (length xs) p.0)

-- behind the first bytes went out a beginning of the others
pub part_behind : (a b c : Option (List ℕ)) (xs ys : List ℕ) → Appends a b xs →
    AppendsPart b c ys → AppendsPart a c (xs ++ ys)
part_behind a b c xs ys p q = (
  length xs + q.0,
  subst (Appends a c) (sym (take-append-add xs ys q.0)) (Appends-trans a b c _ _ p q.1),
)

-- all bytes went out, and then nothing
pub part_all : (a b : Option (List ℕ)) (xs : List ℕ) → Appends a b xs → AppendsPart a b xs
part_all a b xs p = (length xs, subst (Appends a b) (sym (take_all (length xs) xs (omega arith))) p)

-- the exit of a `?` returns an error
pub out_cut : {E : Type 0} (Q : E → Type 0) (result : Result ⊤ E) (a b : Option (List ℕ))
    (xs : List ℕ) → IsErrAnd result Q → AppendsPart a b xs → GoesOut a b xs result
out_cut Q (Ok x) a b xs h p = absurd h
out_cut Q (Err e) a b xs h p = p

-- behind the first bytes the others are written
pub out_behind : {E : Type 0} (result : Result ⊤ E) (a b c : Option (List ℕ)) (xs ys : List ℕ) →
    Appends a b xs → GoesOut b c ys result → GoesOut a c (xs ++ ys) result
out_behind (Ok x) a b c xs ys p q = Appends-trans a b c xs ys p q
out_behind (Err e) a b c xs ys p q = part_behind a b c xs ys p q

-- all bytes went out, and then a flush
pub out_flushed : {E : Type 0} (result : Result ⊤ E) (a b c : Option (List ℕ)) (xs : List ℕ) →
    Appends a b xs → Keeps b c → GoesOut a c xs result
out_flushed (Ok x) a b c xs p q = Appends-kept a b c xs p q
out_flushed (Err e) a b c xs p q = part_all a c xs (Appends-kept a b c xs p q)
