-- Numbers and what stands behind them, which carry the proof of their limits.
use Rattle.std.proofs.Common.{◌≡◌, ℕ, ◌==◌, Bool, true, false, IsTrue, length, Some, None}
use Rattle.std.proofs.Common.{Result, Ok, Err, refl, ap}
use Rattle.hq_values.proofs.Truths.{one_proof}
use Rattle.hq_values.specs.Readers.{◌>>=◌, passes}
use Rattle.hq_rules.specs.Fields.{number_field}
use Rattle.hq_rules.specs.Records.{Record}
use Rattle.hq_import.specs.Columns.{place, is_in}
use Rattle.hq_import.specs.Directories.{bad_number, Limited, number_read, history_read, quota_read}
use Rattle.hq_kept.specs.Limits.{is_quota}
use Rattle.hq_import.specs.declared.columns.Number.{Number}
use Rattle.hq_import.specs.declared.columns.Number.TheVariants.{Messages, Bytes, Lines, Notices}
use Rattle.hq_import.specs.declared.columns.Number.TheVariants.{History}
use Rattle.hq_import.specs.declared.refused.DirectoryRefusal.{DirectoryRefusal}

-- a test that holds passes, whichever proof is carried
passed : {E : Type 0} (b : Bool) (bad : E) (h : IsTrue b) → passes b bad ≡ Ok h
passed true bad h = ap Ok (one_proof true (λ _. true) h)
passed false bad h = absurd (not_true h) where
  not_true : false ≡ true → ⊥
  not_true e = cc

failed : {E : Type 0} (b : Bool) (bad : E) → b ≡ false → passes b bad ≡ Err bad
failed true bad h = absurd (no h) where
  no : true ≡ false → ⊥
  no e = cc
failed false bad h = refl

module _ (row : ℕ) (fields : Record) (number : Number) where
  abbrev pub bad : DirectoryRefusal
  bad = bad_number row number

  abbrev behind : (n : ℕ) → IsTrue (is_in number n) → Result (Limited number) DirectoryRefusal
  behind n limits = Ok (n, limits)

  pub number_is : (n : ℕ) (limits : IsTrue (is_in number n)) →
      number_field (place number) fields ≡ Some n → number_read row fields number ≡ Ok (n, limits)
  unfolding number_read
  number_is n limits is =
      rw is (ap (λ (r : Result (IsTrue (is_in number n)) DirectoryRefusal). r >>= behind n)
      (passed (is_in number n) bad limits))

  pub number_over : (n : ℕ) → is_in number n ≡ false → number_field (place number) fields ≡ Some n →
      number_read row fields number ≡ Err bad
  unfolding number_read
  number_over n over is =
      rw is (ap (λ (r : Result (IsTrue (is_in number n)) DirectoryRefusal). r >>= behind n)
      (failed (is_in number n) bad over))

  pub no_number : number_field (place number) fields ≡ None →
      number_read row fields number ≡ Err bad
  unfolding number_read
  no_number is =
      rw is refl

module _ (row : ℕ) (fields : Record) (refusal : DirectoryRefusal) where
  pub no_messages : number_read row fields Messages ≡ Err refusal →
      quota_read row fields ≡ Err refusal
  unfolding quota_read
  no_messages is = rw is refl

  pub no_bytes : (m : Limited Messages) → number_read row fields Messages ≡ Ok m →
      number_read row fields Bytes ≡ Err refusal → quota_read row fields ≡ Err refusal
  unfolding quota_read
  no_bytes m messages is = rw (messages, is) refl

  pub no_lines : (m : Limited Messages) (b : Limited Bytes) →
      number_read row fields Messages ≡ Ok m → number_read row fields Bytes ≡ Ok b →
      number_read row fields Lines ≡ Err refusal → quota_read row fields ≡ Err refusal
  unfolding quota_read
  no_lines m b messages bytes is = rw (messages, bytes, is) refl

  pub no_notices : (m : Limited Messages) (b : Limited Bytes) (l : Limited Lines) →
      number_read row fields Messages ≡ Ok m → number_read row fields Bytes ≡ Ok b →
      number_read row fields Lines ≡ Ok l → number_read row fields Notices ≡ Err refusal →
      quota_read row fields ≡ Err refusal
  unfolding quota_read
  no_notices m b l messages bytes lines is = rw (messages, bytes, lines, is) refl

pub quota_is : (row : ℕ) (fields : Record) (m : Limited Messages) (b : Limited Bytes)
    (l : Limited Lines) (n : Limited Notices) (limits : IsTrue (is_quota m.0 b.0 l.0 n.0)) →
    number_read row fields Messages ≡ Ok m → number_read row fields Bytes ≡ Ok b →
    number_read row fields Lines ≡ Ok l → number_read row fields Notices ≡ Ok n →
    quota_read row fields ≡ Ok (record {
      messages = m.0;
      bytes = b.0;
      lines = l.0;
      notices = n.0;
      limits = limits;
    })
unfolding quota_read
quota_is row fields m b l n limits messages bytes lines notices =
    rw (messages, bytes, lines, notices) (ap (λ h. Ok (record {
      messages = m.0;
      bytes = b.0;
      lines = l.0;
      notices = n.0;
      limits = h;
    })) (one_proof _ _ limits))

-- a row has no eighth field, and keeps no history
pub no_history : (row : ℕ) (fields : Record) → (length fields == 8) ≡ false →
    history_read row fields ≡ Ok (0, λ _. true)
unfolding history_read
no_history row fields few = rw few refl

pub history_is : (row : ℕ) (fields : Record) → (length fields == 8) ≡ true →
    history_read row fields ≡ number_read row fields History
unfolding history_read
history_is row fields all = rw all refl
