-- The customer of a row, and the first thing that is wrong with it.
use Rattle.std.proofs.Common.{◌≡◌, ℕ, ◌==◌, true, false, List, length, Result, Ok, Err, refl}
use Rattle.std.proofs.Common.{IsTrue}
use Rattle.hq_values.proofs.Truths.{one_proof}
use Rattle.hq_kept.specs.Limits.{is_delay, is_history}
use Rattle.hq_kept.specs.declared.account.Customer.{Customer}
use Rattle.hq_kept.specs.declared.account.Quota.{Quota}
use Rattle.hq_rules.specs.Records.{Record}
use Rattle.hq_import.specs.Directories.{wrong_at, other_fields, Limited, name_read, key_read}
use Rattle.hq_import.specs.Directories.{quota_read}
use Rattle.hq_import.specs.Directories.{number_read, history_read, customer_read}
use Rattle.hq_import.specs.Refused.{ReadsDirectory}
use Rattle.hq_import.specs.declared.columns.Number.TheVariants.{Delay, History}
use Rattle.hq_import.specs.declared.refused.DirectoryFail.{DirectoryFail}
use Rattle.hq_import.specs.declared.refused.DirectoryFail.TheVariants.{Refused, Fault}
use Rattle.hq_import.specs.declared.refused.DirectoryRefusal.{DirectoryRefusal}

-- where a part is refused, the whole is: for want of memory, or for the same
pub fails_as : {A B : Type 0} (refused : Type 0) (fail : DirectoryFail) (part : Result A
    DirectoryRefusal)
    (whole : Result B DirectoryRefusal) → ReadsDirectory {A = A} refused (Err fail) part →
    ((refusal : DirectoryRefusal) → part ≡ Err refusal → whole ≡ Err refusal) →
    ReadsDirectory {A = B} refused (Err fail) whole
fails_as refused (Refused refusal) part whole fails then = then refusal fails
fails_as refused (Fault fault) part whole fails then = fails

module _ (columns row : ℕ) (fields : Record) where
  pub other_count : (length fields == columns) ≡ false →
      customer_read columns row fields ≡ Err (wrong_at row (other_fields columns))
  unfolding customer_read
  other_count other = rw other refl

  module _ (all : (length fields == columns) ≡ true) where
    pub no_name : (refusal : DirectoryRefusal) → name_read row fields ≡ Err refusal →
        customer_read columns row fields ≡ Err refusal
    unfolding customer_read
    no_name refusal is = rw (all, is) refl

    pub no_key : (name : List ℕ) → name_read row fields ≡ Ok name → (refusal : DirectoryRefusal) →
        key_read row fields ≡ Err refusal → customer_read columns row fields ≡ Err refusal
    unfolding customer_read
    no_key name named refusal is = rw (all, named, is) refl

    module _ (name key : List ℕ) (named : name_read row fields ≡ Ok name)
        (keyed : key_read row fields ≡ Ok key) where
      pub no_quota : (refusal : DirectoryRefusal) → quota_read row fields ≡ Err refusal →
          customer_read columns row fields ≡ Err refusal
      unfolding customer_read
      no_quota refusal is = rw (all, named, keyed, is) refl

      pub no_delay : (quota : Quota) → quota_read row fields ≡ Ok quota →
          (refusal : DirectoryRefusal) → number_read row fields Delay ≡ Err refusal →
          customer_read columns row fields ≡ Err refusal
      unfolding customer_read
      no_delay quota limited refusal is = rw (all, named, keyed, limited, is) refl

      module _ (quota : Quota) (limited : quota_read row fields ≡ Ok quota) (delay : Limited Delay)
          (delayed : number_read row fields Delay ≡ Ok delay) where
        pub no_span : (refusal : DirectoryRefusal) → history_read row fields ≡ Err refusal →
            customer_read columns row fields ≡ Err refusal
        unfolding customer_read
        no_span refusal is = rw (all, named, keyed, limited, delayed, is) refl

        abbrev customer : (history : ℕ) → IsTrue (is_delay delay.0) → IsTrue (is_history history) →
            Result Customer DirectoryRefusal
        customer history limit span = Ok (record {
          entry = record {
            name = name;
            quota = quota;
            delay = delay.0;
            history = history;
            limit = limit;
            span = span;
          };
          key = key;
        })

        pub customer_is : (history : Limited History) → history_read row fields ≡ Ok history →
            (limit : IsTrue (is_delay delay.0)) (span : IsTrue (is_history history.0)) →
            customer_read columns row fields ≡ Ok (record {
              entry = record {
                name = name;
                quota = quota;
                delay = delay.0;
                history = history.0;
                limit = limit;
                span = span;
              };
              key = key;
            })
        unfolding customer_read
        customer_is history spanned limit span =
            rw (all, named, keyed, limited, delayed, spanned) (λ i. customer history.0
            (one_proof (is_delay delay.0) delay.1 limit i)
            (one_proof (is_history history.0) history.1 span i))
