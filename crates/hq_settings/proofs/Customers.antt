-- Customers are the same where their names, their numbers and their keys are.
use Rattle.std.proofs.Common.{◌≡◌, ℕ, List, IsTrue}
use Rattle.hq_values.proofs.Truths.{one_proof}
use Rattle.hq_kept.specs.Limits.{is_quota, is_delay, is_history}
use Rattle.hq_kept.specs.declared.account.Customer.{Customer}

pub same_customer : (m b l n d w : ℕ) (h k : IsTrue (is_quota m b l n)) (x y : IsTrue (is_delay d))
    (p q : IsTrue (is_history w)) (name named key keyed : List ℕ) → name ≡ named → key ≡ keyed
    → ◌≡◌ {A = Customer}
    (record {
      entry = record {
        name = name;
        quota = record { messages = m; bytes = b; lines = l; notices = n; limits = h };
        delay = d;
        history = w;
        limit = x;
        span = p;
      };
      key = key;
    })
    (record {
      entry = record {
        name = named;
        quota = record { messages = m; bytes = b; lines = l; notices = n; limits = k };
        delay = d;
        history = w;
        limit = y;
        span = q;
      };
      key = keyed;
    })
same_customer m b l n d w h k x y p q name named key keyed names keys = λ i. record {
  entry = record {
    name = names i;
    quota = record {
      messages = m;
      bytes = b;
      lines = l;
      notices = n;
      limits = one_proof (is_quota m b l n) h k i;
    };
    delay = d;
    history = w;
    limit = one_proof (is_delay d) x y i;
    span = one_proof (is_history w) p q i;
  };
  key = keys i;
}
