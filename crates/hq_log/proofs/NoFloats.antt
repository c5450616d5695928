-- No line has a float, so its compact text is what is written.
use Rattle.std.proofs.Common.{◌≡◌, ℕ, List, Option, Some, None, false, refl}
use Rattle.serde_json.specs.Written.{has_float}
use Rattle.hq_requests.specs.Bodies.{error_told}
use Rattle.hq_log.specs.Lines.{LogEntry, customer_in, log_members, number_or_null, text_or_null}
use Rattle.hq_log.specs.Lines.{shown_or_null}

number_no_float : (n : Option ℕ) → has_float (number_or_null n) ≡ false
number_no_float None = refl
number_no_float (Some n) = refl

text_no_float : (t : Option (List ℕ)) → has_float (text_or_null t) ≡ false
text_no_float None = refl
text_no_float (Some t) = refl

shown_no_float : (t : Option (List ℕ)) → has_float (shown_or_null t) ≡ false
shown_no_float None = refl
shown_no_float (Some t) = refl

pub members_have_no_float : (e : LogEntry) (milliseconds : Option ℕ) →
    has_float (log_members e milliseconds) ≡ false
unfolding log_members
members_have_no_float e milliseconds = rw (number_no_float e.at)
    (rw (text_no_float (customer_in e.whose))
    (rw (number_no_float (error_told e.status e.body)) (rw (shown_no_float e.method)
    (rw (number_no_float milliseconds) (rw (shown_no_float e.path) refl)))))
