-- All messages of a customer are as many as a customer can have at most.
use Rattle.std.proofs.Common.{◌≡◌, ℕ, ◌≤◌, Bool, List, [], ◌∷◌, Option, None, Some, true, false}
use Rattle.std.proofs.Common.{cond, length, take, filter, ap, arith}
use Rattle.std.specs.Prelude.{nat_lt}
use Rattle.std.proofs.lemmas.List.{take_all}
use Rattle.std.proofs.lemmas.Map.Entries.{length-values_of}
use Rattle.std.specs.FinMap.{entries, values, len-entries}
use Rattle.hq_kept.specs.declared.message.Message.{Message}
use Rattle.hq_tables.specs.Readings.{Readings, read_tables, after_serial}
use Rattle.hq_tables.specs.Sound.{Sound}
use Rattle.hq_tables.specs.Tables.{Tables, own}
use Rattle.hq_isolation.proofs.Read.{same_readings}

fewer : (p : Message → Bool) (ms : List Message) → length (filter p ms) ≤ length ms
fewer p [] = omega arith
fewer p (m ∷ ms) = by (p m) (fewer p ms) where
  by : (b : Bool) → length (filter p ms) ≤ length ms →
      length (cond b (m ∷ filter p ms) (filter p ms)) ≤ length (m ∷ ms)
  by true rest = omega arith
  by false rest = omega arith

pub few_after : (after : Option ℕ) (ms : List Message) → length ms ≤ 1000 →
    length (after_serial after ms) ≤ 1000
few_after None ms h = h
few_after (Some serial) ms h = let less = fewer (λ (m : Message). nat_lt serial m.serial) ms in
    omega arith

pub few_messages : (customer : List ℕ) (t : Tables) → Sound t →
    length (read_tables customer t).messages ≤ 1000
few_messages customer t sound =
    let s = own customer t in
    let most = (sound.states customer).shaped.few_messages in
    let counted = len-entries s.messages in
    let valued = length-values_of (entries s.messages) in
    let read : length (read_tables customer t).messages ≡ length (values s.messages) =
    ap (λ (r : Readings). length r.messages) (same_readings customer t) in
    omega arith

-- a page of as many as there can be is all of them
pub whole : (customer : List ℕ) (t : Tables) (after : Option ℕ) → Sound t →
    take 1000 (after_serial after (read_tables customer t).messages) ≡ after_serial after
    (read_tables customer t).messages
whole customer t after sound = take_all 1000 _
    (few_after after (read_tables customer t).messages (few_messages customer t sound))
