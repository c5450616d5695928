use Rattle.std.proofs.Common.{◌≡◌, ◌≤◌, ◌<◌, ◌*◌, ◌+◌, ◌++◌, ◌∷◌, [], List, ℕ, suc, true, false}
use Rattle.std.proofs.Common.{inl, Ok, Some, None, length, map, take, drop, refl, sym, ap, ◌∙◌}
use Rattle.std.proofs.Common.{subst, arith, get_or, ◌-◌, ◌^◌, Bool, cond, Option}
use Rattle.std.proofs.lemmas.List.{length-take, take_all, take_more, map-append}
use Rattle.hq_kept.specs.declared.account.Customer.{Customer}
use Rattle.hq_values.specs.Refusals.{no_memory}
use Rattle.hq_rules.specs.Each.{each_call}
use Rattle.hq_rules.specs.Unchanged.{only_reads}
use Rattle.hq_rules.specs.declared.each.EachCall.{EachCall}
use Rattle.hq_rules.specs.declared.each.EachCall.TheVariants as each
use Rattle.hq_requests.specs.Calls.{CallOfAll}
use Rattle.hq_requests.specs.Directories.{entry_of, name_of}
use Rattle.hq_requests.specs.Customers.{has_name}
use Rattle.hq_requests.specs.Spans.{Whom, Everyone, From, asked_in, from_name, from_start}
use Rattle.hq_requests.specs.Spans.{most_asked, names_in, whom_seen}
use Rattle.hq_requests.specs.declared.directory.Directory.{Directory}
use Rattle.hq_json.specs.PartRoom.{HasRoom, part_room}
use Rattle.hq_wire.specs.Replies.{Stop, closing, seen, separated, parted_reply}
use Rattle.hq_requests.proofs.Entries.{entry_asked}
use Rattle.hq_wire.specs.Exchanges.{first_named, next_shown, next_left, with_refusals}
use Rattle.hq_wire.proofs.Exchanging.{no_room, rendered_all, wanted}
use Rattle.hq_json.proofs.PartTexts.{taken_so}
use Rattle.hq_wire.proofs.Called.{SoFar, done_by_all, none_yet, one_more_done, split_at}
use Rattle.hq_wire.proofs.Stopping.{stopped_at, stopped_unfit}
use Rattle.hq_wire.proofs.calling.call_all.Goals as goal

-- a customer that is asked has its entry in the directory
known_in : (d : Directory) (whom : Whom) (xs : List Customer) (i : ℕ) (x : Customer)
    → xs ≡ asked_in d whom → i < length xs → x ≡ get_or xs i x → x.entry ≡ entry_of d x.entry.name
known_in d whom xs i x same below is =
    sym (entry_asked d whom i x x (subst (λ (ys : List Customer). i < length ys) same below)
    (is ∙ ap (λ ys. get_or ys i x) same))

split_in : (d : Directory) (whom : Whom) (xs : List Customer) (i : ℕ) (x : Customer)
    → xs ≡ asked_in d whom → i < length xs → x ≡ get_or xs i x
    → names_in d whom ≡ map name_of (take i xs) ++ x.entry.name ∷ map name_of (drop (suc i) xs)
split_in d whom xs i x same below is =
    ap (map name_of) (sym same) ∙ split_at name_of xs i x below is

from_name_few : (name : List ℕ) (cs : List Customer) → length (from_name name cs) ≤ length cs
from_name_few name [] = omega arith
from_name_few name (c ∷ cs) = by (from_name_few name cs) (has_name name c) where
  by : length (from_name name cs) ≤ length cs → (b : Bool) →
      length (cond b (c ∷ cs) (from_name name cs)) ≤ length (c ∷ cs)
  by more true = omega arith
  by more false = omega (arith, more)

from_start_few : (start : Option (List ℕ)) (cs : List Customer) →
    length (from_start start cs) ≤ length cs
from_start_few None cs = omega arith
from_start_few (Some name) cs = from_name_few name cs

asked_few : (d : Directory) (whom : Whom) → length (asked_in d whom) ≤ 2 ^ 54
asked_few d Everyone = d.few
asked_few d (From start) =
    let cs = from_start start d.customers in
    let one = length-take most_asked cs in
    let two = from_start_few start d.customers in
    let few = d.few in
    omega (arith, one, two, few)

fits_first : (of : EachCall) (n room : ℕ) → room ≡ part_room of → n ≤ 2 ^ 54
    → n * room + 144 ≤ 2 ^ 64 - 1
fits_first each.Sweep n room is few =
    subst (λ r. n * r + 144 ≤ 2 ^ 64 - 1) (sym is) (omega (arith, few))
fits_first each.Usage n room is few =
    subst (λ r. n * r + 144 ≤ 2 ^ 64 - 1) (sym is) (omega (arith, few))
fits_first each.Due n room is few =
    subst (λ r. n * r + 144 ≤ 2 ^ 64 - 1) (sym is) (omega (arith, few))

pub room_for-requires : goal.room_for-requires
room_for-requires g c = fits_first c.args.each (length c.asked_in.result.0.now)
    c.part_room-room.result c.part_room-room.ensures
    (subst (λ (cs : List Customer). length cs ≤ 2 ^ 54) (sym c.asked_in.ensures.asked)
    (asked_few c.args.directory.now (whom_seen c.args.span)))

no_room_missing : (n i room part len cap : ℕ) → 1 + part ≤ 140 → room ≡ 140 → i < n
    → len + (n * room + 135) ≤ cap + i * room → cap < len + (1 + part + 135) → ⊥
no_room_missing n i room part len cap fits is below h full =
    let at : len + (n * 140 + 135) ≤ cap + i * 140 =
    subst (λ r. len + (n * r + 135) ≤ cap + i * r) is h in
    absurd (omega (arith, fits, below, at, full))

-- a part takes no more than its room, or that of its own
still_room : (of : EachCall) (part : List ℕ) (n i room len cap new_len new_cap : ℕ)
    → HasRoom of part → room ≡ part_room of → i < n → len + (n * room + 135) ≤ cap + i * room
    → new_len ≤ len + (1 + length part) → cap ≤ new_cap → new_len + 135 ≤ new_cap
    → new_len + (n * room + 135) ≤ new_cap + (i + 1) * room
still_room each.Sweep part n i room len cap new_len new_cap fits is below h l k m =
    omega (arith, fits, is, h, l, k, m)
still_room each.Usage part n i room len cap new_len new_cap fits is below h l k m =
    omega (arith, fits, is, h, l, k, m)
still_room each.Due part n i room len cap new_len new_cap fits is below h l k m =
    subst (λ r. new_len + (n * r + 135) ≤ new_cap + (i + 1) * r) (sym is) (omega (arith, m))

-- where it has none, the call only reads
reads_where_full : (of : EachCall) (part : List ℕ) (n i room len cap : ℕ) → HasRoom of part
    → room ≡ part_room of → i < n → len + (n * room + 135) ≤ cap + i * room
    → cap < len + (1 + length part + 135) → only_reads (each_call of) ≡ true
reads_where_full each.Sweep part n i room len cap fits is below h full =
    absurd (no_room_missing n i room (length part) len cap fits is below h full)
reads_where_full each.Usage part n i room len cap fits is below h full = refl
reads_where_full each.Due part n i room len cap fits is below h full = refl

pub returns-in_default-clause-done : goal.returns-in_default-clause-done
returns-in_default-clause-done g c =
    let r = seen c.fault_reply.result in (
      r,
      (refl, refl),
      no_room (with_refusals g.M.Memory.refused g.D.Acts.sight) c.args.directory.now
          c.args.desk.now
          (record {
            at = c.args.at;
            called = Ok (CallOfAll (whom_seen c.args.span) (each_call c.args.each));
          }) r
          (wanted g.M.Memory.refused g.D.Acts.sight r (c.room_for.ensures.cause c.in_default.is)
          c.fault_reply.ensures.told),
    )

pub loop-customer-init : goal.loop-customer-init
loop-customer-init g c = record {
  so_far = none_yet (with_refusals g.M.Memory.refused g.D.Acts.sight)
      c.args.directory.now c.args.at (each_call c.args.each)
      c.args.desk.now c.in-Some.body.items c.in-Some.ensures.opened;
  room = omega (arith, c.in-Some.ensures.room);
}

pub loop-customer-preserved : goal.loop-customer-preserved
loop-customer-preserved g c =
    let sight = with_refusals g.M.Memory.refused g.D.Acts.sight in
    let d = c.args.directory.now in
    let call = each_call c.args.each in
    let i = c.loop-customer.customer-index in
    let xs = c.asked_in.result.0.now in
    let item = c.customer-item.result in
    let name = item.entry.name in
    let so_far = c.loop-customer.invariant.so_far in
    let is_first = c.loop-customer.is_first in
    let known = known_in d (whom_seen c.args.span) xs i item c.asked_in.ensures.asked
    c.loop-customer-test.true c.customer-item.is in
    let put : c.add_part.new.body.items ≡ c.loop-customer.body.items
    ++ separated is_first c.in-Ok.rendered.bytes.items = c.in-Ok-add_part.ensures.added
    ∙ ap (λ part. c.loop-customer.body.items ++ separated is_first part)
    c.as_slice-part.ensures.value in
    let more : map name_of (take (i + 1) xs) ≡ map name_of (take i xs) ++ name ∷ [] =
    ap (map name_of) (take_more xs i item c.loop-customer-test.true ∙ ap (λ x. take i xs ++ x
    ∷ []) (sym c.customer-item.is)) ∙ map-append name_of (take i xs) (item ∷ []) in
    record {
      so_far = subst (λ names. SoFar sight d c.args.at call c.args.desk.now names c.act.new.self
          c.add_part.new.body.items false) (sym more)
          (one_more_done sight d c.args.at call c.args.desk.now c.loop-customer.desk c.act.new.self
          (map name_of (take i xs)) c.loop-customer.body.items c.add_part.new.body.items
          is_first item.entry c.call.result c.in-Ok.rendered so_far known c.call.ensures put
          c.in-Ok.ensures.answer c.in-Ok.ensures.tables c.in-Ok.ensures.sound
          (rendered_all g.M.Memory.refused g.D.Acts.sight _ _ _ _ (taken_so c.args.each
          c.call.result c.call.ensures)
          c.in-Ok.ensures.kept)
          c.in-Ok.ensures.host c.in-Ok.ensures.shown.2.1);
      room = still_room c.args.each c.as_slice-part.result.now _ _ _ _ _ _ _
          (subst (λ (part : List ℕ). HasRoom c.args.each part) (sym c.as_slice-part.ensures.value)
          c.in-Ok.ensures.shown.2.0) c.part_room-room.ensures c.loop-customer-test.true
          c.loop-customer.invariant.room c.add_part.ensures.len c.add_part.ensures.capacity
          c.add_part.ensures.room;
    }

pub returns-in-Err-clause-done : goal.returns-in-Err-clause-done
returns-in-Err-clause-done g c =
    let d = c.args.directory.now in
    let i = c.loop-customer.customer-index in
    let xs = c.asked_in.result.0.now in
    let item = c.customer-item.result in
    let so_far = c.loop-customer.invariant.so_far in
    let stop : Stop = record { customer = item.entry.name; fault = c.in-Err.fault } in
    let whom = whom_seen c.args.span in
    let all = split_in d whom xs i item c.asked_in.ensures.asked c.loop-customer-test.true
    c.customer-item.is in
    let known = known_in d whom xs i item c.asked_in.ensures.asked c.loop-customer-test.true
    c.customer-item.is in (
      parted_reply so_far.parts
          (next_left d whom (item.entry.name ∷ map name_of (drop (suc i) xs))) (Some stop),
      (
        sym c.stopped-in-Err.ensures.status,
        sym (c.stopped-in-Err.ensures.body
            ∙ ap (λ body. body ++ closing (next_shown whom (Some item.entry.name)) (Some stop))
            so_far.text),
      ),
      stopped_at (with_refusals g.M.Memory.refused g.D.Acts.sight) d c.args.at whom (each_call
          c.args.each) c.args.desk.now
          c.loop-customer.desk c.act.new.self (map name_of (take i xs)) c.loop-customer.body.items
          c.loop-customer.is_first item.entry c.call.result (map name_of (drop (suc i) xs))
          c.in-Err.fault so_far all known c.call.ensures c.in-Err.ensures.sound
          c.in-Err.ensures.stops
          (rendered_all g.M.Memory.refused g.D.Acts.sight _ _ _ _ (taken_so c.args.each
          c.call.result c.call.ensures)
          c.in-Err.ensures.kept) c.in-Err.ensures.host,
    )

pub returns-clause-done : goal.returns-clause-done
returns-clause-done g c =
    let d = c.args.directory.now in
    let whom = whom_seen c.args.span in
    let i = c.loop-customer.customer-index in
    let xs = c.asked_in.result.0.now in
    let so_far = c.loop-customer.invariant.so_far in
    let all : map name_of (take i xs) ≡ names_in d whom =
    ap (map name_of) (take_all i xs (omega arith) ∙ c.asked_in.ensures.asked) in
    let next : next_shown whom (first_named (map name_of c.asked_in.result.1.now))
    ≡ next_left d whom [] =
    ap (λ cs. next_shown whom (first_named (map name_of cs))) c.asked_in.ensures.unasked in (
      parted_reply so_far.parts (next_left d whom []) None,
      (
        sym c.all_done.ensures.status,
        sym (c.all_done.ensures.body
            ∙ (λ k. so_far.text k ++ closing (next k) None)),
      ),
      done_by_all (with_refusals g.M.Memory.refused g.D.Acts.sight) d c.args.at (each_call
          c.args.each) whom c.args.desk.now
          c.loop-customer.desk (map name_of (take i xs)) c.loop-customer.body.items
          c.loop-customer.is_first so_far all,
    )

pub returns-in_default-add_part-clause-done : goal.returns-in_default-add_part-clause-done
returns-in_default-add_part-clause-done g c =
    let d = c.args.directory.now in
    let i = c.loop-customer.customer-index in
    let xs = c.asked_in.result.0.now in
    let item = c.customer-item.result in
    let so_far = c.loop-customer.invariant.so_far in
    let stop : Stop = record { customer = item.entry.name; fault = no_memory } in
    let whom = whom_seen c.args.span in
    let all = split_in d whom xs i item c.asked_in.ensures.asked c.loop-customer-test.true
    c.customer-item.is in
    let known = known_in d whom xs i item c.asked_in.ensures.asked c.loop-customer-test.true
    c.customer-item.is in
    let reads : only_reads c.call.result ≡ true = ap only_reads c.call.ensures
    ∙ reads_where_full c.args.each c.as_slice-part.result.now _ _ _ _ _
    (subst (λ (part : List ℕ). HasRoom c.args.each part) (sym c.as_slice-part.ensures.value)
    c.in-Ok.ensures.shown.2.0) c.part_room-room.ensures c.loop-customer-test.true
    c.loop-customer.invariant.room c.in_default-add_part.ensures.cause.1 in (
      parted_reply so_far.parts
          (next_left d whom (item.entry.name ∷ map name_of (drop (suc i) xs))) (Some stop),
      (
        sym c.stopped.ensures.status,
        sym (c.stopped.ensures.body
            ∙ ap (λ body. body ++ closing (next_shown whom (Some item.entry.name)) (Some stop))
            (c.in_default-add_part.ensures.kept ∙ so_far.text)),
      ),
      stopped_unfit (with_refusals g.M.Memory.refused g.D.Acts.sight) d c.args.at whom (each_call
          c.args.each) c.args.desk.now
          c.loop-customer.desk c.act.new.self (map name_of (take i xs)) c.loop-customer.body.items
          c.loop-customer.is_first item.entry c.call.result (map name_of (drop (suc i) xs))
          c.in-Ok.rendered so_far all known c.call.ensures reads
          (inl (refl, c.in_default-add_part.ensures.cause.0)) c.in-Ok.ensures.tables
          c.in-Ok.ensures.sound c.in-Ok.ensures.stops
          (rendered_all g.M.Memory.refused g.D.Acts.sight _ _ _ _ (taken_so c.args.each
          c.call.result c.call.ensures)
          c.in-Ok.ensures.kept) c.in-Ok.ensures.host,
    )
