use Rattle.std.proofs.Common.{◌≡◌, ◌≤◌, ◌+◌, [], refl, subst, sym, ap, ◌∙◌, arith, drop, length}
use Rattle.std.proofs.Common.{take}
use Rattle.std.proofs.lemmas.Grind.{common_steps}
use Rattle.std.proofs.lemmas.List.{take_all, take-append-drop, length-drop}
use Rattle.std.proofs.Math.Seq.{take-add}
use Rattle.hq_sockets.specs.Slots.{told}
use Rattle.hq_sockets.specs.declared.clients.Phase.TheVariants.{Answered}
use Rattle.hq_sockets.proofs.Talked.{nothing_more, sent_more}
use Rattle.hq_sockets.proofs.Turns.{none_written, stays}
use Rattle.hq_sockets.proofs.clients.send.Goals as goal
use Rattle.hq_sockets.proofs.clients.send.Goals.{in-Bytes, in-Again}

pub returns-then-is_empty : goal.returns-then-is_empty
returns-then-is_empty g c = λ first one got talked asks few.
    let so = c.loop.invariant first got talked few in
    let bytes = c.args.bytes.items in
    let is_rest : c.rest_of-rest.result.now ≡ drop c.loop.sent bytes = c.rest_of-rest.ensures
    ∙ ap (drop c.loop.sent) c.as_slice.ensures.value in
    let whole : length bytes ≤ c.loop.sent = grind (arith, common_steps) in
    c.leaving.ensures first one got bytes
    (subst (λ l. g.C.Connection.talks first got l c.loop.stream)
    (take_all c.loop.sent bytes whole) so.0) asks

pub returns-in-Waits : goal.returns-in-Waits
returns-in-Waits g c = λ first one got talked asks few.
    let so = c.loop.invariant first got talked few in
    stays g.M.Memory.refused g.C.Connection.talks g.C.Connection.ends (told first one
    c.args.bytes.items)
    c.answered.result c.write_some.new.stream (Answered c.args.bytes c.loop.sent)
    c.answered.ensures.0 c.answered.ensures.1 (
      got,
      nothing_more g.C.Connection.talks g.C.Connection.talks_on first c.loop.stream
          c.write_some.new.stream got (take c.loop.sent c.args.bytes.items) so.0
          c.in-Waits.ensures,
      asks,
      refl,
      so.1,
    )

pub returns-in-Closed : goal.returns-in-Closed
returns-in-Closed g c = λ first one got talked asks few.
    let so = c.loop.invariant first got talked few in (
      got,
      take c.loop.sent c.args.bytes.items,
      drop c.loop.sent c.args.bytes.items,
      nothing_more g.C.Connection.talks g.C.Connection.talks_on first c.loop.stream
          c.write_some.new.stream got (take c.loop.sent c.args.bytes.items) so.0
          (none_written g.M.Memory.refused g.C.Connection.talks g.C.Connection.ends c.loop.stream
          c.write_some.new.stream c.rest_of-rest.result.now c.write_some.result
          c.write_some.ensures c.in-Closed.is),
      asks,
      sym (take-append-drop c.loop.sent c.args.bytes.items),
    )

pub loop-preserved : goal.loop-preserved
loop-preserved g c = λ first got talked few.
    let so = c.loop.invariant first got talked few in
    let bytes = c.args.bytes.items in
    let is_rest : c.rest_of-rest.result.now ≡ drop c.loop.sent bytes = c.rest_of-rest.ensures
    ∙ ap (drop c.loop.sent) c.as_slice.ensures.value in
    elim c.match-write_some.branch [
      | in-Bytes w ↦
          let count = w.in-Bytes.count in
          let wrote = w.in-Bytes.ensures in
          let within : count ≤ length (drop c.loop.sent bytes) =
          subst (λ l. count ≤ length l) is_rest wrote.1 in
          let lies = length-drop c.loop.sent bytes in
          let sum = w.saturating_add-sent.ensures in
          let some = so.1 in
          let same = w.sent-is in
          let is : c.match-write_some.sent ≡ c.loop.sent + count = grind (arith, common_steps) in (
            subst (λ l. g.C.Connection.talks first got l c.write_some.new.stream)
                (sym (take-add c.loop.sent count bytes) ∙ ap (λ n. take n bytes) (sym is))
                (sent_more g.C.Connection.talks g.C.Connection.talks_on first c.loop.stream
                c.write_some.new.stream got (take c.loop.sent bytes)
                (take count (drop c.loop.sent bytes)) so.0
                (subst (λ l. g.C.Connection.talks c.loop.stream [] (take count l)
                c.write_some.new.stream) is_rest wrote.2)),
            omega (arith, is, within, lies, some),
          )
      | in-Again w ↦ (
        subst (λ n. g.C.Connection.talks first got (take n bytes) c.write_some.new.stream)
            (sym w.sent-is)
            (nothing_more g.C.Connection.talks g.C.Connection.talks_on first c.loop.stream
            c.write_some.new.stream got (take c.loop.sent bytes) so.0 w.in-Again.ensures),
        subst (λ n. n ≤ length bytes) (sym w.sent-is) so.1,
      )
    ]

pub returns : goal.returns
returns g c = λ first one got talked asks few.
    let so = c.loop.invariant first got talked few in
    stays g.M.Memory.refused g.C.Connection.talks g.C.Connection.ends (told first one
    c.args.bytes.items)
    c.answered-2.result c.loop.stream (Answered c.args.bytes c.loop.sent)
    c.answered-2.ensures.0 c.answered-2.ensures.1 (got, so.0, asks, refl, so.1)
