-- A reply that never came: its exchange is under way.
use Rattle.std.proofs.Common.{◌≡◌, ◌⊎◌, ⊎_elim, ℕ, List, [], ◌∷◌, ◌++◌, map, take, length}
use Rattle.std.proofs.Common.{Result, Ok, Err, sym, refl, ap, ◌∙◌}
use Rattle.std.proofs.Math.Seq.{take-append_seam}
use Rattle.std.proofs.lemmas.List.{map-append}
use Rattle.hq_values.specs.Refusals.{no_memory}
use Rattle.hq_values.specs.declared.failure.Fault.{Fault}
use Rattle.hq_values.specs.declared.failure.Refusal.{Refusal}
use Rattle.hq_tables.specs.Sound.{Sound}
use Rattle.hq_tables.specs.Tables.{Tables}
use Rattle.hq_rules.specs.Machine.{shared}
use Rattle.hq_rules.specs.declared.call.Call.{Call}
use Rattle.hq_requests.specs.Calls.{Asked, CallOf, CallOfAll}
use Rattle.hq_requests.specs.Directories.{entry_of}
use Rattle.hq_requests.specs.Spans.{Whom, names_in}
use Rattle.hq_requests.specs.declared.directory.Directory.{Directory}
use Rattle.hq_wire.specs.Exchanges.{IsWant}
use Rattle.hq_wire.specs.Exchanges.{AllDone, Ask, CallsAll, IsStruck, MayReply, MayReplyTo, of_part}
use Rattle.hq_wire.specs.Exchanges.{Unheard, unheard_call, calls_asked, after_calls}
use Rattle.hq_wire.specs.Replies.{Part, SeenReply, reply_of}
use Rattle.hq_wire.specs.Runs.{AllReplied}
use Rattle.hq_wire.proofs.Alone.{alone}
use Rattle.hq_across.specs.Histories.{Passed, cut_with}

module _ (host : List ℕ) (d : Directory) (at : ℕ) where
  abbrev calls_of : Call → List Part → List Unheard
  calls_of call parts = map (λ (part : Part). unheard_call at call part.customer) parts

  -- what was told in parts is what the calls leave
  in_parts : (call : Call) (t t' : Tables) (parts : List Part) →
      AllDone host d t (map (of_part at call) parts) t' →
      t' ≡ after_calls host d t (calls_of call parts)
  in_parts call t t' [] h = h
  in_parts call t t' (part ∷ parts) h =
      in_parts call (shared host (entry_of d part.customer) t at call).1 t' parts h.1

  -- these are the first calls of all
  first_calls : (whom : Whom) (call : Call) (parts : List Part) (left : List (List ℕ)) →
      names_in d whom ≡ map (λ (part : Part). part.customer) parts ++ left →
      take (length (calls_of call parts)) (calls_asked d at (Ok (CallOfAll whom call)))
      ≡ calls_of call parts
  first_calls whom call parts left order =
      ap (λ names. take (length (calls_of call parts)) (map (unheard_call at call) names)) order
      ∙ ap (take (length (calls_of call parts))) (map-append (unheard_call at call) _ left
      ∙ ap (λ us. us ++ map (unheard_call at call) left) (map_map parts))
      ∙ take-append_seam (calls_of call parts) (map (unheard_call at call) left) where
        map_map : (ps : List Part) →
            map (unheard_call at call) (map (λ (part : Part). part.customer) ps) ≡ calls_of call ps
        map_map [] = refl
        map_map (p ∷ ps) = ap (λ us. unheard_call at call p.customer ∷ us) (map_map ps)

  abbrev Finds : Tables → Result Asked Refusal → Tables → Type 0
  Finds t called t' = (count : ℕ)
      × (t' ≡ after_calls host d t (take count (calls_asked d at called)))

  none : (t t' : Tables) (called : Result Asked Refusal) → t' ≡ t → Finds t called t'
  none t t' called same = (0, same)

  stepped : (may : Fault → Type 0) (t t' : Tables) (called : Result Asked Refusal)
      (r : SeenReply) → MayReplyTo may host d t at called r t' → Finds t called t'
  stepped may t t' (Err e) r h = none t t' (Err e) h.1
  stepped may t t' (Ok (CallOf name call)) r h = ⊎_elim
      (λ (did : (r ≡ reply_of (shared host (entry_of d name) t at call).0)
      × (t' ≡ (shared host (entry_of d name) t at call).1)). (1, did.1))
      (λ (no : (fault : Fault) × may fault × IsStruck fault t r t').
      none t t' (Ok (CallOf name call)) no.2.1) h
  stepped may t t' (Ok (CallOfAll whom call)) r h = ⊎_elim
      (λ (did : CallsAll may host d t at whom call r t'). (
        length (calls_of call r.parts),
        in_parts call t t' r.parts did.done
            ∙ ap (after_calls host d t) (sym (first_calls whom call r.parts did.left did.order)),
      ))
      (λ (no : IsWant may r × (t' ≡ t)). none t t' (Ok (CallOfAll whom call)) no.1) h

pub lost : (may : Fault → Type 0) (host : List ℕ) (d : Directory) (asks : List Ask)
    (rs : List SeenReply) (a : Ask) (r : SeenReply) (t last t' : Tables) →
    AllReplied may host d t asks rs last → (Sound t → Sound last) →
    MayReply may host d last a r t' → Passed host (cut_with d asks rs a) t t'
lost may host d asks rs a r t last t' all sound one = record {
  last = last;
  alone = alone may host d t last asks rs all;
  sound = sound;
  found = stepped host d a.at may last t' a.called r one;
}
