-- A round that did nothing, or of which nothing was told: each is told that memory was wanted.
use Rattle.std.proofs.Common.{◌≡◌, inl, inr, ℕ, ◌+◌, false}
use Rattle.std.proofs.Common.{cond, List, [], ◌∷◌, map, length, sym, refl, ap, ◌∙◌, subst}
use Rattle.std.proofs.Common.{Result, Ok, Err}
use Rattle.std.specs.Prelude.{◌++◌}
use Rattle.std.proofs.lemmas.List.Sums.{sum_by-append}
use Rattle.std.specs.List.{AllZip}
use Rattle.hq_values.specs.Refusals.{no_memory}
use Rattle.hq_values.specs.declared.failure.Refusal.{Refusal}
use Rattle.hq_values.specs.declared.failure.Fault.{Fault}
use Rattle.hq_tables.specs.Tables.{Tables}
use Rattle.hq_rules.specs.Desks.{DeskSight}
use Rattle.hq_requests.specs.declared.directory.Directory.{Directory}
use Rattle.hq_requests.specs.Calls.{Asked, CallOf, CallOfAll}
use Rattle.hq_wire.specs.Exchanges.{AllDone, Ask, Deed, MayReplyTo, Tells, TellsOf}
use Rattle.hq_wire.specs.Exchanges.{after_calls}
use Rattle.hq_wire.specs.Replies.{SeenReply, reply_of_fault, store_faults, tells_store}
use Rattle.hq_wire.specs.Runs.{AllReplied, deeds}
use Rattle.hq_wire.proofs.Exchanging.{no_deeds}
use Rattle.hq_across.specs.Answered.{as_asked}
use Rattle.hq_across.proofs.Running.{idle}
use Rattle.hq_together.specs.Together.{IsRoundSession}
use Rattle.hq_together.proofs.Inside.{all_after, all_done, whole}

abbrev pub wants : List Ask → List SeenReply
wants asks = map (λ (a : Ask). reply_of_fault no_memory) asks

module _ (may : Fault → Type 0) (host : List ℕ) (d : Directory) (t : Tables)
    (want : may no_memory) where
  want_told : (at : ℕ) (called : Result Asked Refusal) →
      MayReplyTo may host d t at called (reply_of_fault no_memory) t
  want_told at (Err e) = (inr (want, refl), refl)
  want_told at (Ok (CallOf name call)) = inr (no_memory, want, (refl, refl))
  want_told at (Ok (CallOfAll whom call)) = inr ((want, refl), refl)

  pub all_wanted : (asks : List Ask) → AllReplied may host d t asks (wants asks) t
  all_wanted [] = refl
  all_wanted (a ∷ asks) = (t, want_told a.at a.called, all_wanted asks)

pub want_tells : (may : Fault → Type 0) (d : Directory) → may no_memory → (asks : List Ask) →
    AllZip (Tells may d) asks (wants asks)
want_tells may d want [] = tt
want_tells may d want (a ∷ asks) = (one a.called, want_tells may d want asks) where
  one : (called : Result Asked Refusal) → TellsOf may d called (reply_of_fault no_memory)
  one (Err e) = inr (want, refl)
  one (Ok (CallOf name call)) = inr (no_memory, want, refl)
  one (Ok (CallOfAll whom call)) = inr (want, refl)

pub no_deeds_wanted : (asks : List Ask) → deeds asks (wants asks) ≡ []
no_deeds_wanted [] = refl
no_deeds_wanted (a ∷ asks) = λ i. no_deeds no_memory a.at a.called (reply_of_fault no_memory) refl i
    ++ no_deeds_wanted asks i

memory_is_none : tells_store (reply_of_fault no_memory) ≡ false
unfolding reply_of_fault
memory_is_none = refl

pub none_counted : (asks : List Ask) → store_faults (wants asks) ≡ 0
none_counted [] = refl
none_counted (a ∷ asks) =
    sum_by-append (λ (x : SeenReply). cond (tells_store x) 1 0) (reply_of_fault no_memory ∷ [])
    (wants asks) ∙ (λ i. (0 + cond (memory_is_none i) 1 0) + none_counted asks i)

-- nothing was told, and so nothing was done
untold : (host : List ℕ) (d : Directory) (asks : List Ask) (rs : List SeenReply) (t : Tables) →
    deeds asks rs ≡ [] → AllDone host d t (deeds asks rs) t
untold host d asks rs t none =
    subst (λ (ds : List Deed). AllDone host d t ds t) (sym none) refl

module _ {D : Type 0} (sight : DeskSight D) (may : Fault → Type 0) (host : List ℕ) (d : Directory)
    (asks : List Ask) (rs : List SeenReply) (t t' : Tables) (none : deeds asks rs ≡ []) where
  pub as_before : t' ≡ t → IsRoundSession may host d asks rs t t'
  as_before is = record {
    under_way = [];
    last = t;
    done = untold host d asks rs t none;
    stopped_at = inl (idle sight d asks rs none);
    found = (0, is);
  }

  pub all_of_it : (others : List SeenReply) → AllReplied may host d t asks others t' →
      IsRoundSession may host d asks rs t t'
  all_of_it others all =
      let calls = map as_asked (deeds asks others) in
      record {
        under_way = calls;
        last = t;
        done = untold host d asks rs t none;
        stopped_at = inr (record {
          untold = none;
          replies = others;
          tables = t';
          replied = all;
          calls = refl;
          all_or_none = inr refl;
        });
        found = (
          length calls,
          all_after host d t t' (deeds asks others) (all_done may host d t t' asks others all)
              ∙ ap (after_calls host d t) (sym (whole calls)),
        );
      }
