-- The calls of a round under way at a stop are calls that its exchanges ask for.
use Rattle.std.proofs.Common.{◌≡◌, inl, inr, ℕ, zero, suc, true, false, Bool}
use Rattle.std.proofs.Common.{List, [], ◌∷◌, ◌++◌, map, take, drop, length, sym, refl, ap, ◌∙◌}
use Rattle.std.proofs.Common.{cond, subst, Result, Ok, Err, append_assoc}
use Rattle.std.specs.Prelude.{◌==◌, ⊤}
use Rattle.std.proofs.lemmas.List.{map-append}
use Rattle.std.specs.List.{AllZip}
use Rattle.hq_values.specs.Refusals.{no_memory}
use Rattle.hq_values.specs.declared.failure.Fault.{Fault}
use Rattle.hq_values.specs.declared.failure.Refusal.{Refusal}
use Rattle.hq_tables.specs.Tables.{Tables}
use Rattle.hq_rules.specs.declared.call.Call.{Call}
use Rattle.hq_requests.specs.Calls.{Asked, CallOf, CallOfAll}
use Rattle.hq_requests.specs.Spans.{Whom, names_in}
use Rattle.hq_requests.specs.declared.directory.Directory.{Directory}
use Rattle.hq_wire.specs.Exchanges.{Ask, Deed, IsWant, MayReplyTo, Tells, TellsOf}
use Rattle.hq_wire.specs.Exchanges.{Unheard, calls_asked, deeds_of, next_call}
use Rattle.hq_wire.specs.Exchanges.{of_part, unheard_call}
use Rattle.hq_wire.specs.Exchanges.{Whole}
use Rattle.hq_wire.specs.Replies.{Part, SeenReply}
use Rattle.hq_wire.specs.Runs.{AllReplied, deeds}
use Rattle.hq_wire.proofs.Alone.{no_parts}
use Rattle.hq_across.specs.Answered.{as_asked}
use Rattle.hq_across.specs.Sessions.{StoppedAt}
use Rattle.hq_together.specs.Sessions.{StopsInRound}
use Rattle.hq_sql_across.specs.Rounds.{AreOfOneRound, AreUntold}
use Rattle.hq_sql_across.specs.Rounds.{first_told}

nothing_more : {A : Type 0} (xs : List A) → xs ++ [] ≡ xs
nothing_more [] = refl
nothing_more (x ∷ xs) = ap (λ ys. x ∷ ys) (nothing_more xs)

take_next : {A : Type 0} (n : ℕ) (xs : List A) → take n xs ++ take 1 (drop n xs) ≡ take (suc n) xs
take_next zero xs = refl
take_next (suc n) [] = refl
take_next (suc n) (x ∷ xs) = ap (λ ys. x ∷ ys) (take_next n xs)

-- the parts of a reply are of the first customers that are asked
abbrev HasFirstParts : Directory → Result Asked Refusal → SeenReply → Type 0
HasFirstParts d (Ok (CallOfAll whom call)) r = (left : List (List ℕ))
    × (names_in d whom ≡ map (λ (part : Part). part.customer) r.parts ++ left)
HasFirstParts d _ r = ⊤

wanted_parts : (may : Fault → Type 0) (d : Directory) (whom : Whom) (r : SeenReply) →
    IsWant may r → (left : List (List ℕ))
    × (names_in d whom ≡ map (λ (part : Part). part.customer) r.parts ++ left)
wanted_parts may d whom r want = (
  names_in d whom,
  sym (ap (λ parts. map (λ (part : Part). part.customer) parts ++ names_in d whom)
      (ap (λ (s : SeenReply). s.parts) want.1 ∙ no_parts no_memory)),
)

told_parts : (may : Fault → Type 0) (d : Directory) (called : Result Asked Refusal)
    (r : SeenReply) → TellsOf may d called r → HasFirstParts d called r
told_parts may d (Err e) r h = tt
told_parts may d (Ok (CallOf name call)) r h = tt
told_parts may d (Ok (CallOfAll whom call)) r (inl parts) = (parts.left, parts.order)
told_parts may d (Ok (CallOfAll whom call)) r (inr want) = wanted_parts may d whom r want

replied_parts : (may : Fault → Type 0) (host : List ℕ) (d : Directory) (t t' : Tables) (at : ℕ)
    (called : Result Asked Refusal) (r : SeenReply) → MayReplyTo may host d t at called r t' →
    HasFirstParts d called r
replied_parts may host d t t' at (Err e) r h = tt
replied_parts may host d t t' at (Ok (CallOf name call)) r h = tt
replied_parts may host d t t' at (Ok (CallOfAll whom call)) r (inl did) = (did.left, did.order)
replied_parts may host d t t' at (Ok (CallOfAll whom call)) r (inr want) =
    wanted_parts may d whom r want.0

calls_of_parts : (at : ℕ) (call : Call) (parts : List Part) (left : List (List ℕ)) →
    map as_asked (map (of_part at call) parts) ≡ take (length (map (of_part at call) parts))
    (map (unheard_call at call) (map (λ (part : Part). part.customer) parts ++ left))
calls_of_parts at call [] left = refl
calls_of_parts at call (part ∷ parts) left = ap (λ us. unheard_call at call part.customer ∷ us)
    (calls_of_parts at call parts left)

-- what an exchange did are the first of its calls
first_calls : (d : Directory) (at : ℕ) (called : Result Asked Refusal) (r : SeenReply) →
    HasFirstParts d called r → map as_asked (deeds_of at called r)
    ≡ take (length (deeds_of at called r)) (calls_asked d at called)
first_calls d at (Err e) r h = refl
first_calls d at (Ok (CallOf name call)) r h = one (r.status == 503) where
  deed : Deed
  deed = record { customer = name; at = at; call = call; in_part = false; told = Whole r }

  one : (b : Bool) → map as_asked (cond b [] (deed ∷ []))
      ≡ take (length (cond b [] (deed ∷ []))) (unheard_call at call name ∷ [])
  one true = refl
  one false = refl
first_calls d at (Ok (CallOfAll whom call)) r h = subst (λ names.
    map as_asked (map (of_part at call) r.parts)
    ≡ take (length (map (of_part at call) r.parts)) (map (unheard_call at call) names))
    (sym h.1) (calls_of_parts at call r.parts h.0)

pub no_untold : (d : Directory) (asks : List Ask) (rs : List SeenReply) → AreUntold d asks rs []
no_untold d [] rs = refl
no_untold d (a ∷ asks) rs = (0, [], refl, no_untold d asks (drop 1 rs))

none_untold : (d : Directory) (asks : List Ask) (rs : List SeenReply) (us : List Unheard) →
    us ≡ [] → AreUntold d asks rs us
none_untold d asks rs us bare = subst (AreUntold d asks rs) (sym bare) (no_untold d asks rs)

no_first : {A : Type 0} (xs ys : List A) → xs ++ ys ≡ [] → xs ≡ []
no_first [] ys bare = refl
no_first (x ∷ xs) ys bare = absurd (let e : x ∷ (xs ++ ys) ≡ [] = bare in cc)

no_second : {A : Type 0} (xs ys : List A) → xs ++ ys ≡ [] → ys ≡ []
no_second [] ys bare = bare
no_second (x ∷ xs) ys bare = absurd (let e : x ∷ (xs ++ ys) ≡ [] = bare in cc)

pub nothing_told : (asks : List Ask) → deeds asks [] ≡ []
nothing_told [] = refl
nothing_told (a ∷ asks) = refl

none_by : (a : Ask) (asks : List Ask) (rs : List SeenReply) → deeds (a ∷ asks) rs ≡ [] →
    first_told a rs ≡ []
none_by a asks [] bare = refl
none_by a asks (r ∷ rs) bare = no_first (deeds_of a.at a.called r) (deeds asks rs) bare

none_later : (a : Ask) (asks : List Ask) (rs : List SeenReply) → deeds (a ∷ asks) rs ≡ [] →
    deeds asks (drop 1 rs) ≡ []
none_later a asks [] bare = nothing_told asks
none_later a asks (r ∷ rs) bare = no_second (deeds_of a.at a.called r) (deeds asks rs) bare

-- the calls that a round did, of which no reply tells
pub calls_untold : (may : Fault → Type 0) (host : List ℕ) (d : Directory) (t t' : Tables)
    (asks : List Ask) (made : List SeenReply) (rs : List SeenReply) →
    AllReplied may host d t asks made t' → deeds asks rs ≡ [] →
    AreUntold d asks rs (map as_asked (deeds asks made))
calls_untold may host d t t' [] [] rs h bare = refl
calls_untold may host d t t' [] (r ∷ made) rs h bare = absurd h
calls_untold may host d t t' (a ∷ asks) [] rs h bare = absurd h
calls_untold may host d t t' (a ∷ asks) (r ∷ made) rs h bare =
    let first = deeds_of a.at a.called r in
    let more = deeds asks made in (
      length first,
      map as_asked more,
      map-append as_asked first more ∙ ap (λ us. us ++ map as_asked more)
          (first_calls d a.at a.called r
          (replied_parts may host d t h.0 a.at a.called r h.1)
          ∙ ap (λ (ds : List Deed). take (length first)
          (drop (length ds) (calls_asked d a.at a.called))) (sym (none_by a asks rs bare))),
      calls_untold may host d h.0 t' asks made (drop 1 rs) h.2 (none_later a asks rs bare),
    )

-- where exchanges are done one by one, and no reply of the round left: what they tell of is under
-- way too
pub calls_stopped : (may : Fault → Type 0) (d : Directory) (asks : List Ask) (rs : List SeenReply)
    (us : List Unheard) → AllZip (Tells may d) asks rs → StoppedAt d asks rs us →
    AreUntold d asks [] (map as_asked (deeds asks rs) ++ us)
calls_stopped may d [] rs us tells bare = bare
calls_stopped may d (a ∷ asks) [] us tells bare = absurd tells
calls_stopped may d (a ∷ asks) (r ∷ rs) us tells (inl at) =
    let first = deeds_of a.at a.called r in
    let calls = calls_asked d a.at a.called in (
      suc (length first),
      [],
      (λ i. map as_asked (first ++ at.last i) ++ at.next i)
          ∙ ap (λ ds. map as_asked ds ++ next_call d a.at a.called r) (nothing_more first)
          ∙ ap (λ vs. vs ++ next_call d a.at a.called r)
          (first_calls d a.at a.called r (told_parts may d a.called r tells.0))
          ∙ take_next (length first) calls
          ∙ sym (nothing_more (take (suc (length first)) calls)),
      no_untold d asks [],
    )
calls_stopped may d (a ∷ asks) (r ∷ rs) us tells (inr (inl later)) =
    let first = deeds_of a.at a.called r in
    let more = deeds asks rs in (
      length first,
      map as_asked more ++ us,
      ap (λ vs. vs ++ us) (map-append as_asked first more)
          ∙ append_assoc (map as_asked first) (map as_asked more) us
          ∙ ap (λ vs. vs ++ (map as_asked more ++ us))
          (first_calls d a.at a.called r (told_parts may d a.called r tells.0)),
      calls_stopped may d asks rs us tells.1 later.1,
    )
calls_stopped may d (a ∷ asks) (r ∷ rs) us tells (inr (inr bare)) = none_untold d (a ∷ asks) []
    (map as_asked (deeds (a ∷ asks) (r ∷ rs)) ++ us) (λ i. map as_asked (bare.0 i) ++ bare.1 i)

-- of rounds
pub of_one_round : (may : Fault → Type 0) (host : List ℕ) (d : Directory) (last t' : Tables)
    (asked : List (List Ask)) (replied : List (List SeenReply)) (us : List Unheard) →
    StopsInRound may host d last t' asked replied us → AreOfOneRound d asked replied us
of_one_round may host d last t' [] replied us bare = bare
of_one_round may host d last t' (asks ∷ asked) [] us bare = bare
of_one_round may host d last t' (asks ∷ asked) (rs ∷ replied) us (inl (inl stopped, nothing)) =
    inl (inl stopped, nothing)
of_one_round may host d last t' (asks ∷ asked) (rs ∷ replied) us (inl (inr closed, nothing)) =
    inl (
      inr (
        closed.untold,
        subst (AreUntold d asks rs) (sym closed.calls)
            (calls_untold may host d last closed.tables asks closed.replies rs closed.replied
            closed.untold),
      ),
      nothing,
    )
of_one_round may host d last t' (asks ∷ asked) (rs ∷ replied) us (inr later) =
    inr (of_one_round may host d last t' asked replied us later)
