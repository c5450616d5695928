-- From chunk to chunk.
use Rattle.std.proofs.Common.{◌≡◌, ℕ, ◌<◌, ◌≤◌, List, [], ◌++◌, length, take, Option, Some, None}
use Rattle.std.proofs.Common.{option_map, string_bytes, inl, inr, refl, sym, ap, ◌∙◌, subst}
use Rattle.std.proofs.Common.{append-nil, arith, Bool, true, false, eqb}
use Rattle.std.proofs.lemmas.Bool.{eq-eqb}
use Rattle.std.specs.Prelude.{IfSome}
use Rattle.std.specs.Io.KnownBytes.{Consumes, IsAtEnd, Keeps}
use Rattle.std.proofs.KnownBytes.{Consumes-trans, Consumes-kept}
use Rattle.httparse.specs.Grammar.{HasNoRequest}
use Rattle.hq_http.specs.declared.begun.Begun.{Begun}
use Rattle.hq_http.specs.declared.stages.Request.{Request}
use Rattle.hq_http.specs.declared.stages.Stage.{Stage}
use Rattle.hq_http.specs.declared.stages.Stage.TheVariants.{Head, Body}
use Rattle.hq_http.specs.declared.reading.Input.{Input}
use Rattle.hq_http.specs.declared.reading.Input.TheVariants as input
use Rattle.hq_values.specs.declared.failure.Refusal.TheVariants.{BadRequest}
use Rattle.hq_http.specs.Requests.{Wanted, nothing, refused, request, RequestOf, Determines, IsOpen}
use Rattle.hq_http.specs.Requests.{Received, HasNoRoom}
use Rattle.hq_http.specs.Ends.{place_of}
use Rattle.hq_http.specs.Stages.{BodyBegun, StageIs, IsAtStage, InputIs, EndIs}
use Rattle.hq_http.proofs.HeadEnds.{none_yet}
use Rattle.hq_http.proofs.Asking.{whole_settles, settled_asks, not_whole_by}

-- a body that is whole
pub body_settles : (bytes : List ℕ) (m : Request) (n : ℕ) → BodyBegun bytes m n →
    n ≤ length m.body.items
    → Determines bytes (request (record {
      method = string_bytes m.method;
      path = string_bytes m.path;
      key = option_map string_bytes m.key;
      body = take n m.body.items;
    }))
body_settles bytes m n b enough = λ more.
    subst (RequestOf (bytes ++ more)) (λ i. request (record {
      method = sym b.method i;
      path = sym b.path i;
      key = option_map string_bytes m.key;
      body = take n m.body.items;
    }))
    (whole_settles bytes b.head (record { length = n; key = option_map string_bytes m.key })
    m.body.items b.reads b.limit enough more)

-- as long as no stage is left, more has to be read
pub stage_open : (bytes : List ℕ) (s : Stage) → StageIs bytes s → IsOpen bytes
stage_open bytes (Head begun) h =
    inl (
      subst HasNoRequest h.0 (none_yet begun.bytes.items begun.place begun.known h.1),
      λ ended. h.1 (begun.known ∙ ap place_of h.0 ∙ ended),
      h.2,
    )
stage_open bytes (Body m n) h = inr (
  h.0.head,
  record { length = n; key = option_map string_bytes m.key },
  m.body.items,
  h.0.reads,
  h.0.limit,
  h.1,
)

-- what the end makes of it
pub end_of_head : (bytes : List ℕ) (b : Begun) → StageIs bytes (Head b) → (b.bytes.items ≡ [] → ⊥) →
    RequestOf bytes (refused BadRequest)
end_of_head bytes b h some = inr (inr (
  λ e. some (h.0 ∙ e),
  λ k f rest r. (subst HasNoRequest h.0 (none_yet b.bytes.items b.place b.known h.1)) k rest
      r.head,
  refl,
))

pub end_of_body : (bytes : List ℕ) (m : Request) (n : ℕ) → StageIs bytes (Body m n) →
    RequestOf bytes (refused BadRequest)
end_of_body bytes m n h = inr (inl (
  h.0.head,
  record { length = n; key = option_map string_bytes m.key },
  m.body.items,
  h.0.reads,
  sym (not_whole_by h.0.head (record { length = n; key = option_map string_bytes m.key })
      m.body.items h.0.limit h.1),
))

whole_input : (a b : Option (List ℕ)) (bytes : List ℕ) (x : Wanted) → Consumes a b bytes →
    Determines bytes x → IfSome a (λ input. RequestOf input x)
whole_input None b bytes x c s = tt
whole_input (Some xs) None bytes x c s = absurd c
whole_input (Some xs) (Some ys) bytes x c s = subst (λ input. RequestOf input x) (sym c) (s ys)

whole_end : (a b : Option (List ℕ)) (bytes : List ℕ) (x : Wanted) → Consumes a b bytes → IsAtEnd b →
    RequestOf bytes x → IfSome a (λ input. RequestOf input x)
whole_end None b bytes x c e r = tt
whole_end (Some xs) None bytes x c e r = absurd c
whole_end (Some xs) (Some ys) bytes x c e r =
    subst (λ input. RequestOf input x) (sym (c ∙ ap (λ zs. bytes ++ zs) e ∙ append-nil bytes)) r

-- what a chunk settles
pub received : (a m b : Option (List ℕ)) (s : Stage) (chunk : List ℕ) (x : Wanted)
    (g : IsAtStage a m s)
    → Consumes m b chunk → length chunk ≤ 4096 → Determines (g.0 ++ chunk) x → Received a b x
received a m b s chunk x g c near settles =
    let read = Consumes-trans a m b g.0 chunk g.1 c in record {
      front = g.0;
      last = chunk;
      read = read;
      went_on = stage_open g.0 s g.2;
      near = near;
      asks = settled_asks (g.0 ++ chunk) x settles;
      whole = whole_input a b (g.0 ++ chunk) x read settles;
    }

-- a chunk for which there is no room
pub no_room : (a m b : Option (List ℕ)) (s : Stage) (chunk : List ℕ) (g : IsAtStage a m s) →
    Consumes m b chunk → length chunk ≤ 4096 → 0 < length chunk → HasNoRoom a b
no_room a m b s chunk g c near some = record {
  front = g.0;
  last = chunk;
  read = Consumes-trans a m b g.0 chunk g.1 c;
  went_on = stage_open g.0 s g.2;
  near = near;
  some = λ e. let n : length chunk ≡ 0 = ap length e in absurd (omega arith);
}

-- what the end settles
pub received_end : (a m b : Option (List ℕ)) (s : Stage) (x : Wanted) (g : IsAtStage a m s) →
    Consumes m b [] → IsAtEnd b → RequestOf g.0 x → Received a b x
received_end a m b s x g c e r =
    let read = Consumes-trans a m b g.0 [] g.1 c in
    let same = append-nil g.0 in record {
      front = g.0;
      last = [];
      read = read;
      went_on = stage_open g.0 s g.2;
      near = omega arith;
      asks = subst (λ xs. RequestOf xs x) (sym same) r;
      whole = whole_end a b (g.0 ++ []) x read e (subst (λ xs. RequestOf xs x) (sym same) r);
    }

pub ended : (no_memory : Type 0) (a m b : Option (List ℕ)) (s : Stage) (i : Input)
    (g : IsAtStage a m s) → Consumes m b [] → IsAtEnd b → EndIs g.0 i → InputIs no_memory a b i
ended no_memory a m b s input.Nothing g c e r = received_end a m b s nothing g c e r
ended no_memory a m b s (input.Refused why) g c e r = received_end a m b s (refused why) g c e r
ended no_memory a m b s (input.Request message) g c e r = absurd r
ended no_memory a m b s input.NoRoom g c e r = absurd r

pub going_kept : (a m b : Option (List ℕ)) (s : Stage) → IsAtStage a m s → Keeps m b
    → IsAtStage a b s
going_kept a m b s g k = (g.0, Consumes-kept a m b g.0 g.1 k, g.2)

pub left_open : (a b : Option (List ℕ)) (s : Stage) → IsAtStage a b s → (bytes : List ℕ)
    × Consumes a b bytes × IsOpen bytes
left_open a b s g = (g.0, g.1, stage_open g.0 s g.2)

pub not_empty : (xs : List ℕ) (n : ℕ) (t : Bool) → t ≡ eqb n 0 → n ≡ length xs → t ≡ false → xs ≡ []
    → ⊥
not_empty xs n t e same f none =
    let z : n ≡ 0 = same ∙ ap length none in
    let clash : true ≡ false = sym (eq-eqb n 0 z) ∙ sym e ∙ f in cc
