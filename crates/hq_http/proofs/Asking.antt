-- What bytes ask for, and what they go on to ask for.
use Rattle.std.proofs.Common.{◌≡◌, ℕ, ◌<◌, ◌≤◌, List, [], ◌∷◌, ◌++◌, length, take, drop, map, Some}
use Rattle.std.proofs.Common.{None, inl, inr, refl, sym, ap, ◌∙◌, subst, arith, append-nil}
use Rattle.std.proofs.Common.{length-append, true, false, leb, ◌⊎◌}
use Rattle.std.proofs.lemmas.Bool.{lt-ltb, le-leb, lt-leb, le-ltb}
use Rattle.std.proofs.lemmas.List.{take-append-le}
use Rattle.httparse.specs.Grammar.{Field, RequestHead, print_request, ReadsRequest, HasNoRequest}
use Rattle.httparse.specs.Grammar.{MayBecomeRequest, IsToken, is_token_byte}
use Rattle.httparse.specs.Spans.{name_and_value, header_bytes, AreFieldsAt, IsRequestAt}
use Rattle.httparse.specs.Spans.{RequestOverflows}
use Rattle.httparse.proofs.GrammarLemmas.{ReadsRequest-append, request_unique, request_prefix_free}
use Rattle.httparse.specs.declared.spans.HeaderSpan.{HeaderSpan}
use Rattle.httparse.specs.declared.spans.RequestSpans.{RequestSpans}
use Rattle.std.proofs.lemmas.Bool.Decides.{nat_tests, leb_tells}
use Rattle.std.specs.Str.{IsUtf8}
use Rattle.std.proofs.lemmas.Str.{IsUtf8-from_ascii}
use Rattle.std.proofs.lemmas.Str.Ascii.{IsAscii-from_all}
use Rattle.std.proofs.lemmas.List.Elements.{All-weaker}
use Rattle.std.proofs.lemmas.List.{take-append-drop, length-take, length-map}
use Rattle.std.proofs.Math.Seq.{take-append_seam}
use Rattle.hq_http.specs.Ends.{HasEnd}
use Rattle.hq_values.specs.declared.failure.Refusal.TheVariants.{BadRequest, BodyTooLong}
use Rattle.hq_http.specs.Fields.{Framing, framing}
use Rattle.hq_http.proofs.HeadEnds.{has_end, ends_some, no_more}
use Rattle.hq_http.specs.Requests.{Request, Wanted, nothing, refused, request, ReadsHead, asked_by}
use Rattle.hq_http.specs.Requests.{HasNoHead, RequestOf, Determines}

pub Reads-append : (bytes more : List ℕ) (h : RequestHead) (f : Framing) (rest : List ℕ) →
    ReadsHead bytes h f rest → ReadsHead (bytes ++ more) h f (rest ++ more)
Reads-append bytes more h f rest r = record {
  head = ReadsRequest-append bytes h rest more r.head;
  short = r.short;
  few = r.few;
  framed = r.framed;
}

-- one head, one framing, one rest
same_asked : (bytes : List ℕ) (h k : RequestHead) (f g : Framing) (r q : List ℕ)
    → ReadsHead bytes h f r
    → ReadsHead bytes k g q → asked_by h f r ≡ asked_by k g q
same_asked bytes h k f g r q x y =
    let u = request_unique bytes h k r q x.head y.head in
    let e : Some f ≡ Some g = sym x.framed
    ∙ ap (λ (z : RequestHead). framing (map name_and_value z.fields)) u.0 ∙ y.framed in
    let fg : f ≡ g = cc in
    λ i. asked_by (u.0 i) (fg i) (u.1 i)

empty_reads : (h : RequestHead) (f : Framing) (rest : List ℕ) → ReadsHead [] h f rest → ⊥
empty_reads h f rest r = ends_some [] (has_end [] h rest r.head) refl

-- Bytes ask for one thing.
pub one_asked : (bytes : List ℕ) (a b : Wanted) → RequestOf bytes a → RequestOf bytes b → a ≡ b
one_asked bytes a b (inl p) (inl q) = p.1 ∙ sym q.1
one_asked bytes a b (inl p) (inr (inl q)) =
    absurd (empty_reads q.0 q.1 q.2 (subst (λ xs. ReadsHead xs q.0 q.1 q.2) p.0 q.3))
one_asked bytes a b (inl p) (inr (inr q)) = absurd (q.0 p.0)
one_asked bytes a b (inr (inl p)) (inl q) =
    absurd (empty_reads p.0 p.1 p.2 (subst (λ xs. ReadsHead xs p.0 p.1 p.2) q.0 p.3))
one_asked bytes a b (inr (inl p)) (inr (inl q)) = p.4
    ∙ same_asked bytes p.0 q.0 p.1 q.1 p.2 q.2 p.3 q.3 ∙ sym q.4
one_asked bytes a b (inr (inl p)) (inr (inr q)) = absurd (q.1 p.0 p.1 p.2 p.3)
one_asked bytes a b (inr (inr p)) (inl q) = absurd (p.0 q.0)
one_asked bytes a b (inr (inr p)) (inr (inl q)) = absurd (p.1 q.0 q.1 q.2 q.3)
one_asked bytes a b (inr (inr p)) (inr (inr q)) = p.2 ∙ sym q.2

too_long_by : (h : RequestHead) (f : Framing) (rest : List ℕ) → 262144 < f.length →
    asked_by h f rest ≡ refused BodyTooLong
unfolding asked_by
too_long_by h f rest lt = rw (lt-ltb 262144 f.length lt) refl

pub not_whole_by : (h : RequestHead) (f : Framing) (rest : List ℕ) → f.length ≤ 262144 →
    length rest < f.length → asked_by h f rest ≡ refused BadRequest
unfolding asked_by
not_whole_by h f rest le lt = rw (le-ltb 262144 f.length le, lt-leb f.length (length rest) lt) refl

whole_by : (h : RequestHead) (f : Framing) (rest : List ℕ) → f.length ≤ 262144 →
    f.length ≤ length rest → asked_by h f rest ≡ request
    (record { method = h.method; path = h.target; key = f.key; body = take f.length rest })
unfolding asked_by
whole_by h f rest le lt = rw (le-ltb 262144 f.length le, le-leb f.length (length rest) lt) refl

append_some : (bytes more : List ℕ) → (bytes ≡ [] → ⊥) → bytes ++ more ≡ [] → ⊥
append_some [] more some e = some refl
append_some (x ∷ bytes) more some e = cc

pub too_long_settles : (bytes : List ℕ) (h : RequestHead) (f : Framing) (rest : List ℕ) →
    ReadsHead bytes h f rest → 262144 < f.length → Determines bytes (refused BodyTooLong)
too_long_settles bytes h f rest r lt = λ more. inr
    (inl (
      h,
      f,
      rest ++ more,
      Reads-append bytes more h f rest r,
      sym (too_long_by h f (rest ++ more) lt),
    ))

pub whole_settles : (bytes : List ℕ) (h : RequestHead) (f : Framing) (rest : List ℕ) →
    ReadsHead bytes h f rest → f.length ≤ 262144 → f.length ≤ length rest
    → Determines bytes (request (record {
      method = h.method;
      path = h.target;
      key = f.key;
      body = take f.length rest;
    }))
whole_settles bytes h f rest r le enough = λ more.
    let longer : f.length ≤ length (rest ++ more) = omega (arith, length-append rest more) in
    inr (inl (
      h,
      f,
      rest ++ more,
      Reads-append bytes more h f rest r,
      (λ i. request (record {
        method = h.method;
        path = h.target;
        key = f.key;
        body = sym (take-append-le f.length rest more enough) i;
      }))
          ∙ sym (whole_by h f (rest ++ more) le longer),
    ))

-- however the bytes go on, they begin with no head within the limits
abbrev pub IsHopeless : List ℕ → Type 0
IsHopeless bytes = (more : List ℕ) → HasNoHead (bytes ++ more)

pub hopeless_settles : (bytes : List ℕ) → (bytes ≡ [] → ⊥) → IsHopeless bytes →
    Determines bytes (refused BadRequest)
hopeless_settles bytes some none = λ more. inr (inr (append_some bytes more some, none more, refl))

-- what is settled is asked
pub settled_asks : (bytes : List ℕ) (a : Wanted) → Determines bytes a → RequestOf bytes a
settled_asks bytes a s = subst (λ xs. RequestOf xs a) (append-nil bytes) (s [])

pub hopeless_long : (buf : List ℕ) (h : RequestHead) (r : List ℕ) → ReadsRequest buf h r →
    16384 < length (print_request h) → IsHopeless buf
hopeless_long buf h r x lt = λ more k f q y.
    let e = (request_prefix_free buf more h k r q x y.head).0 in
    let s : length (print_request h) ≤ 16384 =
    subst (λ z. length (print_request z) ≤ 16384) (sym e) y.short in
    absurd (omega arith)

pub hopeless_framing : (buf : List ℕ) (h : RequestHead) (r : List ℕ) → ReadsRequest buf h r →
    framing (map name_and_value h.fields) ≡ None → IsHopeless buf
hopeless_framing buf h r x none = λ more k f q y.
    let e = (request_prefix_free buf more h k r q x y.head).0 in
    let s : framing (map name_and_value h.fields) ≡ Some f =
    ap (λ (z : RequestHead). framing (map name_and_value z.fields)) e ∙ y.framed in
    let clash : None ≡ Some f = sym none ∙ s in
    cc

pub hopeless_open : (buf : List ℕ) → HasNoRequest buf → 16384 ≤ length buf → IsHopeless buf
hopeless_open buf none le = λ more k f q y.
    let p = print_request k in
    let s : length p ≤ length buf = omega (arith, y.short) in
    let front : take (length p) buf ≡ p = sym (take-append-le (length p) buf more s)
    ∙ (ap (take (length p)) y.head.1 ∙ take-append_seam p q) in
    let whole : buf ≡ p ++ drop (length p) buf = sym (take-append-drop (length p) buf)
    ∙ ap (λ x. x ++ drop (length p) buf) front in
    none k (drop (length p) buf) (y.head.0, whole)

few_fields : (buf : List ℕ) (hs : List HeaderSpan) (n : ℕ) (fs : List Field) →
    AreFieldsAt buf hs n fs → length hs ≤ 64 → length fs ≤ 64
few_fields buf hs n fs e le =
    let l : length (take n hs) ≡ length fs = sym (length-map (take n hs) (header_bytes buf))
    ∙ (ap length e ∙ length-map fs name_and_value) in
    omega (arith, length-take n hs)

-- the parser's answer as a head within the limits
pub reads : (buf : List ℕ) (hs : List HeaderSpan) (r : RequestSpans) (h : RequestHead) (f : Framing)
    → IsRequestAt buf hs r h → r.len ≤ 16384 → length hs ≤ 64
    → Some f ≡ framing (map (header_bytes buf) (take r.headers hs))
    → ReadsHead buf h f (drop r.len buf)
reads buf hs r h f at short room e = record {
  head = at.reads;
  short = omega (arith, at.len);
  few = few_fields buf hs r.headers h.fields at.fields room;
  framed = ap framing (sym at.fields) ∙ sym e;
}

-- more fields than there is room for
pub hopeless_overflow : (buf : List ℕ) → RequestOverflows 64 buf → IsHopeless buf
hopeless_overflow buf over = λ more h f rest r. absurd
    (omega (arith, over more h rest r.head, r.few))

-- with no request here, and none that may come
pub hopeless_partial : (buf : List ℕ) → HasEnd buf → HasNoRequest buf → MayBecomeRequest buf →
    IsHopeless buf
hopeless_partial buf ended none may = absurd (no_more buf ended none may)

token_is_ascii : (b : ℕ) → is_token_byte b ≡ true → b < 128
unfolding is_token_byte
token_is_ascii b e = grind (arith, nat_tests)

pub token_text : (xs : List ℕ) → IsToken xs → IsUtf8 xs
token_text xs t = IsUtf8-from_ascii xs (IsAscii-from_all xs
    (All-weaker (λ b. is_token_byte b ≡ true) (λ b. b < 128) token_is_ascii xs t.1))

-- a head that the parser found is an end
pub some_bytes : (bytes : List ℕ) (h : RequestHead) (rest : List ℕ) → ReadsRequest bytes h rest →
    bytes ≡ [] → ⊥
some_bytes bytes h rest r = ends_some bytes (has_end bytes h rest r)

head_stays : (bytes : List ℕ) (q : Request) (h : RequestHead) (f : Framing) (rest : List ℕ) →
    ReadsHead bytes h f rest → request q ≡ asked_by h f rest
    → ((leb f.length 262144 ≡ true) × (f.length ≤ 262144))
    ⊎ ((leb f.length 262144 ≡ false) × (262144 < f.length))
    → ((leb f.length (length rest) ≡ true) × (f.length ≤ length rest))
    ⊎ ((leb f.length (length rest) ≡ false) × (length rest < f.length))
    → Determines bytes (request q)
head_stays bytes q h f rest r e (inr p) u = let clash : request q ≡ refused BodyTooLong = e
    ∙ too_long_by h f rest p.1 in cc
head_stays bytes q h f rest r e (inl p) (inr u) = let clash : request q ≡ refused BadRequest = e
    ∙ not_whole_by h f rest p.1 u.1 in cc
head_stays bytes q h f rest r e (inl p) (inl u) =
    subst (Determines bytes) (sym (e ∙ whole_by h f rest p.1 u.1))
    (whole_settles bytes h f rest r p.1 u.1)

pub request_stays : (bytes : List ℕ) (q : Request) → RequestOf bytes (request q) →
    Determines bytes (request q)
request_stays bytes q (inl p) = let clash : request q ≡ nothing = p.1 in cc
request_stays bytes q (inr (inl p)) = head_stays bytes q p.0 p.1 p.2 p.3 p.4
    (leb_tells p.1.length 262144) (leb_tells p.1.length (length p.2))
request_stays bytes q (inr (inr p)) = let clash : request q ≡ refused BadRequest = p.2 in cc

long_stays : (bytes : List ℕ) (h : RequestHead) (f : Framing) (rest : List ℕ)
    → ReadsHead bytes h f rest
    → refused BodyTooLong ≡ asked_by h f rest
    → ((leb f.length 262144 ≡ true) × (f.length ≤ 262144))
    ⊎ ((leb f.length 262144 ≡ false) × (262144 < f.length))
    → ((leb f.length (length rest) ≡ true) × (f.length ≤ length rest))
    ⊎ ((leb f.length (length rest) ≡ false) × (length rest < f.length))
    → Determines bytes (refused BodyTooLong)
long_stays bytes h f rest r e (inr p) u = too_long_settles bytes h f rest r p.1
long_stays bytes h f rest r e (inl p) (inr u) =
    let clash : refused BodyTooLong ≡ refused BadRequest = e ∙ not_whole_by h f rest p.1 u.1 in cc
long_stays bytes h f rest r e (inl p) (inl u) = let clash = e ∙ whole_by h f rest p.1 u.1 in cc

pub too_long_stays : (bytes : List ℕ) → RequestOf bytes (refused BodyTooLong) →
    Determines bytes (refused BodyTooLong)
too_long_stays bytes (inl p) = let clash : refused BodyTooLong ≡ nothing = p.1 in cc
too_long_stays bytes (inr (inl p)) = long_stays bytes p.0 p.1 p.2 p.3 p.4
    (leb_tells p.1.length 262144) (leb_tells p.1.length (length p.2))
too_long_stays bytes (inr (inr p)) = let clash : refused BodyTooLong ≡ refused BadRequest = p.2 in
    cc
