-- A call of all customers, one after the other.
use Rattle.std.proofs.Common.{◌≡◌, ◌⊎◌, inl, inr, ⊎_elim, ℕ, zero, suc, length, get_or, take, drop}
use Rattle.std.proofs.Common.{◌<◌, Bool, true, false, List, [], ◌∷◌}
use Rattle.std.proofs.Common.{◌++◌, map, None, Ok, refl, sym, ap, ◌∙◌, subst, arith}
use Rattle.std.proofs.Common.{append-nil, append_assoc}
use Rattle.std.specs.List.{flat_map}
use Rattle.std.proofs.lemmas.List.{map-append}
use Rattle.std.proofs.lemmas.List.Concat.{flat_map-append}
use Rattle.hq_kept.specs.declared.account.Entry.{Entry}
use Rattle.hq_tables.specs.Shelves.{KeepsOnErr, OnSound, OnOpenSound}
use Rattle.hq_tables.specs.Shelves.{StopLeavesTables}
use Rattle.hq_tables.specs.Sound.{Sound}
use Rattle.hq_tables.specs.Tables.{Tables}
use Rattle.hq_rules.specs.Machine.{shared}
use Rattle.hq_rules.specs.declared.call.Call.{Call}
use Rattle.hq_rules.specs.Desks.{DeskSight, IsRendered, Stays, stepped}
use Rattle.hq_rules.specs.declared.render.Rendered.{Rendered}
use Rattle.hq_requests.specs.Calls.{CallOfAll}
use Rattle.hq_requests.specs.Directories.{entry_of}
use Rattle.hq_requests.specs.Spans.{Whom, names_in}
use Rattle.hq_wire.specs.Exchanges.{next_left}
use Rattle.hq_wire.specs.Exchanges.{AllDone, Exchanged, InPart, IsWant, Unheard}
use Rattle.hq_wire.specs.Exchanges.{of_part, unheard_call}
use Rattle.hq_json.specs.Parts.{IsObject}
use Rattle.hq_wire.specs.Replies.{AreObjects, Part, comma_joined}
use Rattle.hq_json.specs.Parts.{part_text}
use Rattle.hq_wire.specs.Replies.{parts_opening}
use Rattle.hq_wire.specs.Replies.{separated, parted_reply}
use Rattle.hq_requests.specs.declared.directory.Directory.{Directory}
use Rattle.hq_wire.proofs.Alone.{all_done_on}
use Rattle.hq_wire.proofs.Exchanging.{apart, stay_put, stay_on, tells_none}

-- ---- the text of parts

abbrev pub has_none : {A : Type 0} → List A → Bool
has_none [] = true
has_none (x ∷ xs) = false

abbrev pub behind_comma : Part → List ℕ
behind_comma p = 44 ∷ p.text

-- one more part
joined_more : (ps : List Part) (p : Part) → comma_joined (ps ++ p ∷ []) ≡ comma_joined ps
    ++ separated (has_none ps) p.text
joined_more [] p = append-nil p.text
joined_more (x ∷ ps) p =
    let more : flat_map behind_comma (ps ++ p ∷ []) ≡ flat_map behind_comma ps ++ behind_comma p =
    flat_map-append behind_comma ps (p ∷ []) ∙ ap (λ ys. flat_map behind_comma ps ++ ys)
    (append-nil (behind_comma p)) in
    ap (λ ys. x.text ++ ys) more
    ∙ sym (append_assoc x.text (flat_map behind_comma ps) (behind_comma p))

none_more : (ps : List Part) (p : Part) → has_none (ps ++ p ∷ []) ≡ false
none_more [] p = refl
none_more (x ∷ ps) p = refl

more_objects : (ps : List Part) (p : Part) → AreObjects ps → IsObject p.text →
    AreObjects (ps ++ p ∷ [])
more_objects [] p before object = (object, tt)
more_objects (x ∷ ps) p before object = (before.0, more_objects ps p before.1 object)

-- ---- the calls

abbrev pub customer_of_part : Part → List ℕ
customer_of_part p = p.customer

no_customers : (ps : List Part) → map customer_of_part ps ≡ [] → ps ≡ []
no_customers [] none = refl
no_customers (x ∷ xs) none = absurd (let some = ap (λ (ns : List (List ℕ)). length ns) none in
    omega (arith, some))

module _ {D : Type 0} (sight : DeskSight D) (d : Directory) (at : ℕ) (call : Call) where
  abbrev tables : D → Tables
  tables = sight.store.tables

  -- The customers of these names are done, and their parts stand in the body.
  pub record SoFar (old : D) (names : List (List ℕ)) (new : D) (body : List ℕ)
      (is_first : Bool) : Type 0 where
    pub parts : List Part
    pub text : body ≡ parts_opening ++ comma_joined parts
    pub first : is_first ≡ has_none parts
    pub whose : map customer_of_part parts ≡ names
    pub done : OnOpenSound sight.store old new
        (AllDone (sight.host old) d (tables old) (map (of_part at call) parts) (tables new))
    pub sound : OnOpenSound sight.store old new (Sound (tables new))
    pub stays : Stays sight old new
    pub tally : sight.store.fault_count new ≡ sight.store.fault_count old
    pub objects : AreObjects parts
    pub open_ : ((names ≡ []) × (new ≡ old)) ⊎ (sight.store.is_closed new ≡ false)

  pub none_yet : (old : D) (body : List ℕ) → body ≡ parts_opening → SoFar old [] old body true
  none_yet old body is = record {
    parts = [];
    text = is ∙ sym (append-nil parts_opening);
    first = refl;
    whose = refl;
    done = λ clean ours open_ sound. refl;
    sound = λ clean ours open_ sound. sound;
    stays = stay_put sight old;
    tally = refl;
    objects = tt;
    open_ = inl (refl, refl);
  }

  -- What holds of a desk of which so much was told, whether it is closed or not.
  pub record Reached (old new : D) (parts : List Part) : Type 0 where
    pub ours : sight.store.is_ours new
    pub sound : Sound (tables new)
    pub rests : StopLeavesTables sight.store new
    pub done : AllDone (sight.host old) d (tables old) (map (of_part at call) parts) (tables new)

  pub reached : (old new : D) (names : List (List ℕ)) (body : List ℕ) (is_first : Bool)
      (so_far : SoFar old names new body is_first) → sight.store.is_clean new →
      sight.store.is_ours old → Sound (tables old) → StopLeavesTables sight.store old →
      Reached old new so_far.parts
  reached old new names body is_first so_far clean ours fit rests = ⊎_elim
      (λ (none : (names ≡ []) × (new ≡ old)). record {
        ours = subst sight.store.is_ours (sym none.1) ours;
        sound = subst (λ n. Sound (tables n)) (sym none.1) fit;
        rests = subst (StopLeavesTables sight.store) (sym none.1) rests;
        done = subst (λ ps. AllDone (sight.host old) d (tables old) (map (of_part at call) ps)
            (tables new)) (sym (no_customers so_far.parts (so_far.whose ∙ none.0)))
            (ap tables none.1);
      })
      (λ (open_ : sight.store.is_closed new ≡ false). record {
        ours = so_far.stays.ours clean ours open_;
        sound = so_far.sound clean ours open_ fit;
        rests = so_far.stays.rests clean ours open_ rests;
        done = so_far.done clean ours open_ fit;
      }) so_far.open_

  -- a desk that was closed did nothing
  pub closed_told_none : (old new : D) (names : List (List ℕ)) (body : List ℕ) (is_first : Bool)
      (so_far : SoFar old names new body is_first) → sight.store.is_closed old ≡ true →
      map (of_part at call) so_far.parts ≡ []
  closed_told_none old new names body is_first so_far closed = ⊎_elim
      (λ (none : (names ≡ []) × (new ≡ old)). ap (map (of_part at call))
      (no_customers so_far.parts (so_far.whose ∙ none.0)))
      (λ (open_ : sight.store.is_closed new ≡ false). apart
      (sym (so_far.stays.stays_open open_) ∙ closed)) so_far.open_

  -- the call behind these parts
  abbrev pub called_next : List Part → List (List ℕ) → List Unheard
  called_next parts names =
      take 1 (drop (length (map (of_part at call) parts)) (map (unheard_call at call) names))

  pub next_is : (parts : List Part) (name : List ℕ) (more : List (List ℕ)) →
      called_next parts (map customer_of_part parts ++ name ∷ more)
      ≡ unheard_call at call name ∷ []
  next_is [] name more = refl
  next_is (x ∷ xs) name more = next_is xs name more

  -- what a call keeps that was done
  pub still_open : (mid new : D) (rendered : Rendered)
      → KeepsOnErr sight.store mid new (Ok rendered) → sight.host new ≡ sight.host mid
      → Stays sight mid new
  still_open mid new rendered kept host = record {
    ours = kept.ours;
    round = kept.round;
    quiet = kept.quiet;
    stays_open = λ open_. kept.tally.0;
    host = host;
    rests = kept.rests;
    shut = kept.shut;
  }

  -- the call of one customer was done
  pub one_more_done : (old mid new : D) (names : List (List ℕ)) (body longer : List ℕ)
      (is_first : Bool) (entry : Entry) (made_call : Call) (rendered : Rendered)
      → SoFar old names mid body is_first
      → entry ≡ entry_of d entry.name
      → made_call ≡ call
      → longer ≡ body ++ separated is_first rendered.bytes.items
      → OnSound sight.store mid new (IsRendered (part_text entry.name)
      (stepped sight mid entry at made_call).0 rendered)
      → OnSound sight.store mid new (tables new ≡ (stepped sight mid entry at made_call).1)
      → OnOpenSound sight.store mid new (Sound (tables new))
      → KeepsOnErr sight.store mid new (Ok rendered)
      → sight.host new ≡ sight.host mid
      → IsObject rendered.bytes.items
      → SoFar old (names ++ entry.name ∷ []) new longer false
  one_more_done old mid new names body longer is_first entry made_call rendered before known same
      put answer made sound kept host object =
      let p : Part = record { customer = entry.name; text = rendered.bytes.items } in
      let was_open = kept.tally.0 in
      let step : List ℕ → Entry → Call → Type 0 =
      λ h e k. (InPart p.text ≡ InPart (part_text entry.name (shared h e (tables mid) at k).0))
      × (tables new ≡ (shared h e (tables mid) at k).1) in
      record {
        parts = before.parts ++ p ∷ [];
        text = put ∙ (λ i. before.text i ++ separated (before.first i) p.text)
            ∙ append_assoc parts_opening (comma_joined before.parts)
            (separated (has_none before.parts) p.text)
            ∙ ap (λ ys. parts_opening ++ ys) (sym (joined_more before.parts p));
        first = sym (none_more before.parts p);
        whose = map-append customer_of_part before.parts (p ∷ [])
            ∙ ap (λ ns. ns ++ entry.name ∷ []) before.whose;
        done = λ clean ours open_ sound.
            let then = kept.quiet clean in
            let rows = before.stays.ours then ours was_open in
            let fit = before.sound then ours was_open sound in
            let told = answer clean rows fit in
            let this : step (sight.host old) (entry_of d entry.name) call =
            subst (λ h. step h (entry_of d entry.name) call) before.stays.host
            (subst (λ e. step (sight.host mid) e call) known
            (subst (step (sight.host mid) entry) same (ap InPart told.1, made clean rows fit))) in
            subst (λ ds. AllDone (sight.host old) d (tables old) ds (tables new))
            (sym (map-append (of_part at call) before.parts (p ∷ [])))
            (all_done_on (sight.host old) d (tables old) (tables mid) (tables new)
            (map (of_part at call) before.parts) (of_part at call p ∷ []) (before.done then
            ours was_open sound) this);
        sound = λ clean ours open_ fit.
            let then = kept.quiet clean in
            sound clean (before.stays.ours then ours was_open) open_ (before.sound then
            ours was_open fit);
        stays = stay_on sight old mid new before.stays (still_open mid new rendered kept host);
        tally = kept.tally.2 ∙ before.tally;
        objects = more_objects before.parts p before.objects object;
        open_ = inr kept.tally.1;
      }

  -- all customers were done
  pub done_by_all : (whom : Whom) (old new : D) (names : List (List ℕ)) (body : List ℕ)
      (is_first : Bool) (so_far : SoFar old names new body is_first) → names ≡ names_in d whom →
      Exchanged sight d old (record { at = at; called = Ok (CallOfAll whom call) })
      (parted_reply so_far.parts (next_left d whom []) None) new
  done_by_all whom old new names body is_first so_far all = record {
    replied = λ clean ours open_ sound. inl (record {
      left = [];
      order = sym (append-nil (map customer_of_part so_far.parts) ∙ so_far.whose ∙ all);
      done = so_far.done clean ours open_ sound;
      ends = refl;
      objects = so_far.objects;
      reply = refl;
    });
    tells = inl (record {
      left = [];
      order = sym (append-nil (map customer_of_part so_far.parts) ∙ so_far.whose ∙ all);
      ends = refl;
      objects = so_far.objects;
      reply = refl;
    });
    anyway = λ closed. inr (either so_far.open_ closed);
    closed = tells_none (parted_reply so_far.parts (next_left d whom []) None) refl;
    sound = so_far.sound;
    stays = so_far.stays;
    stops = λ clean ours fit rests.
        let at_end = reached old new names body is_first so_far clean ours fit rests in (
          at_end.rests.0,
          λ t may. (tables new, at_end.done, inl (at_end.rests.1 t may)),
        );
    shut = closed_told_none old new names body is_first so_far;
    counted = λ small. let same = so_far.tally in omega (arith, same);
  } where
    either : ((names ≡ []) × (new ≡ old)) ⊎ (sight.store.is_closed new ≡ false) →
        sight.store.is_closed new ≡ true →
        (IsWant sight.store.may_answer (parted_reply so_far.parts (next_left d whom []) None)
        ⊎ (names_in d whom ≡ []))
        × (new ≡ old)
    either (inl none) closed = (inr (sym all ∙ none.0), none.1)
    either (inr open_) closed = apart (sym open_ ∙ closed)

-- a list at a place of it
pub split_at : {A B : Type 0} (f : A → B) (xs : List A) (i : ℕ) (x : A) → i < length xs →
    x ≡ get_or xs i x → map f xs ≡ map f (take i xs) ++ f x ∷ map f (drop (suc i) xs)
split_at f [] i x below is = absurd (omega arith)
split_at f (y ∷ ys) zero x below is = ap (λ z. f z ∷ map f ys) (sym is)
split_at f (y ∷ ys) (suc i) x below is = ap (λ zs. f y ∷ zs) (split_at f ys i x (omega arith) is)
