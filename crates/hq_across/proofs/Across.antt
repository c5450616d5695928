-- Sessions one after another are one run to each customer.
use Rattle.std.proofs.Common.{◌≡◌, ◌≢◌, ℕ, zero, suc, true, false, cond, List, [], ◌∷◌, ◌++◌}
use Rattle.std.proofs.Common.{map, filter, take, sym, refl, ap, ◌∙◌, subst}
use Rattle.std.specs.Ordering.{eq_by_cmp}
use Rattle.std.specs.Cmp.Lexicographic.{nat_list_cmp_total}
use Rattle.std.proofs.lemmas.Map.Lookups.{exact_bytes}
use Rattle.std.proofs.lemmas.Map.Views.{tells_apart}
use Rattle.std.proofs.lemmas.Bool.{both_ways}
use Rattle.hq_kept.specs.declared.account.Entry.{Entry}
use Rattle.hq_tables.specs.Sound.{Sound}
use Rattle.hq_tables.specs.Tables.{Tables, State, text_cmp, own}
use Rattle.hq_owned.proofs.Parts.{tied_true}
use Rattle.hq_rules.specs.Machine.{step, shared, state_after}
use Rattle.hq_rules.specs.declared.call.Call.{Call}
use Rattle.hq_isolation.proofs.Isolation.{caller, others}
use Rattle.hq_soundness.proofs.Soundness.{shared_sound}
use Rattle.hq_requests.specs.Directories.{entry_of}
use Rattle.hq_requests.specs.declared.directory.Directory.{Directory}
use Rattle.hq_requests.proofs.Entries.{named}
use Rattle.hq_wire.specs.Exchanges.{Unheard, after_calls}
use Rattle.hq_wire.specs.Runs.{share, calls_in}
use Rattle.hq_across.specs.Histories.{Session, SessionShare}
use Rattle.hq_across.specs.Histories.{of_customer, share_across, heard_across, state_behind}
use Rattle.hq_across.specs.Histories.{state_across, told_across, AloneAcross, Passed}
use Rattle.hq_across.specs.Histories.{InSessions}

-- ---- calls under way

module _ (host : List ℕ) (d : Directory) (c : List ℕ) where
  abbrev e : Entry
  e = entry_of d c

  abbrev next : Tables → Unheard → Tables
  next t u = (shared host (entry_of d u.customer) t u.at u.call).1

  own_call : (t : Tables) (u : Unheard) → c ≡ u.customer →
      own c (next t u) ≡ (step host e (own c t) u.at u.call).1
  own_call t u same =
      let met : ((shared host e t u.at u.call).0, own c (shared host e t u.at u.call).1)
      ≡ step host e (own c t) u.at u.call = subst (λ n. (
        (shared host e t u.at u.call).0,
        own n (shared host e t u.at u.call).1,
      ) ≡ step host e (own n t) u.at u.call) (named d.customers c)
      (caller host e t u.at u.call) in
      ap (λ n. own c (shared host (entry_of d n) t u.at u.call).1) (sym same) ∙ ap (λ p. p.1) met

  other_call : (t : Tables) (u : Unheard) → c ≢ u.customer → own c (next t u) ≡ own c t
  other_call t u apart = others host (entry_of d u.customer) t u.at u.call c
      (λ same. apart (same ∙ named d.customers u.customer))

  abbrev mine : List Unheard → List Unheard
  mine us = filter (λ (v : Unheard). eq_by_cmp text_cmp c v.customer) us

  -- to each customer they are the calls of its machine that are its own
  settled : (t : Tables) (us : List Unheard) →
      own c (after_calls host d t us) ≡ state_after host e (own c t) (of_customer c us)
  settled t [] = refl
  settled t (u ∷ us) =
      let rest = settled (next t u) us in
      elim (eq_by_cmp text_cmp c u.customer) as (λ b. eq_by_cmp text_cmp c u.customer ≡ b →
      own c (after_calls host d (next t u) us) ≡ state_after host e (own c t)
      (map (λ (v : Unheard). (v.at, v.call)) (cond b (u ∷ mine us) (mine us)))) [
        | true ↦ λ is. rest ∙ ap (λ s. state_after host e s (of_customer c us))
            (own_call t u (tells_apart exact_bytes c u.customer is))
        | false ↦ λ is. rest ∙ ap (λ s. state_after host e s (of_customer c us))
            (other_call t u (λ s. both_ways _ is (ap (eq_by_cmp text_cmp c) (sym s)
            ∙ tied_true nat_list_cmp_total c)))
      ] refl

-- ---- histories

-- the count of the first session, and those of the rest
abbrev choose : ℕ → (ℕ → ℕ) → ℕ → ℕ
choose count rest zero = count
choose count rest (suc i) = rest i

module _ (host : List ℕ) (s : Session) (ss : List Session) (t next t' : Tables)
    (one : Passed host s t next) (rest : AloneAcross host ss next t') (c : List ℕ) where
  abbrev entry : Entry
  entry = entry_of s.directory c

  abbrev first : SessionShare
  first = record {
    entry = entry;
    told = share c s.asked s.replies;
    untold = of_customer c (take one.found.0 s.under_way);
  }

  abbrev later : List SessionShare
  later = share_across c rest.done ss

  through : own c next ≡ state_behind host (own c t) first
  through = ap (own c) one.found.1
      ∙ settled host s.directory c one.last (take one.found.0 s.under_way)
      ∙ ap (λ u. state_after host entry u first.untold) (one.alone.state c)

  told : heard_across c (s ∷ ss) ≡ told_across host c (own c t) (first ∷ later)
  told =
      let more : heard_across c ss ≡ told_across host c (state_behind host (own c t) first) later =
      rest.replies c ∙ ap (λ u. told_across host c u later) through in
      λ i. one.alone.replies c i ++ more i

  left : own c t' ≡ state_across host (own c t) (first ∷ later)
  left = rest.state c ∙ ap (λ u. state_across host u later) through

pub across : (host : List ℕ) (h : List Session) (t t' : Tables) →
    InSessions (Passed host) h t t' → AloneAcross host h t t'
across host [] t t' h = record { done = λ _. 0; replies = λ c. refl; state = λ c. ap (own c) h }
across host (s ∷ ss) t t' h =
    let rest = across host ss h.0 t' h.2 in
    record {
      done = choose h.1.found.0 rest.done;
      replies = told host s ss t h.0 t' h.1 rest;
      state = left host s ss t h.0 t' h.1 rest;
    }

-- ---- soundness

calls_sound : (host : List ℕ) (d : Directory) (t : Tables) (us : List Unheard) → Sound t →
    Sound (after_calls host d t us)
calls_sound host d t [] sound = sound
calls_sound host d t (u ∷ us) sound =
    calls_sound host d (shared host (entry_of d u.customer) t u.at u.call).1 us
    (shared_sound host (entry_of d u.customer) t u.at u.call sound)

pub across_sound : (host : List ℕ) (h : List Session) (t t' : Tables) →
    InSessions (Passed host) h t t' → Sound t → Sound t'
across_sound host [] t t' h sound = subst Sound (sym h) sound
across_sound host (s ∷ ss) t t' h sound =
    across_sound host ss h.0 t' h.2 (subst Sound (sym h.1.found.1)
    (calls_sound host s.directory h.1.last (take h.1.found.0 s.under_way) (h.1.sound sound)))
