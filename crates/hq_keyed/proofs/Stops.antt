-- A query commits nothing, and nor does a write inside a transaction: so a crash leaves no more
-- than before.
use Rattle.std.proofs.Common.{◌≡◌, ℕ, Bool, true, false, List, IsSome, IsTrue, inl, inr, true≢false}
use Rattle.std.proofs.Common.{refl, sym, ap, ◌∙◌, subst}
use Rattle.sqlite.specs.Order.{Row}
use Rattle.sqlite.specs.Tree.{Trees}
use Rattle.sqlite.specs.Command.{Command}
use Rattle.sqlite.specs.Command.TheVariants.{Commit, Release, Insert, Update, Delete}
use Rattle.sqlite.specs.Listing.{understood}
use Rattle.sqlite.specs.State.{State, Survives, CommitsBy, CommitsShowing}
use Rattle.sqlite.proofs.Callers.{IsPlain, command_of}
use Rattle.hq_keyed.specs.Left.{LeavesNoMore}
use Rattle.hq_keyed.proofs.Known.{changes_rows}

-- whether a command may end a transaction by a commit
abbrev pub may_end : Command → Bool
may_end Commit = true
may_end (Release name) = true
may_end _ = false

-- a write of rows ends none
pub ends_none : (command : Command) → changes_rows command ≡ true → may_end command ≡ false
ends_none (Insert at from) changes = refl
ends_none (Update at q) changes = refl
ends_none (Delete at q) changes = refl
ends_none _ changes = absurd (let e = changes in cc)

query_commits_nothing : (s : State) (text : List ℕ) (params : Row) (db : Trees) →
    IsPlain (understood s.now.schema text) → CommitsShowing text params s db → ⊥
unfolding CommitsShowing
query_commits_nothing s text params db plain h =
    true≢false (sym (subst IsSome (subst IsPlain h.1.is plain).0 h.2))

write_commits_nothing : (s : State) (text : List ℕ) (params : Row) (db : Trees) →
    may_end (command_of (understood s.now.schema text)) ≡ false → IsTrue s.in_transaction →
    CommitsBy text params s db → ⊥
unfolding CommitsBy
write_commits_nothing s text params db goes_on within h =
    let goes : may_end h.0.command ≡ false = ap (λ r. may_end (command_of r)) (sym h.1.is)
    ∙ goes_on in
    elim h.2 [
      | inl ends ↦ elim ends.0 [
        | inl commits ↦ true≢false (sym (ap may_end commits) ∙ goes)
        | inr releases ↦ true≢false (sym (ap may_end releases.2) ∙ goes)
      ]
      | inr writes ↦ true≢false (sym within ∙ writes.0)
    ]

pub query_leaves_no_more : (old new : State) (text : List ℕ) (params : Row) →
    IsPlain (understood old.now.schema text) → Survives old new (CommitsShowing text params old) →
    LeavesNoMore old new
query_leaves_no_more old new text params plain h = λ clean db may. elim (h.crash clean db may) [
  | inl was ↦ was
  | inr commits ↦ absurd (query_commits_nothing old text params db plain commits)
]

pub write_leaves_no_more : (old new : State) (text : List ℕ) (params : Row) →
    may_end (command_of (understood old.now.schema text)) ≡ false → IsTrue old.in_transaction →
    Survives old new (CommitsBy text params old) → LeavesNoMore old new
write_leaves_no_more old new text params goes_on within h =
    λ clean db may. elim (h.crash clean db may) [
      | inl was ↦ was
      | inr commits ↦ absurd (write_commits_nothing old text params db goes_on within commits)
    ]
