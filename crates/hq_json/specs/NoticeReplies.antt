-- What is told of notices. Members stand in the order of their names.
use Rattle.std.specs.Prelude.{ℕ, Bool, List, [], ◌∷◌, map, codes}
use Rattle.serde_json.specs.Data.{Data, boolean, string, array}
use Rattle.serde_json.specs.View.{items_of}
use Rattle.hq_kept.specs.declared.kind.Kind.{Kind}
use Rattle.hq_kept.specs.declared.kind.Kind.TheVariants.{Failure, Delay}
use Rattle.hq_kept.specs.declared.notice.Notice.{Notice}
use Rattle.hq_json.specs.Objects.{having, count, id}

abbrev pub kind_name : Kind → List ℕ
kind_name Failure = codes "failure"
kind_name Delay = codes "delay"

-- the subjects of Postfix's own notices (bounce(5))
abbrev pub subject : Kind → List ℕ
subject Failure = codes "Undelivered Mail Returned to Sender"
subject Delay = codes "Delayed Mail (still being retried)"

-- a notice in a list
unfoldable pub notice_entry : Notice → Data
notice_entry n = having (
    (codes "at", count n.at) ∷
    (codes "id", id n.serial) ∷
    (codes "kind", string (kind_name n.kind)) ∷
    (codes "number", count n.number) ∷
    (codes "to", string n.to) ∷
    [])

unfoldable pub notices_listed : List Notice → Bool → Data
notices_listed ns more = having ((codes "more", boolean more)
    ∷ (codes "notices", array (items_of (map notice_entry ns))) ∷ [])

-- a notice shown whole
unfoldable pub notice_json : Notice → Data
notice_json n = having (
    (codes "at", count n.at) ∷
    (codes "human", string n.human) ∷
    (codes "id", id n.serial) ∷
    (codes "kind", string (kind_name n.kind)) ∷
    (codes "number", count n.number) ∷
    (codes "status", string n.status) ∷
    (codes "subject", string (subject n.kind)) ∷
    (codes "to", string n.to) ∷
    [])
