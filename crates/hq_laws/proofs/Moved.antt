-- Moves and deletions of the messages that a pattern is for.
use Rattle.std.proofs.Common.{◌≡◌, ℕ, Bool, true, false, filter, refl, ap, ◌∙◌}
use Rattle.std.proofs.Common.{Option, None, Some}
use Rattle.std.specs.Prelude.{if◌then◌else◌, option_map, option_and_then, unwrap_or}
use Rattle.std.specs.List as lists
use Rattle.std.specs.FinMap.{get, values}
use Rattle.hq_owned.specs.Owned.{given}
use Rattle.hq_kept.specs.declared.account.Entry.{Entry}
use Rattle.hq_kept.specs.declared.message.Message.{Message}
use Rattle.hq_tables.specs.Sound.{ShapedState}
use Rattle.hq_tables.specs.Tables.{State, change_all}
use Rattle.hq_rules.specs.Queues.{moved_by, moves_of, delete_all}
use Rattle.hq_rules.specs.declared.call.Move.{Move}
use Rattle.hq_isolation.proofs.Many.{Stand, stand_in}
use Rattle.hq_laws.proofs.Standing.{picked, pick, at_serial, moves_at, moved_to, drops_at}

module _ (s : State) (shaped : ShapedState s) (p : Message → Bool) (k : ℕ) where
  stands : Stand s.messages (filter p (values s.messages))
  stands = stand_in p s shaped

  found : lists.find (at_serial k) (filter p (values s.messages)) ≡
      option_and_then (pick p) (get s.messages k)
  found = picked s.messages (λ k m f. (shaped.messages k m f).own_serial) p k

  pub moved : (move : Move) →
      get (change_all (moves_of move (filter p (values s.messages))) s).messages k ≡
      option_map (λ (m : Message). if p m then unwrap_or (moved_by move m) m else m)
      (get s.messages k)
  moved move = moves_at move (filter p (values s.messages)) s stands k
      ∙ ap (given (get s.messages k) (λ m. Some (moved_to move m))) found
      ∙ by (get s.messages k)
    where
      by : (o : Option Message) →
          given o (λ m. Some (moved_to move m)) (option_and_then (pick p) o) ≡
          option_map (λ (m : Message). if p m then unwrap_or (moved_by move m) m else m) o
      by None = refl
      by (Some m) = case (p m)
        where
          case : (b : Bool) → given (Some m) (λ m. Some (moved_to move m))
              (if b then Some m else None) ≡
              Some (if b then unwrap_or (moved_by move m) m else m)
          case true = refl
          case false = refl

  pub dropped : (entry : Entry) (at : ℕ) →
      get (change_all (delete_all entry at s.head (filter p (values s.messages))).changes
      s).messages k ≡
      option_and_then (λ (m : Message). if p m then None else Some m) (get s.messages k)
  dropped entry at = drops_at entry at (filter p (values s.messages)) s stands k
      ∙ ap (given (get s.messages k) (λ m. None)) found ∙ by (get s.messages k)
    where
      by : (o : Option Message) → given o (λ m. None) (option_and_then (pick p) o) ≡
          option_and_then (λ (m : Message). if p m then None else Some m) o
      by None = refl
      by (Some m) = case (p m)
        where
          case : (b : Bool) → given (Some m) (λ m. None) (if b then Some m else None) ≡
              (if b then None else Some m)
          case true = refl
          case false = refl
