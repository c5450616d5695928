-- What came over a connection, and was sent over it, and then more.
use Rattle.std.proofs.Common.{ℕ, List, [], ◌++◌, subst, append-nil}
use Rattle.hq_sockets.specs.Talks.{Talking}

module _ {C : Type 0} (talks : Talking C)
    (on : (old mid new : C) (got more gave others : List ℕ) → talks old got gave mid →
    talks mid more others new → talks old (got ++ more) (gave ++ others) new) where
  -- nothing came, and nothing was sent
  pub nothing_more : (first old new : C) (got gave : List ℕ) → talks first got gave old →
      talks old [] [] new → talks first got gave new
  nothing_more first old new got gave p q =
      subst (λ l. talks first l gave new) (append-nil got)
      (subst (λ l. talks first (got ++ []) l new) (append-nil gave)
      (on first old new got [] gave [] p q))

  -- more came
  pub came_more : (first old new : C) (got more gave : List ℕ) → talks first got gave old →
      talks old more [] new → talks first (got ++ more) gave new
  came_more first old new got more gave p q =
      subst (λ l. talks first (got ++ more) l new) (append-nil gave)
      (on first old new got more gave [] p q)

  -- more was sent
  pub sent_more : (first old new : C) (got gave more : List ℕ) → talks first got gave old →
      talks old [] more new → talks first got (gave ++ more) new
  sent_more first old new got gave more p q =
      subst (λ l. talks first l (gave ++ more) new) (append-nil got)
      (on first old new got [] gave more p q)
