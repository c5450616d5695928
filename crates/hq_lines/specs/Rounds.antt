-- Lines that are answered some at a time: round by round, each of one line or of more.
use Rattle.std.specs.Prelude.{◌≡◌, ⊤, ℕ, List, [], ◌∷◌, ◌++◌, take, Option, Result, MatchResult}
use Rattle.std.specs.Prelude.{OnOk}
use Rattle.std.specs.List.{concat, flat_map}
use Rattle.std.specs.Io.KnownBytes.{Consumes, Appends}
use Rattle.hq_lines.specs.Fields.{LineRequest}
use Rattle.hq_lines.specs.Lines.{AreRead, Streams, requests}

-- the lists one behind the other
abbrev pub one_list : {A : Type 0} → List (List A) → List A
one_list {A} xss = flat_map (λ (xs : List A). xs) xss

-- The replies of all rounds but the last were written whole, and of those of the last a beginning:
-- none of it, some or all.
pub record RoundBrokenOff (old new : Option (List ℕ)) (replies : List (List (List ℕ))) : Type 0
  where
    pub whole : List (List (List ℕ))
    pub last : List (List ℕ)
    pub size : ℕ
    pub all : replies ≡ whole ++ last ∷ []
    pub written : Appends old new (concat (one_list whole) ++ take size (concat last))

-- the replies of rounds were written; or, at an error, those of the last round may be broken off
abbrev pub RoundsGoOut : {E : Type 0} → Option (List ℕ) → Option (List ℕ) →
    List (List (List ℕ)) → Result ⊤ E → Type 0
RoundsGoOut old new replies result = MatchResult result
    (λ _. Appends old new (concat (one_list replies))) (λ _. RoundBrokenOff old new replies)

-- a round of one line
abbrev pub OneEach : {S : Type 0} → (S → Option LineRequest → List ℕ → S → Type 0) → S →
    List (Option LineRequest) → List (List ℕ) → S → Type 0
OneEach step old (request ∷ []) (reply ∷ []) new = step old request reply new
OneEach step old _ _ new = ⊥

-- Of the requests that waited, and of those that came behind them, the first were done in rounds,
-- and their replies written; the rest waits, or is passed over where they could not be written.
pub record DoesFirst {S E : Type 0}
    (does : S → List (List (Option LineRequest)) → List (List (List ℕ)) → S → Type 0)
    (waiting : S → List (Option LineRequest)) (came : List (Option LineRequest)) (old new : S)
    (write_old write_new : Option (List ℕ)) (result : Result ⊤ E) : Type 0 where
  pub asked : List (List (Option LineRequest))
  pub replies : List (List (List ℕ))
  pub run : does old asked replies new
  pub rest : List (Option LineRequest)
  pub all : waiting old ++ came ≡ one_list asked ++ rest
  pub rest_waits : OnOk result (waiting new ≡ rest)
  pub written : RoundsGoOut write_old write_new replies result

-- Some bytes were read, and of those the lines (all, or the whole ones) were answered in rounds, in
-- order. `done` says what the rounds did.
pub record AnsweredInRounds
    (done : List (List (Option LineRequest)) → List (List (List ℕ)) → Type 0)
    (lines : List ℕ → List (List ℕ)) (old new : Streams) : Type 0 where
  pub bytes : List ℕ
  pub asked : List (List (Option LineRequest))
  pub replies : List (List (List ℕ))
  pub read : Consumes old.input new.input bytes
  pub written : Appends old.output new.output (concat (one_list replies))
  pub all : one_list asked ≡ requests (lines bytes)
  pub done_all : done asked replies

-- Some bytes were read, and the first of those lines were done, up to those of the round whose
-- replies could not be written: the replies of the rounds before it were written whole, and of its
-- own a beginning.
pub record BrokenInRound
    (done : List (List (Option LineRequest)) → List (List (List ℕ)) → Type 0)
    (old new : Streams) : Type 0 where
  pub bytes : List ℕ
  pub first : List (List ℕ)
  pub missed : List (List ℕ)
  pub asked : List (List (Option LineRequest))
  pub replies : List (List (List ℕ))
  pub read : Consumes old.input new.input bytes
  pub written : RoundBrokenOff old.output new.output replies
  pub lines : AreRead new.input bytes (first ++ missed)
  pub all : one_list asked ≡ requests first
  pub done_first : done asked replies
