-- Actions: what a line of an access table does (access(5), ACCEPT ACTIONS, REJECT ACTIONS, OTHER
-- ACTIONS).
use Rattle.std.specs.Prelude.{ℕ, Bool, ◌==◌, List, [], ◌∷◌, ◌++◌, codes, reverse, if◌then◌else◌}
use Rattle.std.specs.Prelude.{Result, Err}
use Rattle.std.specs.List.{after_first, before_first}
use Rattle.std.specs.Str.{str_eq_ignore_ascii_case}
use Rattle.hq_values.specs.Readers.{checked, seen_by}
use Rattle.hq_values.specs.declared.failure.Refusal.{Refusal}
use Rattle.hq_values.specs.declared.failure.Refusal.TheVariants.{BadAction}
use Rattle.hq_values.specs.Addresses.{is_address}
use Rattle.hq_values.specs.Words.{is_text}
use Rattle.hq_kept.specs.declared.action.Action.{Action}
use Rattle.hq_kept.specs.declared.action.Action.TheVariants.{Okay, Reject, Defer, Dunno, Discard}
use Rattle.hq_kept.specs.declared.action.Action.TheVariants.{Hold, Redirect}

abbrev pub is_space : ℕ → Bool
is_space b = b == 32

-- the text without the spaces at its start
abbrev pub skip_spaces : List ℕ → List ℕ
skip_spaces [] = []
skip_spaces (b ∷ bytes) = if is_space b then skip_spaces bytes else b ∷ bytes

-- the text without the spaces at its end
abbrev pub drop_spaces : List ℕ → List ℕ
drop_spaces text = reverse (skip_spaces (reverse text))

-- the text of an action, without the spaces at both ends
abbrev pub trimmed : List ℕ → List ℕ
trimmed text = drop_spaces (skip_spaces text)

-- the verb runs to the first space
abbrev pub verb_of : List ℕ → List ℕ
verb_of text = before_first is_space (trimmed text)

-- the argument is what stands after it and after the spaces there
abbrev pub argument_of : List ℕ → List ℕ
argument_of text = skip_spaces (after_first is_space (trimmed text))

abbrev pub is_verb : List ℕ → List ℕ → Bool
is_verb verb name = str_eq_ignore_ascii_case verb name

-- the text of a verb: at most 1,000 bytes of printable ASCII and spaces
abbrev pub argument_in : List ℕ → Result (List ℕ) Refusal
argument_in argument = checked argument (is_text argument) BadAction

-- the address of a verb
abbrev pub verb_address : List ℕ → Result (List ℕ) Refusal
verb_address argument = checked argument (is_address argument) BadAction

-- verbs are read without regard to ASCII case
abbrev pub action_with : List ℕ → List ℕ → Result Action Refusal
action_with verb argument =
    if is_verb verb (codes "OK") then seen_by (λ text. Okay text) (argument_in argument)
    else if is_verb verb (codes "REJECT") then seen_by (λ text. Reject text) (argument_in argument)
    else if is_verb verb (codes "DEFER") then seen_by (λ text. Defer text) (argument_in argument)
    else if is_verb verb (codes "DUNNO") then seen_by (λ text. Dunno text) (argument_in argument)
    else if is_verb verb (codes "DISCARD") then seen_by (λ text. Discard text)
    (argument_in argument)
    else if is_verb verb (codes "HOLD") then seen_by (λ text. Hold text) (argument_in argument)
    else if is_verb verb (codes "REDIRECT") then
    seen_by (λ address. Redirect address) (verb_address argument)
    else Err BadAction

-- the action that a text is
abbrev pub action_in : List ℕ → Result Action Refusal
action_in text = action_with (verb_of text) (argument_of text)

-- ---- the written form

-- a verb in capitals, and then a space and the argument, where that is not empty
abbrev pub with_argument : List ℕ → List ℕ → List ℕ
with_argument verb [] = verb
with_argument verb (b ∷ argument) = verb ++ 32 ∷ b ∷ argument

abbrev pub verb_text : Action → List ℕ
verb_text (Okay text) = codes "OK"
verb_text (Reject text) = codes "REJECT"
verb_text (Defer text) = codes "DEFER"
verb_text (Dunno text) = codes "DUNNO"
verb_text (Discard text) = codes "DISCARD"
verb_text (Hold text) = codes "HOLD"
verb_text (Redirect address) = codes "REDIRECT"

abbrev pub argument_text : Action → List ℕ
argument_text (Okay text) = text
argument_text (Reject text) = text
argument_text (Defer text) = text
argument_text (Dunno text) = text
argument_text (Discard text) = text
argument_text (Hold text) = text
argument_text (Redirect address) = address

abbrev pub action_text : Action → List ℕ
action_text action = with_argument (verb_text action) (argument_text action)
