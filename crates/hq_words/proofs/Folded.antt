-- Rules that are added to a command one after another, as a list of them.
use Rattle.std.proofs.Common.{◌≡◌, ◌∙◌, ap, sym, List, [], ◌∷◌, ◌++◌, fold}
use Rattle.std.proofs.Common.{append_assoc, append-nil}
use Rattle.clap.specs.Simple.{App, Shape, new_app, with_rule}
use Rattle.clap.specs.Walk.{Rule, Text}
use Rattle.hq_words.specs.Program.{word_shape}

-- a command with these rules
abbrev having : App → List Rule → Shape
having a rules = record a.top { rules = rules }

-- they stand behind those that were there
added : (a : App) (rules : List Rule) →
    (fold with_rule a rules).top ≡ having a (a.top.rules ++ rules)
added a [] = ap (having a) (sym (append-nil a.top.rules))
added a (rule ∷ rules) = added (with_rule a rule) rules
    ∙ ap (having a) (append_assoc a.top.rules (rule ∷ []) rules)

-- to a new command they are all that it has
pub with_rules : (name : Text) (rules : List Rule) →
    (fold with_rule (new_app name) rules).top ≡ word_shape name rules
with_rules name rules = added (new_app name) rules
