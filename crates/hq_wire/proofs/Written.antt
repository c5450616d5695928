-- What is written piece by piece.
use Rattle.std.proofs.Common.{◌≡◌, ℕ, List, ◌++◌, append_assoc, ap, ◌∙◌}

pub three : (b x y z : List ℕ) → ((b ++ x) ++ y) ++ z ≡ b ++ ((x ++ y) ++ z)
three b x y z = ap (λ xs. xs ++ z) (append_assoc b x y) ∙ append_assoc b (x ++ y) z

pub five : (b v w x y z : List ℕ) → ((((b ++ v) ++ w) ++ x) ++ y) ++ z
    ≡ b ++ ((((v ++ w) ++ x) ++ y) ++ z)
five b v w x y z = ap (λ xs. (xs ++ y) ++ z) (three b v w x)
    ∙ three b ((v ++ w) ++ x) y z
