-- Numbers on the right of so many places, as they are formatted.
use Rattle.std.proofs.Common.{◌≡◌, ℕ, zero, suc, ◌-◌, ◌^◌, false, List, [], ◌∷◌, ◌++◌, length, refl}
use Rattle.std.proofs.Common.{ap, ◌∙◌, arith, append-nil}
use Rattle.std.specs.Prelude.{replicate}
use Rattle.std.specs.List.{repeat}
use Rattle.std.specs.Fmt.{padded_integral, format_spec, char_count}
use Rattle.std.proofs.Math.Nat.{sub_self}
use lib.Utf8.{encode}
use Rattle.hq_rules.specs.QueueReports.{right_in}

abbrev space : List ℕ
space = 32 ∷ []

spaces : (n : ℕ) → repeat n space ≡ replicate n 32
spaces zero = refl
spaces (suc n) = ap (λ rest. 32 ∷ rest) (spaces n)

-- so many spaces, and none behind
padded_with : (numeral : List ℕ) (n m : ℕ) → m ≡ 0 → repeat n space ++ [] ++ [] ++ []
    ++ (numeral ++ repeat m space) ≡ replicate n 32 ++ numeral
padded_with numeral n m none =
    ap (λ k. repeat n space ++ [] ++ [] ++ [] ++ (numeral ++ repeat k space)) none
    ∙ ap (λ front. front ++ (numeral ++ [])) (append-nil _ ∙ append-nil _
    ∙ append-nil (repeat n space) ∙ spaces n)
    ∙ ap (λ back. replicate n 32 ++ back) (append-nil numeral)

pub right_padded : (numeral : List ℕ) → padded_integral (format_spec 32 3 0 10 (2 ^ 64 - 1)) false
    [] numeral ≡ right_in 10 numeral
unfolding padded_integral char_count encode
right_padded numeral =
    let same : 10 - length numeral - 0 - 0 ≡ 10 - length numeral = omega arith in
    padded_with numeral (10 - length numeral - 0 - 0) _ (sub_self (10 - length numeral - 0 - 0))
    ∙ ap (λ n. replicate n 32 ++ numeral) same
