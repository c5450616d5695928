-- Texts that are made of lines.
use Rattle.std.specs.Prelude.{ℕ, ◌==◌, List, [], ◌++◌, length, codes, if◌then◌else◌}
use Rattle.std.specs.List.{flat_map}

-- what ends a line in mail (RFC 5322, 2.3)
abbrev pub crlf : List ℕ
crlf = codes "\r\n"

abbrev pub lf : List ℕ
lf = codes "\n"

-- lines, each with its end
unfoldable pub text_of : List ℕ → List (List ℕ) → List ℕ
text_of end lines = flat_map (λ line. line ++ end) lines

-- what a remote server said, behind a space; nothing where it said nothing
abbrev pub said : List ℕ → List ℕ
said text = if length text == 0 then [] else codes " " ++ text
