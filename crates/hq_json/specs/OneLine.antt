-- Texts that stand on one line.
use Rattle.std.specs.Prelude.{ℕ, ◌==◌, Bool, not, List}
use Rattle.std.specs.List.{list_all}

-- does not end a line
abbrev pub is_in_line : ℕ → Bool
is_in_line byte = not (byte == 10)

-- a text without LF (10)
abbrev pub is_one_line : List ℕ → Bool
is_one_line text = list_all is_in_line text
