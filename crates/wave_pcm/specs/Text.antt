-- The text that the data of a chunk gives for its tag.
use Rattle.std.specs.Prelude.{ℕ, List, Option, ◌==◌}
use Rattle.std.specs.List.{before_first}
use Rattle.song_files.specs.Text.{text_or_none}

-- the bytes before the first zero byte, or all
abbrev pub before_zero : List ℕ → List ℕ
before_zero body = before_first (λ b. b == 0) body

abbrev pub tag_text : List ℕ → Option (List ℕ)
tag_text body = text_or_none (before_zero body)
