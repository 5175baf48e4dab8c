-- The bytes of a word, wherever they stand.
use Rattle.std.specs.Prelude.{ℕ, List}
use Rattle.filter_expr.specs.declared.word.WordBytes.{WordBytes}
use Rattle.filter_expr.specs.declared.word.WordBytes.TheVariants.{InLine, Unescaped}

abbrev pub bytes_of : WordBytes → List ℕ
bytes_of (InLine bytes) = bytes.now
bytes_of (Unescaped bytes) = bytes.items
