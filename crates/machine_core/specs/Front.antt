-- What is given out of an answer: a client gets none that is longer than any that is sent.
use Rattle.std.specs.Prelude.{◌≡◌, ℕ, ◌+◌, List, take}

-- so many bytes an answer has at most that is sent
abbrev pub longest_answer : ℕ
longest_answer = 8388608

-- What is given out of an answer: all of it, or where it is longer than any that is sent, a front that is longer too.
unfoldable pub front_of : List ℕ → List ℕ
front_of text = take (longest_answer + 1) text

-- the same is given out of both
abbrev pub SameFront : List ℕ → List ℕ → Type 0
SameFront one other = front_of one ≡ front_of other
