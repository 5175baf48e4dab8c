-- Which control line a line is, by what stands next in it.
use Rattle.std.proofs.Common.{◌≡◌, ℕ, List, [], true, false, Option, Some, None, refl, sym, ap, ◌∙◌}
use Rattle.std.specs.Str.{is_utf8}
use Rattle.command_text.specs.Control.{control_of_line, control_of_word, control_of_words}
use Rattle.command_text.specs.Reading.{line_words, quoted}
use Rattle.command_text.specs.Words.{then_words, without_return, words_from, words_of}
use Rattle.command_text.specs.Words.Standing.{Between}

pub control_at : (line text : List ℕ) → is_utf8 line ≡ true → text ≡ without_return line
    → control_of_line line ≡ control_of_words (quoted (words_from Between text))
unfolding control_of_line line_words words_of
control_at line text t e = rw t (ap (λ (l : List ℕ). control_of_words (quoted (words_from Between l))) (sym e))

pub no_control : (line : List ℕ) → is_utf8 line ≡ false → control_of_line line ≡ None
unfolding control_of_line line_words
no_control line f = rw f refl

-- one word, and nothing behind it
pub lone_word : (words rest : Option (List (List ℕ))) (word : List ℕ) → words ≡ then_words word rest → rest ≡ Some []
    → control_of_words (quoted words) ≡ control_of_word word
lone_word words rest word e h = ap (λ ws. control_of_words (quoted ws)) (e ∙ ap (then_words word) h)

-- bad quoting behind a word
pub bad_behind : (words rest : Option (List (List ℕ))) (word : List ℕ) → words ≡ then_words word rest → rest ≡ None
    → control_of_words (quoted words) ≡ None
bad_behind words rest word e h = ap (λ ws. control_of_words (quoted ws)) (e ∙ ap (then_words word) h)

two_words : (word other : List ℕ) (behind : Option (List (List ℕ)))
    → control_of_words (quoted (then_words word (then_words other behind))) ≡ None
two_words word other None = refl
two_words word other (Some words) = refl

-- a second word
pub word_behind : (words rest behind : Option (List (List ℕ))) (word other : List ℕ) → words ≡ then_words word rest
    → rest ≡ then_words other behind → control_of_words (quoted words) ≡ None
word_behind words rest behind word other e h =
    ap (λ ws. control_of_words (quoted ws)) (e ∙ ap (then_words word) h) ∙ two_words word other behind
