-- What the tests of a line say.
use Rattle.std.proofs.Common.{◌≡◌, ℕ, List, true, false, Option, Some, None, is_some, Result, Ok, Err, Bor, refl, sym, ap}
use Rattle.std.proofs.lemmas.Str.{IsUtf8-from_is_utf8, is_utf8-from_IsUtf8}
use Rattle.std.specs.Result.{MatchResult, is_ok}
use Rattle.std.specs.Str.{IsUtf8, is_utf8}
use Rattle.profile.specs.declared.profile.Profile.{Profile}
use Rattle.command_text.specs.Names.{named}
use Rattle.command_text.specs.Reading.{first_name, line_words, name_of_line, quoted}
use Rattle.command_text.specs.Words.{then_words, without_return, words_from, words_of}
use Rattle.command_text.specs.Words.Standing.{Between}
use Rattle.command_text.proofs.Spelling.{is_not}

pub utf8_test : {E : Type 0} (bytes : List ℕ) (r : Result (Bor (List ℕ)) E) (V : E → Type 0)
    → MatchResult r (λ s. (s.now ≡ bytes) × IsUtf8 bytes) (λ e. (IsUtf8 bytes → ⊥) × V e) → is_ok r ≡ is_utf8 bytes
utf8_test bytes (Ok s) V h = sym (is_utf8-from_IsUtf8 bytes h.1)
utf8_test bytes (Err e) V h = sym (is_not (is_utf8 bytes) (λ t. h.0 (IsUtf8-from_is_utf8 bytes t)))

pub name_found : (profile : Profile) (words rest : Option (List (List ℕ))) (word : List ℕ) → words ≡ then_words word rest
    → is_some rest ≡ true → first_name profile (quoted words) ≡ named profile word
name_found profile words None word e h = cc
name_found profile words (Some more) word e h = ap (λ ws. first_name profile (quoted ws)) e

pub no_name_behind : (profile : Profile) (words rest : Option (List (List ℕ))) (word : List ℕ) → words ≡ then_words word rest
    → is_some rest ≡ false → first_name profile (quoted words) ≡ None
no_name_behind profile words None word e h = ap (λ ws. first_name profile (quoted ws)) e
no_name_behind profile words (Some more) word e h = cc

pub name_at : (profile : Profile) (line text : List ℕ) → is_utf8 line ≡ true → text ≡ without_return line
    → name_of_line profile line ≡ first_name profile (quoted (words_from Between text))
unfolding name_of_line line_words words_of
name_at profile line text t e = rw t (ap (λ (l : List ℕ). first_name profile (quoted (words_from Between l))) (sym e))

pub no_name : (profile : Profile) (line : List ℕ) → is_utf8 line ≡ false → name_of_line profile line ≡ None
unfolding name_of_line line_words
no_name profile line f = rw f refl
