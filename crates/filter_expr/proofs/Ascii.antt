-- Folding a text that is plain ASCII is lowering it, and how a lowered text is compared a byte at a time.
use Rattle.std.proofs.Common.{◌≡◌, ℕ, ◌<◌, Bool, true, false, ◌&&◌, nat_eq, List, [], ◌∷◌, length, map, drop}
use Rattle.std.proofs.Common.{IsAscii, encode_utf8_all, refl, sym, ap, ◌∙◌, arith}
use Rattle.std.proofs.lemmas.Str.{chars-IsAscii, encodes-IsAscii}
use Rattle.std.proofs.lemmas.Str.Ascii.{All-from_ascii, IsAscii-map, lowercase_ascii}
use Rattle.std.specs.Char.{to_ascii_lowercase}
use Rattle.std.specs.Str.{bytes_eq}
use Rattle.caseless.specs.Caseless.{default_case_fold}
use Rattle.caseless.proofs.CaselessLemmas.{default_case_fold-ascii}
use Rattle.filter_expr.specs.Folding.{folded}
use Rattle.filter_expr.specs.Meaning.{begins_with, occurs_in}
use Rattle.filter_expr.proofs.Texts.{drop_at}

pub folded_ascii : (text : List ℕ) → IsAscii text → folded text ≡ map to_ascii_lowercase text
unfolding folded
folded_ascii text ascii =
    ap (λ (cs : List ℕ). encode_utf8_all (default_case_fold cs)) (chars-IsAscii text ascii)
    ∙ ap encode_utf8_all (default_case_fold-ascii text (All-from_ascii text ascii))
    ∙ encodes-IsAscii (map to_ascii_lowercase text) (IsAscii-map to_ascii_lowercase text lowercase_ascii ascii)

pub begins_past : (part : List ℕ) (i : ℕ) → i < length part → false ≡ begins_with (drop i part) []
begins_past part i lt = sym (ap (λ (p : List ℕ). begins_with p []) (drop_at part i lt))

pub occurs_nothing : (text : List ℕ) → true ≡ occurs_in [] text
occurs_nothing [] = refl
occurs_nothing (t ∷ text) = refl

-- a text that begins so and is as long is the same
pub whole_begins : (value text : List ℕ) → length text ≡ length value → begins_with value text ≡ bytes_eq text value
whole_begins [] [] e = refl
whole_begins [] (t ∷ text) e = absurd (omega arith)
whole_begins (v ∷ value) [] e = absurd (omega arith)
whole_begins (v ∷ value) (t ∷ text) e = ap (λ (b : Bool). nat_eq t v && b) (whole_begins value text (omega arith))

begins_short : (part text : List ℕ) → length text < length part → begins_with part text ≡ false
begins_short [] text short = absurd (omega arith)
begins_short (p ∷ part) [] short = refl
begins_short (p ∷ part) (t ∷ text) short = rw (begins_short part text (omega arith)) (and_off (nat_eq t p))
  where
    and_off : (b : Bool) → (b && false) ≡ false
    and_off true = refl
    and_off false = refl

-- nothing longer stands in a text
pub occurs_short : (part text : List ℕ) → length text < length part → occurs_in part text ≡ false
occurs_short part [] short = begins_short part [] short
occurs_short part (t ∷ text) short = rw (begins_short part (t ∷ text) short) (occurs_short part text (omega arith))
