-- Texts of a form that are read are spelled so, and what is spelled so is read.
use Rattle.std.proofs.Common.{◌≡◌, ℕ, Bool, true, ◌&&◌, leb, List, length, refl, arith}
use Rattle.std.specs.Prelude.{IsTrue}
use Rattle.std.specs.Str.{is_utf8}
use Rattle.std.proofs.lemmas.Bool.{leb-true, le-leb}
use Rattle.song_db.specs.Uri.{is_uri}
use Rattle.state_codec.specs.Fields.{such, text_at}
use Rattle.state_codec.specs.ReadingRows.{uri_at}
use Rattle.state_codec.specs.SpellingFields.{text_bytes}
use Rattle.state_codec.specs.Text.{is_text}
use Rattle.state_codec.proofs.FieldLaws.{both_true, IsField, such_is, fits_is, text_is}

-- a test that only texts of a field pass
pub form_is : (test : List ℕ → Bool) → ((text : List ℕ) → test text ≡ true → is_text text ≡ true)
    → IsField (λ bytes. such test text_at bytes) (λ text. text_bytes text) (λ text. test text ≡ true)
form_is test short =
    fits_is (λ bytes. such test text_at bytes) (λ text. text_bytes text) (λ text. IsTrue (is_text text) × (test text ≡ true))
    (λ text. test text ≡ true)
    (such_is test (λ bytes. text_at bytes) (λ text. text_bytes text) (λ text. IsTrue (is_text text)) text_is)
    (λ text h. h.1) (λ text h. (short text h, h))

pub both_is_true : (a b : Bool) → a ≡ true → b ≡ true → (a && b) ≡ true
both_is_true a b e f = rw (e, f) refl

pub uri_short : (text : List ℕ) → is_uri text ≡ true → is_text text ≡ true
uri_short text h =
    let utf8 = both_true (is_utf8 text) _ h in
    let len = both_true (leb (length text) 1024) _ utf8.1 in
    both_is_true (is_utf8 text) (leb (length text) 65535) utf8.0 (le-leb (length text) 65535 (omega (arith, leb-true _ _ len.0)))

pub uri_is : IsField (λ bytes. uri_at bytes) (λ uri. text_bytes uri) (λ uri. is_uri uri ≡ true)
uri_is = form_is is_uri uri_short
