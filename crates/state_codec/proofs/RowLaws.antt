-- URIs, rows and changes that are read are spelled so, and what is spelled so is read.
use Rattle.std.proofs.Common.{◌≡◌, ℕ, ◌^◌, ◌<◌, ◌≤◌, true, leb, List, ◌++◌, Ok, Some, None, refl}
use Rattle.std.proofs.Common.{ap, subst, ◌∙◌, append_assoc, arith}
use Rattle.std.specs.Prelude.{Option, is_none}
use Rattle.std.specs.Int.{is_in_range}
use Rattle.std.specs.List.{list_all}
use Rattle.std.proofs.lemmas.Bool.{leb-true, le-leb}
use Rattle.wave_pcm.specs.Limits.{MAX_RATE}
use Rattle.profile.specs.declared.profile.Profile.{Profile}
use Rattle.profile.specs.declared.profile.Profile.TheVariants.{Named, Wide}
use Rattle.song_db.specs.Row.{Row, is_good_tag, is_plain, is_within_limits, is_kept_by}
use Rattle.song_db.specs.Uri.{is_uri}
use Rattle.state_codec.specs.Changes.{IsSavedRow}
use Rattle.state_codec.specs.Fields.{Field, byte_at, u64_at}
use Rattle.state_codec.specs.ReadingRows.{uri_at, RowFields, row_with, rate_at, channels_at, row_fields_at, row_at}
use Rattle.state_codec.specs.SavedState.{IsBytes}
use Rattle.state_codec.specs.SpellingFields.{byte_bytes, u32_bytes, u64_bytes, text_bytes}
use Rattle.state_codec.specs.SpellingRows.{row_bytes}
use Rattle.state_codec.proofs.FieldLaws.{bind_ok, ok_is, both_true, Takes, Takes-then, IsField, both_is, such_is, fits_is}
use Rattle.state_codec.proofs.FieldLaws.{byte_is, u64_is, within_is}
use Rattle.state_codec.proofs.TextLaws.{both_is_true, uri_is}
use Rattle.state_codec.proofs.ToldLaws.{IsTold, told_text, told_is, told_good}

channels_is : IsField (λ bytes. channels_at bytes) (λ n. byte_bytes n) (λ n. (1 ≤ n) × (n ≤ 2))
channels_is =
    fits_is (λ bytes. channels_at bytes) (λ n. byte_bytes n) (λ n. (n < 256) × (is_in_range 1 2 n ≡ true)) (λ n. (1 ≤ n) × (n ≤ 2))
    (such_is (is_in_range 1 2) (λ bytes. byte_at bytes) (λ n. byte_bytes n) (λ n. n < 256) byte_is)
    (λ n h. let r = both_true (leb 1 n) (leb n 2) h.1 in (leb-true _ _ r.0, leb-true _ _ r.1))
    (λ n h. (omega (arith, h), rw (le-leb 1 n h.0, le-leb n 2 h.1) refl))

abbrev pub fields_text : Profile → RowFields → List ℕ
fields_text profile x =
    u32_bytes x.0 ++ (byte_bytes x.1.0 ++ (u64_bytes x.1.1.0 ++ (u64_bytes x.1.1.1.0 ++ told_text profile x.1.1.1.1)))

abbrev pub AreFields : Profile → RowFields → Type 0
AreFields profile x = ((1 ≤ x.0) × (x.0 ≤ MAX_RATE))
    × (((1 ≤ x.1.0) × (x.1.0 ≤ 2)) × ((x.1.1.0 < 2 ^ 64) × ((x.1.1.1.0 < 2 ^ 64) × IsTold profile x.1.1.1.1)))

pub fields_is : (profile : Profile) → IsField (λ bytes. row_fields_at profile bytes) (fields_text profile) (AreFields profile)
fields_is profile =
    both_is (λ bytes. rate_at bytes) _ _ _ _ _ (within_is 1 MAX_RATE (omega arith))
    (both_is (λ bytes. channels_at bytes) _ _ _ _ _ channels_is
    (both_is (λ bytes. u64_at bytes) _ _ _ _ _ u64_is
    (both_is (λ bytes. u64_at bytes) _ _ _ _ _ u64_is (told_is profile))))

-- a row of the program that the profile keeps
abbrev pub IsKeptRow : Profile → Row → Type 0
IsKeptRow profile row = IsSavedRow row × (is_kept_by profile row ≡ true)

told_kept : (profile : Profile) (uri : List ℕ) (x : RowFields) → IsTold profile x.1.1.1.1 → is_kept_by profile (row_with uri x) ≡ true
told_kept Named uri x fits = both_is_true (is_plain x.1.1.1.1.1) (is_none x.1.1.1.1.0) fits.1.1 (ap is_none fits.0)
told_kept Wide uri x fits = fits.1.1

-- a row of these fields is one of the program's that the profile keeps, and the other way round
pub row_fits : (profile : Profile) (uri : List ℕ) (x : RowFields) → is_uri uri ≡ true → AreFields profile x
    → IsKeptRow profile (row_with uri x)
row_fits profile uri x form fits =
    let told = told_good profile x.1.1.1.1 fits.1.1.1.1 in (
      record {
        form = both_is_true (is_uri uri) _ form
            (both_is_true (leb 1 x.0) _ (le-leb 1 x.0 fits.0.0) (both_is_true (leb x.0 MAX_RATE) _ (le-leb x.0 MAX_RATE fits.0.1)
            (both_is_true (leb 1 x.1.0) _ (le-leb 1 x.1.0 fits.1.0.0)
            (both_is_true (leb x.1.0 2) (list_all is_good_tag x.1.1.1.1.1) (le-leb x.1.0 2 fits.1.0.1) told.texts))));
        first_byte = fits.1.1.0;
        frames = fits.1.1.1.0;
        tags = told.tags;
        stamp = told.stamp;
      },
      told_kept profile uri x fits.1.1.1.1,
    )

abbrev pub fields_of : Row → RowFields
fields_of row = (row.rate, (row.channels, (row.first_byte, (row.frames, (row.stamp, row.tags)))))

none_is : {A : Type 0} (o : Option A) → is_none o ≡ true → o ≡ None
none_is None none = refl
none_is (Some x) none = absurd cc

told_of : (profile : Profile) (row : Row) → IsSavedRow row → list_all is_good_tag row.tags ≡ true → is_kept_by profile row ≡ true
    → IsTold profile (row.stamp, row.tags)
told_of Named row good texts kept =
    let plain = both_true (is_plain row.tags) (is_none row.stamp) kept in (none_is row.stamp plain.1, (texts, plain.0))
told_of Wide row good texts kept = (good.stamp, (good.tags, kept))

pub fields_fit : (profile : Profile) (row : Row) → IsKeptRow profile row → AreFields profile (fields_of row) × (is_uri row.uri ≡ true)
fields_fit profile row good =
    let form = both_true (is_uri row.uri) (is_within_limits row) good.0.form in
    let a = both_true (leb 1 row.rate) _ form.1 in
    let b = both_true (leb row.rate MAX_RATE) _ a.1 in
    let c = both_true (leb 1 row.channels) _ b.1 in
    let d = both_true (leb row.channels 2) (list_all is_good_tag row.tags) c.1 in (
      (
        (leb-true _ _ a.0, leb-true _ _ b.0),
        (
          (leb-true _ _ c.0, leb-true _ _ d.0),
          (good.0.first_byte, (good.0.frames, told_of profile row good.0 d.1 good.1)),
        ),
      ),
      form.0,
    )

-- its URI has the form of one
pub uri_form : (row : Row) → IsSavedRow row → is_uri row.uri ≡ true
uri_form row good = (both_true (is_uri row.uri) (is_within_limits row) good.form).0

-- a row whose URI is read so
pub row_takes : (profile : Profile) (uri : List ℕ → Field (List ℕ)) (IsName : List ℕ → Type 0) → IsField uri (λ name. text_bytes name) IsName
    → ((name : List ℕ) → IsName name → is_uri name ≡ true)
    → (bytes : List ℕ) (x : Row × List ℕ) → IsBytes bytes → row_at profile uri bytes ≡ Ok x
    → Takes bytes (row_bytes profile x.0) x.1 × (IsKeptRow profile x.0 × IsName x.0.uri)
unfolding row_at
row_takes profile uri IsName field form bytes x fits e =
    let name = bind_ok (uri bytes) _ x e in
    let rest = bind_ok (row_fields_at profile name.0.1) _ x name.2 in
    let t = field.takes bytes name.0 fits name.1 in
    let u = (fields_is profile).takes name.0.1 rest.0 t.0.rest_fits rest.1 in
    subst (λ y. Takes bytes (row_bytes profile y.0) y.1 × (IsKeptRow profile y.0 × IsName y.0.uri))
    (ok_is (row_with name.0.0 rest.0.0, rest.0.1) x rest.2) (
      Takes-then bytes (text_bytes name.0.0) name.0.1 (fields_text profile rest.0.0) rest.0.1 t.0 u.0,
      (row_fits profile name.0.0 rest.0.0 (form name.0.0 t.1) u.1, t.1),
    )

pub row_again : (profile : Profile) (uri : List ℕ → Field (List ℕ)) (IsName : List ℕ → Type 0) → IsField uri (λ name. text_bytes name) IsName
    → (row : Row) (rest : List ℕ) → IsKeptRow profile row → IsName row.uri
    → row_at profile uri (row_bytes profile row ++ rest) ≡ Ok (row, rest)
unfolding row_at
row_again profile uri IsName field row rest good named =
    let whole : row_bytes profile row ++ rest ≡ text_bytes row.uri ++ (fields_text profile (fields_of row) ++ rest) =
    append_assoc (text_bytes row.uri) (fields_text profile (fields_of row)) rest in
    ap (row_at profile uri) whole ∙ rw (
      field.again row.uri (fields_text profile (fields_of row) ++ rest) named,
      (fields_is profile).again (fields_of row) rest (fields_fit profile row good).0,
    ) refl

pub row_is : (profile : Profile) → IsField (λ bytes. row_at profile uri_at bytes) (row_bytes profile) (IsKeptRow profile)
row_is profile = record {
  takes = λ bytes x fits e. let t = row_takes profile (λ b. uri_at b) (λ uri. is_uri uri ≡ true) uri_is (λ name h. h) bytes x fits e in (
    t.0,
    t.1.0,
  );
  again = λ row rest good. row_again profile (λ b. uri_at b) (λ uri. is_uri uri ≡ true) uri_is row rest good (uri_form row good.0);
}
