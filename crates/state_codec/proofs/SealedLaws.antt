-- Bytes with their checksum behind them.
use Rattle.std.proofs.Common.{◌≡◌, ℕ, ◌+◌, ◌-◌, cond, true, List, ◌++◌, length, take, drop, Ok, Err, bytes_eq, refl, sym, ap, subst, ◌∙◌}
use Rattle.std.proofs.Common.{append_assoc, arith}
use Rattle.std.proofs.lemmas.List.{take_at, drop_at, take-append-drop, length-append}
use Rattle.std.proofs.lemmas.Slice.Eq.{bytes_eq-Decides}
use Rattle.profile.specs.declared.profile.Profile.{Profile}
use Rattle.profile.specs.declared.profile.Profile.TheVariants.{Named, Wide}
use Rattle.state_codec.specs.Checksum.{checksum_of}
use Rattle.state_codec.specs.SavedState.{IsBytes}
use Rattle.state_codec.specs.Sealed.{checksum_len, sealed, unsealed}
use Rattle.state_codec.specs.SpellingFields.{u32_bytes}
use Rattle.state_codec.proofs.FieldLaws.{IsBytes-take, ok_is, passed_ok}

-- bytes with four behind them that come of them
split_again : (sum : List ℕ → List ℕ) (bytes : List ℕ) (k : ℕ) → k ≡ length bytes
    → cond (bytes_eq (drop k (bytes ++ sum bytes)) (sum (take k (bytes ++ sum bytes)))) (Ok (take k (bytes ++ sum bytes))) (Err k)
    ≡ Ok bytes
split_again sum bytes k at =
    let front : take k (bytes ++ sum bytes) ≡ bytes = take_at bytes (sum bytes) k (sym at) in
    let back : drop k (bytes ++ sum bytes) ≡ sum bytes = drop_at bytes (sum bytes) k (sym at) in
    let same : bytes_eq (sum bytes) (sum bytes) ≡ true = (bytes_eq-Decides (sum bytes) (sum bytes)).1 refl in
    rw (front, back, same) refl

joined_again : (sum : List ℕ → List ℕ) (bytes front : List ℕ) (k : ℕ)
    → cond (bytes_eq (drop k bytes) (sum (take k bytes))) (Ok (take k bytes)) (Err k) ≡ Ok front → bytes ≡ front ++ sum front
joined_again sum bytes front k e =
    let passed = passed_ok (bytes_eq (drop k bytes) (sum (take k bytes))) k (take k bytes) front e in
    let same : drop k bytes ≡ sum (take k bytes) = (bytes_eq-Decides (drop k bytes) (sum (take k bytes))).0 passed.0 in
    sym (take-append-drop k bytes) ∙ ap (λ (t : List ℕ). take k bytes ++ t) same ∙ ap (λ (t : List ℕ). t ++ sum t) passed.1

abbrev pub sum_of : List ℕ → List ℕ
sum_of bytes = u32_bytes (checksum_of bytes)

-- what is sealed is found again
pub unseals : (profile : Profile) (bytes : List ℕ) → unsealed profile (sealed profile bytes) ≡ Ok bytes
unseals Named bytes = refl
unseals Wide bytes =
    split_again sum_of bytes (length (bytes ++ sum_of bytes) - 4) (omega (arith, length-append bytes (sum_of bytes)))

-- and nothing else is
pub seals : (profile : Profile) (bytes front : List ℕ) → unsealed profile bytes ≡ Ok front → bytes ≡ sealed profile front
seals Named bytes front e = ok_is bytes front e
seals Wide bytes front e = joined_again sum_of bytes front (length bytes - 4) e

pub front_fits : (profile : Profile) (bytes front : List ℕ) → IsBytes bytes → unsealed profile bytes ≡ Ok front → IsBytes front
front_fits Named bytes front fits e = subst IsBytes (ok_is bytes front e) fits
front_fits Wide bytes front fits e =
    let k = length bytes - 4 in
    subst IsBytes (passed_ok (bytes_eq (drop k bytes) (sum_of (take k bytes))) k (take k bytes) front e).1 (IsBytes-take k bytes fits)

pub sealed_len : (profile : Profile) (bytes : List ℕ) → length (sealed profile bytes) ≡ length bytes + checksum_len profile
sealed_len Named bytes = omega arith
sealed_len Wide bytes = omega (arith, length-append bytes (sum_of bytes))

-- the checksum of what stands from a place on, behind it
pub sealed_behind : (old : List ℕ) (start : ℕ) → old ++ sum_of (drop start old) ≡ take start old ++ sealed Wide (drop start old)
sealed_behind old start =
    ap (λ (o : List ℕ). o ++ sum_of (drop start old)) (sym (take-append-drop start old))
    ∙ append_assoc (take start old) (drop start old) (sum_of (drop start old))
