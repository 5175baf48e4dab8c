-- Two runs of songs, compared song by song.
use Rattle.std.proofs.Common.{◌≡◌, ◌≢◌, ℕ, ◌+◌, ◌-◌, ◌<◌, ◌≤◌, ◌⊎◌, inl, inr, Bool, false, true, ◌&&◌, List, [], ◌∷◌, ◌++◌, length, take, drop}
use Rattle.std.proofs.Common.{get_or, refl, sym, ap, ◌∙◌, arith}
use Rattle.std.specs.Str.{bytes_eq}
use Rattle.state_codec.proofs.ReplaceLaws.{same_not}
use Rattle.state_codec.specs.OpsLists.{same_uris}
use Rattle.stored_lists.specs.Songs.{Uris}
use Rattle.std.proofs.lemmas.Bool.{cases_eq}
use Rattle.std.proofs.lemmas.List.{get_or_default, length-drop, length-take-le, take-append-drop}
use Rattle.std.proofs.lemmas.Slice.Eq.{bytes_eq-Decides}

-- two runs behind others of the same lengths
same_apart : (a b c d : Uris) → length a ≡ length c → same_uris (a ++ b) (c ++ d) ≡ (same_uris a c && same_uris b d)
same_apart [] b [] d long = refl
same_apart [] b (y ∷ c) d long = let no : ⊥ = omega (arith, long) in absurd no
same_apart (x ∷ a) b [] d long = let no : ⊥ = omega (arith, long) in absurd no
same_apart (x ∷ a) b (y ∷ c) d long = of (bytes_eq x y) (same_apart a b c d (omega (arith, long)))
  where
    of : (t : Bool) → same_uris (a ++ b) (c ++ d) ≡ (same_uris a c && same_uris b d)
        → (t && same_uris (a ++ b) (c ++ d)) ≡ ((t && same_uris a c) && same_uris b d)
    of true rest = rest
    of false rest = refl

-- a run that is turned, by its two parts
pub turned_same : (songs : Uris) (at rest : ℕ) → at ≤ length songs → rest ≡ length songs - at
    → same_uris (drop at songs ++ take at songs) songs
    ≡ (same_uris (drop at songs) (take rest songs) && same_uris (take at songs) (drop rest songs))
turned_same songs at rest within is =
    ap (same_uris (drop at songs ++ take at songs)) (sym (take-append-drop rest songs))
    ∙ same_apart (drop at songs) (take at songs) (take rest songs) (drop rest songs)
    (omega (arith, length-drop at songs, length-take-le rest songs (omega (arith, within, is)), within, is))

-- other songs at one place
pub differ_there : (one other : Uris) (at : ℕ) (x y : List ℕ) → at < length one → at < length other → x ≡ get_or one at x → y ≡ get_or other at y
    → bytes_eq x y ≡ false → same_uris one other ≡ false
differ_there one other at x y in_one in_other x_is y_is apart = same_not one other differ
  where
    differ : one ≢ other
    differ same =
        let first : get_or one at [] ≡ x = get_or_default one at [] x in_one ∙ sym x_is in
        let second : get_or other at [] ≡ y = get_or_default other at [] y in_other ∙ sym y_is in
        let equal : x ≡ y = sym first ∙ ap (λ (l : Uris). get_or l at []) same ∙ second in
        let yes : bytes_eq x y ≡ true = (bytes_eq-Decides x y).1 equal in
        cc

-- the same song at one place more
pub same_there : (one other : Uris) (at : ℕ) (x y : List ℕ) → at < length one → at < length other → x ≡ get_or one at x → y ≡ get_or other at y
    → bytes_eq x y ≡ true → ((k : ℕ) → k < at → get_or one k [] ≡ get_or other k []) → (k : ℕ) → k < at + 1
    → get_or one k [] ≡ get_or other k []
same_there one other at x y in_one in_other x_is y_is same before k within = of (cases_eq k at)
  where
    of : (k ≡ at) ⊎ (k ≢ at) → get_or one k [] ≡ get_or other k []
    of (inl here) =
        let first : get_or one at [] ≡ x = get_or_default one at [] x in_one ∙ sym x_is in
        let second : get_or other at [] ≡ y = get_or_default other at [] y in_other ∙ sym y_is in
        rw here (first ∙ (bytes_eq-Decides x y).0 same ∙ sym second)
    of (inr apart) = before k (omega (arith, apart))
