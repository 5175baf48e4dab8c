-- A sticker behind all others.
use Rattle.std.proofs.Common.{◌≡◌, ℕ, Bool, true, false, ◌&&◌, List, [], ◌∷◌, ◌++◌, None, refl, sym, ap, ◌∙◌}
use Rattle.std.specs.declared.cmp.Ordering.{Ordering}
use Rattle.std.specs.declared.cmp.Ordering.TheVariants.{Less, Equal, Greater}
use Rattle.std.specs.Cmp.Lexicographic.{slice_cmp, nat_list_cmp_total}
use Rattle.std.specs.List.{list_all}
use Rattle.std.specs.Ordering.{nat_cmp, ordering_reverse, ordering_then, is_eq, is_lt}
use Rattle.std.specs.Str.{bytes_eq}
use Rattle.std.proofs.lemmas.Map.Text.{is_eq-slice_cmp}
use Rattle.stickers.specs.Part.{is_last}
use Rattle.stickers.specs.Sticker.{Sticker, sticker, compare, is_at, value_at, stickers_of, with_sticker}
use Rattle.stickers.proofs.Counted.{stickers_total, is_at-compare}

both : (a b : Bool) → (a && b) ≡ true → (a ≡ true) × (b ≡ true)
both true b h = (refl, h)
both false b h = absurd (cc)

less : (o : Ordering) → is_lt o ≡ true → o ≡ Less
less Less is = refl
less Equal is = absurd (cc)
less Greater is = absurd (cc)

-- it goes to the end
pub last_placed : (all : List Sticker) (uri name value : List ℕ) → is_last all uri name ≡ true
    → with_sticker all uri name value ≡ all ++ sticker uri (name, value) ∷ []
last_placed [] uri name value last = refl
last_placed (t ∷ ts) uri name value last =
    let parts = both (is_lt (compare t (sticker uri (name, [])))) (is_last ts uri name) last in
    let before : compare t (sticker uri (name, value)) ≡ Less = less _ parts.0 in
    let behind : compare (sticker uri (name, value)) t ≡ Greater = stickers_total.antisymm (sticker uri (name, value)) t
    ∙ ap ordering_reverse before in
    rw behind (ap (λ l. t ∷ l) (last_placed ts uri name value parts.1))

-- it is not there yet
pub last_absent : (all : List Sticker) (uri name : List ℕ) → is_last all uri name ≡ true → value_at all uri name ≡ None
last_absent [] uri name last = refl
last_absent (t ∷ ts) uri name last =
    let parts = both (is_lt (compare t (sticker uri (name, [])))) (is_last ts uri name) last in
    let behind : compare (sticker uri (name, [])) t ≡ Greater = stickers_total.antisymm (sticker uri (name, [])) t
    ∙ ap ordering_reverse (less _ parts.0) in
    let apart : is_at uri name t ≡ false = is_at-compare (sticker uri (name, [])) t ∙ ap is_eq behind in
    rw apart (last_absent ts uri name parts.1)

-- a sticker before the least of a song's names is of a song before it
below_song : (t : Sticker) (uri : List ℕ) → is_lt (compare t (sticker uri ([], []))) ≡ true → slice_cmp nat_cmp t.uri uri ≡ Less
below_song t uri below = by_cases (slice_cmp nat_cmp t.uri uri) refl below
  where
    none_less : (name : List ℕ) → is_lt (slice_cmp nat_cmp name []) ≡ false
    none_less [] = refl
    none_less (x ∷ xs) = refl

    by_cases : (o : Ordering) → slice_cmp nat_cmp t.uri uri ≡ o → is_lt (ordering_then o (slice_cmp nat_cmp t.name [])) ≡ true
        → slice_cmp nat_cmp t.uri uri ≡ Less
    by_cases Less is below = is
    by_cases Equal is below = let not_below = none_less t.name in absurd (cc)
    by_cases Greater is below = absurd (cc)

-- a song whose least name stands behind all has no sticker yet
pub last_song : (all : List Sticker) (uri : List ℕ) → is_last all uri [] ≡ true → stickers_of all uri ≡ []
last_song [] uri last = refl
last_song (t ∷ ts) uri last =
    let parts = both (is_lt (compare t (sticker uri ([], [])))) (is_last ts uri []) last in
    let behind : slice_cmp nat_cmp uri t.uri ≡ Greater = nat_list_cmp_total.antisymm uri t.uri
    ∙ ap ordering_reverse (below_song t uri parts.0) in
    let apart : bytes_eq uri t.uri ≡ false = sym (is_eq-slice_cmp uri t.uri) ∙ ap is_eq behind in
    rw apart (last_song ts uri parts.1)

-- what stands behind it stands behind all
all_before : (all : List Sticker) (uri name later more : List ℕ) → is_last all uri name ≡ true
    → compare (sticker uri (name, [])) (sticker later (more, [])) ≡ Less → is_last all later more ≡ true
all_before [] uri name later more last below = refl
all_before (t ∷ ts) uri name later more last below =
    let parts = both (is_lt (compare t (sticker uri (name, [])))) (is_last ts uri name) last in
    let first : compare t (sticker later (more, [])) ≡ Less =
    stickers_total.trans t (sticker uri (name, [])) (sticker later (more, [])) (less _ parts.0) below in
    rw (first, all_before ts uri name later more parts.1 below) refl

all_pushed : (test : Sticker → Bool) (all : List Sticker) (s : Sticker) → list_all test (all ++ s ∷ []) ≡ (list_all test all && test s)
all_pushed test [] s = and_true (test s)
  where
    and_true : (b : Bool) → (b && true) ≡ (true && b)
    and_true true = refl
    and_true false = refl
all_pushed test (t ∷ ts) s = ap (λ b. test t && b) (all_pushed test ts s) ∙ and_assoc (test t) (list_all test ts) (test s)
  where
    and_assoc : (a b c : Bool) → (a && (b && c)) ≡ ((a && b) && c)
    and_assoc true b c = refl
    and_assoc false b c = refl

-- it is the last one then
pub last_tells : (all : List Sticker) (uri name value later more : List ℕ) → is_last all uri name ≡ true
    → is_last (all ++ sticker uri (name, value) ∷ []) later more ≡ is_lt (compare (sticker uri (name, [])) (sticker later (more, [])))
last_tells all uri name value later more last =
    all_pushed (λ s. is_lt (compare s (sticker later (more, [])))) all (sticker uri (name, value))
    ∙ of (compare (sticker uri (name, [])) (sticker later (more, []))) refl
  where
    and_false : (b : Bool) → (b && false) ≡ false
    and_false true = refl
    and_false false = refl

    of : (o : Ordering) → compare (sticker uri (name, [])) (sticker later (more, [])) ≡ o → (is_last all later more && is_lt o) ≡ is_lt o
    of Less is = rw (all_before all uri name later more last is) refl
    of Equal is = and_false (is_last all later more)
    of Greater is = and_false (is_last all later more)
