-- A playlist behind all others.
use Rattle.std.proofs.Common.{◌≡◌, ℕ, zero, suc, Bool, true, false, ◌&&◌, List, [], ◌∷◌, ◌++◌, Some, None, slice_get, string_bytes, refl}
use Rattle.std.proofs.Common.{sym, ap, ◌∙◌}
use Rattle.std.specs.declared.string.String.{String}
use Rattle.std.specs.declared.alloc.Global.{Global}
use Rattle.std.specs.declared.cmp.Ordering.{Ordering}
use Rattle.std.specs.declared.cmp.Ordering.TheVariants.{Less, Equal, Greater}
use Rattle.std.specs.Ordering.{nat_cmp, ordering_reverse, is_eq, is_lt}
use Rattle.std.specs.Cmp.Lexicographic.{slice_cmp, nat_list_cmp_total}
use Rattle.std.specs.List.{All, AllByRecursion, list_all}
use Rattle.std.specs.List.Sorted.{IsStrictlySortedBy}
use Rattle.std.specs.Map.{keys_of}
use Rattle.std.specs.String.{string_cmp}
use Rattle.std.specs.Str.{bytes_eq}
use Rattle.std.proofs.lemmas.List.Elements.{All-head, All-tail}
use Rattle.std.proofs.lemmas.Map.Text.{is_eq-slice_cmp}
use Rattle.stored_lists.specs.ByName.{by_name}
use Rattle.stored_lists.specs.Lists.{Stored, IsRising, songs_of, with_list}
use Rattle.stored_lists.specs.Part.{is_last}
use Rattle.stored_lists.specs.Songs.{Uris}

both : (a b : Bool) → (a && b) ≡ true → (a ≡ true) × (b ≡ true)
both true b h = (refl, h)
both false b h = absurd (cc)

less : (o : Ordering) → is_lt o ≡ true → o ≡ Less
less Less is = refl
less Equal is = absurd (cc)
less Greater is = absurd (cc)

turned : (a b : List ℕ) → slice_cmp nat_cmp a b ≡ Less → slice_cmp nat_cmp b a ≡ Greater
turned a b is = nat_list_cmp_total.antisymm b a ∙ ap ordering_reverse is

-- no playlist has a name that is behind all
pub last_free : (lists : Stored) (name : List ℕ) → is_last lists name ≡ true → songs_of lists name ≡ None
last_free [] name last = refl
last_free (list ∷ lists) name last =
    let parts = both (is_lt (slice_cmp nat_cmp list.0 name)) (is_last lists name) last in
    let apart : bytes_eq name list.0 ≡ false = sym (is_eq-slice_cmp name list.0) ∙ ap is_eq (turned list.0 name (less _ parts.0)) in
    rw apart (last_free lists name parts.1)

-- and it goes to the end
pub last_added : (lists : Stored) (name : List ℕ) (songs : Uris) → is_last lists name ≡ true
    → with_list lists name songs ≡ lists ++ (name, songs) ∷ []
last_added [] name songs last = refl
last_added (list ∷ lists) name songs last =
    let parts = both (is_lt (slice_cmp nat_cmp list.0 name)) (is_last lists name) last in
    let behind : slice_cmp nat_cmp name list.0 ≡ Greater = turned list.0 name (less _ parts.0) in
    rw behind (ap (λ l. list ∷ l) (last_added lists name songs parts.1))

-- a text that isn't below another goes before what that one goes before
not_less : (last q name : List ℕ) → is_lt (slice_cmp nat_cmp last q) ≡ false → slice_cmp nat_cmp last name ≡ Less
    → is_lt (slice_cmp nat_cmp q name) ≡ true
not_less last q name apart below = of (slice_cmp nat_cmp last q) refl apart
  where
    of : (o : Ordering) → slice_cmp nat_cmp last q ≡ o → is_lt o ≡ false → is_lt (slice_cmp nat_cmp q name) ≡ true
    of Less is apart = absurd (cc)
    of Equal is apart = rw (sym (nat_list_cmp_total.congr last q name is) ∙ below) refl
    of Greater is apart =
        let first : slice_cmp nat_cmp q last ≡ Less = nat_list_cmp_total.antisymm q last ∙ ap ordering_reverse is in
        rw (nat_list_cmp_total.trans q last name first below) refl

all_below : {X : Type 0} (es : List (String Global × X)) (last : String Global) (name : List ℕ)
    → All (λ q. is_lt (string_cmp last q) ≡ false) (keys_of es) → slice_cmp nat_cmp (string_bytes last) name ≡ Less
    → list_all (λ e. is_lt (slice_cmp nat_cmp e.0 name)) (by_name es) ≡ true
all_below [] last name all below = refl
all_below (e ∷ es) last name all below =
    let head = All-head (λ q. is_lt (string_cmp last q) ≡ false) e.0 (keys_of es) all in
    let tail = All-tail (λ q. is_lt (string_cmp last q) ≡ false) e.0 (keys_of es) all in
    rw (not_less (string_bytes last) (string_bytes e.0) name head below, all_below es last name tail below) refl

one_above : {X : Type 0} (es : List (String Global × X)) (k : ℕ) (x : String Global × X) (name : List ℕ) → slice_get es k ≡ Some x
    → is_lt (slice_cmp nat_cmp (string_bytes x.0) name) ≡ false → list_all (λ e. is_lt (slice_cmp nat_cmp e.0 name)) (by_name es) ≡ false
one_above [] k x name found apart = absurd (cc)
one_above (e ∷ es) zero x name found apart = let same : e ≡ x = cc in rw (same, apart) refl
one_above (e ∷ es) (suc k) x name found apart =
    rw (one_above es k x name found apart) (and_false (is_lt (slice_cmp nat_cmp (string_bytes e.0) name)))
  where
    and_false : (b : Bool) → (b && false) ≡ false
    and_false true = refl
    and_false false = refl

-- the last name tells of all
pub last_tells : {X : Type 0} (es : List (String Global × X)) (k : ℕ) (x : String Global × X) (name : List ℕ) → slice_get es k ≡ Some x
    → All (λ q. is_lt (string_cmp x.0 q) ≡ false) (keys_of es)
    → is_lt (slice_cmp nat_cmp (string_bytes x.0) name) ≡ list_all (λ e. is_lt (slice_cmp nat_cmp e.0 name)) (by_name es)
last_tells es k x name found all = of (slice_cmp nat_cmp (string_bytes x.0) name) refl
  where
    of : (o : Ordering) → slice_cmp nat_cmp (string_bytes x.0) name ≡ o
        → is_lt o ≡ list_all (λ e. is_lt (slice_cmp nat_cmp e.0 name)) (by_name es)
    of Less is = sym (all_below es x.0 name all is)
    of Equal is = sym (one_above es k x name found (ap is_lt is))
    of Greater is = sym (one_above es k x name found (ap is_lt is))

first_below : (q name : List ℕ) (songs : Uris) (front back : Stored)
    → AllByRecursion (λ k. slice_cmp nat_cmp q k ≡ Less) (keys_of (front ++ (name, songs) ∷ back)) → slice_cmp nat_cmp q name ≡ Less
first_below q name songs [] back all = all.0
first_below q name songs (list ∷ front) back all = first_below q name songs front back all.1

-- where names rise, each goes behind those in front of it
pub rising_last : (front back : Stored) (name : List ℕ) (songs : Uris) → IsRising (front ++ (name, songs) ∷ back)
    → is_last front name ≡ true
unfolding IsStrictlySortedBy
rising_last [] back name songs rising = refl
rising_last (list ∷ front) back name songs rising =
    rw (first_below list.0 name songs front back rising.0, rising_last front back name songs rising.1) refl
