-- What a map under texts does, seen by the bytes of its keys.
use Rattle.std.proofs.Common.{◌≡◌, ℕ, Bool, true, false, List, [], ◌∷◌, cond, string_bytes, refl}
use Rattle.std.specs.declared.string.String.{String}
use Rattle.std.specs.declared.alloc.Global.{Global}
use Rattle.std.specs.declared.cmp.Ordering.{Ordering}
use Rattle.std.specs.declared.cmp.Ordering.TheVariants.{Less, Equal, Greater}
use Rattle.std.specs.Ordering.{nat_cmp, match_ordering}
use Rattle.std.specs.Cmp.Lexicographic.{slice_cmp}
use Rattle.std.specs.String.{string_cmp}
use Rattle.std.specs.Str.{bytes_eq}
use Rattle.std.specs.Map.{keys_of, lookup, remove_entry, set_value}
use Rattle.std.specs.BTreeMap.{insert_entry, is_at}
use Rattle.std.specs.List.{AllByRecursion}
use Rattle.std.specs.List.Sorted.{IsStrictlySortedBy}
use Rattle.std.proofs.lemmas.Map.Text.{is_eq-slice_cmp, text_cmp}
use Rattle.stickers.specs.ByName.{by_name, bytes_of_key}

-- a look-up by bytes
pub lookup-by_name : {X : Type 0} (q : List ℕ) (es : List (String Global × X))
    → lookup (is_at (text_cmp q)) es ≡ lookup (bytes_eq q) (by_name es)
lookup-by_name q [] = refl
lookup-by_name q (e ∷ es) = rw (is_eq-slice_cmp q (string_bytes e.0), lookup-by_name q es) refl

pub remove_entry-by_name : {X : Type 0} (q : List ℕ) (es : List (String Global × X))
    → by_name (remove_entry (is_at (text_cmp q)) es) ≡ remove_entry (bytes_eq q) (by_name es)
remove_entry-by_name q [] = refl
remove_entry-by_name q (e ∷ es) = rw (is_eq-slice_cmp q (string_bytes e.0), ← remove_entry-by_name q es)
    (by_cases (bytes_eq q (string_bytes e.0)))
  where
    by_cases : (b : Bool) → by_name (cond b es (e ∷ remove_entry (is_at (text_cmp q)) es))
        ≡ cond b (by_name es) (bytes_of_key e ∷ by_name (remove_entry (is_at (text_cmp q)) es))
    by_cases true = refl
    by_cases false = refl

pub set_value-by_name : {X : Type 0} (q : List ℕ) (es : List (String Global × X)) (w : X)
    → by_name (set_value (is_at (text_cmp q)) es w) ≡ set_value (bytes_eq q) (by_name es) w
set_value-by_name q [] w = refl
set_value-by_name q (e ∷ es) w = rw (is_eq-slice_cmp q (string_bytes e.0), ← set_value-by_name q es w)
    (by_cases (bytes_eq q (string_bytes e.0)))
  where
    by_cases : (b : Bool) → by_name (cond b ((e.0, w) ∷ es) (e ∷ set_value (is_at (text_cmp q)) es w))
        ≡ cond b ((string_bytes e.0, w) ∷ by_name es) (bytes_of_key e ∷ by_name (set_value (is_at (text_cmp q)) es w))
    by_cases true = refl
    by_cases false = refl

pub insert_entry-by_name : {X : Type 0} (es : List (String Global × X)) (k : String Global) (v : X)
    → by_name (insert_entry string_cmp es k v) ≡ insert_entry (slice_cmp nat_cmp) (by_name es) (string_bytes k) v
insert_entry-by_name [] k v = refl
insert_entry-by_name (e ∷ es) k v = rw (← insert_entry-by_name es k v) (by_cases (slice_cmp nat_cmp (string_bytes k) (string_bytes e.0)))
  where
    by_cases : (o : Ordering) → by_name (match_ordering o ((k, v) ∷ e ∷ es) ((e.0, v) ∷ es) (e ∷ insert_entry string_cmp es k v))
        ≡ match_ordering o ((string_bytes k, v) ∷ bytes_of_key e ∷ by_name es) ((string_bytes e.0, v) ∷ by_name es)
        (bytes_of_key e ∷ by_name (insert_entry string_cmp es k v))
    by_cases Less = refl
    by_cases Equal = refl
    by_cases Greater = refl

all_by_name : {X : Type 0} (k : String Global) (es : List (String Global × X)) → AllByRecursion (λ q. string_cmp k q ≡ Less) (keys_of es)
    → AllByRecursion (λ q. slice_cmp nat_cmp (string_bytes k) q ≡ Less) (keys_of (by_name es))
all_by_name k [] all = tt
all_by_name k (e ∷ es) all = (all.0, all_by_name k es all.1)

-- the order of the keys is that of their bytes
pub sorted-by_name : {X : Type 0} (es : List (String Global × X)) → IsStrictlySortedBy string_cmp (keys_of es)
    → IsStrictlySortedBy (slice_cmp nat_cmp) (keys_of (by_name es))
unfolding IsStrictlySortedBy
sorted-by_name [] sorted = tt
sorted-by_name (e ∷ es) sorted = (all_by_name e.0 es sorted.0, sorted-by_name es sorted.1)
