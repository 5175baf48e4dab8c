-- Going over the songs of a playlist, and how many they are.
use Rattle.std.proofs.Common.{◌≡◌, ℕ, suc, ◌+◌, ◌<◌, ◌≤◌, Bool, true, false, cond, List, [], ◌∷◌, length, drop, get_or, Some}
use Rattle.std.proofs.Common.{add-one, ap, sym, arith}
use Rattle.std.proofs.Math.ListN.{drop_of_length-le}
use Rattle.std.proofs.Math.Seq.{drop-cons}
use Rattle.std.proofs.lemmas.List.Sums.{sum_by-cons}
use Rattle.std.specs.Map.{lookup}
use Rattle.std.specs.Str.{bytes_eq}
use Rattle.stored_lists.specs.Lists.{Stored, songs_of, total}
use Rattle.stored_lists.specs.Songs.{Uris}

-- the songs that are left behind the one at an index
pub next_song : (songs : Uris) (i : ℕ) (uri : List ℕ) → i < length songs → uri ≡ get_or songs i uri
    → drop i songs ≡ uri ∷ drop (i + 1) songs
next_song songs i uri h is = rw (add-one, drop-cons songs i uri) (ap (λ y. y ∷ drop (suc i) songs) (sym is))

pub none_left : (songs : Uris) (i : ℕ) → length songs ≤ i → drop i songs ≡ []
none_left songs i h = drop_of_length-le songs h

-- a playlist has no more songs than all have together
pub no_more : (lists : Stored) (name : List ℕ) (songs : Uris) → songs_of lists name ≡ Some songs → length songs ≤ total lists
no_more [] name songs found = absurd (cc)
no_more (list ∷ lists) name songs found = of (bytes_eq name list.0) found (no_more lists name songs) where
  of : (b : Bool) → cond b (Some list.1) (lookup (bytes_eq name) lists) ≡ Some songs
      → (songs_of lists name ≡ Some songs → length songs ≤ total lists) → length songs ≤ total (list ∷ lists)
  of true found rest =
      let same : list.1 ≡ songs = cc in
      omega (arith, sum_by-cons (λ (l : List ℕ × Uris). length l.1) list lists, ap length same)
  of false found rest = omega (arith, sum_by-cons (λ (l : List ℕ × Uris). length l.1) list lists, rest found)
