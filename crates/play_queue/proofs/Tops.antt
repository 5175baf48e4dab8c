-- Priorities that no song passes.
use Rattle.std.proofs.Common.{◌≡◌, ℕ, zero, suc, ◌<◌, ◌≤◌, Bool, true, false, cond, nat_eq, List, [], ◌∷◌, length, get_or, Option, Some, None}
use Rattle.std.proofs.Common.{IfSome, refl, arith}
use Rattle.std.specs.List.{All}
use Rattle.std.proofs.lemmas.List.{length-map, get_or-map}
use Rattle.play_queue.specs.declared.entry.Entry.{Entry}
use Rattle.play_queue.specs.declared.song.Song.{Song}
use Rattle.play_queue.specs.Shuffle.{with_stamps}
use Rattle.play_queue.specs.Songs.{Songs, HaveNoMore, song_of, unstamped_entry, entry_of, in_order}
use Rattle.play_queue.proofs.InOrder.{With, Without}

abbrev pub AreAtMost : ℕ → List Entry → Type 0
AreAtMost top entries = All (λ (entry : Entry). entry.priority ≤ top) entries

-- a song comes, or gets another priority
pub tops-with : (songs others : Songs) (top next id : ℕ) (song : Song) → HaveNoMore top songs → top ≤ next → song.priority ≤ next
    → With songs others id song → HaveNoMore next others
tops-with songs others top next id song all more fits updates other = rw (updates other) (of (nat_eq id other))
  where
    up : (r : Option Song) → IfSome r (λ s. s.priority ≤ top) → IfSome r (λ s. s.priority ≤ next)
    up None is = tt
    up (Some s) is = omega (arith, is, more)

    of : (b : Bool) → IfSome (cond b (Some song) (song_of songs other)) (λ s. s.priority ≤ next)
    of true = fits
    of false = up (song_of songs other) (all other)

-- a song goes
pub tops-without : (songs others : Songs) (top id : ℕ) → HaveNoMore top songs → Without songs others id → HaveNoMore top others
tops-without songs others top id all left other = rw (left other) (of (nat_eq id other))
  where
    of : (b : Bool) → IfSome (cond b None (song_of songs other)) (λ s. s.priority ≤ top)
    of true = tt
    of false = all other

pub tops-in_order : (songs : Songs) (top : ℕ) (ids : List ℕ) → HaveNoMore top songs → AreAtMost top (in_order songs ids)
tops-in_order songs top ids all k d within =
    let long : length (in_order songs ids) ≡ length ids = length-map ids (entry_of songs) in
    let here : get_or (in_order songs ids) k d ≡ entry_of songs (get_or ids k 0) = get_or-map (entry_of songs) ids k 0 d (omega arith) in
    rw here (of (get_or ids k 0) (song_of songs (get_or ids k 0)) (all (get_or ids k 0)))
  where
    of : (id : ℕ) (r : Option Song) → IfSome r (λ s. s.priority ≤ top) → (unstamped_entry id r).priority ≤ top
    of id None is = omega arith
    of id (Some song) is = is

pub tops-with_stamps : (top : ℕ) (stamps : List ℕ) (entries : List Entry) → AreAtMost top entries → AreAtMost top (with_stamps stamps entries)
tops-with_stamps top [] entries all = all
tops-with_stamps top (stamp ∷ stamps) [] all = all
tops-with_stamps top (stamp ∷ stamps) (entry ∷ entries) all =
    of (tops-with_stamps top stamps entries (λ i e inside. all (suc i) e (omega (arith, inside))))
  where
    of : AreAtMost top (with_stamps stamps entries) → AreAtMost top (with_stamps (stamp ∷ stamps) (entry ∷ entries))
    of rest zero d within = all zero d (omega arith)
    of rest (suc k) d within = rest k d (omega (arith, within))
