-- Songs under a name that is there, and under one that isn't.
use Rattle.std.proofs.Common.{◌≡◌, ℕ, Bool, true, false, cond, List, [], ◌∷◌, Some, None, Result, Ok, Err, OnOk, OnErr, refl, ap}
use Rattle.std.proofs.lemmas.Map.Steps.{set_value_same}
use Rattle.std.specs.Map.{lookup, set_value}
use Rattle.stored_lists.specs.Songs.{Uris}
use Rattle.stored_lists.specs.Lists.{Stored, songs_of, songs_or_none, with_songs}

set_value_none : {K X : Type 0} (test : K → Bool) (es : List (K × X)) (w : X) → lookup test es ≡ None → set_value test es w ≡ es
set_value_none test [] w none = refl
set_value_none {K} {X} test (e ∷ es) w none = by_cases (test e.0) none (set_value_none test es w)
  where
    by_cases : (b : Bool) → cond b (Some e.1) (lookup test es) ≡ None → (lookup test es ≡ None → set_value test es w ≡ es)
        → cond b ((e.0, w) ∷ es) (e ∷ set_value test es w) ≡ e ∷ es
    by_cases true none rest = absurd (cc)
    by_cases false none rest = ap (λ l. e ∷ l) (rest none)

-- where there is no such playlist, none is changed
pub with_songs_absent : (lists : Stored) (name : List ℕ) (songs : Uris) → songs_of lists name ≡ None → with_songs lists name songs ≡ lists
with_songs_absent lists name songs none = set_value_none _ lists songs none

-- the songs of a playlist that is there
pub songs_or_none_present : (lists : Stored) (name : List ℕ) (songs : Uris) → songs_of lists name ≡ Some songs
    → songs_or_none lists name ≡ songs
songs_or_none_present lists name songs found = rw found refl

-- the same songs change nothing
pub with_songs_same : (lists : Stored) (name : List ℕ) (songs : Uris) → songs_of lists name ≡ Some songs
    → with_songs lists name songs ≡ lists
with_songs_same lists name songs found = set_value_same _ lists songs found

pub on_ok : {T E P : Type 0} (r : Result T E) → P → OnOk r P
on_ok (Ok x) p = p
on_ok (Err e) p = tt

pub on_err : {T E P : Type 0} (r : Result T E) → P → OnErr r P
on_err (Ok x) p = tt
on_err (Err e) p = p
