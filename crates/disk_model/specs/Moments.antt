-- What a crash at one of many moments might have left. The moment at which the history had length t is the moment t.
use Rattle.std.specs.Prelude.{◌≡◌, ◌⊎◌, ℕ, ◌≤◌, List, [], ◌∷◌, ◌++◌, length}
use Rattle.disk_model.specs.History.{Change}
use Rattle.disk_model.specs.Images.{window, IsImage}

-- A crash at some moment from t on might have left this: in a call too, since an image inside a call is one before it
-- or one after it counts as made.
abbrev pub LeftSince : List Change → ℕ → List ℕ → Type 0
LeftSince [] t image = IsImage (window []) image
LeftSince (change ∷ earlier) t image =
    IsImage (window (change ∷ earlier)) image ⊎ ((t ≤ length earlier) × LeftSince earlier t image)

-- whatever a crash at a moment from t on left has P
abbrev pub AllSince : (List ℕ → Type 0) → List Change → ℕ → Type 0
AllSince P history t = (image : List ℕ) → LeftSince history t image → P image

-- whatever a crash now leaves has P
abbrev pub AllNow : (List ℕ → Type 0) → List Change → Type 0
AllNow P history = (image : List ℕ) → IsImage (window history) image → P image

-- the new history is the old one with more in front
abbrev pub Continues : List Change → List Change → Type 0
Continues old new = (made : List Change) × (new ≡ made ++ old)
