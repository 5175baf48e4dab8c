-- Items one after the other, behind their number.
use Rattle.std.specs.Prelude.{ℕ, zero, suc, List, [], ◌∷◌, ◌++◌, Ok}
use Rattle.state_codec.specs.Steps.{◌>>=◌}
use Rattle.state_codec.specs.Fields.{Field, u32_at}

-- so many items behind those that are known, each read in sight of the ones before it
unfoldable pub items_at : {A : Type 0} → (List A → List ℕ → Field A) → ℕ → List A → List ℕ → Field (List A)
items_at item zero known bytes = Ok (known, bytes)
items_at item (suc n) known bytes = do
  next ← item known bytes
  items_at item n (known ++ next.0 ∷ []) next.1

-- their number, and so many items
unfoldable pub counted_at : {A : Type 0} → (List ℕ → Field ℕ) → (List A → List ℕ → Field A) → List ℕ → Field (List A)
counted_at number item bytes = do
  n ← number bytes
  items_at item n.0 [] n.1

-- a number of 32 bits, and so many items, each read alone
abbrev pub list_at : {A : Type 0} → (List ℕ → Field A) → List ℕ → Field (List A)
list_at item bytes = counted_at u32_at (λ known. item) bytes
