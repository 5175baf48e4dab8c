-- What a connection to a decoder keeps over a call, whether it fails or not.
use Rattle.std.specs.Prelude.{◌≡◌, ℕ, List, Option}

pub record KeepsLink {L : Type 0} (honest : L → Type 0) (told : L → List ℕ → Option (List ℕ)) (opened : L → Option (List ℕ))
    (old new : L) : Type 0 where
  pub is_honest : honest new
  pub same_files : told new ≡ told old
  pub same_path : opened new ≡ opened old
