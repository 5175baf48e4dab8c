-- The file that was opened.
use Rattle.std.proofs.Common.{◌≡◌, ℕ, List, [], Option, option_and_then, ap, ◌∙◌}
use Rattle.std.specs.Prelude.{unwrap_or}
use Rattle.decoded_files.specs.Sources.{opened_bytes, IsOpened}

pub opened_is : (told : List ℕ → Option (List ℕ)) (opened : Option (List ℕ)) (len : ℕ) (is : IsOpened told opened len)
    → opened_bytes told opened ≡ is.file
opened_is told opened len is = ap (λ o. unwrap_or (option_and_then told o) []) is.is_path ∙ ap (λ w. unwrap_or w []) is.is_wave
