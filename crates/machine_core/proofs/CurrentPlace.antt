-- The current song stands where an entry has its id.
use Rattle.std.proofs.Common.{◌≡◌, ℕ, List, Option, Some, None, refl}
use Rattle.std.specs.Prelude.{option_map}
use Rattle.play_queue.specs.declared.entry.Entry.{Entry}
use Rattle.player_core.specs.Shown.{shown_at}
use Rattle.player_core.specs.declared.settings.PlaySettings.{PlaySettings}
use Rattle.player_core.specs.declared.shown.Shown.{Shown}

pub stands_there : (entries : List Entry) (settings : PlaySettings) (played : List ℕ) (id : ℕ) (found : Option ℕ) →
    let s : Shown = shown_at entries settings played (option_map (λ at. (at, id)) found) in s.current ≡ found
stands_there entries settings played id None = refl
stands_there entries settings played id (Some at) = refl
