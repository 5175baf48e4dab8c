-- How far a replay of a record has come.
use Rattle.std.specs.Prelude.{◌≡◌, ℕ, Bool, IsTrue, ◌↔◌, List}
use Rattle.disk_model.specs.declared.call.Call.{Call}
use Rattle.disk_model.specs.CallsMade.{content_of, history_of}
use Rattle.disk_model.specs.Images.{Window, window}
use Rattle.disk_model.specs.Moments.{LeftSince}

pub record IsReplayed (first : List ℕ) (calls : List Call) (moment : ℕ) (image content : List ℕ) (since : Window)
    (left : Bool) : Type 0 where
  pub bytes : content ≡ content_of first calls
  pub window : since ≡ window (history_of first calls)
  pub moments : IsTrue left ↔ LeftSince (history_of first calls) moment image
