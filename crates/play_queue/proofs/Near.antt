-- A place that has an id is the first one that has it.
use Rattle.std.proofs.Common.{◌≡◌, ◌≢◌, ℕ, zero, suc, ◌+◌, ◌<◌, ◌==◌, List, [], ◌∷◌, Some, length, get_or, sym, ap, ◌∙◌, arith}
use Rattle.std.specs.List.{position, position_from}
use Rattle.std.proofs.lemmas.Bool.{eq-eqb}
use Rattle.std.proofs.lemmas.Iterator.Adapters.{position_from-zero}
use Rattle.play_queue.specs.Queue.{AllDiffer}
use Rattle.play_queue.proofs.OwnIds.{all_differ-back, differ_at}
use Rattle.play_queue.proofs.Where.{not_eq}

from_here : (n k id : ℕ) (ids : List ℕ) → AllDiffer ids → k < length ids → get_or ids k 0 ≡ id
    → position_from (λ (other : ℕ). other == id) n ids ≡ Some (n + k)
from_here n k id [] own within is = absurd (omega arith)
from_here n zero id (one ∷ ids) own within is = rw (eq-eqb one id is) (ap Some (omega arith))
from_here n (suc k) id (one ∷ ids) own within is =
    let apart : one ≢ id = λ same. differ_at (one ∷ ids) 0 (suc k) own (omega arith) (omega arith) (omega arith) (same ∙ sym is) in
    rw (not_eq one id apart) (from_here (n + 1) k id ids (all_differ-back (one ∷ []) ids own) (omega arith) is ∙ ap Some (omega arith))

pub position_own : (ids : List ℕ) (k id : ℕ) → AllDiffer ids → k < length ids → get_or ids k 0 ≡ id
    → position (λ (other : ℕ). other == id) ids ≡ Some k
position_own ids k id own within is =
    position_from-zero (λ (other : ℕ). other == id) ids ∙ from_here 0 k id ids own within is ∙ ap Some (omega arith)
