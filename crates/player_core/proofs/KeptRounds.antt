-- The random round that is kept, and the one that goes on after a restart.
use Rattle.std.proofs.Common.{◌≡◌, ℕ, ◌+◌, ◌<◌, ◌≤◌, ◌^◌, Bool, true, false, cond, filter, List, [], ◌∷◌, ◌++◌, length, take, get_or}
use Rattle.std.proofs.Common.{is_some, sym, refl, ap, ◌∙◌, arith}
use Rattle.std.specs.List.{All}
use Rattle.std.proofs.lemmas.List.{length-append, take_more}
use Rattle.std.proofs.lemmas.List.Elements.{All-cons, All-head, All-tail, All-append}
use Rattle.play_queue.specs.declared.entry.Entry.{Entry}
use Rattle.player_core.specs.Place.{IsRound, at_id, found_ids, longest_round}
use Rattle.player_core.specs.Player.{noted}

no_ids : All (λ id. id < 2 ^ 32) []
no_ids = λ k d within. absurd (omega arith)

pub empty_round : IsRound []
empty_round = record { few = omega arith; each = no_ids }

filter_short : (test : ℕ → Bool) (ids : List ℕ) → length (filter test ids) ≤ length ids
filter_short test [] = omega arith
filter_short test (id ∷ ids) = of (test id) (filter_short test ids)
  where
    of : (b : Bool) → length (filter test ids) ≤ length ids → length (cond b (id ∷ filter test ids) (filter test ids)) ≤ length (id ∷ ids)
    of true few = omega (arith, few)
    of false few = omega (arith, few)

filter_each : (test : ℕ → Bool) (ids : List ℕ) → All (λ id. id < 2 ^ 32) ids → All (λ id. id < 2 ^ 32) (filter test ids)
filter_each test [] all = all
filter_each test (id ∷ ids) all = of (test id) (filter_each test ids (All-tail (λ id. id < 2 ^ 32) id ids all))
  where
    of : (b : Bool) → All (λ id. id < 2 ^ 32) (filter test ids) → All (λ id. id < 2 ^ 32) (cond b (id ∷ filter test ids) (filter test ids))
    of true rest = All-cons (λ id. id < 2 ^ 32) id (filter test ids) (All-head (λ id. id < 2 ^ 32) id ids all) rest
    of false rest = rest

-- ids leave a round
pub round_filtered : (test : ℕ → Bool) (ids : List ℕ) → IsRound ids → IsRound (filter test ids)
round_filtered test ids round = record {
  few = omega (arith, filter_short test ids, round.few);
  each = filter_each test ids round.each;
}

-- one comes behind the others
pub round_grown : (id : ℕ) (ids : List ℕ) → id < 2 ^ 32 → length ids < longest_round → IsRound ids → IsRound (ids ++ id ∷ [])
round_grown id ids low room round = record {
  few = omega (arith, room, length-append ids (id ∷ []));
  each = All-append (λ id. id < 2 ^ 32) ids (id ∷ []) round.each (All-cons (λ id. id < 2 ^ 32) id [] low no_ids);
}

-- ---- the ids that are found again, one after the other

found_more : (entries : List Entry) (ids : List ℕ) (id : ℕ) (known : List ℕ)
    → found_ids entries (ids ++ id ∷ []) known ≡ found_ids entries (id ∷ []) (found_ids entries ids known)
found_more entries [] id known = refl
found_more entries (other ∷ ids) id known = found_more entries ids id (noted (is_some (at_id entries other)) other known)

pub found_step : (entries : List Entry) (ids : List ℕ) (i : ℕ) → i < length ids
    → found_ids entries (get_or ids i 0 ∷ []) (found_ids entries (take i ids) []) ≡ found_ids entries (take (i + 1) ids) []
found_step entries ids i within =
    sym (found_more entries (take i ids) (get_or ids i 0) []) ∙ ap (λ l. found_ids entries l []) (sym (take_more ids i 0 within))
