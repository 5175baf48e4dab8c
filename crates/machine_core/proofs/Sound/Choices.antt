-- What is chosen to be played stands in the queue.
use Rattle.std.proofs.Common.{◌≡◌, ℕ, zero, suc, ◌+◌, Bool, true, false, cond, List, [], ◌∷◌, drop, map, filter, refl, sym}
use Rattle.std.proofs.Common.{Option, Some, None, subst, arith}
use Rattle.std.specs.Prelude.{IfSome, option_map}
use Rattle.play_queue.specs.declared.entry.Entry.{Entry}
use Rattle.play_queue.specs.Entries.{Uris}
use Rattle.player_core.specs.Choice.{drawn_by, least, is_left, or_else, in_row, round_again, at_random, new_round, this_round, nothing}
use Rattle.player_core.specs.Choice.{chosen, first_chosen}
use Rattle.player_core.specs.RandomOrder.{Drawn, goes_before, in_order}
use Rattle.player_core.specs.Staying.{takes, staying, all_staying, staying_behind, first_id}
use Rattle.player_core.specs.Words.{next_order}
use Rattle.player_core.specs.declared.block.Block.{Block}
use Rattle.player_core.specs.declared.choice.Choice.{Choice}
use Rattle.player_core.specs.declared.settings.PlaySettings.{PlaySettings}
use Rattle.player_core.proofs.Least.{better, first_drawn, first_drawn-put_in, first_of-drawn}
use Rattle.machine_core.specs.Sound.{IsIn}
use Rattle.machine_core.proofs.Sound.Ids.{here_in, later_in, kept_in}

pub some_weaker : (P Q : ℕ → Type 0) → ((id : ℕ) → P id → Q id) → (found : Option ℕ) → IfSome found P → IfSome found Q
some_weaker P Q f None h = tt
some_weaker P Q f (Some id) h = f id h

pub first_in : (entries : List Entry) → IfSome (first_id entries) (IsIn entries)
first_in [] = tt
first_in (entry ∷ entries) = here_in entry entries entry.id refl

drawn_first : (key : List ℕ) (order : ℕ) (entries : List Entry) →
    IfSome (first_drawn (in_order (map (drawn_by key order) entries))) (λ one. IsIn entries one.0)
drawn_first key order [] = tt
drawn_first key order (entry ∷ entries) =
    subst (λ drawn. IfSome drawn (λ (one : Drawn). IsIn (entry ∷ entries) one.0))
    (sym (first_drawn-put_in (drawn_by key order entry) (in_order (map (drawn_by key order) entries))))
    (of (first_drawn (in_order (map (drawn_by key order) entries))) (drawn_first key order entries))
  where
    of : (others : Option Drawn) → IfSome others (λ one. IsIn entries one.0)
        → IfSome (better (drawn_by key order entry) others) (λ (one : Drawn). IsIn (entry ∷ entries) one.0)
    of None h = here_in entry entries entry.id refl
    of (Some other) h = which (goes_before (drawn_by key order entry) other)
      where
        which : (b : Bool) → IfSome (cond b (Some (drawn_by key order entry)) (Some other)) (λ (one : Drawn). IsIn (entry ∷ entries) one.0)
        which true = here_in entry entries entry.id refl
        which false = later_in entry entries other.0 h

pub least_in : (key : List ℕ) (order : ℕ) (entries : List Entry) → IfSome (least key order entries) (IsIn entries)
least_in key order entries =
    subst (λ found. IfSome found (IsIn entries)) (sym (first_of-drawn (in_order (map (drawn_by key order) entries))))
    (of (first_drawn (in_order (map (drawn_by key order) entries))) (drawn_first key order entries))
  where
    of : (drawn : Option Drawn) → IfSome drawn (λ one. IsIn entries one.0)
        → IfSome (option_map (λ (one : Drawn). one.0) drawn) (IsIn entries)
    of None h = tt
    of (Some one) h = h

or_else_in : (entries : List Entry) (found : Option ℕ) (other : Choice) → IfSome found (IsIn entries) → IfSome other.id (IsIn entries)
    → IfSome (or_else found other).id (IsIn entries)
or_else_in entries None other one rest = rest
or_else_in entries (Some id) other one rest = one

new_round_in : (entries : List Entry) (order : ℕ) (found : Option ℕ) → IfSome found (IsIn entries)
    → IfSome (new_round order found).id (IsIn entries)
new_round_in entries order None h = tt
new_round_in entries order (Some id) h = h

one_of_choices : (entries : List Entry) (one other : Choice) (which : Bool) → IfSome one.id (IsIn entries) → IfSome other.id (IsIn entries)
    → let choice : Choice = cond which one other in IfSome choice.id (IsIn entries)
one_of_choices entries one other true first second = first
one_of_choices entries one other false first second = second

pub round_again_in : (settings : PlaySettings) (entries : List Entry) → IfSome (round_again settings entries).id (IsIn entries)
round_again_in settings entries =
    new_round_in entries (next_order settings.order) (least settings.key (next_order settings.order) entries)
    (least_in settings.key (next_order settings.order) entries)

at_random_in : (settings : PlaySettings) (current : ℕ) (played : List ℕ) (entries : List Entry)
    → IfSome (at_random settings current played entries).id (IsIn entries)
at_random_in settings current played entries =
    or_else_in entries (least settings.key settings.order (filter (is_left current played) entries)) _
    (some_weaker (IsIn (filter (is_left current played) entries)) (IsIn entries) (kept_in (is_left current played) entries)
    (least settings.key settings.order (filter (is_left current played) entries))
    (least_in settings.key settings.order (filter (is_left current played) entries)))
    (one_of_choices entries (round_again settings entries) nothing settings.options.repeat (round_again_in settings entries) tt)

in_row_in : (again : Bool) (behind entries : List Entry) → ((id : ℕ) → IsIn behind id → IsIn entries id)
    → IfSome (in_row again behind entries).id (IsIn entries)
in_row_in again behind entries within =
    or_else_in entries (first_id behind) _ (some_weaker (IsIn behind) (IsIn entries) within (first_id behind) (first_in behind))
    (one_of_choices entries (this_round (first_id entries)) nothing again (first_in entries) tt)

-- what stays behind a position stays
staying_later : (block : Block) (dropped : Uris) (n at from : ℕ) (entries : List Entry) (id : ℕ) → at + n ≡ from
    → IsIn (staying block dropped from (drop n entries)) id → IsIn (staying block dropped at entries) id
staying_later block dropped zero at from entries id is h =
    let same : from ≡ at = omega (arith, is) in subst (λ (k : ℕ). IsIn (staying block dropped k entries) id) same h
staying_later block dropped (suc n) at from [] id is h = h
staying_later block dropped (suc n) at from (entry ∷ entries) id is h =
    of (takes block dropped at entry) (staying_later block dropped n (at + 1) from entries id (omega (arith, is)) h)
  where
    of : (b : Bool) → IsIn (staying block dropped (at + 1) entries) id
        → IsIn (cond b (staying block dropped (at + 1) entries) (entry ∷ staying block dropped (at + 1) entries)) id
    of true h = h
    of false h = later_in entry (staying block dropped (at + 1) entries) id h

pub chosen_in : (settings : PlaySettings) (entries : List Entry) (block : Block) (dropped : Uris) (played : List ℕ) (at current : ℕ)
    → IfSome (chosen settings entries block dropped played at current).id (IsIn (all_staying block dropped entries))
chosen_in settings entries block dropped played at current =
    one_of_choices stays (at_random settings current played stays)
    (in_row settings.options.repeat (staying_behind block dropped at entries) stays) settings.options.random
    (at_random_in settings current played stays)
    (in_row_in settings.options.repeat (staying_behind block dropped at entries) stays (λ id h.
    staying_later block dropped (at + 1) 0 (at + 1) entries id (omega arith) h))
  where
    stays : List Entry
    stays = all_staying block dropped entries

pub first_chosen_in : (settings : PlaySettings) (entries : List Entry) → IfSome (first_chosen settings entries).id (IsIn entries)
first_chosen_in settings entries =
    one_of_choices entries (round_again settings entries) (this_round (first_id entries)) settings.options.random
    (round_again_in settings entries) (first_in entries)
