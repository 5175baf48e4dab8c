-- The channels that clients have, as one list.
use Rattle.std.specs.Prelude.{ℕ, List, [], ◌∷◌}
use Rattle.std.specs.BTreeSet.{insert_key}
use Rattle.std.specs.Cmp.Lexicographic.{slice_cmp}
use Rattle.std.specs.List.{flat_map}
use Rattle.std.specs.Ordering.{nat_cmp}
use Rattle.client_messages.specs.declared.listener.Listener.{Listener}

-- one more name, in its place by bytes; a name that is there already doesn't come twice
abbrev pub with_name : List (List ℕ) → List ℕ → List (List ℕ)
with_name names name = insert_key (slice_cmp nat_cmp) names name

abbrev pub with_names : List (List ℕ) → List (List ℕ) → List (List ℕ)
with_names names [] = names
with_names names (name ∷ more) = with_names (with_name names name) more

-- the channels of all clients, by their bytes, each once
abbrev pub channels_in : List Listener → List (List ℕ)
channels_in ls = with_names [] (flat_map (λ l. l.channels) ls)
