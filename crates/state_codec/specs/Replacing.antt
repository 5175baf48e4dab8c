-- A playlist that gets the songs of the queue in place of its own: it is taken out, and saved anew.
use Rattle.std.specs.Prelude.{ℕ, Bool, List, [], ◌∷◌, length, Option, option_map}
use Rattle.state_codec.specs.OpsLists.{same_uris, uris_of}
use Rattle.state_codec.specs.SavedState.{SavedState}
use Rattle.state_codec.specs.declared.op.Op.{Op}
use Rattle.state_codec.specs.declared.op.Op.TheVariants.{List as OfList}
use Rattle.state_codec.specs.declared.op.list_op.ListOp.TheVariants.{Save, Drop}
use Rattle.state_codec.specs.declared.refusal.OpRefusal.{OpRefusal}
use Rattle.state_codec.specs.declared.refusal.OpRefusal.TheVariants.{Lists}
use Rattle.stored_lists.specs.Lists.{songs_or_none, replace_refusal as list_replace_refusal}

-- the two ops
abbrev pub replace_ops : List ℕ → List Op
replace_ops name = OfList (Drop name) ∷ OfList (Save name) ∷ []

-- what refuses it
abbrev pub replace_refusal : List ℕ → SavedState → Option OpRefusal
replace_refusal name s = option_map Lists (list_replace_refusal s.lists name (length s.queue.entries))

-- whether it changes nothing: the playlist has just the songs of the queue
abbrev pub replaces_nothing : List ℕ → SavedState → Bool
replaces_nothing name s = same_uris (songs_or_none s.lists name) (uris_of s.queue.entries)
