-- The lines of the commands of the database.
use Rattle.std.proofs.Common.{arith, length-append, Result, Ok, Err, Some, ◌≤◌, [], ◌∙◌, sym, if◌then◌else◌}
use Rattle.std.proofs.lemmas.Option.{get_or_from_slice_get, slice_get_within}
use Rattle.std.specs.Global.{Vec}
use Rattle.std.specs.Vec.{vec_len}
use Rattle.command_text.specs.Answer.{Adds}
use Rattle.command_text.specs.declared.tag_mask.TagMask.{TagMask}
use Rattle.song_files.specs.Tag.{all_tags, tag_at}
use Rattle.song_files.specs.TagSet.{has_tag}
use Rattle.song_files.specs.declared.tag.Tag.{Tag}
use Rattle.song_files.specs.declared.tag_set.TagSet.{TagSet}
use Rattle.std.proofs.Common.{◌≡◌, ℕ, ◌+◌, ◌<◌, add-one, List, ◌∷◌, length, drop, get_or, refl, ap}
use Rattle.std.proofs.Math.Seq.{drop-cons}
use Rattle.machine_core.specs.Database.{shown_type}

-- the items that are left behind the one at an index
pub next_item : {X : Type 0} (xs : List X) (i : ℕ) (x : X) → i < length xs → get_or xs i x ∷ drop (i + 1) xs ≡ drop i xs
next_item xs i x h = rw (add-one, drop-cons xs i x) refl

-- the line of a tag that a set has
abbrev pub type_in : TagMask → TagSet → Tag → List ℕ
type_in mask tags tag = if has_tag tags tag then shown_type mask tag else []

-- the tags that are left behind the one with a number
pub next_tag : (n : ℕ) (tag : Tag) → tag_at n ≡ Some tag → drop n all_tags ≡ tag ∷ drop (n + 1) all_tags
unfolding tag_at
next_tag n tag is =
    sym (next_item all_tags n tag (slice_get_within all_tags n tag is))
    ∙ ap (λ (t : Tag). t ∷ drop (n + 1) all_tags) (get_or_from_slice_get all_tags n tag tag is)

-- a writer cuts nothing off
pub adds_grows : {A E : Type 0} (lines : List ℕ) (r : Result A E) (o n : Vec ℕ) → Adds lines r o n → vec_len o ≤ vec_len n
adds_grows lines (Ok x) o n h = omega (arith, ap length h.all, length-append o.items lines, o.ok.0, n.ok.0)
adds_grows lines (Err e) o n h = omega (arith, ap length h.front.stands, length-append o.items h.front.added, o.ok.0, n.ok.0)
