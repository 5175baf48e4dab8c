use Rattle.std.proofs.Common.{◌≡◌, ◌∙◌, string_bytes, rules}
use Rattle.std.specs.Cmp.Lexicographic.{slice_cmp}
use Rattle.std.specs.Ordering.{nat_cmp, is_lt}
use Rattle.stored_lists.proofs.Last.{last_tells}
use Rattle.stored_lists.proofs.named.NamedSongs.is_last.Goals as goal

pub returns-in-Some : goal.returns-in-Some
returns-in-Some c =
    let below : c.lt.result ≡ is_lt (slice_cmp nat_cmp (string_bytes c.in-Some.last.now) c.args.name.now) = search rules in
    rw (← c.self.view_is) (below ∙ last_tells c.self.inside.map.entries _ _ c.args.name.now c.in-Some.ensures.last
    c.in-Some.ensures.all_up_to)
