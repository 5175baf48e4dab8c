use Rattle.std.proofs.Common.{[], ◌∷◌, ap, ◌∙◌}
use Rattle.std.proofs.lemmas.List.{map-append}
use Rattle.song_db.specs.Query.{distinct_of}
use Rattle.song_db.proofs.Gathered.{with_texts-append}
use Rattle.song_db.proofs.Ordered.{shown}
use Rattle.song_db.proofs.values.push_text.Goals as goal

pub returns : goal.returns
returns c = ap (λ ts. distinct_of (shown ts)) c.in_ok-push.ensures.items
    ∙ ap distinct_of (map-append (λ t. t.now) c.args.values.now.items (c.args.text ∷ []))
    ∙ with_texts-append [] (shown c.args.values.now.items) (c.args.text.now ∷ [])
