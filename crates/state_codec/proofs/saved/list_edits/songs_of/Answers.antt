use Rattle.std.proofs.Common.{ℕ, List, ◌∷◌, ◌++◌, [], sym, ap, ◌∙◌, arith}
use Rattle.play_queue.specs.Shown.{shown}
use Rattle.state_codec.proofs.ReplaceLaws.{uris_more}
use Rattle.state_codec.proofs.saved.list_edits.songs_of.Goals as goal

pub loop-at-preserved : goal.loop-at-preserved
loop-at-preserved c =
    c.in_ok-push.ensures.ok
    ∙ ap (λ (uri : List ℕ). c.loop-at.songs ++ uri ∷ []) (c.in_ok-try_clone.ensures ∙ c.as_uri.ensures)
    ∙ ap (λ (uris : List (List ℕ)). uris ++ (shown c.at.result).uri ∷ []) c.loop-at.invariant
    ∙ sym (uris_more c.args.entries.now c.loop-at.at (shown c.at.result) (omega arith) c.at.ensures)
