use Rattle.std.proofs.Common.{[], ◌∷◌, ap, ◌∙◌}
use Rattle.song_db.specs.Replaced.{replaced}
use Rattle.song_db.proofs.Ordered.{shown, insert_key-shown}
use Rattle.song_db.proofs.texts.Texts.insert.Goals as goal

pub returns-clause-ok : goal.returns-clause-ok
returns-clause-ok c = ap shown c.in_ok-insert.ensures.keys ∙ insert_key-shown c.self.inside.texts.keys c.args.text
    ∙ ap (λ known. replaced (λ t. t) c.args.text.now (c.args.text.now ∷ []) known) c.self.view_is
