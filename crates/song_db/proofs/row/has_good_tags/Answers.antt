use Rattle.std.proofs.Common.{◌≡◌, true, sym, ◌∙◌, arith}
use Rattle.std.specs.Prelude.{nat_le}
use Rattle.std.proofs.lemmas.Bool.Decides.{nat_tests}
use Rattle.song_db.proofs.TextSteps.{all_good}
use Rattle.song_db.proofs.row.has_good_tags.Goals as goal

pub returns : goal.returns
returns c =
    let few : nat_le c.len.result 255 ≡ true = grind (arith, nat_tests, c.len.ensures.len, c.len.ensures.good.few) in
    few ∙ sym (all_good c.args.tags.now c.len.ensures.good.texts)
