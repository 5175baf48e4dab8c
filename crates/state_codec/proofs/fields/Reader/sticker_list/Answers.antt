use Rattle.std.proofs.Common.{◌≡◌, List, [], ◌∷◌, ◌++◌, refl, ◌∙◌, arith}
use Rattle.stickers.specs.Sticker.{Sticker}
use Rattle.state_codec.specs.ReadingSaved.{last_uri, sticker_at}
use Rattle.state_codec.proofs.LoopLaws.{items_go_on, one_counted, items_fail, items_done}
use Rattle.state_codec.proofs.fields.Reader.sticker_list.Goals as goal

last_is : (known : List Sticker) (s : Sticker) → s.uri ≡ last_uri (known ++ s ∷ [])
last_is [] s = refl
last_is (t ∷ []) s = refl
last_is (t ∷ next ∷ known) s = last_is (next ∷ known) s

pub returns-in-Err : goal.returns-in-Err
returns-in-Err c = items_fail (sticker_at c.args.songs.now) c.args.count c.loop-i._i _ _ _ _ (omega arith) c.in-Err.ensures
    c.loop-i.invariant.1.0

pub loop-i-preserved : goal.loop-i-preserved
loop-i-preserved c =
    let g = c.in-Ok.ensures in
    rw g.2 (
      g.3 ∙ last_is c.loop-i.stickers g.0,
      (
        items_go_on (sticker_at c.args.songs.now) c.args.count c.loop-i._i _ _ g.0 _ _ (omega arith) g.1 c.loop-i.invariant.1.0,
        one_counted _ g.0 _ c.loop-i.invariant.1.1,
      ),
    )

pub returns : goal.returns
returns c = rw c.finish.ensures (items_done (sticker_at c.args.songs.now) c.args.count c.loop-i._i _ _ _ (omega arith) c.loop-i.invariant.1.0)
