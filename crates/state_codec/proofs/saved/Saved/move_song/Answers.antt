use Rattle.std.proofs.Common.{◌≡◌, None, subst, arith}
use Rattle.std.specs.Prelude.{OnOk}
use Rattle.stored_lists.specs.Lists.{move_refusal, songs_or_none, with_songs}
use Rattle.stored_lists.specs.Refusal.{Answers}
use Rattle.stored_lists.specs.Songs.{moved}
use Rattle.state_codec.specs.OpsLists.{list_refusal}
use Rattle.state_codec.specs.SavedState.{SavedState}
use Rattle.state_codec.specs.Stored.{state_of}
use Rattle.state_codec.specs.declared.op.list_op.ListOp.TheVariants.{Move}
use Rattle.state_codec.proofs.KeptOps.{kept_list, map_none, with_lists}
use Rattle.state_codec.proofs.Told.{lists_made}
use Rattle.state_codec.proofs.saved.Saved.move_song.Goals as goal

pub invariant_of-self : goal.invariant_of-self
invariant_of-self c =
    let s : SavedState = state_of c.self.inside.parts in
    let name = c.args.name.now in
    let from = c.args.from in
    let to = c.args.to in
    let none : list_refusal (Move name from to) s ≡ None = rw (← c.self.view_is) at c.requires in
    let made : c.move_at.new.self ≡ with_songs s.lists name (moved (songs_or_none s.lists name) from to) =
    lists_made _ _ _ _ (map_none _ _ none)
    (subst (λ n. Answers (move_refusal s.lists n from to) c.move_at.result) c.as_str.ensures.text c.move_at.ensures.answer)
    (subst (λ n. OnOk c.move_at.result (c.move_at.new.self ≡ with_songs s.lists n (moved (songs_or_none s.lists n) from to)))
    c.as_str.ensures.text c.move_at.ensures.ok) in
    rw made (with_lists s _ c.self.invariant
    (kept_list (Move name from to) s (c.as_str.ensures.form, (omega arith, omega arith)) c.self.invariant none))
