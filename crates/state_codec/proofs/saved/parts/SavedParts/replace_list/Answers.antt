use Rattle.std.proofs.Common.{◌≡◌, List, None, length, sym, ap, ◌∙◌}
use Rattle.std.specs.Option.{option_map}
use Rattle.play_queue.specs.declared.entry.Entry.{Entry}
use Rattle.stored_lists.specs.Lists.{replace_refusal, with_list, without_list}
use Rattle.stored_lists.specs.Songs.{Uris}
use Rattle.stored_lists.specs.Times.{with_time, without_time}
use Rattle.state_codec.specs.OpsLists.{uris_of}
use Rattle.state_codec.specs.SavedState.{SavedState}
use Rattle.state_codec.specs.Stored.{state_of}
use Rattle.state_codec.proofs.Edits.{lists_none}
use Rattle.state_codec.proofs.ReplaceLaws.{put_anew, replaced_edit}
use Rattle.state_codec.proofs.saved.parts.SavedParts.replace_list.Goals as goal

pub returns : goal.returns
returns c =
    let s : SavedState = state_of c.args.self.now in
    let name = c.args.name.now in
    let none : replace_refusal s.lists name (length s.queue.entries) ≡ None =
    lists_none _ _ (rw c.len.ensures at c.in_ok-check_replace.ensures.answer) in
    let songs : c.in_ok-songs.songs ≡ uris_of s.queue.entries =
    c.in_ok-songs.ensures.songs ∙ ap (λ (entries : List Entry). uris_of entries) c.entries.ensures.entries in
    let lists : c.replace.new.self ≡ with_list (without_list s.lists name) name (uris_of s.queue.entries) =
    c.in_ok-replace.ensures.anew ∙ ap (λ (l : Uris). with_list (without_list s.lists name) name l) songs in
    let times : c.put_untimed.new.times ≡ option_map (with_time name 0) (option_map (without_time name) s.changed) =
    c.put_untimed.ensures ∙ sym (put_anew name s.changed) in
    replaced_edit (replace_refusal s.lists name (length s.queue.entries)) _ s _ none (λ i. record s { lists = lists i; changed = times i })
