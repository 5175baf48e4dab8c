-- A playlist that gets the songs of the queue in place of its own.
use Rattle.std.proofs.Common.{◌≡◌, ◌≢◌, ◌↔◌, ℕ, suc, ◌+◌, ◌<◌, ◌≤◌, Bool, true, false, List, [], ◌∷◌, ◌++◌, length, take, get_or}
use Rattle.std.proofs.Common.{Option, Some, None, Result, Ok, Err, IsTrue, cond, is_some, nat_le, ◌⊎◌, inl, inr, refl, sym, ap, ◌∙◌, subst, arith}
use Rattle.std.specs.List.{AllByRecursion}
use Rattle.std.specs.Option.{option_map}
use Rattle.std.specs.Str.{bytes_eq, is_utf8}
use Rattle.std.proofs.lemmas.Bool.{cases_eq}
use Rattle.std.proofs.lemmas.Bool.Decides.{nat_tests}
use Rattle.std.proofs.lemmas.List.{length-map, get_or-map, get_or_default, take_more, map_push}
use Rattle.std.proofs.lemmas.Slice.Eq.{bytes_eq-Decides}
use Rattle.play_queue.specs.declared.entry.Entry.{Entry}
use Rattle.stored_lists.specs.Limits.{MAX_LISTS, MAX_ENTRIES}
use Rattle.stored_lists.specs.Lists.{Stored, IsCounted, songs_of, songs_or_none, total, without_list, with_songs, is_full_for}
use Rattle.stored_lists.specs.Lists.{replace_refusal as list_replace_refusal}
use Rattle.stored_lists.specs.Name.{is_good_name}
use Rattle.stored_lists.specs.Songs.{Uris}
use Rattle.stored_lists.specs.Times.{Times, with_time, without_time}
use Rattle.stored_lists.specs.declared.refusal.ListsError.{ListsError}
use Rattle.stored_lists.proofs.Absent.{with_songs_same}
use Rattle.stored_lists.proofs.Counted.{total_without}
use Rattle.stored_lists.proofs.Replaced.{replaced_is, without_free}
use Rattle.stored_lists.proofs.Timed.{anew}
use Rattle.state_codec.specs.Applied.{all_applied, after_all, unless_refused}
use Rattle.state_codec.specs.Editing.{AnswersApply, IsEdit}
use Rattle.state_codec.specs.OpsLists.{same_uris, uris_of}
use Rattle.state_codec.specs.Replacing.{replace_ops, replace_refusal, replaces_nothing}
use Rattle.state_codec.specs.SavedState.{SavedState, IsSavedList, IsSavedState, AreSavedLists}
use Rattle.state_codec.specs.declared.op.list_op.ListOp.TheVariants.{Save}
use Rattle.state_codec.specs.declared.refusal.ApplyError.{ApplyError}
use Rattle.state_codec.specs.declared.refusal.OpRefusal.{OpRefusal}
use Rattle.state_codec.specs.declared.refusal.OpRefusal.TheVariants.{Lists}
use Rattle.state_codec.proofs.KeptLists.{kept_with_songs}
use Rattle.state_codec.proofs.KeptOps.{map_none, cond_none, not_less, not_none, found_songs, with_lists, with_times}
use Rattle.state_codec.proofs.ListsUnchanged.{uris_same, uris_itself, length-without_list, songs_stay}
use Rattle.state_codec.proofs.Named.{entries_are_uris}
use Rattle.state_codec.proofs.TimeLaws.{kept_list_times}

-- what a replacement that isn't refused finds
pub record Replaces (all : Stored) (name : List ℕ) (n : ℕ) : Type 0 where
  pub good : is_good_name name ≡ true
  pub found : songs_of all name ≡ Some (songs_or_none all name)
  pub few : total (without_list all name) + n ≤ MAX_ENTRIES

pub replaces : (all : Stored) (name : List ℕ) (n : ℕ) → list_replace_refusal all name n ≡ None → Replaces all name n
replaces all name n none =
    let named = cond_none _ _ _ none in
    let there = cond_none _ _ _ named.1 in
    let full = cond_none _ _ _ there.1 in
    record {
      good = not_none _ named.0;
      found = found_songs all name (not_none _ there.0);
      few = not_less MAX_ENTRIES (total (without_list all name) + n) full.0;
    }

of_state : (name : List ℕ) (s : SavedState) → replace_refusal name s ≡ None → Replaces s.lists name (length s.queue.entries)
of_state name s none = replaces s.lists name (length s.queue.entries) (map_none _ _ none)

-- the name of a playlist that is there is UTF-8
text_found : (all : Stored) (name : List ℕ) (old : Uris) → AllByRecursion IsSavedList all → songs_of all name ≡ Some old
    → IsTrue (is_utf8 name)
text_found [] name old texts found = absurd (cc)
text_found (list ∷ all) name old texts found =
    of (bytes_eq name list.0) refl found (λ (there : songs_of all name ≡ Some old). text_found all name old texts.1 there)
  where
    of : (b : Bool) → bytes_eq name list.0 ≡ b → cond b (Some list.1) (songs_of all name) ≡ Some old
        → (songs_of all name ≡ Some old → IsTrue (is_utf8 name)) → IsTrue (is_utf8 name)
    of true same found rest = subst (λ (text : List ℕ). IsTrue (is_utf8 text)) (sym ((bytes_eq-Decides name list.0).0 same)) texts.0
    of false other found rest = rest found

-- it goes and is changed, as it is where it is changed alone
pub put_anew : (name : List ℕ) (times : Option Times)
    → option_map (with_time name 0) (option_map (without_time name) times) ≡ option_map (with_time name 0) times
put_anew name None = refl
put_anew name (Some times) = ap Some (anew name 0 times)

-- a replacement that isn't refused is made
pub replaced_edit : (o : Option ListsError) (edited before after : SavedState) → o ≡ None → after ≡ edited
    → IsEdit {T = Unit {0}} (option_map Lists o) edited before after (Ok tt)
replaced_edit o edited before after none same = rw none (record { ok = same; err = tt; answer = tt })

-- the playlist stands where it stood
pub stands_replaced : (name : List ℕ) (s : SavedState) → IsSavedState s → replace_refusal name s ≡ None
    → after_all (replace_ops name) s
    ≡ record s { lists = with_songs s.lists name (uris_of s.queue.entries); changed = option_map (with_time name 0) s.changed }
stands_replaced name s saved none =
    let there = of_state name s none in
    let stands = sym (replaced_is s.lists name (uris_of s.queue.entries) saved.lists.rising (ap is_some there.found)) in
    λ i. record s { lists = stands i; changed = put_anew name s.changed i }

-- a saved state stays one
pub kept_replaced : (name : List ℕ) (s : SavedState) → IsSavedState s → replace_refusal name s ≡ None
    → IsSavedState (after_all (replace_ops name) s)
kept_replaced name s saved none =
    let there = of_state name s none in
    let old : Uris = songs_or_none s.lists name in
    let songs : Uris = uris_of s.queue.entries in
    let long : length songs ≡ length s.queue.entries = length-map s.queue.entries (λ (entry : Entry). entry.uri) in
    let counted : IsCounted s.lists (total s.lists) = record { counted = refl; within = saved.lists.within } in
    let others = total_without s.lists (total s.lists) name old counted there.found in
    let kept : AreSavedLists (with_songs s.lists name songs) =
    kept_with_songs s.lists name old songs (total (without_list s.lists name) + length songs) saved.lists
    (entries_are_uris s.songs s.queue.entries saved.songs.rows saved.queue.entries) there.found (omega (arith, others))
    (omega (arith, long, there.few)) in
    let timed = kept_list_times false (Save name) s.profile s.changed (record { good = there.good; text = text_found s.lists name old saved.lists.texts there.found }) saved.changed in
    subst IsSavedState (sym (stands_replaced name s saved none))
    (with_times (record s { lists = with_songs s.lists name songs }) (option_map (with_time name 0) s.changed)
    (with_lists s (with_songs s.lists name songs) saved kept) timed)

-- and so does the state after the edit
pub kept_replacement : (name : List ℕ) (s t : SavedState) (r : Result (Unit {0}) ApplyError) → IsSavedState s
    → IsEdit (replace_refusal name s) (after_all (replace_ops name) s) s t r → IsSavedState t
kept_replacement name s t (Err e) saved edit = subst IsSavedState (sym edit.err) saved
kept_replacement name s t (Ok x) saved edit =
    subst IsSavedState (sym edit.ok) (kept_replaced name s saved (of (replace_refusal name s) edit.answer))
  where
    of : (o : Option OpRefusal) → AnswersApply o (Ok x) → o ≡ None
    of None answer = refl
    of (Some refusal) answer = absurd (cc)

-- without the playlist there is room for one
short_without : (all : Stored) (name : List ℕ) → AreSavedLists all → is_some (songs_of all name) ≡ true
    → nat_le MAX_LISTS (length (without_list all name)) ≡ false
short_without all name saved present =
    let shorter = length-without_list all name (songs_or_none all name) (found_songs all name present) in
    let few : length all ≤ MAX_LISTS = saved.within.few_lists in
    grind (arith, nat_tests, shorter, few)

pub applied_replaced : (name : List ℕ) (s : SavedState) → IsSavedState s
    → all_applied (replace_ops name) s ≡ unless_refused (replace_refusal name s) (after_all (replace_ops name) s)
applied_replaced name s saved = by_name (is_good_name name) refl (is_some (songs_of s.lists name)) refl
  where
    by_name : (g : Bool) → is_good_name name ≡ g → (f : Bool) → is_some (songs_of s.lists name) ≡ f
        → all_applied (replace_ops name) s ≡ unless_refused (replace_refusal name s) (after_all (replace_ops name) s)
    by_name false is f found = rw is refl
    by_name true is false found = rw (is, found) refl
    by_name true is true found =
        let free = without_free s.lists name saved.lists.rising in
        let short = short_without s.lists name saved.lists found in
        by_room (is_full_for (without_list s.lists name) (length s.queue.entries)) refl
      where
        by_room : (full : Bool) → is_full_for (without_list s.lists name) (length s.queue.entries) ≡ full
            → all_applied (replace_ops name) s ≡ unless_refused (replace_refusal name s) (after_all (replace_ops name) s)
        by_room true room = rw (is, found, without_free s.lists name saved.lists.rising, short_without s.lists name saved.lists found, room) refl
        by_room false room = rw (is, found, without_free s.lists name saved.lists.rising, short_without s.lists name saved.lists found, room) refl

pub nothing_replaced : (name : List ℕ) (s : SavedState) → IsSavedState s → replace_refusal name s ≡ None
    → (replaces_nothing name s ≡ true) ↔ ((after_all (replace_ops name) s).lists ≡ s.lists)
nothing_replaced name s saved none = (stays, only)
  where
    there : Replaces s.lists name (length s.queue.entries)
    there = of_state name s none

    old : Uris
    old = songs_or_none s.lists name

    stays : replaces_nothing name s ≡ true → (after_all (replace_ops name) s).lists ≡ s.lists
    stays same =
        let songs : old ≡ uris_of s.queue.entries = uris_same old (uris_of s.queue.entries) same in
        ap (λ (t : SavedState). t.lists) (stands_replaced name s saved none)
        ∙ ap (λ (l : Uris). with_songs s.lists name l) (sym songs) ∙ with_songs_same s.lists name old there.found

    only : (after_all (replace_ops name) s).lists ≡ s.lists → replaces_nothing name s ≡ true
    only same =
        let lists : with_songs s.lists name (uris_of s.queue.entries) ≡ s.lists =
        ap (λ (t : SavedState). t.lists) (sym (stands_replaced name s saved none)) ∙ same in
        let songs : uris_of s.queue.entries ≡ old =
        songs_stay s.lists name old (uris_of s.queue.entries) there.found lists in
        ap (λ (l : Uris). same_uris old l) songs ∙ uris_itself old

-- ---- two lists of URIs compared place by place

pub same_all : (a b : Uris) → length a ≡ length b → ((k : ℕ) → k < length a → get_or a k [] ≡ get_or b k []) → same_uris a b ≡ true
same_all [] [] long each = refl
same_all [] (other ∷ others) long each = absurd (omega (arith, long))
same_all (uri ∷ uris) [] long each = absurd (omega (arith, long))
same_all (uri ∷ uris) (other ∷ others) long each =
    let here : uri ≡ other = each 0 (omega arith) in
    let same : bytes_eq uri other ≡ true = (bytes_eq-Decides uri other).1 here in
    rw same (same_all uris others (omega (arith, long)) (λ k within. each (suc k) (omega arith)))

pub same_not : (a b : Uris) → a ≢ b → same_uris a b ≡ false
same_not a b apart = of (same_uris a b) refl
  where
    of : (is : Bool) → same_uris a b ≡ is → is ≡ false
    of true same = absurd (apart (uris_same a b same))
    of false same = refl

-- the entry at a place of the queue, and the URI there
uri_there : (entries : List Entry) (at : ℕ) (entry : Entry) → at < length entries → entry ≡ get_or entries at entry
    → get_or (uris_of entries) at [] ≡ entry.uri
uri_there entries at entry within is = get_or-map (λ (e : Entry). e.uri) entries at entry [] within ∙ ap (λ (e : Entry). e.uri) (sym is)

-- another URI at one place
pub same_apart : (uris : Uris) (entries : List Entry) (at : ℕ) (uri : List ℕ) (entry : Entry) → at < length uris → at < length entries
    → uri ≡ get_or uris at uri → entry ≡ get_or entries at entry → bytes_eq uri entry.uri ≡ false
    → same_uris uris (uris_of entries) ≡ false
same_apart uris entries at uri entry in_uris in_entries uri_is entry_is apart = same_not uris (uris_of entries) differ
  where
    differ : uris ≢ uris_of entries
    differ same =
        let one : get_or uris at [] ≡ uri = get_or_default uris at [] uri in_uris ∙ sym uri_is in
        let equal : uri ≡ entry.uri =
        sym one ∙ ap (λ (l : Uris). get_or l at []) same ∙ uri_there entries at entry in_entries entry_is in
        let yes : bytes_eq uri entry.uri ≡ true = (bytes_eq-Decides uri entry.uri).1 equal in
        cc

-- the same URI at one place more
pub same_more : (uris : Uris) (entries : List Entry) (at : ℕ) (uri : List ℕ) (entry : Entry) → at < length uris → at < length entries
    → uri ≡ get_or uris at uri → entry ≡ get_or entries at entry → bytes_eq uri entry.uri ≡ true
    → ((k : ℕ) → k < at → get_or uris k [] ≡ get_or (uris_of entries) k []) → (k : ℕ) → k < at + 1
    → get_or uris k [] ≡ get_or (uris_of entries) k []
same_more uris entries at uri entry in_uris in_entries uri_is entry_is same before k within = of (cases_eq k at)
  where
    of : (k ≡ at) ⊎ (k ≢ at) → get_or uris k [] ≡ get_or (uris_of entries) k []
    of (inl here) =
        let one : get_or uris at [] ≡ uri = get_or_default uris at [] uri in_uris ∙ sym uri_is in
        rw here (one ∙ (bytes_eq-Decides uri entry.uri).0 same ∙ sym (uri_there entries at entry in_entries entry_is))
    of (inr other) = before k (omega (arith, other))

-- the URI of one entry more
pub uris_more : (entries : List Entry) (at : ℕ) (entry : Entry) → at < length entries → ((d : Entry) → get_or entries at d ≡ entry)
    → uris_of (take (at + 1) entries) ≡ uris_of (take at entries) ++ entry.uri ∷ []
uris_more entries at entry within is =
    ap uris_of (take_more entries at entry within ∙ ap (λ (e : Entry). take at entries ++ e ∷ []) (is entry))
    ∙ map_push (λ (e : Entry). e.uri) (take at entries) entry
