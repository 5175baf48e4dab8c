use Rattle.std.proofs.Common.{ℕ, List, sym, ◌∙◌, rules}
use Rattle.std.specs.Cmp.Lexicographic.{slice_cmp}
use Rattle.std.specs.Ordering.{nat_cmp}
use Rattle.std.proofs.lemmas.Fn.{always_returns_same}
use Rattle.play_queue.proofs.Marked.{unmarked}
use Rattle.play_queue.proofs.Searched.{found_is}
use Rattle.play_queue.proofs.uris.SortedUris.contains.Goals as goal

pub returns : goal.returns
returns c =
    let found = c.binary_search_by.ensures.position (λ (other : List ℕ). slice_cmp nat_cmp other c.as_str-text.result.now)
    (always_returns_same _ _ _ (λ a r f' called. search rules)) in
    let searched = rw (c.deref.ensures.value, c.as_str-text.ensures.text) at found in
    let bound = rw (c.deref.ensures.value) at c.binary_search_by.ensures.bound in
    rw (← c.self.view_is) (c.is_ok.ensures.value
    ∙ found_is c.self.inside.uris.items c.args.uri.now c.binary_search_by.result c.self.invariant.0 bound searched)

pub returns-then-not-self-mark : goal.returns-then-not-self-mark
returns-then-not-self-mark c =
    let unset = rw (c.mark.ensures.mark, c.as_bytes.ensures.value, c.as_str-text.ensures.text) at c.if-not-self-mark.true in
    rw (← c.self.view_is) (sym (unmarked c.self.inside.marks c.self.inside.uris.items c.args.uri.now c.self.invariant.1 unset))
