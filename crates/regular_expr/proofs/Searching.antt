-- Where a search through a text ends: just where the pattern spans a part of it.
use Rattle.std.proofs.Common.{◌≡◌, ℕ, zero, suc, ◌<◌, ◌≤◌, Bool, true, ◌||◌, List, [], ◌∷◌, length, drop, Option, Some, None}
use Rattle.std.proofs.Common.{slice_get, refl, sym, ap, ◌∙◌, subst, ⊎_elim, arith}
use Rattle.std.proofs.lemmas.Bool.{cases_lt}
use Rattle.std.proofs.lemmas.List.{length-drop, append-nil}
use Rattle.std.proofs.lemmas.Option.{slice_get_past, slice_get_within}
use Rattle.regular_expr.specs.Marks.{ends, moved, place_at, is_behind}
use Rattle.regular_expr.specs.Shape.{Shape}
use Rattle.regular_expr.specs.Spans.{Spans, before, here_in, IsFoundWhereItSpans}
use Rattle.regular_expr.proofs.Reached.{or_cases, or_left, or_right}
use Rattle.regular_expr.proofs.Tracks.{Sounds, Completes, Tracks, ends_sound, ends_complete}
use Rattle.regular_expr.proofs.Moving.{moved_sound, moved_complete, none_sound, none_complete}

-- what stands behind a place
past_end : (text : List ℕ) (i : ℕ) → drop i text ≡ [] → length text ≤ i
past_end text i e = omega (arith, length-drop i text, ap length e)

next_byte : (text : List ℕ) (i b : ℕ) (rest : List ℕ) → drop i text ≡ b ∷ rest → slice_get text i ≡ Some b
next_byte [] zero b rest e = absurd (cc)
next_byte [] (suc i) b rest e = absurd (cc)
next_byte (x ∷ text) zero b rest e =
    let same : x ≡ b = cc in
    ap Some same
next_byte (x ∷ text) (suc i) b rest e = next_byte text i b rest e

next_rest : (text : List ℕ) (i b : ℕ) (rest : List ℕ) → drop i text ≡ b ∷ rest → drop (suc i) text ≡ rest
next_rest [] zero b rest e = absurd (cc)
next_rest [] (suc i) b rest e = absurd (cc)
next_rest (x ∷ text) zero b rest e = cc
next_rest (x ∷ text) (suc i) b rest e = next_rest text i b rest e

-- at the end, and before it
behind_end : (fold : Bool) (text : List ℕ) (shape : Shape) (i : ℕ) (m : List Bool) → slice_get text i ≡ None
    → is_behind fold shape (before text i) m [] ≡ ends (here_in fold text i) shape true m
unfolding is_behind
behind_end fold text shape i m none = ap (λ (o : Option ℕ). ends (place_at fold (before text i) o) shape true m) (sym none)

behind_next : (fold : Bool) (text : List ℕ) (shape : Shape) (i : ℕ) (m : List Bool) (b : ℕ) (rest : List ℕ) → slice_get text i ≡ Some b
    → is_behind fold shape (before text i) m (b ∷ rest)
    ≡ (ends (here_in fold text i) shape true m
    || is_behind fold shape (before text (suc i)) (moved (here_in fold text i) shape true m) rest)
unfolding is_behind
behind_next fold text shape i m b rest some =
    ap (λ (o : Option ℕ). ends (place_at fold (before text i) o) shape true m
    || is_behind fold shape o (moved (place_at fold (before text i) o) shape true m) rest) (sym some)

-- a pattern may begin at each place
abbrev Everywhere : ℕ → Type 0
Everywhere j = Unit {0}

abbrev Found : Bool → List ℕ → Shape → Type 0
Found fold text shape = (start end : ℕ) × (end ≤ length text) × Spans fold text shape start end

moved_on_sound : (fold : Bool) (text : List ℕ) (shape : Shape) (i : ℕ) (m : List Bool)
    → Tracks Sounds fold text i shape Everywhere m
    → Tracks Sounds fold text (suc i) shape Everywhere (moved (here_in fold text i) shape true m)
moved_on_sound fold text shape i m t =
    subst (Tracks Sounds fold text (suc i) shape Everywhere) (append-nil (moved (here_in fold text i) shape true m))
    (moved_sound fold text i shape Everywhere true m [] t (λ h. tt))

moved_on_complete : (fold : Bool) (text : List ℕ) (shape : Shape) (i : ℕ) (m : List Bool)
    → Tracks Completes fold text i shape Everywhere m
    → Tracks Completes fold text (suc i) shape Everywhere (moved (here_in fold text i) shape true m)
moved_on_complete fold text shape i m t =
    subst (Tracks Completes fold text (suc i) shape Everywhere) (append-nil (moved (here_in fold text i) shape true m))
    (moved_complete fold text i shape Everywhere true m [] t (λ h. refl))

found_here : (fold : Bool) (text : List ℕ) (shape : Shape) (i : ℕ) (m : List Bool) → i ≤ length text
    → Tracks Sounds fold text i shape Everywhere m → ends (here_in fold text i) shape true m ≡ true → Found fold text shape
found_here fold text shape i m within t h =
    let w = ends_sound fold text i shape Everywhere true m t (λ e. tt) h in
    (w.0, i, within, w.2)

behind_sound : (fold : Bool) (text : List ℕ) (shape : Shape) (rest : List ℕ) (i : ℕ) (m : List Bool) → drop i text ≡ rest
    → i ≤ length text → Tracks Sounds fold text i shape Everywhere m → is_behind fold shape (before text i) m rest ≡ true
    → Found fold text shape
behind_sound fold text shape [] i m e within t h =
    found_here fold text shape i m within t (sym (behind_end fold text shape i m (slice_get_past text i (past_end text i e))) ∙ h)
behind_sound fold text shape (b ∷ rest) i m e within t h =
    let some : slice_get text i ≡ Some b = next_byte text i b rest e in
    let more : suc i ≤ length text = omega (arith, slice_get_within text i b some) in
    ⊎_elim
    (λ (here : ends (here_in fold text i) shape true m ≡ true). found_here fold text shape i m within t here)
    (λ (later : is_behind fold shape (before text (suc i)) (moved (here_in fold text i) shape true m) rest ≡ true).
    behind_sound fold text shape rest (suc i) (moved (here_in fold text i) shape true m) (next_rest text i b rest e) more
    (moved_on_sound fold text shape i m t) later)
    (or_cases (ends (here_in fold text i) shape true m)
    (is_behind fold shape (before text (suc i)) (moved (here_in fold text i) shape true m) rest)
    (sym (behind_next fold text shape i m b rest some) ∙ h))

reached_here : (fold : Bool) (text : List ℕ) (shape : Shape) (i j start : ℕ) (m : List Bool)
    → Tracks Completes fold text i shape Everywhere m → j ≡ i → Spans fold text shape start j
    → ends (here_in fold text i) shape true m ≡ true
reached_here fold text shape i j start m t same spans =
    ends_complete fold text i shape Everywhere true m t (λ e. refl) (start, tt, subst (Spans fold text shape start) same spans)

behind_complete : (fold : Bool) (text : List ℕ) (shape : Shape) (j start : ℕ) → j ≤ length text → Spans fold text shape start j
    → (rest : List ℕ) (i : ℕ) (m : List Bool) → drop i text ≡ rest → i ≤ j → Tracks Completes fold text i shape Everywhere m
    → is_behind fold shape (before text i) m rest ≡ true
behind_complete fold text shape j start within spans [] i m e le t =
    let past : length text ≤ i = past_end text i e in
    let same : j ≡ i = omega arith in
    behind_end fold text shape i m (slice_get_past text i past) ∙ reached_here fold text shape i j start m t same spans
behind_complete fold text shape j start within spans (b ∷ rest) i m e le t =
    behind_next fold text shape i m b rest (next_byte text i b rest e)
    ∙ ⊎_elim
    (λ (later : i < j).
    or_right (ends (here_in fold text i) shape true m)
    (is_behind fold shape (before text (suc i)) (moved (here_in fold text i) shape true m) rest)
    (behind_complete fold text shape j start within spans rest (suc i) (moved (here_in fold text i) shape true m)
    (next_rest text i b rest e) later (moved_on_complete fold text shape i m t)))
    (λ (here : j ≤ i).
    let same : j ≡ i = omega arith in
    or_left (ends (here_in fold text i) shape true m)
    (is_behind fold shape (before text (suc i)) (moved (here_in fold text i) shape true m) rest)
    (reached_here fold text shape i j start m t same spans))
    (cases_lt i j)

pub search_spans : IsFoundWhereItSpans
search_spans fold text shape = (
  λ h. behind_sound fold text shape text zero [] refl (omega arith) (none_sound fold text shape Everywhere) h,
  λ w. behind_complete fold text shape w.1 w.0 w.2 w.3 text zero [] refl (omega arith) (none_complete fold text shape Everywhere),
)
