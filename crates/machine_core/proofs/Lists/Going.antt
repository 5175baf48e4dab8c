-- What it means that a block of a playlist goes to a place of the rest, or that songs come to one.
use Rattle.std.proofs.Common.{◌≡◌, ℕ, ◌+◌, ◌-◌, ◌<◌, ◌≤◌, Bool, true, false, nat_le, nat_lt, List, [], ◌∷◌, length, Option, Some, None, Result}
use Rattle.std.proofs.Common.{Ok, Err, zero, suc, cond, refl, sym, ap, subst, ◌∙◌, arith}
use Rattle.std.proofs.lemmas.Bool.Decides.{nat_tests}
use Rattle.std.proofs.lemmas.Bool.{false≢true}
use Rattle.std.proofs.lemmas.Slice.Eq.{bytes_eq-Decides}
use Rattle.std.specs.List.{AllByRecursion}
use Rattle.std.specs.Prelude.{IsOk, IsTrue, if◌then◌else◌, min}
use Rattle.std.specs.Str.{bytes_eq}
use Rattle.command_text.specs.declared.range.PositionRange.{PositionRange}
use Rattle.command_text.specs.declared.range.PositionRange.TheVariants.{One, From, Between}
use Rattle.command_text.specs.declared.refusal.CommandRefusal.{CommandRefusal}
use Rattle.command_text.specs.declared.refusal.CommandRefusal.TheVariants.{BadIndex, BadPlaylistName}
use Rattle.state_codec.specs.Applied.{after_all}
use Rattle.state_codec.specs.SavedState.{SavedState}
use Rattle.state_codec.specs.declared.op.Op.TheVariants.{List as OfLists}
use Rattle.state_codec.specs.declared.op.list_op.ListOp.{ListOp}
use Rattle.state_codec.specs.declared.op.list_op.ListOp.TheVariants.{Add}
use Rattle.stored_lists.proofs.Absent.{songs_or_none_present}
use Rattle.stored_lists.specs.Lists.{IsWithinLimits, Stored, name_refusal, songs_of, songs_or_none}
use Rattle.stored_lists.specs.Name.{is_good_name}
use Rattle.stored_lists.specs.Refusal.{Answers}
use Rattle.stored_lists.specs.Songs.{AreUris, Uris}
use Rattle.stored_lists.specs.declared.refusal.ListsError.{ListsError}
use Rattle.machine_core.specs.Changed.{same_lists}
use Rattle.machine_core.specs.ListMoves.{adds_songs_at, block_moves, moves_songs, of_lists, puts_in, together, with_block_at}
use Rattle.machine_core.specs.Lists.{list_name}
use Rattle.machine_core.specs.Meaning.{Meant, does, edits, refusal_of_all, says, stands, unless_refused}
use Rattle.machine_core.specs.Spans.{count_of, span_in, unless_past}
use Rattle.machine_core.specs.State.{MachineState}
use Rattle.machine_core.specs.Told.{told}
use Rattle.machine_core.specs.declared.span.Span.{Span}
use Rattle.machine_core.proofs.Lists.Moves.{Brings}
use Rattle.machine_core.proofs.Lists.Whole.{block_brings, no_moves}
use Rattle.machine_core.proofs.SameParts.{lists_decide}

pub well_named : (name text : List ℕ) → list_name name ≡ Ok text → is_good_name name ≡ true
well_named name text is = of (is_good_name name) is
  where
    of : (b : Bool) → (if b then Ok name else Err BadPlaylistName) ≡ Ok text → b ≡ true
    of true is = refl
    of false is = absurd (cc)

-- a playlist that is there has a name that it may have
good_there : (lists : Stored) (name : List ℕ) (songs : Uris)
    → AllByRecursion (λ (list : List ℕ × Uris). IsTrue (is_good_name list.0) × AreUris list.1) lists → songs_of lists name ≡ Some songs
    → is_good_name name ≡ true
good_there [] name songs good found = absurd (cc)
good_there (list ∷ lists) name songs good found =
    of (bytes_eq name list.0) refl found (good_there lists name songs good.1)
  where
    of : (b : Bool) → bytes_eq name list.0 ≡ b → cond b (Some list.1) (songs_of lists name) ≡ Some songs
        → (songs_of lists name ≡ Some songs → is_good_name name ≡ true) → is_good_name name ≡ true
    of true same found rest = ap is_good_name ((bytes_eq-Decides name list.0).0 same) ∙ good.0.0
    of false other found rest = rest found

not_both : (T : Type 0) (lists : Stored) (name : List ℕ) (songs : Uris) (e : ListsError) → is_good_name name ≡ true
    → songs_of lists name ≡ Some songs → Answers {T = T} (name_refusal lists name) (Err e) → ⊥
not_both T lists name songs e good found answer =
    let free : name_refusal lists name ≡ None = rw (good, found) refl in
    let no : Answers {T = T} None (Err e) = subst (λ o. Answers {T = T} o (Err e)) free answer in
    false≢true no

-- where a look-up of a good name is refused, there is no such playlist
pub missing_there : (T : Type 0) (lists : Stored) (name : List ℕ) (e : ListsError) → is_good_name name ≡ true
    → Answers {T = T} (name_refusal lists name) (Err e) → songs_of lists name ≡ None
missing_there T lists name e good answer = of (songs_of lists name) refl
  where
    of : (o : Option Uris) → songs_of lists name ≡ o → o ≡ None
    of None missing = refl
    of (Some songs) found = absurd (not_both T lists name songs e good found answer)

-- and there are no songs of any name
pub none_there : (T : Type 0) (lists : Stored) (name : List ℕ) (e : ListsError) → IsWithinLimits lists
    → Answers {T = T} (name_refusal lists name) (Err e) → songs_or_none lists name ≡ []
none_there T lists name e within answer = of (songs_of lists name) refl
  where
    of : (o : Option Uris) → songs_of lists name ≡ o → songs_or_none lists name ≡ []
    of None missing = rw missing refl
    of (Some songs) found =
        absurd (not_both T lists name songs e (good_there lists name songs within.good_lists found) found answer)

-- a block ends within the playlist
abbrev end_of : Result Span CommandRefusal → ℕ
end_of (Ok block) = block.end
end_of (Err refusal) = 0

ends_within : (start end count : ℕ) (block : Span) → unless_past start end count ≡ Ok block → block.end ≤ count
ends_within start end count block is = of (nat_le start count) is
  where
    of : (b : Bool) → (if b then Ok (record { start = start; end = min end count }) else Err BadIndex) ≡ Ok block → block.end ≤ count
    of true is = let same : min end count ≡ block.end = ap end_of is in omega (arith, same)
    of false is = absurd (cc)

one_within : (position count : ℕ) (block : Span)
    → (if nat_lt position count then Ok (record { start = position; end = suc position }) else Err BadIndex) ≡ Ok block → block.end ≤ count
one_within position count block is = of (nat_lt position count) refl is
  where
    of : (b : Bool) → nat_lt position count ≡ b
        → (if b then Ok (record { start = position; end = suc position }) else Err BadIndex) ≡ Ok block → block.end ≤ count
    of true under is =
        let within : position < count = grind (arith, nat_tests, under) in
        let same : suc position ≡ block.end = ap end_of is in
        omega (arith, same, within)
    of false under is = absurd (cc)

pub span_end : (range : PositionRange) (count : ℕ) (block : Span) → span_in range count ≡ Ok block → block.end ≤ count
unfolding span_in
span_end (One position) count block is = one_within position count block is
span_end (From start) count block is = ends_within start count count block is
span_end (Between start end) count block is = ends_within start end count block is

-- no song of an empty block goes
pub empty_stays : (name : List ℕ) (block : Span) (to : ℕ) (s : SavedState) → count_of block ≡ 0
    → true ≡ same_lists s.lists (after_all (of_lists (block_moves name block to)) s).lists
empty_stays name block to s empty =
    sym (ap (λ ops. same_lists s.lists (after_all (of_lists ops) s).lists) (no_moves name block to empty)
    ∙ (lists_decide s.lists s.lists).1 refl)

-- none of the ops of a block is refused
pub block_free : (name : List ℕ) (block : Span) (to count : ℕ) (s : SavedState) → is_good_name name ≡ true
    → length (songs_or_none s.lists name) ≡ count → block.end ≤ count → to + count_of block ≤ count
    → refusal_of_all (of_lists (block_moves name block to)) s ≡ None
block_free name block to count s good long inside fits = of (count_of block) refl (songs_of s.lists name) refl
  where
    of : (n : ℕ) → count_of block ≡ n → (o : Option Uris) → songs_of s.lists name ≡ o
        → refusal_of_all (of_lists (block_moves name block to)) s ≡ None
    of zero is o found = ap (λ ops. refusal_of_all (of_lists ops) s) (no_moves name block to is)
    of (suc n) is (Some songs) found =
        let many : length songs ≡ count = ap length (sym (songs_or_none_present s.lists name songs found)) ∙ long in
        let brought : Brings (block_moves name block to) name s (with_block_at songs block to) =
        block_brings name block to s songs good found (omega (arith, is)) (omega (arith, inside, many)) (omega (arith, fits, many)) in
        brought.free
    of (suc n) is None missing =
        let none : length (songs_or_none s.lists name) ≡ 0 = rw missing refl in
        let no : ⊥ = omega (arith, is, none, long, inside) in absurd no

-- ops of which none is refused: they are made, or they leave the playlists as they are
pub together_stands : (ops : List ListOp) (m : MachineState) → refusal_of_all (of_lists ops) m.saved ≡ None
    → same_lists m.saved.lists (after_all (of_lists ops) m.saved).lists ≡ true → together ops m ≡ Ok (stands [] m)
together_stands ops m free same =
    ap (λ o. unless_refused (told o) (if same_lists m.saved.lists (after_all (of_lists ops) m.saved).lists then stands [] m
    else does [] (of_lists ops) m.player m)) free
    ∙ ap (λ b. Ok (if b then stands [] m else does [] (of_lists ops) m.player m)) same

pub together_does : (ops : List ListOp) (m : MachineState) → refusal_of_all (of_lists ops) m.saved ≡ None
    → same_lists m.saved.lists (after_all (of_lists ops) m.saved).lists ≡ false
    → together ops m ≡ Ok (does [] (of_lists ops) m.player m)
together_does ops m free other =
    ap (λ o. unless_refused (told o) (if same_lists m.saved.lists (after_all (of_lists ops) m.saved).lists then stands [] m
    else does [] (of_lists ops) m.player m)) free
    ∙ ap (λ b. Ok (if b then stands [] m else does [] (of_lists ops) m.player m)) other

-- a place past the rest is refused, another isn't
pub moves_past : (name : List ℕ) (block : Span) (to count : ℕ) (m : MachineState) → count - count_of block < to
    → moves_songs name block to count m ≡ Err BadIndex
moves_past name block to count m past =
    let no : nat_le to (count - count_of block) ≡ false = grind (arith, nat_tests, past) in
    ap (λ b. if b then together (block_moves name block to) m else Err BadIndex) no

pub moves_within : (name : List ℕ) (block : Span) (to count : ℕ) (m : MachineState) → to ≤ count - count_of block
    → moves_songs name block to count m ≡ together (block_moves name block to) m
moves_within name block to count m within =
    let yes : nat_le to (count - count_of block) ≡ true = grind (arith, nat_tests, within) in
    ap (λ b. if b then together (block_moves name block to) m else Err BadIndex) yes

-- so a block is taken where it fits in
pub block_taken : (name : List ℕ) (block : Span) (to : ℕ) (songs : Uris) (m : MachineState) → is_good_name name ≡ true
    → songs_of m.saved.lists name ≡ Some songs → block.end ≤ length songs → to + count_of block ≤ length songs
    → IsOk (moves_songs name block to (length songs) m)
block_taken name block to songs m good found inside fits =
    of (same_lists m.saved.lists (after_all (of_lists (block_moves name block to)) m.saved).lists) refl
  where
    free : refusal_of_all (of_lists (block_moves name block to)) m.saved ≡ None
    free = block_free name block to (length songs) m.saved good (ap length (songs_or_none_present m.saved.lists name songs found)) inside fits

    within : moves_songs name block to (length songs) m ≡ together (block_moves name block to) m
    within = moves_within name block to (length songs) m (omega (arith, fits))

    of : (b : Bool) → same_lists m.saved.lists (after_all (of_lists (block_moves name block to)) m.saved).lists ≡ b
        → IsOk (moves_songs name block to (length songs) m)
    of true same =
        subst (λ (r : Meant). IsOk r) (sym (within ∙ together_stands (block_moves name block to) m free same)) refl
    of false other =
        subst (λ (r : Meant). IsOk r) (sym (within ∙ together_does (block_moves name block to) m free other)) refl

-- songs come to the end, or past it
behind : (name rows : List ℕ) (at end : ℕ) (m : MachineState) → end ≤ at
    → adds_songs_at name rows at end m ≡ (if nat_lt end at then Err BadIndex else edits (OfLists (Add name rows)) [] m)
behind name rows at end m past =
    let no : nat_lt at end ≡ false = grind (arith, nat_tests, past) in
    ap (λ b. if b then puts_in name rows at end m else (if nat_lt end at then Err BadIndex else edits (OfLists (Add name rows)) [] m)) no

pub adds_past : (name rows : List ℕ) (at end : ℕ) (m : MachineState) → end < at → adds_songs_at name rows at end m ≡ Err BadIndex
adds_past name rows at end m past =
    let yes : nat_lt end at ≡ true = grind (arith, nat_tests, past) in
    behind name rows at end m (omega (arith, past)) ∙ ap (λ b. if b then Err BadIndex else edits (OfLists (Add name rows)) [] m) yes

pub adds_at_end : (name rows : List ℕ) (end : ℕ) (m : MachineState)
    → adds_songs_at name rows end end m ≡ edits (OfLists (Add name rows)) [] m
adds_at_end name rows end m =
    let no : nat_lt end end ≡ false = grind (arith, nat_tests) in
    behind name rows end end m (omega arith) ∙ ap (λ b. if b then Err BadIndex else edits (OfLists (Add name rows)) [] m) no

-- no songs come nowhere
pub puts_none : (name rows : List ℕ) (at end : ℕ) (m : MachineState) → length rows ≡ 0 → puts_in name rows at end m ≡ says [] m
puts_none name [] at end m none = refl
puts_none name (row ∷ rows) at end m none = let no : ⊥ = omega (arith, none) in absurd no
