-- What a client is told, line by line.
use Rattle.std.proofs.Common.{◌≡◌, ℕ, ◌+◌, ◌≤◌, Bool, true, false, List, [], ◌∷◌, ◌++◌, length, filter, map, cond, refl, sym, ◌∙◌, ap}
use Rattle.std.proofs.Common.{arith, append_assoc, length-append}
use Rattle.std.specs.Global.{Vec}
use Rattle.std.specs.List.{flat_map}
use Rattle.std.specs.Prelude.{vec_len, vec_capacity}
use Rattle.std.proofs.lemmas.List.{append-nil}
use Rattle.command_text.specs.Answer.{ok, IsFullFor}
use Rattle.command_text.specs.AnswerNames.{changed_line}
use Rattle.idle_masks.specs.Subsystem.{in_printed_order}
use Rattle.idle_masks.specs.Subsystems.{contains}
use Rattle.idle_masks.specs.declared.ready.Report.{Report}
use Rattle.idle_masks.specs.declared.subsystem.Subsystem.{Subsystem}
use Rattle.idle_masks.specs.declared.subsystem.Subsystems.{Subsystems}
use Rattle.daemon_core.specs.Step.{line_if, told, told_to}
use Rattle.daemon_core.specs.declared.outcome.Output.{Output}
use Rattle.daemon_core.specs.declared.tell.TellRoom.{TellRoom}

-- the lines of those that are listed are the lines of all, where the others have none
pub lines_of_listed : (p : Subsystem → Bool) (xs : List Subsystem) →
    flat_map changed_line (filter p xs) ≡ flat_map (λ x. line_if (p x) x) xs
lines_of_listed p [] = refl
lines_of_listed p (x ∷ xs) = one (p x) (lines_of_listed p xs)
  where
    one : (b : Bool) → flat_map changed_line (filter p xs) ≡ flat_map (λ y. line_if (p y) y) xs →
        flat_map changed_line (cond b (x ∷ filter p xs) (filter p xs)) ≡ line_if b x ++ flat_map (λ y. line_if (p y) y) xs
    one true h = ap (λ r. changed_line x ++ r) h
    one false h = h

-- no line is longer where it is left out
pub line_if_fits : (b : Bool) (x : Subsystem) → length (line_if b x) ≤ length (changed_line x)
line_if_fits true x = omega arith
line_if_fits false x = omega arith

pub lines_fit : (p : Subsystem → Bool) (xs : List Subsystem) →
    length (flat_map (λ x. line_if (p x) x) xs) ≤ length (flat_map changed_line xs)
lines_fit p [] = omega arith
lines_fit p (x ∷ xs) =
    omega (
      arith,
      line_if_fits (p x) x,
      lines_fit p xs,
      length-append (line_if (p x) x) (flat_map (λ y. line_if (p y) y) xs),
      length-append (changed_line x) (flat_map changed_line xs),
    )

-- behind the lines of all there is room for the last one
lines_of_all : length (flat_map changed_line in_printed_order) ≡ 181
lines_of_all = refl

last_line : length ok ≡ 3
last_line = refl

pub room_for_last : (changed : Subsystems) (before now : Vec ℕ) → before.items ≡ [] → 184 ≤ vec_capacity before →
    now.items ≡ before.items ++ flat_map (λ x. line_if (contains changed x) x) in_printed_order → vec_capacity before ≤ vec_capacity now →
    IsFullFor now ok → ⊥
room_for_last changed before now empty room lines kept full =
    let told = ap length (lines ∙ ap (λ t. t ++ flat_map (λ x. line_if (contains changed x) x) in_printed_order) empty) in
    omega (arith, told, lines_fit (contains changed) in_printed_order, lines_of_all, last_line, now.ok.0, room, kept, full)

-- What stands in the text, and what is left to be added, make the lines of all; and there is room for what is left.
pub record SoTold (changed : Subsystems) (all rest : List Subsystem) (before now : Vec ℕ) : Type 0 where
  pub lines : now.items ++ flat_map (λ x. line_if (contains changed x) x) rest ≡ before.items ++ flat_map
      (λ x. line_if (contains changed x) x) all
  pub room : vec_len now + length (flat_map changed_line rest) ≤ vec_capacity now
  pub kept : vec_capacity before ≤ vec_capacity now

pub so_told_begins : (changed : Subsystems) (all : List Subsystem) (before : Vec ℕ) →
    vec_len before + length (flat_map changed_line all) ≤ vec_capacity before →
    SoTold changed all all before before
so_told_begins changed all before room = record { lines = refl; room = room; kept = omega arith }

-- there is room for the next line
pub room_for_next : (changed : Subsystems) (all whole rest : List Subsystem) (x : Subsystem) (before now : Vec ℕ) → whole ≡ x ∷ rest →
    SoTold changed all whole before now →
    vec_len now + length (changed_line x) ≤ vec_capacity now
room_for_next changed all whole rest x before now parts far =
    let room = rw parts at far.room in
    omega (arith, room, length-append (changed_line x) (flat_map changed_line rest))

pub so_told_more : (changed : Subsystems) (all whole rest : List Subsystem) (x : Subsystem) (b : Bool) (before now after : Vec ℕ) →
    whole ≡ x ∷ rest → b ≡ contains changed x →
    SoTold changed all whole before now → after.items ≡ now.items ++ line_if b x → vec_capacity now ≤ vec_capacity after →
    SoTold changed all rest before after
so_told_more changed all whole rest x b before now after parts is far adds room =
    let lines = rw parts at far.lines in
    let fits = rw parts at far.room in
    record {
      lines = ap (λ i. i ++ flat_map (λ y. line_if (contains changed y) y) rest) (adds ∙ ap (λ c. now.items ++ line_if c x) is)
          ∙ append_assoc now.items (line_if (contains changed x) x) (flat_map (λ y. line_if (contains changed y) y) rest) ∙ lines;
      room = omega (
        arith,
        fits,
        room,
        ap length adds,
        length-append now.items (line_if b x),
        line_if_fits b x,
        length-append (changed_line x) (flat_map changed_line rest),
      );
      kept = omega (arith, far.kept, room);
    }

pub so_told_ends : (changed : Subsystems) (all rest : List Subsystem) (before now : Vec ℕ) → length rest ≡ 0 →
    SoTold changed all rest before now →
    now.items ≡ before.items ++ flat_map (λ x. line_if (contains changed x) x) all
so_told_ends changed all [] before now empty far = sym (append-nil now.items) ∙ far.lines
so_told_ends changed all (x ∷ rest) before now empty far = absurd (omega (arith, empty))

-- the lines of all ten
pub all_told : (changed : Subsystems) (text : List ℕ) → text ≡ flat_map (λ x. line_if (contains changed x) x) in_printed_order →
    text ++ ok ≡ told changed
all_told changed text h = ap (λ t. t ++ ok) (h ∙ sym (lines_of_listed (contains changed) in_printed_order))

-- The outputs that stand, and the reports that are left, make the outputs of all; and there is room for what is left.
pub record AllSoFar (all rest : List Report) (first rooms : Vec TellRoom) (before now : Vec Output) : Type 0 where
  pub outputs : now.items ++ map told_to rest ≡ before.items ++ map told_to all
  pub many : length rest ≤ vec_len rooms
  pub left : vec_len rooms + length all ≡ vec_len first + length rest
  pub room : vec_len now + length rest ≤ vec_capacity now
