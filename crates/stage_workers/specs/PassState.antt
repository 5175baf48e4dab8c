-- What contracts see of a pass and of a book.
use Rattle.std.specs.Prelude.{ℕ}
use Rattle.stage_workers.specs.declared.kind.Kind.{Kind}

-- the kind of its events, the number of the last event that it saw, and how many it made
pub record PassState : Type 0 where
  pub kind : Kind
  pub seen : ℕ
  pub share : ℕ

-- how many events there were of a kind, and how many passes of it can still be given out
pub record AccountState : Type 0 where
  pub total : ℕ
  pub passes_left : ℕ

-- how many events there were of a kind, and how many of them the passes made that came back
pub record ClosingState : Type 0 where
  pub total : ℕ
  pub back : ℕ

-- the books of the three kinds
pub record BooksState : Type 0 where
  pub clients : AccountState
  pub player : AccountState
  pub scan : AccountState

-- a pass that has seen and made nothing
abbrev pub new_pass : Kind → PassState
new_pass kind = record { kind = kind; seen = 0; share = 0 }
