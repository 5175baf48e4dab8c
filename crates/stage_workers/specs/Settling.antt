-- When the passes that came back made all events, and receipts are of events and records that a stage has.
use Rattle.std.specs.Prelude.{◌≡◌, ◌≢◌, ℕ, List, [], ◌∷◌, Bool, true, false, ◌&&◌, nat_le, if◌then◌else◌, Option, None, Some, sum_by}
use Rattle.live_stage.specs.declared.turn.Receipt.{Receipt}
use Rattle.live_stage.specs.LiveState.{LiveState}
use Rattle.stage_workers.specs.declared.kind.Kind.{Kind}
use Rattle.stage_workers.specs.declared.kind.Kind.TheVariants.{Clients, Player, Scan}
use Rattle.stage_workers.specs.declared.refusal.SettleError.{SettleError}
use Rattle.stage_workers.specs.declared.refusal.SettleError.TheVariants.{ShareMismatch, ReceiptMismatch}
use Rattle.stage_workers.specs.PassState.{PassState, BooksState, ClosingState}
use Rattle.stage_workers.specs.Books.{total_of}

-- ---- passes

abbrev pub is_kind : Kind → Kind → Bool
is_kind Clients Clients = true
is_kind Clients Player = false
is_kind Clients Scan = false
is_kind Player Clients = false
is_kind Player Player = true
is_kind Player Scan = false
is_kind Scan Clients = false
is_kind Scan Player = false
is_kind Scan Scan = true

-- the events of this kind that a pass made
abbrev pub share_in : Kind → PassState → ℕ
share_in kind pass = if is_kind kind pass.kind then pass.share else 0

-- the shares of all passes of a kind, added up
abbrev pub shares_of : Kind → List PassState → ℕ
shares_of kind passes = sum_by (share_in kind) passes

-- the shares of all passes, added up
abbrev pub shares_in : List PassState → ℕ
shares_in passes = sum_by (λ p. p.share) passes

-- the passes of this kind made all of its events
abbrev pub AddsUp : BooksState → List PassState → Kind → Type 0
AddsUp books passes kind = shares_of kind passes ≡ total_of kind books

-- ---- receipts

abbrev pub is_recorded : Option ℕ → ℕ → Bool
is_recorded None last = true
is_recorded (Some number) last = nat_le number last

-- A receipt is of an event and of a record that the stage has: its numbers are at most those of the last event, and of the last record in
-- file and snapshot.
abbrev pub agrees : {D : Type 0} → LiveState D → Receipt → Bool
agrees live receipt = nat_le receipt.event live.numbers.event && is_recorded receipt.number live.numbers.last_record

-- the event of the first receipt that doesn't agree
abbrev pub first_foreign : {D : Type 0} → LiveState D → List Receipt → Option ℕ
first_foreign live [] = None
first_foreign live (receipt ∷ receipts) = if agrees live receipt then first_foreign live receipts else Some receipt.event

-- All receipts agree with a stage. Of a broken one nothing is said: what its files give decides.
abbrev pub AllAgree : {D : Type 0} → LiveState D → List Receipt → Type 0
AllAgree live receipts = live.is_broken ≡ false → first_foreign live receipts ≡ None

-- the first receipt that doesn't agree with a stage, which isn't broken, is of this event
pub record IsForeign {D : Type 0} (live : LiveState D) (receipts : List Receipt) (event : ℕ) : Type 0 where
  pub usable : live.is_broken ≡ false
  pub first : first_foreign live receipts ≡ Some event

-- ---- both

-- Why a stage is not settled: the first kind whose shares do not add up, or, where all do, the event of the first receipt that doesn't
-- agree.
abbrev pub IsReason : {D : Type 0} → LiveState D → BooksState → List PassState → List Receipt → SettleError → Type 0
IsReason live books passes receipts (ShareMismatch Clients) = AddsUp books passes Clients → ⊥
IsReason live books passes receipts (ShareMismatch Player) = AddsUp books passes Clients × (AddsUp books passes Player → ⊥)
IsReason live books passes receipts (ShareMismatch Scan) =
    AddsUp books passes Clients × AddsUp books passes Player × (AddsUp books passes Scan → ⊥)
IsReason live books passes receipts (ReceiptMismatch event) =
    ((kind : Kind) → AddsUp books passes kind) × IsForeign live receipts event

-- where the shares add up, a receipt is the reason
abbrev pub IsReceiptsReason : {D : Type 0} → LiveState D → List Receipt → SettleError → Type 0
IsReceiptsReason live receipts (ShareMismatch kind) = Unit {0}
IsReceiptsReason live receipts (ReceiptMismatch event) = IsForeign live receipts event

-- ---- while they come back

-- the books of the three kinds once the passes come back
pub record ClosingBooks : Type 0 where
  pub clients : ClosingState
  pub player : ClosingState
  pub scan : ClosingState

abbrev pub closing_of : Kind → ClosingBooks → ClosingState
closing_of Clients b = b.clients
closing_of Player b = b.player
closing_of Scan b = b.scan

abbrev pub back_of : Kind → ClosingBooks → ℕ
back_of kind b = let book = closing_of kind b in book.back

abbrev pub full_of : Kind → ClosingBooks → ℕ
full_of kind b = let book = closing_of kind b in book.total

-- the passes that came back made all events of each kind
abbrev pub AreWhole : ClosingBooks → Type 0
AreWhole b = (kind : Kind) → back_of kind b ≡ full_of kind b

-- the first kind whose passes, of those that came back, did not make all of its events
abbrev pub IsFirstShort : ClosingBooks → Kind → Type 0
IsFirstShort b Clients = b.clients.back ≢ b.clients.total
IsFirstShort b Player = (b.clients.back ≡ b.clients.total) × (b.player.back ≢ b.player.total)
IsFirstShort b Scan = (b.clients.back ≡ b.clients.total) × (b.player.back ≡ b.player.total) × (b.scan.back ≢ b.scan.total)
