-- The shares of all passes, by kinds.
use Rattle.std.proofs.Common.{◌≡◌, ℕ, ◌+◌, List, [], ◌∷◌, Result, Ok, Err, OnOk, IfOk, IfErr, MatchResult, refl, sym, ap, subst, ◌∙◌, arith}
use Rattle.std.proofs.lemmas.List.Sums.{sum_by-cons}
use Rattle.live_stage.specs.declared.turn.Receipt.{Receipt}
use Rattle.live_stage.specs.LiveState.{LiveState}
use Rattle.stage_workers.specs.declared.kind.Kind.{Kind}
use Rattle.stage_workers.specs.declared.kind.Kind.TheVariants.{Clients, Player, Scan}
use Rattle.stage_workers.specs.declared.refusal.SettleError.{SettleError}
use Rattle.stage_workers.specs.declared.refusal.SettleError.TheVariants.{ShareMismatch, ReceiptMismatch}
use Rattle.stage_workers.specs.PassState.{PassState, BooksState}
use Rattle.stage_workers.specs.Books.{total_of}
use Rattle.stage_workers.specs.Settling.{share_in, shares_of, shares_in, back_of, full_of, ClosingBooks, IsFirstShort, IsForeign, IsReason, IsReceiptsReason, AllAgree}

pub one_kind : (kind : Kind) (seen share : ℕ)
    → (let p : PassState = record { kind = kind; seen = seen; share = share } in share_in Clients p + share_in Player p + share_in Scan p) ≡ share
one_kind Clients seen share = omega arith
one_kind Player seen share = omega arith
one_kind Scan seen share = omega arith

-- each event of each pass is of one kind
pub kinds_add_up : (passes : List PassState) → shares_of Clients passes + shares_of Player passes + shares_of Scan passes ≡ shares_in passes
kinds_add_up [] = refl
kinds_add_up (p ∷ ps) = omega (arith, one_kind p.kind p.seen p.share, kinds_add_up ps, sum_by-cons (share_in Clients) p ps, sum_by-cons (share_in Player) p ps, sum_by-cons (share_in Scan) p ps, sum_by-cons (λ (q : PassState). q.share) p ps)

module _ {D : Type 0} (live : LiveState D) (books : BooksState) (passes : List PassState) (receipts : List Receipt) (returned : ClosingBooks)
    (back : (kind : Kind) → back_of kind returned ≡ shares_of kind passes) (full : (kind : Kind) → full_of kind returned ≡ total_of kind books) where
  pub short_is_reason : (kind : Kind) → IsFirstShort returned kind → IsReason live books passes receipts (ShareMismatch kind)
  short_is_reason Clients short = λ same. short (back Clients ∙ same ∙ sym (full Clients))
  short_is_reason Player short = (sym (back Clients) ∙ short.0 ∙ full Clients, λ same. short.1 (back Player ∙ same ∙ sym (full Player)))
  short_is_reason Scan short = (
    sym (back Clients) ∙ short.0 ∙ full Clients,
    sym (back Player) ∙ short.1 ∙ full Player,
    λ same. short.2 (back Scan ∙ same ∙ sym (full Scan)),
  )

-- what is known of the stage that was settled is known of the one that is handed back, which is the same
pub shares_settled : {D : Type 0} (live : LiveState D) (passes : List PassState) (r : Result (LiveState D) (SettleError × LiveState D))
    → OnOk r (shares_in passes ≡ live.numbers.event) → MatchResult r (λ l. l ≡ live) (λ e. e.1 ≡ live)
    → IfOk r (λ l. shares_in passes ≡ l.numbers.event)
shares_settled {D = D} live passes (Ok l) all same = all ∙ ap (λ (l : LiveState D). l.numbers.event) (sym same)
shares_settled live passes (Err e) all same = tt

pub receipts_settled : {D : Type 0} (live : LiveState D) (receipts : List Receipt) (r : Result (LiveState D) (SettleError × LiveState D))
    → OnOk r (AllAgree live receipts) → MatchResult r (λ l. l ≡ live) (λ e. e.1 ≡ live) → IfOk r (λ l. AllAgree l receipts)
receipts_settled {D = D} live receipts (Ok l) all same = subst (λ (l : LiveState D). AllAgree l receipts) (sym same) all
receipts_settled live receipts (Err e) all same = tt

pub foreign_settled : {D : Type 0} (live : LiveState D) (books : BooksState) (passes : List PassState) (receipts : List Receipt)
    (r : Result (LiveState D) (SettleError × LiveState D)) → IfErr r (λ e. IsReason live books passes receipts e.0)
    → MatchResult r (λ l. l ≡ live) (λ e. e.1 ≡ live) → IfErr r (λ e. IsReceiptsReason e.1 receipts e.0)
foreign_settled live books passes receipts (Ok l) reason same = tt
foreign_settled live books passes receipts (Err (ShareMismatch kind, l)) reason same = tt
foreign_settled {D = D} live books passes receipts (Err (ReceiptMismatch event, l)) reason same =
    subst (λ (l : LiveState D). IsForeign l receipts event) (sym same) reason.1
