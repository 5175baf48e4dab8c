-- A journal that was opened, and is brought to the layout that is written.
use Rattle.std.proofs.Common.{◌≡◌, ◌≢◌, true, false, refl, ℕ, ◌+◌, ◌-◌, ◌^◌, ◌<◌, min, length, Ok, Err, Result, ap, ◌∙◌, arith}
use Rattle.std.specs.Prelude.{IfOk, MatchResult}
use Rattle.std.proofs.lemmas.Bool.{eq-eqb, ne_eqb}
use Rattle.profile.specs.declared.profile.Profile.{Profile}
use Rattle.state_codec.specs.Layout.{written_layout}
use Rattle.state_codec.specs.SavedState.{SavedState}
use Rattle.live_stage.specs.Turns.{is_old, migrated, with_state}
use Rattle.play_journal.specs.Content.{Content, last_record}
use Rattle.live_stage.specs.Numbers.{Numbers, numbers_found}
use Rattle.live_stage.proofs.StartLaws.{numbers_are}

-- ---- numbers

-- a stage goes on from the numbers of the files that were opened
pub numbers_on : (content : Content) (base count now : ℕ) → content.base ≡ base → length content.records ≡ count → base + count < 2 ^ 64
    → now ≡ base + count → record { event = 0; last_record = min now (2 ^ 64 - 1) } ≡ numbers_found content
numbers_on content base count now is_base is_count small same =
    let numbers : ℕ → Numbers = λ last. record { event = 0; last_record = min last (2 ^ 64 - 1) } in
    ap (λ (n : ℕ). numbers n) same ∙ numbers_are content base count is_base is_count small

-- the last record of the files is the one that is counted
pub last_is : (content : Content) (base count : ℕ) → content.base ≡ base → length content.records ≡ count → base + count < 2 ^ 64
    → min (base + count) (2 ^ 64 - 1) ≡ last_record content
last_is content base count is_base is_count small = omega (arith, is_base, is_count, small)

-- ---- what an answer says

pub ok_then : {T E : Type 0} {P Q : T → Type 0} (r : Result T E) → IfOk r P → ((x : T) → P x → Q x) → IfOk r Q
ok_then (Ok x) p more = more x p
ok_then (Err e) p more = tt

pub match_then : {T E : Type 0} {P Q : T → Type 0} {R S : E → Type 0} (r : Result T E) → MatchResult r P R
    → ((x : T) → P x → Q x) → ((e : E) → R e → S e) → MatchResult r Q S
match_then (Ok x) p more_ok more_err = more_ok x p
match_then (Err e) p more_ok more_err = more_err e p

pub match_both : {T E : Type 0} {P P' Q : T → Type 0} {R R' S : E → Type 0} (r : Result T E) → MatchResult r P R → MatchResult r P' R'
    → ((x : T) → P x → P' x → Q x) → ((e : E) → R e → R' e → S e) → MatchResult r Q S
match_both (Ok x) p also more_ok more_err = more_ok x p also
match_both (Err e) p also more_ok more_err = more_err e p also

-- ---- a journal in the layout that is written, or in another one

pub same_is_not_old : (p : Profile) (layout : ℕ) → layout ≡ written_layout p → is_old p layout ≡ false
same_is_not_old p layout is = rw (eq-eqb layout (written_layout p) is) refl

pub other_is_old : (p : Profile) (layout : ℕ) → layout ≢ written_layout p → is_old p layout ≡ true
other_is_old p layout other = rw (ne_eqb layout (written_layout p) other) refl

pub migrated_same : (content : Content) (s : SavedState) → content.layout ≡ written_layout s.profile → migrated content s ≡ content
migrated_same content s is = rw (same_is_not_old s.profile content.layout is) refl

pub migrated_other : (content : Content) (s : SavedState) → content.layout ≢ written_layout s.profile → migrated content s ≡ with_state content s
migrated_other content s other = rw (other_is_old s.profile content.layout other) refl
