-- The profile of a state, of what its files say, and of what its events leave.
use Rattle.std.proofs.Common.{◌≡◌, inl, inr, ℕ, zero, suc, ◌≤◌, true, false, List, [], ◌∷◌, length, Option, Some, None}
use Rattle.std.proofs.Common.{Result, Ok, Err, refl, sym, ap, subst, ◌∙◌, arith}
use Rattle.std.specs.Prelude.{IfSome, ◌==◌, ◌+◌, option_map}
use Rattle.std.specs.List.{AllByRecursion}
use Rattle.std.specs.Option.{ok_or, option_and_then}
use Rattle.std.specs.Result.{result_ok}
use Rattle.std.proofs.lemmas.Bool.{leb-true}
use Rattle.play_journal.specs.Content.{Content, IsWrittenLayout}
use Rattle.profile.specs.declared.profile.Profile.{Profile}
use Rattle.profile.specs.declared.profile.Profile.TheVariants.{Named, Wide}
use Rattle.state_codec.specs.declared.op.Op.{Op}
use Rattle.state_codec.specs.Applied.{all_applied}
use Rattle.state_codec.specs.Fields.{Field}
use Rattle.state_codec.specs.Layout.{layout_of, written_layout, profile_of}
use Rattle.state_codec.specs.Ops.{IsKeptOp}
use Rattle.state_codec.specs.Reading.{in_bytes, ops_reading, saved_reading}
use Rattle.state_codec.specs.ReadingSaved.{before_fields, entries_at, header_at, lists_at, parts_at, saved_at, songs_at, stickers_at}
use Rattle.state_codec.specs.ReadingTimes.{fields_at}
use Rattle.state_codec.specs.SavedState.{SavedState, widened_from}
use Rattle.state_codec.specs.Sealed.{unsealed}
use Rattle.state_codec.specs.Steps.{◌>>=◌}
use Rattle.state_codec.proofs.FieldLaws.{bind_ok, ok_is, passed_ok}
use Rattle.state_codec.proofs.AppliedLaws.{KeepsProfile, all_applied_kept}
use Rattle.live_stage.specs.Decoding.{GivesState, brought_reading}
use Rattle.live_stage.specs.declared.refusal.StartError.{StartError}
use Rattle.live_stage.specs.declared.refusal.StartError.TheVariants.{NotEmpty, NoJournal, Damaged, NoMemory, NumbersSpent, Broken}
use Rattle.live_stage.specs.Found.{after_record, records_reading, stored_reading, content_reading, state_of, is_read, brought, taken_state}

-- ---- ops

applied_keeps : (o : Option SavedState) (ops : List Op) (s t : SavedState) → IfSome o (KeepsProfile ops s) → o ≡ Some t → KeepsProfile ops s t
applied_keeps None ops s t kept is = absurd cc
applied_keeps (Some u) ops s t kept is = let same : u ≡ t = (cc) in subst (KeepsProfile ops s) same kept

-- ops that apply leave the profile, and put rows alone that it keeps
pub profile_stays : (ops : List Op) (s t : SavedState) → all_applied ops s ≡ Some t → t.profile ≡ s.profile
profile_stays ops s t is = (applied_keeps (all_applied ops s) ops s t (all_applied_kept ops s) is).1

pub kept_ops : (ops : List Op) (s t : SavedState) → all_applied ops s ≡ Some t → AllByRecursion (IsKeptOp s.profile) ops
kept_ops ops s t is = (applied_keeps (all_applied ops s) ops s t (all_applied_kept ops s) is).0

-- ---- layouts

-- what a profile writes is a layout that is written
pub written_is : (p : Profile) → IsWrittenLayout (written_layout p)
written_is Named = inl refl
written_is Wide = inr refl

pub written_so : (p : Profile) (layout : ℕ) → layout ≡ written_layout p → IsWrittenLayout layout
written_so p layout is = subst IsWrittenLayout (sym is) (written_is p)

pub own_profile : (p : Profile) → profile_of (written_layout p) ≡ p
own_profile Named = refl
own_profile Wide = refl

pub own_is_read : (p : Profile) → is_read p (written_layout p) ≡ true
own_is_read Named = refl
own_is_read Wide = refl

-- ---- a state that is brought

pub brought_own : (p : Profile) (s : SavedState) → s.profile ≡ p → brought p s ≡ s
brought_own Named s is = refl
brought_own Wide s is = ap (λ (p : Profile). widened_from p s) is

-- the first profile reads files of its own states alone
named_layout : (layout : ℕ) → layout ≤ 2 → profile_of layout ≡ Named
named_layout zero low = refl
named_layout (suc zero) low = refl
named_layout (suc (suc zero)) low = refl
named_layout (suc (suc (suc more))) low = absurd (omega (arith, low))

pub brought_profile : (p : Profile) (layout : ℕ) (s : SavedState) → is_read p layout ≡ true → s.profile ≡ profile_of layout
    → (let t = brought p s in t.profile ≡ p)
brought_profile Named layout s known is = is ∙ named_layout layout (leb-true layout 2 known)
brought_profile Wide layout s known is = wide s.profile refl
  where
    wide : (p : Profile) → s.profile ≡ p → (let t = widened_from p s in t.profile ≡ Wide)
    wide Named is = refl
    wide Wide is = is

-- ---- what was read

pub result_is_ok : {A : Type 0} (r : Result A ℕ) (x : A) → result_ok r ≡ Some x → r ≡ Ok x
result_is_ok (Ok y) x e = let same : y ≡ x = (cc) in ap Ok same
result_is_ok (Err at) x e = cc

-- a snapshot's state has the profile of its layout
fields_profile : (p q : Profile) (field : Field SavedState) (x : SavedState × List ℕ)
    → ((y : SavedState × List ℕ) → field ≡ Ok y → y.0.profile ≡ q) → before_fields p field ≡ Ok x → x.0.profile ≡ q
fields_profile Named q field x has e = has x e
fields_profile Wide q field x has e =
    let parts = bind_ok field _ x e in
    let fields = bind_ok (fields_at parts.0.1) _ x parts.2 in
    sym (ap (λ (y : SavedState × List ℕ). y.0.profile) (ok_is _ x fields.2)) ∙ has parts.0 parts.1

state_at_profile : (number : ℕ) (bytes : List ℕ) (x : SavedState × List ℕ) → saved_at (layout_of number) bytes ≡ Ok x
    → x.0.profile ≡ profile_of number
unfolding saved_at parts_at
state_at_profile number bytes x e =
    let header = bind_ok (header_at (layout_of number) bytes) _ x e in
    fields_profile (profile_of number) (profile_of number) (parts_at (layout_of number) header.0.0 header.0.1) x (λ y is.
    let songs = bind_ok (songs_at (profile_of number) header.0.1) _ y is in
    let entries = bind_ok (entries_at (layout_of number) songs.0.0 header.0.0.version header.0.0.next_id songs.0.1) _ y songs.2 in
    let lists = bind_ok (lists_at (layout_of number) entries.0.1) _ y entries.2 in
    let stickers = bind_ok (stickers_at songs.0.0 lists.0.1) _ y lists.2 in
    sym (ap (λ (z : SavedState × List ℕ). z.0.profile) (ok_is _ y stickers.2))) header.2

in_bytes_ok : (bytes : List ℕ) (r : Result SavedState ℕ) (s : SavedState) → in_bytes bytes r ≡ Ok s → r ≡ Ok s
in_bytes_ok bytes (Ok x) s e = e
in_bytes_ok bytes (Err left) s e = absurd cc

pub snapshot_profile : (number : ℕ) (bytes : List ℕ) (s : SavedState) → saved_reading number bytes ≡ Ok s → s.profile ≡ profile_of number
snapshot_profile number bytes s e =
    let layout = layout_of number in
    let front = bind_ok (unsealed layout.profile bytes) _ s e in
    let read = bind_ok (saved_at layout front.0) _ s (in_bytes_ok front.0 _ s front.2) in
    let whole = passed_ok (length read.0.1 == 0) _ read.0.0 s read.2 in
    ap (λ (t : SavedState). t.profile) (sym whole.1) ∙ state_at_profile number front.0 read.0 read.1

-- records leave it
after_profile : (read : Option (List Op)) (s t : SavedState) → option_and_then (λ ops. all_applied ops s) read ≡ Some t
    → t.profile ≡ s.profile
after_profile None s t is = absurd cc
after_profile (Some ops) s t is = profile_stays ops s t is

records_profile : (layout gate : ℕ) (bodies : List (List ℕ)) (s t : SavedState) → records_reading layout gate bodies s ≡ Ok t
    → t.profile ≡ s.profile
records_profile layout gate [] s t is = let same : s ≡ t = (cc) in ap (λ (u : SavedState). u.profile) (sym same)
records_profile layout gate (body ∷ bodies) s t is =
    (elim (after_record layout body s) as (λ o. after_record layout body s ≡ o
    → (ok_or {E = ℕ} o gate >>= λ next. records_reading layout (gate + (5 + length body)) bodies next) ≡ Ok t → t.profile ≡ s.profile) [
      | None ↦ λ was e. cc
      | Some next ↦ λ was e. records_profile layout (gate + (5 + length body)) bodies next t e
          ∙ after_profile (result_ok (ops_reading layout body)) s next was
    ]) refl is

pub stored_profile : (layout : ℕ) (snapshot : List ℕ) (records : List (List ℕ)) (s : SavedState)
    → stored_reading layout snapshot records ≡ Ok s → s.profile ≡ profile_of layout
unfolding stored_reading
stored_profile layout snapshot records s is =
    (elim (saved_reading layout snapshot) as (λ r. saved_reading layout snapshot ≡ r
    → (ok_or {E = ℕ} (result_ok r) 32 >>= λ first. records_reading layout (32 + length snapshot) records first) ≡ Ok s
    → s.profile ≡ profile_of layout) [
      | Ok first ↦ λ was e. records_profile layout (32 + length snapshot) records first s e ∙ snapshot_profile layout snapshot first was
      | Err at ↦ λ was e. cc
    ]) refl is

pub state_profile : (content : Content) (s : SavedState) → state_of (Some content) ≡ Some s → s.profile ≡ profile_of content.layout
state_profile content s is =
    stored_profile content.layout content.snapshot content.records s (result_is_ok (content_reading content) s is)

-- ---- content under a profile

own_known : (content : Content) (s : SavedState) → content.layout ≡ written_layout s.profile → is_read s.profile content.layout ≡ true
own_known content s layout = ap (λ (n : ℕ). is_read s.profile n) layout ∙ own_is_read s.profile

own_from : (content : Content) (s : SavedState) (o : Option SavedState) → content.layout ≡ written_layout s.profile
    → state_of (Some content) ≡ o → option_map (brought s.profile) o ≡ Some s → o ≡ Some s
own_from content s None layout stands is = absurd cc
own_from content s (Some t) layout stands is =
    let same : brought s.profile t ≡ s = (cc) in
    let own : t.profile ≡ s.profile = state_profile content t stands ∙ ap (λ (n : ℕ). profile_of n) layout ∙ own_profile s.profile in
    ap (λ (u : SavedState). Some u) (sym (brought_own s.profile t own) ∙ same)

-- what is taken of a content in the layout that is written is what it stands for
pub own_state : (content : Content) (s : SavedState) → content.layout ≡ written_layout s.profile
    → taken_state s.profile content ≡ Some s → state_of (Some content) ≡ Some s
own_state content s layout is =
    own_from content s (state_of (Some content)) layout refl (rw (own_known content s layout) at is)

pub taken_of : (p : Profile) (content : Content) (s : SavedState) → is_read p content.layout ≡ true → state_of (Some content) ≡ Some s
    → taken_state p content ≡ Some (brought p s)
taken_of p content s known stands = rw (known, stands) refl

pub taken_own : (content : Content) (s : SavedState) → content.layout ≡ written_layout s.profile → state_of (Some content) ≡ Some s
    → taken_state s.profile content ≡ Some s
taken_own content s layout stands = taken_of s.profile content s (own_known content s layout) stands
    ∙ ap (λ (t : SavedState). Some t) (brought_own s.profile s refl)

-- nothing is taken of a layout that isn't read
pub taken_none : (p : Profile) (content : Content) → is_read p content.layout ≡ false → taken_state p content ≡ None
taken_none p content unread = rw unread refl

-- ---- what a reading gives

pub brought_err : (p : Profile) (r : Result SavedState ℕ) (e : StartError) → GivesState (Err e) (brought_reading p r) → GivesState (Err e) r
brought_err p (Ok s) NotEmpty gives = gives
brought_err p (Ok s) NoJournal gives = gives
brought_err p (Ok s) (Damaged offset) gives = gives
brought_err p (Ok s) NoMemory gives = gives
brought_err p (Ok s) NumbersSpent gives = gives
brought_err p (Ok s) Broken gives = gives
brought_err p (Err at) NotEmpty gives = gives
brought_err p (Err at) NoJournal gives = gives
brought_err p (Err at) (Damaged offset) gives = gives
brought_err p (Err at) NoMemory gives = gives
brought_err p (Err at) NumbersSpent gives = gives
brought_err p (Err at) Broken gives = gives

pub err_brought : (p : Profile) (r : Result SavedState ℕ) (e : StartError) → GivesState (Err e) r → GivesState (Err e) (brought_reading p r)
err_brought p (Ok s) NotEmpty gives = gives
err_brought p (Ok s) NoJournal gives = gives
err_brought p (Ok s) (Damaged offset) gives = gives
err_brought p (Ok s) NoMemory gives = gives
err_brought p (Ok s) NumbersSpent gives = gives
err_brought p (Ok s) Broken gives = gives
err_brought p (Err at) NotEmpty gives = gives
err_brought p (Err at) NoJournal gives = gives
err_brought p (Err at) (Damaged offset) gives = gives
err_brought p (Err at) NoMemory gives = gives
err_brought p (Err at) NumbersSpent gives = gives
err_brought p (Err at) Broken gives = gives

-- the state that was read, before it was brought
pub record WasBrought (p : Profile) (r : Result SavedState ℕ) (s : SavedState) : Type 0 where
  pub first : SavedState
  pub read : r ≡ Ok first
  pub is : brought p first ≡ s

pub was_brought : (p : Profile) (r : Result SavedState ℕ) (s : SavedState) → brought_reading p r ≡ Ok s → WasBrought p r s
was_brought p (Ok t) s is = record { first = t; read = refl; is = (cc) }
was_brought p (Err at) s is = absurd cc
