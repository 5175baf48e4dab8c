-- The state that is found, as records are added.
use Rattle.std.proofs.Common.{◌≡◌, ◌≢◌, ◌⊎◌, inl, inr, ℕ, ◌+◌, ◌<◌, List, [], ◌∷◌, ◌++◌, length, Some, None, Result, Ok, Err, refl, ap}
use Rattle.std.proofs.Common.{subst, ◌∙◌, arith}
use Rattle.std.specs.Option.{option_and_then, ok_or}
use Rattle.std.specs.Result.{result_ok}
use Rattle.std.specs.List.{AllByRecursion}
use Rattle.disk_model.specs.History.{Change}
use Rattle.disk_model.specs.Images.{window, IsImage}
use Rattle.disk_model.specs.Moments.{LeftSince}
use Rattle.disk_model.proofs.MomentLaws.{now_only}
use Rattle.play_journal.specs.Content.{Content, with_record, IsBeforeOrAfter, IsEither}
use Rattle.play_journal.specs.Pair.{AllPairsNow, AllPairsSince}
use Rattle.profile.specs.declared.profile.Profile.{Profile}
use Rattle.state_codec.specs.declared.op.Op.{Op}
use Rattle.state_codec.specs.SavedState.{SavedState, IsSavedState}
use Rattle.state_codec.specs.Ops.{IsOp, IsKeptOp}
use Rattle.state_codec.specs.Layout.{written_layout}
use Rattle.state_codec.specs.Applied.{all_applied}
use Rattle.state_codec.specs.Spelling.{body_bytes, saved_bytes}
use Rattle.state_codec.specs.Reading.{ops_reading, saved_reading}
use Rattle.state_codec.specs.Steps.{◌>>=◌}
use Rattle.state_codec.proofs.BodyLaws.{body_again}
use Rattle.state_codec.proofs.SavedLaws.{snapshot_again}
use Rattle.live_stage.specs.Turns.{recorded_content, with_state}
use Rattle.live_stage.specs.Found.{after_record, records_reading, stored_reading, content_reading, state_of, taken_state, found_state}
use Rattle.live_stage.specs.Found.{AllFindNow, AllFindSince, AllOpenNow, AllOpenSince}
use Rattle.live_stage.proofs.ProfileLaws.{result_is_ok, kept_ops, taken_own}

-- one record more
records_added : (layout gate : ℕ) (bodies : List (List ℕ)) (body : List ℕ) (first s after : SavedState)
    → records_reading layout gate bodies first ≡ Ok s → after_record layout body s ≡ Some after
    → records_reading layout gate (bodies ++ body ∷ []) first ≡ Ok after
records_added layout gate [] body first s after read applies = let same : first ≡ s = (cc) in rw same (rw applies refl)
records_added layout gate (b ∷ bodies) body first s after read applies =
    (elim (after_record layout b first) as (λ o. (ok_or o gate >>= λ t. records_reading layout (gate + (5 + length b)) bodies t) ≡ Ok s
    → (ok_or o gate >>= λ t. records_reading layout (gate + (5 + length b)) (bodies ++ body ∷ []) t) ≡ Ok after) [
      | None ↦ λ e. cc
      | Some t ↦ λ e. records_added layout (gate + (5 + length b)) bodies body t s after e applies
    ]) read

stored_added : (layout : ℕ) (snapshot : List ℕ) (bodies : List (List ℕ)) (body : List ℕ) (s after : SavedState)
    → stored_reading layout snapshot bodies ≡ Ok s → after_record layout body s ≡ Some after
    → stored_reading layout snapshot (bodies ++ body ∷ []) ≡ Ok after
unfolding stored_reading
stored_added layout snapshot bodies body s after read applies =
    (elim (ok_or {E = ℕ} (result_ok (saved_reading layout snapshot)) 32) as
    (λ (o : Result SavedState ℕ). (o >>= λ t. records_reading layout (32 + length snapshot) bodies t) ≡ Ok s
    → (o >>= λ t. records_reading layout (32 + length snapshot) (bodies ++ body ∷ []) t) ≡ Ok after) [
      | Ok t ↦ λ e. records_added layout (32 + length snapshot) bodies body t s after e applies
      | Err at ↦ λ e. cc
    ]) read

-- a record of these ops, in the layout that is written
ops_applied : (p : Profile) (layout : ℕ) (op : Op) (ops : List Op) (s after : SavedState) → s.profile ≡ p → layout ≡ written_layout p
    → AllByRecursion IsOp (op ∷ ops)
    → all_applied (op ∷ ops) s ≡ Some after → after_record layout (body_bytes p (op ∷ ops)) s ≡ Some after
ops_applied p layout op ops s after own present valid applies =
    let some : 0 < length (op ∷ ops) = omega arith in
    let kept : AllByRecursion (IsKeptOp p) (op ∷ ops) =
    subst (λ (q : Profile). AllByRecursion (IsKeptOp q) (op ∷ ops)) own (kept_ops (op ∷ ops) s after applies) in
    let read : ops_reading (written_layout p) (body_bytes p (op ∷ ops)) ≡ Ok (op ∷ ops) = body_again p (op ∷ ops) (some, (valid, kept)) in
    ap (λ (n : ℕ). after_record n (body_bytes p (op ∷ ops)) s) present
    ∙ ap (λ r. option_and_then (λ o. all_applied o s) (result_ok r)) read ∙ applies

pub record_added : (p : Profile) (content : Content) (op : Op) (ops : List Op) (s after : SavedState)
    → s.profile ≡ p → state_of (Some content) ≡ Some s → content.layout ≡ written_layout p → AllByRecursion IsOp (op ∷ ops)
    → all_applied (op ∷ ops) s ≡ Some after → state_of (Some (with_record content (body_bytes p (op ∷ ops)))) ≡ Some after
record_added p content op ops s after own stands present valid applies =
    ap result_ok (stored_added content.layout content.snapshot content.records (body_bytes p (op ∷ ops)) s after
    (result_is_ok (content_reading content) s stands) (ops_applied p content.layout op ops s after own present valid applies))

-- the content after an event stands for the state after it
pub content_after : (p : Profile) (content after_content : Content) (ops : List Op) (s after : SavedState)
    → s.profile ≡ p → state_of (Some content) ≡ Some s → content.layout ≡ written_layout p → AllByRecursion IsOp ops → all_applied ops s ≡ Some after
    → (ops ≡ [] → after_content ≡ content) → (ops ≢ [] → after_content ≡ with_record content (body_bytes p ops))
    → state_of (Some after_content) ≡ Some after
content_after p content after_content [] s after own stands present valid applies none some =
    ap (λ c. state_of (Some c)) (none refl) ∙ stands ∙ applies
content_after p content after_content (op ∷ ops) s after own stands present valid applies none some =
    ap (λ c. state_of (Some c)) (some (λ e. cc)) ∙ record_added p content op ops s after own stands present valid applies

-- files that give this content give this state
pub find_now : (a b : List Change) (content : Content) (s : SavedState)
    → AllPairsNow (λ f. f ≡ Some content) a b → state_of (Some content) ≡ Some s → AllFindNow (λ f. f ≡ Some s) a b
find_now a b content s pairs stands x y at_x at_y = ap state_of (pairs x y at_x at_y) ∙ stands

pub find_since : (a b : List Change) (content : Content) (s : SavedState)
    → AllPairsNow (λ f. f ≡ Some content) a b → state_of (Some content) ≡ Some s → AllFindSince (λ f. f ≡ Some s) a (length a) b (length b)
find_since a b content s pairs stands x y at_x at_y =
    find_now a b content s pairs stands x y (now_only a x at_x) (now_only b y at_y)

-- nothing was done
pub find_still : (a b : List Change) (content : Content) (s : SavedState) (other : SavedState)
    → AllPairsNow (λ f. f ≡ Some content) a b → state_of (Some content) ≡ Some s
    → AllFindSince (λ f. (f ≡ Some s) ⊎ (f ≡ Some other)) a (length a) b (length b)
find_still a b content s other pairs stands x y at_x at_y = inl (find_since a b content s pairs stands x y at_x at_y)

-- an event's record is written
pub find_either : (p : Profile) (old_a old_b new_a new_b : List Change) (content : Content) (ops : List Op) (s after : SavedState)
    → s.profile ≡ p → AllPairsNow (λ f. f ≡ Some content) old_a old_b → state_of (Some content) ≡ Some s → content.layout ≡ written_layout p
    → AllByRecursion IsOp ops → all_applied ops s ≡ Some after
    → (ops ≡ [] → (new_a ≡ old_a) × (new_b ≡ old_b))
    → (ops ≢ [] → AllPairsSince (IsBeforeOrAfter content (body_bytes p ops)) new_a (length old_a) new_b (length old_b))
    → AllFindSince (λ f. (f ≡ Some s) ⊎ (f ≡ Some after)) new_a (length old_a) new_b (length old_b)
find_either p old_a old_b new_a new_b content [] s after own pairs stands present valid applies none some x y at_x at_y =
    let at_x' : LeftSince old_a (length old_a) x = subst (λ h. LeftSince h (length old_a) x) (none refl).0 at_x in
    let at_y' : LeftSince old_b (length old_b) y = subst (λ h. LeftSince h (length old_b) y) (none refl).1 at_y in
    find_still old_a old_b content s after pairs stands x y at_x' at_y'
find_either p old_a old_b new_a new_b content (op ∷ ops) s after own pairs stands present valid applies none some x y at_x at_y =
    elim (some (λ e. cc) x y at_x at_y) [
      | inl before ↦ inl (ap state_of before ∙ stands)
      | inr added ↦ inr (ap state_of added ∙ record_added p content op ops s after own stands present valid applies)
    ]

-- an event's record was written
pub find_after : (p : Profile) (old_a old_b new_a new_b : List Change) (content after_content : Content) (ops : List Op) (s after : SavedState)
    → s.profile ≡ p → AllPairsNow (λ f. f ≡ Some content) old_a old_b → state_of (Some content) ≡ Some s → content.layout ≡ written_layout p
    → AllByRecursion IsOp ops → all_applied ops s ≡ Some after
    → (ops ≡ [] → (new_a ≡ old_a) × (new_b ≡ old_b))
    → (ops ≢ [] → after_content ≡ with_record content (body_bytes p ops))
    → (ops ≢ [] → AllPairsNow (λ f. f ≡ Some after_content) new_a new_b)
    → AllFindNow (λ f. f ≡ Some after) new_a new_b
find_after p old_a old_b new_a new_b content after_content [] s after own pairs stands present valid applies none added kept x y at_x at_y =
    let at_x' : IsImage (window old_a) x = subst (λ h. IsImage (window h) x) (none refl).0 at_x in
    let at_y' : IsImage (window old_b) y = subst (λ h. IsImage (window h) y) (none refl).1 at_y in
    find_now old_a old_b content s pairs stands x y at_x' at_y' ∙ applies
find_after p old_a old_b new_a new_b content after_content (op ∷ ops) s after own pairs stands present valid applies none added kept x y at_x at_y =
    ap state_of (kept (λ e. cc) x y at_x at_y) ∙ ap (λ c. state_of (Some c)) (added (λ e. cc))
    ∙ record_added p content op ops s after own stands present valid applies

-- what the files say behind an event
pub content_recorded : (p : Profile) (content after : Content) (ops : List Op) → (ops ≡ [] → after ≡ content)
    → (ops ≢ [] → after ≡ with_record content (body_bytes p ops)) → after ≡ recorded_content p content ops
content_recorded p content after [] none some = none refl
content_recorded p content after (op ∷ ops) none some = some (λ e. cc)

-- ---- a snapshot in place of a snapshot and its records

-- it stands for the state that it spells
pub snapshot_stands : (before : Content) (s : SavedState) → IsSavedState s → state_of (Some (with_state before s)) ≡ Some s
unfolding stored_reading
snapshot_stands before s good =
    let read : saved_reading (written_layout s.profile) (saved_bytes s) ≡ Ok s = snapshot_again s good in rw read refl

-- while it is written, the same state is given
pub find_same : (a b : List Change) (t u : ℕ) (content : Content) (s : SavedState) → state_of (Some content) ≡ Some s → IsSavedState s
    → AllPairsSince (IsEither content (with_state content s)) a t b u → AllFindSince (λ f. f ≡ Some s) a t b u
find_same a b t u content s stands good pairs x y at_x at_y = elim (pairs x y at_x at_y) [
  | inl old ↦ ap state_of old ∙ stands
  | inr new ↦ ap state_of new ∙ snapshot_stands content s good
]

-- ---- what a restart finds

-- files that give this content
pub open_now : (a b : List Change) (p : Profile) (content : Content) (s : SavedState) → AllPairsNow (λ f. f ≡ Some content) a b
    → taken_state p content ≡ Some s → AllOpenNow p (λ f. f ≡ Some s) a b
open_now a b p content s pairs stands x y at_x at_y = ap (option_and_then (taken_state p)) (pairs x y at_x at_y) ∙ stands

pub open_since : (a b : List Change) (p : Profile) (content : Content) (s : SavedState) → AllPairsNow (λ f. f ≡ Some content) a b
    → taken_state p content ≡ Some s → AllOpenSince p (λ f. f ≡ Some s) a (length a) b (length b)
open_since a b p content s pairs stands x y at_x at_y =
    open_now a b p content s pairs stands x y (now_only a x at_x) (now_only b y at_y)

-- files that are brought to the layout that is written
pub open_same : (a b : List Change) (t u : ℕ) (content : Content) (s : SavedState) → taken_state s.profile content ≡ Some s → IsSavedState s
    → AllPairsSince (IsEither content (with_state content s)) a t b u → AllOpenSince s.profile (λ f. f ≡ Some s) a t b u
open_same a b t u content s stands good pairs x y at_x at_y = elim (pairs x y at_x at_y) [
  | inl old ↦ ap (option_and_then (taken_state s.profile)) old ∙ stands
  | inr new ↦ ap (option_and_then (taken_state s.profile)) new
      ∙ taken_own (with_state content s) s refl (snapshot_stands content s good)
]
