-- The body of a record: ops that are read are spelled so, and what is spelled so is read.
use Rattle.std.proofs.Common.{◌≡◌, ℕ, zero, suc, ◌+◌, ◌-◌, ◌<◌, ◌≤◌, ◌⊎◌, Bool, true, false, cond, eqb, List, [], ◌∷◌, ◌++◌, length, Result}
use Rattle.std.proofs.Common.{Ok, Err, refl, sym, ap, subst, ◌∙◌, append_assoc, arith, inl, inr}
use Rattle.std.specs.Prelude.{IfOk}
use Rattle.std.specs.Global.{Vec}
use Rattle.std.specs.List.{AllByRecursion}
use Rattle.std.proofs.lemmas.Bool.{ne_eqb}
use Rattle.std.proofs.lemmas.List.{append-nil, length-append}
use Rattle.std.proofs.lemmas.List.Concat.{flat_map-cons}
use Rattle.profile.specs.declared.profile.Profile.{Profile}
use Rattle.profile.specs.declared.profile.Profile.TheVariants.{Named, Wide}
use Rattle.state_codec.specs.declared.refusal.CodecError.{CodecError}
use Rattle.state_codec.specs.declared.layout.Layout.{Layout}
use Rattle.state_codec.specs.declared.op.Op.{Op}
use Rattle.state_codec.specs.declared.op.Op.TheVariants.{SetOption, SetVolume, SetOrder, Queue, List as OfList, Sticker, Batch, Place, Timed}
use Rattle.state_codec.specs.declared.op.setting.Setting.{Setting}
use Rattle.state_codec.specs.declared.op.setting.Setting.TheVariants as settings
use Rattle.state_codec.specs.SavedState.{IsBytes}
use Rattle.state_codec.specs.Ops.{IsOp, IsKeptOp, AreOps}
use Rattle.state_codec.specs.Steps.{◌>>=◌}
use Rattle.state_codec.specs.Sealed.{sealed, unsealed}
use Rattle.state_codec.specs.Spelling.{ops_bytes, body_bytes}
use Rattle.state_codec.specs.SpellingOps.{op_bytes}
use Rattle.state_codec.specs.Layout.{layout_2, layout_3, layout_of, written_layout, IsSettingIn, IsOpIn, AreOpsIn}
use Rattle.state_codec.specs.Reading.{in_bytes, front_ops, ops_reading, ops_reading_in}
use Rattle.state_codec.specs.ReadingOps.{op_at, ops_at}
use Rattle.state_codec.specs.Answers.{GivesOps, op_error}
use Rattle.state_codec.specs.Given.{Fails}
use Rattle.state_codec.specs.declared.fields.ReadError.{ReadError}
use Rattle.state_codec.specs.declared.fields.ReadError.TheVariants.{Fault, NoMemory}
use Rattle.state_codec.proofs.FieldLaws.{bind_ok, ok_is, consume_written, Takes}
use Rattle.state_codec.proofs.OpLaws.{op_takes, op_again, op_spelled}
use Rattle.state_codec.proofs.SealedLaws.{unseals, seals, front_fits}

-- which way a test went
chosen : {A : Type 0} (b : Bool) (x y z : A) → cond b x y ≡ z → ((b ≡ true) × (x ≡ z)) ⊎ ((b ≡ false) × (y ≡ z))
chosen true x y z e = inl (refl, e)
chosen false x y z e = inr (refl, e)

-- what ops that are read in a layout are
abbrev ReadOps : Layout → List Op → Type 0
ReadOps layout ops = AllByRecursion IsOp ops × (AreOpsIn layout ops × AllByRecursion (IsKeptOp layout.profile) ops)

ops_take : (layout : Layout) (n : ℕ) (bytes : List ℕ) (ops : List Op) → IsBytes bytes → ops_at layout n bytes ≡ Ok ops
    → (bytes ≡ ops_bytes layout.profile ops) × ReadOps layout ops
unfolding ops_at
ops_take layout n [] ops fits e =
    subst (λ (x : List Op). ([] ≡ ops_bytes layout.profile x) × ReadOps layout x) (ok_is [] ops e) (refl, (tt, (tt, tt)))
ops_take layout zero (b ∷ rest) ops fits e = absurd cc
ops_take layout (suc n) (b ∷ rest) ops fits e =
    let first = bind_ok (op_at layout (b ∷ rest)) _ ops e in
    let others = bind_ok (ops_at layout n first.0.1) _ ops first.2 in
    let one = op_takes layout (b ∷ rest) first.0 fits first.1 in
    let more = ops_take layout n first.0.1 others.0 one.0.rest_fits others.1 in
    let whole : b ∷ rest ≡ ops_bytes layout.profile (first.0.0 ∷ others.0) = one.0.parts
    ∙ ap (λ (x : List ℕ). op_bytes layout.profile first.0.0 ++ x) more.0
    ∙ sym (flat_map-cons (op_bytes layout.profile) first.0.0 others.0) in
    subst (λ (x : List Op). (b ∷ rest ≡ ops_bytes layout.profile x) × ReadOps layout x)
    (ok_is (first.0.0 ∷ others.0) ops others.2)
    (whole, ((one.1.0, more.1.0), ((one.1.1.0, more.1.1.0), (one.1.1.1, more.1.1.1))))

-- reading goes on at bytes that are not at their end
ops_step : (layout : Layout) (n : ℕ) (bytes : List ℕ) → 0 < length bytes
    → ops_at layout (suc n) bytes ≡ (op_at layout bytes >>= λ first. ops_at layout n first.1 >>= λ others. Ok (first.0 ∷ others))
unfolding ops_at
ops_step layout n [] some = absurd (omega arith)
ops_step layout n (b ∷ rest) some = refl

ops_ended : (layout : Layout) (n : ℕ) (bytes : List ℕ) → length bytes ≡ 0 → ops_at layout n bytes ≡ Ok []
unfolding ops_at
ops_ended layout n [] none = refl
ops_ended layout n (b ∷ rest) none = absurd (omega arith)

ops_again : (layout : Layout) (ops : List Op) (n : ℕ) → AllByRecursion IsOp ops → AllByRecursion (IsOpIn layout) ops
    → AllByRecursion (IsKeptOp layout.profile) ops → length (ops_bytes layout.profile ops) ≤ n
    → ops_at layout n (ops_bytes layout.profile ops) ≡ Ok ops
ops_again layout [] n fits in_layout kept le = ops_ended layout n [] refl
ops_again layout (op ∷ ops) zero fits in_layout kept le =
    absurd (omega (
      arith,
      op_spelled layout.profile op,
      length-append (op_bytes layout.profile op) (ops_bytes layout.profile ops),
    ))
ops_again layout (op ∷ ops) (suc n) fits in_layout kept le =
    let front = op_bytes layout.profile op in
    let back = ops_bytes layout.profile ops in
    let some : 0 < length (front ++ back) = omega (arith, op_spelled layout.profile op, length-append front back) in
    let less : length back ≤ n = omega (arith, op_spelled layout.profile op, length-append front back) in
    ops_step layout n (front ++ back) some ∙ rw (
      op_again layout op back fits.0 in_layout.0 kept.0,
      ops_again layout ops n fits.1 in_layout.1 kept.1 less,
    ) refl

-- ---- the whole body

in_bytes_ok : {A : Type 0} (bytes : List ℕ) (r : Result A ℕ) (x : A) → in_bytes bytes r ≡ Ok x → r ≡ Ok x
in_bytes_ok bytes (Ok y) x e = e
in_bytes_ok bytes (Err d) x e = absurd cc

some_ops : (profile : Profile) (bytes : List ℕ) (ops : List Op) → eqb (length bytes) 0 ≡ false → bytes ≡ ops_bytes profile ops
    → 0 < length ops
some_ops profile bytes [] some e =
    let none : length bytes ≡ 0 = ap length e in absurd (let h : eqb (length bytes) 0 ≡ true = rw none refl in cc)
some_ops profile bytes (op ∷ ops) some e = omega arith

-- bytes without their checksum
front_read : (layout : Layout) (bytes : List ℕ) (ops : List Op) → IsBytes bytes → front_ops layout bytes ≡ Ok ops
    → (AreOps layout.profile ops × AreOpsIn layout ops) × (bytes ≡ ops_bytes layout.profile ops)
front_read layout bytes ops fits e =
    elim (chosen (eqb (length bytes) 0) _ _ (Ok ops) e) [
      | inl none ↦ let h = none.1 in absurd cc
      | inr some ↦
          let t = ops_take layout (length bytes) bytes ops fits (in_bytes_ok bytes (ops_at layout (length bytes) bytes) ops some.1) in
          (((some_ops layout.profile bytes ops some.0 t.0, (t.1.0, t.1.1.1)), t.1.1.0), t.0)
    ]

body_read : (layout : Layout) (bytes : List ℕ) (ops : List Op) → IsBytes bytes → ops_reading_in layout bytes ≡ Ok ops
    → (AreOps layout.profile ops × AreOpsIn layout ops) × (bytes ≡ body_bytes layout.profile ops)
body_read layout bytes ops fits e =
    let front = bind_ok (unsealed layout.profile bytes) (front_ops layout) ops e in
    let read = front_read layout front.0 ops (front_fits layout.profile bytes front.0 fits front.1) front.2 in
    (read.0, seals layout.profile bytes front.0 front.1 ∙ ap (sealed layout.profile) read.1)

pub body_takes : (layout : Layout) (bytes : List ℕ) (ops : List Op) → IsBytes bytes → ops_reading_in layout bytes ≡ Ok ops
    → AreOps layout.profile ops × (bytes ≡ body_bytes layout.profile ops)
body_takes layout bytes ops fits e = let read = body_read layout bytes ops fits e in (read.0.0, read.1)

-- the layout has their values
pub body_within : (layout : Layout) (bytes : List ℕ) (ops : List Op) → IsBytes bytes → ops_reading_in layout bytes ≡ Ok ops
    → AreOpsIn layout ops
body_within layout bytes ops fits e = (body_read layout bytes ops fits e).0.1

some_bytes : (profile : Profile) (ops : List Op) → 0 < length ops → eqb (length (ops_bytes profile ops)) 0 ≡ false
some_bytes profile [] some = absurd (omega arith)
some_bytes profile (op ∷ ops) some =
    ne_eqb _ _ (λ (none : length (op_bytes profile op ++ ops_bytes profile ops) ≡ 0). omega (
      arith,
      op_spelled profile op,
      length-append (op_bytes profile op) (ops_bytes profile ops),
    ))

front_again : (layout : Layout) (ops : List Op) → AreOps layout.profile ops → AreOpsIn layout ops
    → front_ops layout (ops_bytes layout.profile ops) ≡ Ok ops
front_again layout ops fits in_layout =
    let bytes = ops_bytes layout.profile ops in
    rw (some_bytes layout.profile ops fits.0, ops_again layout ops (length bytes) fits.1.0 in_layout fits.1.1 (omega arith)) refl

pub body_again_in : (layout : Layout) (ops : List Op) → AreOps layout.profile ops → AreOpsIn layout ops
    → ops_reading_in layout (body_bytes layout.profile ops) ≡ Ok ops
body_again_in layout ops fits in_layout =
    ap (λ (front : Result (List ℕ) ℕ). front >>= front_ops layout) (unseals layout.profile (ops_bytes layout.profile ops))
    ∙ front_again layout ops fits in_layout

-- the layout that is written has the values of every op
setting_written : (profile : Profile) (value : Setting) → IsSettingIn (layout_of (written_layout profile)) value
setting_written profile (settings.Repeat on) = tt
setting_written profile (settings.Random on) = tt
setting_written profile (settings.Single value) = tt
setting_written profile (settings.Consume value) = consume_written profile value

in_written : (profile : Profile) (op : Op) → IsOpIn (layout_of (written_layout profile)) op
in_written profile (SetOption value) = setting_written profile value
in_written profile (SetVolume volume) = tt
in_written profile (SetOrder order) = tt
in_written profile (Queue op) = tt
in_written profile (OfList op) = tt
in_written profile (Sticker op) = tt
in_written profile (Batch changes) = tt
in_written profile (Place op) = tt
in_written profile (Timed seconds) = tt

all_written : (profile : Profile) (ops : List Op) → AreOpsIn (layout_of (written_layout profile)) ops
all_written profile [] = tt
all_written profile (op ∷ ops) = (in_written profile op, all_written profile ops)

pub body_again : (profile : Profile) (ops : List Op) → AreOps profile ops
    → ops_reading (written_layout profile) (body_bytes profile ops) ≡ Ok ops
body_again Named ops fits = body_again_in layout_2 ops fits (all_written Named ops)
body_again Wide ops fits = body_again_in layout_3 ops fits (all_written Wide ops)

pub body_found : (layout : Layout) (bytes : List ℕ) (r : Result (Vec Op) CodecError) → IsBytes bytes
    → GivesOps r (ops_reading_in layout bytes)
    → IfOk r (λ ops. AreOps layout.profile ops.items × (bytes ≡ body_bytes layout.profile ops.items))
body_found layout bytes (Ok ops) fits given = body_takes layout bytes ops.items fits given
body_found layout bytes (Err e) fits given = tt

pub body_in : (layout : Layout) (bytes : List ℕ) (r : Result (Vec Op) CodecError) → IsBytes bytes
    → GivesOps r (ops_reading_in layout bytes) → IfOk r (λ ops. AreOpsIn layout ops.items)
body_in layout bytes (Ok ops) fits given = body_within layout bytes ops.items fits given
body_in layout bytes (Err e) fits given = tt

pub body_only : (layout : Layout) (bytes : List ℕ) (r : Result (Vec Op) CodecError) (ops : List Op) → AreOps layout.profile ops
    → AreOpsIn layout ops → bytes ≡ body_bytes layout.profile ops → GivesOps r (ops_reading_in layout bytes) → GivesOps r (Ok ops)
body_only layout bytes r ops fits within e given =
    subst (GivesOps r) (ap (ops_reading_in layout) e ∙ body_again_in layout ops fits within) given

-- ---- one op after the other, as a loop reads

-- what was read before, and what is still read
abbrev pub with_front : List Op → Result (List Op) ℕ → Result (List Op) ℕ
with_front front read = read >>= λ ops. Ok (front ++ ops)

regroup : (front : List Op) (op : Op) (read : Result (List Op) ℕ)
    → with_front front (read >>= λ ops. Ok (op ∷ ops)) ≡ with_front (front ++ op ∷ []) read
regroup front op (Ok ops) = ap (λ (x : List Op). Ok x) (simp append_assoc)
regroup front op (Err f) = refl

-- what a loop keeps, with so many bytes in all
pub record ReadSoFar (layout : Layout) (total : ℕ) (front : List Op) (rest : List ℕ) (all : Result (List Op) ℕ) : Type 0 where
  pub reads : with_front front (ops_at layout (total - length front) rest) ≡ all
  pub enough : length front + length rest ≤ total
  pub rest_fits : IsBytes rest

pub so_far_begins : (layout : Layout) (bytes : List ℕ) → IsBytes bytes
    → ReadSoFar layout (length bytes) [] bytes (ops_at layout (length bytes) bytes)
so_far_begins layout bytes fits =
    let front : List Op = [] in
    let k : length bytes - length front ≡ length bytes = omega arith in
    record {
      reads = ap (λ (n : ℕ). with_front [] (ops_at layout n bytes)) k ∙ nothing (ops_at layout (length bytes) bytes);
      enough = omega arith;
      rest_fits = fits;
    } where
      nothing : (read : Result (List Op) ℕ) → with_front [] read ≡ read
      nothing (Ok ops) = refl
      nothing (Err f) = refl

op_shorter : (profile : Profile) (rest : List ℕ) (op : Op) (after : List ℕ) → Takes rest (op_bytes profile op) after
    → length after < length rest
op_shorter profile rest op after t = omega (arith, ap length t.parts, length-append (op_bytes profile op) after, op_spelled profile op)

pub falls : (layout : Layout) (total : ℕ) (front : List Op) (rest : List ℕ) (op : Op) (after : List ℕ) (all : Result (List Op) ℕ)
    → op_at layout rest ≡ Ok (op, after) → ReadSoFar layout total front rest all → length after < length rest
falls layout total front rest op after all e so_far = op_shorter layout.profile rest op after (op_takes layout rest (op, after) so_far.rest_fits e).0

pub goes_on : (layout : Layout) (total : ℕ) (front : List Op) (rest : List ℕ) (op : Op) (after : List ℕ) (all : Result (List Op) ℕ)
    → op_at layout rest ≡ Ok (op, after)
    → ReadSoFar layout total front rest all → ReadSoFar layout total (front ++ op ∷ []) after all
goes_on layout total front rest op after all e so_far =
    let t = op_takes layout rest (op, after) so_far.rest_fits e in
    let shorter : length after < length rest = op_shorter layout.profile rest op after t.0 in
    let len : length (front ++ op ∷ []) ≡ suc (length front) = omega (arith, length-append front (op ∷ [])) in
    let k : total - length front ≡ suc (total - length (front ++ op ∷ [])) = omega (arith, so_far.enough) in
    let step : ops_at layout (total - length front) rest ≡ (ops_at layout (total - length (front ++ op ∷ [])) after >>= λ ops. Ok (op ∷
    ops)) =
    ap (λ (n : ℕ). ops_at layout n rest) k ∙ ops_step layout (total - length (front ++ op ∷ [])) rest (omega arith) ∙ rw e refl in
    record {
      reads = sym (regroup front op (ops_at layout (total - length (front ++ op ∷ [])) after)) ∙ ap (with_front front) (sym step)
          ∙ so_far.reads;
      enough = omega (arith, so_far.enough);
      rest_fits = t.0.rest_fits;
    }

-- what the body reads as, once its ops are
pub body_is : (layout : Layout) (bytes : List ℕ) (read : Result (List Op) ℕ) → eqb (length bytes) 0 ≡ false
    → ops_at layout (length bytes) bytes ≡ read
    → front_ops layout bytes ≡ in_bytes bytes read
body_is layout bytes read some e = rw (some, e) refl

pub stops : (layout : Layout) (bytes : List ℕ) (front : List Op) (rest : List ℕ) (error : ReadError) → eqb (length bytes) 0 ≡ false
    → 0 < length rest
    → Fails error (op_at layout rest)
    → ReadSoFar layout (length bytes) front rest (ops_at layout (length bytes) bytes)
    → GivesOps (Err (op_error (length bytes) error)) (front_ops layout bytes)
stops layout bytes front rest NoMemory some more e so_far = tt
stops layout bytes front rest (Fault left) some more e so_far =
    let total = length bytes in
    let k : total - length front ≡ suc (total - length front - 1) = omega (arith, so_far.enough) in
    let step : ops_at layout (total - length front) rest ≡ Err left = ap (λ (n : ℕ). ops_at layout n rest) k
    ∙ ops_step layout (total - length front - 1) rest more ∙ rw e refl in
    body_is layout bytes (Err left) some (sym so_far.reads ∙ ap (with_front front) step)

pub is_done : (layout : Layout) (total : ℕ) (front : List Op) (rest : List ℕ) (all : Result (List Op) ℕ) → length rest ≡ 0
    → ReadSoFar layout total front rest all
    → all ≡ Ok front
is_done layout total front rest all none so_far =
    sym so_far.reads ∙ ap (with_front front) (ops_ended layout (total - length front) rest none)
    ∙ ap (λ (x : List Op). Ok x) (append-nil front)
