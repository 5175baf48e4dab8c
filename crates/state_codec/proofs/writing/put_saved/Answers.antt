use Rattle.std.proofs.Common.{◌≡◌, ◌++◌, ℕ, List, [], length, sym, ap, ◌∙◌, arith}
use Rattle.std.proofs.lemmas.List.{length-append}
use Rattle.profile.specs.declared.profile.Profile.{Profile}
use Rattle.state_codec.specs.Sealed.{checksum_len, sealed}
use Rattle.state_codec.specs.SavedState.{SavedState}
use Rattle.state_codec.specs.Spelling.{fields_of, head_bytes, parts_bytes, saved_bytes, with_fields}
use Rattle.state_codec.proofs.LengthLaws.{end_len, fields_behind}
use Rattle.state_codec.proofs.writing.put_saved.Goals as goal

pub put_parts-requires : goal.put_parts-requires
put_parts-requires c =
    let s = c.args.saved.now in
    omega (
      arith,
      c.saved_len.ensures,
      end_len s.profile s.changed s.place (head_bytes s ++ parts_bytes s),
      c.in_ok-out.ensures.exact,
      c.in_ok-out.ensures.len,
      c.in_ok-out.out.ok.0,
    )

pub put_fields-requires : goal.put_fields-requires
put_fields-requires c =
    let s = c.args.saved.now in
    omega (
      arith,
      c.saved_len.ensures,
      end_len s.profile s.changed s.place (head_bytes s ++ parts_bytes s),
      c.in_ok-out.ensures.exact,
      c.in_ok-out.ensures.len,
      c.put_parts.ensures.capacity,
      ap length c.put_parts.ensures.items,
      length-append c.in_ok-out.out.items (head_bytes s ++ parts_bytes s),
      c.in_ok-out.out.ok.0,
      c.put_parts.new.out.ok.0,
    )

pub put_sum-requires-clause-room : goal.put_sum-requires-clause-room
put_sum-requires-clause-room c =
    let s = c.args.saved.now in
    omega (
      arith,
      c.saved_len.ensures,
      end_len s.profile s.changed s.place (head_bytes s ++ parts_bytes s),
      ap (λ (p : Profile). checksum_len p) c.profile.ensures,
      c.in_ok-out.ensures.exact,
      c.in_ok-out.ensures.len,
      c.put_parts.ensures.capacity,
      ap length c.put_parts.ensures.items,
      length-append c.in_ok-out.out.items (head_bytes s ++ parts_bytes s),
      c.put_fields.ensures.capacity,
      ap length c.put_fields.ensures.items,
      length-append c.put_parts.new.out.items (fields_of s),
      c.in_ok-out.out.ok.0,
      c.put_fields.new.out.ok.0,
    )

-- what was put
all_put : (s : SavedState) (profile : Profile) (none parts fields all : List ℕ) → none ≡ [] → parts ≡ none ++ (head_bytes s ++ parts_bytes s)
    → fields ≡ parts ++ fields_of s → all ≡ sealed profile fields → profile ≡ s.profile
    → all ≡ saved_bytes s
all_put s profile none parts fields all empty first second third same =
    let text = head_bytes s ++ parts_bytes s in
    let front : parts ≡ text = first ∙ ap (λ (l : List ℕ). l ++ text) empty in
    let told : fields ≡ with_fields s.profile s.changed s.place text =
    second ∙ ap (λ (l : List ℕ). l ++ fields_of s) front ∙ sym (fields_behind s.profile s.changed s.place text) in
    third ∙ ap (λ (l : List ℕ). sealed profile l) told ∙ ap (λ (p : Profile). sealed p (with_fields s.profile s.changed s.place text)) same

pub returns-clause-spelled : goal.returns-clause-spelled
returns-clause-spelled c =
    all_put c.args.saved.now c.profile.result c.in_ok-out.out.items c.put_parts.new.out.items c.put_fields.new.out.items
    c.put_sum.new.out.items c.in_ok-out.ensures.items c.put_parts.ensures.items c.put_fields.ensures.items c.put_sum.ensures.items
    c.profile.ensures

pub returns-clause-full : goal.returns-clause-full
returns-clause-full c =
    let s = c.args.saved.now in
    let told = all_put s c.profile.result c.in_ok-out.out.items c.put_parts.new.out.items c.put_fields.new.out.items
    c.put_sum.new.out.items c.in_ok-out.ensures.items c.put_parts.ensures.items c.put_fields.ensures.items c.put_sum.ensures.items
    c.profile.ensures in
    omega (
      arith,
      c.saved_len.ensures,
      c.in_ok-out.ensures.exact,
      c.put_parts.ensures.capacity,
      c.put_fields.ensures.capacity,
      c.put_sum.ensures.capacity,
      ap length told,
      c.put_sum.new.out.ok.0,
    )
