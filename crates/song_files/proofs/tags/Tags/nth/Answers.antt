use Rattle.std.proofs.Common.{◌≡◌, suc, ◌-◌, List, drop, sym, ap, ◌∙◌, arith}
use Rattle.std.specs.Prelude.{slice_get}
use Rattle.std.specs.String.{string_bytes}
use Rattle.song_files.specs.Tags.{TagText, texts_of}
use Rattle.song_files.specs.declared.tags.Place.{Place}
use Rattle.song_files.proofs.PlaceList.{nth_of, nth_here, nth_later, nth_other, nth_none}
use Rattle.song_files.proofs.tags.Tags.nth.Goals as goal
use Rattle.song_files.proofs.tags.Tags.nth.Goals.{then-eq+else-left-eq0, else-eq}

pub loop-place-preserved : goal.loop-place-preserved
loop-place-preserved c =
    let bytes = string_bytes c.self.inside.text in
    let places = c.deref-place-items.result.now in
    let found = nth_of bytes c.args.tag c.args.n places in
    elim c.if-eq.branch [
      | then-eq+else-left-eq0 w ↦
          let more : c.loop-place.left ≡ suc (c.loop-place.left - 1) = omega arith in
          rw w.left-is (nth_later bytes c.args.tag places c.loop-place.place-index _ found (c.loop-place.left - 1)
          c.loop-place-test.true (sym c.eq.ensures ∙ w.if-eq.true)
          (ap (λ m. nth_of bytes c.args.tag m (drop c.loop-place.place-index places)) (sym more) ∙ c.loop-place.invariant))
      | else-eq w ↦
          rw w.left-is (nth_other bytes c.args.tag places c.loop-place.place-index _ found c.loop-place.left
          c.loop-place-test.true (sym c.eq.ensures ∙ w.if-eq.false) c.loop-place.invariant)
    ]

pub returns-then-left-eq0 : goal.returns-then-left-eq0
returns-then-left-eq0 c =
    let bytes = string_bytes c.self.inside.text in
    let places = c.deref-place-items.result.now in
    rw (c.text_of.ensures, c.as_str.ensures.value)
    (nth_here bytes c.args.tag places c.loop-place.place-index _ (nth_of bytes c.args.tag c.args.n places) c.loop-place-test.true
    (sym c.eq.ensures ∙ c.if-eq.true)
    (ap (λ m. nth_of bytes c.args.tag m (drop c.loop-place.place-index places)) (sym c.if-left-eq0.true) ∙ c.loop-place.invariant)
    ∙ ap (λ (p : List Place). nth_of bytes c.args.tag c.args.n p) c.deref-place-items.ensures.value
    ∙ ap (λ (tags : List TagText). slice_get (texts_of tags c.args.tag) c.args.n) c.self.view_is)

pub returns : goal.returns
returns c =
    let bytes = string_bytes c.self.inside.text in
    let places = c.deref-place-items.result.now in
    nth_none bytes c.args.tag places c.loop-place.place-index (record { start = 0; len = 0; tag = c.args.tag })
    (nth_of bytes c.args.tag c.args.n places) c.loop-place.left c.loop-place-test.false c.loop-place.invariant
    ∙ ap (λ (p : List Place). nth_of bytes c.args.tag c.args.n p) c.deref-place-items.ensures.value
    ∙ ap (λ (tags : List TagText). slice_get (texts_of tags c.args.tag) c.args.n) c.self.view_is
