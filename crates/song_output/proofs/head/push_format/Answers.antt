use Rattle.std.proofs.Common.{◌≡◌, ℕ, ◌*◌, List, ◌++◌, ap, ◌∙◌, append_assoc}
use Rattle.song_output.specs.Wave.{two_bytes, four_bytes, format_chunk}
use Rattle.song_output.proofs.head.push_format.Goals as goal

-- one piece more behind the pieces so far
more : (a xs p s t r : List ℕ) → s ≡ a ++ xs → t ≡ s ++ r → r ≡ p → t ≡ a ++ (xs ++ p)
more a xs p s t r so_far push piece = push ∙ ap (λ z. z ++ r) so_far ∙ ap (λ z. a ++ xs ++ z) piece ∙ append_assoc a xs p

pub returns : goal.returns
unfolding format_chunk
returns c =
    let a = c.args.bytes.now.items in
    let channels : c.from-channels.result ≡ c.args.info.now.channels = c.from-channels.ensures in
    let same : c.from-2.result ≡ c.args.info.now.channels = c.from-2.ensures ∙ channels in
    let second : c.from.result * c.from-2.result * 2 ≡ c.args.info.now.rate * c.args.info.now.channels * 2 =
    ap (λ n. n * c.from-2.result * 2) c.from.ensures ∙ ap (λ n. c.args.info.now.rate * n * 2) same in
    more a _ _ _ _ _ (more a _ _ _ _ _ (more a _ _ _ _ _ (more a _ _ _ _ _ (more a _ _ _ _ _ (more a _ _ _ _ _ (more a _ _ _ _ _
    c.in_ok-extend_from_slice.ensures.items c.in_ok-extend_from_slice-2.ensures.items c.four_bytes.ensures)
    c.in_ok-extend_from_slice-3.ensures.items c.two_bytes.ensures)
    c.in_ok-extend_from_slice-4.ensures.items (c.two_bytes-2.ensures ∙ ap two_bytes channels))
    c.in_ok-extend_from_slice-5.ensures.items (c.four_bytes-2.ensures ∙ ap four_bytes c.from-3.ensures))
    c.in_ok-extend_from_slice-6.ensures.items (c.four_bytes-3.ensures ∙ ap four_bytes second))
    c.in_ok-extend_from_slice-7.ensures.items (c.two_bytes-3.ensures ∙ ap (λ n. two_bytes (n * 2)) channels))
    c.in_ok-extend_from_slice-8.ensures.items c.two_bytes-4.ensures
