-- Left and right from how they were coded (RFC 9639, section 4.2).
use Rattle.std.specs.Prelude.{ℕ, ◌+◌, List, [], ◌∷◌, ℤ, pos, ◌+ℤ◌, ◌-ℤ◌, ◌*ℤ◌, Result, Ok, Err, ◌&&◌, if◌then◌else◌}
use Rattle.std.specs.List.{list_all}
use Rattle.std.specs.Int.{int_shr}
use Rattle.flac_frames.specs.Bits.{fits}
use Rattle.flac_frames.specs.declared.head.Channels.{Channels}
use Rattle.flac_frames.specs.declared.head.Channels.TheVariants.{Mono, Stereo, LeftSide, SideRight, MidSide}
use Rattle.flac_frames.specs.declared.refusal.FrameError.{FrameError}
use Rattle.flac_frames.specs.declared.refusal.FrameError.TheVariants.{TooLarge}

-- the side channel has one bit more
abbrev pub first_width : Channels → ℕ → ℕ
first_width Mono bits = bits
first_width Stereo bits = bits
first_width LeftSide bits = bits
first_width SideRight bits = bits + 1
first_width MidSide bits = bits

abbrev pub second_width : Channels → ℕ → ℕ
second_width Mono bits = bits
second_width Stereo bits = bits
second_width LeftSide bits = bits + 1
second_width SideRight bits = bits
second_width MidSide bits = bits + 1

-- twice the mean of left and right: the mean has lost its lowest bit, which is that of the side
abbrev pub sum_of : ℤ → ℤ → ℤ
sum_of mid side = pos 2 *ℤ mid +ℤ (side -ℤ pos 2 *ℤ int_shr side 1)

-- the left sample and the right one, from the two that were coded
abbrev pub left_of : Channels → ℤ → ℤ → ℤ
left_of Mono first second = first
left_of Stereo first second = first
left_of LeftSide left side = left
left_of SideRight side right = side +ℤ right
left_of MidSide mid side = int_shr (sum_of mid side +ℤ side) 1

abbrev pub right_of : Channels → ℤ → ℤ → ℤ
right_of Mono first second = second
right_of Stereo first second = second
right_of LeftSide left side = left -ℤ side
right_of SideRight side right = right
right_of MidSide mid side = int_shr (sum_of mid side -ℤ side) 1

unfoldable pub each_pair : (ℤ → ℤ → ℤ) → List ℤ → List ℤ → List ℤ
each_pair f [] seconds = []
each_pair f (first ∷ firsts) [] = []
each_pair f (first ∷ firsts) (second ∷ seconds) = f first second ∷ each_pair f firsts seconds

-- both, where each sample has its width; else the frame is refused
unfoldable pub stereo_from : Channels → ℕ → List ℤ → List ℤ → Result (List (List ℤ)) FrameError
stereo_from channels bits firsts seconds =
    let left = each_pair (left_of channels) firsts seconds in
    let right = each_pair (right_of channels) firsts seconds in
    if list_all (fits bits) left && list_all (fits bits) right then Ok (left ∷ right ∷ []) else Err TooLarge
