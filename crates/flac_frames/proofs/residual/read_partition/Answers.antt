-- The parameter is not the escape code.
use Rattle.flac_frames.proofs.Codes.{parameter_small}
use Rattle.flac_frames.proofs.residual.read_partition.Goals as goal

pub read_coded-requires : goal.read_coded-requires
read_coded-requires c =
    parameter_small c.args.parameter_bits c.in_ok-parameter.parameter c.power_of_two.result c.requires.most c.power_of_two.ensures c.in_ok-parameter.ensures.small c.if-parameter-power_of_two.false
