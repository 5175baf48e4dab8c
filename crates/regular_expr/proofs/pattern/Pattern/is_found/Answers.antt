use Rattle.regular_expr.specs.Shape.{shape_of}
use Rattle.regular_expr.proofs.Fitting.{pattern_fits}
use Rattle.regular_expr.proofs.pattern.Pattern.is_found.Goals as goal

pub stands_in-requires : goal.stands_in-requires
stands_in-requires c =
    pattern_fits c.self.inside.source.items (record { caseless = c.self.inside.caseless; shape = shape_of c.self.inside.root }) c.self.invariant
