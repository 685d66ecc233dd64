-- That elements may come where they do is known in one way at most.
use Rattle.std.proofs.Common.{ℕ, List, [], ◌∷◌}
use Rattle.std.proofs.Props.{props}
use Rattle.aa_glob_syntax.specs.Elements.{Element, Single, Open, Comma, Close, Fault}
use Rattle.aa_glob_pattern.specs.Elements.{EachMayStand, MayStand}
use Rattle.aa_glob_pattern.specs.Trails.{depth_behind}

may_stand-prop : (depth : ℕ) (e : Element) → IsProp (MayStand depth e)
may_stand-prop depth (Single item) = hlevel props
may_stand-prop depth Open = hlevel props
may_stand-prop depth Comma = hlevel props
may_stand-prop depth Close = hlevel props
may_stand-prop depth (Fault error) = hlevel props

pub stand-prop : (depth : ℕ) (es : List Element) → IsProp (EachMayStand depth es)
stand-prop depth [] = hlevel props
stand-prop depth (e ∷ es) =
    let first = may_stand-prop depth e in
    let rest = stand-prop (depth_behind depth e) es in
    hlevel (props, first, rest)
