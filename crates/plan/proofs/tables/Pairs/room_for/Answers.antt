use Rattle.std.proofs.Common.{arith}
use Rattle.plan.proofs.PairPlaces.{found_there, found_none}
use Rattle.plan.proofs.tables.Pairs.room_for.Goals as goal

pub returns-in-Some : goal.returns-in-Some
returns-in-Some c =
    let found = found_there c.args.self.now c.args.entry c.args.other (omega arith) c.in-Some.place c.in-Some.ensures.is_the_first in
    record { is_its_place = found.0; makes_room = found.1 }

pub bounds-self-place : goal.bounds-self-place
bounds-self-place c =
    let none = found_none c.args.self.now c.args.entry c.args.other (omega arith) c.in_default.ensures.is_the_first in
    omega (arith, none.0)

pub returns : goal.returns
returns c =
    let none = found_none c.args.self.now c.args.entry c.args.other (omega arith) c.in_default.ensures.is_the_first in
    record { is_its_place = none.0; makes_room = none.1 }
