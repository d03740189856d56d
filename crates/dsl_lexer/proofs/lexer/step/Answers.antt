use Rattle.std.proofs.Common.{arith}
use Rattle.std.proofs.lemmas.List.{take_rest}
use Rattle.dsl_lexer.proofs.Taking.{has_room, can_take, step_goes, step_stops}
use Rattle.dsl_lexer.proofs.Ending.{stop_uncut}
use Rattle.dsl_lexer.proofs.lexer.step.Goals as goal

pub take_front-requires-clause-can : goal.take_front-requires-clause-can
take_front-requires-clause-can c =
    rw (take_rest c.args.bytes.now c.args.layout.now.spot.at) (can_take c.args.file c.args.bytes.now c.args.valid c.args.layout.now c.requires.reached c.requires.valid c.requires.small c.requires.more)

pub take_front-requires-clause-few : goal.take_front-requires-clause-few
take_front-requires-clause-few c =
    let room = has_room c.args.file c.args.bytes.now c.args.valid c.args.layout.now 0 c.requires.reached (omega arith) c.requires.small in
    let few = room.tokens in
    let at = room.bytes in
    omega arith

pub returns-clause-on : goal.returns-clause-on
returns-clause-on c =
    let gives = rw (take_rest c.args.bytes.now c.args.layout.now.spot.at) at c.take_front.ensures in
    step_goes c.args.file c.args.bytes.now c.args.valid c.args.layout.now _ c.take_front.result c.requires.reached c.requires.valid c.requires.more gives

pub returns-clause-fault : goal.returns-clause-fault
returns-clause-fault c =
    let gives = rw (take_rest c.args.bytes.now c.args.layout.now.spot.at) at c.take_front.ensures in
    step_stops c.args.file c.args.bytes.now c.args.valid c.args.layout.now _ c.take_front.result c.requires.reached c.requires.valid c.requires.more gives

pub returns-clause-uncut : goal.returns-clause-uncut
returns-clause-uncut c =
    let gives = rw (take_rest c.args.bytes.now c.args.layout.now.spot.at) at c.take_front.ensures in
    stop_uncut c.args.file c.args.bytes.now c.take_front.result
    (step_stops c.args.file c.args.bytes.now c.args.valid c.args.layout.now _ c.take_front.result c.requires.reached c.requires.valid c.requires.more gives)
