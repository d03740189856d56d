use Rattle.std.proofs.Common.{sym, ◌∙◌, ap}
use Rattle.dsl_lexer.specs.Scan.{piece_len}
use Rattle.dsl_lexer.proofs.lexer.take_front.Goals as goal

pub separate-requires-clause-room : goal.separate-requires-clause-room
separate-requires-clause-room c =
    let e = sym (c.piece_len-len.ensures ∙ ap (λ s. piece_len s c.args.rest.now) c.first_shape-shape.ensures) ∙ c.in-Some.is in
    (c.requires.can c.in-Some.len e).room

pub separate-requires-clause-some : goal.separate-requires-clause-some
separate-requires-clause-some c =
    let e = sym (c.piece_len-len.ensures ∙ ap (λ s. piece_len s c.args.rest.now) c.first_shape-shape.ensures) ∙ c.in-Some.is in
    (c.requires.can c.in-Some.len e).some
