-- What the program's own meanings of names stand for in the definitions.
use Rattle.expr_nodes.specs.Names as Names
use Rattle.expr_nodes.specs.Seen.{seen_part}
use Rattle.expr_typing.specs.declared.names.Meaning.{Meaning}

-- what a name means
abbrev pub seen_meaning : Meaning → Names.Meaning
seen_meaning Meaning.Nothing = Names.Nothing
seen_meaning Meaning.Several = Names.Several
seen_meaning (Meaning.Something typed) = Names.Something (seen_part typed)
