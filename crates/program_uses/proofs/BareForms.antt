-- What a type holds is told without the members of an enum.
use Rattle.std.proofs.Common.{◌≡◌, refl, ℕ}
use Rattle.expr_nodes.specs.type_heads.Form.{Form}
use Rattle.expr_nodes.specs.type_heads.Shown.{bare}
use Rattle.expr_nodes.specs.type_heads.Table.{is_object}
use Rattle.expr_nodes.specs.Kinds.{kind_of}
use Rattle.expr_nodes.specs.Names.{per_of}

pub kind_bare : (t : ℕ) (f : Form) → kind_of t (bare f) ≡ kind_of t f
kind_bare t (Form.Enum members) = refl
kind_bare t Form.Int = refl
kind_bare t Form.Uint = refl
kind_bare t Form.Float = refl
kind_bare t Form.Truth = refl
kind_bare t Form.Chars = refl
kind_bare t (Form.Physical exponents) = refl
kind_bare t (Form.Compound kind) = refl

pub per_bare : (f : Form) → per_of (bare f) ≡ per_of f
per_bare (Form.Enum members) = refl
per_bare Form.Int = refl
per_bare Form.Uint = refl
per_bare Form.Float = refl
per_bare Form.Truth = refl
per_bare Form.Chars = refl
per_bare (Form.Physical exponents) = refl
per_bare (Form.Compound kind) = refl

pub object_bare : (f : Form) → is_object (bare f) ≡ is_object f
object_bare (Form.Enum members) = refl
object_bare Form.Int = refl
object_bare Form.Uint = refl
object_bare Form.Float = refl
object_bare Form.Truth = refl
object_bare Form.Chars = refl
object_bare (Form.Physical exponents) = refl
object_bare (Form.Compound kind) = refl
