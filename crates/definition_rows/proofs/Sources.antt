-- Programs without the library, as trees. Imports are left out, since a program means what its files say together.
use Rattle.std.specs.Prelude.{[], ◌∷◌, None, Some, codes}
use Rattle.dsl_tree.specs.declared.expr.Operator.{Operator}
use Rattle.dsl_tree.specs.declared.expr.RelationSign.{RelationSign}
use Rattle.dsl_tree.specs.declared.expr.RelationSign.TheVariants.{Below as SmallerThan}
use Rattle.dsl_tree.specs.declared.rules.KeepKind.{KeepKind}
use Rattle.dsl_tree.specs.declared.phases.InvokeHead.{InvokeHead}
use Rattle.dsl_tree.specs.declared.compounds.CompoundKind.{CompoundKind}
use Rattle.dsl_tree.specs.declared.compounds.ConditionValue.{ConditionValue}
use Rattle.dsl_tree.specs.ExprTree.{ExprTree, row_of}
use Rattle.dsl_tree.specs.PhaseTree.{RuleTree, PhaseTree}
use Rattle.dsl_tree.specs.FileTree.{MemberTree, DeclarationTree, FileTree}
use Rattle.type_heads.specs.Types.{Program}
use Rattle.definition_rows.proofs.Makers.{at, name_at, digits_at}

-- One value, which a constraint fixes.
--     scenario top:
--         x: int
--         keep(x in [3..3])
abbrev pub single_value_file : FileTree
single_value_file = record {
  imports = [];
  modifiers = [];
  decls =
      DeclarationTree.CompoundDeclaration
      (record {
        place = at 0 1 1 0;
        kind = CompoundKind.Scenario;
        name = record { first = name_at (at 0 1 10 1) (codes "top"); second = None };
        heir = None;
        members = MemberTree.Field
            (record {
              names = name_at (at 0 2 5 5) (codes "x") ∷ [];
              list = None;
              of = name_at (at 0 2 8 7) (codes "int");
              initial = None;
              rules = [];
            })
            ∷ MemberTree.Rule
            (RuleTree.Keep (at 0 3 5 9) KeepKind.Plain
            (ExprTree.Relation (at 0 3 12 12) RelationSign.Within
            (ExprTree.Name (name_at (at 0 3 10 11) (codes "x")))
            (ExprTree.Span (at 0 3 15 13) (ExprTree.Number (digits_at (at 0 3 16 14) 3 0)) (ExprTree.Number (digits_at (at 0 3 19 16) 3 0)))))
            ∷ [];
      })
      ∷ [];
  end = at 0 4 1 21;
}

abbrev pub single_value : Program
single_value = record { files = single_value_file ∷ []; library = None }

-- A value that no number can be.
--     scenario top:
--         x: int
--         keep(x in [0..5])
--         keep(x > 3)
--         keep(x < 3)
abbrev pub no_value_file : FileTree
no_value_file = record {
  imports = [];
  modifiers = [];
  decls =
      DeclarationTree.CompoundDeclaration
      (record {
        place = at 0 1 1 0;
        kind = CompoundKind.Scenario;
        name = record { first = name_at (at 0 1 10 1) (codes "top"); second = None };
        heir = None;
        members = MemberTree.Field
            (record {
              names = name_at (at 0 2 5 5) (codes "x") ∷ [];
              list = None;
              of = name_at (at 0 2 8 7) (codes "int");
              initial = None;
              rules = [];
            })
            ∷ MemberTree.Rule
            (RuleTree.Keep (at 0 3 5 9) KeepKind.Plain
            (ExprTree.Relation (at 0 3 12 12) RelationSign.Within
            (ExprTree.Name (name_at (at 0 3 10 11) (codes "x")))
            (ExprTree.Span (at 0 3 15 13) (ExprTree.Number (digits_at (at 0 3 16 14) 0 0)) (ExprTree.Number (digits_at (at 0 3 19 16) 5 0)))))
            ∷ MemberTree.Rule
            (RuleTree.Keep (at 0 4 5 20) KeepKind.Plain
            (ExprTree.Relation (at 0 4 12 23) RelationSign.Above
            (ExprTree.Name (name_at (at 0 4 10 22) (codes "x")))
            (ExprTree.Number (digits_at (at 0 4 14 24) 3 0))))
            ∷ MemberTree.Rule
            (RuleTree.Keep (at 0 5 5 27) KeepKind.Plain
            (ExprTree.Relation (at 0 5 12 30) SmallerThan
            (ExprTree.Name (name_at (at 0 5 10 29) (codes "x")))
            (ExprTree.Number (digits_at (at 0 5 14 31) 3 0))))
            ∷ [];
      })
      ∷ [];
  end = at 0 6 1 35;
}

abbrev pub no_value : Program
no_value = record { files = no_value_file ∷ []; library = None }

-- Two files that import each other.
-- a.osc:
--     import "b.osc"
--     scenario top:
--         x: small
-- b.osc:
--     import "a.osc"
--     struct small:
--         n: int with:
--             keep(it == 7)
abbrev pub import_cycle_file : FileTree
import_cycle_file = record {
  imports = [];
  modifiers = [];
  decls =
      DeclarationTree.CompoundDeclaration
      (record {
        place = at 0 2 1 3;
        kind = CompoundKind.Scenario;
        name = record { first = name_at (at 0 2 10 4) (codes "top"); second = None };
        heir = None;
        members = MemberTree.Field
            (record {
              names = name_at (at 0 3 5 8) (codes "x") ∷ [];
              list = None;
              of = name_at (at 0 3 8 10) (codes "small");
              initial = None;
              rules = [];
            })
            ∷ [];
      })
      ∷ [];
  end = at 0 4 1 13;
}

abbrev pub import_cycle_file1 : FileTree
import_cycle_file1 = record {
  imports = [];
  modifiers = [];
  decls =
      DeclarationTree.CompoundDeclaration
      (record {
        place = at 1 2 1 3;
        kind = CompoundKind.Struct;
        name = record { first = name_at (at 1 2 8 4) (codes "small"); second = None };
        heir = None;
        members = MemberTree.Field
            (record {
              names = name_at (at 1 3 5 8) (codes "n") ∷ [];
              list = None;
              of = name_at (at 1 3 8 10) (codes "int");
              initial = None;
              rules = RuleTree.Keep (at 1 4 9 15) KeepKind.Plain
                  (ExprTree.Relation (at 1 4 17 18) RelationSign.Equal (ExprTree.It (at 1 4 14 17))
                  (ExprTree.Number (digits_at (at 1 4 20 19) 7 0)))
                  ∷ [];
            })
            ∷ [];
      })
      ∷ [];
  end = at 1 5 1 24;
}

abbrev pub import_cycle : Program
import_cycle = record { files = import_cycle_file ∷ import_cycle_file1 ∷ []; library = None }

-- A conditional subtype whose condition is met.
--     enum kind: [car, truck]
--     struct body:
--         k: kind
--     struct cargo inherits body(k == truck):
--         load: int with:
--             keep(it in [2..2])
--     scenario top:
--         b: body
--         keep(b.k == truck)
abbrev pub cargo_truck_file : FileTree
cargo_truck_file = record {
  imports = [];
  modifiers = [];
  decls =
      DeclarationTree.EnumDeclaration
      (record {
        place = at 0 1 1 0;
        name = name_at (at 0 1 6 1) (codes "kind");
        items = record { name = name_at (at 0 1 13 4) (codes "car"); number = None }
            ∷ record { name = name_at (at 0 1 18 6) (codes "truck"); number = None }
            ∷ [];
      })
      ∷ DeclarationTree.CompoundDeclaration
      (record {
        place = at 0 2 1 9;
        kind = CompoundKind.Struct;
        name = record { first = name_at (at 0 2 8 10) (codes "body"); second = None };
        heir = None;
        members = MemberTree.Field
            (record {
              names = name_at (at 0 3 5 14) (codes "k") ∷ [];
              list = None;
              of = name_at (at 0 3 8 16) (codes "kind");
              initial = None;
              rules = [];
            })
            ∷ [];
      })
      ∷ DeclarationTree.CompoundDeclaration
      (record {
        place = at 0 4 1 19;
        kind = CompoundKind.Struct;
        name = record { first = name_at (at 0 4 8 20) (codes "cargo"); second = None };
        heir = Some
            (record {
              base = record { first = name_at (at 0 4 23 22) (codes "body"); second = None };
              condition = Some (record { field = name_at (at 0 4 28 24) (codes "k"); value = ConditionValue.Name (name_at (at 0 4 33 26) (codes "truck")) });
            });
        members = MemberTree.Field
            (record {
              names = name_at (at 0 5 5 31) (codes "load") ∷ [];
              list = None;
              of = name_at (at 0 5 11 33) (codes "int");
              initial = None;
              rules = RuleTree.Keep (at 0 6 9 38) KeepKind.Plain
                  (ExprTree.Relation (at 0 6 17 41) RelationSign.Within (ExprTree.It (at 0 6 14 40))
                  (ExprTree.Span (at 0 6 20 42)
                  (ExprTree.Number (digits_at (at 0 6 21 43) 2 0))
                  (ExprTree.Number (digits_at (at 0 6 24 45) 2 0))))
                  ∷ [];
            })
            ∷ [];
      })
      ∷ DeclarationTree.CompoundDeclaration
      (record {
        place = at 0 7 1 51;
        kind = CompoundKind.Scenario;
        name = record { first = name_at (at 0 7 10 52) (codes "top"); second = None };
        heir = None;
        members = MemberTree.Field
            (record {
              names = name_at (at 0 8 5 56) (codes "b") ∷ [];
              list = None;
              of = name_at (at 0 8 8 58) (codes "body");
              initial = None;
              rules = [];
            })
            ∷ MemberTree.Rule
            (RuleTree.Keep (at 0 9 5 60) KeepKind.Plain
            (ExprTree.Relation (at 0 9 14 65) RelationSign.Equal
            (ExprTree.Dot (ExprTree.Start (ExprTree.Name (name_at (at 0 9 10 62) (codes "b")))) (name_at (at 0 9 12 64) (codes "k")))
            (ExprTree.Name (name_at (at 0 9 17 66) (codes "truck")))))
            ∷ [];
      })
      ∷ [];
  end = at 0 10 1 70;
}

abbrev pub cargo_truck : Program
cargo_truck = record { files = cargo_truck_file ∷ []; library = None }

-- A conditional subtype whose condition is not met.
--     enum kind: [car, truck]
--     struct body:
--         k: kind
--     struct cargo inherits body(k == truck):
--         load: int with:
--             keep(it in [2..2])
--     scenario top:
--         b: body
--         keep(b.k == car)
abbrev pub cargo_car_file : FileTree
cargo_car_file = record {
  imports = [];
  modifiers = [];
  decls =
      DeclarationTree.EnumDeclaration
      (record {
        place = at 0 1 1 0;
        name = name_at (at 0 1 6 1) (codes "kind");
        items = record { name = name_at (at 0 1 13 4) (codes "car"); number = None }
            ∷ record { name = name_at (at 0 1 18 6) (codes "truck"); number = None }
            ∷ [];
      })
      ∷ DeclarationTree.CompoundDeclaration
      (record {
        place = at 0 2 1 9;
        kind = CompoundKind.Struct;
        name = record { first = name_at (at 0 2 8 10) (codes "body"); second = None };
        heir = None;
        members = MemberTree.Field
            (record {
              names = name_at (at 0 3 5 14) (codes "k") ∷ [];
              list = None;
              of = name_at (at 0 3 8 16) (codes "kind");
              initial = None;
              rules = [];
            })
            ∷ [];
      })
      ∷ DeclarationTree.CompoundDeclaration
      (record {
        place = at 0 4 1 19;
        kind = CompoundKind.Struct;
        name = record { first = name_at (at 0 4 8 20) (codes "cargo"); second = None };
        heir = Some
            (record {
              base = record { first = name_at (at 0 4 23 22) (codes "body"); second = None };
              condition = Some (record { field = name_at (at 0 4 28 24) (codes "k"); value = ConditionValue.Name (name_at (at 0 4 33 26) (codes "truck")) });
            });
        members = MemberTree.Field
            (record {
              names = name_at (at 0 5 5 31) (codes "load") ∷ [];
              list = None;
              of = name_at (at 0 5 11 33) (codes "int");
              initial = None;
              rules = RuleTree.Keep (at 0 6 9 38) KeepKind.Plain
                  (ExprTree.Relation (at 0 6 17 41) RelationSign.Within (ExprTree.It (at 0 6 14 40))
                  (ExprTree.Span (at 0 6 20 42)
                  (ExprTree.Number (digits_at (at 0 6 21 43) 2 0))
                  (ExprTree.Number (digits_at (at 0 6 24 45) 2 0))))
                  ∷ [];
            })
            ∷ [];
      })
      ∷ DeclarationTree.CompoundDeclaration
      (record {
        place = at 0 7 1 51;
        kind = CompoundKind.Scenario;
        name = record { first = name_at (at 0 7 10 52) (codes "top"); second = None };
        heir = None;
        members = MemberTree.Field
            (record {
              names = name_at (at 0 8 5 56) (codes "b") ∷ [];
              list = None;
              of = name_at (at 0 8 8 58) (codes "body");
              initial = None;
              rules = [];
            })
            ∷ MemberTree.Rule
            (RuleTree.Keep (at 0 9 5 60) KeepKind.Plain
            (ExprTree.Relation (at 0 9 14 65) RelationSign.Equal
            (ExprTree.Dot (ExprTree.Start (ExprTree.Name (name_at (at 0 9 10 62) (codes "b")))) (name_at (at 0 9 12 64) (codes "k")))
            (ExprTree.Name (name_at (at 0 9 17 66) (codes "car")))))
            ∷ [];
      })
      ∷ [];
  end = at 0 10 1 70;
}

abbrev pub cargo_car : Program
cargo_car = record { files = cargo_car_file ∷ []; library = None }

-- A default that is removed before it is given.
--     struct item:
--         n: int with:
--             keep(it in [4..9])
--         remove_default(n)
--         keep(default n == 9)
--     scenario top:
--         i: item
--         keep(i.n + 0 == 5)
abbrev pub removed_before_file : FileTree
removed_before_file = record {
  imports = [];
  modifiers = [];
  decls =
      DeclarationTree.CompoundDeclaration
      (record {
        place = at 0 1 1 0;
        kind = CompoundKind.Struct;
        name = record { first = name_at (at 0 1 8 1) (codes "item"); second = None };
        heir = None;
        members = MemberTree.Field
            (record {
              names = name_at (at 0 2 5 5) (codes "n") ∷ [];
              list = None;
              of = name_at (at 0 2 8 7) (codes "int");
              initial = None;
              rules = RuleTree.Keep (at 0 3 9 12) KeepKind.Plain
                  (ExprTree.Relation (at 0 3 17 15) RelationSign.Within (ExprTree.It (at 0 3 14 14))
                  (ExprTree.Span (at 0 3 20 16)
                  (ExprTree.Number (digits_at (at 0 3 21 17) 4 0))
                  (ExprTree.Number (digits_at (at 0 3 24 19) 9 0))))
                  ∷ [];
            })
            ∷ MemberTree.Rule (RuleTree.Remove (at 0 4 5 24) (ExprTree.Name (name_at (at 0 4 20 26) (codes "n"))))
            ∷ MemberTree.Rule
            (RuleTree.Keep (at 0 5 5 29) KeepKind.Default
            (ExprTree.Relation (at 0 5 20 33) RelationSign.Equal
            (ExprTree.Name (name_at (at 0 5 18 32) (codes "n")))
            (ExprTree.Number (digits_at (at 0 5 23 34) 9 0))))
            ∷ [];
      })
      ∷ DeclarationTree.CompoundDeclaration
      (record {
        place = at 0 6 1 38;
        kind = CompoundKind.Scenario;
        name = record { first = name_at (at 0 6 10 39) (codes "top"); second = None };
        heir = None;
        members = MemberTree.Field
            (record {
              names = name_at (at 0 7 5 43) (codes "i") ∷ [];
              list = None;
              of = name_at (at 0 7 8 45) (codes "item");
              initial = None;
              rules = [];
            })
            ∷ MemberTree.Rule
            (RuleTree.Keep (at 0 8 5 47) KeepKind.Plain
            (ExprTree.Relation (at 0 8 18 54) RelationSign.Equal
            (ExprTree.Sum (at 0 8 14 52) Operator.Plus
            (ExprTree.Start
            (ExprTree.Dot (ExprTree.Start (ExprTree.Name (name_at (at 0 8 10 49) (codes "i")))) (name_at (at 0 8 12 51) (codes "n"))))
            (ExprTree.Number (digits_at (at 0 8 16 53) 0 0)))
            (ExprTree.Number (digits_at (at 0 8 21 55) 5 0))))
            ∷ [];
      })
      ∷ [];
  end = at 0 9 1 59;
}

abbrev pub removed_before : Program
removed_before = record { files = removed_before_file ∷ []; library = None }

-- A default that is removed after it was given.
--     struct item:
--         n: int with:
--             keep(it in [4..9])
--         keep(default n == 9)
--         remove_default(n)
--     scenario top:
--         i: item
--         keep(i.n + 0 == 5)
abbrev pub removed_after_file : FileTree
removed_after_file = record {
  imports = [];
  modifiers = [];
  decls =
      DeclarationTree.CompoundDeclaration
      (record {
        place = at 0 1 1 0;
        kind = CompoundKind.Struct;
        name = record { first = name_at (at 0 1 8 1) (codes "item"); second = None };
        heir = None;
        members = MemberTree.Field
            (record {
              names = name_at (at 0 2 5 5) (codes "n") ∷ [];
              list = None;
              of = name_at (at 0 2 8 7) (codes "int");
              initial = None;
              rules = RuleTree.Keep (at 0 3 9 12) KeepKind.Plain
                  (ExprTree.Relation (at 0 3 17 15) RelationSign.Within (ExprTree.It (at 0 3 14 14))
                  (ExprTree.Span (at 0 3 20 16)
                  (ExprTree.Number (digits_at (at 0 3 21 17) 4 0))
                  (ExprTree.Number (digits_at (at 0 3 24 19) 9 0))))
                  ∷ [];
            })
            ∷ MemberTree.Rule
            (RuleTree.Keep (at 0 4 5 24) KeepKind.Default
            (ExprTree.Relation (at 0 4 20 28) RelationSign.Equal
            (ExprTree.Name (name_at (at 0 4 18 27) (codes "n")))
            (ExprTree.Number (digits_at (at 0 4 23 29) 9 0))))
            ∷ MemberTree.Rule (RuleTree.Remove (at 0 5 5 32) (ExprTree.Name (name_at (at 0 5 20 34) (codes "n"))))
            ∷ [];
      })
      ∷ DeclarationTree.CompoundDeclaration
      (record {
        place = at 0 6 1 38;
        kind = CompoundKind.Scenario;
        name = record { first = name_at (at 0 6 10 39) (codes "top"); second = None };
        heir = None;
        members = MemberTree.Field
            (record {
              names = name_at (at 0 7 5 43) (codes "i") ∷ [];
              list = None;
              of = name_at (at 0 7 8 45) (codes "item");
              initial = None;
              rules = [];
            })
            ∷ MemberTree.Rule
            (RuleTree.Keep (at 0 8 5 47) KeepKind.Plain
            (ExprTree.Relation (at 0 8 18 54) RelationSign.Equal
            (ExprTree.Sum (at 0 8 14 52) Operator.Plus
            (ExprTree.Start
            (ExprTree.Dot (ExprTree.Start (ExprTree.Name (name_at (at 0 8 10 49) (codes "i")))) (name_at (at 0 8 12 51) (codes "n"))))
            (ExprTree.Number (digits_at (at 0 8 16 53) 0 0)))
            (ExprTree.Number (digits_at (at 0 8 21 55) 5 0))))
            ∷ [];
      })
      ∷ [];
  end = at 0 9 1 59;
}

abbrev pub removed_after : Program
removed_after = record { files = removed_after_file ∷ []; library = None }

-- A list whose second element has another value than its default.
--     scenario top:
--         v: list of int = [4, 5]
--         keep(v[1] == 6)
abbrev pub two_elements_file : FileTree
two_elements_file = record {
  imports = [];
  modifiers = [];
  decls =
      DeclarationTree.CompoundDeclaration
      (record {
        place = at 0 1 1 0;
        kind = CompoundKind.Scenario;
        name = record { first = name_at (at 0 1 10 1) (codes "top"); second = None };
        heir = None;
        members = MemberTree.Field
            (record {
              names = name_at (at 0 2 5 5) (codes "v") ∷ [];
              list = Some (at 0 2 8 7);
              of = name_at (at 0 2 16 9) (codes "int");
              initial = Some
                  (ExprTree.Listed (at 0 2 22 11)
                  (row_of (ExprTree.Number (digits_at (at 0 2 23 12) 4 0) ∷ ExprTree.Number (digits_at (at 0 2 26 14) 5 0) ∷ [])));
              rules = [];
            })
            ∷ MemberTree.Rule
            (RuleTree.Keep (at 0 3 5 17) KeepKind.Plain
            (ExprTree.Relation (at 0 3 15 23) RelationSign.Equal
            (ExprTree.Index (at 0 3 11 20)
            (ExprTree.Start (ExprTree.Name (name_at (at 0 3 10 19) (codes "v"))))
            (ExprTree.Number (digits_at (at 0 3 12 21) 1 0)))
            (ExprTree.Number (digits_at (at 0 3 18 24) 6 0))))
            ∷ [];
      })
      ∷ [];
  end = at 0 4 1 28;
}

abbrev pub two_elements : Program
two_elements = record { files = two_elements_file ∷ []; library = None }

-- A default of an argument that the invoked scenario overrides.
--     actor robot:
--         load: int = 5
--     scenario use:
--         r: robot
--         keep(r.load == 3)
--     scenario top:
--         mine: robot
--         do use(r: mine)
abbrev pub overridden_argument_file : FileTree
overridden_argument_file = record {
  imports = [];
  modifiers = [];
  decls =
      DeclarationTree.CompoundDeclaration
      (record {
        place = at 0 1 1 0;
        kind = CompoundKind.Actor;
        name = record { first = name_at (at 0 1 7 1) (codes "robot"); second = None };
        heir = None;
        members = MemberTree.Field
            (record {
              names = name_at (at 0 2 5 5) (codes "load") ∷ [];
              list = None;
              of = name_at (at 0 2 11 7) (codes "int");
              initial = Some (ExprTree.Number (digits_at (at 0 2 17 9) 5 0));
              rules = [];
            })
            ∷ [];
      })
      ∷ DeclarationTree.CompoundDeclaration
      (record {
        place = at 0 3 1 12;
        kind = CompoundKind.Scenario;
        name = record { first = name_at (at 0 3 10 13) (codes "use"); second = None };
        heir = None;
        members = MemberTree.Field
            (record {
              names = name_at (at 0 4 5 17) (codes "r") ∷ [];
              list = None;
              of = name_at (at 0 4 8 19) (codes "robot");
              initial = None;
              rules = [];
            })
            ∷ MemberTree.Rule
            (RuleTree.Keep (at 0 5 5 21) KeepKind.Plain
            (ExprTree.Relation (at 0 5 17 26) RelationSign.Equal
            (ExprTree.Dot (ExprTree.Start (ExprTree.Name (name_at (at 0 5 10 23) (codes "r")))) (name_at (at 0 5 12 25) (codes "load")))
            (ExprTree.Number (digits_at (at 0 5 20 27) 3 0))))
            ∷ [];
      })
      ∷ DeclarationTree.CompoundDeclaration
      (record {
        place = at 0 6 1 31;
        kind = CompoundKind.Scenario;
        name = record { first = name_at (at 0 6 10 32) (codes "top"); second = None };
        heir = None;
        members = MemberTree.Field
            (record {
              names = name_at (at 0 7 5 36) (codes "mine") ∷ [];
              list = None;
              of = name_at (at 0 7 11 38) (codes "robot");
              initial = None;
              rules = [];
            })
            ∷ MemberTree.Do (at 0 8 5 40)
            (PhaseTree.Invoke None
            (InvokeHead.Name (name_at (at 0 8 8 41) (codes "use")))
            []
            (record { name = Some (name_at (at 0 8 12 43) (codes "r")); value = ExprTree.Name (name_at (at 0 8 15 45) (codes "mine")) } ∷ [])
            [])
            ∷ [];
      })
      ∷ [];
  end = at 0 9 1 49;
}

abbrev pub overridden_argument : Program
overridden_argument = record { files = overridden_argument_file ∷ []; library = None }
