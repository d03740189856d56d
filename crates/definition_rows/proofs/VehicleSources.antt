-- Programs with the library, as trees. Imports are left out, since a program means what its files say together.
use Rattle.std.specs.Prelude.{[], ◌∷◌, None, Some, true, false, codes}
use Rattle.dsl_tree.specs.declared.expr.RelationSign.{RelationSign}
use Rattle.dsl_tree.specs.declared.rules.KeepKind.{KeepKind}
use Rattle.dsl_tree.specs.declared.phases.CompKind.{CompKind}
use Rattle.dsl_tree.specs.declared.phases.InvokeHead.{InvokeHead}
use Rattle.dsl_tree.specs.declared.compounds.CompoundKind.{CompoundKind}
use Rattle.dsl_tree.specs.ExprTree.{ExprTree}
use Rattle.dsl_tree.specs.PhaseTree.{RuleTree, PartTree, PhaseTree, PhaseRow}
use Rattle.dsl_tree.specs.FileTree.{MemberTree, DeclarationTree, FileTree}
use Rattle.type_heads.specs.Types.{Program}
use Rattle.definition_rows.proofs.Makers.{at, name_at, digits_at, signed_at}

-- the library of `osc.standard`, as file 1
abbrev pub library : FileTree
library = record {
  imports = [];
  modifiers = [];
  decls =
      DeclarationTree.TypeDeclaration
      (record {
        place = at 1 1 1 0;
        name = name_at (at 1 1 6 1) (codes "length");
        bases = record { name = name_at (at 1 1 19 5) (codes "m"); exponent = signed_at (at 1 1 22 7) false 1 0 } ∷ [];
      })
      ∷ DeclarationTree.TypeDeclaration
      (record {
        place = at 1 2 1 10;
        name = name_at (at 1 2 6 11) (codes "time");
        bases = record { name = name_at (at 1 2 17 15) (codes "s"); exponent = signed_at (at 1 2 20 17) false 1 0 } ∷ [];
      })
      ∷ DeclarationTree.TypeDeclaration
      (record {
        place = at 1 3 1 20;
        name = name_at (at 1 3 6 21) (codes "speed");
        bases = record { name = name_at (at 1 3 18 25) (codes "m"); exponent = signed_at (at 1 3 21 27) false 1 0 }
            ∷ record { name = name_at (at 1 3 24 29) (codes "s"); exponent = signed_at (at 1 3 27 31) true 1 0 }
            ∷ [];
      })
      ∷ DeclarationTree.TypeDeclaration
      (record {
        place = at 1 4 1 35;
        name = name_at (at 1 4 6 36) (codes "acceleration");
        bases = record { name = name_at (at 1 4 25 40) (codes "m"); exponent = signed_at (at 1 4 28 42) false 1 0 }
            ∷ record { name = name_at (at 1 4 31 44) (codes "s"); exponent = signed_at (at 1 4 34 46) true 2 0 }
            ∷ [];
      })
      ∷ DeclarationTree.UnitDeclaration
      (record {
        place = at 1 5 1 50;
        name = name_at (at 1 5 6 51) (codes "m");
        of = name_at (at 1 5 11 53) (codes "length");
        bases = record { name = name_at (at 1 5 24 57) (codes "m"); exponent = signed_at (at 1 5 27 59) false 1 0 } ∷ [];
        factor = None;
        offset = None;
      })
      ∷ DeclarationTree.UnitDeclaration
      (record {
        place = at 1 6 1 62;
        name = name_at (at 1 6 6 63) (codes "km");
        of = name_at (at 1 6 12 65) (codes "length");
        bases = record { name = name_at (at 1 6 25 69) (codes "m"); exponent = signed_at (at 1 6 28 71) false 1 0 } ∷ [];
        factor = Some (signed_at (at 1 6 39 75) false 1000 0);
        offset = None;
      })
      ∷ DeclarationTree.UnitDeclaration
      (record {
        place = at 1 7 1 78;
        name = name_at (at 1 7 6 79) (codes "s");
        of = name_at (at 1 7 11 81) (codes "time");
        bases = record { name = name_at (at 1 7 22 85) (codes "s"); exponent = signed_at (at 1 7 25 87) false 1 0 } ∷ [];
        factor = None;
        offset = None;
      })
      ∷ DeclarationTree.UnitDeclaration
      (record {
        place = at 1 8 1 90;
        name = name_at (at 1 8 6 91) (codes "ms");
        of = name_at (at 1 8 12 93) (codes "time");
        bases = record { name = name_at (at 1 8 23 97) (codes "s"); exponent = signed_at (at 1 8 26 99) false 1 0 } ∷ [];
        factor = Some (signed_at (at 1 8 37 103) false 1 3);
        offset = None;
      })
      ∷ DeclarationTree.UnitDeclaration
      (record {
        place = at 1 9 1 106;
        name = name_at (at 1 9 6 107) (codes "min");
        of = name_at (at 1 9 13 109) (codes "time");
        bases = record { name = name_at (at 1 9 24 113) (codes "s"); exponent = signed_at (at 1 9 27 115) false 1 0 } ∷ [];
        factor = Some (signed_at (at 1 9 38 119) false 60 0);
        offset = None;
      })
      ∷ DeclarationTree.UnitDeclaration
      (record {
        place = at 1 10 1 122;
        name = name_at (at 1 10 6 123) (codes "mps");
        of = name_at (at 1 10 13 125) (codes "speed");
        bases = record { name = name_at (at 1 10 25 129) (codes "m"); exponent = signed_at (at 1 10 28 131) false 1 0 }
            ∷ record { name = name_at (at 1 10 31 133) (codes "s"); exponent = signed_at (at 1 10 34 135) true 1 0 }
            ∷ [];
        factor = None;
        offset = None;
      })
      ∷ DeclarationTree.UnitDeclaration
      (record {
        place = at 1 11 1 139;
        name = name_at (at 1 11 6 140) (codes "kph");
        of = name_at (at 1 11 13 142) (codes "speed");
        bases = record { name = name_at (at 1 11 25 146) (codes "m"); exponent = signed_at (at 1 11 28 148) false 1 0 }
            ∷ record { name = name_at (at 1 11 31 150) (codes "s"); exponent = signed_at (at 1 11 34 152) true 1 0 }
            ∷ [];
        factor = Some (signed_at (at 1 11 46 157) false 277777778 9);
        offset = None;
      })
      ∷ DeclarationTree.UnitDeclaration
      (record {
        place = at 1 12 1 160;
        name = name_at (at 1 12 6 161) (codes "mpsps");
        of = name_at (at 1 12 15 163) (codes "acceleration");
        bases = record { name = name_at (at 1 12 34 167) (codes "m"); exponent = signed_at (at 1 12 37 169) false 1 0 }
            ∷ record { name = name_at (at 1 12 40 171) (codes "s"); exponent = signed_at (at 1 12 43 173) true 2 0 }
            ∷ [];
        factor = None;
        offset = None;
      })
      ∷ DeclarationTree.CompoundDeclaration
      (record {
        place = at 1 13 1 177;
        kind = CompoundKind.Actor;
        name = record { first = name_at (at 1 13 7 178) (codes "vehicle"); second = None };
        heir = None;
        members = MemberTree.Field
            (record {
              names = name_at (at 1 14 5 182) (codes "max_speed") ∷ [];
              list = None;
              of = name_at (at 1 14 16 184) (codes "speed");
              initial = Some (ExprTree.Physical (digits_at (at 1 14 24 186) 50 0) (codes "mps"));
              rules = RuleTree.Keep (at 1 15 9 191) KeepKind.Plain
                  (ExprTree.Relation (at 1 15 17 194) RelationSign.Within (ExprTree.It (at 1 15 14 193))
                  (ExprTree.Span (at 1 15 20 195)
                  (ExprTree.Physical (digits_at (at 1 15 21 196) 0 0) (codes "mps"))
                  (ExprTree.Physical (digits_at (at 1 15 27 198) 100 0) (codes "mps"))))
                  ∷ [];
            })
            ∷ MemberTree.Field
            (record {
              names = name_at (at 1 16 5 203) (codes "max_acceleration") ∷ [];
              list = None;
              of = name_at (at 1 16 23 205) (codes "acceleration");
              initial = Some (ExprTree.Physical (digits_at (at 1 16 38 207) 10 0) (codes "mpsps"));
              rules = RuleTree.Keep (at 1 17 9 212) KeepKind.Plain
                  (ExprTree.Relation (at 1 17 17 215) RelationSign.Within (ExprTree.It (at 1 17 14 214))
                  (ExprTree.Span (at 1 17 20 216)
                  (ExprTree.Physical (digits_at (at 1 17 21 217) 0 0) (codes "mpsps"))
                  (ExprTree.Physical (digits_at (at 1 17 29 219) 20 0) (codes "mpsps"))))
                  ∷ [];
            })
            ∷ [];
      })
      ∷ DeclarationTree.CompoundDeclaration
      (record {
        place = at 1 18 1 225;
        kind = CompoundKind.Action;
        name = record { first = name_at (at 1 18 8 226) (codes "vehicle"); second = Some (name_at (at 1 18 16 228) (codes "drive")) };
        heir = None;
        members = [];
      })
      ∷ [];
  end = at 1 19 1 230;
}

-- A speed in another unit than its base unit.
--     import osc.standard
--     scenario top:
--         s: speed
--         keep(s == 30kph)
abbrev pub kilometres_an_hour_file : FileTree
kilometres_an_hour_file = record {
  imports = [];
  modifiers = [];
  decls =
      DeclarationTree.CompoundDeclaration
      (record {
        place = at 0 2 1 5;
        kind = CompoundKind.Scenario;
        name = record { first = name_at (at 0 2 10 6) (codes "top"); second = None };
        heir = None;
        members = MemberTree.Field
            (record {
              names = name_at (at 0 3 5 10) (codes "s") ∷ [];
              list = None;
              of = name_at (at 0 3 8 12) (codes "speed");
              initial = None;
              rules = [];
            })
            ∷ MemberTree.Rule
            (RuleTree.Keep (at 0 4 5 14) KeepKind.Plain
            (ExprTree.Relation (at 0 4 12 17) RelationSign.Equal
            (ExprTree.Name (name_at (at 0 4 10 16) (codes "s")))
            (ExprTree.Physical (digits_at (at 0 4 15 18) 30 0) (codes "kph"))))
            ∷ [];
      })
      ∷ [];
  end = at 0 5 1 22;
}

abbrev pub kilometres_an_hour : Program
kilometres_an_hour = record { files = kilometres_an_hour_file ∷ library ∷ []; library = Some 1 }

-- A vehicle that drives for a tick.
--     import osc.standard
--     scenario top:
--         ego: vehicle
--         do ego.drive() with:
--             speed(10mps)
abbrev pub one_vehicle_file : FileTree
one_vehicle_file = record {
  imports = [];
  modifiers = [];
  decls =
      DeclarationTree.CompoundDeclaration
      (record {
        place = at 0 2 1 5;
        kind = CompoundKind.Scenario;
        name = record { first = name_at (at 0 2 10 6) (codes "top"); second = None };
        heir = None;
        members = MemberTree.Field
            (record {
              names = name_at (at 0 3 5 10) (codes "ego") ∷ [];
              list = None;
              of = name_at (at 0 3 10 12) (codes "vehicle");
              initial = None;
              rules = [];
            })
            ∷ MemberTree.Do (at 0 4 5 14)
            (PhaseTree.Invoke None
            (InvokeHead.Name (name_at (at 0 4 8 15) (codes "ego")))
            (name_at (at 0 4 12 17) (codes "drive") ∷ [])
            []
            (PartTree.ModifierPart
            (record {
              name = name_at (at 0 5 9 24) (codes "speed");
              arguments = record { name = None; value = ExprTree.Physical (digits_at (at 0 5 15 26) 10 0) (codes "mps") } ∷ [];
            })
            ∷ []))
            ∷ [];
      })
      ∷ [];
  end = at 0 6 1 31;
}

abbrev pub one_vehicle : Program
one_vehicle = record { files = one_vehicle_file ∷ library ∷ []; library = Some 1 }

-- A parameter that is another name of a vehicle.
--     import osc.standard
--     scenario pass:
--         car: vehicle
--         keep(car.max_speed == 30mps)
--         do car.drive()
--     scenario top:
--         ego: vehicle
--         do pass(car: ego)
abbrev pub other_name_file : FileTree
other_name_file = record {
  imports = [];
  modifiers = [];
  decls =
      DeclarationTree.CompoundDeclaration
      (record {
        place = at 0 2 1 5;
        kind = CompoundKind.Scenario;
        name = record { first = name_at (at 0 2 10 6) (codes "pass"); second = None };
        heir = None;
        members = MemberTree.Field
            (record {
              names = name_at (at 0 3 5 10) (codes "car") ∷ [];
              list = None;
              of = name_at (at 0 3 10 12) (codes "vehicle");
              initial = None;
              rules = [];
            })
            ∷ MemberTree.Rule
            (RuleTree.Keep (at 0 4 5 14) KeepKind.Plain
            (ExprTree.Relation (at 0 4 24 19) RelationSign.Equal
            (ExprTree.Dot
            (ExprTree.Start (ExprTree.Name (name_at (at 0 4 10 16) (codes "car"))))
            (name_at (at 0 4 14 18) (codes "max_speed")))
            (ExprTree.Physical (digits_at (at 0 4 27 20) 30 0) (codes "mps"))))
            ∷ MemberTree.Do (at 0 5 5 23)
            (PhaseTree.Invoke None (InvokeHead.Name (name_at (at 0 5 8 24) (codes "car"))) (name_at (at 0 5 12 26) (codes "drive") ∷ []) [] [])
            ∷ [];
      })
      ∷ DeclarationTree.CompoundDeclaration
      (record {
        place = at 0 6 1 31;
        kind = CompoundKind.Scenario;
        name = record { first = name_at (at 0 6 10 32) (codes "top"); second = None };
        heir = None;
        members = MemberTree.Field
            (record {
              names = name_at (at 0 7 5 36) (codes "ego") ∷ [];
              list = None;
              of = name_at (at 0 7 10 38) (codes "vehicle");
              initial = None;
              rules = [];
            })
            ∷ MemberTree.Do (at 0 8 5 40)
            (PhaseTree.Invoke None
            (InvokeHead.Name (name_at (at 0 8 8 41) (codes "pass")))
            []
            (record { name = Some (name_at (at 0 8 13 43) (codes "car")); value = ExprTree.Name (name_at (at 0 8 18 45) (codes "ego")) } ∷ [])
            [])
            ∷ [];
      })
      ∷ [];
  end = at 0 9 1 49;
}

abbrev pub other_name : Program
other_name = record { files = other_name_file ∷ library ∷ []; library = Some 1 }

-- An override in an alternative that no run can choose.
--     import osc.standard
--     scenario top:
--         ego: vehicle
--         do one_of:
--             ego.drive(duration: 5s) with:
--                 keep(ego.max_speed == 30mps)
--             wait elapsed(0.1s)
abbrev pub not_chosen_file : FileTree
not_chosen_file = record {
  imports = [];
  modifiers = [];
  decls =
      DeclarationTree.CompoundDeclaration
      (record {
        place = at 0 2 1 5;
        kind = CompoundKind.Scenario;
        name = record { first = name_at (at 0 2 10 6) (codes "top"); second = None };
        heir = None;
        members = MemberTree.Field
            (record {
              names = name_at (at 0 3 5 10) (codes "ego") ∷ [];
              list = None;
              of = name_at (at 0 3 10 12) (codes "vehicle");
              initial = None;
              rules = [];
            })
            ∷ MemberTree.Do (at 0 4 5 14)
            (PhaseTree.Comp None (at 0 4 8 15) CompKind.OneOf []
            (PhaseRow.Phase
            (PhaseTree.Invoke None
            (InvokeHead.Name (name_at (at 0 5 9 19) (codes "ego")))
            (name_at (at 0 5 13 21) (codes "drive") ∷ [])
            (record {
              name = Some (name_at (at 0 5 19 23) (codes "duration"));
              value = ExprTree.Physical (digits_at (at 0 5 29 25) 5 0) (codes "s");
            }
            ∷ [])
            (PartTree.RulePart
            (RuleTree.Keep (at 0 6 13 31) KeepKind.Plain
            (ExprTree.Relation (at 0 6 32 36) RelationSign.Equal
            (ExprTree.Dot
            (ExprTree.Start (ExprTree.Name (name_at (at 0 6 18 33) (codes "ego"))))
            (name_at (at 0 6 22 35) (codes "max_speed")))
            (ExprTree.Physical (digits_at (at 0 6 35 37) 30 0) (codes "mps"))))
            ∷ []))
            (PhaseRow.Phase (PhaseTree.Wait None (at 0 7 9 41) (ExprTree.Physical (digits_at (at 0 7 22 44) 1 1) (codes "s"))) PhaseRow.End)))
            ∷ [];
      })
      ∷ [];
  end = at 0 8 1 49;
}

abbrev pub not_chosen : Program
not_chosen = record { files = not_chosen_file ∷ library ∷ []; library = Some 1 }

-- An action and a wait in a row.
--     import osc.standard
--     actor robot:
--         load: int
--     action robot.go:
--         weight: int
--         keep(actor.load >= weight)
--     scenario top:
--         r: robot
--         keep(r.load == 5)
--         do serial:
--             r.go(weight: 4, duration: 0.2s)
--             wait elapsed(0.1s)
abbrev pub robot_file : FileTree
robot_file = record {
  imports = [];
  modifiers = [];
  decls =
      DeclarationTree.CompoundDeclaration
      (record {
        place = at 0 2 1 5;
        kind = CompoundKind.Actor;
        name = record { first = name_at (at 0 2 7 6) (codes "robot"); second = None };
        heir = None;
        members = MemberTree.Field
            (record {
              names = name_at (at 0 3 5 10) (codes "load") ∷ [];
              list = None;
              of = name_at (at 0 3 11 12) (codes "int");
              initial = None;
              rules = [];
            })
            ∷ [];
      })
      ∷ DeclarationTree.CompoundDeclaration
      (record {
        place = at 0 4 1 15;
        kind = CompoundKind.Action;
        name = record { first = name_at (at 0 4 8 16) (codes "robot"); second = Some (name_at (at 0 4 14 18) (codes "go")) };
        heir = None;
        members = MemberTree.Field
            (record {
              names = name_at (at 0 5 5 22) (codes "weight") ∷ [];
              list = None;
              of = name_at (at 0 5 13 24) (codes "int");
              initial = None;
              rules = [];
            })
            ∷ MemberTree.Rule
            (RuleTree.Keep (at 0 6 5 26) KeepKind.Plain
            (ExprTree.Relation (at 0 6 21 31) RelationSign.AtLeast
            (ExprTree.Dot (ExprTree.Start (ExprTree.Actor (at 0 6 10 28))) (name_at (at 0 6 16 30) (codes "load")))
            (ExprTree.Name (name_at (at 0 6 24 32) (codes "weight")))))
            ∷ [];
      })
      ∷ DeclarationTree.CompoundDeclaration
      (record {
        place = at 0 7 1 36;
        kind = CompoundKind.Scenario;
        name = record { first = name_at (at 0 7 10 37) (codes "top"); second = None };
        heir = None;
        members = MemberTree.Field
            (record {
              names = name_at (at 0 8 5 41) (codes "r") ∷ [];
              list = None;
              of = name_at (at 0 8 8 43) (codes "robot");
              initial = None;
              rules = [];
            })
            ∷ MemberTree.Rule
            (RuleTree.Keep (at 0 9 5 45) KeepKind.Plain
            (ExprTree.Relation (at 0 9 17 50) RelationSign.Equal
            (ExprTree.Dot (ExprTree.Start (ExprTree.Name (name_at (at 0 9 10 47) (codes "r")))) (name_at (at 0 9 12 49) (codes "load")))
            (ExprTree.Number (digits_at (at 0 9 20 51) 5 0))))
            ∷ MemberTree.Do (at 0 10 5 54)
            (PhaseTree.Comp None (at 0 10 8 55) CompKind.Serial []
            (PhaseRow.Phase
            (PhaseTree.Invoke None
            (InvokeHead.Name (name_at (at 0 11 9 59) (codes "r")))
            (name_at (at 0 11 11 61) (codes "go") ∷ [])
            (record { name = Some (name_at (at 0 11 14 63) (codes "weight")); value = ExprTree.Number (digits_at (at 0 11 22 65) 4 0) }
            ∷ record {
              name = Some (name_at (at 0 11 25 67) (codes "duration"));
              value = ExprTree.Physical (digits_at (at 0 11 35 69) 2 1) (codes "s");
            }
            ∷ [])
            [])
            (PhaseRow.Phase (PhaseTree.Wait None (at 0 12 9 72) (ExprTree.Physical (digits_at (at 0 12 22 75) 1 1) (codes "s"))) PhaseRow.End)))
            ∷ [];
      })
      ∷ [];
  end = at 0 13 1 80;
}

abbrev pub robot : Program
robot = record { files = robot_file ∷ library ∷ []; library = Some 1 }

-- A wait alone.
--     import osc.standard
--     scenario top:
--         do wait elapsed(0.1s)
abbrev pub one_wait_file : FileTree
one_wait_file = record {
  imports = [];
  modifiers = [];
  decls =
      DeclarationTree.CompoundDeclaration
      (record {
        place = at 0 2 1 5;
        kind = CompoundKind.Scenario;
        name = record { first = name_at (at 0 2 10 6) (codes "top"); second = None };
        heir = None;
        members = MemberTree.Do (at 0 3 5 10) (PhaseTree.Wait None (at 0 3 8 11) (ExprTree.Physical (digits_at (at 0 3 21 14) 1 1) (codes "s"))) ∷ [];
      })
      ∷ [];
  end = at 0 4 1 18;
}

abbrev pub one_wait : Program
one_wait = record { files = one_wait_file ∷ library ∷ []; library = Some 1 }
