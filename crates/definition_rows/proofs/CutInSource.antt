-- A cut-in, as a tree.
use Rattle.std.specs.Prelude.{[], ◌∷◌, None, Some, codes}
use Rattle.dsl_tree.specs.declared.phases.CompKind.{CompKind}
use Rattle.dsl_tree.specs.declared.phases.InvokeHead.{InvokeHead}
use Rattle.dsl_tree.specs.declared.compounds.CompoundKind.{CompoundKind}
use Rattle.dsl_tree.specs.ExprTree.{ExprTree}
use Rattle.dsl_tree.specs.PhaseTree.{PartTree, PhaseTree, PhaseRow}
use Rattle.dsl_tree.specs.FileTree.{MemberTree, DeclarationTree, FileTree}
use Rattle.type_heads.specs.Types.{Program}
use Rattle.definition_rows.proofs.Makers.{at, name_at, digits_at}
use Rattle.definition_rows.proofs.VehicleSources.{library}

-- One vehicle overtakes another and changes to its lane.
--     import osc.standard
--     scenario top:
--         ego: vehicle
--         npc: vehicle
--         do serial:
--             approach: parallel:
--                 ego.drive(duration: 3s) with:
--                     lane(1)
--                     speed(20mps)
--                     position(100m, at: start)
--                 npc.drive(duration: 3s) with:
--                     lane(2)
--                     speed(25mps)
--                     position([10m..20m], behind: ego, at: start)
--             change: parallel:
--                 ego.drive(duration: 3s) with:
--                     lane(1)
--                     speed(20mps)
--                 npc.drive(duration: 3s) with:
--                     lane(2, at: start)
--                     speed(25mps)
--                     lane(same_as: ego, at: end)
--                     position([5m..30m], ahead_of: ego, at: end)
abbrev pub cut_in_file : FileTree
cut_in_file = record {
  imports = [];
  modifiers = [];
  decls =
      DeclarationTree.CompoundDeclaration
      (record {
        place = at 0 2 1 5;
        kind = CompoundKind.Scenario;
        name = record { first = name_at (at 0 2 10 6) (codes "top"); second = None };
        heir = None;
        members = MemberTree.Field
            (record {
              names = name_at (at 0 3 5 10) (codes "ego") ∷ [];
              list = None;
              of = name_at (at 0 3 10 12) (codes "vehicle");
              initial = None;
              rules = [];
            })
            ∷ MemberTree.Field
            (record {
              names = name_at (at 0 4 5 14) (codes "npc") ∷ [];
              list = None;
              of = name_at (at 0 4 10 16) (codes "vehicle");
              initial = None;
              rules = [];
            })
            ∷ MemberTree.Do (at 0 5 5 18)
            (PhaseTree.Comp None (at 0 5 8 19) CompKind.Serial []
            (PhaseRow.Phase
            (PhaseTree.Comp
            (Some (name_at (at 0 6 9 23) (codes "approach")))
            (at 0 6 19 25)
            CompKind.Parallel
            []
            (PhaseRow.Phase
            (PhaseTree.Invoke None
            (InvokeHead.Name (name_at (at 0 7 13 29) (codes "ego")))
            (name_at (at 0 7 17 31) (codes "drive") ∷ [])
            (record {
              name = Some (name_at (at 0 7 23 33) (codes "duration"));
              value = ExprTree.Physical (digits_at (at 0 7 33 35) 3 0) (codes "s");
            }
            ∷ [])
            (PartTree.ModifierPart
            (record {
              name = name_at (at 0 8 17 41) (codes "lane");
              arguments = record { name = None; value = ExprTree.Number (digits_at (at 0 8 22 43) 1 0) } ∷ [];
            })
            ∷ PartTree.ModifierPart
            (record {
              name = name_at (at 0 9 17 46) (codes "speed");
              arguments = record { name = None; value = ExprTree.Physical (digits_at (at 0 9 23 48) 20 0) (codes "mps") } ∷ [];
            })
            ∷ PartTree.ModifierPart
            (record {
              name = name_at (at 0 10 17 51) (codes "position");
              arguments = record { name = None; value = ExprTree.Physical (digits_at (at 0 10 26 53) 100 0) (codes "m") }
                  ∷ record {
                    name = Some (name_at (at 0 10 32 55) (codes "at"));
                    value = ExprTree.Name (name_at (at 0 10 36 57) (codes "start"));
                  }
                  ∷ [];
            })
            ∷ []))
            (PhaseRow.Phase
            (PhaseTree.Invoke None
            (InvokeHead.Name (name_at (at 0 11 13 61) (codes "npc")))
            (name_at (at 0 11 17 63) (codes "drive") ∷ [])
            (record {
              name = Some (name_at (at 0 11 23 65) (codes "duration"));
              value = ExprTree.Physical (digits_at (at 0 11 33 67) 3 0) (codes "s");
            }
            ∷ [])
            (PartTree.ModifierPart
            (record {
              name = name_at (at 0 12 17 73) (codes "lane");
              arguments = record { name = None; value = ExprTree.Number (digits_at (at 0 12 22 75) 2 0) } ∷ [];
            })
            ∷ PartTree.ModifierPart
            (record {
              name = name_at (at 0 13 17 78) (codes "speed");
              arguments = record { name = None; value = ExprTree.Physical (digits_at (at 0 13 23 80) 25 0) (codes "mps") } ∷ [];
            })
            ∷ PartTree.ModifierPart
            (record {
              name = name_at (at 0 14 17 83) (codes "position");
              arguments = record {
                name = None;
                value = ExprTree.Span (at 0 14 26 85)
                    (ExprTree.Physical (digits_at (at 0 14 27 86) 10 0) (codes "m"))
                    (ExprTree.Physical (digits_at (at 0 14 32 88) 20 0) (codes "m"));
              }
                  ∷ record {
                    name = Some (name_at (at 0 14 38 91) (codes "behind"));
                    value = ExprTree.Name (name_at (at 0 14 46 93) (codes "ego"));
                  }
                  ∷ record {
                    name = Some (name_at (at 0 14 51 95) (codes "at"));
                    value = ExprTree.Name (name_at (at 0 14 55 97) (codes "start"));
                  }
                  ∷ [];
            })
            ∷ []))
            PhaseRow.End)))
            (PhaseRow.Phase
            (PhaseTree.Comp
            (Some (name_at (at 0 15 9 102) (codes "change")))
            (at 0 15 17 104)
            CompKind.Parallel
            []
            (PhaseRow.Phase
            (PhaseTree.Invoke None
            (InvokeHead.Name (name_at (at 0 16 13 108) (codes "ego")))
            (name_at (at 0 16 17 110) (codes "drive") ∷ [])
            (record {
              name = Some (name_at (at 0 16 23 112) (codes "duration"));
              value = ExprTree.Physical (digits_at (at 0 16 33 114) 3 0) (codes "s");
            }
            ∷ [])
            (PartTree.ModifierPart
            (record {
              name = name_at (at 0 17 17 120) (codes "lane");
              arguments = record { name = None; value = ExprTree.Number (digits_at (at 0 17 22 122) 1 0) } ∷ [];
            })
            ∷ PartTree.ModifierPart
            (record {
              name = name_at (at 0 18 17 125) (codes "speed");
              arguments = record { name = None; value = ExprTree.Physical (digits_at (at 0 18 23 127) 20 0) (codes "mps") } ∷ [];
            })
            ∷ []))
            (PhaseRow.Phase
            (PhaseTree.Invoke None
            (InvokeHead.Name (name_at (at 0 19 13 131) (codes "npc")))
            (name_at (at 0 19 17 133) (codes "drive") ∷ [])
            (record {
              name = Some (name_at (at 0 19 23 135) (codes "duration"));
              value = ExprTree.Physical (digits_at (at 0 19 33 137) 3 0) (codes "s");
            }
            ∷ [])
            (PartTree.ModifierPart
            (record {
              name = name_at (at 0 20 17 143) (codes "lane");
              arguments = record { name = None; value = ExprTree.Number (digits_at (at 0 20 22 145) 2 0) }
                  ∷ record {
                    name = Some (name_at (at 0 20 25 147) (codes "at"));
                    value = ExprTree.Name (name_at (at 0 20 29 149) (codes "start"));
                  }
                  ∷ [];
            })
            ∷ PartTree.ModifierPart
            (record {
              name = name_at (at 0 21 17 152) (codes "speed");
              arguments = record { name = None; value = ExprTree.Physical (digits_at (at 0 21 23 154) 25 0) (codes "mps") } ∷ [];
            })
            ∷ PartTree.ModifierPart
            (record {
              name = name_at (at 0 22 17 157) (codes "lane");
              arguments = record {
                name = Some (name_at (at 0 22 22 159) (codes "same_as"));
                value = ExprTree.Name (name_at (at 0 22 31 161) (codes "ego"));
              }
                  ∷ record {
                    name = Some (name_at (at 0 22 36 163) (codes "at"));
                    value = ExprTree.Name (name_at (at 0 22 40 165) (codes "end"));
                  }
                  ∷ [];
            })
            ∷ PartTree.ModifierPart
            (record {
              name = name_at (at 0 23 17 168) (codes "position");
              arguments = record {
                name = None;
                value = ExprTree.Span (at 0 23 26 170)
                    (ExprTree.Physical (digits_at (at 0 23 27 171) 5 0) (codes "m"))
                    (ExprTree.Physical (digits_at (at 0 23 31 173) 30 0) (codes "m"));
              }
                  ∷ record {
                    name = Some (name_at (at 0 23 37 176) (codes "ahead_of"));
                    value = ExprTree.Name (name_at (at 0 23 47 178) (codes "ego"));
                  }
                  ∷ record {
                    name = Some (name_at (at 0 23 52 180) (codes "at"));
                    value = ExprTree.Name (name_at (at 0 23 56 182) (codes "end"));
                  }
                  ∷ [];
            })
            ∷ []))
            PhaseRow.End)))
            PhaseRow.End)))
            ∷ [];
      })
      ∷ [];
  end = at 0 24 1 189;
}

abbrev pub cut_in : Program
cut_in = record { files = cut_in_file ∷ library ∷ []; library = Some 1 }
