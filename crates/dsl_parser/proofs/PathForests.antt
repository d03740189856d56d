-- What paths are written as.
use Rattle.std.proofs.Common.{◌≡◌, ◌∙◌, ◌∷◌, List, [], map, refl, sym, ap}
use Rattle.dsl_cursor.specs.Words.{Forest, nil, seen, sub}
use Rattle.dsl_expressions.specs.Words.{ExprTree, Suffix, suffix_tree, suffixes_of}
use Rattle.dsl_parser.specs.Words.{PathHead, head_token, head_tree, path, path_row, path_tree}
use Rattle.dsl_tree.proofs.{WrittenRows.front_of_row, WrittenRows.path_of_row}
use Rattle.dsl_expressions.proofs.ExprForests.{suffixes_forest}

alone : (h : PathHead) → path (head_tree h) ≡ path_row (head_tree h) nil
alone (PathHead.Name name) = refl
alone (PathHead.It place) = refl
alone (PathHead.Actor place) = refl

headed : (h : PathHead) (f : Forest) → path_row (head_tree h) f ≡ seen (head_token h).place (head_token h).kind (sub f nil)
headed (PathHead.Name name) f = refl
headed (PathHead.It place) f = refl
headed (PathHead.Actor place) f = refl

row : (head : PathHead) (suffixes : List Suffix) → path (path_tree (record { head = head; suffixes = suffixes })) ≡ path_row (head_tree head) (suffixes_of suffixes)
row head [] = alone head
row head (s ∷ rest) =
    path_of_row (ExprTree.Start (head_tree head)) (suffix_tree s) (map suffix_tree rest)
    ∙ (front_of_row (ExprTree.Start (head_tree head)) (map suffix_tree (s ∷ rest)) ∙ ap (path_row (head_tree head)) (sym (suffixes_forest (s ∷ rest))))

pub path_forest : (head : PathHead) (suffixes : List Suffix) → path (path_tree (record { head = head; suffixes = suffixes })) ≡ seen (head_token head).place (head_token head).kind (sub (suffixes_of suffixes) nil)
path_forest head suffixes = row head suffixes ∙ headed head (suffixes_of suffixes)
