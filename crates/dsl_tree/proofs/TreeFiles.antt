-- Each tree that follows the grammar is the tree of a file.
use Rattle.dsl_tree.specs.Grammar.{Part}
use Rattle.dsl_tree.specs.WrittenFile.{file}
use Rattle.dsl_tree.specs.Language.{TreesAreFiles}
use Rattle.dsl_tree.proofs.OneTrees.{is_is_whole}
use Rattle.dsl_tree.proofs.FileValues.{file_value, file_tree_back}

pub value_of_tree : TreesAreFiles
value_of_tree t follows = (file_value t, file_tree_back t (is_is_whole Part.File (file t) follows))
