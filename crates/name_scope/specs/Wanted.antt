-- The name of a file as callers of a program see it.
use Rattle.name_scope.specs.declared.names.FileName.{FileName}
use Rattle.name_scope.specs.declared.names.Wanted.{Wanted}

abbrev pub file_name : Wanted → FileName
file_name Wanted.Library = FileName.Library
file_name (Wanted.Named text) = FileName.Named text.now
