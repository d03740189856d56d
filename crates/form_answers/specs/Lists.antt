-- What is replied of the flat form of a program's scene.
use Rattle.std.specs.Prelude.{◌≡◌, List}
use Rattle.name_scope.specs.FileNumbers.{AddedFile}
use Rattle.flat_forms.specs.composition.Items.{rule_names}
use Rattle.flat_forms.specs.composition.Scenes.{Scene}
use Rattle.flat_forms.specs.composition.Slots.{slot_names}
use Rattle.flat_forms.specs.field_flatten.Ends.{bounds}
use Rattle.flat_listing.specs.ListingText.{listing_text}
use Rattle.command_replies.specs.Reply.{Answer}
use Rattle.command_replies.specs.Replies.{done}

-- what `flat` replies: the slots of the scene with their ends, and its rules, each by its name
abbrev pub Lists : List AddedFile → Scene → Answer → Type 0
Lists program scene reply = reply ≡ done (listing_text program (slot_names scene) (bounds scene) (rule_names scene))
