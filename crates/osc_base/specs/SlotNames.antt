-- Which names of slots are equal.
use Rattle.std.specs.Prelude.{◌&&◌, Bool, false, nat_eq}
use Rattle.osc_base.specs.declared.listing.SlotName.{SlotName}
use Rattle.osc_base.specs.Paths.{same_path}

-- two names of slots are equal: in their sort, their path, and their tick if they have one
abbrev pub same_slot : SlotName → SlotName → Bool
same_slot (SlotName.Choice p) (SlotName.Choice q) = same_path p q
same_slot (SlotName.Start p) (SlotName.Start q) = same_path p q
same_slot (SlotName.End p) (SlotName.End q) = same_path p q
same_slot (SlotName.Value p) (SlotName.Value q) = same_path p q
same_slot (SlotName.Lane p t) (SlotName.Lane q u) = nat_eq t u && same_path p q
same_slot (SlotName.Position p t) (SlotName.Position q u) = nat_eq t u && same_path p q
same_slot (SlotName.Speed p t) (SlotName.Speed q u) = nat_eq t u && same_path p q
same_slot _ _ = false
