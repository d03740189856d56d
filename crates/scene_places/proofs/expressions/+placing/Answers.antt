use Rattle.scene_places.specs.Placed.{place_in}
use Rattle.scene_texts.proofs.MovedNodes.{moved_list, moved_joining}
use Rattle.scene_places.proofs.expressions.+placing.Goals as goal

pub moved-returns-in_ok-moved_items-in-Listed : goal.moved-returns-in_ok-moved_items-in-Listed
moved-returns-in_ok-moved_items-in-Listed t c =
    moved_list (place_in c.args.places.now) c.args.typed.now c.in-Listed.info c.in-Listed.is_field c.in-Listed.items c.as_slice.result.now c.in_ok-moved_items-in-Listed.field-0
    c.in-Listed.is c.as_slice.ensures c.in_ok-moved_items-in-Listed.ensures

pub moved-returns-in_ok-moved_boxed-in-Joined-2 : goal.moved-returns-in_ok-moved_boxed-in-Joined-2
moved-returns-in_ok-moved_boxed-in-Joined-2 t c =
    moved_joining (place_in c.args.places.now) c.args.typed.now c.in-Joined.info c.in-Joined.join c.in-Joined.first c.in-Joined.earlier c.in-Joined.last
    c.get-in-Joined.result.now c.as_slice-in-Joined.result.now c.get-in-Joined-2.result.now
    c.in_ok-moved_boxed-in-Joined.field-0 c.in_ok-moved_earlier-in-Joined.field-0 c.in_ok-moved_boxed-in-Joined-2.field-0
    c.in-Joined.is c.get-in-Joined.ensures c.as_slice-in-Joined.ensures c.get-in-Joined-2.ensures
    c.in_ok-moved_boxed-in-Joined.ensures c.in_ok-moved_earlier-in-Joined.ensures c.in_ok-moved_boxed-in-Joined-2.ensures
