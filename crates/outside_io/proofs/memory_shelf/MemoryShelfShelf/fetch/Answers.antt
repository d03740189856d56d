use Rattle.std.proofs.Common.{◌≡◌, [], ap, ◌∙◌}
use Rattle.std.specs.Prelude.{unwrap_or}
use Rattle.outside_io.specs.Files.{bytes_at, file_named}
use Rattle.outside_io.specs.Memory.{ShelfState, after_call}
use Rattle.outside_io.specs.ShelfFields.{state_of}
use Rattle.outside_io.proofs.Places.{bytes_found, name_found}
use Rattle.outside_io.proofs.memory_shelf.MemoryShelfShelf.fetch.Goals as goal

begun : (c : goal.After-is_some) → state_of c.self.inside ≡ after_call c.args.self.now c.args.self.now.left
begun c = c.self.view_is ∙ c.in_ok-begin.ensures.ok

same_files : (c : goal.After-is_some) → c.as_slice.result.now ≡ c.args.self.now.files
same_files c = c.as_slice.ensures ∙ ap (λ (s : ShelfState). s.files) (begun c)

pub returns-clause-found : goal.returns-clause-found
returns-clause-found c = rw (c.is_some.ensures, c.place_of-place.ensures, same_files c) (name_found c.args.self.now.files c.args.name.now)

pub returns-clause-after : goal.returns-clause-after
returns-clause-after c =
    let files : c.self.inside.files ≡ c.args.self.now.files = ap (λ (s : ShelfState). s.files) (begun c) in
    let left : bytes_at c.self.inside.files c.place_of-place.result ≡ unwrap_or (file_named c.args.self.now.files c.args.name.now) [] =
    rw (c.place_of-place.ensures, same_files c, files) (bytes_found c.args.self.now.files c.args.name.now) in
    rw left (ap (λ (s : ShelfState). record s { left = unwrap_or (file_named c.args.self.now.files c.args.name.now) [] }) (begun c))
