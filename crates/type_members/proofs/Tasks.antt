-- Steps of listing members: tasks that are put on top, and conditional subtypes that are left.
use Rattle.std.proofs.Common.{◌≡◌, ◌∙◌, sym, ap, ℕ, zero, suc, ◌+◌, ◌-◌, ◌<◌, ◌≤◌, false, not, cond, List, [], ◌∷◌, ◌++◌, map, drop, take, length, get_or, slice_index_or, arith}
use Rattle.std.specs.Prelude.{flat_map}
use Rattle.std.proofs.lemmas.List.{append_assoc, append-nil, drop_more, take_more}
use Rattle.std.proofs.lemmas.List.Elements.{filter-append}
use Rattle.std.proofs.lemmas.Grind.{flat_map-append}
use Rattle.type_heads.specs.Types.{TypeBody, Member}
use Rattle.type_heads.specs.Members.{has, body}
use Rattle.type_members.specs.Listing.{Way, member_in, deeper, kept, listed_within, listed_along, pending, stage_members, task_members}
use Rattle.type_members.specs.declared.listing.Stage.{Stage}
use Rattle.type_members.specs.declared.listing.Task.{Task}

pub pending_more : (w : Way) (tasks : List Task) (task : Task) → pending w (tasks ++ task ∷ []) ≡ task_members w task ++ pending w tasks
pending_more w [] task = sym (append-nil (task_members w task))
pending_more w (x ∷ xs) task = ap (λ ms. ms ++ task_members w x) (pending_more w xs task) ∙ append_assoc (task_members w task) (pending w xs) (task_members w x)

-- a conditional subtype that isn't skipped is put on top
pub pushed_one : (w : Way) (steps : ℕ) (under deep : List ℕ) (of : ℕ) (old new : List Task) → has of w.skipped ≡ false → deep ≡ deeper w under of →
    new ≡ old ++ record { of = of; under = deep; stage = Stage.All steps } ∷ [] →
    pending w new ≡ flat_map (λ c. listed_within steps w (deeper w under c) c) (kept w (of ∷ [])) ++ pending w old
pushed_one w steps under deep of old new keep deep_is more =
    ap (pending w) more ∙ pending_more w old (record { of = of; under = deep; stage = Stage.All steps })
    ∙ ap (λ d. listed_within steps w d of ++ pending w old) deep_is
    ∙ ap (λ ms. ms ++ pending w old) (sym (append-nil (listed_within steps w (deeper w under of) of)))
    ∙ ap (λ b. flat_map (λ c. listed_within steps w (deeper w under c) c) (cond (not b) (of ∷ []) []) ++ pending w old) (sym keep)

-- one more of the conditional subtypes that are left
pub one_more : (w : Way) (F : ℕ → List Member) (subtypes : List ℕ) (left s : ℕ) (first old new : List Member) → 0 < left → left ≤ length subtypes →
    s ≡ get_or subtypes (left - 1) s → old ≡ flat_map F (kept w (drop left subtypes)) ++ first → new ≡ flat_map F (kept w (s ∷ [])) ++ old →
    new ≡ flat_map F (kept w (drop (left - 1) subtypes)) ++ first
one_more w F subtypes left s first old new above within is so_far more =
    let next : left - 1 + 1 ≡ left = omega arith in
    let split : drop (left - 1) subtypes ≡ s ∷ drop left subtypes =
    drop_more subtypes (left - 1) s (omega arith) ∙ ap (λ x. x ∷ drop (left - 1 + 1) subtypes) (sym is) ∙ ap (λ n. s ∷ drop n subtypes) next in
    more ∙ ap (λ ms. flat_map F (kept w (s ∷ [])) ++ ms) so_far
    ∙ sym (append_assoc (flat_map F (kept w (s ∷ []))) (flat_map F (kept w (drop left subtypes))) first)
    ∙ ap (λ ms. ms ++ first) (sym (flat_map-append F (kept w (s ∷ [])) (kept w (drop left subtypes))))
    ∙ ap (λ cs. flat_map F cs ++ first) (sym (filter-append (λ c. not (has c w.skipped)) (s ∷ []) (drop left subtypes)))
    ∙ ap (λ cs. flat_map F (kept w cs) ++ first) (sym split)

-- one more of the types along the way
pub along_more : (steps : ℕ) (bodies : List TypeBody) (subtypes : List (List ℕ)) (line way skipped : List ℕ) (left b : ℕ) (old new : List Member) → 0 < left → left ≤ length way →
    b ≡ get_or way (left - 1) b → skipped ≡ take (left - 1) way → old ≡ listed_along steps bodies subtypes line (take left way) (drop left way) →
    new ≡ old ++ listed_within steps (record { bodies = bodies; subtypes = subtypes; line = line; skipped = skipped }) [] b →
    new ≡ listed_along steps bodies subtypes line (take (left - 1) way) (drop (left - 1) way)
along_more steps bodies subtypes line way skipped left b old new above within is are so_far more =
    let next : left - 1 + 1 ≡ left = omega arith in
    let split : drop (left - 1) way ≡ b ∷ drop left way =
    drop_more way (left - 1) b (omega arith) ∙ ap (λ x. x ∷ drop (left - 1 + 1) way) (sym is) ∙ ap (λ n. b ∷ drop n way) next in
    let joined : take left way ≡ take (left - 1) way ++ b ∷ [] =
    ap (λ n. take n way) (sym next) ∙ take_more way (left - 1) b (omega arith) ∙ ap (λ x. take (left - 1) way ++ x ∷ []) (sym is) in
    more
    ∙ ap (λ ms. ms ++ listed_within steps (record { bodies = bodies; subtypes = subtypes; line = line; skipped = skipped }) [] b)
    (so_far ∙ ap (λ ts. listed_along steps bodies subtypes line ts (drop left way)) joined)
    ∙ ap (λ ss. listed_along steps bodies subtypes line (take (left - 1) way ++ b ∷ []) (drop left way)
    ++ listed_within steps (record { bodies = bodies; subtypes = subtypes; line = line; skipped = ss }) [] b) are
    ∙ ap (listed_along steps bodies subtypes line (take (left - 1) way)) (sym split)

-- all that comes down from a type: its own members are listed, and the others are put on top
pub entered : (w : Way) (of : ℕ) (under own_under : List ℕ) (stage : Stage) (steps : ℕ) (into into' later later' : List Member) → under ≡ own_under →
    stage ≡ Stage.All steps → 0 < steps → into' ≡ into ++ map (member_in of under) (body w.bodies of).own →
    later' ≡ (flat_map (λ c. listed_within (steps - 1) w (deeper w under c) c) (kept w (slice_index_or w.subtypes of [])) ++ map (member_in of under) (body w.bodies of).more) ++ later →
    into' ++ later' ≡ into ++ (stage_members w of own_under stage ++ later)
entered w of under own_under stage zero into into' later later' same is above own below = absurd (omega arith)
entered w of under own_under stage (suc n) into into' later later' same is above own below =
    let one : suc n - 1 ≡ n = omega arith in
    let first : List Member = map (member_in of under) (body w.bodies of).own in
    let last : List Member = map (member_in of under) (body w.bodies of).more in
    let between : ℕ → List Member = λ k. flat_map (λ c. listed_within k w (deeper w under c) c) (kept w (slice_index_or w.subtypes of [])) in
    ap (λ ms. ms ++ later') own ∙ append_assoc into first later'
    ∙ ap (λ ms. into ++ (first ++ ms)) (below ∙ ap (λ k. (between k ++ last) ++ later) one)
    ∙ ap (λ ms. into ++ ms) (sym (append_assoc first (between n ++ last) later) ∙ ap (λ ms. ms ++ later) (sym (append_assoc first (between n) last)))
    ∙ ap (λ s. into ++ (stage_members w of under s ++ later)) (sym is)
    ∙ ap (λ us. into ++ (stage_members w of us stage ++ later)) same

-- the topmost task is done
pub task_done : (w : Way) (into into' all : List Member) (tasks left tasks' : List Task) (task : Task) → tasks ≡ left ++ task ∷ [] → into ++ pending w tasks ≡ all →
    into' ++ pending w tasks' ≡ into ++ (task_members w task ++ pending w left) → into' ++ pending w tasks' ≡ all
task_done w into into' all tasks left tasks' task split so_far done = done ∙ ap (λ ms. into ++ ms) (sym (pending_more w left task) ∙ ap (pending w) (sym split)) ∙ so_far

-- no task is left
pub none_left : (w : Way) (into all : List Member) (tasks : List Task) → tasks ≡ [] → into ++ pending w tasks ≡ all → into ≡ all
none_left w into all tasks empty so_far = sym (append-nil into) ∙ ap (λ ts. into ++ pending w ts) (sym empty) ∙ so_far
