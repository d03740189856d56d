-- What `parse` has of what is read of a file: the two halves of a first fault, its token, and the tree.
use Rattle.std.proofs.Common.{◌≡◌, ◌≢◌, ◌-◌, ◌<◌, ◌≤◌, ℕ, suc, List, [], ◌∷◌, ◌++◌, length, drop, get_or, sym, ◌∙◌, ap, subst, length-append, drop-cons, Ok, Err, arith}
use Rattle.dsl_cursor.specs.Words.{Stop, At, Memory, Token, Part, Parsed, PartFault, read}
use Rattle.dsl_parser.specs.Words.{Fault, File, FirstFault, file_tree, file, HasViableFront, HasDeadToken}
use Rattle.dsl_cursor.proofs.ReadSteps.{read_parsed, read_fault}

pub viable_half : (ts : List Token) (fault : Fault) → FirstFault ts fault → HasViableFront ts fault
viable_half ts fault f = record { front = f.front; token = f.token; back = f.back; split = f.split; place = f.place; code = f.code; viable = f.viable }

pub dead_half : (ts : List Token) (fault : Fault) → FirstFault ts fault → HasDeadToken ts fault
dead_half ts fault f = record { front = f.front; token = f.token; back = f.back; split = f.split; place = f.place; code = f.code; dead = f.dead }

-- the fault is at one of the tokens
pub left_some : (p : Part) (ts : List Token) (left : ℕ) → PartFault p ts left → 0 < left
left_some p ts left fault = let e : left ≡ length (fault.token ∷ fault.back) = fault.count in omega arith

pub left_within : (p : Part) (ts : List Token) (left : ℕ) → PartFault p ts left → left ≤ length ts
left_within p ts left fault =
    let e : left ≡ length (fault.token ∷ fault.back) = fault.count in
    let f : length ts ≡ length (fault.front ++ fault.token ∷ fault.back) = ap length fault.split in
    omega (arith, e, f, length-append fault.front (fault.token ∷ fault.back))

pub token_at : (ts : List Token) (left : ℕ) (t : Token) → PartFault Part.File ts left → t ≡ get_or ts (length ts - left) t
    → drop (length ts - left) ts ≡ t ∷ drop (suc (length ts - left)) ts
token_at ts left t fault e =
    let some : 0 < left = left_some Part.File ts left fault in
    let within : left ≤ length ts = left_within Part.File ts left fault in
    let there : length ts - left < length ts = omega (arith, some, within) in
    drop-cons ts (length ts - left) t there ∙ ap (λ (v : Token). v ∷ drop (suc (length ts - left)) ts) (sym e)

-- What was read

some_stop : (left : ℕ) (e : Stop ℕ) → e ≡ At left → e ≢ Memory
some_stop left e is h = cc

pub file_fault : (ts us : List Token) (left : ℕ) (e : Stop ℕ) → us ≡ ts → e ≡ At left → (e ≢ Memory → read Part.File us ≡ Err e) → PartFault Part.File ts left
file_fault ts us left e same is h =
    subst (λ (v : List Token). PartFault Part.File v left) same
    (read_fault Part.File us left (subst (λ (x : Stop ℕ). read Part.File us ≡ Err x) is (h (some_stop left e is))))

pub file_parsed : (f : File) (ts us : List Token) → us ≡ ts → read Part.File us ≡ Ok (file (file_tree f), []) → Parsed Part.File (file (file_tree f)) ts []
file_parsed f ts us same h = subst (λ (v : List Token). Parsed Part.File (file (file_tree f)) v []) same (read_parsed Part.File us (file (file_tree f)) [] h)
