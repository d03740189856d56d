-- Going through the rows of headings, declaration after declaration and file after file.
use Rattle.std.proofs.Common.{◌≡◌, ◌∙◌, sym, ap, ℕ, ◌+◌, ◌<◌, List, [], ◌∷◌, ◌++◌, Option, take, drop, length, get_or, append_assoc, append-nil, subst}
use Rattle.std.proofs.lemmas.List.{take_more, drop_more}
use Rattle.std.proofs.lemmas.List.Concat.{flat_map-append}
use Rattle.dsl_tree.specs.osc_base.declared.fault.Fault.{Fault}
use Rattle.dsl_tree.specs.declared.file.Declaration.{Declaration}
use Rattle.name_scope.specs.FileNumbers.{AddedFile}
use Rattle.name_scope.specs.Declaring.{declared_name}
use Rattle.dsl_tree.specs.osc_base.FaultRows.{FaultRow, first_from}
use Rattle.name_scope.specs.Headings.{declarations, twice_rows, reference_rows, rows_behind}
use Rattle.dsl_tree.proofs.of_osc_base.FaultRows.{first_from_joined}

pub three : (first : Option Fault) (rs ss ts : List FaultRow) → first_from (first_from (first_from first rs) ss) ts ≡ first_from first (rs ++ ss ++ ts)
three first rs ss ts = ap (λ f. first_from f ts) (sym (first_from_joined first rs ss)) ∙ sym (first_from_joined first (rs ++ ss) ts)

-- one declaration more
pub next_declaration : (all files ds items : List Declaration) (i n : ℕ) (d : Declaration) (found found' goal : Option Fault) →
    items ≡ ds → i < length items → n ≡ i → d ≡ get_or items i d →
    found' ≡ first_from found (twice_rows (files ++ take n ds) (declared_name d) ++ reference_rows all d) →
    goal ≡ first_from found (rows_behind all (files ++ take n ds) (drop n ds)) →
    goal ≡ first_from found' (rows_behind all (files ++ take (n + 1) ds) (drop (n + 1) ds))
next_declaration all files ds items i n d found found' goal same less count is more rest =
    let less' : n < length ds = subst (λ k. k < length ds) (sym count) (subst (λ xs. i < length xs) same less) in
    let here : get_or ds n d ≡ d = ap (λ k. get_or ds k d) count ∙ ap (λ xs. get_or xs i d) (sym same) ∙ sym is in
    let first : drop n ds ≡ d ∷ drop (n + 1) ds = drop_more ds n d less' ∙ ap (λ x. x ∷ drop (n + 1) ds) here in
    let front : (files ++ take n ds) ++ d ∷ [] ≡ files ++ take (n + 1) ds
    = append_assoc files (take n ds) (d ∷ []) ∙ ap (λ x. files ++ (take n ds ++ x ∷ [])) (sym here) ∙ ap (λ xs. files ++ xs) (sym (take_more ds n d less')) in
    let now : List FaultRow = twice_rows (files ++ take n ds) (declared_name d) ++ reference_rows all d in
    rest
    ∙ ap (λ xs. first_from found (rows_behind all (files ++ take n ds) xs)) first
    ∙ ap (λ e. first_from found (now ++ rows_behind all e (drop (n + 1) ds))) front
    ∙ first_from_joined found now (rows_behind all (files ++ take (n + 1) ds) (drop (n + 1) ds))
    ∙ ap (λ f. first_from f (rows_behind all (files ++ take (n + 1) ds) (drop (n + 1) ds))) (sym more)

rows_joined : (all earlier xs ys : List Declaration) → rows_behind all earlier (xs ++ ys) ≡ rows_behind all earlier xs ++ rows_behind all (earlier ++ xs) ys
rows_joined all earlier [] ys = ap (λ e. rows_behind all e ys) (sym (append-nil earlier))
rows_joined all earlier (x ∷ xs) ys =
    let now : List FaultRow = twice_rows earlier (declared_name x) ++ reference_rows all x in
    ap (λ rs. now ++ rs) (rows_joined all (earlier ++ x ∷ []) xs ys)
    ∙ sym (append_assoc now (rows_behind all (earlier ++ x ∷ []) xs) (rows_behind all ((earlier ++ x ∷ []) ++ xs) ys))
    ∙ ap (λ e. (now ++ rows_behind all (earlier ++ x ∷ []) xs) ++ rows_behind all e ys) (append_assoc earlier (x ∷ []) xs)

-- one file more
pub next_file : (all : List Declaration) (fs : List AddedFile) (n : ℕ) (f : AddedFile) (found found' goal : Option Fault) →
    n < length fs → f ≡ get_or fs n f →
    found' ≡ first_from found (rows_behind all (declarations (take n fs)) f.file.decls) →
    goal ≡ first_from found (rows_behind all (declarations (take n fs)) (declarations (drop n fs))) →
    goal ≡ first_from found' (rows_behind all (declarations (take (n + 1) fs)) (declarations (drop (n + 1) fs)))
next_file all fs n f found found' goal less is more rest =
    let first : declarations (drop n fs) ≡ f.file.decls ++ declarations (drop (n + 1) fs)
    = ap declarations (drop_more fs n f less) ∙ ap (λ g. g.file.decls ++ declarations (drop (n + 1) fs)) (sym is) in
    let front : declarations (take n fs) ++ f.file.decls ≡ declarations (take (n + 1) fs)
    = ap (λ ds. declarations (take n fs) ++ ds) (sym (append-nil f.file.decls))
    ∙ ap (λ g. declarations (take n fs) ++ declarations (g ∷ [])) is
    ∙ sym (flat_map-append (λ g. g.file.decls) (take n fs) (get_or fs n f ∷ []))
    ∙ ap declarations (sym (take_more fs n f less)) in
    let now : List FaultRow = rows_behind all (declarations (take n fs)) f.file.decls in
    rest
    ∙ ap (λ ds. first_from found (rows_behind all (declarations (take n fs)) ds)) first
    ∙ ap (first_from found) (rows_joined all (declarations (take n fs)) f.file.decls (declarations (drop (n + 1) fs)))
    ∙ ap (λ e. first_from found (now ++ rows_behind all e (declarations (drop (n + 1) fs)))) front
    ∙ first_from_joined found now (rows_behind all (declarations (take (n + 1) fs)) (declarations (drop (n + 1) fs)))
    ∙ ap (λ o. first_from o (rows_behind all (declarations (take (n + 1) fs)) (declarations (drop (n + 1) fs)))) (sym more)
