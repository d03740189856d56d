-- The declarations of the files from a number on.
use Rattle.std.proofs.Common.{◌≡◌, ◌∙◌, sym, ap, ℕ, ◌+◌, ◌<◌, ◌≤◌, ◌⊎◌, inl, inr, List, ◌∷◌, ◌++◌, Some, None, map, drop, get_or, length, option_map, slice_get, arith}
use Rattle.std.proofs.lemmas.Option.{slice_get_cases}
use Rattle.std.proofs.lemmas.List.{drop_more, drop_all, append_assoc}
use Rattle.name_scope.specs.dsl_tree.declared.file.File.{File}
use Rattle.name_scope.specs.dsl_tree.Views.{file_tree, declaration_tree}
use Rattle.name_scope.specs.FileNumbers.{AddedFile}
use Rattle.type_heads.specs.DeclaredTypes.{Placed, placed_in, placed_from}
use Rattle.type_heads.specs.Placing.{placed_after}

same_file : (x : AddedFile) (f : File) → Some f ≡ Some x.file → f ≡ x.file
same_file x f is = cc

pub in_file : (files : List AddedFile) (n : ℕ) (f : File) → Some f ≡ option_map (λ f. f.file) (slice_get files n) →
    placed_after n files ≡ placed_in n 0 (map declaration_tree f.decls) ++ placed_after (n + 1) files
in_file files n f is = by (slice_get_cases files n).1
  where
    by : ((x : AddedFile) × (n < length files) × (slice_get files n ≡ Some x) × (get_or files n x ≡ x)) ⊎ ((length files ≤ n) × (slice_get files n ≡ None)) →
        placed_after n files ≡ placed_in n 0 (map declaration_tree f.decls) ++ placed_after (n + 1) files
    by (inl (x, less, stands, at)) =
        let same : f ≡ x.file = same_file x f (is ∙ ap (option_map (λ (f : AddedFile). f.file)) stands) in
        let split : drop n files ≡ x ∷ drop (n + 1) files = drop_more files n x less ∙ ap (λ y. y ∷ drop (n + 1) files) at in
        ap (λ fs. placed_from n (map (λ (f : AddedFile). file_tree f.file) fs)) split
        ∙ ap (λ (g : File). placed_in n 0 (map declaration_tree g.decls) ++ placed_after (n + 1) files) (sym same)
    by (inr (past, stands)) = absurd (let e : Some f ≡ None = is ∙ ap (option_map (λ (f : AddedFile). f.file)) stands in cc)

pub beyond : (files : List AddedFile) (n : ℕ) → None ≡ option_map (λ f. f.file) (slice_get files n) → placed_after n files ≡ placed_after (n + 1) files
beyond files n is = by (slice_get_cases files n).1
  where
    by : ((x : AddedFile) × (n < length files) × (slice_get files n ≡ Some x) × (get_or files n x ≡ x)) ⊎ ((length files ≤ n) × (slice_get files n ≡ None)) →
        placed_after n files ≡ placed_after (n + 1) files
    by (inl (x, less, stands, at)) = absurd (let e : None ≡ Some x.file = is ∙ ap (option_map (λ (f : AddedFile). f.file)) stands in cc)
    by (inr (past, stands)) =
        let more : length files ≤ n + 1 = omega arith in
        ap (λ fs. placed_from n (map (λ (f : AddedFile). file_tree f.file) fs)) (drop_all n files past)
        ∙ sym (ap (λ fs. placed_from (n + 1) (map (λ (f : AddedFile). file_tree f.file) fs)) (drop_all (n + 1) files more))

pub more_file : (new old here after now : List Placed) → new ≡ old ++ here → now ≡ here ++ after → new ++ after ≡ old ++ now
more_file new old here after now is split = ap (λ xs. xs ++ after) is ∙ append_assoc old here after ∙ ap (λ xs. old ++ xs) (sym split)
