-- Parts of a log: rows and texts that grow in a loop, and what models see of a part.
use Rattle.std.proofs.Common.{◌≡◌, ◌<◌, ◌+◌, ℕ, Bool, true, false, cond, List, [], ◌∷◌, ◌++◌, length, take, filter, get_or, sym, ◌∙◌, ap, subst}
use Rattle.std.specs.Prelude.{slice_set}
use Rattle.std.specs.List.{flat_map}
use Rattle.std.proofs.Math.Seq.{set-append_seam}
use Rattle.std.proofs.lemmas.List.{append_assoc, flat_map_more, get_or_push, take_more}
use Rattle.std.proofs.lemmas.List.Elements.{filter_more}
use Rattle.model_text.specs.Made.{LogLines}
use Rattle.model_text.specs.Rows.{numbers_of_row, with_row_number}
use Rattle.model_answer.specs.declared.model.AskedModel.{AskedModel}
use Rattle.model_answer.specs.declared.model.AskedModel.TheVariants.{Rules, Rvwmo}
use Rattle.model_answer.specs.Parts.{IsExplainedBy, seen_by_models}
use Rattle.model_answer.proofs.Grown.{nothing_more, three_more}

-- one number more in the last row
row_more : (base : List (List ℕ)) (xs : List ℕ) (k n : ℕ) → k ≡ length base
    → with_row_number (base ++ xs ∷ []) k n ≡ base ++ (xs ++ n ∷ []) ∷ []
row_more base xs k n e =
    let at : numbers_of_row (base ++ xs ∷ []) k ≡ xs = get_or_push base xs [] k (sym e) in
    ap (λ (ys : List ℕ). slice_set (base ++ xs ∷ []) k (ys ++ n ∷ [])) at
    ∙ (ap (λ (i : ℕ). slice_set (base ++ xs ∷ []) i (xs ++ n ∷ [])) e ∙ set-append_seam base xs [] (xs ++ n ∷ []))

-- a row that goes on with the next number, which is kept, or without it
pub row_kept : (f : ℕ → Bool) (numbers : List ℕ) (i : ℕ) (base rows new : List (List ℕ)) (k : ℕ) → k ≡ length base → i < length numbers
    → f (get_or numbers i 0) ≡ true → rows ≡ base ++ filter f (take i numbers) ∷ [] → new ≡ with_row_number rows k (get_or numbers i 0)
    → new ≡ base ++ filter f (take (i + 1) numbers) ∷ []
row_kept f numbers i base rows new k e low is so_far grown =
    let n = get_or numbers i 0 in
    let more : filter f (take (i + 1) numbers) ≡ filter f (take i numbers) ++ n ∷ [] =
    filter_more f numbers i 0 low ∙ ap (λ (b : Bool). filter f (take i numbers) ++ cond b (n ∷ []) []) is in
    grown ∙ (ap (λ (r : List (List ℕ)). with_row_number r k n) so_far
    ∙ (row_more base (filter f (take i numbers)) k n e ∙ ap (λ (xs : List ℕ). base ++ xs ∷ []) (sym more)))

pub row_left : (f : ℕ → Bool) (numbers : List ℕ) (i : ℕ) (base rows new : List (List ℕ)) → i < length numbers
    → f (get_or numbers i 0) ≡ false → rows ≡ base ++ filter f (take i numbers) ∷ [] → new ≡ rows
    → new ≡ base ++ filter f (take (i + 1) numbers) ∷ []
row_left f numbers i base rows new low is so_far same =
    let n = get_or numbers i 0 in
    let more : filter f (take (i + 1) numbers) ≡ filter f (take i numbers) =
    filter_more f numbers i 0 low ∙ (ap (λ (b : Bool). filter f (take i numbers) ++ cond b (n ∷ []) []) is ∙ nothing_more (filter f (take i numbers))) in
    same ∙ (so_far ∙ ap (λ (xs : List ℕ). base ++ xs ∷ []) (sym more))

-- one item's lines more
pub taken_more : {X : Type 0} (f : X → List ℕ) (xs : List X) (i : ℕ) (d : X) (base text new : List ℕ) → i < length xs
    → new ≡ text ++ f (get_or xs i d) → text ≡ base ++ flat_map f (take i xs) → new ≡ base ++ flat_map f (take (i + 1) xs)
taken_more f xs i d base text new low grown so_far =
    grown ∙ (ap (λ t. t ++ f (get_or xs i d)) so_far
    ∙ (flat_map_more f base (take i xs) (get_or xs i d) ∙ ap (λ ys. base ++ flat_map f ys) (sym (take_more xs i d low))))

-- models see all of a log that they ask for
seen_there : (log : LogLines) (model : AskedModel) → IsExplainedBy (seen_by_models log) model → IsExplainedBy log model
seen_there log (Rules model) h = h
seen_there log Rvwmo h = h

seen_back : (log : LogLines) (model : AskedModel) → IsExplainedBy log model → IsExplainedBy (seen_by_models log) model
seen_back log (Rules model) h = h
seen_back log Rvwmo h = h

pub whole_explained : (part log : LogLines) (model : AskedModel) → part ≡ seen_by_models log → IsExplainedBy part model → IsExplainedBy log model
whole_explained part log model e h = seen_there log model (subst (λ (l : LogLines). IsExplainedBy l model) e h)

pub part_explained : (part log : LogLines) (model : AskedModel) → part ≡ seen_by_models log → IsExplainedBy log model → IsExplainedBy part model
part_explained part log model e h = subst (λ (l : LogLines). IsExplainedBy l model) (sym e) (seen_back log model h)

-- five parts more
pub five_more : (base a b d e f one two three four five : List ℕ) → one ≡ base ++ a → two ≡ one ++ b → three ≡ two ++ d → four ≡ three ++ e
    → five ≡ four ++ f → five ≡ base ++ (a ++ (b ++ (d ++ (e ++ f))))
five_more base a b d e f one two three four five p q r s t =
    let front : three ≡ base ++ (a ++ (b ++ d)) = three_more base a b d one two three p q r in
    let all : five ≡ base ++ ((a ++ (b ++ d)) ++ (e ++ f)) = three_more base (a ++ (b ++ d)) e f three four five front s t in
    all ∙ simp append_assoc
