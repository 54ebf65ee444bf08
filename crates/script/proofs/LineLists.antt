-- Lists of lines, one of which grows.
use Rattle.std.proofs.Common.{◌≡◌, ℕ, ◌+◌, ◌<◌, List, [], ◌∷◌, ◌++◌, length, get_or, sym, ◌∙◌, ap, replicate}
use Rattle.std.specs.Prelude.{slice_set}
use Rattle.std.proofs.lemmas.List.{map-set, get_or-map, map_push, replicate_more}
use Rattle.std.proofs.Math.Seq.{map-set_same}
use Rattle.script_lines.specs.declared.line.Line.{Line}
use Rattle.script_lines.specs.declared.lists.LineList.{LineList}
use Rattle.script_lines.specs.Views.{lists_of}
use Rattle.script_lines.specs.Lines.{script_of}

-- one line more in one list
pub pushed : {A : Type 0} (items : List (LineList A)) (p : ℕ) (old new : LineList A) (line : Line) → p < length items → old ≡ get_or items p old →
    new.lines.items ≡ old.lines.items ++ line ∷ [] → lists_of (slice_set items p new) ≡ slice_set (lists_of items) p (script_of (lists_of items) p ++ line ∷ [])
pushed items p old new line low is grown =
    map-set (λ list. list.lines.items) items p new
    ∙ ap (slice_set (lists_of items) p)
    (grown ∙ ap (λ ls. ls ++ line ∷ []) (sym (get_or-map (λ list. list.lines.items) items p old [] low ∙ ap (λ list. list.lines.items) (sym is))))

-- one list as it was
pub kept : {A : Type 0} (items : List (LineList A)) (p : ℕ) (old new : LineList A) → old ≡ get_or items p old →
    new.lines.items ≡ old.lines.items → lists_of (slice_set items p new) ≡ lists_of items
kept items p old new is same =
    map-set_same (λ list. list.lines.items) items p new old (same ∙ ap (λ list. list.lines.items) is)

-- one more empty list
pub one_more_empty : {A : Type 0} (items new : List (LineList A)) (n : ℕ) (list : LineList A) → new ≡ items ++ list ∷ [] → list.lines.items ≡ [] →
    lists_of items ≡ replicate n [] → lists_of new ≡ replicate (n + 1) []
one_more_empty items new n list grown empty so_far =
    ap lists_of grown ∙ map_push (λ list. list.lines.items) items list ∙ ap (λ ls. ls ++ list.lines.items ∷ []) so_far
    ∙ ap (λ l. replicate n [] ++ l ∷ []) empty ∙ replicate_more n []
