-- The bounds of scripts, with those of one more.
use Rattle.std.proofs.Common.{◌≡◌, ℕ, ◌+◌, ◌<◌, ◌++◌, List, [], ◌∷◌, get_or, length, take, ap, ◌∙◌, arith, append-nil}
use Rattle.std.proofs.lemmas.List.{length-map, take_more}
use Rattle.std.proofs.lemmas.List.Concat.{flat_map-append}
use Rattle.script_lines.specs.declared.line.Line.{Line}
use Rattle.script_lines.specs.declared.lists.LineList.{LineList}
use Rattle.script_lines.specs.Views.{lists_of}
use Rattle.order_book.proofs.Counts.{lines_at}
use Rattle.command_schedule.specs.Answers.{bound_of, bounds_of}
use Rattle.command_schedule.specs.declared.answer_count.Bounds.{Bounds}

pub bounds_more : {A : Type 0} (items : List (LineList A)) (i : ℕ) (x : LineList A) → i < length items → x ≡ get_or items i x
    → bounds_of (take (i + 1) (lists_of items)) ≡ bounds_of (take i (lists_of items)) ++ bound_of x.lines.items
bounds_more items i x h is =
    ap bounds_of (take_more (lists_of items) i [] (let e = length-map items (λ list. list.lines.items) in omega arith))
    ∙ flat_map-append bound_of (take i (lists_of items)) (get_or (lists_of items) i [] ∷ [])
    ∙ ap (λ (ls : List Line). bounds_of (take i (lists_of items)) ++ (bound_of ls ++ [])) (lines_at items i x h is)
    ∙ ap (λ (bs : List Bounds). bounds_of (take i (lists_of items)) ++ bs) (append-nil (bound_of x.lines.items))
